-- `cap::look_corners` meets its contract: a corner that isn't where the first one is decides, else the edges.
use mathlib.Core.Path.{sym, ◌∙◌}
use native.Mathlib.Omega.{arith}
use Rattle.cellid.proofs.Laws.{same_bool}
use Rattle.cell.specs.Cell.{vertices_of}
use Rattle.cap.proofs.Laws.{at_corner_lem}
use Rattle.cap.proofs.Looks.{differing, edges_decide}
use borrow.Author.Tests.{not-false}
use Rattle.cap.proofs.look_corners.Goals as goal

pub returns-then-contains_point-all : goal.returns-then-contains_point-all
returns-then-contains_point-all c =
    let z = c.requires in
    differing _ _ 1 _ _ (omega arith) (at_corner_lem _ _ 0 _ _ z.1 z.2) (at_corner_lem _ _ 1 _ _ c.vertex-b.ensures c.contains_point.ensures) c.if-contains_point-all.true

pub returns-then-contains_point-all-2 : goal.returns-then-contains_point-all-2
returns-then-contains_point-all-2 c =
    let z = c.requires in
    differing _ _ 2 _ _ (omega arith) (at_corner_lem _ _ 0 _ _ z.1 z.2) (at_corner_lem _ _ 2 _ _ c.vertex-d.ensures c.contains_point-2.ensures) c.if-contains_point-all-2.true

pub returns-then-contains_point-all-3 : goal.returns-then-contains_point-all-3
returns-then-contains_point-all-3 c =
    let z = c.requires in
    differing _ _ 3 _ _ (omega arith) (at_corner_lem _ _ 0 _ _ z.1 z.2) (at_corner_lem _ _ 3 _ _ c.vertex-e.ensures c.contains_point-3.ensures) c.if-contains_point-all-3.true

pub look_edges-requires : goal.look_edges-requires
unfolding vertices_of
look_edges-requires c =
    let z = c.requires in
    (z.0, rw (z.1, c.vertex-b.ensures, c.vertex-d.ensures, c.vertex-e.ensures))

pub returns : goal.returns
returns c =
    let z = c.requires in
    c.look_edges.ensures
    ∙ sym (edges_decide _ _ _ (at_corner_lem _ _ 0 _ _ z.1 z.2)
    (at_corner_lem _ _ 1 _ _ c.vertex-b.ensures c.contains_point.ensures ∙ same_bool _ _ (not-false _ c.if-contains_point-all.false))
    (at_corner_lem _ _ 2 _ _ c.vertex-d.ensures c.contains_point-2.ensures ∙ same_bool _ _ (not-false _ c.if-contains_point-all-2.false))
    (at_corner_lem _ _ 3 _ _ c.vertex-e.ensures c.contains_point-3.ensures ∙ same_bool _ _ (not-false _ c.if-contains_point-all-3.false)))
