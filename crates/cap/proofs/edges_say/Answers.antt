use Rattle.cap.specs.Cap.{edges_say}
use mathlib.Core.Path.{◌≡◌, sym, ◌∙◌}
use native.Mathlib.Omega.{arith}
use Rattle.cap.proofs.Laws.{edge_step}
use Rattle.cap.proofs.edges_say.Goals as goal

pub returns-in-Some : goal.returns-in-Some
returns-in-Some c = sym (c.loop-k.invariant ∙ rw c.in-Some.is at (edge_step _ _ _ _ _ _ _ _ c.loop-k-test.true c.requires.vertices_value c.edge-edge.ensures c.edge_says-says.ensures))

pub loop-k-preserved : goal.loop-k-preserved
loop-k-preserved c = c.loop-k.invariant ∙ rw c.in_default.is at (edge_step _ _ _ _ _ _ _ _ c.loop-k-test.true c.requires.vertices_value c.edge-edge.ensures c.edge_says-says.ensures)

pub returns : goal.returns
unfolding edges_say
returns c = let e : c.loop-k.k ≡ 4 = omega arith in sym (c.loop-k.invariant ∙ rw (e, edges_say))
