-- `cap::look_parts` meets its contract.
use native.Mathlib.Omega.{arith}
use Rattle.cap.proofs.Siblings.{held_le, edges_asked, part_asks}
use Rattle.cap.proofs.look_parts.Goals as goal

pub asks_edges-requires : goal.asks_edges-requires
asks_edges-requires c = let h = c.requires.a_value in (held_le _ _ _ h.0, held_le _ _ _ h.1, held_le _ _ _ h.2, held_le _ _ _ h.3)

pub look_quarter-requires : goal.look_quarter-requires
look_quarter-requires c =
    let z = c.requires in
    let e = c.can_reach-beyond.ensures in
    let r = part_asks _ _ _ _ _ _ _ _ _ _ 0 _ (omega arith) c.can_reach-near.ensures (rw c.complement.ensures at e) z.face_bound.0 z.face_bound.1 z.a_value.0 (edges_asked _ _ _ _ _ _ _ c.asks_edges.ensures).0 c.scaled_if-s.ensures c.quarter-k.ensures c.quarter.ensures c.square.ensures in record { near_value = r.0; face_bound = r.1 }

pub look_quarter-requires-2 : goal.look_quarter-requires-2
look_quarter-requires-2 c =
    let z = c.requires in
    let e = c.can_reach-beyond.ensures in
    let r = part_asks _ _ _ _ _ _ _ _ _ _ 1 _ (omega arith) c.can_reach-near.ensures (rw c.complement.ensures at e) z.face_bound.0 z.face_bound.1 z.a_value.1 (edges_asked _ _ _ _ _ _ _ c.asks_edges.ensures).1 c.scaled_if-s.ensures c.quarter-l.ensures c.quarter-2.ensures c.square-2.ensures in record { near_value = r.0; face_bound = r.1 }

pub look_quarter-requires-3 : goal.look_quarter-requires-3
look_quarter-requires-3 c =
    let z = c.requires in
    let e = c.can_reach-beyond.ensures in
    let r = part_asks _ _ _ _ _ _ _ _ _ _ 2 _ (omega arith) c.can_reach-near.ensures (rw c.complement.ensures at e) z.face_bound.0 z.face_bound.1 z.a_value.2 (edges_asked _ _ _ _ _ _ _ c.asks_edges.ensures).2 c.scaled_if-s.ensures c.quarter-m.ensures c.quarter-3.ensures c.square-3.ensures in record { near_value = r.0; face_bound = r.1 }

pub look_quarter-requires-4 : goal.look_quarter-requires-4
look_quarter-requires-4 c =
    let z = c.requires in
    let e = c.can_reach-beyond.ensures in
    let r = part_asks _ _ _ _ _ _ _ _ _ _ 3 _ (omega arith) c.can_reach-near.ensures (rw c.complement.ensures at e) z.face_bound.0 z.face_bound.1 z.a_value.3 (edges_asked _ _ _ _ _ _ _ c.asks_edges.ensures).3 c.scaled_if-s.ensures c.quarter-n.ensures c.quarter-4.ensures c.square-4.ensures in record { near_value = r.0; face_bound = r.1 }

pub returns : goal.returns
returns c =
    rw (
      ← c.quarter.ensures,
      ← c.look_quarter.ensures,
      ← c.quarter-2.ensures,
      ← c.look_quarter-2.ensures,
      ← c.quarter-3.ensures,
      ← c.look_quarter-3.ensures,
      ← c.quarter-4.ensures,
      ← c.look_quarter-4.ensures,
    )
    c.four.ensures
