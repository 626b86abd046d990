-- The turns of the sweep: what the next cell of each list tells of its leaves, and the answer written stretch by stretch.
use mathlib.Core.Path.{◌≡◌, refl, sym, ap, ap₂, ◌∙◌, subst}
use mathlib.Core.Logic.{inr, ⊎_elim}
use mathlib.Core.Bool.{Bool, true, false}
use mathlib.Core.List.{List, [], ◌∷◌, ◌++◌}
use Prim.Native.Nat.{ℕ, ◌+◌, ◌≤◌, ◌<◌, min}
use native.Mathlib.Omega.{arith}
use lib.ListN.{length, get_or, drop}
use lib.Seq.{sets, length-sets, drop-drop}
use lib.Dec.{leb, ltb}
use borrow.Author.Tests.{leb-true, leb-false, le-leb, lt-leb, ltb-true, ltb-false, lt-ltb, le-ltb}
use Rattle.cellid.specs.CellId.{Cell}
use Rattle.order.specs.Order.{All}
use Rattle.order.proofs.OrderLaws.{which}
use Rattle.cellunion.specs.CellUnion.{lo, hi, covers, Apart, is_list}
use Rattle.cellunion.proofs.Spans.{span}
use Rattle.cellunion.proofs.Counts.{hi_le}
use Rattle.cellunion.proofs.Unique.{all_at, at_all}
use Rattle.ranges.specs.Ranges.{leaves, tile}
use Rattle.ranges.specs.Stretches.{stretches}
use Rattle.ranges.proofs.Tiles.{clash, tile_nil, tiled}
use Rattle.ranges.proofs.Stretches.{rest, skip_yes, skip_no, rest_end, rest_same}
use Rattle.cellunion.proofs.Lists.{is_list_lem, covers_nil, head_in, head_out, apart_from, before_first}
use Rattle.cellid.proofs.Puts.{next_of, none_left, Put, put_part, put_last}
use Rattle.sets.specs.declared.Cursor.{Cursor}
use Rattle.sets.specs.declared.Op.{Op}
use Rattle.sets.specs.Sets.{wants, wanted, combined}
use Rattle.sets.specs.Steps.{begun, edge, cursor_at, next_place, moved_to, done_with, open_from}

-- ---- one list: the cells to come, which all end after p

pub record Ahead (l : List ℕ) (p : ℕ) : Type 0 where
  pub cells : All Cell l
  pub apart : Apart l
  pub after : All (λ y. p < hi y) l

pub ahead_start : (l : List ℕ) → is_list l ≡ true → Ahead l 0
ahead_start l t =
    let T = (is_list_lem l).0 t in
    record { cells = T.0; apart = T.1; after = at_all (λ y. 0 < hi y) l (λ y m. let s = span (all_at Cell l T.0 y m) in omega arith) }

-- the list has the leaf p if its next cell has begun
ahead_begun : (l : List ℕ) (p : ℕ) → Ahead l p → begun l p ≡ covers l p
unfolding begun All
ahead_begun [] p A = sym (covers_nil p)
ahead_begun (x ∷ l) p A = ⊎_elim
    (λ (t : leb (lo x) p ≡ true). t ∙ sym (head_in x l p A.cells.0 (leb-true _ _ t) A.after.0))
    (λ (t : leb (lo x) p ≡ false). t ∙ sym (before_first x l p A.cells A.apart (leb-false _ _ t)))
    (which (leb (lo x) p))

-- from p to before its edge it has all leaves or none
record Edge (l : List ℕ) (p q : ℕ) : Type 0 where
  on : p < q
  world : q ≤ leaves
  same : (n : ℕ) → p ≤ n → n < q → covers l n ≡ covers l p

edge_begun : (x : ℕ) (l : List ℕ) (p : ℕ) → leb (lo x) p ≡ true → edge (x ∷ l) p ≡ hi x
unfolding edge
edge_begun x l p t = rw (edge, t)

edge_ahead : (x : ℕ) (l : List ℕ) (p : ℕ) → leb (lo x) p ≡ false → edge (x ∷ l) p ≡ lo x
unfolding edge
edge_ahead x l p t = rw (edge, t)

ahead_edge : (l : List ℕ) (p : ℕ) → Ahead l p → p < leaves → Edge l p (edge l p)
unfolding edge All
ahead_edge [] p A h = record { on = h; world = omega arith; same = λ n a b. covers_nil n ∙ sym (covers_nil p) }
ahead_edge (x ∷ l) p A h =
    let C = A.cells.0 in
    let top = hi_le C in
    ⊎_elim
    (λ (t : leb (lo x) p ≡ true).
    let g : lo x ≤ p = leb-true _ _ t in
    subst (Edge (x ∷ l) p) (sym (edge_begun x l p t)) (record { on = A.after.0; world = top; same = λ n a b. head_in x l n C (omega arith) b ∙ sym (head_in x l p C g A.after.0) }))
    (λ (t : leb (lo x) p ≡ false).
    let g : p < lo x = leb-false _ _ t in
    let s = span C in
    subst (Edge (x ∷ l) p) (sym (edge_ahead x l p t)) (record { on = g; world = omega arith; same = λ n a b. before_first x l n A.cells A.apart b ∙ sym (before_first x l p A.cells A.apart g) }))
    (which (leb (lo x) p))

-- those behind a cell all end after it
behind : (x : ℕ) (l : List ℕ) (q : ℕ) → All Cell (x ∷ l) → Apart (x ∷ l) → q ≤ hi x → All (λ y. q < hi y) l
unfolding All
behind x l q C A h = at_all (λ y. q < hi y) l (λ y m.
    let w : hi x ≤ lo y = all_at (λ y. hi x ≤ lo y) l (apart_from x l C A) y m in
    let s = span (all_at Cell l C.1 y m) in omega arith)

-- so they are still to come at any leaf before the first of them has ended
ahead_at : (x : ℕ) (l : List ℕ) (p q : ℕ) → Ahead (x ∷ l) p → q < hi x → Ahead (x ∷ l) q
unfolding All
ahead_at x l p q A h = record { cells = A.cells; apart = A.apart; after = (h, behind x l q A.cells A.apart (omega arith)) }

none_ahead : (p : ℕ) → Ahead [] p
unfolding All Apart
none_ahead p = record { cells = tt; apart = tt; after = tt }

-- ---- where a list stands at p

pub record Stands (l : List ℕ) (c : Cursor) (p : ℕ) : Type 0 where
  pub ahead : Ahead (drop c.at l) p
  pub edge_is : c.edge ≡ edge (drop c.at l) p
  pub inside_is : c.inside ≡ begun (drop c.at l) p
  pub within : c.at ≤ length l

pub stands_start : (l : List ℕ) (c : Cursor) → is_list l ≡ true → c ≡ cursor_at l 0 0 → Stands l c 0
unfolding cursor_at
stands_start l c t e = rw e (record { ahead = ahead_start l t; edge_is = refl; inside_is = refl; within = omega arith })

-- and at q: the cells that are still to come have the same leaves from there on
record Moved (l : List ℕ) (c d : Cursor) (q : ℕ) : Type 0 where
  stands : Stands l d q
  same : (n : ℕ) → q ≤ n → covers (drop c.at l) n ≡ covers (drop d.at l) n

-- before the edge nothing changes
before_edge : (l : List ℕ) (p q : ℕ) → Ahead l p → p ≤ q → q < edge l p → Ahead l q × (edge l p ≡ edge l q) × (begun l p ≡ begun l q)
unfolding edge begun All
before_edge [] p q A h g = (none_ahead q, refl, refl)
before_edge (x ∷ l) p q A h g = ⊎_elim
    (λ (t : leb (lo x) p ≡ true).
    let u : leb (lo x) q ≡ true = le-leb (lo x) q (omega (arith, leb-true (lo x) p t)) in
    (ahead_at x l p q A (omega (arith, edge_begun x l p t)), edge_begun x l p t ∙ sym (edge_begun x l q u), t ∙ sym u))
    (λ (t : leb (lo x) p ≡ false).
    let s = span A.cells.0 in
    let u : leb (lo x) q ≡ false = lt-leb (lo x) q (omega (arith, edge_ahead x l p t)) in
    (ahead_at x l p q A (omega (arith, edge_ahead x l p t)), edge_ahead x l p t ∙ sym (edge_ahead x l q u), t ∙ sym u))
    (which (leb (lo x) p))

-- at the edge a cell that had begun has ended ..
at_end : (x : ℕ) (l : List ℕ) (p q : ℕ) → Ahead (x ∷ l) p → begun (x ∷ l) p ≡ true → q ≡ edge (x ∷ l) p → Ahead l q × ((n : ℕ) → q ≤ n → covers (x ∷ l) n ≡ covers l n)
unfolding begun All Apart
at_end x l p q A t e =
    let g : q ≡ hi x = e ∙ edge_begun x l p t in
    (record { cells = A.cells.1; apart = A.apart.1; after = behind x l q A.cells A.apart (omega arith) }, λ n a. head_out x l n A.cells.0 (inr (omega arith)))

-- .. and else begins
at_begin : (l : List ℕ) (p q : ℕ) → Ahead l p → begun l p ≡ false → q ≡ edge l p → Ahead l q
unfolding begun All
at_begin [] p q A t e = none_ahead q
at_begin (x ∷ l) p q A t e = let s = span A.cells.0 in ahead_at x l p q A (omega (arith, edge_ahead x l p t))

begun_some : (l : List ℕ) (i p : ℕ) → begun (drop i l) p ≡ true → i < length l
unfolding begun
begun_some l i p t = ⊎_elim
    (λ (u : ltb i (length l) ≡ true). ltb-true _ _ u)
    (λ (u : ltb i (length l) ≡ false). clash (begun (drop i l) p) t (ap (λ (s : List ℕ). begun s p) (none_left l i (ltb-false _ _ u))))
    (which (ltb i (length l)))

-- what is moved to
module _ (l : List ℕ) (c : Cursor) (q : ℕ) where
  pub move_none : q < c.edge → c ≡ moved_to l c q
  unfolding moved_to
  move_none h = rw (moved_to, lt-ltb q c.edge h)

  pub move_past : c.edge ≤ q → c.inside ≡ true → cursor_at l (c.at + 1) q ≡ moved_to l c q
  unfolding moved_to next_place
  move_past h t = rw (moved_to, le-ltb q c.edge h, next_place, t)

  pub move_on : c.edge ≤ q → c.inside ≡ false → cursor_at l c.at q ≡ moved_to l c q
  unfolding moved_to next_place
  move_on h t = rw (moved_to, le-ltb q c.edge h, next_place, t)

module _ (l : List ℕ) (c : Cursor) (p q : ℕ) (S : Stands l c p) where
  moved_before : p ≤ q → q < c.edge → Moved l c c q
  moved_before h g =
      let r = before_edge (drop c.at l) p q S.ahead h (omega (arith, S.edge_is)) in
      record { stands = record { ahead = r.0; edge_is = S.edge_is ∙ r.1; inside_is = S.inside_is ∙ r.2; within = S.within }; same = λ n a. refl }

  moved_end : c.inside ≡ true → q ≡ c.edge → Moved l c (cursor_at l (c.at + 1) q) q
  unfolding cursor_at
  moved_end t e =
      let b = sym S.inside_is ∙ t in
      let h = begun_some l c.at p b in
      let n = next_of l c.at h in
      let x = get_or l c.at 0 in
      let r = drop (c.at + 1) l in
      let A = at_end x r p q (subst (λ (s : List ℕ). Ahead s p) n S.ahead) (sym (ap (λ (s : List ℕ). begun s p) n) ∙ b) (e ∙ S.edge_is ∙ ap (λ (s : List ℕ). edge s p) n) in
      record { stands = record { ahead = A.0; edge_is = refl; inside_is = refl; within = omega arith }; same = λ m g. ap (λ (s : List ℕ). covers s m) n ∙ A.1 m g }

  moved_begin : c.inside ≡ false → q ≡ c.edge → Moved l c (cursor_at l c.at q) q
  unfolding cursor_at
  moved_begin t e = record {
    stands = record { ahead = at_begin (drop c.at l) p q S.ahead (sym S.inside_is ∙ t) (e ∙ S.edge_is); edge_is = refl; inside_is = refl; within = S.within };
    same = λ n g. refl;
  }

  stands_moved : p ≤ q → q ≤ c.edge → Moved l c (moved_to l c q) q
  stands_moved h g = ⊎_elim
      (λ (t : ltb q c.edge ≡ true). let k : q < c.edge = ltb-true _ _ t in to (move_none l c q k) (moved_before h k))
      (λ (t : ltb q c.edge ≡ false).
      let k : c.edge ≤ q = ltb-false _ _ t in
      let e : q ≡ c.edge = omega arith in
      ⊎_elim (λ (u : c.inside ≡ true). to (move_past l c q k u) (moved_end u e)) (λ (u : c.inside ≡ false). to (move_on l c q k u) (moved_begin u e)) (which c.inside))
      (which (ltb q c.edge))
    where
      to : {d : Cursor} → d ≡ moved_to l c q → Moved l c d q → Moved l c (moved_to l c q) q
      to e M = subst (λ (d : Cursor). Moved l c d q) e M

-- ---- what the code reads of a list

pub next_cell : (l : List ℕ) (i : ℕ) → i < length l → All Cell (drop i l) → Cell (get_or l i 0)
unfolding All
next_cell l i h C = (subst (λ (s : List ℕ). All Cell s) (next_of l i h) C).0

all_tail : (x : ℕ) (s : List ℕ) → All Cell (x ∷ s) → All Cell s
unfolding All
all_tail x s C = C.1

pub cells_on : (l : List ℕ) (i : ℕ) → All Cell (drop i l) → All Cell (drop (i + 1) l)
cells_on l i C = subst (λ (s : List ℕ). All Cell s) (drop-drop 1 i l) (tail (drop i l) C)
  where
    tail : (s : List ℕ) → All Cell s → All Cell (drop 1 s)
    tail [] C = C
    tail (x ∷ s) C = all_tail x s C

module _ (l : List ℕ) (i p : ℕ) where
  pub cursor_begun : i < length l → (x y : ℕ) → x ≡ lo (get_or l i 0) → x ≤ p → y ≡ hi (get_or l i 0) → record { at = i; edge = y; inside = true } ≡ cursor_at l i p
  unfolding cursor_at begun edge
  cursor_begun h x y e g f = let t = le-leb (lo (get_or l i 0)) p (omega arith) in rw (f, next_of l i h, edge, t)

  pub cursor_ahead : i < length l → (x : ℕ) → x ≡ lo (get_or l i 0) → p < x → record { at = i; edge = x; inside = false } ≡ cursor_at l i p
  unfolding cursor_at begun edge
  cursor_ahead h x e g = let t = lt-leb (lo (get_or l i 0)) p (omega arith) in rw (e, next_of l i h, edge, t)

  pub cursor_none : length l ≤ i → record { at = i; edge = leaves; inside = false } ≡ cursor_at l i p
  unfolding cursor_at begun edge
  cursor_none h = rw (none_left l i h)

-- ---- one stretch

pub done_yes : (want : Bool) (s p at : ℕ) (d : List ℕ) → want ≡ true → (at ≡ at + length (done_with want s p)) × (d ≡ sets d at (done_with want s p))
unfolding done_with
done_yes want s p at d e = rw e (omega arith, refl)

pub done_no : (want : Bool) (s p at r : ℕ) (d d' : List ℕ) → want ≡ false → (r ≡ at + length (tile s p)) × (d' ≡ sets d at (tile s p)) → (r ≡ at + length (done_with want s p)) × (d' ≡ sets d at (done_with want s p))
unfolding done_with
done_no want s p at r d d' e w = rw e w

turn : (f g : ℕ → Bool) (want : Bool) (s p q : ℕ) → p < q → q ≤ leaves → want ≡ f p → ((n : ℕ) → p ≤ n → n < q → f n ≡ f p) → ((n : ℕ) → q ≤ n → f n ≡ g n)
    → rest tile f leaves s p ≡ done_with want s p ++ rest tile g leaves (open_from want s q) q
unfolding done_with open_from
turn f g true s p q h r e same on = skip_yes tile f leaves s p q (omega arith) r (λ n a b. same n a b ∙ sym e) ∙ rest_same tile f g leaves s q on
turn f g false s p q h r e same on = skip_no tile f tile_nil leaves s p q h r (λ n a b. same n a b ∙ sym e) ∙ ap (λ (l : List ℕ). tile s p ++ l) (rest_same tile f g leaves q q on)

turn_low : (want : Bool) (s p q at at' : ℕ) → s ≤ p → p < q → p ≤ leaves → at ≤ s → at' ≡ at + length (done_with want s p) → (at' ≤ open_from want s q) × (open_from want s q ≤ q)
unfolding done_with open_from
turn_low true s p q at at' h g r l e = (omega arith, omega arith)
turn_low false s p q at at' h g r l e = (omega (arith, (tiled s p h r).short), omega arith)

-- ---- the sweep: what is still to be written is what the cells to come make

pub record Sweeping (op : Op) (a b out₀ out : List ℕ) (x y : Cursor) (s p at : ℕ) : Type 0 where
  pub first : Stands a x p
  pub second : Stands b y p
  pub up : s ≤ p
  pub world : p ≤ leaves
  pub low : at ≤ s
  pub len : length out ≡ length out₀
  pub put : Put at 0 (rest tile (wanted op (drop x.at a) (drop y.at b)) leaves s p) (combined op a b) out out₀

pub sweep_start : (op : Op) (a b out : List ℕ) (x y : Cursor) → is_list a ≡ true → is_list b ≡ true → x ≡ cursor_at a 0 0 → y ≡ cursor_at b 0 0 → Sweeping op a b out out x y 0 0 0
unfolding combined stretches cursor_at
sweep_start op a b out x y t u ex ey = rw (ex, ey) (record {
  first = stands_start a (cursor_at a 0 0) t refl;
  second = stands_start b (cursor_at b 0 0) u refl;
  up = omega arith;
  world = omega arith;
  low = omega arith;
  len = refl;
  put = record { count = refl; same = refl };
})

stands_edge : (l : List ℕ) (c : Cursor) (p : ℕ) → Stands l c p → p < leaves → Edge (drop c.at l) p c.edge
stands_edge l c p S h = subst (Edge (drop c.at l) p) (sym S.edge_is) (ahead_edge (drop c.at l) p S.ahead h)

-- the sweep goes on, and not past the last leaf
pub sweep_on : (a b : List ℕ) (x y : Cursor) (p q : ℕ) → Stands a x p → Stands b y p → p < leaves → q ≡ min x.edge y.edge → (p < q) × (q ≤ leaves)
sweep_on a b x y p q A B h e =
    let E = stands_edge a x p A h in
    let F = stands_edge b y p B h in
    (omega (arith, E.on, F.on), omega (arith, E.world))

pub sweep_turn : (op : Op) (a b out₀ out : List ℕ) (x y : Cursor) (s p at : ℕ) (want : Bool) (q at' : ℕ) (out' : List ℕ) (s' : ℕ) (x' y' : Cursor) → Sweeping op a b out₀ out x y s p at → p < leaves
    → want ≡ wants op x.inside y.inside → q ≡ min x.edge y.edge → (at' ≡ at + length (done_with want s p)) × (out' ≡ sets out at (done_with want s p)) → s' ≡ open_from want s q
    → x' ≡ moved_to a x q → y' ≡ moved_to b y q → Sweeping op a b out₀ out' x' y' s' q at'
unfolding wanted
sweep_turn op a b out₀ out x y s p at want q at' out' s' x' y' G h ew eq w es ex ey =
    let r = drop x.at a in
    let t = drop y.at b in
    let E = stands_edge a x p G.first h in
    let F = stands_edge b y p G.second h in
    let o = sweep_on a b x y p q G.first G.second h eq in
    let A : Moved a x x' q = subst (λ (c : Cursor). Moved a x c q) (sym ex) (stands_moved a x p q G.first (omega (arith, o.0)) (omega arith)) in
    let B : Moved b y y' q = subst (λ (c : Cursor). Moved b y c q) (sym ey) (stands_moved b y p q G.second (omega (arith, o.0)) (omega arith)) in
    let f = wanted op r t in
    let g = wanted op (drop x'.at a) (drop y'.at b) in
    let e : want ≡ f p = ew ∙ ap₂ (wants op) (G.first.inside_is ∙ ahead_begun r p G.first.ahead) (G.second.inside_is ∙ ahead_begun t p G.second.ahead) in
    let l = turn_low want s p q at at' G.up o.0 G.world G.low w.0 in
    let step : rest tile f leaves s p ≡ done_with want s p ++ rest tile g leaves s' q =
    turn f g want s p q o.0 o.1 e
    (λ n m k. ap₂ (wants op) (E.same n m (omega arith)) (F.same n m (omega arith)))
    (λ n m. ap₂ (wants op) (A.same n m) (B.same n m))
    ∙ ap (λ (z : ℕ). done_with want s p ++ rest tile g leaves z q) (sym es) in
    record {
      first = A.stands;
      second = B.stands;
      up = omega (arith, l.1);
      world = o.1;
      low = omega (arith, l.0);
      len = ap length w.1 ∙ length-sets out at (done_with want s p) ∙ G.len;
      put = put_part at 0 (done_with want s p) (rest tile g leaves s' q) (rest tile f leaves s p) (combined op a b) out out₀ at' out' G.put step w.0 w.1;
    }

pub sweep_done : (op : Op) (a b out₀ out : List ℕ) (x y : Cursor) (s p at r : ℕ) (out' : List ℕ) → Sweeping op a b out₀ out x y s p at → leaves ≤ p → (r ≡ at + length (tile s p)) × (out' ≡ sets out at (tile s p)) → (r ≡ length (combined op a b)) × (out' ≡ sets out₀ 0 (combined op a b))
sweep_done op a b out₀ out x y s p at r out' G h w =
    let f = wanted op (drop x.at a) (drop y.at b) in
    let e : p ≡ leaves = omega (arith, G.world) in
    let z : rest tile f leaves s p ≡ tile s p = ap (rest tile f leaves s) e ∙ rest_end tile f leaves s ∙ ap (tile s) (sym e) in
    let q = put_last at 0 (rest tile f leaves s p) (combined op a b) out out₀ r out' G.put (w.0 ∙ ap (λ (l : List ℕ). at + length l) (sym z)) (w.1 ∙ ap (sets out at) (sym z)) in
    (omega (arith, q.0), q.1)
