-- A list's pairs one after another: one closed and the next opened, and the turns of the loop that writes them.
use mathlib.Core.Path.{◌≡◌, refl, sym, ap, ap₂, ◌∙◌, subst}
use mathlib.Core.Logic.{⊎_elim}
use mathlib.Core.Bool.{Bool, true, false, and-eq-true_iff}
use mathlib.Core.List.{List, [], ◌∷◌, ◌++◌}
use Prim.Native.Nat.{ℕ, ◌+◌, ◌*◌, ◌≤◌, ◌<◌}
use native.Mathlib.Omega.{arith}
use native.Mathlib.Numerals.{add-one}
use lib.Seq.{sets, length-sets}
use lib.ListN.{length, get_or, drop, set}
use Rattle.order.proofs.OrderLaws.{which}
use Rattle.cellunion.specs.CellUnion.{listed, list_from, is_list}
use Rattle.cellunion.proofs.Spans.{span}
use Rattle.cellunion.proofs.Counts.{hi_le}
use Rattle.cellunion.proofs.Lists.{listed→}
use lib.Dec.{eqb}
use borrow.Author.Tests.{eqb-true, eqb-false, eq-eqb, ne_eqb}
use Rattle.cellid.specs.CellId.{Cell, first_leaf, last_leaf}
use Rattle.cellid.proofs.Laws.{cell_pos}
use Rattle.ranges.specs.Ranges.{leaves, joins, pair_before, pairs_of}
use Rattle.ranges.specs.Steps.{held, closed, opened, pairs_left}
use Rattle.ranges.proofs.Inputs.{before_joined, before_apart, before_nil, pairs_nil, pairs_more}
use Rattle.cellid.proofs.Puts.{next_of, none_left, Put, put_part, put_last}

-- ---- the pair of the cells so far

held_none : (first last : ℕ) → last ≡ 0 → held first last ≡ []
unfolding held
held_none first last e = rw (held, eq-eqb last 0 e)

held_pair : (first last : ℕ) → (last ≡ 0 → ⊥) → held first last ≡ first ∷ last ∷ []
unfolding held
held_pair first last e = rw (held, ne_eqb last 0 e)

left_none : (first last : ℕ) (l : List ℕ) → last ≡ 0 → pairs_left first last l ≡ pairs_of l
unfolding pairs_left
left_none first last l e = rw (pairs_left, eq-eqb last 0 e)

left_pair : (first last : ℕ) (l : List ℕ) → (last ≡ 0 → ⊥) → pairs_left first last l ≡ pair_before first last (pairs_of l)
unfolding pairs_left
left_pair first last l e = rw (pairs_left, ne_eqb last 0 e)

pub closed_yes : (first last next : ℕ) (b : Bool) → b ≡ joins last next → b ≡ true → (closed first last next ≡ []) × (opened first last next ≡ first)
unfolding closed opened
closed_yes first last next b e t = let z = sym e ∙ t in (rw (closed, z), rw (opened, z))

pub closed_no : (first last next : ℕ) (b : Bool) → b ≡ joins last next → b ≡ false → (closed first last next ≡ held first last) × (opened first last next ≡ next)
unfolding closed opened
closed_no first last next b e t = let z = sym e ∙ t in (rw (closed, z), rw (opened, z))

-- the words still to come, once a cell came and once none is left
left_cons : (first last x : ℕ) (l : List ℕ) → Cell x → pairs_left first last (x ∷ l) ≡ closed first last (first_leaf x) ++ pairs_left (opened first last (first_leaf x)) (last_leaf x) l
left_cons first last x l C =
    let X = span C in
    let more : (y : ℕ) → pairs_left y (last_leaf x) l ≡ pair_before y (last_leaf x) (pairs_of l) = λ y. left_pair y (last_leaf x) l (λ z. omega (arith, X.last, X.some)) in
    ⊎_elim
    (λ (t : eqb last 0 ≡ true).
    let z : last ≡ 0 = eqb-true _ _ t in
    let w = closed_no first last (first_leaf x) false (sym (ne_eqb (first_leaf x) (last + 2) (λ e. omega (arith, X.first)))) refl in
    left_none first last (x ∷ l) z ∙ pairs_more x l ∙ sym (ap₂ (λ (a : List ℕ) (b : ℕ). a ++ pairs_left b (last_leaf x) l) (w.0 ∙ held_none first last z) w.1 ∙ more (first_leaf x)))
    (λ (t : eqb last 0 ≡ false).
    let z = eqb-false last 0 t in
    left_pair first last (x ∷ l) z ∙ ap (pair_before first last) (pairs_more x l) ∙ ⊎_elim
    (λ (u : joins last (first_leaf x) ≡ true).
    let w = closed_yes first last (first_leaf x) true (sym u) refl in
    before_joined first last (first_leaf x) (last_leaf x) (pairs_of l) (eqb-true _ _ u) ∙ sym (ap₂ (λ (a : List ℕ) (b : ℕ). a ++ pairs_left b (last_leaf x) l) w.0 w.1 ∙ more first))
    (λ (u : joins last (first_leaf x) ≡ false).
    let w = closed_no first last (first_leaf x) false (sym u) refl in
    before_apart first last (first_leaf x) (last_leaf x) (pairs_of l) (eqb-false _ _ u) ∙ sym (ap₂ (λ (a : List ℕ) (b : ℕ). a ++ pairs_left b (last_leaf x) l) (w.0 ∙ held_pair first last z) w.1 ∙ ap (λ (a : List ℕ). first ∷ last ∷ a) (more (first_leaf x))))
    (which (joins last (first_leaf x))))
    (which (eqb last 0))

left_nil : (first last : ℕ) → pairs_left first last [] ≡ held first last
left_nil first last = ⊎_elim
    (λ (t : eqb last 0 ≡ true). let z : last ≡ 0 = eqb-true _ _ t in left_none first last [] z ∙ pairs_nil ∙ sym (held_none first last z))
    (λ (t : eqb last 0 ≡ false). let z = eqb-false last 0 t in left_pair first last [] z ∙ ap (pair_before first last) pairs_nil ∙ before_nil first last ∙ sym (held_pair first last z))
    (which (eqb last 0))

-- ---- what the small functions write

pub hold_none : (first last at : ℕ) (d : List ℕ) → last ≡ 0 → (at ≡ at + length (held first last)) × (d ≡ sets d at (held first last))
hold_none first last at d h = let g = held_none first last h in (omega (arith, ap length g), sym (ap (sets d at) g))

pub hold_two : (first last at : ℕ) (d d' d'' : List ℕ) → (last ≡ 0 → ⊥) → d' ≡ set d at first → d'' ≡ set d' (at + 1) last → (at + 2 ≡ at + length (held first last)) × (d'' ≡ sets d at (held first last))
hold_two first last at d d' d'' h p q =
    let g = held_pair first last h in
    (ap (λ (n : ℕ). at + n) (sym (ap length g)), q ∙ ap₂ (λ (x : List ℕ) (k : ℕ). set x k last) p (add-one at) ∙ sym (ap (sets d at) g))

pub close_yes : (first last next at : ℕ) (d : List ℕ) (b : Bool) → b ≡ joins last next → b ≡ true → (at ≡ at + length (closed first last next)) × (d ≡ sets d at (closed first last next))
close_yes first last next at d b e t = let w = (closed_yes first last next b e t).0 in (omega (arith, ap length w), sym (ap (sets d at) w))

pub close_no : (first last next at r : ℕ) (d d' : List ℕ) (b : Bool) → b ≡ joins last next → b ≡ false → (r ≡ at + length (held first last)) × (d' ≡ sets d at (held first last)) → (r ≡ at + length (closed first last next)) × (d' ≡ sets d at (closed first last next))
close_no first last next at r d d' b e t w =
    let z = (closed_no first last next b e t).0 in
    (w.0 ∙ ap (λ (l : List ℕ). at + length l) (sym z), w.1 ∙ ap (sets d at) (sym z))

-- ---- the loop

pub record Joining (ids out₀ out : List ℕ) (first last at i : ℕ) : Type 0 where
  pub within : i ≤ length ids
  pub world : last < 2 * leaves
  pub low : at ≤ 2 * i
  pub len : length out ≡ length out₀
  pub rest : list_from last (drop i ids) ≡ true
  pub put : Put at 0 (pairs_left first last (drop i ids)) (pairs_of ids) out out₀

pub join_start : (ids out : List ℕ) → is_list ids ≡ true → Joining ids out out 0 0 0 0
join_start ids out t = record {
  within = omega arith;
  world = omega arith;
  low = omega arith;
  len = refl;
  rest = t;
  put = record { count = ap (λ (l : List ℕ). 0 + length l) (left_none 0 0 ids refl); same = ap (sets out 0) (left_none 0 0 ids refl) };
}

next_listed : (b id : ℕ) (l : List ℕ) → list_from b (id ∷ l) ≡ true → Cell id × (b < first_leaf id) × (list_from (last_leaf id) l ≡ true)
unfolding list_from
next_listed b id l t =
    let r = (and-eq-true_iff (listed b id) (list_from (last_leaf id) l)).0 t in
    let q = listed→ b id r.0 in
    (q.0, q.1, r.1)

join_next : (ids out₀ out : List ℕ) (first last at i : ℕ) → Joining ids out₀ out first last at i → i < length ids → Cell (get_or ids i 0) × (last < first_leaf (get_or ids i 0)) × (list_from (last_leaf (get_or ids i 0)) (drop (i + 1) ids) ≡ true)
join_next ids out₀ out first last at i G h = next_listed last (get_or ids i 0) (drop (i + 1) ids) (subst (λ (l : List ℕ). list_from last l ≡ true) (next_of ids i h) G.rest)

pub join_pos : (ids out₀ out : List ℕ) (first last at i : ℕ) → Joining ids out₀ out first last at i → i < length ids → 0 < get_or ids i 0
join_pos ids out₀ out first last at i G h = let C = (join_next ids out₀ out first last at i G h).0 in cell_pos (get_or ids i 0) C.0 C.1 C.2

held_few : (first last : ℕ) → length (held first last) ≤ 2
held_few first last = ⊎_elim
    (λ (t : eqb last 0 ≡ true). omega (arith, ap length (held_none first last (eqb-true _ _ t))))
    (λ (t : eqb last 0 ≡ false). omega (arith, ap length (held_pair first last (eqb-false _ _ t))))
    (which (eqb last 0))

closed_few : (first last next : ℕ) → length (closed first last next) ≤ 2
closed_few first last next = ⊎_elim
    (λ (t : joins last next ≡ true). omega (arith, ap length (closed_yes first last next true (sym t) refl).0))
    (λ (t : joins last next ≡ false). omega (arith, ap length (closed_no first last next false (sym t) refl).0, held_few first last))
    (which (joins last next))

pub join_turn : (ids out₀ out : List ℕ) (first last at i next at' : ℕ) (out' : List ℕ) (first' last' : ℕ) → Joining ids out₀ out first last at i → i < length ids
    → next ≡ first_leaf (get_or ids i 0) → at' ≡ at + length (closed first last next) → out' ≡ sets out at (closed first last next) → first' ≡ opened first last next → last' ≡ last_leaf (get_or ids i 0)
    → Joining ids out₀ out' first' last' at' (i + 1)
join_turn ids out₀ out first last at i next at' out' first' last' G h en ea eo ef el =
    let x = get_or ids i 0 in
    let r = drop (i + 1) ids in
    let N = join_next ids out₀ out first last at i G h in
    let X = span N.0 in
    let j : pairs_left first last (drop i ids) ≡ closed first last next ++ pairs_left first' last' r =
    ap (pairs_left first last) (next_of ids i h) ∙ left_cons first last x r N.0 ∙ ap (λ (y : ℕ). closed first last y ++ pairs_left (opened first last y) (last_leaf x) r) (sym en)
    ∙ ap₂ (λ (y z : ℕ). closed first last next ++ pairs_left y z r) (sym ef) (sym el) in
    record {
      within = omega arith;
      world = omega (arith, X.last, hi_le N.0);
      low = omega (arith, G.low, closed_few first last next);
      len = ap length eo ∙ length-sets out at (closed first last next) ∙ G.len;
      rest = subst (λ (b : ℕ). list_from b r ≡ true) (sym el) N.2;
      put = put_part at 0 (closed first last next) (pairs_left first' last' r) (pairs_left first last (drop i ids)) (pairs_of ids) out out₀ at' out' G.put j ea eo;
    }

pub join_done : (ids out₀ out : List ℕ) (first last at i r : ℕ) (out' : List ℕ) → Joining ids out₀ out first last at i → length ids ≤ i → (r ≡ at + length (held first last)) × (out' ≡ sets out at (held first last)) → (r ≡ length (pairs_of ids)) × (out' ≡ sets out₀ 0 (pairs_of ids))
join_done ids out₀ out first last at i r out' G h w =
    let z : pairs_left first last (drop i ids) ≡ held first last = ap (pairs_left first last) (none_left ids i h) ∙ left_nil first last in
    let q = put_last at 0 (pairs_left first last (drop i ids)) (pairs_of ids) out out₀ r out' G.put (w.0 ∙ ap (λ (l : List ℕ). at + length l) (sym z)) (w.1 ∙ ap (sets out at) (sym z)) in
    (omega (arith, q.0), q.1)
