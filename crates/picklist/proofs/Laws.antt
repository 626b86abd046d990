-- Pick lists: what the check says, the turns of the search, and that one listed cell decides.
use mathlib.Core.Path.{◌≡◌, refl, sym, ap, ◌∙◌}
use mathlib.Core.Logic.{◌↔◌, ◌⊎◌, inl, inr, ⊎_elim, by_cases}
use mathlib.Core.Bool.{Bool, true, false, ◌||◌, and-eq-true_iff, true≢false}
use mathlib.Core.List.{List, [], ◌∷◌}
use Prim.Native.Nat.{ℕ, zero, suc, ◌-◌, ◌≤◌, ◌<◌}
use native.Mathlib.Decide.{dec_lt}
use native.Mathlib.Omega.{arith}
use lib.ListN.{length, get_or}
use lib.Dec.{leb, ltb}
use borrow.Author.Tests.{leb-true, le-leb, lt-leb, ltb-true, ltb-false}
use Rattle.std.specs.List.Sorted.{IsNonDecreasing, IsPartitionPoint}
use Rattle.std.proofs.lemmas.List.{get_or_default}
use Rattle.cellid.specs.CellId.{Cell, first_leaf, last_leaf, holds, meets, has_leaf}
use Rattle.cellid.proofs.Laws.{or_true, true_or, no_true, bool_iff, cell_pos}
use Rattle.cellid.proofs.Leaves.{contains_leaves, intersects_leaves}
use Rattle.order.specs.Order.{All}
use Rattle.order.proofs.OrderLaws.{all_get}
use Rattle.cellunion.specs.CellUnion.{covers, Apart, is_list}
use Rattle.cellunion.proofs.Lists.{is_list_lem, apart_get}
use Rattle.cellunion.proofs.Spans.{span, holds_in}
use Rattle.picklist.specs.PickList.{picks_most, is_pick_list, some, list_meets, list_holds, Parts}

-- ---- what may come in

pub pick_yes : (l : List ℕ) (b : Bool) → length l ≤ picks_most → b ≡ is_list l → b ≡ is_pick_list l
unfolding is_pick_list
pick_yes l b h e = rw (is_pick_list, le-leb (length l) picks_most h) e

pub pick_no : (l : List ℕ) → picks_most < length l → false ≡ is_pick_list l
unfolding is_pick_list
pick_no l h = rw (is_pick_list, lt-leb (length l) picks_most h)

pub pick_list : (l : List ℕ) → is_pick_list l ≡ true → is_list l ≡ true
unfolding is_pick_list
pick_list l t = ((and-eq-true_iff (leb (length l) picks_most) (is_list l)).0 t).1

-- exactly the lists of cells, ascending and free of overlap, up to 4,096
pub pick_is : (l : List ℕ) → (is_pick_list l ≡ true) ↔ ((length l ≤ picks_most) × All Cell l × Apart l)
unfolding is_pick_list
pick_is l = (
  λ t. (let r = (and-eq-true_iff (leb (length l) picks_most) (is_list l)).0 t in let T = (is_list_lem l).0 r.1 in (leb-true (length l) picks_most r.0, T.0, T.1)),
  λ T. rw (le-leb (length l) picks_most T.0, (is_list_lem l).1 (T.1, T.2)),
)

-- ---- the listed cells, by their places

module _ (l : List ℕ) (P : is_pick_list l ≡ true) where
  listed_cell : (i : ℕ) → i < length l → Cell (get_or l i 0)
  listed_cell i h = all_get Cell l 0 i h ((pick_is l).0 P).1

  pub pick_pos : (i : ℕ) → i < length l → 0 < get_or l i 0
  pick_pos i h = let C = listed_cell i h in cell_pos _ C.0 C.1 C.2

-- ---- some

some_at : (test : ℕ → Bool) (l : List ℕ) (i : ℕ) → i < length l → test (get_or l i 0) ≡ true → some test l ≡ true
unfolding some
some_at test [] i h t = absurd (omega arith)
some_at test (y ∷ l) zero h t = true_or (test y) (some test l) (inl t)
some_at test (y ∷ l) (suc i) h t = true_or (test y) (some test l) (inr (some_at test l i (omega arith) t))

some_none : (test : ℕ → Bool) (l : List ℕ) → ((i : ℕ) → i < length l → test (get_or l i 0) ≡ true → ⊥) → some test l ≡ false
unfolding some
some_none test [] h = refl
some_none test (y ∷ l) h = rw (no_true (test y) (h 0 (omega arith))) (some_none test l (λ i g t. h (suc i) (omega arith) t))

pub some_found : (test : ℕ → Bool) (l : List ℕ) → some test l ≡ true → (i : ℕ) × (i < length l) × (test (get_or l i 0) ≡ true)
unfolding some
some_found test [] t = absurd (true≢false (sym t))
some_found test (y ∷ l) t = ⊎_elim
    (λ (h : test y ≡ true). (0, omega arith, h))
    (λ (h : some test l ≡ true). let r = some_found test l h in (suc r.0, omega (arith, r.1), r.2))
    (or_true (test y) (some test l) t)

-- one place decides
some_one : (test : ℕ → Bool) (l : List ℕ) (at : ℕ) → at < length l → ((i : ℕ) → i < length l → test (get_or l i 0) ≡ true → test (get_or l at 0) ≡ true) → some test l ≡ test (get_or l at 0)
some_one test l at h g = bool_iff _ _ (λ t. let r = some_found test l t in g r.0 r.1 r.2) (λ t. some_at test l at h t)

-- ---- the search

module _ (l : List ℕ) (P : is_pick_list l ≡ true) where
  pub ids_up : IsNonDecreasing l
  ids_up i j d h g = by_cases (dec_lt i j)
      (λ k. let a = span (listed_cell l P i (omega arith)) in let b = span (listed_cell l P j g) in
      rw (get_or_default l i d 0 (omega arith), get_or_default l j d 0 g) (omega (arith, apart_get l i j ((pick_is l).0 P).2 k g, a.sum, a.last, a.some, b.sum, b.first, b.some)))
      (λ k. let e : i ≡ j = omega arith in rw e (omega arith))

  module _ (first at : ℕ) (within : at ≤ length l) (C : IsPartitionPoint (λ y. ltb y first ≡ true) (λ y. ltb y first ≡ false) l at) where
    lower : (i : ℕ) → i < at → get_or l i 0 < first
    lower i h = ltb-true _ _ (C.0 i 0 (omega arith) h)

    -- what begins no earlier ends no earlier
    upper : (i : ℕ) → at ≤ i → i < length l → first ≤ last_leaf (get_or l i 0)
    upper i h g = let s = span (listed_cell l P i g) in omega (arith, ltb-false _ _ (C.1 i 0 h g), s.sum, s.last, s.some)

    -- what stands before another ends before it
    ended : (i j : ℕ) → i < j → j < at → last_leaf (get_or l i 0) < first
    ended i j h g = let s = span (listed_cell l P j (omega arith)) in omega (arith, lower j g, apart_get l i j ((pick_is l).0 P).2 h (omega arith), s.sum, s.first, s.some)

    pub found_before : 0 < at → first ≤ last_leaf (get_or l (at - 1) 0) → Parts l first (at - 1)
    found_before z h = record {
      within = omega arith;
      before = λ i g. ended i (at - 1) (omega arith) (omega arith);
      after = λ i g k. by_cases (dec_lt i at)
          (λ b. let e : i ≡ at - 1 = omega arith in rw e h)
          (λ b. upper i (omega arith) k);
    }

    pub found_at : (at ≤ 0) ⊎ (last_leaf (get_or l (at - 1) 0) < first) → Parts l first at
    found_at h = record {
      within = within;
      before = λ i g. ⊎_elim
          (λ (z : at ≤ 0). absurd (omega arith))
          (λ (k : last_leaf (get_or l (at - 1) 0) < first). by_cases (dec_lt i (at - 1))
          (λ b. ended i (at - 1) b (omega arith))
          (λ b. let e : i ≡ at - 1 = omega arith in rw e k))
          h;
      after = upper;
    }

-- ---- what the first listed cell that doesn't end before a cell says of all

meets→ : (a b : ℕ) → meets a b ≡ true → (first_leaf b ≤ last_leaf a) × (first_leaf a ≤ last_leaf b)
unfolding meets
meets→ a b t = let r = (and-eq-true_iff _ _).0 t in (leb-true _ _ r.0, leb-true _ _ r.1)

meets_if : (a b : ℕ) → first_leaf b ≤ last_leaf a → meets a b ≡ leb (first_leaf a) (last_leaf b)
unfolding meets
meets_if a b h = rw (le-leb (first_leaf b) (last_leaf a) h)

module _ (l : List ℕ) (P : is_pick_list l ≡ true) (id at : ℕ) (C : Cell id) (S : Parts l (first_leaf id) at) where
  -- a listed cell that doesn't end before the cell stands there or later
  late : (i : ℕ) → i < length l → first_leaf id ≤ last_leaf (get_or l i 0) → at ≤ i
  late i h g = by_cases (dec_lt i at) (λ k. absurd (omega (arith, S.before i k))) (λ k. omega arith)

  meets_late : (i : ℕ) → i < length l → meets (get_or l i 0) id ≡ true → at ≤ i
  meets_late i h t = late i h (meets→ (get_or l i 0) id t).0

  holds_late : (i : ℕ) → i < length l → holds (get_or l i 0) id ≡ true → at ≤ i
  holds_late i h t =
      let n = holds_in (listed_cell l P i h) C t in
      let s = span (listed_cell l P i h) in
      let u = span C in
      late i h (omega (arith, n.0, n.1, s.last, u.first, u.some))

  pub none_near : length l ≤ at → false ≡ list_meets l id
  none_near h = sym (some_none (λ y. meets y id) l (λ i g t. omega (arith, meets_late i g t)))

  module _ (h : at < length l) where
    near_meets : (i : ℕ) → i < length l → meets (get_or l i 0) id ≡ true → meets (get_or l at 0) id ≡ true
    near_meets i g t =
        let k = meets_late i g t in
        by_cases (dec_lt at i)
        (λ j. let s = span (listed_cell l P at h) in
        meets_if (get_or l at 0) id (S.after at (omega arith) h) ∙ le-leb (first_leaf (get_or l at 0)) (last_leaf id) (omega (arith, (meets→ (get_or l i 0) id t).1, apart_get l at i ((pick_is l).0 P).2 j g, s.first, s.last, s.some)))
        (λ j. let e : i ≡ at = omega arith in rw e at t)

    near_holds : (i : ℕ) → i < length l → holds (get_or l i 0) id ≡ true → holds (get_or l at 0) id ≡ true
    near_holds i g t =
        let k = holds_late i g t in
        by_cases (dec_lt at i)
        (λ j. let n = holds_in (listed_cell l P i g) C t in
        let s = span (listed_cell l P i g) in
        let u = span C in
        absurd (omega (arith, S.after at (omega arith) h, apart_get l at i ((pick_is l).0 P).2 j g, n.0, s.first, u.first)))
        (λ j. let e : i ≡ at = omega arith in rw e at t)

    pub near_decides : (meets (get_or l at 0) id ≡ list_meets l id) × (holds (get_or l at 0) id ≡ list_holds l id)
    near_decides = (sym (some_one (λ y. meets y id) l at h near_meets), sym (some_one (λ y. holds y id) l at h near_holds))

-- ---- the tests by leaves

pub some_covers : (l : List ℕ) (n : ℕ) → covers l n ≡ some (λ y. has_leaf y n) l
unfolding covers some
some_covers [] n = refl
some_covers (y ∷ l) n = ap (λ (t : Bool). has_leaf y n || t) (some_covers l n)

-- a list meets a cell exactly where one of its leaves lies under the cell
pub meets_leaf : (l : List ℕ) (id : ℕ) → is_pick_list l ≡ true → Cell id → (list_meets l id ≡ true) ↔ ((n : ℕ) × (covers l n ≡ true) × (has_leaf id n ≡ true))
meets_leaf l id P C = (
  λ t. (
      let r = some_found (λ y. meets y id) l t in
      let w = (intersects_leaves (get_or l r.0 0) id (listed_cell l P r.0 r.1) C).0 r.2 in
      (w.0, some_covers l w.0 ∙ some_at (λ y. has_leaf y w.0) l r.0 r.1 w.1, w.2)),
  λ w. (
      let r = some_found (λ y. has_leaf y w.0) l (sym (some_covers l w.0) ∙ w.1) in
      some_at (λ y. meets y id) l r.0 r.1 ((intersects_leaves (get_or l r.0 0) id (listed_cell l P r.0 r.1) C).1 (w.0, r.2, w.2))),
)

-- every leaf of a cell that a list contains is the list's
pub holds_leaf : (l : List ℕ) (id n : ℕ) → is_pick_list l ≡ true → Cell id → list_holds l id ≡ true → has_leaf id n ≡ true → covers l n ≡ true
holds_leaf l id n P C t h =
    let r = some_found (λ y. holds y id) l t in
    some_covers l n ∙ some_at (λ y. has_leaf y n) l r.0 r.1 ((contains_leaves (get_or l r.0 0) id (listed_cell l P r.0 r.1) C).0 r.2 n h)

-- what contains a cell meets it
pub list_holds_meets : (l : List ℕ) (id : ℕ) → is_pick_list l ≡ true → Cell id → list_holds l id ≡ true → list_meets l id ≡ true
list_holds_meets l id P C t =
    let r = some_found (λ y. holds y id) l t in
    let i = holds_in (listed_cell l P r.0 r.1) C r.2 in
    let s = span (listed_cell l P r.0 r.1) in
    let u = span C in
    some_at (λ y. meets y id) l r.0 r.1 (meets_if (get_or l r.0 0) id (omega (arith, i.0, i.1, s.last, u.first, u.some)) ∙ le-leb (first_leaf (get_or l r.0 0)) (last_leaf id) (omega (arith, i.0, i.1, s.first, u.last, u.some)))
