-- The check of a list: it passes exactly the lists of cells that are ascending and free of overlap; the turns of the loop that makes it; and the leaves of a
-- list, one cell after another.
use mathlib.Core.Path.{◌≡◌, refl, sym, ap, ◌∙◌}
use mathlib.Core.Logic.{◌⊎◌, ◌↔◌, ⊎_elim}
use mathlib.Core.Bool.{Bool, true, false, ◌&&◌, ◌||◌, or_assoc, and-eq-true_iff}
use mathlib.Core.List.{List, [], ◌∷◌, ◌++◌}
use Prim.Native.Nat.{ℕ, zero, suc, ◌+◌, ◌≤◌, ◌<◌}
use native.Mathlib.Omega.{arith}
use lib.ListN.{length, get_or, drop}
use lib.Dec.{ltb}
use borrow.Author.Tests.{ltb-true, lt-ltb}
use Rattle.cellid.specs.CellId.{Cell, valid_id, first_leaf, last_leaf, has_leaf}
use Rattle.cellid.proofs.Laws.{no_true, valid_is, valid_fits, cell_valid, cell_pos}
use Rattle.cellid.proofs.Puts.{next_of, none_left}
use Rattle.order.specs.Order.{All}
use Rattle.order.proofs.OrderLaws.{all_weak, all_get}
use Rattle.cellunion.specs.CellUnion.{lo, hi, covers, Apart, listed, list_from, is_list}
use Rattle.cellunion.proofs.Spans.{span, leaf→, leaf←}
use Rattle.cellunion.proofs.Unique.{all_at, at_all, covers→}

-- ---- what it says

pub listed→ : (b id : ℕ) → listed b id ≡ true → Cell id × (b < first_leaf id)
unfolding listed
listed→ b id t = let r = (and-eq-true_iff (valid_id id) (ltb b (first_leaf id))).0 t in (valid_is id r.0, ltb-true _ _ r.1)

listed← : (b id : ℕ) → Cell id → b < first_leaf id → listed b id ≡ true
unfolding listed
listed← b id C h = rw (cell_valid id C.0 C.1 C.2, lt-ltb b (first_leaf id) h)

record Listed (b : ℕ) (l : List ℕ) : Type 0 where
  pub cells : All Cell l
  pub apart : Apart l
  pub after : All (λ y. b < first_leaf y) l

list→ : (l : List ℕ) (b : ℕ) → list_from b l ≡ true → Listed b l
unfolding list_from All Apart
list→ [] b t = record { cells = tt; apart = tt; after = tt }
list→ (x ∷ l) b t =
    let r = (and-eq-true_iff (listed b x) (list_from (last_leaf x) l)).0 t in
    let q = listed→ b x r.0 in
    let s = span q.0 in
    let T = list→ l (last_leaf x) r.1 in
    record {
      cells = (q.0, T.cells);
      apart = (T.after, T.apart);
      after = (q.1, all_weak (λ y. last_leaf x < first_leaf y) (λ y. b < first_leaf y) l (λ y g. omega (arith, q.1)) T.after);
    }

list← : (l : List ℕ) (b : ℕ) → Listed b l → list_from b l ≡ true
unfolding list_from All Apart
list← [] b T = refl
list← (x ∷ l) b T = rw (listed← b x T.cells.0 T.after.0) (list← l (last_leaf x) (record { cells = T.cells.1; apart = T.apart.1; after = T.apart.0 }))

-- THE LIST CHECK: valid, ascending, free of overlap
pub is_list_lem : (l : List ℕ) → (is_list l ≡ true) ↔ (All Cell l × Apart l)
is_list_lem l = (
  λ t. let T = list→ l 0 t in (T.cells, T.apart),
  λ h. list← l 0 (record { cells = h.0; apart = h.1; after = at_all (λ y. 0 < first_leaf y) l (λ y m. let s = span (all_at Cell l h.0 y m) in omega arith) }),
)

-- ---- one id

pub listed_pos : (id : ℕ) (b : Bool) → b ≡ valid_id id → b ≡ true → 0 < id
listed_pos id b e t = (valid_fits id (sym e ∙ t)).0

pub listed_yes : (last id f : ℕ) (b : Bool) → b ≡ valid_id id → b ≡ true → f ≡ first_leaf id → ltb last f ≡ listed last id
unfolding listed
listed_yes last id f b e t q = rw (listed, ← e, t) (ap (ltb last) q)

pub listed_no : (last id : ℕ) (b : Bool) → b ≡ valid_id id → b ≡ false → false ≡ listed last id
unfolding listed
listed_no last id b e t = rw (listed, ← e, t)

-- ---- one after another: what is left, after the last leaf so far, is a list exactly where the whole is

pub record Checking (l : List ℕ) (last i : ℕ) : Type 0 where
  pub within : i ≤ length l
  pub same : list_from last (drop i l) ≡ is_list l

check_next : (l : List ℕ) (last i : ℕ) (b : Bool) → Checking l last i → i < length l → b ≡ listed last (get_or l i 0) → (b && list_from (last_leaf (get_or l i 0)) (drop (i + 1) l)) ≡ is_list l
unfolding list_from
check_next l last i b G h e =
    ap (λ (t : Bool). t && list_from (last_leaf (get_or l i 0)) (drop (i + 1) l)) e ∙ sym (ap (list_from last) (next_of l i h)) ∙ G.same

pub check_bad : (l : List ℕ) (last i : ℕ) (b : Bool) → Checking l last i → i < length l → b ≡ listed last (get_or l i 0) → b ≡ false → false ≡ is_list l
check_bad l last i b G h e t = rw t at (check_next l last i b G h e)

pub check_pos : (last id : ℕ) (b : Bool) → b ≡ listed last id → b ≡ true → 0 < id
check_pos last id b e t = let C = (listed→ last id (sym e ∙ t)).0 in cell_pos id C.0 C.1 C.2

pub check_on : (l : List ℕ) (last i w : ℕ) (b : Bool) → Checking l last i → i < length l → b ≡ listed last (get_or l i 0) → b ≡ true → w ≡ last_leaf (get_or l i 0) → Checking l w (i + 1)
check_on l last i w b G h e t q = record {
  within = omega arith;
  same = ap (λ (y : ℕ). list_from y (drop (i + 1) l)) q ∙ (rw t at (check_next l last i b G h e));
}

pub check_end : (l : List ℕ) (last i : ℕ) → Checking l last i → length l ≤ i → true ≡ is_list l
unfolding list_from
check_end l last i G h = sym (ap (list_from last) (none_left l i h)) ∙ G.same

-- a later cell begins after an earlier one ends
pub apart_get : (l : List ℕ) (i j : ℕ) → Apart l → i < j → j < length l → last_leaf (get_or l i 0) < first_leaf (get_or l j 0)
unfolding Apart
apart_get [] i j A h g = absurd (omega arith)
apart_get (x ∷ l) zero zero A h g = absurd (omega arith)
apart_get (x ∷ l) zero (suc j) A h g = all_get (λ y. last_leaf x < first_leaf y) l 0 j (omega arith) A.0
apart_get (x ∷ l) (suc i) zero A h g = absurd (omega arith)
apart_get (x ∷ l) (suc i) (suc j) A h g = apart_get l i j A.1 (omega arith) (omega arith)

-- ---- the leaves of a list

pub covers_append : (a b : List ℕ) (n : ℕ) → covers (a ++ b) n ≡ (covers a n || covers b n)
unfolding covers
covers_append [] b n = refl
covers_append (x ∷ a) b n = ap (λ (t : Bool). has_leaf x n || t) (covers_append a b n) ∙ sym (or_assoc (has_leaf x n) (covers a n) (covers b n))

pub covers_nil : (n : ℕ) → covers [] n ≡ false
unfolding covers
covers_nil n = refl

-- the first cell of a list has its leaves, and at others it says nothing
pub head_in : (x : ℕ) (l : List ℕ) (n : ℕ) → Cell x → lo x ≤ n → n < hi x → covers (x ∷ l) n ≡ true
unfolding covers
head_in x l n C a b = rw (leaf← n C a b)

pub head_out : (x : ℕ) (l : List ℕ) (n : ℕ) → Cell x → (n < lo x) ⊎ (hi x ≤ n) → covers (x ∷ l) n ≡ covers l n
unfolding covers
head_out x l n C h = rw (no_true (has_leaf x n) (λ t. let r = leaf→ n C t in ⊎_elim (λ (g : n < lo x). omega (arith, r.0)) (λ (g : hi x ≤ n). omega (arith, r.1)) h))

covers_before : (l : List ℕ) (b n : ℕ) → All Cell l → All (λ y. b ≤ lo y) l → n < b → covers l n ≡ false
covers_before l b n C A h = no_true (covers l n) (λ t. let k = covers→ l n C t in let g : b ≤ lo k.0 = all_at (λ y. b ≤ lo y) l A k.0 k.1 in omega (arith, k.2))

-- all cells of a list begin after its first ends
pub apart_from : (x : ℕ) (l : List ℕ) → All Cell (x ∷ l) → Apart (x ∷ l) → All (λ y. hi x ≤ lo y) l
unfolding All Apart
apart_from x l C A = at_all (λ y. hi x ≤ lo y) l (λ y m.
    let g : last_leaf x < first_leaf y = all_at (λ y. last_leaf x < first_leaf y) l A.0 y m in
    let s = span C.0 in let u = span (all_at Cell l C.1 y m) in omega arith)

-- no leaf before the first cell of a list
pub before_first : (x : ℕ) (l : List ℕ) (n : ℕ) → All Cell (x ∷ l) → Apart (x ∷ l) → n < lo x → covers (x ∷ l) n ≡ false
unfolding All
before_first x l n C A h =
    let X = span C.0 in
    covers_before (x ∷ l) (lo x) n C (omega arith, at_all (λ y. lo x ≤ lo y) l (λ y m. let u : hi x ≤ lo y = all_at (λ y. hi x ≤ lo y) l (apart_from x l C A) y m in omega (arith, X.some))) h
