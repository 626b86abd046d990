-- The definitions in other words: `Apart` as "ascending, no cell inside another" and as "no two overlap"; `covers` as "some cell holds the leaf's id".
use mathlib.Core.Path.{◌≡◌, refl, sym, ◌∙◌, subst}
use mathlib.Core.Logic.{inl, inr, ⊎_elim}
use mathlib.Core.Bool.{true, false, and-false}
use mathlib.Core.List.{List, [], ◌∷◌}
use Prim.Native.Nat.{ℕ, ◌+◌, ◌*◌, ◌<◌}
use native.Mathlib.Omega.{arith}
use lib.Dec.{leb}
use borrow.Author.Tests.{lt-leb}
use Rattle.cellid.specs.CellId.{Cell, IsCell, first_leaf, last_leaf, holds, meets}
use Rattle.cellid.proofs.Laws.{or_true, true_or, no_true}
use Rattle.cellid.proofs.Parts.{leaf_at}
use Rattle.order.specs.Order.{All}
use Rattle.order.proofs.OrderLaws.{all_weak}
use Rattle.cellunion.specs.CellUnion.{covers, SameLeaves, Member, Apart, Clear}
use Rattle.cellunion.proofs.Spans.{span, Nest, left, right, inside, around, nest, holds_in, holds_no}
use Rattle.cellunion.proofs.Unique.{all_at, at_all}

-- ---- two cells

clear_case : {x y : ℕ} → Cell x → Cell y → x < y → holds x y ≡ false → holds y x ≡ false → Nest x y → last_leaf x < first_leaf y
clear_case X Y h f g (left k) = let s = span X in let u = span Y in omega arith
clear_case X Y h f g (right k) = let s = span X in let u = span Y in absurd (omega arith)
clear_case X Y h f g (inside k) = absurd (holds_no Y X g k)
clear_case X Y h f g (around k) = absurd (holds_no X Y f k)

pub clear→ : {x y : ℕ} → Cell x → Cell y → x < y → holds x y ≡ false → holds y x ≡ false → last_leaf x < first_leaf y
clear→ X Y h f g = clear_case X Y h f g (nest X Y)

pub clear← : {x y : ℕ} → Cell x → Cell y → last_leaf x < first_leaf y → (x < y) × (holds x y ≡ false) × (holds y x ≡ false)
clear← {x} {y} X Y h =
    let s = span X in
    let u = span Y in (
      omega arith,
      no_true (holds x y) (λ t. let i = holds_in X Y t in omega (arith, i.0, i.1)),
      no_true (holds y x) (λ t. let i = holds_in Y X t in omega (arith, i.0, i.1)),
    )

pub before_meets : (x y : ℕ) → last_leaf x < first_leaf y → (meets x y ≡ false) × (meets y x ≡ false)
unfolding meets
before_meets x y h = let e = lt-leb (first_leaf y) (last_leaf x) h in (rw (meets, e), rw (meets, e) (and-false (leb (first_leaf x) (last_leaf y))))

-- ---- lists

pub apart_clear : (l : List ℕ) → All Cell l → Apart l → Clear l
unfolding All Apart Clear
apart_clear [] C A = tt
apart_clear (x ∷ l) C A = (
  at_all (λ y. (x < y) × (holds x y ≡ false) × (holds y x ≡ false)) l (λ y m.
      clear← C.0 (all_at Cell l C.1 y m) (all_at (λ y. last_leaf x < first_leaf y) l A.0 y m)),
  apart_clear l C.1 A.1,
)

pub clear_apart : (l : List ℕ) → All Cell l → Clear l → Apart l
unfolding All Apart Clear
clear_apart [] C A = tt
clear_apart (x ∷ l) C A = (
  at_all (λ y. last_leaf x < first_leaf y) l (λ y m.
      let k = all_at (λ y. (x < y) × (holds x y ≡ false) × (holds y x ≡ false)) l A.0 y m in
      clear→ C.0 (all_at Cell l C.1 y m) k.0 k.1 k.2),
  clear_apart l C.1 A.1,
)

-- no later cell overlaps the first
pub apart_meets : (x : ℕ) (l : List ℕ) → Apart (x ∷ l) → All (λ y. meets x y ≡ false) l × Apart l
unfolding Apart
apart_meets x l A = (all_weak (λ y. last_leaf x < first_leaf y) (λ y. meets x y ≡ false) l (λ y h. (before_meets x y h).0) A.0, A.1)

-- ---- leaves. The leaf with the number n is the cell of level 30 with the id 2n + 1.

-- some cell of l holds x
abbrev pub Holding : List ℕ → ℕ → Type 0
Holding l x = (y : ℕ) × Member y l × (holds y x ≡ true)

pub covers_holding : (l : List ℕ) (n : ℕ) → covers l n ≡ true → Holding l (2 * n + 1)
unfolding covers Member
covers_holding [] n t = let z : ◌≡◌ {A = ℕ} 0 1 = cc in absurd (omega arith)
covers_holding (x ∷ l) n t = ⊎_elim
    (λ e. (x, inl refl, e))
    (λ e. let r = covers_holding l n e in (r.0, inr r.1, r.2))
    (or_true (holds x (2 * n + 1)) (covers l n) t)

pub holding_covers : (l : List ℕ) (n : ℕ) → Holding l (2 * n + 1) → covers l n ≡ true
unfolding covers Member
holding_covers [] n h = absurd h.1
holding_covers (x ∷ l) n h = true_or (holds x (2 * n + 1)) (covers l n) (⊎_elim
    (λ (e : h.0 ≡ x). inl (subst (λ (y : ℕ). holds y (2 * n + 1) ≡ true) e h.2))
    (λ m. inr (holding_covers l n (h.0, m, h.2))) h.1)

-- lists with the same leaves hold the same leaf ids
pub same_holding : (a b : List ℕ) → SameLeaves a b → {x n : ℕ} → IsCell x 30 n → Holding a x → Holding b x
same_holding a b same {x} {n} c h =
    let e = leaf_at c in
    subst (Holding b) (sym e) (covers_holding b n (sym (same n) ∙ holding_covers a n (subst (Holding a) e h)))
