-- A measure of the cells that grew from one start cell, and of those that grew from none.
use mathlib.Core.Path.{◌≡◌, refl, ap, ◌∙◌}
use mathlib.Core.Bool.{Bool, true, false}
use mathlib.Core.Logic.{⊎_elim, ◌≢◌}
use mathlib.Core.List.{List, [], ◌∷◌}
use Prim.Native.Nat.{ℕ, zero, suc, ◌+◌, ◌≤◌, ◌<◌}
use native.Mathlib.Omega.{arith}
use lib.Dec.{leb, eqb}
use lib.ListN.{length, get_or}
use borrow.Author.Tests.{lt-leb, eq-eqb, ne_eqb}
use Rattle.cellid.specs.CellId.{IsCell, child_of}
use Rattle.order.specs.Order.{All}
use Rattle.order.proofs.OrderLaws.{which}
use Rattle.run.specs.Run.{Grown, placed, sum_of}
use Rattle.run.specs.Ground.{grown_from}
use Rattle.run.proofs.Lists.{if_ok}
use Rattle.run.proofs.Ground.{Additive}

unfoldable pub sel : Bool → ℕ → ℕ
sel true n = n
sel false n = 0

pub sel_add : (b : Bool) (x₀ x₁ x₂ x₃ x : ℕ) → x₀ + (x₁ + (x₂ + x₃)) ≡ x → sel b x₀ + (sel b x₁ + (sel b x₂ + sel b x₃)) ≡ sel b x
unfolding sel
sel_add true x₀ x₁ x₂ x₃ x e = e
sel_add false x₀ x₁ x₂ x₃ x e = refl

pub sel_none : (b : Bool) (n : ℕ) → 0 < n → sel b n ≤ 0 → b ≡ false
unfolding sel
sel_none true n h k = absurd (omega arith)
sel_none false n h k = refl

pub sel_zero : (b : Bool) → sel b 0 ≡ 0
unfolding sel
sel_zero true = refl
sel_zero false = refl

abbrev pub at_start : ℕ → (ℕ → ℕ) → ℕ → ℕ → ℕ
at_start i f j id = sel (eqb j i) (f id)

pub at_add : (i : ℕ) (f : ℕ → ℕ) → ((id L p : ℕ) → IsCell id L p → L < 30 → f (child_of id 0) + (f (child_of id 1) + (f (child_of id 2) + f (child_of id 3))) ≡ f id) → Additive (at_start i f)
at_add i f A j id L p c l = sel_add (eqb j i) _ _ _ _ _ (A id L p c l)

pub sum_from : (i : ℕ) (f : ℕ → ℕ) (l : List Grown) → sum_of (λ (c : Grown). at_start i f c.from c.id) l ≡ sum_of f (grown_from i l)
unfolding sum_of grown_from sel
sum_from i f [] = refl
sum_from i f (c ∷ l) =
    ⊎_elim
    (λ (e : eqb c.from i ≡ true). rw (e, sel, grown_from) (ap (λ (n : ℕ). f c.id + n) (sum_from i f l)))
    (λ (e : eqb c.from i ≡ false). rw (e, sel, grown_from) (let h = sum_from i f l in omega arith))
    (which (eqb c.from i))

pub past : (i : ℕ) (f : ℕ → ℕ) (k : ℕ) (l : List ℕ) → i < k → sum_of (λ (c : Grown). at_start i f c.from c.id) (placed k l) ≡ 0
unfolding sum_of placed sel
past i f k [] h = refl
past i f k (x ∷ l) h = let n : k ≢ i = omega arith in rw (ne_eqb k i n, sel) (let r = past i f (suc k) l (omega arith) in omega arith)

pub sum_start : (f : ℕ → ℕ) (k : ℕ) (l : List ℕ) (j : ℕ) → j < length l → sum_of (λ (c : Grown). at_start (k + j) f c.from c.id) (placed k l) ≡ f (get_or l j 0)
unfolding sum_of placed sel
sum_start f k [] j h = absurd (omega arith)
sum_start f k (x ∷ l) zero h =
    let e : k ≡ k + 0 = omega arith in
    rw (eq-eqb k (k + 0) e, sel) (let r = past (k + 0) f (suc k) l (omega arith) in omega arith)
sum_start f k (x ∷ l) (suc j) h =
    let n : k ≢ k + suc j = omega arith in
    let e : k + suc j ≡ suc k + j = omega arith in
    let r : sum_of (λ (c : Grown). at_start (k + suc j) f c.from c.id) (placed (suc k) l) ≡ f (get_or l j 0) =
    ap (λ (m : ℕ). sum_of (λ (c : Grown). at_start m f c.from c.id) (placed (suc k) l)) e ∙ sum_start f (suc k) l j (omega arith) in
    rw (ne_eqb k (k + suc j) n, sel) (omega arith)

-- the measure of the cells whose place is past the start cells
abbrev pub past_end : ℕ → (ℕ → ℕ) → ℕ → ℕ → ℕ
past_end n f j id = sel (leb n j) (f id)

pub past_none : (n : ℕ) (f : ℕ → ℕ) (k : ℕ) (l : List ℕ) → k + length l ≤ n → sum_of (λ (c : Grown). past_end n f c.from c.id) (placed k l) ≡ 0
unfolding sum_of placed sel
past_none n f k [] h = refl
past_none n f k (x ∷ l) h = rw (lt-leb n k (omega arith), sel) (let r = past_none n f (suc k) l (omega arith) in omega arith)

pub sum_placed : (f : ℕ → ℕ) (k : ℕ) (l : List ℕ) → sum_of (λ (c : Grown). f c.id) (placed k l) ≡ sum_of f l
unfolding sum_of placed
sum_placed f k [] = refl
sum_placed f k (x ∷ l) = ap (λ (n : ℕ). f x + n) (sum_placed f (suc k) l)

-- those of one start cell measure no more than all
pub from_le : (i : ℕ) (f : ℕ → ℕ) (l : List Grown) → sum_of f (grown_from i l) ≤ sum_of (λ (c : Grown). f c.id) l
unfolding sum_of grown_from
from_le i f [] = omega arith
from_le i f (c ∷ l) = if_ok (λ (k : List ℕ). sum_of f k ≤ f c.id + sum_of (λ (c : Grown). f c.id) l) (eqb c.from i) _ _
    (λ t. omega (arith, from_le i f l))
    (λ t. omega (arith, from_le i f l))

pub all_from : (P : ℕ → Type 0) (i : ℕ) (l : List Grown) → All (λ (c : Grown). P c.id) l → All P (grown_from i l)
unfolding All grown_from
all_from P i [] a = tt
all_from P i (c ∷ l) a = if_ok (All P) (eqb c.from i) _ _ (λ t. (a.0, all_from P i l a.1)) (λ t. all_from P i l a.1)
