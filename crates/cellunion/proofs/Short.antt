-- A list free of overlap, each of its cells with a cell of another list inside it, is no longer than that one.
use mathlib.Core.Path.{◌≡◌, refl, sym, ap, ◌∙◌}
use mathlib.Core.Logic.{◌⊎◌, inl, inr, ⊎_elim}
use mathlib.Core.List.{List, [], ◌∷◌}
use Prim.Native.Nat.{ℕ, suc, ◌≤◌, ◌<◌}
use native.Mathlib.Omega.{arith}
use lib.ListN.{length}
use Rattle.cellid.specs.CellId.{Cell, first_leaf, last_leaf}
use Rattle.order.specs.Order.{All}
use Rattle.cellunion.specs.CellUnion.{lo, hi, Member, Apart}
use Rattle.cellunion.proofs.Spans.{span, In}
use Rattle.cellunion.proofs.Unique.{all_at}

-- b without its first x
pub record Without (x : ℕ) (b r : List ℕ) : Type 0 where
  pub less : length b ≡ suc (length r)
  pub rest : (y : ℕ) → Member y b → (y ≡ x) ⊎ Member y r

without : (x : ℕ) (b : List ℕ) → Member x b → (r : List ℕ) × Without x b r
unfolding Member
without x [] m = absurd m
without x (z ∷ b) m = ⊎_elim
    (λ (e : x ≡ z). (b, record { less = refl; rest = λ y k. ⊎_elim (λ (q : y ≡ z). inl (q ∙ sym e)) (λ j. inr j) k }))
    (λ (k : Member x b). let w = without x b k in
    (z ∷ w.0, record { less = ap suc w.1.less; rest = λ y j. ⊎_elim (λ (q : y ≡ z). inr (inl q)) (λ i. ⊎_elim (λ q. inl q) (λ h. inr (inr h)) (w.1.rest y i)) j }))
    m

pub held_short : (a b : List ℕ) → All Cell a → Apart a → ((y : ℕ) → Member y a → (r : ℕ) × Member r b × Cell r × In r y) → length a ≤ length b
unfolding All Apart Member
held_short [] b A s f = omega arith
held_short (x ∷ a) b A s f =
    let r = f x (inl refl) in
    let w = without r.0 b r.1 in
    let sr = span r.2 in
    let sx = span A.0 in
    let ih : length a ≤ length w.0 = held_short a w.0 A.1 s.1 (λ y m.
    let q = f y (inr m) in
    let g : last_leaf x < first_leaf y = all_at (λ y. last_leaf x < first_leaf y) a s.0 y m in
    let sy = span (all_at Cell a A.1 y m) in
    let sq = span q.2 in
    (q.0, ⊎_elim (λ (e : q.0 ≡ r.0). absurd (omega (arith, ap lo e, ap hi e, q.3.0, q.3.1, r.3.0, r.3.1))) (λ k. k) (w.1.rest q.0 q.1), q.2, q.3)) in
    omega (arith, w.1.less)
