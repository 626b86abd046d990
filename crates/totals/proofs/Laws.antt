-- Totals are what they are at their six places.
use Rattle.std.specs.Prelude.{◌≡◌, ◌≢◌, ◌<◌, ◌≤◌, length, ℕ, zero, suc}
use mathlib.Core.Path.{refl, sym, ◌∙◌}
use Rattle.std.proofs.lemmas.Grind.{same_number_lists}
use Rattle.std.proofs.lemmas.List.{get_or_past}
use Rattle.std.proofs.Math.Decide.{dec_lt}
use native.Mathlib.Omega.{arith}
use lib.Seq.{get_or-set_same, get_or-set_other}
use Rattle.totals.specs.declared.Totals.{Totals}
use Rattle.totals.specs.Totals.{totals_by, no_totals, six_of, total_at, with_total}

-- the total at a place is what is told of that place; past the sixth it is 0
told : (f : ℕ → ℕ) (i : ℕ) → i < 6 → total_at (totals_by f) i ≡ f i
told f zero h = refl
told f (suc zero) h = refl
told f (suc (suc zero)) h = refl
told f (suc (suc (suc zero))) h = refl
told f (suc (suc (suc (suc zero)))) h = refl
told f (suc (suc (suc (suc (suc zero))))) h = refl
told f (suc (suc (suc (suc (suc (suc i)))))) h = absurd (omega (arith, h))

pub totals_at : (f : ℕ → ℕ) → ((i : ℕ) → 6 ≤ i → f i ≡ 0) → (i : ℕ) → total_at (totals_by f) i ≡ f i
totals_at f h i = elim (dec_lt i 6) [ yes l ↦ told f i l | no n ↦ get_or_past (six_of (totals_by f)) i 0 (omega arith) ∙ sym (h i (omega arith)) ]

-- six zeros, at any place
pub none_at : (i : ℕ) → total_at no_totals i ≡ 0
none_at = totals_at (λ i. 0) (λ i h. refl)

-- a total that was put at a place stands there, and the others stay
module _ (t : Totals) (i n : ℕ) where
  pub with_same : i < length t.six → total_at (with_total t i n) i ≡ n
  with_same h = get_or-set_same t.six i n 0 h

  pub with_other : (j : ℕ) → i ≢ j → total_at (with_total t i n) j ≡ total_at t j
  with_other j d = get_or-set_other t.six i j n 0 (λ z. d (sym z))

-- told by place
pub totals_by_lem : (t : Totals) (f : ℕ → ℕ) → length t.six ≡ 6 → ((i : ℕ) → total_at t i ≡ f i) → t ≡ totals_by f
totals_by_lem t f n e = λ k. record { six = same_number_lists t.six (six_of (totals_by f)) n (λ i l. e i ∙ sym (told f i (omega arith))) k }
