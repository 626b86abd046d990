-- The level table's rule, once for the whole table: it falls and lies above zero, by one computed test each, so a level is reached exactly where the
-- radius is at most its threshold, and a radius below zero reaches all of them.
use mathlib.Core.Path.{◌≡◌, refl, sym, ◌∙◌}
use mathlib.Core.Bool.{Bool, true, false, cond, ◌&&◌, and-eq-true_iff}
use mathlib.Core.List.{List, [], ◌∷◌}
use Prim.Native.Nat.{ℕ, zero, suc, ◌<◌}
use native.Mathlib.Omega.{arith}
use lib.Dec.{ltb}
use lib.ListN.{length, get_or}
use denote.Floats.{passes}
use lib.Ieee.{Float, nan, lt, le, of_bits}
use lib.Ieee.Bits.{is_true}
use borrow.Author.Tests.{ltb-true, lt-ltb}
use Rattle.cellid.proofs.Laws.{bool_iff, no_true}
use Rattle.point.specs.Floats.{zero_f}
use Rattle.point.proofs.Laws.{never}
use Rattle.point.proofs.Order.{le_trans, lt_le}
use Rattle.cap.specs.Bound.{thresholds, level_in, level_for, falling}

-- at most a threshold, so at most a larger one
at_most_more : (r a b : Float) → lt b a ≡ true → le r b ≡ true → le r a ≡ true
at_most_more r a b g h = is_true _ (le_trans r b a (passes _ h) (lt_le b a g))

-- ---- the rule, over any list that falls

suc_ltb : (k n : ℕ) → ltb k n ≡ ltb (suc k) (suc n)
suc_ltb k n = bool_iff _ _ (λ h. lt-ltb (suc k) (suc n) (up_one (ltb-true k n h))) (λ h. lt-ltb k n (down_one (ltb-true (suc k) (suc n) h)))
  where
    up_one : k < n → suc k < suc n
    up_one h = omega arith

    down_one : suc k < suc n → k < n
    down_one h = omega arith

first : (b : Bool) (n : ℕ) → b ≡ ltb 0 (cond b (suc n) 0)
first true n = sym (lt-ltb 0 (suc n) (omega arith))
first false n = refl

-- a later level, where the level before it is reached, and where it is not
later : (b c : Bool) (k n : ℕ) → c ≡ ltb k n → (c ≡ true → b ≡ true) → c ≡ ltb (suc k) (cond b (suc n) 0)
later true c k n e f = e ∙ suc_ltb k n
later false c k n e f = no_true c (λ h. never (f h)) ∙ sym (no_true (ltb (suc k) 0) (λ h. under_zero (ltb-true (suc k) 0 h)))
  where
    under_zero : suc k < 0 → ⊥
    under_zero h = omega arith

rule : (ts : List Float) → falling ts ≡ true → (r : Float) (k : ℕ) → k < length ts → le r (get_or ts k nan) ≡ ltb k (level_in ts r)
unfolding level_in
rule [] f r k h = absurd (omega arith)
rule (t ∷ []) f r zero h = first (le r t) 0
rule (t ∷ []) f r (suc k) h = absurd (omega arith)
rule (t ∷ u ∷ ts) f r zero h = first (le r t) (level_in (u ∷ ts) r)
rule (t ∷ u ∷ ts) f r (suc k) h =
    let fu = (and-eq-true_iff (lt u t) (falling (u ∷ ts))).0 f in
    let rest : le r (get_or (u ∷ ts) k nan) ≡ ltb k (level_in (u ∷ ts) r) = rule (u ∷ ts) fu.1 r k (omega arith) in
    let head : le r u ≡ ltb 0 (level_in (u ∷ ts) r) = rule (u ∷ ts) fu.1 r zero (omega arith) in
    later (le r t) (le r (get_or (u ∷ ts) k nan)) k (level_in (u ∷ ts) r) rest
    (λ c. at_most_more r t u fu.0 (head ∙ lt-ltb 0 (level_in (u ∷ ts) r) (some (ltb-true k (level_in (u ∷ ts) r) (sym rest ∙ c)))))
  where
    some : k < level_in (u ∷ ts) r → 0 < level_in (u ∷ ts) r
    some l = omega arith

-- ---- the table itself, by computing
pub thresholds_fall : falling thresholds ≡ true
unfolding thresholds lt of_bits
thresholds_fall = refl

pub thirty : length thresholds ≡ 30
unfolding thresholds
thirty = refl

-- level k + 1, or a deeper one, is taken exactly where the radius is at most its threshold
pub level_rule : (r : Float) (k : ℕ) → k < 30 → le r (get_or thresholds k nan) ≡ ltb k (level_for r)
unfolding level_for
level_rule r k h = rule thresholds thresholds_fall r k (rw thirty h)

-- ---- a radius below zero

abbrev above_zero : List Float → Bool
above_zero [] = true
above_zero (t ∷ ts) = lt zero_f t && above_zero ts

thresholds_above_zero : above_zero thresholds ≡ true
unfolding thresholds lt of_bits
thresholds_above_zero = refl

all_reached : (ts : List Float) (r : Float) → above_zero ts ≡ true → lt r zero_f ≡ true → level_in ts r ≡ length ts
unfolding level_in
all_reached [] r p h = refl
all_reached (t ∷ ts) r p h =
    let a = (and-eq-true_iff (lt zero_f t) (above_zero ts)).0 p in
    rw (at_most_more r t zero_f a.0 (is_true _ (lt_le r zero_f h)), all_reached ts r a.1 h)

-- an empty cap takes level 30
pub empty_level : (r : Float) → lt r zero_f ≡ true → level_for r ≡ 30
unfolding level_for
empty_level r h = all_reached thresholds r thresholds_above_zero h ∙ thirty
