-- A number stands for one refusal, but for 11, which stands for each malformed line.
use mathlib.Core.Path.{◌≡◌, refl, sym, ap, ◌∙◌}
use mathlib.Core.Logic.{◌≢◌}
use mathlib.Core.List.{[], ◌∷◌}
use Prim.Native.Nat.{ℕ}
use native.Mathlib.Omega.{arith}
use lib.ListN.{get_or}
use Rattle.refusal.specs.declared.Refusal.{Refusal}
use Rattle.refusal.specs.Refusal.{number_of}

-- the refusals by their numbers from 0; no refusal has those that another stands at
abbrev none : Refusal
none = Refusal.Malformed 0

abbrev numbered : ℕ → Refusal
numbered n = get_or (
    none
    ∷ Refusal.MaxLevel ∷ Refusal.MinLevel ∷ Refusal.LevelMod ∷ Refusal.MaxCells ∷ Refusal.Region ∷ Refusal.Memory ∷ Refusal.QueueFull ∷ Refusal.RawFull ∷ Refusal.Allowance ∷ Refusal.ListTooLong
    ∷ none ∷ Refusal.NamesTooLong ∷ Refusal.TooManyOrders ∷ Refusal.Edition ∷ Refusal.FirstList ∷ Refusal.SecondList ∷ Refusal.SetTooLong
    ∷ none ∷ none ∷ none ∷ none ∷ none ∷ none ∷ none ∷ Refusal.NotRanges ∷ []
    ) n Refusal.RangesTooLong

numbered_back : (r : Refusal) → number_of r ≢ 11 → numbered (number_of r) ≡ r
numbered_back Refusal.MaxLevel h = refl
numbered_back Refusal.MinLevel h = refl
numbered_back Refusal.LevelMod h = refl
numbered_back Refusal.MaxCells h = refl
numbered_back Refusal.Region h = refl
numbered_back Refusal.Memory h = refl
numbered_back Refusal.QueueFull h = refl
numbered_back Refusal.RawFull h = refl
numbered_back Refusal.Allowance h = refl
numbered_back Refusal.ListTooLong h = refl
numbered_back (Refusal.Malformed k) h = absurd (h refl)
numbered_back Refusal.NamesTooLong h = refl
numbered_back Refusal.TooManyOrders h = refl
numbered_back Refusal.Edition h = refl
numbered_back Refusal.FirstList h = refl
numbered_back Refusal.SecondList h = refl
numbered_back Refusal.SetTooLong h = refl
numbered_back Refusal.NotRanges h = refl
numbered_back Refusal.RangesTooLong h = refl

pub same_refusal : (r s : Refusal) → number_of r ≢ 11 → number_of r ≡ number_of s → r ≡ s
same_refusal r s h e = sym (numbered_back r h) ∙ ap numbered e ∙ numbered_back s (λ z. h (e ∙ z))

-- and none has the number 0, a success's
pub number_positive : (r : Refusal) → number_of r ≢ 0
number_positive Refusal.MaxLevel z = absurd (omega arith)
number_positive Refusal.MinLevel z = absurd (omega arith)
number_positive Refusal.LevelMod z = absurd (omega arith)
number_positive Refusal.MaxCells z = absurd (omega arith)
number_positive Refusal.Region z = absurd (omega arith)
number_positive Refusal.Memory z = absurd (omega arith)
number_positive Refusal.QueueFull z = absurd (omega arith)
number_positive Refusal.RawFull z = absurd (omega arith)
number_positive Refusal.Allowance z = absurd (omega arith)
number_positive Refusal.ListTooLong z = absurd (omega arith)
number_positive Refusal.NamesTooLong z = absurd (omega arith)
number_positive Refusal.TooManyOrders z = absurd (omega arith)
number_positive Refusal.Edition z = absurd (omega arith)
number_positive Refusal.FirstList z = absurd (omega arith)
number_positive Refusal.SecondList z = absurd (omega arith)
number_positive Refusal.SetTooLong z = absurd (omega arith)
number_positive Refusal.NotRanges z = absurd (omega arith)
number_positive Refusal.RangesTooLong z = absurd (omega arith)
number_positive (Refusal.Malformed k) z = absurd (omega arith)
