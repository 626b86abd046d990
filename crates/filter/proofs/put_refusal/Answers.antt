-- `filter::put_refusal`: a malformed line, or want of places.
use mathlib.Core.Path.{◌≡◌, refl}
use mathlib.Core.List.{◌++◌}
use Prim.Native.Nat.{ℕ}
use Rattle.refusal.specs.declared.Refusal.{Refusal}
use Rattle.text.specs.Ascii.{ascii}
use Rattle.replies.specs.Write.{newline}
use Rattle.filter.specs.Filter.{over_text, refusal_text}
use Rattle.filter.proofs.put_refusal.Goals as goal

other : (places : ℕ) (e : Refusal) → ((k : ℕ) → e ≡ Refusal.Malformed k → ⊥) → refusal_text places e ≡ over_text places (ascii " lines" ++ newline)
unfolding refusal_text
other places (Refusal.Malformed k) h = absurd (h k refl)
other places _ h = refl

pub returns-in-Malformed : goal.returns-in-Malformed
unfolding refusal_text
returns-in-Malformed c = rw c.in-Malformed.is c.put_malformed.ensures

pub returns-in_default : goal.returns-in_default
unfolding ascii
returns-in_default c = rw (other _ _ c.in_default.not-Malformed) c.put_over.ensures
