-- Laws of `specs/Line.antt`: options one after another.
use Rattle.std.proofs.Common.{◌≡◌, ℕ, suc, ◌+◌, List, length, take, slice_range, Some, Ok, ok_or, position, eqb}
use Rattle.text.specs.Ascii.{ascii}
use Rattle.text.specs.declared.Fault.{Fault}
use Rattle.std.specs.declared.ops.Range.{Range}
use Rattle.text.specs.Text.{and_then, field_at, choice_of}
use Rattle.requests.specs.declared.line.Key.{Key}
use Rattle.requests.specs.declared.line.Options.{Options}
use Rattle.requests.specs.Line.{keys, with_option, option_of, options_from}

-- where there is a field more, it is an option
pub options_more : (k n : ℕ) (l : List ℕ) (at : ℕ) (o : Options) (f : Range ℕ) → k ≡ suc n → Some f ≡ field_at l at → options_from k l at o ≡ and_then (option_of (slice_range l f.start f.end) o) (options_from n l f.end)
unfolding options_from
options_more k n l at o f e h = rw (e, options_from, ← h)

module _ (w : List ℕ) (o : Options) (sign : ℕ) (key : Key) where
  -- a key, and what stands behind its sign
  pub option_key : Ok sign ≡ ok_or (position (λ b. eqb b 61) w) Fault.ExtraField
      → Ok key ≡ ok_or (choice_of keys (ascii "allow out mem tokens edition engine") 0 (take sign w)) Fault.ExtraField
      → with_option key (slice_range w (sign + 1) (length w)) o ≡ option_of w o
  unfolding option_of
  option_key e d = rw (option_of, ← e, ← d)
