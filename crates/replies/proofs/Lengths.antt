-- Lengths of the texts of `specs/Write.antt`, and that a text is written whole where there is room for it.
use mathlib.Core.Path.{◌≡◌, ap, ◌∙◌}
use mathlib.Core.List.{List, [], ◌∷◌}
use Prim.Native.Nat.{ℕ, zero, suc, ◌+◌, ◌*◌, ◌/◌, ◌≤◌}
use native.Mathlib.Omega.{arith}
use native.Mathlib.Nat.{zero-add}
use native.Mathlib.Decide.{dec_lt}
use mathlib.Core.Logic.{by_cases}
use lib.ListN.{length, drop, length-append}
use lib.Seq.{sets-eq}
use borrow.Author.Tests.{lt-ltb, le-ltb}
use Rattle.text.specs.Ascii.{ascii}
use Rattle.text.specs.declared.Fault.{Fault}
use Rattle.tokens.specs.declared.Form.{Form}
use Rattle.tokens.specs.Tokens.{name_of}
use Rattle.tokens.proofs.Names.{name_short}
use Rattle.totals.specs.declared.Totals.{Totals}
use Rattle.totals.specs.Totals.{six_of}
use Rattle.replies.specs.Write.{Wrote, Whole, spelled, decimal_text, id_text, ids_text, fault_text, error_text, refused_text, end_text, counted_text, numbers_text, totals_text, ok_text, list_text}

pub wrote_whole : {s d : List ℕ} {r : ℕ} {d' : List ℕ} → length s ≤ length d → Wrote 0 s d r d' → Whole s d r d'
wrote_whole {s} {d} h w = record { count = omega arith; bytes = w.bytes ∙ rw zero-add at (sets-eq s d 0 (omega arith)) }

-- a text that is whole lies in its buffer
pub within : (s d : List ℕ) (r : ℕ) (d' : List ℕ) → Whole s d r d' → r ≤ length d'
within s d r d' w = let n : length d' ≡ length s + length (drop (length s) d) = ap length w.bytes ∙ length-append s (drop (length s) d) in omega (arith, w.count)

-- ---- lengths

spelled_length : (k n : ℕ) → length (spelled k n) ≤ k
unfolding spelled
spelled_length zero n = omega arith
spelled_length (suc k) n = by_cases (dec_lt n 10)
    (λ h. rw (spelled, lt-ltb n 10 h) (omega arith))
    (λ h. rw (spelled, le-ltb n 10 (omega arith), length-append (spelled k (n / 10)) _) (omega (arith, spelled_length k (n / 10))))

pub decimal_length : (n : ℕ) → length (decimal_text n) ≤ 20
unfolding decimal_text
decimal_length n = spelled_length 20 n

pub ids_length : (form : Form) (l : List ℕ) → length (ids_text form l) ≤ 17 * length l
unfolding ids_text id_text
ids_length form [] = omega arith
ids_length form (id ∷ l) = rw (ids_text, id_text, length-append (name_of form id) (ids_text form l)) (omega (arith, name_short form id, ids_length form l))

fault_length : (f : Fault) → length (fault_text f) ≤ 15
unfolding fault_text ascii
fault_length Fault.UnknownKind = omega arith
fault_length Fault.UnknownRegion = omega arith
fault_length Fault.UnknownEngine = omega arith
fault_length Fault.MissingField = omega arith
fault_length Fault.ExtraField = omega arith
fault_length Fault.RepeatedOption = omega arith
fault_length Fault.NotANumber = omega arith
fault_length Fault.TooFewDigits = omega arith
fault_length Fault.TooManyDigits = omega arith
fault_length Fault.TooLarge = omega arith
fault_length Fault.BadByte = omega arith
fault_length Fault.LineTooLong = omega arith
fault_length Fault.OutsideDomain = omega arith
fault_length Fault.ReadFailed = omega arith

pub error_length : (line : ℕ) (f : Fault) → length (error_text line f) ≤ 256
unfolding error_text ascii
error_length line f = simp length-append (omega (arith, decimal_length line, fault_length f))

pub refused_length : (number : ℕ) → length (refused_text number) ≤ 29
unfolding refused_text ascii
refused_length number = simp length-append (omega (arith, decimal_length number))

pub end_length : (answered : ℕ) → length (end_text answered) ≤ 25
unfolding end_text ascii
end_length answered = simp length-append (omega (arith, decimal_length answered))

pub counted_length : (form : Form) (ids : List ℕ) → length (counted_text form ids) ≤ 17 * length ids + 21
unfolding counted_text
counted_length form ids = simp length-append (omega (arith, ids_length form ids, decimal_length (length ids)))

numbers_length : (l : List ℕ) → length (numbers_text l) ≤ 21 * length l
unfolding numbers_text
numbers_length [] = omega arith
numbers_length (n ∷ l) = rw (numbers_text, length-append (decimal_text n) (numbers_text l)) (omega (arith, decimal_length n, numbers_length l))

pub totals_length : (t : Totals) → length (totals_text t) ≤ 126
unfolding totals_text
totals_length t = numbers_length (six_of t)

pub ok_length : (form : Form) (steps : ℕ) (aside : Totals) (ids : List ℕ) → length (ok_text form steps aside ids) ≤ 17 * length ids + 171
unfolding ok_text ascii
ok_length form steps aside ids = simp length-append (omega (arith, decimal_length steps, totals_length aside, counted_length form ids))

pub list_length : (form : Form) (ids : List ℕ) → length (list_text form ids) ≤ 17 * length ids + 24
unfolding list_text ascii
list_length form ids = simp length-append (omega (arith, counted_length form ids))
