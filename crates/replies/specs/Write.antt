-- Answers as bytes, and what writing them does to a buffer.
use Rattle.std.specs.Prelude.{◌≡◌, true, false, List, [], ◌∷◌, ◌++◌, ℕ, zero, suc, ◌+◌, ◌-◌, ◌/◌, ◌%◌, min, ltb, length, drop}
use Rattle.std.proofs.lemmas.List.Edits.{sets}
use Rattle.text.specs.Ascii.{ascii}
use Rattle.text.specs.declared.Fault.{Fault}
use Rattle.io.specs.Digits.{hex_digit_ascii}
use Rattle.tokens.specs.declared.Form.{Form}
use Rattle.tokens.specs.Tokens.{name_of}
use Rattle.totals.specs.declared.Totals.{Totals}
use Rattle.totals.specs.Totals.{six_of}

-- ---- writing

-- the bytes s are stored into d from a place on, one after another as far as d reaches (a store past its end changes nothing): the place after them is r,
-- and the buffer is d'
pub record Wrote (at : ℕ) (s d : List ℕ) (r : ℕ) (d' : List ℕ) : Type 0 where
  pub count : r ≡ at + min (length s) (length d - at)
  pub bytes : d' ≡ sets d at s

-- d' is s, and behind it d as it was
pub record Whole (s d : List ℕ) (r : ℕ) (d' : List ℕ) : Type 0 where
  pub count : r ≡ length s
  pub bytes : d' ≡ s ++ drop (length s) d

-- ---- numbers

-- the last digits of a number, at most so many, with no zeros in front
unfoldable pub spelled : ℕ → ℕ → List ℕ
spelled zero n = []
spelled (suc k) n = elim (ltb n 10) [ true ↦ hex_digit_ascii n ∷ [] | false ↦ spelled k (n / 10) ++ (hex_digit_ascii (n % 10) ∷ []) ]

-- a number in decimal digits: a u64 has at most twenty
unfoldable pub decimal_text : ℕ → List ℕ
decimal_text n = spelled 20 n

abbrev pub space : List ℕ
space = 32 ∷ []

abbrev pub newline : List ℕ
newline = 10 ∷ []

-- an id's name, with a space before it
unfoldable pub id_text : Form → ℕ → List ℕ
id_text form id = space ++ name_of form id

unfoldable pub ids_text : Form → List ℕ → List ℕ
ids_text form [] = []
ids_text form (id ∷ l) = id_text form id ++ ids_text form l

-- ---- answers

-- the word for what is wrong with a line
unfoldable pub fault_text : Fault → List ℕ
fault_text Fault.UnknownKind = ascii "unknown-kind"
fault_text Fault.UnknownRegion = ascii "unknown-region"
fault_text Fault.UnknownEngine = ascii "unknown-engine"
fault_text Fault.MissingField = ascii "missing-field"
fault_text Fault.ExtraField = ascii "extra-field"
fault_text Fault.RepeatedOption = ascii "repeated-option"
fault_text Fault.NotANumber = ascii "not-a-number"
fault_text Fault.TooFewDigits = ascii "too-few-digits"
fault_text Fault.TooManyDigits = ascii "too-many-digits"
fault_text Fault.TooLarge = ascii "too-large"
fault_text Fault.BadByte = ascii "bad-byte"
fault_text Fault.LineTooLong = ascii "line-too-long"
fault_text Fault.OutsideDomain = ascii "outside-domain"
fault_text Fault.ReadFailed = ascii "read-failed"

-- error LINE-NUMBER WORD
unfoldable pub error_text : ℕ → Fault → List ℕ
error_text line f = ascii "error " ++ (decimal_text line ++ (space ++ (fault_text f ++ newline)))

-- refused NUMBER
unfoldable pub refused_text : ℕ → List ℕ
refused_text number = ascii "refused " ++ (decimal_text number ++ newline)

-- disagree
unfoldable pub disagree_text : List ℕ
disagree_text = ascii "disagree" ++ newline

-- end ANSWERED
unfoldable pub end_text : ℕ → List ℕ
end_text answered = ascii "end " ++ (decimal_text answered ++ newline)

-- COUNT ID..., to the line's end
unfoldable pub counted_text : Form → List ℕ → List ℕ
counted_text form ids = decimal_text (length ids) ++ (ids_text form ids ++ newline)

-- numbers in decimal digits, with a space before each
unfoldable pub numbers_text : List ℕ → List ℕ
numbers_text [] = []
numbers_text (n ∷ l) = space ++ (decimal_text n ++ numbers_text l)

-- ASIDE0 .. ASIDE5, with a space before each
unfoldable pub totals_text : Totals → List ℕ
totals_text t = numbers_text (six_of t)

-- ok STEPS ASIDE0 .. ASIDE5 COUNT ID...
unfoldable pub ok_text : Form → ℕ → Totals → List ℕ → List ℕ
ok_text form steps aside ids = ascii "ok " ++ (decimal_text steps ++ (totals_text aside ++ (space ++ counted_text form ids)))

-- ok COUNT ID...
unfoldable pub list_text : Form → List ℕ → List ℕ
list_text form ids = ascii "ok " ++ counted_text form ids
