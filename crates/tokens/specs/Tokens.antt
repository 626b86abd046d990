-- An id's name, sixteen hexadecimal digits or its token; a list of ids as a text with a name a line; such a text as a list again; and what is answered. Quoted
-- lines are paper 02's words, from d.
use Rattle.std.specs.Prelude.{◌≡◌, Bool, true, false, ◌&&◌, not, Option, Some, None, Result, Ok, Err, List, [], ◌∷◌, ◌++◌, ℕ, suc, ◌-◌, ◌*◌, ◌^◌, leb, eqb, length, get_or, drop}
use Rattle.io.specs.Digits.{last_digits}
use Rattle.text.specs.Text.{all_digits, value_from}
use Rattle.cellid.specs.CellId.{valid_id}
use Rattle.refusal.specs.declared.Refusal.{Refusal}
use Rattle.refusal.specs.Refusal as Numbers
use Rattle.tokens.specs.declared.Form.{Form}

-- ---- names

-- "16 lowercase hex digits"
unfoldable pub hex_text : ℕ → List ℕ
hex_text id = last_digits 16 16 id

-- a digit before what is left of those behind it: where nothing is left, a zero (48) goes too
unfoldable pub digit_before : ℕ → List ℕ → List ℕ
digit_before b [] = elim (eqb b 48) [ true ↦ [] | false ↦ b ∷ [] ]
digit_before b (c ∷ l) = b ∷ c ∷ l

-- "with trailing zeros removed"
unfoldable pub trim : List ℕ → List ℕ
trim [] = []
trim (b ∷ l) = digit_before b (trim l)

-- "the published token: 16 lowercase hex digits with trailing zeros removed"
unfoldable pub token_of : ℕ → List ℕ
token_of id = trim (hex_text id)

unfoldable pub name_of : Form → ℕ → List ℕ
name_of Form.Digits id = hex_text id
name_of Form.Token id = token_of id

-- "1 to 16 lowercase digits with the last not 0"; or sixteen digits
unfoldable pub is_name : Form → List ℕ → Bool
is_name Form.Digits t = eqb (length t) 16 && all_digits 16 t
is_name Form.Token t = leb 1 (length t) && (leb (length t) 16 && (all_digits 16 t && not (eqb (get_or t (length t - 1) 0) 48)))

-- the number whose first digits, of sixteen, are these: zeros follow
unfoldable pub value_of : List ℕ → ℕ
value_of t = value_from 16 0 t * 16 ^ (16 - length t)

-- the number of a name; 0, which is no id, for what is none: so one look at numbers finds malformed lines and invalid ids
unfoldable pub named : Form → List ℕ → ℕ
named form t = elim (is_name form t) [ true ↦ value_of t | false ↦ 0 ]

-- ---- a list as a text

-- "each line ended by one newline" (10)
unfoldable pub name_line : Form → ℕ → List ℕ
name_line form id = name_of form id ++ (10 ∷ [])

-- "one per line"
unfoldable pub lines_of : Form → List ℕ → List ℕ
lines_of form [] = []
lines_of form (id ∷ l) = name_line form id ++ lines_of form l

-- ---- a text as a list: the number of each line, 0 for a malformed one

-- what stands behind the last newline: nothing, or a line that is not ended, which is malformed
unfoldable pub unended : List ℕ → List ℕ
unended [] = []
unended (b ∷ t) = 0 ∷ []

-- s is what was read of the first line
unfoldable pub ids_from : Form → List ℕ → List ℕ → List ℕ
ids_from form s [] = unended s
ids_from form s (b ∷ l) = elim (eqb b 10) [ true ↦ named form s ∷ ids_from form [] l | false ↦ ids_from form (s ++ (b ∷ [])) l ]

abbrev pub ids_of : Form → List ℕ → List ℕ
ids_of form text = ids_from form [] text

-- ---- a look at all numbers: "the number from 1 of the first such" that is no valid id, where so many are seen already; none where "every id valid"

unfoldable pub first_bad : ℕ → List ℕ → Option ℕ
first_bad k [] = None
first_bad k (id ∷ l) = elim (valid_id id) [ true ↦ first_bad (suc k) l | false ↦ Some (suc k) ]

-- ---- what a call comes to

-- l is the answer where all is sound: "11 malformed line when reading, invalid id when writing", "12 list or text longer than its buffer, after 11"
unfoldable pub result_of : Option ℕ → List ℕ → ℕ → Result (List ℕ) Refusal
result_of (Some k) l room = Err (Refusal.Malformed k)
result_of None l room = elim (leb (length l) room) [ true ↦ Ok l | false ↦ Err Refusal.NamesTooLong ]

-- with so many bytes, or so many places, of output
unfoldable pub write_result : Form → List ℕ → ℕ → Result (List ℕ) Refusal
write_result form ids room = result_of (first_bad 0 ids) (lines_of form ids) room

unfoldable pub read_result : Form → List ℕ → ℕ → Result (List ℕ) Refusal
read_result form text room = result_of (first_bad 0 (ids_of form text)) (ids_of form text) room

-- how many bytes or ids are given
unfoldable pub length_of : Result (List ℕ) Refusal → Result ℕ Refusal
length_of (Ok l) = Ok (length l)
length_of (Err e) = Err e

-- "the output unchanged in both"; else the list or text stands in the first places, and the others stay
unfoldable pub output_after : Result (List ℕ) Refusal → List ℕ → List ℕ
output_after (Ok l) out = l ++ drop (length l) out
output_after (Err e) out = out

-- what a public function ensures of its answer and the output
pub record Answered (R : Result (List ℕ) Refusal) (r : Result ℕ Refusal) (out out' : List ℕ) : Type 0 where
  pub answer : r ≡ length_of R
  pub output : out' ≡ output_after R out

-- the paper's number of an answer, 0 for success; how many bytes or ids were written; "the number from 1 of the first such", 0 where there is none
abbrev pub number_of : Result ℕ Refusal → ℕ
number_of (Ok n) = 0
number_of (Err e) = Numbers.number_of e

abbrev pub written_of : Result ℕ Refusal → ℕ
written_of (Ok n) = n
written_of (Err e) = 0

abbrev pub first_of : Result ℕ Refusal → ℕ
first_of (Err (Refusal.Malformed k)) = k
first_of _ = 0
