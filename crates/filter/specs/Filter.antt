-- A text with an id a line, in one form, turned into the other, and what is written for it.
use Rattle.std.specs.Prelude.{◌≡◌, Result, Ok, Err, is_ok, List, ◌++◌, ℕ, length}
use Rattle.text.specs.Ascii.{ascii}
use Rattle.replies.specs.Write.{Whole, decimal_text, newline}
use Rattle.refusal.specs.declared.Refusal.{Refusal}
use Rattle.tokens.specs.declared.Form.{Form}
use Rattle.tokens.specs.Tokens.{write_result, read_result, length_of, output_after}

-- the list that was read is written
unfoldable pub onward : Form → ℕ → Result (List ℕ) Refusal → Result (List ℕ) Refusal
onward to room (Ok l) = write_result to l room
onward to room (Err e) = Err e

-- with so many places for the ids, and so many bytes for the other text
unfoldable pub turned_result : Form → Form → List ℕ → ℕ → ℕ → Result (List ℕ) Refusal
turned_result from to text places room = onward to room (read_result from text places)

-- the ids stand in their places, the other text in the page
pub record Turned (from to : Form) (text : List ℕ) (r : Result ℕ Refusal) (ids ids' page page' : List ℕ) : Type 0 where
  pub answer : r ≡ length_of (turned_result from to text (length ids) (length page))
  pub places : ids' ≡ output_after (read_result from text (length ids)) ids
  pub output : page' ≡ output_after (turned_result from to text (length ids) (length page)) page

-- ---- what is written: the other text to standard output, or to standard error why there is none

unfoldable pub malformed_text : ℕ → List ℕ
malformed_text k = ascii "refused 11: line " ++ (decimal_text k ++ newline)

unfoldable pub over_text : ℕ → List ℕ → List ℕ
over_text most what = ascii "refused 12: over " ++ (decimal_text most ++ what)

-- a list is refused for a malformed line, or for want of places
unfoldable pub refusal_text : ℕ → Refusal → List ℕ
refusal_text places (Refusal.Malformed k) = malformed_text k
refusal_text places _ = over_text places (ascii " lines" ++ newline)

unfoldable pub reply_text : ℕ → Result (List ℕ) Refusal → List ℕ
reply_text places (Ok l) = l
reply_text places (Err e) = refusal_text places e

-- how many bytes are to be written
abbrev pub length_said : Result ℕ ℕ → ℕ
length_said (Ok n) = n
length_said (Err n) = n

pub record Replied (from to : Form) (text : List ℕ) (r : Result ℕ ℕ) (ids ids' page page' : List ℕ) : Type 0 where
  pub good : is_ok r ≡ is_ok (turned_result from to text (length ids) (length page))
  pub wrote : Whole (reply_text (length ids) (turned_result from to text (length ids) (length page))) page (length_said r) page'
  pub places : ids' ≡ output_after (read_result from text (length ids)) ids
