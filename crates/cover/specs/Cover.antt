-- What `cover` writes for what was found in its input, and what stands in the words that are lent, in the working memory and in the output afterwards.
use Rattle.std.specs.Prelude.{◌≡◌, List, ℕ, ◌-◌, ◌≤◌, length, take, drop}
use Rattle.text.specs.declared.Fault.{Fault}
use Rattle.input.specs.declared.Found.{Found}
use Rattle.input.specs.Feed.{part_of}
use Rattle.replies.specs.Write.{Whole, error_text, end_text}
use Rattle.lines.specs.Lines.{text_of, lent_of, memory_of, output_of}

-- a line of some number, after so many answers: its answer; an error for one that is too long, or that could not be read; the number of answers at the end
unfoldable pub text_for : Found → ℕ → ℕ → List ℕ → List ℕ → List ℕ → List ℕ → List ℕ
text_for (Found.Line s) number answered buf words mem out = text_of number (part_of s buf) words mem out
text_for Found.TooLong number answered buf words mem out = error_text number Fault.LineTooLong
text_for Found.Failed number answered buf words mem out = error_text number Fault.ReadFailed
text_for Found.End number answered buf words mem out = end_text answered

unfoldable pub lent_for : Found → List ℕ → List ℕ → List ℕ
lent_for (Found.Line s) buf words = lent_of (part_of s buf) words
lent_for _ buf words = words

unfoldable pub memory_for : Found → List ℕ → List ℕ → List ℕ → List ℕ → List ℕ
memory_for (Found.Line s) buf words mem out = memory_of (part_of s buf) words mem out
memory_for _ buf words mem out = mem

unfoldable pub output_for : Found → List ℕ → List ℕ → List ℕ → List ℕ → List ℕ
output_for (Found.Line s) buf words mem out = output_of (part_of s buf) words mem out
output_for _ buf words mem out = out

-- the text is written whole
pub record Told (f : Found) (number answered : ℕ) (buf words words' mem mem' out out' page : List ℕ) (r : ℕ) (page' : List ℕ) : Type 0 where
  pub wrote : Whole (text_for f number answered buf words mem out) page r page'
  pub lent : words' ≡ lent_for f buf words
  pub memory : mem' ≡ memory_for f buf words mem out
  pub output : out' ≡ output_for f buf words mem out

-- the text is written whole behind the page's first bytes, which stay as they are
pub record ToldAt (f : Found) (number answered : ℕ) (buf words words' mem mem' out out' : List ℕ) (at : ℕ) (page : List ℕ) (r : ℕ) (page' : List ℕ) : Type 0 where
  pub after : at ≤ r
  pub within : r ≤ length page'
  pub kept : take at page' ≡ take at page
  pub told : Told f number answered buf words words' mem mem' out out' (drop at page) (r - at) (drop at page')
