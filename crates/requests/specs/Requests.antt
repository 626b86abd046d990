-- What a line of `cover` comes to: the public answer of its kind, for the line's numbers and region, and the text of that answer. Which engines it
-- names changes nothing.
use Rattle.std.specs.Prelude.{◌≡◌, true, false, List, [], ◌++◌, ℕ, min, length, take, drop, Result, Ok, Err, if◌then◌else◌}
use Rattle.refusal.specs.declared.Refusal.{Refusal}
use Rattle.refusal.specs.Refusal.{number_of}
use Rattle.covering.specs.declared.Answer.{Answer}
use Rattle.covering.specs.Covering.{result_of, answer_of, memory_after, output_after}
use Rattle.covering.specs.Covering as Covering
use Rattle.selftest.specs.declared.Tested.{Tested}
use Rattle.text.specs.declared.Fault.{Fault}
use Rattle.text.specs.Text.{is_silent, words_with}
use Rattle.tokens.specs.declared.Form.{Form}
use Rattle.replies.specs.Write.{Whole, refused_text, disagree_text, ok_text, error_text}
use Rattle.requests.specs.Line.{Wish, wish_of, ids_of}

-- a u32: no run takes more steps than that allows
unfoldable pub allowance_of : ℕ → ℕ
allowance_of n = min n 4294967295

-- what a line asks, with so many words of working memory and places of output
unfoldable pub result_for : Wish → ℕ → ℕ → Covering.Result
result_for w memory room = result_of w.kind w.coverer w.area (allowance_of w.allowance) memory room

-- it has as much of the working memory and of the output as it asks for, as far as there is
unfoldable pub result_in : Wish → List ℕ → List ℕ → Covering.Result
result_in w mem out = result_for w (min w.mem (length mem)) (min w.out (length out))

-- `ok STEPS ASIDE0 .. ASIDE5 COUNT ID...` or `refused NUMBER`
unfoldable pub result_text : Form → Covering.Result → List ℕ
result_text form (Covering.barred r) = refused_text (number_of r)
result_text form (Covering.refused r) = refused_text (number_of r)
result_text form (Covering.done l steps aside) = ok_text form steps aside l

-- a change of the first n words
abbrev pub on_first : ℕ → (List ℕ → List ℕ) → List ℕ → List ℕ
on_first n change l = change (take n l) ++ drop n l

-- ---- a line of some number, and what it asks or what is wrong with it: its answer's text, and the working memory and the output afterwards

unfoldable pub text_at : ℕ → Result Wish Fault → List ℕ → List ℕ → List ℕ
text_at number (Ok w) mem out = result_text w.form (result_in w mem out)
text_at number (Err fault) mem out = error_text number fault

unfoldable pub memory_at : Result Wish Fault → List ℕ → List ℕ → List ℕ
memory_at (Ok w) mem out = on_first w.mem (memory_after (result_in w mem out)) mem
memory_at (Err fault) mem out = mem

unfoldable pub output_at : Result Wish Fault → List ℕ → List ℕ → List ℕ
output_at (Ok w) mem out = on_first w.out (output_after (result_in w mem out)) out
output_at (Err fault) mem out = out

-- of a list no more ids are read than there are words for it; nothing for a line that asks nothing
unfoldable pub asked_text : ℕ → List ℕ → List ℕ → List ℕ → List ℕ → List ℕ
asked_text number line words mem out = if is_silent line then [] else text_at number (wish_of (length words) line) mem out

unfoldable pub asked_words : List ℕ → List ℕ → List ℕ
asked_words line words = if is_silent line then words else words_with (ids_of (length words) line) words

unfoldable pub asked_memory : List ℕ → List ℕ → List ℕ → List ℕ → List ℕ
asked_memory line words mem out = if is_silent line then mem else memory_at (wish_of (length words) line) mem out

unfoldable pub asked_output : List ℕ → List ℕ → List ℕ → List ℕ → List ℕ
asked_output line words mem out = if is_silent line then out else output_at (wish_of (length words) line) mem out

-- what is ensured of a line: its answer is written whole
pub record Replied (number : ℕ) (line words words' mem mem' out out' page : List ℕ) (r : ℕ) (page' : List ℕ) : Type 0 where
  pub wrote : Whole (asked_text number line words mem out) page r page'
  pub lent : words' ≡ asked_words line words
  pub memory : mem' ≡ asked_memory line words mem out
  pub output : out' ≡ asked_output line words mem out

-- ---- for the functions that make up an answer

-- the text of an answer, its ids taken from the output's first places
abbrev pub answer_text : Form → Result Answer Refusal → List ℕ → List ℕ
answer_text form (Ok a) out = ok_text form a.steps a.aside (take a.count out)
answer_text form (Err r) out = refused_text (number_of r)

-- the text of what engines gave: their answer where they agree
unfoldable pub tested_text : Form → Tested → List ℕ → List ℕ
tested_text form t out = elim t.agree [ true ↦ answer_text form t.answer out | false ↦ disagree_text ]

pub record AnsweredIn (w : Wish) (r : Result Answer Refusal) (mem mem' out out' : List ℕ) : Type 0 where
  pub answer : r ≡ answer_of (result_in w mem out)
  pub memory : mem' ≡ on_first w.mem (memory_after (result_in w mem out)) mem
  pub output : out' ≡ on_first w.out (output_after (result_in w mem out)) out
