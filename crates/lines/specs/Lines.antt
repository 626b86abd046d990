-- What any line of `cover` asks, and its answer: about a list, `ranges COUNT ID... [options]` or `cells COUNT FIRST LAST... [options]`; about two lists,
-- `union|common|difference COUNT ID... COUNT ID... [options]`; or of the coverer, as `requests` has it.
use Rattle.std.specs.Prelude.{◌≡◌, Bool, true, false, List, [], ◌∷◌, ◌++◌, ℕ, ◌-◌, min, length, take, unwrap_or, Result, Ok, Err, if◌then◌else◌}
use Rattle.std.specs.Result.{is_ok}
use Rattle.text.specs.Ascii.{ascii}
use Rattle.text.specs.declared.Fault.{Fault}
use Rattle.text.specs.declared.Read.{Read}
use Rattle.text.specs.Text.{and_then, Numbers, choice_after, list_after, end_after, start_of, words_with}
use Rattle.tokens.specs.declared.Form.{Form}
use Rattle.replies.specs.Write.{Whole, refused_text, list_text, error_text}
use Rattle.requests.specs.Line.{form_of, options_after}
use Rattle.requests.specs.Requests.{on_first, asked_text, asked_words, asked_memory, asked_output}
use Rattle.refusal.specs.declared.Refusal.{Refusal}
use Rattle.refusal.specs.Refusal.{number_of}
use Rattle.ranges.specs.Ranges.{pairs_result, cells_result, list_answer, output_after}
use Rattle.sets.specs.declared.Op.{Op}
use Rattle.sets.specs.Sets.{set_result}
use Rattle.lines.specs.declared.Asked.{Asked}
use Rattle.lines.specs.declared.Asks.{Asks}
use Rattle.lines.specs.declared.Extent.{Extent}

-- ---- a question about lists

-- what is asked: two words are about one list, three about two
abbrev pub questions : List Asks
questions = Asks.Ranges ∷ Asks.Cells ∷ Asks.Sets Op.Union ∷ Asks.Sets Op.Common ∷ Asks.Sets Op.Difference ∷ []

-- what the next field asks
unfoldable pub word_after : List ℕ → ℕ → Result (Read Asks) Fault
word_after l at = choice_after (ascii "ranges cells union common difference") questions Fault.UnknownKind l at

-- the line's first field is one of those words
unfoldable pub asks_list : List ℕ → Bool
asks_list l = is_ok (word_after l 0)

-- the second list; none where the word asks about one
unfoldable pub second_after : Asks → ℕ → List ℕ → ℕ → Numbers
second_after Asks.Ranges most l at = record { values = []; after = Ok at }
second_after Asks.Cells most l at = record { values = []; after = Ok at }
second_after (Asks.Sets op) most l at = list_after most l at

-- the lists, from a fault on 0, and the place after them, or else that fault
pub record Lists : Type 0 where
  pub first : List ℕ
  pub second : List ℕ
  pub after : Result ℕ Fault

-- at most so many words in both
unfoldable pub lists_after : Asks → ℕ → List ℕ → ℕ → Lists
lists_after asks most l at =
    let a = list_after most l at in
    elim a.after [
      | Err fault ↦ record { first = a.values; second = []; after = Err fault }
      | Ok end ↦ let b = second_after asks (most - length a.values) l end in record { first = a.values; second = b.values; after = b.after }
    ]

-- what is asked, the lists, the places of output, how ids are written
pub record Question : Type 0 where
  pub asks : Asks
  pub first : List ℕ
  pub second : List ℕ
  pub out : ℕ
  pub form : Form

-- what the first word asks
unfoldable pub asked_first : List ℕ → Result (Read Asks) Fault
asked_first l = and_then (start_of l) (word_after l)

-- one part after another; of the options out= and tokens= alone say anything
unfoldable pub question_of : ℕ → List ℕ → Result Question Fault
question_of most l =
    and_then (asked_first l) (λ word.
    let lists = lists_after word.value most l word.after in
    and_then lists.after (λ at.
    and_then (options_after l at) (λ o.
    and_then (end_after l o.after) (λ _. Ok (record {
      asks = word.value;
      first = lists.first;
      second = lists.second;
      out = unwrap_or o.value.out 65536;
      form = form_of (unwrap_or o.value.tokens 0);
    })))))

-- its lists, one behind the other, from a fault on 0: these are read even where a fault stands behind them
unfoldable pub lists_of : ℕ → List ℕ → List ℕ
lists_of most l = elim (asked_first l) [
  | Ok word ↦ let lists = lists_after word.value most l word.after in lists.first ++ lists.second
  | Err fault ↦ []
]

-- ---- what it comes to

-- with so many places of output
unfoldable pub result_for : Asks → List ℕ → List ℕ → ℕ → Result (List ℕ) Refusal
result_for Asks.Ranges a b room = pairs_result a room
result_for Asks.Cells a b room = cells_result a room
result_for (Asks.Sets op) a b room = set_result op a b room

-- with as much of an output as is asked for, as far as there is
unfoldable pub result_in : Asks → List ℕ → List ℕ → ℕ → List ℕ → Result (List ℕ) Refusal
result_in asks a b most out = result_for asks a b (min most (length out))

abbrev pub result_of : Question → List ℕ → Result (List ℕ) Refusal
result_of q out = result_in q.asks q.first q.second q.out out

-- `ok COUNT NUMBER...` or `refused NUMBER`
unfoldable pub result_text : Form → Result (List ℕ) Refusal → List ℕ
result_text form (Err r) = refused_text (number_of r)
result_text form (Ok l) = list_text form l

-- ---- a question of some number, or what is wrong with it: its answer's text, and the output afterwards

unfoldable pub text_at : ℕ → Result Question Fault → List ℕ → List ℕ
text_at number (Ok q) out = result_text q.form (result_of q out)
text_at number (Err fault) out = error_text number fault

unfoldable pub output_at : Result Question Fault → List ℕ → List ℕ
output_at (Ok q) out = on_first q.out (output_after (result_of q out)) out
output_at (Err fault) out = out

-- ---- any line: its answer's text, and the words that are lent, the working memory and the output afterwards; its lists have at most as many words as are lent

unfoldable pub text_of : ℕ → List ℕ → List ℕ → List ℕ → List ℕ → List ℕ
text_of number line words mem out = if asks_list line then text_at number (question_of (length words) line) out else asked_text number line words mem out

unfoldable pub lent_of : List ℕ → List ℕ → List ℕ
lent_of line words = if asks_list line then words_with (lists_of (length words) line) words else asked_words line words

unfoldable pub memory_of : List ℕ → List ℕ → List ℕ → List ℕ → List ℕ
memory_of line words mem out = if asks_list line then mem else asked_memory line words mem out

unfoldable pub output_of : List ℕ → List ℕ → List ℕ → List ℕ → List ℕ
output_of line words mem out = if asks_list line then output_at (question_of (length words) line) out else asked_output line words mem out

-- what is ensured of a line: its answer is written whole
pub record Replied (number : ℕ) (line words words' mem mem' out out' page : List ℕ) (r : ℕ) (page' : List ℕ) : Type 0 where
  pub wrote : Whole (text_of number line words mem out) page r page'
  pub lent : words' ≡ lent_of line words
  pub memory : mem' ≡ memory_of line words mem out
  pub output : out' ≡ output_of line words mem out

-- ---- for the functions that make up an answer

-- the lists were read into the words that are lent: how many the first has, and both
pub record ReadLists (n : Lists) (r : Result (Read Extent) Fault) (words words' : List ℕ) : Type 0 where
  pub read : r ≡ and_then n.after (λ at. Ok (record { value = record { first = length n.first; both = length (n.first ++ n.second) }; after = at }))
  pub lent : words' ≡ words_with (n.first ++ n.second) words

-- a question, its lists aside
abbrev pub read_of : Question → Asked
read_of q = record { asks = q.asks; lists = record { first = length q.first; both = length (q.first ++ q.second) }; out = q.out; form = q.form }

-- it was read, its lists into the words that are lent
pub record ReadQuestion (most : ℕ) (l : List ℕ) (r : Result Asked Fault) (words words' : List ℕ) : Type 0 where
  pub read : r ≡ and_then (question_of most l) (λ q. Ok (read_of q))
  pub lent : words' ≡ words_with (lists_of most l) words

pub record AnsweredIn (asks : Asks) (a b : List ℕ) (most : ℕ) (r : Result ℕ Refusal) (out out' : List ℕ) : Type 0 where
  pub answer : r ≡ list_answer (result_in asks a b most out)
  pub output : out' ≡ on_first most (output_after (result_in asks a b most out)) out

-- the text of an answer, its numbers taken from the output's first places
unfoldable pub answer_text : Form → Result ℕ Refusal → List ℕ → List ℕ
answer_text form (Ok count) out = list_text form (take count out)
answer_text form (Err r) out = refused_text (number_of r)

-- a line of some number that asks about lists was answered
pub record ListReplied (number : ℕ) (line words words' out out' page : List ℕ) (r : ℕ) (page' : List ℕ) : Type 0 where
  pub wrote : Whole (text_at number (question_of (length words) line) out) page r page'
  pub lent : words' ≡ words_with (lists_of (length words) line) words
  pub output : out' ≡ output_at (question_of (length words) line) out
