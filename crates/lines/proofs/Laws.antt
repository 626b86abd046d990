-- Laws of `specs/Lines.antt`: what was read, part by part, is the question; it is answered within a part of the output; the answer's text is that of its
-- result, and a page with room for as many ids as the output has places holds it whole.
use mathlib.Core.Path.{◌≡◌, refl, sym, ap, ap₂, ◌∙◌}
use mathlib.Core.Bool.{Bool, true, false}
use mathlib.Core.List.{List, [], ◌++◌, append_assoc}
use Rattle.std.specs.Prelude.{Result, Ok, Err}
use Prim.Native.Nat.{ℕ, ◌+◌, ◌-◌, ◌*◌, min, ◌≤◌, ◌<◌}
use native.Mathlib.Omega.{arith}
use lib.Dec.{leb, ltb, eqb}
use lib.ListN.{length, get_or, take, drop, length-append, length-drop}
use Rattle.std.proofs.Common.{append-nil}
use lib.Seq.{take-append_seam, drop-append_seam, drop-drop}
use borrow.Author.Rules.{part_to_end}
use borrow.Author.Tests.{leb-true, lt-ltb, le-ltb, eq-eqb, ne_eqb}
use Rattle.cellunion.proofs.Memory.{past_end}
use Rattle.text.specs.declared.Fault.{Fault}
use Rattle.text.specs.declared.Read.{Read}
use Rattle.text.specs.Text.{and_then, Numbers, ReadList, list_after, end_after, start_of, words_with}
use Rattle.tokens.specs.declared.Form.{Form}
use Rattle.replies.specs.Write.{Wrote, list_text, error_text}
use Rattle.replies.proofs.Lengths.{wrote_whole, error_length, refused_length, list_length}
use Rattle.requests.specs.Line.{options_after}
use Rattle.requests.specs.Requests as Requests
use Rattle.requests.specs.Requests.{on_first}
use Rattle.text.proofs.Laws.{words_fit, words_list, words_rest}
use Rattle.requests.proofs.Laws.{take_min, drop_min, length_min, step_ok, step_err, step_at}
use Rattle.refusal.specs.declared.Refusal.{Refusal}
use Rattle.refusal.specs.Refusal.{number_of}
use Rattle.cellunion.specs.CellUnion.{is_list}
use Rattle.ranges.specs.Ranges.{fitted, pairs_of, is_pairs, cells_of, pairs_result, cells_result, list_answer, words_of, output_after, Answered}
use Rattle.ranges.specs.Ranges as Ranges
use Rattle.sets.specs.declared.Op.{Op}
use Rattle.picklist.specs.PickList.{is_pick_list}
use Rattle.sets.specs.Sets.{combined, set_result}
use Rattle.lines.specs.declared.Asked.{Asked}
use Rattle.lines.specs.declared.Asks.{Asks}
use Rattle.lines.specs.declared.Extent.{Extent}
use Rattle.lines.specs.Lines.{asks_list, second_after, lists_after, Lists, ReadLists, Question, asked_first, question_of, lists_of, ReadQuestion, read_of, result_for, result_in, result_of, result_text, AnsweredIn, answer_text, text_at, output_at, ListReplied, text_of, lent_of, memory_of, output_of, Replied}

-- ---- reading

-- one list behind the other
both_words : (a b words : List ℕ) → a ++ words_with b (drop (length a) words) ≡ words_with (a ++ b) words
unfolding words_with
both_words a b words = ap (λ (t : List ℕ). a ++ (b ++ t)) (drop-drop (length b) (length a) words) ∙ sym (append_assoc a b _) ∙ ap (λ (n : ℕ). (a ++ b) ++ drop n words) (sym (length-append a b))

-- a list that was read without a fault
list_ok : (n : Numbers) (r : Read ℕ) (words words' : List ℕ) → ReadList n (Ok r) words words' → (n.after ≡ Ok r.after) × (r.value ≡ length n.values)
list_ok n r words words' R =
    let s = step_ok n.after _ r (sym R.read) in
    let d : record { value = length n.values; after = s.0 } ≡ r = cc in
    (s.1 ∙ ap (λ (x : Read ℕ). Ok x.after) d, ap (λ (x : Read ℕ). x.value) (sym d))

pub read_fits : (n : Numbers) (r : Read ℕ) (words words' : List ℕ) → ReadList n (Ok r) words words' → r.value ≤ length words'
read_fits n r words words' R = words_fit n.values words words' r.value (list_ok n r words words' R).1 R.lent

both_read : (r : Result ℕ Fault) (first first' second both : ℕ) → first ≡ first' → first + second ≡ both
    → and_then {B = Read Extent} (and_then {B = Read ℕ} r (λ end. Ok (record { value = second; after = end }))) (λ x. Ok (record { value = record { first = first; both = first + x.value }; after = x.after }))
    ≡ and_then {B = Read Extent} r (λ end. Ok (record { value = record { first = first'; both = both }; after = end }))
both_read (Ok end) first first' second both e d = rw (d, e)
both_read (Err f) first first' second both e d = refl

module _ (asks : Asks) (l : List ℕ) (at : ℕ) (words mid : List ℕ) where
  -- the first list is at fault
  pub lists_fault : (f : Fault) → ReadList (list_after (length words) l at) (Err f) words mid → ReadLists (lists_after asks (length words) l at) (Err f) words mid
  unfolding lists_after
  lists_fault f A =
      let n = list_after (length words) l at in
      let e : n.after ≡ Err f = step_err n.after (λ (end : ℕ). record { value = length n.values; after = end }) f (sym A.read) in
      rw (lists_after, e) (record { read = refl; lent = rw append-nil A.lent })

  -- or the second follows
  pub lists_read : (a : Read ℕ) (b : Result (Read ℕ) Fault) (part : List ℕ) → ReadList (list_after (length words) l at) (Ok a) words mid
      → ReadList (second_after asks (length (take (length mid - a.value) (drop a.value mid))) l a.after) b (take (length mid - a.value) (drop a.value mid)) part
      → ReadLists (lists_after asks (length words) l at) (and_then b (λ x. Ok (record { value = record { first = a.value; both = a.value + x.value }; after = x.after }))) words (take a.value mid ++ (part ++ drop (length mid - a.value) (drop a.value mid)))
  unfolding lists_after
  lists_read a b part A B =
      let n = list_after (length words) l at in
      let o = list_ok n a words mid A in
      let m = second_after asks (length words - length n.values) l a.after in
      let r : take (length mid - a.value) (drop a.value mid) ≡ drop (length n.values) words = part_to_end mid a.value ∙ words_rest n.values words mid a.value o.1 A.lent in
      let C : ReadList m b (drop (length n.values) words) part = rw (r, length-drop (length n.values) words) at B in
      rw (lists_after, o.0) (record {
        read = rw C.read (both_read m.after a.value (length n.values) (length m.values) _ o.1 (omega (arith, o.1, length-append n.values m.values)));
        lent = ap₂ (λ (x y : List ℕ). x ++ y) (words_list n.values words mid a.value o.1 A.lent) (past_end mid part a.value ∙ C.lent) ∙ both_words n.values m.values words;
      })

-- ---- what is asked for, within a part of the output

pub answered_in : (asks : Asks) (lists : List ℕ) (first most : ℕ) (r : Result ℕ Refusal) (out part : List ℕ) (o : ℕ) → o ≡ min most (length out)
    → Answered (result_for asks (take first lists) (take (length lists - first) (drop first lists)) (length (take o out))) r (take o out) part
    → AnsweredIn asks (take first lists) (drop first lists) most r out (part ++ drop o out)
unfolding result_in
answered_in asks lists first most r out part o e = rw (e, part_to_end lists first, length_min, take_min, drop_min) (λ A. record {
  answer = A.answer;
  output = ap (λ (l : List ℕ). l ++ drop most out) A.output;
})

-- ---- the answer to a result, with the output that it leaves

count_fits : (R : Result (List ℕ) Refusal) (out rest : List ℕ) → words_of (list_answer R) ≤ length (output_after R out ++ rest)
unfolding list_answer words_of output_after
count_fits (Err n) out rest = omega arith
count_fits (Ok l) out rest = simp length-append (omega arith)

answer_text_lem : (form : Form) (R : Result (List ℕ) Refusal) (out rest : List ℕ) → answer_text form (list_answer R) (output_after R out ++ rest) ≡ result_text form R
unfolding list_answer output_after answer_text result_text
answer_text_lem form (Err n) out rest = refl
answer_text_lem form (Ok l) out rest = ap (list_text form) (ap (take (length l)) (append_assoc l _ rest) ∙ take-append_seam l _)

pub answer_fits : (asks : Asks) (a b : List ℕ) (most : ℕ) (r : Result ℕ Refusal) (out out' : List ℕ) → AnsweredIn asks a b most r out out' → words_of r ≤ length out'
answer_fits asks a b most r out out' A = rw (A.answer, A.output) (count_fits (result_in asks a b most out) _ _)

-- ---- the length of an answer: it has no more numbers than the output has places

abbrev Short : ℕ → Result (List ℕ) Refusal → Type 0
Short room R = (form : Form) → length (result_text form R) ≤ 17 * room + 256

fitted_short : (k : Refusal) (l : List ℕ) (room : ℕ) → Short room (fitted k l room)
unfolding fitted result_text
fitted_short k l room = by (leb (length l) room) (λ h. leb-true _ _ h)
  where
    by : (b : Bool) → (b ≡ true → length l ≤ room) → Short room (elim b [ true ↦ Ok l | false ↦ Err k ])
    by true h form = omega (arith, list_length form l, h refl)
    by false h form = omega (arith, refused_length (number_of k))

refused_short : (k : Refusal) (room : ℕ) → Short room (Err k)
unfolding result_text
refused_short k room form = omega (arith, refused_length (number_of k))

unless_short : (good : Bool) (k : Refusal) (room : ℕ) (R : Result (List ℕ) Refusal) → Short room R → Short room (elim good [ false ↦ Err k | true ↦ R ])
unless_short true k room R h = h
unless_short false k room R h = refused_short k room

for_short : (asks : Asks) (a b : List ℕ) (room : ℕ) → Short room (result_for asks a b room)
unfolding result_for cells_result pairs_result set_result Ranges.result_of
for_short Asks.Ranges a b room = unless_short (is_list a) Refusal.NotRanges room _ (fitted_short Refusal.RangesTooLong (pairs_of a) room)
for_short Asks.Cells a b room = unless_short (is_pairs a) Refusal.NotRanges room _ (fitted_short Refusal.RangesTooLong (cells_of a) room)
for_short (Asks.Sets op) a b room = unless_short (is_pick_list a) Refusal.FirstList room _ (unless_short (is_pick_list b) Refusal.SecondList room _ (fitted_short Refusal.SetTooLong (combined op a b) room))

question_short : (q : Question) (out : List ℕ) → length (result_text q.form (result_of q out)) ≤ 17 * length out + 256
unfolding result_in
question_short q out = omega (arith, for_short q.asks q.first q.second (min q.out (length out)) q.form)

-- ---- the lists of a question, in the words that are lent

asks : (most : ℕ) (l : List ℕ) (q : Asked) → Ok q ≡ and_then (question_of most l) (λ x. Ok (read_of x)) → (x : Question) × (question_of most l ≡ Ok x) × (q ≡ read_of x)
asks most l q e =
    let s = step_ok (question_of most l) _ q (sym e) in
    let d : q ≡ read_of s.0 = cc in
    (s.0, s.1, d)

-- the lists that are left in the words are the question's, where nothing is wrong
lists_are : (most : ℕ) (l : List ℕ) (x : Question) → question_of most l ≡ Ok x → lists_of most l ≡ x.first ++ x.second
unfolding question_of lists_of
lists_are most l x e =
    let w = step_ok (asked_first l) _ x e in
    let lists = lists_after w.0.value most l w.0.after in
    let p = step_ok lists.after _ x w.2 in
    let o = step_ok (options_after l p.0) _ x p.2 in
    let n = step_ok (end_after l o.0.after) _ x o.2 in
    let a : lists.first ≡ x.first = cc in
    let b : lists.second ≡ x.second = cc in
    rw (lists_of, w.1) (ap₂ (λ (x y : List ℕ). x ++ y) a b)

module _ (words words' : List ℕ) (q : Asked) (x : Question) (part : q ≡ read_of x) (lent : words' ≡ words_with (x.first ++ x.second) words) where
  both_is : q.lists.both ≡ length (x.first ++ x.second)
  both_is = ap (λ (a : Asked). a.lists.both) part

  first_is : q.lists.first ≡ length x.first
  first_is = ap (λ (a : Asked). a.lists.first) part

  fit : q.lists.both ≤ length words'
  fit = words_fit (x.first ++ x.second) words words' q.lists.both both_is lent

  lists_there : take q.lists.both words' ≡ x.first ++ x.second
  lists_there = words_list (x.first ++ x.second) words words' q.lists.both both_is lent

  fits_first : q.lists.first ≤ length (take q.lists.both words')
  fits_first = rw lists_there (omega (arith, first_is, length-append x.first x.second))

  first_there : take q.lists.first (take q.lists.both words') ≡ x.first
  first_there = ap₂ take first_is lists_there ∙ take-append_seam x.first x.second

  second_there : drop q.lists.first (take q.lists.both words') ≡ x.second
  second_there = ap₂ drop first_is lists_there ∙ drop-append_seam x.first x.second

module _ (line words words' : List ℕ) (q : Asked) (R : ReadQuestion (length words) line (Ok q) words words') where
  lent_are : (x : Question) → question_of (length words) line ≡ Ok x → words' ≡ words_with (x.first ++ x.second) words
  lent_are x e = rw (lists_are (length words) line x e) at R.lent

  pub lists_fit : q.lists.both ≤ length words'
  lists_fit = let x = asks (length words) line q R.read in fit words words' q x.0 x.2 (lent_are x.0 x.1)

  pub first_fits : q.lists.first ≤ length (take q.lists.both words')
  first_fits = let x = asks (length words) line q R.read in fits_first words words' q x.0 x.2 (lent_are x.0 x.1)

-- ---- a question

of_question : (q : Question) (r : Result ℕ Refusal) (out out' : List ℕ) (asks : Asks) (a b : List ℕ) (most : ℕ) → asks ≡ q.asks → a ≡ q.first → b ≡ q.second → most ≡ q.out
    → AnsweredIn asks a b most r out out' → AnsweredIn q.asks q.first q.second q.out r out out'
of_question q r out out' asks a b most ek ea eb eo = rw (ek, ea, eb, eo) (λ A. A)

module _ (number : ℕ) (line words words' out page : List ℕ) (r : ℕ) (page' : List ℕ) (room : 17 * length out + 256 ≤ length page) where
  pub list_bad : (f : Fault) → ReadQuestion (length words) line (Err f) words words' → Wrote 0 (error_text number f) page r page' → ListReplied number line words words' out out page r page'
  unfolding text_at output_at
  list_bad f R w =
      let e : question_of (length words) line ≡ Err f = step_err (question_of (length words) line) read_of f (sym R.read) in
      record { wrote = rw e (wrote_whole (omega (arith, error_length number f)) w); lent = R.lent; output = rw e }

  of_asked : (q : Asked) (z : Question) → question_of (length words) line ≡ Ok z → q ≡ read_of z → words' ≡ words_with (z.first ++ z.second) words
      → words' ≡ words_with (lists_of (length words) line) words → (a : Result ℕ Refusal) (out' : List ℕ)
      → AnsweredIn q.asks (take q.lists.first (take q.lists.both words')) (drop q.lists.first (take q.lists.both words')) q.out a out out' → Wrote 0 (answer_text q.form a out') page r page'
      → ListReplied number line words words' out out' page r page'
  unfolding text_at output_at
  of_asked q z e p l left a out' B w =
      let A : AnsweredIn z.asks z.first z.second z.out a out out' =
      of_question z a out out' _ _ _ _ (ap (λ (y : Asked). y.asks) p) (first_there words words' q z p l) (second_there words words' q z p l) (ap (λ (y : Asked). y.out) p) B in
      let t : answer_text q.form a out' ≡ result_text z.form (result_of z out) =
      ap (λ (y : Asked). answer_text y.form a out') p ∙ rw (A.answer, A.output) (answer_text_lem z.form (result_of z out) _ _) in
      record {
        wrote = rw e (wrote_whole (omega (arith, question_short z out)) (rw t at w));
        lent = left;
        output = rw e A.output;
      }

  pub list_asked : (q : Asked) (R : ReadQuestion (length words) line (Ok q) words words') (a : Result ℕ Refusal) (out' : List ℕ)
      → AnsweredIn q.asks (take q.lists.first (take q.lists.both words')) (drop q.lists.first (take q.lists.both words')) q.out a out out' → Wrote 0 (answer_text q.form a out') page r page'
      → ListReplied number line words words' out out' page r page'
  list_asked q R a out' B w =
      let x = asks (length words) line q R.read in
      of_asked q x.0 x.1 x.2 (lent_are line words words' q R x.0 x.1) R.lent a out' B w

-- ---- a line

module _ (number : ℕ) (line words words' mem out out' page : List ℕ) (r : ℕ) (page' : List ℕ) where
  pub replied_list : asks_list line ≡ true → ListReplied number line words words' out out' page r page' → Replied number line words words' mem mem out out' page r page'
  unfolding text_of lent_of memory_of output_of
  replied_list e T = record { wrote = rw (text_of, e) T.wrote; lent = rw (lent_of, e) T.lent; memory = rw (memory_of, e); output = rw (output_of, e) T.output }

  pub replied_other : (mem' : List ℕ) → asks_list line ≡ false → Requests.Replied number line words words' mem mem' out out' page r page' → Replied number line words words' mem mem' out out' page r page'
  unfolding text_of lent_of memory_of output_of
  replied_other mem' e T = record { wrote = rw (text_of, e) T.wrote; lent = rw (lent_of, e) T.lent; memory = rw (memory_of, e) T.memory; output = rw (output_of, e) T.output }
