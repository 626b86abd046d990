-- Laws of `specs/Requests.antt`: a request is answered within parts of the memory and of the output, the answer's text is that of its result, and a page with
-- room for as many ids as the output has places holds it whole.
use mathlib.Core.Path.{◌≡◌, refl, sym, ap, subst, ◌∙◌}
use mathlib.Core.Bool.{true, false}
use mathlib.Core.List.{List, [], ◌∷◌, ◌++◌, append_assoc}
use Rattle.std.specs.Prelude.{Result, Ok, Err}
use Prim.Native.Nat.{ℕ, zero, suc, ◌+◌, ◌*◌, min, ◌≤◌}
use native.Mathlib.Omega.{arith}
use native.Mathlib.Nat.{zero-min, min-zero, suc-min-suc}
use lib.ListN.{length, take, drop, length-append, length-take}
use lib.Seq.{take-append_seam}
use Rattle.refusal.specs.declared.Refusal.{Refusal}
use Rattle.refusal.specs.Refusal.{number_of}
use Rattle.covering.specs.declared.Answer.{Answer}
use Rattle.covering.specs.Covering as Covering
use Rattle.covering.proofs.Table.{count_fits, Sound, result_sound}
use Rattle.covering.specs.Covering.{barred, refused, done, result_of, answer_of, values_told, memory_after, output_after, Answered}
use Rattle.selftest.specs.declared.Tested.{Tested}
use Rattle.text.specs.declared.Fault.{Fault}
use Rattle.text.specs.declared.Read.{Read}
use Rattle.text.specs.Text.{and_then, is_silent, list_after, start_of, end_after, words_with}
use Rattle.text.proofs.Laws.{words_fit, words_list}
use Rattle.tokens.specs.declared.Form.{Form}
use Rattle.replies.specs.Write.{Wrote, ok_text, disagree_text, error_text}
use Rattle.replies.proofs.Lengths.{wrote_whole, error_length, refused_length, ok_length}
use Rattle.region.specs.Region.{Area, cap_area, cell_area, list_area}
use Rattle.requests.specs.declared.line.Asked.{Asked}
use Rattle.requests.specs.declared.line.Named.{Named}
use Rattle.requests.specs.declared.line.Shape.{Shape}
use Rattle.requests.specs.Line.{kind_after, coverer_after, cap_after, cell_after, named_after, area_named, area_after, ids_named, ids_after, options_after, Wish, wish_with, wish_of, region_at, ids_of, shape_of, held, area_in, asked_of, asked_with, ReadShape, ReadAsked}
use Rattle.requests.specs.Requests.{allowance_of, result_for, result_in, result_text, text_at, memory_at, output_at, asked_text, asked_words, asked_memory, asked_output, answer_text, tested_text, AnsweredIn, Replied}

-- ---- a part no longer than the whole

pub take_min : (n : ℕ) (l : List ℕ) → take (min n (length l)) l ≡ take n l
take_min zero l = rw zero-min
take_min (suc n) [] = rw min-zero
take_min (suc n) (x ∷ l) = rw suc-min-suc (ap (λ (t : List ℕ). x ∷ t) (take_min n l))

pub drop_min : (n : ℕ) (l : List ℕ) → drop (min n (length l)) l ≡ drop n l
drop_min zero l = rw zero-min
drop_min (suc n) [] = rw min-zero
drop_min (suc n) (x ∷ l) = rw suc-min-suc (drop_min n l)

pub length_min : (n : ℕ) (l : List ℕ) → length (take (min n (length l)) l) ≡ min n (length l)
length_min n l = ap length (take_min n l) ∙ length-take n l

-- ---- what a request comes to, within its parts

-- what the coverer answers, with the allowance as a u32, is what the line comes to
pub answered_for : (w : Wish) (r : Result Answer Refusal) (mem mem' out out' : List ℕ) (allowance : ℕ) → allowance ≡ allowance_of w.allowance
    → Answered (result_of w.kind w.coverer w.area allowance (length mem) (length out)) r mem mem' out out' → Answered (result_for w (length mem) (length out)) r mem mem' out out'
unfolding result_for
answered_for w r mem mem' out out' allowance e = rw e (λ A. A)

module _ (w : Wish) (r : Result Answer Refusal) (mem part out places : List ℕ) (m o : ℕ) (em : m ≡ min w.mem (length mem)) (eo : o ≡ min w.out (length out)) where
  pub answered_in : Answered (result_for w (length (take m mem)) (length (take o out))) r (take m mem) part (take o out) places
      → AnsweredIn w r mem (part ++ drop m mem) out (places ++ drop o out)
  unfolding result_in
  answered_in = rw (em, eo, length_min, length_min, take_min, take_min, drop_min, drop_min) (λ A. record {
    answer = A.answer;
    memory = ap (λ (l : List ℕ). l ++ drop w.mem mem) A.memory;
    output = ap (λ (l : List ℕ). l ++ drop w.out out) A.output;
  })

in_sound : (w : Wish) (mem out : List ℕ) → Sound (min w.out (length out)) (result_in w mem out)
unfolding result_in result_for
in_sound w mem out = result_sound w.kind w.coverer w.area (allowance_of w.allowance) (min w.mem (length mem)) (min w.out (length out))

-- ---- the answer to a result, with the output that it leaves

pub asked_fits : (w : Wish) (a : Result Answer Refusal) (mem mem' out out' : List ℕ) → AnsweredIn w a mem mem' out out' → (values_told a).count ≤ length out'
asked_fits w a mem mem' out out' A = rw (A.answer, A.output) (simp length-append (omega (arith, count_fits (result_in w mem out) (take w.out out))))

-- what is written of engines that agree, and of engines that don't
module _ (form : Form) (t : Tested) (out : List ℕ) where
  agreed_text : t.agree ≡ true → tested_text form t out ≡ answer_text form t.answer out
  unfolding tested_text
  agreed_text h = rw (tested_text, h)

  module _ (page : List ℕ) (r : ℕ) (page' : List ℕ) where
    pub wrote_agreed : t.agree ≡ true → Wrote 0 (answer_text form t.answer out) page r page' → Wrote 0 (tested_text form t out) page r page'
    wrote_agreed h w = rw (agreed_text h) w

    pub wrote_disagree : t.agree ≡ false → Wrote 0 disagree_text page r page' → Wrote 0 (tested_text form t out) page r page'
    unfolding tested_text
    wrote_disagree h w = rw (tested_text, h) w

answer_text_lem : (form : Form) (room : ℕ) (R : Covering.Result) (out rest : List ℕ) → Sound room R → answer_text form (answer_of R) (output_after R out ++ rest) ≡ result_text form R
unfolding answer_of output_after result_text Sound
answer_text_lem form room (barred r) out rest h = refl
answer_text_lem form room (refused r) out rest h = refl
answer_text_lem form room (done l steps aside) out rest h = ap (ok_text form steps aside) (ap (take (length l)) (append_assoc l _ rest) ∙ take-append_seam l _)

-- ---- the length of an answer

sound_short : (form : Form) (room : ℕ) (R : Covering.Result) → Sound room R → length (result_text form R) ≤ 17 * room + 256
unfolding result_text Sound
sound_short form room (barred r) h = omega (arith, refused_length (number_of r))
sound_short form room (refused r) h = omega (arith, refused_length (number_of r))
sound_short form room (done l steps aside) h = omega (arith, ok_length form steps aside l, h)

in_short : (w : Wish) (mem out : List ℕ) → length (result_text w.form (result_in w mem out)) ≤ 17 * length out + 256
in_short w mem out =
    let room = min w.out (length out) in
    omega (arith, sound_short w.form room (result_in w mem out) (in_sound w mem out))

-- ---- what was read is what is asked, with the ids that stand in the words

-- a step that finds no fault goes on
pub step_ok : {A B : Type 0} (r : Result A Fault) (f : A → Result B Fault) (y : B) → and_then r f ≡ Ok y → (x : A) × (r ≡ Ok x) × (f x ≡ Ok y)
step_ok (Ok x) f y e = (x, refl, e)
step_ok (Err fault) f y e = cc

pub step_at : {A B : Type 0} (r : Result A Fault) (f : A → Result B Fault) (x : A) → r ≡ Ok x → and_then r f ≡ f x
step_at r f x e = rw e

pub step_err : {A B : Type 0} (r : Result A Fault) (f : A → B) (y : Fault) → and_then r (λ x. Ok (f x)) ≡ Err y → r ≡ Err y
step_err (Ok x) f y e = cc
step_err (Err fault) f y e = cc

area_ids : Area → List ℕ
area_ids (cap_area c) = []
area_ids (cell_area own) = []
area_ids (list_area ids) = ids

named_ids : (most : ℕ) (l : List ℕ) (at : ℕ) (named : Named) (a : Read Area) → area_named most l at named ≡ Ok a → ids_named most l at named ≡ area_ids a.value
unfolding area_named ids_named area_ids
named_ids most l at Named.Cap a e =
    let c = step_ok (cap_after l at) _ a e in
    let d : record { value = cap_area c.0.value; after = c.0.after } ≡ a = cc in
    ap (λ (x : Read Area). area_ids x.value) d
named_ids most l at Named.Cell a e =
    let c = step_ok (cell_after l at) _ a e in
    let d : record { value = cell_area c.0.value; after = c.0.after } ≡ a = cc in
    ap (λ (x : Read Area). area_ids x.value) d
named_ids most l at Named.List a e =
    let c = step_ok (list_after most l at).after _ a e in
    let d : record { value = list_area (list_after most l at).values; after = c.0 } ≡ a = cc in
    ap (λ (x : Read Area). area_ids x.value) d

after_ids : (most : ℕ) (l : List ℕ) (at : ℕ) (a : Read Area) → area_after most l at ≡ Ok a → ids_after most l at ≡ area_ids a.value
unfolding area_after ids_after
after_ids most l at a e =
    let n = step_ok (named_after l at) _ a e in
    rw (ids_after, n.1) (named_ids most l n.0.after n.0.value a n.2)

-- the ids that are left in the words are those of the area, where nothing is wrong
ids_is : (most : ℕ) (l : List ℕ) (w : Wish) → wish_of most l ≡ Ok w → ids_of most l ≡ area_ids w.area
unfolding wish_of ids_of
ids_is most l w e =
    let s = step_ok (start_of l) _ w e in
    let k = step_ok (kind_after l s.0) _ w s.2 in
    let c = step_ok (coverer_after l k.0.after) _ w k.2 in
    let g = step_ok (area_after most l c.0.after) _ w c.2 in
    let o = step_ok (options_after l g.0.after) _ w g.2 in
    let n = step_ok (end_after l o.0.after) _ w o.2 in
    let d : wish_with k.0.value c.0.value g.0.value o.0.value ≡ w = cc in
    let at : region_at l ≡ Ok c.0.after = unfold region_at in (step_at (start_of l) _ s.0 s.1 ∙ step_at (kind_after l s.0) _ k.0 k.1 ∙ step_at (coverer_after l k.0.after) _ c.0 c.1) in
    rw (ids_of, at) (after_ids most l c.0.after g.0 g.1 ∙ ap (λ (x : Wish). area_ids x.area) d)

shape_fits : (a : Area) (words words' : List ℕ) → words' ≡ words_with (area_ids a) words → held (shape_of a) ≤ length words'
unfolding shape_of area_ids
shape_fits (cap_area c) words words' e = omega arith
shape_fits (cell_area own) words words' e = omega arith
shape_fits (list_area ids) words words' e = words_fit ids words words' (length ids) refl e

area_back : (a : Area) (words words' : List ℕ) → words' ≡ words_with (area_ids a) words → area_in (shape_of a) words' ≡ a
unfolding shape_of area_ids
area_back (cap_area c) words words' e = refl
area_back (cell_area own) words words' e = refl
area_back (list_area ids) words words' e = ap list_area (words_list ids words words' (length ids) refl e)

-- a region that was read without a fault stands in the words
pub read_fits : (most : ℕ) (l : List ℕ) (at : ℕ) (r : Read Shape) (words words' : List ℕ) → ReadShape most l at (Ok r) words words' → held r.value ≤ length words'
read_fits most l at r words words' R =
    let g = step_ok (area_after most l at) _ r (sym R.read) in
    let d : record { value = shape_of g.0.value; after = g.0.after } ≡ r = cc in
    subst (λ (x : Read Shape). held x.value ≤ length words') d (shape_fits g.0.value words words' (R.ids ∙ ap (λ (ids : List ℕ). words_with ids words) (after_ids most l at g.0 g.1)))

-- what was read without a fault is what is asked
asks : (most : ℕ) (l : List ℕ) (q : Asked) → Ok q ≡ and_then (wish_of most l) (λ w. Ok (asked_of w)) → (w : Wish) × (wish_of most l ≡ Ok w) × (q ≡ asked_of w)
asks most l q e =
    let s = step_ok (wish_of most l) _ q (sym e) in
    let d : q ≡ asked_of s.0 = cc in
    (s.0, s.1, d)

module _ (line words words' : List ℕ) (q : Asked) (R : ReadAsked (length words) line (Ok q) words words') where
  w : Wish
  w = (asks (length words) line q R.read).0

  is : wish_of (length words) line ≡ Ok w
  unfolding w
  is = (asks (length words) line q R.read).1

  part : q ≡ asked_of w
  unfolding w
  part = (asks (length words) line q R.read).2

  ids : words' ≡ words_with (area_ids w.area) words
  ids = rw (← ids_is (length words) line w is) R.ids

  pub ids_fit : held q.shape ≤ length words'
  ids_fit = rw part (shape_fits w.area words words' ids)

  asked_back : (a : Area) → a ≡ area_in q.shape words' → asked_with q a ≡ w
  asked_back a e =
      let back : a ≡ w.area = e ∙ ap (λ (x : Asked). area_in x.shape words') part ∙ area_back w.area words words' ids in
      ap (λ (x : Asked). asked_with x a) part ∙ ap (asked_with (asked_of w)) back

-- ---- a line

module _ (number : ℕ) (line words mem out page : List ℕ) where
  pub replied_nothing : is_silent line ≡ true → Replied number line words words mem mem out out page 0 page
  unfolding asked_text asked_words asked_memory asked_output
  replied_nothing e = record { wrote = rw (asked_text, e) (record { count = refl; bytes = refl }); lent = rw (asked_words, e); memory = rw (asked_memory, e); output = rw (asked_output, e) }

  module _ (words' : List ℕ) (r : ℕ) (page' : List ℕ) (loud : is_silent line ≡ false) (room : 17 * length out + 256 ≤ length page) where
    pub replied_bad : (f : Fault) → ReadAsked (length words) line (Err f) words words' → Wrote 0 (error_text number f) page r page' → Replied number line words words' mem mem out out page r page'
    unfolding asked_text asked_words asked_memory asked_output text_at memory_at output_at
    replied_bad f R v =
        let e : wish_of (length words) line ≡ Err f = step_err (wish_of (length words) line) asked_of f (sym R.read) in
        record { wrote = rw (loud, e) (wrote_whole (omega (arith, error_length number f)) v); lent = rw loud R.ids; memory = rw (loud, e); output = rw (loud, e) }

    pub replied_asked : (q : Asked) (R : ReadAsked (length words) line (Ok q) words words') (a : Area) (t : Tested) (mem' out' : List ℕ) → a ≡ area_in q.shape words' → AnsweredIn (asked_with q a) t.answer mem mem' out out' × (t.agree ≡ true)
        → Wrote 0 (tested_text q.form t out') page r page'
        → Replied number line words words' mem mem' out out' page r page'
    unfolding asked_text asked_words asked_memory asked_output text_at memory_at output_at
    replied_asked q R a t mem' out' back B v =
        let x = w line words words' q R in
        let e = is line words words' q R in
        let A : AnsweredIn x t.answer mem mem' out out' = rw (asked_back line words words' q R a back) at B.0 in
        let s : tested_text q.form t out' ≡ result_text x.form (result_in x mem out) =
        agreed_text q.form t out' B.1 ∙ ap (λ (y : Asked). answer_text y.form t.answer out') (part line words words' q R) ∙ rw (A.answer, A.output) (answer_text_lem x.form _ (result_in x mem out) _ _ (in_sound x mem out)) in
        record {
          wrote = rw (loud, e) (wrote_whole (omega (arith, in_short x mem out)) (rw s at v));
          lent = rw loud R.ids;
          memory = rw (loud, e) A.memory;
          output = rw (loud, e) A.output;
        }
