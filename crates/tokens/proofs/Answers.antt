-- What an answer says: each number exactly when the paper gives it, and what a caller may read from it, there and back over two outputs.
use mathlib.Core.Path.{◌≡◌, refl, sym, ap, ◌∙◌, subst}
use mathlib.Core.Bool.{Bool, true, false}
use mathlib.Core.List.{List, [], ◌∷◌}
use Rattle.std.proofs.Common.{Option, Some, None, Result, Ok, Err}
use mathlib.Core.Logic.{◌↔◌}
use Prim.Native.Nat.{ℕ, suc, ◌+◌, ◌≤◌, ◌<◌}
use native.Mathlib.Omega.{arith}
use lib.Dec.{leb}
use lib.ListN.{length, take, drop, length-append}
use lib.Seq.{take_at}
use borrow.Author.Tests.{leb-true, leb-false, le-leb, lt-leb}
use Rattle.cellid.specs.CellId.{valid_id}
use Rattle.tokens.specs.declared.Form.{Form}
use Rattle.refusal.specs.declared.Refusal.{Refusal}
use Rattle.tokens.specs.Tokens.{lines_of, ids_of, first_bad, result_of, write_result, read_result, length_of, output_after, Answered}
use Rattle.tokens.specs.Texts.{AllValid, none, more, FirstBad, here, next, Readable, BadLine}
use Rattle.tokens.proofs.Turns.{bad_go, bad_here}
use Rattle.tokens.proofs.Laws.{read_written, written_read, readable, bad_line}

-- ---- what was seen

pub seen_all : (l : List ℕ) (k : ℕ) → AllValid l → first_bad k l ≡ None
unfolding first_bad
seen_all [] k none = refl
seen_all (id ∷ l) k (more v a) = bad_go k id (id ∷ l) l refl v ∙ seen_all l (k + 1) a

seen_first : (l : List ℕ) (k n : ℕ) → FirstBad l n → first_bad k l ≡ Some (k + n)
seen_first [] k n x = elim x [ ]
seen_first (id ∷ l) k _ (here v) = bad_here k id (id ∷ l) l refl v
seen_first (id ∷ l) k _ (next {n = n} v f) =
    let e : (k + 1) + n ≡ k + suc n = omega arith in
    bad_go k id (id ∷ l) l refl v ∙ seen_first l (k + 1) n f ∙ ap Some e

data Sight (k : ℕ) (l : List ℕ) : Option ℕ → Type 0 where
  all : AllValid l → Sight k l None
  some : (n : ℕ) → FirstBad l n → Sight k l (Some (k + n))

sight_by_lem : (u : Bool) (k id : ℕ) (l : List ℕ) → valid_id id ≡ u → Sight (k + 1) l (first_bad (k + 1) l) → Sight k (id ∷ l) (first_bad k (id ∷ l))
sight_by_lem true k id l v s = rw (bad_go k id (id ∷ l) l refl v) (on (first_bad (k + 1) l) s)
  where
    on : (t : Option ℕ) → Sight (k + 1) l t → Sight k (id ∷ l) t
    on _ (all a) = all (more v a)
    on _ (some n f) =
        let e : k + suc n ≡ (k + 1) + n = omega arith in
        subst (λ (m : ℕ). Sight k (id ∷ l) (Some m)) e (some (suc n) (next v f))
sight_by_lem false k id l v s = rw (bad_here k id (id ∷ l) l refl v) (some 1 (here v))

sight : (l : List ℕ) (k : ℕ) → Sight k l (first_bad k l)
unfolding first_bad
sight [] k = all none
sight (id ∷ l) k = sight_by_lem (valid_id id) k id l refl (sight l (k + 1))

-- ---- each answer exactly when paper 02 says so; l is the text or the list

pub data Due (ids l : List ℕ) (room : ℕ) : Result (List ℕ) Refusal → Type 0 where
  is_11 : (n : ℕ) → FirstBad ids n → Due ids l room (Err (Refusal.Malformed n))
  is_12 : AllValid ids → room < length l → Due ids l room (Err Refusal.NamesTooLong)
  is_0 : AllValid ids → length l ≤ room → Due ids l room (Ok l)

module _ (ids l : List ℕ) (room : ℕ) where
  due_by : (u : Bool) → leb (length l) room ≡ u → AllValid ids → Due ids l room (elim u [ true ↦ Ok l | false ↦ Err Refusal.NamesTooLong ])
  due_by true e a = is_0 a (leb-true _ _ e)
  due_by false e a = is_12 a (leb-false _ _ e)

  due : (s : Option ℕ) → Sight 0 ids s → Due ids l room (result_of s l room)
  unfolding result_of
  due _ (all a) = due_by (leb (length l) room) refl a
  due _ (some n f) = let e : 0 + n ≡ n = omega arith in rw e (is_11 n f)

  given : (R : Result (List ℕ) Refusal) → Due ids l room R → result_of (first_bad 0 ids) l room ≡ R
  unfolding result_of
  given _ (is_11 n f) = let e : 0 + n ≡ n = omega arith in rw (seen_first ids 0 n f, e)
  given _ (is_12 a h) = rw (seen_all ids 0 a, result_of, lt-leb _ _ h)
  given _ (is_0 a h) = rw (seen_all ids 0 a, result_of, le-leb _ _ h)

  exactly : (R : Result (List ℕ) Refusal) → (result_of (first_bad 0 ids) l room ≡ R) ↔ Due ids l room R
  exactly R = (λ e. subst (Due ids l room) e (due (first_bad 0 ids) (sight ids 0)), given R)

pub write_when : (form : Form) (ids : List ℕ) (room : ℕ) (R : Result (List ℕ) Refusal) → (write_result form ids room ≡ R) ↔ Due ids (lines_of form ids) room R
unfolding write_result
write_when form ids room R = exactly ids (lines_of form ids) room R

pub read_when : (form : Form) (text : List ℕ) (room : ℕ) (R : Result (List ℕ) Refusal) → (read_result form text room ≡ R) ↔ Due (ids_of form text) (ids_of form text) room R
unfolding read_result
read_when form text room R = exactly (ids_of form text) (ids_of form text) room R

-- in words of lines: 11 where there is a malformed line, with the number of the first ..
pub malformed_line : (form : Form) (text : List ℕ) (room n : ℕ) → (read_result form text room ≡ Err (Refusal.Malformed n)) ↔ BadLine form text n
malformed_line form text room n = (
  λ e. first (Err (Refusal.Malformed n)) n refl ((read_when form text room (Err (Refusal.Malformed n))).0 e),
  λ B. (read_when form text room (Err (Refusal.Malformed n))).1 (is_11 n ((bad_line form text n).1 B)),
)
  where
    first : (R : Result (List ℕ) Refusal) (n : ℕ) → R ≡ Err (Refusal.Malformed n) → Due (ids_of form text) (ids_of form text) room R → BadLine form text n
    first _ n e (is_11 m f) = let g : m ≡ n = cc in rw g at ((bad_line form text m).0 f)
    first _ n e (is_12 a h) = cc
    first _ n e (is_0 a h) = cc

-- .. and a list exactly if every line is a name of a valid id, ended by a newline, and there is room
pub readable_when : (form : Form) (text : List ℕ) (room : ℕ) → (read_result form text room ≡ Ok (ids_of form text)) ↔ (Readable form text × (length (ids_of form text) ≤ room))
readable_when form text room = (
  λ e. whole (Ok (ids_of form text)) refl ((read_when form text room (Ok (ids_of form text))).0 e),
  λ p. (read_when form text room (Ok (ids_of form text))).1 (is_0 ((readable form text).1 p.0) p.1),
)
  where
    whole : (R : Result (List ℕ) Refusal) → R ≡ Ok (ids_of form text) → Due (ids_of form text) (ids_of form text) room R → Readable form text × (length (ids_of form text) ≤ room)
    whole _ e (is_11 m f) = cc
    whole _ e (is_12 a h) = cc
    whole _ e (is_0 a h) = ((readable form text).0 a, h)

-- ---- what a caller may read

-- "the output unchanged in both"
pub unchanged : (R : Result (List ℕ) Refusal) (e : Refusal) (out out' : List ℕ) → Answered R (Err e) out out' → out' ≡ out
unfolding length_of output_after
unchanged (Err (Refusal.Malformed k)) e out out' A = A.output
unchanged (Err f) e out out' A = A.output
unchanged (Ok l) e out out' A = let z = A.answer in cc

-- a text or a list that was given stands in the output's first places
pub record Written (R : Result (List ℕ) Refusal) (n : ℕ) (out' : List ℕ) : Type 0 where
  pub list : List ℕ
  pub is : R ≡ Ok list
  pub count : n ≡ length list
  pub there : take n out' ≡ list
  pub within : n ≤ length out'

pub written : (R : Result (List ℕ) Refusal) (n : ℕ) (out out' : List ℕ) → Answered R (Ok n) out out' → Written R n out'
unfolding length_of output_after
written (Err f) n out out' A = let e = A.answer in cc
written (Ok l) n out out' A =
    let e = A.answer in
    let k : n ≡ length l = cc in
    record { list = l; is = refl; count = k; there = rw A.output (take_at l _ n (sym k)); within = rw (A.output, output_after, length-append l (drop (length l) out)) (omega (arith, k)) }

-- what is done tells that all ids are valid, and what was given
is_done_lem : (room : ℕ) (R : Result (List ℕ) Refusal) {ids l list : List ℕ} → R ≡ Ok list → Due ids l room R → AllValid ids × (list ≡ l)
is_done_lem room _ e (is_11 n f) = cc
is_done_lem room _ e (is_12 a h) = cc
is_done_lem room _ e (is_0 a h) = (a, cc)

-- the bytes that were written are read as the list ..
pub through_text : (form : Form) (ids : List ℕ) (n : ℕ) (text text' : List ℕ) (room : ℕ) → Answered (write_result form ids (length text)) (Ok n) text text' → length ids ≤ room
    → read_result form (take n text') room ≡ Ok ids
through_text form ids n text text' room A h =
    let W = written _ n text text' A in
    let D = is_done_lem _ _ refl ((write_when form ids (length text) (Ok W.list)).0 W.is) in
    ap (λ (t : List ℕ). read_result form t room) (W.there ∙ D.1)
    ∙ (read_when form (lines_of form ids) room (Ok ids)).1 (rw (read_written form ids D.0) (is_0 D.0 h))

-- .. and the ids that were read are written as the text
pub through_list : (form : Form) (text : List ℕ) (n : ℕ) (ids ids' : List ℕ) (room : ℕ) → Answered (read_result form text (length ids)) (Ok n) ids ids' → length text ≤ room
    → write_result form (take n ids') room ≡ Ok text
through_list form text n ids ids' room A h =
    let W = written _ n ids ids' A in
    let D = is_done_lem _ _ refl ((read_when form text (length ids) (Ok W.list)).0 W.is) in
    ap (λ (l : List ℕ). write_result form l room) (W.there ∙ D.1)
    ∙ (write_when form (ids_of form text) room (Ok text)).1 (rw (written_read form text D.0) (is_0 D.0 h))

-- two calls with the same input, and the same output before, have the same answer, and leave the same output
pub determined : (R : Result (List ℕ) Refusal) (a b : Result ℕ Refusal) (out x y : List ℕ) → Answered R a out x → Answered R b out y → (a ≡ b) × (x ≡ y)
determined R a b out x y A B = (A.answer ∙ sym B.answer, A.output ∙ sym B.output)
