-- What an answer says: how the code comes to it, each number exactly when the paper gives it, and what a caller may read from it.
use mathlib.Core.Path.{◌≡◌, refl, sym, ap, ap₂, ◌∙◌, subst}
use mathlib.Core.Logic.{⊎_elim, ◌↔◌}
use mathlib.Core.Bool.{Bool, true, false}
use mathlib.Core.List.{List}
use Prim.Native.Nat.{ℕ, ◌/◌, ◌≤◌, ◌<◌}
use native.Mathlib.Nat.{zero-add}
use native.Mathlib.Omega.{arith}
use lib.ListN.{length, take, drop}
use lib.Seq.{take_at, sets, sets-eq}
use lib.Dec.{leb}
use borrow.Author.Tests.{leb-true, leb-false, le-leb, lt-leb}
use Rattle.order.proofs.OrderLaws.{which}
use Rattle.cellunion.specs.CellUnion.{normalise, is_list}
use Rattle.std.specs.Prelude.{Result, Ok, Err}
use Rattle.refusal.specs.declared.Refusal.{Refusal}
use Rattle.ranges.specs.Ranges.{is_pairs, pairs_of, cells_of, fitted, result_of, pairs_result, cells_result, list_answer, output_after, Answered}
use Rattle.ranges.specs.Steps.{looked}
use Rattle.ranges.proofs.Laws.{pairs_short, there_and_back}

not_done : {A : Type 0} (k : ℕ) (r : Refusal) → ◌≡◌ {A = Result ℕ Refusal} (Err r) (Ok k) → A
not_done k r e = let z : ◌≡◌ {A = ℕ} 0 1 = cc in absurd (omega arith)

same_count : (k n : ℕ) → ◌≡◌ {A = Result ℕ Refusal} (Ok n) (Ok k) → k ≡ n
same_count k n e = cc

-- ---- what one look told

pub looked_done : (good : Bool) (l : List ℕ) (n : ℕ) → Ok n ≡ looked good l → (good ≡ true) × (n ≡ length l)
unfolding looked
looked_done true l n e = (refl, same_count n (length l) (sym e))
looked_done false l n e = not_done n Refusal.NotRanges (sym e)

pub looked_refused : (good : Bool) (l : List ℕ) (r : Refusal) → Err r ≡ looked good l → (good ≡ false) × (r ≡ Refusal.NotRanges)
unfolding looked
looked_refused true l n e = not_done (length l) n e
looked_refused false l n e = (refl, cc)

-- ---- a list, or a number where there is no room for it

fitted_done : (k : Refusal) (l : List ℕ) (room : ℕ) → length l ≤ room → fitted k l room ≡ Ok l
unfolding fitted
fitted_done k l room h = rw (fitted, le-leb (length l) room h)

fitted_full : (k : Refusal) (l : List ℕ) (room : ℕ) → room < length l → fitted k l room ≡ Err k
unfolding fitted
fitted_full k l room h = rw (fitted, lt-leb (length l) room h)

pub answered_refused : (n : Refusal) (out : List ℕ) → Answered (Err n) (Err n) out out
unfolding list_answer output_after
answered_refused n out = record { answer = refl; output = refl }

pub answered_full : (k : Refusal) (l out : List ℕ) (n : ℕ) → n ≡ length l → length out < n → Answered (fitted k l (length out)) (Err k) out out
answered_full k l out n e h = rw (fitted_full k l (length out) (omega arith)) (answered_refused k out)

pub answered_done : (k : Refusal) (l out : List ℕ) (n r : ℕ) (out' : List ℕ) → n ≡ length l → n ≤ length out → (r ≡ length l) × (out' ≡ sets out 0 l) → Answered (fitted k l (length out)) (Ok r) out out'
unfolding list_answer output_after
answered_done k l out n r out' e h w =
    rw (fitted_done k l (length out) (omega arith)) (record { answer = ap Ok w.0; output = w.1 ∙ (rw zero-add at (sets-eq l out 0 (omega arith))) })

-- exactly when: the list where there is room, the number where there is none
pub data Fitted (k : Refusal) (l : List ℕ) (room : ℕ) : Result (List ℕ) Refusal → Type 0 where
  full : room < length l → Fitted k l room (Err k)
  whole : length l ≤ room → Fitted k l room (Ok l)

pub fitted→ : (k : Refusal) (l : List ℕ) (room : ℕ) → Fitted k l room (fitted k l room)
unfolding fitted
fitted→ k l room = ⊎_elim
    (λ (t : leb (length l) room ≡ true). rw (fitted, t) (whole (leb-true _ _ t)))
    (λ (t : leb (length l) room ≡ false). rw (fitted, t) (full (leb-false _ _ t)))
    (which (leb (length l) room))

pub fitted← : (k : Refusal) (l : List ℕ) (room : ℕ) (R : Result (List ℕ) Refusal) → Fitted k l room R → fitted k l room ≡ R
fitted← k l room _ (full h) = fitted_full k l room h
fitted← k l room _ (whole h) = fitted_done k l room h

-- ---- the three answers

result_bad : (good : Bool) (l : List ℕ) (room : ℕ) → good ≡ false → result_of good l room ≡ Err Refusal.NotRanges
unfolding result_of
result_bad good l room e = rw (result_of, e)

result_good : (good : Bool) (l : List ℕ) (room : ℕ) → good ≡ true → result_of good l room ≡ fitted Refusal.RangesTooLong l room
unfolding result_of
result_good good l room e = rw (result_of, e)

pub answer_bad : (good : Bool) (l out : List ℕ) (n : Refusal) → Err n ≡ looked good l → Answered (result_of good l (length out)) (Err n) out out
answer_bad good l out n e =
    let q = looked_refused good l n e in
    rw (result_bad good l (length out) q.0, q.1) (answered_refused Refusal.NotRanges out)

pub answer_full : (good : Bool) (l out : List ℕ) (n : ℕ) → Ok n ≡ looked good l → length out < n → Answered (result_of good l (length out)) (Err Refusal.RangesTooLong) out out
answer_full good l out n e h =
    let q = looked_done good l n e in
    rw (result_good good l (length out) q.0) (answered_full Refusal.RangesTooLong l out n q.1 h)

pub answer_done : (good : Bool) (l out : List ℕ) (n r : ℕ) (out' : List ℕ) → Ok n ≡ looked good l → n ≤ length out → (r ≡ length l) × (out' ≡ sets out 0 l) → Answered (result_of good l (length out)) (Ok r) out out'
answer_done good l out n r out' e h w =
    let q = looked_done good l n e in
    rw (result_good good l (length out) q.0) (answered_done Refusal.RangesTooLong l out n r out' q.1 h w)

-- an output of two places an id has room for a list's pairs
pub room_sure : (ids : List ℕ) (room : ℕ) → length ids ≤ room / 2 → true ≡ leb (length (pairs_of ids)) room
room_sure ids room h = sym (le-leb (length (pairs_of ids)) room (omega (arith, pairs_short ids)))

-- the same by two tests: whether the input is good, and whether there is room
module _ (b good : Bool) (l out : List ℕ) (e : b ≡ good) where
  pub tested_bad : b ≡ false → Answered (result_of good l (length out)) (Err Refusal.NotRanges) out out
  tested_bad t = rw (result_bad good l (length out) (sym e ∙ t)) (answered_refused Refusal.NotRanges out)

  module _ (t : b ≡ true) (v : Bool) (r : v ≡ leb (length l) (length out)) where
    pub tested_full : v ≡ false → Answered (result_of good l (length out)) (Err Refusal.RangesTooLong) out out
    tested_full h = rw (result_good good l (length out) (sym e ∙ t)) (answered_full Refusal.RangesTooLong l out (length l) refl (leb-false (length l) (length out) (sym r ∙ h)))

    pub tested_done : (n : ℕ) (out' : List ℕ) → v ≡ true → (n ≡ length l) × (out' ≡ sets out 0 l) → Answered (result_of good l (length out)) (Ok n) out out'
    tested_done n out' h w = rw (result_good good l (length out) (sym e ∙ t)) (answered_done Refusal.RangesTooLong l out (length l) n out' refl (leb-true (length l) (length out) (sym r ∙ h)) w)

-- ---- each answer exactly when paper 02 says so

pub data Due (good : Bool) (l : List ℕ) (room : ℕ) : Result (List ℕ) Refusal → Type 0 where
  bad : good ≡ false → Due good l room (Err Refusal.NotRanges)
  fine : {R : Result (List ℕ) Refusal} → good ≡ true → Fitted Refusal.RangesTooLong l room R → Due good l room R

due : (good : Bool) (l : List ℕ) (room : ℕ) → Due good l room (result_of good l room)
unfolding result_of
due false l room = bad refl
due true l room = fine refl (fitted→ Refusal.RangesTooLong l room)

given : (good : Bool) (l : List ℕ) (room : ℕ) (R : Result (List ℕ) Refusal) → Due good l room R → result_of good l room ≡ R
given good l room _ (bad e) = result_bad good l room e
given good l room R (fine e F) = result_good good l room e ∙ fitted← Refusal.RangesTooLong l room R F

pub exactly_when : (good : Bool) (l : List ℕ) (room : ℕ) (R : Result (List ℕ) Refusal) → (result_of good l room ≡ R) ↔ Due good l room R
exactly_when good l room R = (λ e. subst (Due good l room) e (due good l room), given good l room R)

-- ---- what a caller may read

-- "output unchanged"
pub unchanged : (R : Result (List ℕ) Refusal) (n : Refusal) (out out' : List ℕ) → Answered R (Err n) out out' → out' ≡ out
unfolding list_answer output_after
unchanged (Err m) n out out' A = A.output
unchanged (Ok l) n out out' A = not_done (length l) n A.answer

-- a list that was given stands in the output's first places
pub record Written (R : Result (List ℕ) Refusal) (k : ℕ) (out' : List ℕ) : Type 0 where
  pub list : List ℕ
  pub is : R ≡ Ok list
  pub count : k ≡ length list
  pub there : take k out' ≡ list

pub written : (R : Result (List ℕ) Refusal) (k : ℕ) (out out' : List ℕ) → Answered R (Ok k) out out' → Written R k out'
unfolding list_answer output_after
written (Err n) k out out' A = not_done k n (sym A.answer)
written (Ok l) k out out' A =
    let c : k ≡ length l = same_count k (length l) (sym A.answer) in
    record { list = l; is = refl; count = c; there = ap₂ take c A.output ∙ take_at l (drop (length l) out) (length l) refl }

-- and it is the one that good input has
pub fitted_list : (k : Refusal) (l m : List ℕ) (room : ℕ) → fitted k l room ≡ Ok m → m ≡ l
unfolding fitted
fitted_list k l m room e = ⊎_elim
    (λ (t : leb (length l) room ≡ true). let q : Ok l ≡ Ok m = rw (fitted, t) at e in cc)
    (λ (t : leb (length l) room ≡ false). let q : Err k ≡ Ok m = rw (fitted, t) at e in cc)
    (which (leb (length l) room))

result_list : (good : Bool) (l m : List ℕ) (room : ℕ) → result_of good l room ≡ Ok m → (good ≡ true) × (m ≡ l)
unfolding result_of
result_list true l m room e = (refl, fitted_list Refusal.RangesTooLong l m room e)
result_list false l m room e = let z : ◌≡◌ {A = ℕ} 0 1 = cc in absurd (omega arith)

-- any two answers that are allowed coincide
pub determined : (R : Result (List ℕ) Refusal) (r s : Result ℕ Refusal) (out out' out'' : List ℕ) → Answered R r out out' → Answered R s out out'' → (r ≡ s) × (out' ≡ out'')
determined R r s out out' out'' A B = (A.answer ∙ sym B.answer, A.output ∙ sym B.output)

-- there and back through two outputs: what `pairs` wrote is taken by `cells` and becomes the normalised list
pub through : (ids : List ℕ) (k m : ℕ) (out out' mid mid' : List ℕ) → Answered (pairs_result ids (length out)) (Ok k) out out' → Answered (cells_result (take k out') (length mid)) (Ok m) mid mid' → take m mid' ≡ normalise ids
unfolding pairs_result cells_result
through ids k m out out' mid mid' A B =
    let P = written (pairs_result ids (length out)) k out out' A in
    let C = written (cells_result (take k out') (length mid)) m mid mid' B in
    let p = result_list (is_list ids) (pairs_of ids) P.list (length out) P.is in
    let c = result_list (is_pairs (take k out')) (cells_of (take k out')) C.list (length mid) C.is in
    C.there ∙ c.1 ∙ ap cells_of (P.there ∙ p.1) ∙ there_and_back ids p.0
