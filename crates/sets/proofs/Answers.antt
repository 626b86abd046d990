-- What an answer says: how the code comes to it, each number exactly when the paper gives it, and what a caller may read from it.
use mathlib.Core.Path.{◌≡◌, refl, sym, ap, ◌∙◌, subst}
use mathlib.Core.Logic.{⊎_elim, ◌↔◌}
use mathlib.Core.Bool.{Bool, true, false}
use mathlib.Core.List.{List}
use Prim.Native.Nat.{ℕ, ◌+◌, ◌≤◌}
use native.Mathlib.Omega.{arith}
use lib.ListN.{length, take}
use lib.Seq.{sets}
use lib.Dec.{leb}
use borrow.Author.Tests.{leb-true, leb-false, le-leb}
use Rattle.order.proofs.OrderLaws.{which}
use Rattle.std.specs.Prelude.{Result, Ok, Err}
use Rattle.refusal.specs.declared.Refusal.{Refusal}
use Rattle.ranges.specs.Ranges.{fitted, Answered}
use Rattle.cellunion.proofs.Lists.{is_list_lem}
use Rattle.ranges.proofs.Answers.{answered_refused, answered_full, answered_done, Fitted, fitted→, fitted←, fitted_list, written}
use Rattle.sets.specs.declared.Op.{Op}
use Rattle.picklist.specs.PickList.{is_pick_list}
use Rattle.picklist.proofs.Laws.{pick_list}
use Rattle.sets.specs.Sets.{combined, set_result}
use Rattle.sets.specs.Steps.{is_short}
use Rattle.sets.proofs.Lengths.{short_is}

-- ---- room for the answer

pub room_sure : (op : Op) (a b : List ℕ) (room : ℕ) (s : Bool) → is_pick_list a ≡ true → is_pick_list b ≡ true → s ≡ is_short op → s ≡ true → length a + length b ≤ room → true ≡ leb (length (combined op a b)) room
room_sure op a b room s t u e h g = sym (le-leb (length (combined op a b)) room (omega (arith, short_is op a b ((is_list_lem a).0 (pick_list a t)).0 ((is_list_lem b).0 (pick_list b u)).0 (sym e ∙ h))))

-- ---- the four answers

module _ (op : Op) (a b : List ℕ) (room : ℕ) where
  result_first : is_pick_list a ≡ false → set_result op a b room ≡ Err Refusal.FirstList
  unfolding set_result
  result_first t = rw (set_result, t)

  result_second : is_pick_list a ≡ true → is_pick_list b ≡ false → set_result op a b room ≡ Err Refusal.SecondList
  unfolding set_result
  result_second t u = rw (set_result, t, u)

  result_both : is_pick_list a ≡ true → is_pick_list b ≡ true → set_result op a b room ≡ fitted Refusal.SetTooLong (combined op a b) room
  unfolding set_result
  result_both t u = rw (set_result, t, u)

module _ (op : Op) (a b out : List ℕ) (x : Bool) (ex : x ≡ is_pick_list a) where
  pub answer_first : x ≡ false → Answered (set_result op a b (length out)) (Err Refusal.FirstList) out out
  answer_first t = rw (result_first op a b (length out) (sym ex ∙ t)) (answered_refused Refusal.FirstList out)

  module _ (t : x ≡ true) (y : Bool) (ey : y ≡ is_pick_list b) where
    pub answer_second : y ≡ false → Answered (set_result op a b (length out)) (Err Refusal.SecondList) out out
    answer_second u = rw (result_second op a b (length out) (sym ex ∙ t) (sym ey ∙ u)) (answered_refused Refusal.SecondList out)

    module _ (u : y ≡ true) (v : Bool) (e : v ≡ leb (length (combined op a b)) (length out)) where
      pub answer_full : v ≡ false → Answered (set_result op a b (length out)) (Err Refusal.SetTooLong) out out
      answer_full h = rw (result_both op a b (length out) (sym ex ∙ t) (sym ey ∙ u)) (answered_full Refusal.SetTooLong (combined op a b) out (length (combined op a b)) refl (leb-false (length (combined op a b)) (length out) (sym e ∙ h)))

      pub answer_done : (r : ℕ) (out' : List ℕ) → v ≡ true → (r ≡ length (combined op a b)) × (out' ≡ sets out 0 (combined op a b)) → Answered (set_result op a b (length out)) (Ok r) out out'
      answer_done r out' h w = rw (result_both op a b (length out) (sym ex ∙ t) (sym ey ∙ u)) (answered_done Refusal.SetTooLong (combined op a b) out (length (combined op a b)) r out' refl (leb-true (length (combined op a b)) (length out) (sym e ∙ h)) w)

-- ---- each answer exactly when paper 02 says so

pub data Due (op : Op) (a b : List ℕ) (room : ℕ) : Result (List ℕ) Refusal → Type 0 where
  first : is_pick_list a ≡ false → Due op a b room (Err Refusal.FirstList)
  second : is_pick_list a ≡ true → is_pick_list b ≡ false → Due op a b room (Err Refusal.SecondList)
  both : {R : Result (List ℕ) Refusal} → is_pick_list a ≡ true → is_pick_list b ≡ true → Fitted Refusal.SetTooLong (combined op a b) room R → Due op a b room R

module _ (op : Op) (a b : List ℕ) (room : ℕ) where
  due : Due op a b room (set_result op a b room)
  due = ⊎_elim
      (λ (t : is_pick_list a ≡ true). ⊎_elim
      (λ (u : is_pick_list b ≡ true). rw (result_both op a b room t u) (both t u (fitted→ Refusal.SetTooLong (combined op a b) room)))
      (λ (u : is_pick_list b ≡ false). rw (result_second op a b room t u) (second t u))
      (which (is_pick_list b)))
      (λ (t : is_pick_list a ≡ false). rw (result_first op a b room t) (first t))
      (which (is_pick_list a))

  given : (R : Result (List ℕ) Refusal) → Due op a b room R → set_result op a b room ≡ R
  given _ (first t) = result_first op a b room t
  given _ (second t u) = result_second op a b room t u
  given R (both t u F) = result_both op a b room t u ∙ fitted← Refusal.SetTooLong (combined op a b) room R F

  pub exactly_when : (R : Result (List ℕ) Refusal) → (set_result op a b room ≡ R) ↔ Due op a b room R
  exactly_when R = (λ e. subst (Due op a b room) e due, given R)

-- ---- what a caller may read from a list that was given

pub record Given (op : Op) (a b : List ℕ) (k : ℕ) (out' : List ℕ) : Type 0 where
  pub first : is_pick_list a ≡ true
  pub second : is_pick_list b ≡ true
  pub count : k ≡ length (combined op a b)
  pub is : take k out' ≡ combined op a b

due_list : (op : Op) (a b l : List ℕ) (room : ℕ) (R : Result (List ℕ) Refusal) → Due op a b room R → R ≡ Ok l → (is_pick_list a ≡ true) × (is_pick_list b ≡ true) × (l ≡ combined op a b)
due_list op a b l room _ (first t) e = let z : ◌≡◌ {A = ℕ} 0 1 = cc in absurd (omega arith)
due_list op a b l room _ (second t u) e = let z : ◌≡◌ {A = ℕ} 0 1 = cc in absurd (omega arith)
due_list op a b l room R (both t u F) e = (t, u, fitted_list Refusal.SetTooLong (combined op a b) l room (fitted← Refusal.SetTooLong (combined op a b) room R F ∙ e))

pub set_written : (op : Op) (a b : List ℕ) (k : ℕ) (out out' : List ℕ) → Answered (set_result op a b (length out)) (Ok k) out out' → Given op a b k out'
set_written op a b k out out' A =
    let W = written (set_result op a b (length out)) k out out' A in
    let q = due_list op a b W.list (length out) (set_result op a b (length out)) (due op a b (length out)) W.is in
    record { first = q.0; second = q.1; count = W.count ∙ ap length q.2; is = W.there ∙ q.2 }
