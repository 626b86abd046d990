-- The plain list holds the sorted list with insertion: what is put at its end is inserted, and what is left when the last record takes the least one's place is
-- the list without its first. Assumes nothing.
use mathlib.Core.Path.{◌≡◌, sym, ap, ◌∙◌}
use mathlib.Core.Bool.{Bool, true, false}
use mathlib.Core.Logic.{⊎_elim, by_cases}
use mathlib.Core.List.{List, ◌∷◌}
use Prim.Native.Nat.{ℕ, zero, suc, ◌≤◌, ◌<◌}
use native.Mathlib.Omega.{arith}
use native.Mathlib.Decide.{ℕ_discrete}
use Rattle.order.specs.Order.{Order, Le, insert, gather}
use Rattle.order.specs.Heap.{Store}
use Rattle.order.specs.Plain.{least_at, closed}
use Rattle.order.proofs.OrderLaws.{which, le_refl, gather_cong, gather_replace, gather_All, insert_least}

module _ {M A : Type 0} (get : M → ℕ → A) (lt : A → A → Bool) where
  -- the next record goes before all before it, or it doesn't
  pub least_new : (m : M) (k : ℕ) → lt (get m (suc k)) (get m (least_at get lt m k)) ≡ true → least_at get lt m (suc k) ≡ suc k
  unfolding least_at
  least_new m k e = rw (e, least_at)

  pub least_old : (m : M) (k : ℕ) → lt (get m (suc k)) (get m (least_at get lt m k)) ≡ false → least_at get lt m (suc k) ≡ least_at get lt m k
  unfolding least_at
  least_old m k e = rw (e, least_at)

  pub least_place_lem : (m : M) (k : ℕ) → least_at get lt m k ≤ k
  unfolding least_at
  least_place_lem m zero = omega arith
  least_place_lem m (suc k) = ⊎_elim
      (λ (e : lt (get m (suc k)) (get m (least_at get lt m k)) ≡ true). omega (arith, least_new m k e))
      (λ (e : lt (get m (suc k)) (get m (least_at get lt m k)) ≡ false). omega (arith, least_old m k e, least_place_lem m k))
      (which (lt (get m (suc k)) (get m (least_at get lt m k))))

  module _ (O : Order lt) where
    least_le : (m : M) (k i : ℕ) → i ≤ k → Le lt (get m (least_at get lt m k)) (get m i)
    unfolding least_at
    least_le m zero i h = let e : i ≡ 0 = omega arith in rw e (le_refl lt O _)
    least_le m (suc k) i h = ⊎_elim
        (λ (e : lt (get m (suc k)) (get m (least_at get lt m k)) ≡ true). rw (least_new m k e) (by_cases (ℕ_discrete i (suc k))
        (λ s. rw s (le_refl lt O _))
        (λ s. O.trans _ _ _ (O.asym _ _ e) (least_le m k i (omega arith)))))
        (λ (e : lt (get m (suc k)) (get m (least_at get lt m k)) ≡ false). rw (least_old m k e) (by_cases (ℕ_discrete i (suc k))
        (λ s. rw s e)
        (λ s. least_le m k i (omega arith))))
        (which (lt (get m (suc k)) (get m (least_at get lt m k))))

    module _ (put : M → ℕ → A → M) (cap : M → ℕ) (St : Store get put cap) where
      pub added_list : (m : M) (n : ℕ) (a : A) (q : List A) → n < cap m → gather lt (get m) n ≡ q → gather lt (get (put m n a)) (suc n) ≡ insert lt a q
      unfolding gather
      added_list m n a q room e =
          ap (λ (x : A). insert lt x (gather lt (get (put m n a)) n)) (St.same m n a room)
          ∙ ap (insert lt a) (gather_cong lt O (get m) (get (put m n a)) n (λ i l. St.other m n i a room (omega arith)) ∙ e)

      pub closed_list : (m : M) (n : ℕ) (q : List A) → n < cap m → gather lt (get m) (suc n) ≡ q → q ≡ get m (least_at get lt m n) ∷ gather lt (get (closed get put lt m n)) n
      unfolding gather closed
      closed_list m n q room e =
          let j : ℕ = least_at get lt m n in
          let j-le : j ≤ n = least_place_lem m n in
          let g : ℕ → A = get (put m j (get m n)) in
          let at_j : g j ≡ get m n = St.same m j (get m n) (omega arith) in
          let all : (i : ℕ) → i < n → Le lt (get m j) (g i) = λ i l. by_cases (ℕ_discrete i j)
          (λ s. rw (s, at_j) (least_le m n n (omega arith)))
          (λ s. rw (St.other m j i (get m n) (omega arith) s) (least_le m n i (omega arith))) in
          sym e
          ∙ by_cases (ℕ_discrete j n)
          (λ s. ap (λ (k : ℕ). insert lt (get m k) (gather lt (get m) n)) (sym s)
          ∙ ap (insert lt (get m j)) (sym (gather_cong lt O (get m) g n (λ i l. St.other m j i (get m n) (omega arith) (omega arith)))))
          (λ s. ap (λ (x : A). insert lt x (gather lt (get m) n)) (sym at_j)
          ∙ sym (gather_replace lt O (get m) g n j (omega arith) (λ i l d. St.other m j i (get m n) (omega arith) d)))
          ∙ insert_least lt O (get m j) _ (gather_All lt O (Le lt (get m j)) g n all)
