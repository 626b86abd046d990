-- The run's states are those after each step, and its step number is their count; an inner run sets nothing aside; the run
-- gives the refusals 7, 8 and 9 and no other.
use mathlib.Core.Path.{◌≡◌, refl, sym, ap, ◌∙◌, subst}
use mathlib.Core.Bool.{Bool, true, false, true≢false}
use mathlib.Core.Logic.{⊎_elim}
use mathlib.Core.List.{List, [], ◌∷◌, ◌++◌}
use Prim.Native.Nat.{ℕ, zero, suc, ◌+◌, ◌≤◌, ◌<◌}
use native.Mathlib.Nat.{eq-or-lt_of_le}
use native.Mathlib.Omega.{arith}
use lib.Dec.{ltb}
use lib.ListN.{length}
use Rattle.refusal.specs.declared.Refusal.{Refusal}
use Rattle.refusal.specs.Refusal.{number_of}
use Rattle.order.specs.Order.{insert}
use Rattle.run.specs.Run.{Child, Grown, Look, Outcome, State, add, add_all, after, divide, enqueue, fails, going, is_handed_on, is_empty, is_full, keep, lifts, look, loop, none, nothing, placed, refused, run, set_aside, start_all, start_as, step, step_on, step_with, terminal, then, expansion_of, Task, queue_most, raw_most, ◌by◌}
use Rattle.run.proofs.Lists.{Fares, then_fares, Holds, then_ok, if_ok, empty_nil}

-- ---- what every part of the run keeps: a fact P of states that a change of the raw list, a change of the queue and setting aside leave true, and a fact R
-- of the refusals

module _ (T : Task) (lt : Grown → Grown → Bool) (P : State → Type 0) (R : Refusal → Type 0) (seven : R Refusal.QueueFull) (eight : R Refusal.RawFull)
    (on-raw : (s : State) (l : List Grown) → P s → P (record { raw = l; queue = s.queue; aside = s.aside; steps = s.steps }))
    (on-queue : (s : State) (l : List Grown) → P s → P (record { raw = s.raw; queue = l; aside = s.aside; steps = s.steps }))
    (on-aside : (s : State) (i : ℕ) (l : List ℕ) → P s → P (set_aside T.asked i l s)) where
  keep_walk : (c : Grown) (s : State) → P s → Fares P R (keep c s)
  unfolding keep Fares
  keep_walk c s p = if_ok (Fares P R) (ltb (length s.raw) raw_most) _ _ (λ t. on-raw s (s.raw ++ (c ∷ [])) p) (λ t. eight)

  enqueue_walk : (c : Grown) (s : State) → P s → Fares P R (enqueue lt c s)
  unfolding enqueue Fares
  enqueue_walk c s p = if_ok (Fares P R) (ltb (length s.queue) queue_most) _ _ (λ t. on-queue s (insert lt c s.queue) p) (λ t. seven)

  add_walk : (c : Grown) (b : Bool) (s : State) → P s → Fares P R (add (T by lt) c b s)
  unfolding add Fares
  add_walk c true s p = keep_walk c s p
  add_walk c false s p = if_ok (Fares P R) (is_empty (expansion_of T c.id).children) _ _
      (λ t. on-aside s c.from (expansion_of T c.id).failed p)
      (λ t. if_ok (Fares P R) (lifts T c.id) _ _ (λ u. keep_walk c s p) (λ u. enqueue_walk c s p))

  add_all_walk : (i : ℕ) (l : List Child) (s : State) → P s → Fares P R (add_all (T by lt) i l s)
  unfolding add_all Fares
  add_all_walk i [] s p = p
  add_all_walk i (k ∷ l) s p = if_ok (Fares P R) (is_full T.asked s) _ _
      (λ t. add_all_walk i l s p)
      (λ t. then_fares P P R _ _ (add_walk _ k.ends s p) (λ s' r. add_all_walk i l s' r))

  pub with_walk : (c : Grown) (s : State) → P s → Fares P R (step_with (T by lt) c s)
  unfolding step_with Fares
  with_walk c s p = if_ok (Fares P R) (is_full T.asked s) _ _
      (λ t. on-queue s [] p)
      (λ t. if_ok (Fares P R) (is_handed_on T c s) _ _
      (λ u. add_all_walk c.from (expansion_of T c.id).children _ (on-aside s c.from (expansion_of T c.id).failed p))
      (λ u. keep_walk c s p))

  start_walk : (v : Look) (c : Grown) (s : State) → P s → Fares P R (start_as (T by lt) v c s)
  unfolding start_as Fares
  start_walk fails c s p = on-aside s c.from (c.id ∷ []) p
  start_walk none c s p = p
  start_walk terminal c s p = add_walk c true s p
  start_walk divide c s p = add_walk c false s p

  pub start_all_walk : (l : List Grown) (s : State) → P s → Fares P R (start_all (T by lt) l s)
  unfolding start_all Fares
  start_all_walk [] s p = p
  start_all_walk (c ∷ l) s p = then_fares P P R _ _ (start_walk (look T c.id) c s p) (λ s' r. start_all_walk l s' r)

-- ---- the number of steps

module _ (T : Task) (lt : Grown → Grown → Bool) where
  abbrev Took : ℕ → State → Type 0
  Took n s = s.steps ≡ n

  aside_steps : (n : ℕ) (s : State) (i : ℕ) (l : List ℕ) → Took n s → Took n (set_aside T.asked i l s)
  unfolding set_aside
  aside_steps n s i l e = if_ok (Took n) T.asked.inner _ _ (λ t. e) (λ t. e)

  -- a step that takes one counts one
  step_steps : (c : Grown) (l : List Grown) (s : State) → s.queue ≡ c ∷ l → Holds (Took (suc s.steps)) (step (T by lt) s)
  unfolding step step_on
  step_steps c l s e =
      let n = suc s.steps in
      rw (e, step_on) (with_walk T lt (Took n) (λ k. Unit) tt tt (λ t x h. h) (λ t x h. h) (aside_steps n) c (record { raw = s.raw; queue = l; aside = s.aside; steps = n }) refl)

  start_steps : (l : List Grown) → Holds (Took 0) (start_all (T by lt) l nothing)
  start_steps l = start_all_walk T lt (Took 0) (λ k. Unit) tt tt (λ t x h. h) (λ t x h. h) (aside_steps 0) l nothing refl

  then_at : (o : Outcome) (f : State → Outcome) (s : State) → then o f ≡ going s → (t : State) × (o ≡ going t) × (f t ≡ going s)
  unfolding then
  then_at (refused r) f s e = let z : ◌≡◌ {A = ℕ} 0 1 = cc in absurd (omega arith)
  then_at (going t) f s e = (t, refl, e)

  taken : (l : List Grown) (s : State) → s.queue ≡ l → is_empty l ≡ false → Holds (Took (suc s.steps)) (step (T by lt) s)
  unfolding is_empty
  taken [] s e t = absurd (true≢false t)
  taken (c ∷ l) s e t = step_steps c l s e

  stepped : (s : State) → is_empty s.queue ≡ false → Holds (Took (suc s.steps)) (step (T by lt) s)
  stepped s t = taken s.queue s refl t

  pub steps_one : (s t : State) → is_empty s.queue ≡ false → step (T by lt) s ≡ going t → t.steps ≡ suc s.steps
  unfolding Fares
  steps_one s t e d = subst (Holds (Took (suc s.steps))) d (stepped s e)

  pub steps_none : (starts : List ℕ) (s : State) → after (T by lt) starts 0 ≡ going s → s.steps ≡ 0
  unfolding after Fares
  steps_none starts s e = subst (Holds (Took 0)) e (start_steps (placed 0 starts))

  module _ (starts : List ℕ) where
    -- a run that ends in s: n steps were done before
    pub record Ends (n a : ℕ) (s : State) : Type 0 where
      pub empty : s.queue ≡ []
      pub allowed : s.steps ≤ n + a
      pub least : n ≤ s.steps
      pub last : after (T by lt) starts s.steps ≡ going s
      pub each : (k : ℕ) → n ≤ k → k ≤ s.steps → (t : State) × (after (T by lt) starts k ≡ going t) × (t.steps ≡ k)

    ends_now : (n a : ℕ) (s₀ s : State) → after (T by lt) starts n ≡ going s₀ → s₀.steps ≡ n → is_empty s₀.queue ≡ true → ◌≡◌ {A = Outcome} (going s₀) (going s) → Ends n a s
    ends_now n a s₀ s e d t f =
        let g : s₀ ≡ s = cc in
        subst (Ends n a) g (record {
          empty = empty_nil s₀.queue t;
          allowed = omega arith;
          least = omega arith;
          last = ap (after (T by lt) starts) d ∙ e;
          each = λ k h l. let z : n ≡ k = omega arith in (s₀, ap (after (T by lt) starts) (sym z) ∙ e, d ∙ z);
        })

    loop_ends : (a n : ℕ) (s₀ s : State) → after (T by lt) starts n ≡ going s₀ → s₀.steps ≡ n → loop (T by lt) a s₀ ≡ going s → Ends n a s
    unfolding loop after Fares then
    loop_ends zero n s₀ s e d f = if_ok (λ o. o ≡ going s → Ends n 0 s) (is_empty s₀.queue) _ _
        (λ t g. ends_now n 0 s₀ s e d t g)
        (λ t g. let z : ◌≡◌ {A = ℕ} 0 1 = cc in absurd (omega arith)) f
    loop_ends (suc a) n s₀ s e d f = if_ok (λ o. o ≡ going s → Ends n (suc a) s) (is_empty s₀.queue) _ _
        (λ t g. ends_now n (suc a) s₀ s e d t g)
        (λ t g.
        let r = then_at (step (T by lt) s₀) (loop (T by lt) a) s g in
        let u : after (T by lt) starts (suc n) ≡ going r.0 = ap (λ (o : Outcome). then o (step (T by lt))) e ∙ r.1 in
        let v : r.0.steps ≡ suc n = subst (Holds (Took (suc s₀.steps))) r.1 (stepped s₀ t) ∙ ap suc d in
        let E = loop_ends a (suc n) r.0 s u v r.2 in
        record {
          empty = E.empty;
          allowed = omega (arith, E.allowed);
          least = omega (arith, E.least);
          last = E.last;
          each = λ k h l. ⊎_elim
              (λ (z : n ≡ k). (s₀, ap (after (T by lt) starts) (sym z) ∙ e, d ∙ z))
              (λ (z : n < k). E.each k (omega arith) l)
              (eq-or-lt_of_le h);
        }) f

    pub run_ends : (a : ℕ) (s : State) → run (T by lt) starts a ≡ going s → Ends 0 a s
    unfolding run after Fares
    run_ends a s f =
        let r = then_at (start_all (T by lt) (placed 0 starts) nothing) (loop (T by lt) a) s f in
        loop_ends a 0 r.0 s r.1 (subst (Holds (Took 0)) r.1 (start_steps (placed 0 starts))) r.2

-- ---- an inner run sets nothing aside

module _ (T : Task) (lt : Grown → Grown → Bool) (inner : T.asked.inner ≡ true) where
  abbrev NoneAside : State → Type 0
  NoneAside s = s.aside ≡ []

  aside_inner : (s : State) (i : ℕ) (l : List ℕ) → NoneAside s → NoneAside (set_aside T.asked i l s)
  unfolding set_aside
  aside_inner s i l e = if_ok NoneAside T.asked.inner _ _ (λ t. e) (λ t. absurd (true≢false (sym inner ∙ t)))

  step_none : (l : List Grown) (s : State) → NoneAside s → Holds NoneAside (step_on (T by lt) l s)
  unfolding step_on Fares
  step_none [] s e = e
  step_none (c ∷ l) s e = with_walk T lt NoneAside (λ k. Unit) tt tt (λ t x h. h) (λ t x h. h) aside_inner c (record { raw = s.raw; queue = l; aside = s.aside; steps = suc s.steps }) e

  none_after : (starts : List ℕ) (n : ℕ) → Holds NoneAside (after (T by lt) starts n)
  unfolding after step
  none_after starts zero = start_all_walk T lt NoneAside (λ k. Unit) tt tt (λ t x h. h) (λ t x h. h) aside_inner (placed 0 starts) nothing refl
  none_after starts (suc n) = then_ok NoneAside NoneAside (after (T by lt) starts n) (step (T by lt)) (none_after starts n) (λ s e. step_none s.queue s e)

  pub inner_aside : (starts : List ℕ) (n : ℕ) (s : State) → after (T by lt) starts n ≡ going s → s.aside ≡ []
  unfolding Fares
  inner_aside starts n s e = subst (Holds NoneAside) e (none_after starts n)

-- ---- the run gives the refusals 7, 8 and 9 and no other

module _ (T : Task) (lt : Grown → Grown → Bool) where
  abbrev Late : Refusal → Type 0
  Late r = (7 ≤ number_of r) × (number_of r ≤ 9)

  abbrev Going : State → Type 0
  Going s = Unit

  step_late : (l : List Grown) (s : State) → Fares Going Late (step_on (T by lt) l s)
  unfolding step_on Fares
  step_late [] s = tt
  step_late (c ∷ l) s = with_walk T lt Going Late (omega arith, omega arith) (omega arith, omega arith) (λ t x h. tt) (λ t x h. tt) (λ t i x h. tt) c (record { raw = s.raw; queue = l; aside = s.aside; steps = suc s.steps }) tt

  loop_late : (a : ℕ) (s : State) → Fares Going Late (loop (T by lt) a s)
  unfolding loop step Fares
  loop_late zero s = if_ok (Fares Going Late) (is_empty s.queue) _ _ (λ t. tt) (λ t. (omega arith, omega arith))
  loop_late (suc a) s = if_ok (Fares Going Late) (is_empty s.queue) _ _ (λ t. tt) (λ t. then_fares Going Going Late _ _ (step_late s.queue s) (λ s' u. loop_late a s'))

  run_fares : (starts : List ℕ) (a : ℕ) → Fares Going Late (run (T by lt) starts a)
  unfolding run after
  run_fares starts a = then_fares Going Going Late _ _
      (start_all_walk T lt Going Late (omega arith, omega arith) (omega arith, omega arith) (λ t x h. tt) (λ t x h. tt) (λ t i x h. tt) (placed 0 starts) nothing tt)
      (λ s u. loop_late a s)

  pub run_refuses : (starts : List ℕ) (a : ℕ) (r : Refusal) → run (T by lt) starts a ≡ refused r → (7 ≤ number_of r) × (number_of r ≤ 9)
  unfolding Fares
  run_refuses starts a r e = subst (Fares Going Late) e (run_fares starts a)
