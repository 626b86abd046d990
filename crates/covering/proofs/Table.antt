-- The paper's table of refusals, over the definitions of the public answers: each number is given exactly when its row says; what each leaves; and that
-- a contract allows one result.
use mathlib.Core.Path.{◌≡◌, refl, sym, ap, ◌∙◌, subst}
use mathlib.Core.Bool.{Bool, true, false}
use mathlib.Core.List.{List}
use mathlib.Core.Logic.{◌↔◌, ◌⊎◌, inl, inr, ⊎_elim}
use Prim.Native.Nat.{ℕ, ◌≤◌, ◌<◌}
use native.Mathlib.Omega.{arith}
use lib.Dec.{leb}
use lib.ListN.{length, take, drop, length-append}
use lib.Seq.{take_at}
use borrow.Author.Tests.{le-leb, lt-leb, leb-true, leb-false}
use Rattle.region.specs.Region.{Area, bound_of}
use Rattle.totals.specs.declared.Totals.{Totals}
use Rattle.totals.specs.Totals.{no_totals}
use Rattle.run.specs.declared.RegionCoverer.{RegionCoverer}
use Rattle.fast.specs.Memory.{fast_covering_for}
use Rattle.run.specs.Editions.{with_edition}
use Rattle.run.specs.Run.{Outcome, State, raw_ids, memory_words}
use Rattle.run.specs.Sixes.{aside_six}
use Rattle.run.specs.Run as Run
use Rattle.run.proofs.Lists.{if_ok}
use Rattle.run.proofs.Steps.{run_refuses}
use Rattle.coverer.specs.Coverer.{cleared, outcome_of}
use Rattle.covering.specs.declared.Answer.{Answer}
use Rattle.std.specs.Prelude.{Ok, Err}
use Rattle.std.specs.Prelude as Std
use Rattle.refusal.specs.declared.Refusal.{Refusal}
use Rattle.refusal.specs.Refusal.{number_told}
use Rattle.refusal.specs.Refusal as Papers
use Rattle.refusal.proofs.Laws.{same_refusal}
use Rattle.covering.specs.declared.Ending.{Ending}
use Rattle.covering.specs.declared.Kind.{Kind}
use Rattle.bars.specs.Bars.{Bar, bar_of, numbers_bar, region_bar, memory_bar, first_bar}
use Rattle.covering.specs.Covering.{Result, barred, refused, done, fitted, checked, list_of, ended_as, ran_of, comes_to, result_of, answer_of, values_told, output_after, memory_after, Answered}
use Rattle.bars.proofs.Early.{Early, IsBar, UpTo, edition_open, early_is, early_given, early_low, Valid, early_none}

-- the paper's number of a result
abbrev pub number_of : Result → ℕ
number_of R = number_told (answer_of R)

-- ---- 1 to 6 and 14 first, else what the request comes to

number_refused : (r : Refusal) → number_of (refused r) ≡ Papers.number_of r
unfolding answer_of
number_refused r = refl

module _ (c : RegionCoverer) (a : Area) (memory : ℕ) (R : Result) where
  data First : ℕ → Type 0 where
    given : {r : Refusal} → Early c a memory (Err r) → First (Papers.number_of r)
    passed : Early c a memory (Ok tt) → First (number_of R)

  first_is : First (number_of (checked (bar_of c a memory) R))
  unfolding checked answer_of
  first_is = of (bar_of c a memory) (early_is c a memory)
    where
      of : (b : Bar) → Early c a memory b → First (number_of (checked b R))
      of (Ok u) E = passed E
      of (Err r) E = given E

  first_given : (r : Refusal) → Early c a memory (Err r) → number_of (checked (bar_of c a memory) R) ≡ Papers.number_of r
  unfolding checked answer_of
  first_given r E = ap (λ (b : Bar). number_of (checked b R)) (early_given c a memory (Err r) E)

  first_passed : Early c a memory (Ok tt) → checked (bar_of c a memory) R ≡ R
  unfolding checked
  first_passed E = ap (λ (b : Bar). checked b R) (early_given c a memory (Ok tt) E)

-- a finished list: 10 where it is longer than the output, else a success
module _ (room : ℕ) (l : List ℕ) (steps : ℕ) (aside : Totals) where
  data Fitted : ℕ → Type 0 where
    long : room < length l → Fitted 10
    fits : length l ≤ room → Fitted 0

  fitted_is : Fitted (number_of (fitted room l steps aside))
  unfolding fitted answer_of
  fitted_is = if_ok (λ (W : Result). Fitted (number_of W)) (leb (length l) room) _ _ (λ t. fits (leb-true _ _ t)) (λ t. long (leb-false _ _ t))

  fitted_given : (n : ℕ) → Fitted n → number_of (fitted room l steps aside) ≡ n
  unfolding fitted answer_of
  fitted_given n (long h) = rw (fitted, lt-leb (length l) room h)
  fitted_given n (fits h) = rw (fitted, le-leb (length l) room h)

-- ---- each number is given exactly when, for every kind of answer

-- the run of a request is refused so; the quick covering has no run
unfoldable pub RunRefused : Kind → RegionCoverer → Area → ℕ → Refusal → Type 0
RunRefused (Kind.Outer e) c a allowance r = ran_of false c a allowance ≡ Run.refused r
RunRefused (Kind.Inner e) c a allowance r = ran_of true c a allowance ≡ Run.refused r
RunRefused Kind.Fast c a allowance r = ⊥

-- a run's finished list, with its steps and its set-aside totals
pub record RunFinished (e : Ending) (inner : Bool) (c : RegionCoverer) (a : Area) (allowance : ℕ) (l : List ℕ) (steps : ℕ) (aside : Totals) : Type 0 where
  pub state : State
  pub ran : ran_of inner c a allowance ≡ Run.going state
  pub list : l ≡ list_of e c (raw_ids state)
  pub taken : steps ≡ state.steps
  pub totals : aside ≡ aside_six state

-- the finished list of each kind
unfoldable pub Finished : Kind → RegionCoverer → Area → ℕ → List ℕ → ℕ → Totals → Type 0
Finished (Kind.Outer e) c a allowance l steps aside = RunFinished e false c a allowance l steps aside
Finished (Kind.Inner e) c a allowance l steps aside = RunFinished e true c a allowance l steps aside
Finished Kind.Fast c a allowance l steps aside = (l ≡ fast_covering_for c (bound_of a)) × (steps ≡ 0) × (aside ≡ no_totals)

-- the numbers that a run is refused with
abbrev pub IsLate : ℕ → Type 0
IsLate n = (7 ≤ n) × (n ≤ 9)

module _ (c : RegionCoverer) (a : Area) (allowance room : ℕ) where
  data Way (k : Kind) : Result → Type 0 where
    stopped : {r : Refusal} → RunRefused k c a allowance r → Way k (refused r)
    finished : (l : List ℕ) (steps : ℕ) (aside : Totals) → Finished k c a allowance l steps aside → Way k (fitted room l steps aside)

  -- a run comes to a refusal or to a finished list
  module _ (e : Ending) (inner : Bool) (k : Kind) (late : (r : Refusal) → ran_of inner c a allowance ≡ Run.refused r → RunRefused k c a allowance r)
      (end : (l : List ℕ) (steps : ℕ) (aside : Totals) → RunFinished e inner c a allowance l steps aside → Finished k c a allowance l steps aside) where
    run_comes : (o : Outcome) → ran_of inner c a allowance ≡ o → Way k (ended_as e c room o)
    unfolding ended_as
    run_comes (Run.refused n) f = stopped (late n f)
    run_comes (Run.going s) f = finished _ _ _ (end _ _ _ (record { state = s; ran = f; list = refl; taken = refl; totals = refl }))

  comes_is : (k : Kind) → Way k (comes_to k c a allowance room)
  unfolding comes_to RunRefused Finished
  comes_is (Kind.Outer e) = run_comes e false (Kind.Outer e) (λ n f. f) (λ l steps aside F. F) _ refl
  comes_is (Kind.Inner e) = run_comes e true (Kind.Inner e) (λ n f. f) (λ l steps aside F. F) _ refl
  comes_is Kind.Fast = finished _ 0 no_totals (refl, refl, refl)

  stopped_comes : (k : Kind) (r : Refusal) → RunRefused k c a allowance r → comes_to k c a allowance room ≡ refused r
  unfolding comes_to RunRefused ended_as
  stopped_comes (Kind.Outer e) n f = ap (ended_as e c room) f
  stopped_comes (Kind.Inner e) n f = ap (ended_as e c room) f
  stopped_comes Kind.Fast n f = absurd f

  run_finished : (e : Ending) (inner : Bool) (l : List ℕ) (steps : ℕ) (aside : Totals) → RunFinished e inner c a allowance l steps aside → ended_as e c room (ran_of inner c a allowance) ≡ fitted room l steps aside
  unfolding ended_as
  run_finished e inner l steps aside F = ap (ended_as e c room) F.ran ∙ sym (rw (F.list, F.taken, F.totals))

  finished_comes : (k : Kind) (l : List ℕ) (steps : ℕ) (aside : Totals) → Finished k c a allowance l steps aside → comes_to k c a allowance room ≡ fitted room l steps aside
  unfolding comes_to Finished
  finished_comes (Kind.Outer e) l steps aside F = run_finished e false l steps aside F
  finished_comes (Kind.Inner e) l steps aside F = run_finished e true l steps aside F
  finished_comes Kind.Fast l steps aside F = sym (rw (F.0, F.1, F.2))

  run_late : (inner : Bool) (r : Refusal) → ran_of inner c a allowance ≡ Run.refused r → IsLate (Papers.number_of r)
  unfolding ran_of outcome_of
  run_late inner n f = run_refuses _ _ _ allowance n f

  stopped_late : (k : Kind) (r : Refusal) → RunRefused k c a allowance r → IsLate (Papers.number_of r)
  unfolding RunRefused
  stopped_late (Kind.Outer e) n f = run_late false n f
  stopped_late (Kind.Inner e) n f = run_late true n f
  stopped_late Kind.Fast n f = absurd f

module _ (k : Kind) (c : RegionCoverer) (a : Area) (allowance memory room : ℕ) where
  abbrev number : ℕ
  number = number_of (result_of k c a allowance memory room)

  data Given : ℕ → Type 0 where
    first : {r : Refusal} → Early c a memory (Err r) → Given (Papers.number_of r)
    late : (r : Refusal) → Early c a memory (Ok tt) → RunRefused k c a allowance r → Given (Papers.number_of r)
    ended : {n : ℕ} {l : List ℕ} {steps : ℕ} {aside : Totals} → Early c a memory (Ok tt) → Finished k c a allowance l steps aside → Fitted room l steps aside n → Given n

  given_is : Given number
  unfolding result_of answer_of
  given_is = from (first_is c a memory (comes_to k c a allowance room))
    where
      then : Early c a memory (Ok tt) → {R : Result} → Way c a allowance room k R → Given (number_of R)
      then E (stopped S) = late _ E S
      then E (finished l steps aside F) = ended E F (fitted_is room l steps aside)

      from : {n : ℕ} → First c a memory (comes_to k c a allowance room) n → Given n
      from (given E) = first E
      from (passed E) = then E (comes_is c a allowance room k)

  given_number : (n : ℕ) → Given n → number ≡ n
  unfolding result_of
  given_number n (first {r} E) = first_given c a memory (comes_to k c a allowance room) r E
  given_number n (late r E S) = ap number_of (first_passed c a memory (comes_to k c a allowance room) E ∙ stopped_comes c a allowance room k r S) ∙ number_refused r
  given_number n (ended {l = l} {steps} {aside} E F h) =
      ap number_of (first_passed c a memory (comes_to k c a allowance room) E ∙ finished_comes c a allowance room k l steps aside F) ∙ fitted_given room l steps aside n h

  early_of : {n : ℕ} → IsBar n → Given n → (r : Refusal) × (Papers.number_of r ≡ n) × Early c a memory (Err r)
  early_of h (first E) = (_, refl, E)
  early_of h (late r E S) = absurd (⊎_elim (λ b. omega (arith, (stopped_late c a allowance room k r S).0)) (λ b. omega (arith, (stopped_late c a allowance room k r S).1)) h)
  early_of h (ended E F (long q)) = absurd (⊎_elim (λ b. omega arith) (λ b. omega arith) h)
  early_of h (ended E F (fits q)) = absurd (⊎_elim (λ b. omega arith) (λ b. omega arith) h)

  pub is_early : (n : ℕ) → IsBar n → number ≡ n → (r : Refusal) × (Papers.number_of r ≡ n) × Early c a memory (Err r)
  is_early n h x = early_of h (subst Given x given_is)

  -- 1 to 6 and 14: `Early` has the rows, each with the earlier ones not true
  pub when_early : (r : Refusal) → IsBar (Papers.number_of r) → (number ≡ Papers.number_of r) ↔ Early c a memory (Err r)
  when_early r h = (
    λ x. let w = is_early (Papers.number_of r) h x in subst (λ (s : Refusal). Early c a memory (Err s)) (same_refusal w.0 r (⊎_elim (λ b. omega (arith, w.1)) (λ b. omega (arith, w.1)) h) w.1) w.2,
    λ E. given_number (Papers.number_of r) (first E),
  )

  late_of : {n : ℕ} → IsLate n → Given n → (r : Refusal) × (Papers.number_of r ≡ n) × Early c a memory (Ok tt) × RunRefused k c a allowance r
  late_of h (first E) = absurd (⊎_elim (λ b. omega (arith, h.0)) (λ b. omega (arith, h.1)) (early_low c a memory E))
  late_of h (late r E S) = (r, refl, E, S)
  late_of h (ended E F (long q)) = absurd (omega (arith, h.1))
  late_of h (ended E F (fits q)) = absurd (omega (arith, h.0))

  -- 7 to 9: none of these, and the defined run is refused so
  pub when_late : (r : Refusal) → IsLate (Papers.number_of r) → (number ≡ Papers.number_of r) ↔ (Early c a memory (Ok tt) × RunRefused k c a allowance r)
  when_late r h = (
    λ x. let w = late_of h (subst Given x given_is) in (w.2, subst (RunRefused k c a allowance) (same_refusal w.0 r (omega (arith, h.1, w.1)) w.1) w.3),
    λ w. given_number (Papers.number_of r) (late r w.0 w.1),
  )

  -- a finished list, its steps and its set-aside totals, of which Q is true
  abbrev pub FinishedWith : (List ℕ → Type 0) → Type 0
  FinishedWith Q = Early c a memory (Ok tt) × ((l : List ℕ) × (steps : ℕ) × (aside : Totals) × Finished k c a allowance l steps aside × Q l)

  -- 10: the list is finished, and longer than the output
  pub when_long : (number ≡ 10) ↔ FinishedWith (λ l. room < length l)
  when_long = (λ x. of 10 refl (subst Given x given_is), λ w. given_number 10 (ended w.0 w.1.3 (long w.1.4)))
    where
      of : (n : ℕ) → n ≡ 10 → Given n → FinishedWith (λ l. room < length l)
      of n z (first E) = absurd (⊎_elim (λ b. omega arith) (λ b. omega arith) (early_low c a memory E))
      of n z (late r E S) = absurd (omega (arith, (stopped_late c a allowance room k r S).1))
      of n z (ended E F (long q)) = (E, (_, _, _, F, q))
      of n z (ended E F (fits q)) = absurd (omega arith)

  -- a success: none of these
  pub when_done : (number ≡ 0) ↔ FinishedWith (λ l. length l ≤ room)
  when_done = (λ x. of 0 refl (subst Given x given_is), λ w. given_number 0 (ended w.0 w.1.3 (fits w.1.4)))
    where
      of : (n : ℕ) → n ≡ 0 → Given n → FinishedWith (λ l. length l ≤ room)
      of n z (first E) = absurd (⊎_elim (λ b. omega arith) (λ b. omega arith) (early_low c a memory E))
      of n z (late r E S) = absurd (omega (arith, (stopped_late c a allowance room k r S).0))
      of n z (ended E F (long q)) = absurd (omega arith)
      of n z (ended E F (fits q)) = (E, (_, _, _, F, q))

  -- and no other number is given
  pub number_known : (number ≤ 10) ⊎ (number ≡ 14)
  number_known = of given_is
    where
      of : {n : ℕ} → Given n → (n ≤ 10) ⊎ (n ≡ 14)
      of {n} (first E) = ⊎_elim (λ b. inl (omega arith)) inr (early_low c a memory E)
      of (late r E S) = inl (omega (arith, (stopped_late c a allowance room k r S).1))
      of (ended E F (long q)) = inl (omega arith)
      of (ended E F (fits q)) = inl (omega arith)

-- "`fast_covering` gives only 1 to 6 and 10", and 14 as any request
pub fast_numbers : (c : RegionCoverer) (a : Area) (allowance memory room n : ℕ) → IsLate n → number_of (result_of Kind.Fast c a allowance memory room) ≡ n → ⊥
unfolding RunRefused
fast_numbers c a allowance memory room n h x = (late_of Kind.Fast c a allowance memory room h (subst (Given Kind.Fast c a allowance memory room) x (given_is Kind.Fast c a allowance memory room))).3

-- "fast ignores it": whichever of the two editions a request names
pub fast_ignores : (c : RegionCoverer) (a : Area) (allowance memory room n : ℕ) → UpTo 2 c.edition → UpTo 2 n
    → result_of Kind.Fast (with_edition c n) a allowance memory room ≡ result_of Kind.Fast c a allowance memory room
unfolding result_of comes_to bar_of
fast_ignores c a allowance memory room n h k =
    ap (λ (b : Bar). checked (first_bar (numbers_bar c) (first_bar b (first_bar (region_bar a) (memory_bar memory)))) (comes_to Kind.Fast c a allowance room)) (edition_open n k ∙ sym (edition_open c.edition h))

-- ---- what any result is: a refusal's number is not 0, and a list is no longer than the output has places

unfoldable pub Sound : ℕ → Result → Type 0
Sound room (barred r) = 0 < Papers.number_of r
Sound room (refused r) = 0 < Papers.number_of r
Sound room (done l steps aside) = length l ≤ room

fitted_sound : (room : ℕ) (l : List ℕ) (steps : ℕ) (aside : Totals) → Sound room (fitted room l steps aside)
unfolding fitted Sound
fitted_sound room l steps aside = if_ok (Sound room) (leb (length l) room) _ _ (λ t. leb-true _ _ t) (λ t. omega arith)

module _ (k : Kind) (c : RegionCoverer) (a : Area) (allowance memory room : ℕ) where
  comes_sound : {R : Result} → Way c a allowance room k R → Sound room R
  unfolding Sound
  comes_sound (stopped {r} S) = omega (arith, (stopped_late c a allowance room k r S).0)
  comes_sound (finished l steps aside F) = fitted_sound room l steps aside

  pub result_sound : Sound room (result_of k c a allowance memory room)
  unfolding result_of checked Sound
  result_sound = of (bar_of c a memory) (early_is c a memory)
    where
      of : (b : Bar) → Early c a memory b → Sound room (checked b (comes_to k c a allowance room))
      of (Ok u) E = comes_sound (comes_is c a allowance room k)
      of (Err r) E = ⊎_elim (λ b. b.0) (λ b. omega arith) (early_low c a memory E)

-- ---- what a refusal leaves

-- "Each refusal returns its number, count 0, steps 0, set-aside 0, and the output unchanged."
pub refusal_values : (R : Result) (out : List ℕ) → 0 < number_of R → (values_told (answer_of R) ≡ record { count = 0; steps = 0; aside = no_totals }) × (output_after R out ≡ out)
unfolding answer_of output_after
refusal_values (barred n) out h = (refl, refl)
refusal_values (refused n) out h = (refl, refl)
refusal_values (done l steps aside) out h = absurd (omega arith)

module _ (k : Kind) (c : RegionCoverer) (a : Area) (allowance memory room : ℕ) (m : List ℕ) where
  fitted_cleared : (l : List ℕ) (steps : ℕ) (aside : Totals) → memory_after (fitted room l steps aside) m ≡ cleared 0 memory_words m
  unfolding fitted memory_after
  fitted_cleared l steps aside = if_ok (λ (W : Result). memory_after W m ≡ cleared 0 memory_words m) (leb (length l) room) _ _ (λ t. refl) (λ t. refl)

  comes_cleared : {R : Result} → Way c a allowance room k R → memory_after R m ≡ cleared 0 memory_words m
  unfolding memory_after
  comes_cleared (stopped S) = refl
  comes_cleared (finished l steps aside F) = fitted_cleared l steps aside

  -- 1 to 6 and 14: "unchanged"
  pub refusal_early : (n : ℕ) → IsBar n → number_of (result_of k c a allowance memory room) ≡ n → memory_after (result_of k c a allowance memory room) m ≡ m
  unfolding result_of checked memory_after
  refusal_early n h x =
      let w = is_early k c a allowance memory room n h x in
      ap (λ (b : Bar). memory_after (checked b (comes_to k c a allowance room)) m) (early_given c a memory (Err w.0) w.2)

  -- 7 to 10, and a success: the words of a run are zero
  pub refusal_late : Early c a memory (Ok tt) → memory_after (result_of k c a allowance memory room) m ≡ cleared 0 memory_words m
  unfolding result_of
  refusal_late E = ap (λ (R : Result). memory_after R m) (first_passed c a memory (comes_to k c a allowance room) E) ∙ comes_cleared (comes_is c a allowance room k)

-- ---- any two results that a contract allows are one: the answer, the whole memory and the whole output

pub determined : (R : Result) (r r' : Std.Result Answer Refusal) (m m₁ m₂ o o₁ o₂ : List ℕ) → Answered R r m m₁ o o₁ → Answered R r' m m₂ o o₂ → (r ≡ r') × (m₁ ≡ m₂) × (o₁ ≡ o₂)
determined R r r' m m₁ m₂ o o₁ o₂ a b = (a.answer ∙ sym b.answer, a.memory ∙ sym b.memory, a.output ∙ sym b.output)

-- ---- the output has as many places as the answer has ids

pub count_fits : (R : Result) (out : List ℕ) → (values_told (answer_of R)).count ≤ length (output_after R out)
unfolding answer_of output_after
count_fits (barred n) out = omega arith
count_fits (refused n) out = omega arith
count_fits (done l steps aside) out = simp length-append (omega arith)

-- ---- what a success says: the finished list stands in the output's first places

pub record Done (k : Kind) (c : RegionCoverer) (a : Area) (allowance memory : ℕ) (r : Answer) (out : List ℕ) : Type 0 where
  pub valid : Valid c a memory
  pub counted : r.count ≡ length (take r.count out)
  pub finished : Finished k c a allowance (take r.count out) r.steps r.aside

fitted_done : (room : ℕ) (l : List ℕ) (steps : ℕ) (aside : Totals) (out : List ℕ) → length l ≤ room
    → (answer_of (fitted room l steps aside) ≡ Ok (record { count = length l; steps = steps; aside = aside })) × (take (length l) (output_after (fitted room l steps aside) out) ≡ l)
unfolding fitted answer_of output_after
fitted_done room l steps aside out h = rw (le-leb (length l) room h, fitted) (refl, take_at l (drop (length l) out) (length l) refl)

finished_as : (k : Kind) (c : RegionCoverer) (a : Area) (allowance : ℕ) (l l' : List ℕ) (steps steps' : ℕ) (aside aside' : Totals) → l ≡ l' → steps ≡ steps' → aside ≡ aside'
    → Finished k c a allowance l steps aside → Finished k c a allowance l' steps' aside'
finished_as k c a allowance l l' steps steps' aside aside' e d f F = rw (← e, ← d, ← f) F

pub answered_done : (k : Kind) (c : RegionCoverer) (a : Area) (allowance : ℕ) (r : Answer) (mem mem' out out' : List ℕ)
    → Answered (result_of k c a allowance (length mem) (length out)) (Ok r) mem mem' out out' → Done k c a allowance (length mem) r out'
unfolding result_of
answered_done k c a allowance r mem mem' out out' A =
    let R = result_of k c a allowance (length mem) (length out) in
    let w = (when_done k c a allowance (length mem) (length out)).0 (sym (ap number_told A.answer)) in
    let l = w.1.0 in
    let e : R ≡ fitted (length out) l w.1.1 w.1.2 = first_passed c a (length mem) (comes_to k c a allowance (length out)) w.0 ∙ finished_comes c a allowance (length out) k l w.1.1 w.1.2 w.1.3 in
    let f = fitted_done (length out) l w.1.1 w.1.2 out w.1.4 in
    let d : r ≡ record { count = length l; steps = w.1.1; aside = w.1.2 } = ap values_told (A.answer ∙ ap answer_of e ∙ f.0) in
    let t : l ≡ take r.count out' = sym (ap (λ (a : Answer). take a.count out') d ∙ ap (take (length l)) (A.output ∙ ap (λ (W : Result). output_after W out) e) ∙ f.1) in
    record {
      valid = early_none c a (length mem) (early_given c a (length mem) (Ok tt) w.0);
      counted = ap (λ (a : Answer). a.count) d ∙ ap length t;
      finished = finished_as k c a allowance l _ w.1.1 _ w.1.2 _ t (sym (ap (λ (a : Answer). a.steps) d)) (sym (ap (λ (a : Answer). a.aside) d)) w.1.3;
    }
