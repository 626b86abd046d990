-- From a public answer to a call from C, and back; and that a contract allows one result.
use mathlib.Core.Path.{◌≡◌, refl, sym, ap, ◌∙◌, subst}
use mathlib.Core.Bool.{Bool, true}
use mathlib.Core.List.{List}
use Prim.Native.Nat.{ℕ}
use mir.Val.{bool_byte}
use Rattle.covering.specs.declared.Answer.{Answer}
use Rattle.covering.specs.Covering.{Result, answer_of, values_told, Answered}
use Rattle.refusal.specs.declared.Refusal.{Refusal}
use Rattle.refusal.specs.Refusal.{number_told}
use Rattle.refusal.proofs.Laws.{number_positive, same_refusal}
use Rattle.orders.specs.declared.Order.{Order}
use Rattle.orders.specs.Orders.{night_answer}
use Rattle.orders.proofs.Nights.{thirteen}
use native.Mathlib.Omega.{arith}
use Rattle.std.specs.Prelude.{Ok, Err}
use Rattle.std.specs.Prelude as Std
use Rattle.capi.specs.Calls.{Told, Called, CalledBy, CalledOf, NamesCalled, NightCalled, NightThirteen}

module _ {R : Result} {number count steps : ℕ} {mem mem' out out' aside : List ℕ} where
  -- an answer that is told is all that a call leaves
  pub answered_called : {a : Std.Result Answer Refusal} → Answered R a mem mem' out out' → Told a number count steps aside → Called R number mem mem' out out' count steps aside
  answered_called A t = record { told = subst (λ (x : Std.Result Answer Refusal). Told x number count steps aside) A.answer t; memory = A.memory; output = A.output }

  -- and what a call leaves is an answer, which is told; with the number 0 a success, with the totals that its six words are: whatever is promised of public answers is
  -- promised of calls
  pub called_answered : Called R number mem mem' out out' count steps aside → Answered R (answer_of R) mem mem' out out' × Told (answer_of R) number count steps aside
  called_answered C = (record { answer = refl; memory = C.memory; output = C.output }, C.told)

  pub called_done : Called R number mem mem' out out' count steps aside → number ≡ 0 → Answered R (Ok (record { count = count; steps = steps; aside = (values_told (answer_of R)).aside })) mem mem' out out'
  called_done C z = record { answer = sym (of (answer_of R) C.told); memory = C.memory; output = C.output }
    where
      of : (a : Std.Result Answer Refusal) → Told a number count steps aside → a ≡ Ok (record { count = count; steps = steps; aside = (values_told a).aside })
      of (Ok a) t = rw (t.counted, t.taken)
      of (Err r) t = absurd (number_positive r (sym t.is ∙ z))

-- any two results that a contract allows are one
pub determined : (R : Result) (n n' : ℕ) (m m₁ m₂ o o₁ o₂ : List ℕ) (k k' s s' : ℕ) (t t' : List ℕ) → Called R n m m₁ o o₁ k s t → Called R n' m m₂ o o₂ k' s' t'
    → (n ≡ n') × (m₁ ≡ m₂) × (o₁ ≡ o₂) × (k ≡ k') × (s ≡ s') × (t ≡ t')
determined R n n' m m₁ m₂ o o₁ o₂ k k' s s' t t' a b = (
  a.told.is ∙ sym b.told.is,
  a.memory ∙ sym b.memory,
  a.output ∙ sym b.output,
  a.told.counted ∙ sym b.told.counted,
  a.told.taken ∙ sym b.told.taken,
  a.told.totals ∙ sym b.told.totals,
)

-- ---- by either engine, or both

-- an answer on which the engines agree, told
pub tested_called : {R : Result} {a : Std.Result Answer Refusal} {number count steps : ℕ} {mem mem' out out' aside : List ℕ} (agree : Bool) → Answered R a mem mem' out out' × (agree ≡ true) → Told a number count steps aside
    → CalledBy R number mem mem' out out' count steps aside (bool_byte agree)
tested_called agree t told = record { called = answered_called t.0 told; agreed = ap bool_byte t.1 }

pub by_determined : (R : Result) (n n' : ℕ) (m m₁ m₂ o o₁ o₂ : List ℕ) (k k' s s' : ℕ) (t t' : List ℕ) (g g' : ℕ) → CalledBy R n m m₁ o o₁ k s t g → CalledBy R n' m m₂ o o₂ k' s' t' g'
    → ((n ≡ n') × (m₁ ≡ m₂) × (o₁ ≡ o₂) × (k ≡ k') × (s ≡ s') × (t ≡ t')) × (g ≡ g')
by_determined R n n' m m₁ m₂ o o₁ o₂ k k' s s' t t' g g' a b = (determined R n n' m m₁ m₂ o o₁ o₂ k k' s s' t t' a.called b.called, a.agreed ∙ sym b.agreed)

-- ---- lists: as pairs and back, and two as one

pub words_determined : (R : Std.Result (List ℕ) Refusal) (n n' : ℕ) (o o₁ o₂ : List ℕ) (k k' : ℕ) → CalledOf R n o o₁ k → CalledOf R n' o o₂ k' → (n ≡ n') × (o₁ ≡ o₂) × (k ≡ k')
words_determined R n n' o o₁ o₂ k k' a b = (a.is ∙ sym b.is, a.output ∙ sym b.output, a.counted ∙ sym b.counted)

-- ---- tokens

pub names_determined : (R : Std.Result (List ℕ) Refusal) (n n' : ℕ) (o o₁ o₂ : List ℕ) (k k' f f' : ℕ) → NamesCalled R n o o₁ k f → NamesCalled R n' o o₂ k' f' → (n ≡ n') × (o₁ ≡ o₂) × (k ≡ k') × (f ≡ f')
names_determined R n n' o o₁ o₂ k k' f f' a b =
    (a.told.is ∙ sym b.told.is, a.output ∙ sym b.output, a.told.counted ∙ sym b.told.counted, a.told.named ∙ sym b.told.named)

-- ---- a night

thirteen_alone : (a : Std.Result Unit Refusal) → number_told a ≡ 13 → a ≡ Err Refusal.TooManyOrders
thirteen_alone (Ok u) e = absurd (omega (arith, e))
thirteen_alone (Err r) e = ap Err (same_refusal r Refusal.TooManyOrders (λ z. omega (arith, z, e)) e)

-- what is said of the night's refusal is said of the number that C reads
pub night_thirteen : {os os' : List Order} {number : ℕ} {mem mem' out out' : List ℕ} → NightCalled os os' number mem mem' out out' → NightThirteen os os' number mem mem' out out'
night_thirteen {os} {number = number} C = let T = thirteen C.over in record {
  exactly = (λ e. T.exactly.0 (thirteen_alone (night_answer os) (sym C.is ∙ e)), λ h. C.is ∙ ap number_told (T.exactly.1 h));
  unchanged = λ e. T.unchanged (thirteen_alone (night_answer os) (sym C.is ∙ e));
  served = λ h. let s = T.served h in (C.is ∙ ap number_told s.0, s.1, s.2, s.3);
}
