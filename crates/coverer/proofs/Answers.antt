-- From what the engine's memory and counts stand for to its answer and the memory that it leaves; and that an answer is all that its contract allows.
use Rattle.std.specs.Prelude.{Result}
use Rattle.std.specs.Prelude.Result.{Ok, Err}
use Rattle.refusal.specs.declared.Refusal.{Refusal}
use mathlib.Core.Path.{◌≡◌, sym, ap, ◌∙◌, subst}
use mathlib.Core.List.{List, ◌++◌}
use Prim.Native.Nat.{ℕ, ◌+◌, ◌≤◌, ◌<◌}
use native.Mathlib.Omega.{arith}
use lib.ListN.{length, take, drop}
use Rattle.run.specs.Run.{State, Outcome, refused, going, then, after, run, raw_ids, Task, in_edition, raw_most, queue_words, memory_words}
use Rattle.totals.proofs.Laws.{totals_by_lem}
use Rattle.run.specs.Sixes.{aside_from, aside_six}
use Rattle.queue.specs.declared.Engine.{Engine}
use Rattle.coverer.specs.declared.Tally.{Tally}
use Rattle.coverer.specs.declared.Ran.{Ran}
use Rattle.coverer.specs.Coverer.{cleared, engine_answer, engine_memory}
use Rattle.coverer.specs.Engine.{Stage, ran_of, Holds, Leads, Comes}
use Rattle.coverer.proofs.Memory.{cleared_front, cleared_only, front_cleared, front_only}
use Rattle.coverer.proofs.Stands.{raw_length}
use Rattle.coverer.proofs.Runs.{waiting, idle, unless_queued, run_after}

-- the totals that are counted are the defined ones
pub six_are : (E : Engine) (T : Task) {m : List ℕ} {t : Tally} {s : State} → Holds E T m t s → t.aside ≡ aside_six s
unfolding aside_six
six_are E T {m} {t} {s} H = totals_by_lem t.aside (aside_from s) H.six (λ j. (H.at j).aside)

module _ (E : Engine) (T : Task) (l : List ℕ) (k : ℕ) (m m₁ : List ℕ) (r : Stage) (C : Comes E T (after (in_edition T) l k) m m₁ r) where
  abbrev o : Outcome
  o = run (in_edition T) l k

  -- a refusal's number, and the words of a run cleared
  refuses : (n : Refusal) (v : Result Ran Refusal) (m₂ : List ℕ) → o ≡ refused n → (v ≡ Err n) × (m₂ ≡ cleared 0 memory_words m₁) → (v ≡ engine_answer o) × (m₂ ≡ engine_memory o m)
  unfolding engine_answer engine_memory
  refuses n v m₂ e d = (rw e d.0, rw e (d.1 ∙ cleared_front memory_words m m₁ C.frame))

  pub answer_refused : (n : Refusal) (v : Result Ran Refusal) (m₂ : List ℕ) → r ≡ Err n → (v ≡ Err n) × (m₂ ≡ cleared 0 memory_words m₁) → (v ≡ engine_answer o) × (m₂ ≡ engine_memory o m)
  unfolding Leads then
  answer_refused n v m₂ e = refuses n v m₂ (run_after (in_edition T) l k ∙ ap (λ (x : Outcome). then x unless_queued) (subst (λ (y : Stage). Leads E T m₁ y (after (in_edition T) l k)) e C.gives))

  module _ (t : Tally) (e : r ≡ Ok t) where
    ended : (s : State) × (after (in_edition T) l k ≡ going s) × Holds E T m₁ t s
    unfolding Leads
    ended = subst (λ (y : Stage). Leads E T m₁ y (after (in_edition T) l k)) e C.gives

    comes_to_lem : o ≡ unless_queued ended.0
    unfolding then
    comes_to_lem = run_after (in_edition T) l k ∙ ap (λ (x : Outcome). then x unless_queued) ended.1

    pub answer_spent : (v : Result Ran Refusal) (m₂ : List ℕ) → 0 < t.queued → (v ≡ Err Refusal.Allowance) × (m₂ ≡ cleared 0 memory_words m₁) → (v ≡ engine_answer o) × (m₂ ≡ engine_memory o m)
    unfolding unless_queued
    answer_spent v m₂ some = refuses Refusal.Allowance v m₂ (comes_to_lem ∙ rw (waiting E T some ended.2, unless_queued))

    pub answer_room : t.kept ≤ raw_most
    answer_room = (ended.2.at 0).room

    pub answer_done : (v : Result Ran Refusal) (m₂ : List ℕ) → memory_words ≤ length m₁ → t.queued ≤ 0 → (v ≡ Ok (ran_of t)) × (m₂ ≡ cleared (queue_words + t.kept) memory_words (cleared 0 queue_words m₁)) → (v ≡ engine_answer o) × (m₂ ≡ engine_memory o m)
    unfolding engine_answer engine_memory unless_queued
    answer_done v m₂ long none d =
        let S = ended.2 in
        let totals : t.aside ≡ aside_six ended.0 = six_are E T S in
        let g : o ≡ going ended.0 = comes_to_lem ∙ rw (idle E T none S, unless_queued) in (
          rw (g, raw_length E T 0 long (S.at 0), ← (S.at 0).steps, ← totals) d.0,
          rw g (d.1 ∙ cleared_only queue_words memory_words t.kept (raw_ids ended.0) m m₁ (omega (arith, answer_room)) long (S.at 0).raw C.frame),
        )

-- what stands behind the words of a run is as it was
pub whole : (o : Outcome) (m m₁ m₂ : List ℕ) → m₁ ≡ take memory_words m → m₂ ≡ engine_memory o m₁ → m₂ ++ drop memory_words m ≡ engine_memory o m
unfolding engine_memory
whole (refused r) m m₁ m₂ first e = front_cleared memory_words m m₁ m₂ first e
whole (going s) m m₁ m₂ first e = front_only memory_words m m₁ m₂ first queue_words (raw_ids s) e

-- any two results that the engine's contract allows are one: the answer, and the whole memory
pub determined : (o : Outcome) (m : List ℕ) (r r' : Result Ran Refusal) (m₁ m₂ : List ℕ) → (r ≡ engine_answer o) × (m₁ ≡ engine_memory o m) → (r' ≡ engine_answer o) × (m₂ ≡ engine_memory o m) → (r ≡ r') × (m₁ ≡ m₂)
determined o m r r' m₁ m₂ a b = (a.0 ∙ sym b.0, a.1 ∙ sym b.1)
