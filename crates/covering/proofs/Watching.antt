-- A request's run as it stands after so many steps: from what the engine saw to what the contract says.
use mathlib.Core.Path.{◌≡◌, ap, ◌∙◌}
use mathlib.Core.Bool.{Bool}
use mathlib.Core.List.{List, ◌++◌}
use Prim.Native.Nat.{ℕ, ◌+◌, ◌*◌, ◌≤◌}
use native.Mathlib.Omega.{arith}
use lib.ListN.{length, take}
use Rattle.region.specs.Region.{Area, bound_of}
use Rattle.run.specs.declared.RegionCoverer.{RegionCoverer}
use Rattle.run.specs.Run.{Task, Outcome, after, memory_words}
use Rattle.candidate.specs.Candidate.{task_of}
use Rattle.fast.specs.Memory.{starts_for, in_place}
use Rattle.fast.proofs.Turns.{bound_front}
use Rattle.coverer.specs.declared.Seen.{Seen}
use Rattle.coverer.specs.Coverer.{course_of, cleared}
use Rattle.coverer.specs.Watch.{seen_of, seen_over}
use Rattle.coverer.proofs.Memory.{cleared_front}
use Rattle.coverer.proofs.Watching.{seen_room}
use Rattle.std.specs.Prelude.{Result, Ok, Err}
use Rattle.refusal.specs.declared.Refusal.{Refusal}
use Rattle.bars.specs.Bars.{Bar, bar_of}
use Rattle.bars.proofs.Early.{early_none}
use Rattle.covering.specs.Covering.{asked_of}
use Rattle.covering.specs.Watch.{after_of, seen_as, output_seen, memory_seen, Watched}
use Rattle.covering.proofs.Starts.{bound_past}

-- how a run stands is told only where the output has room for it
pub watched_room : (b : Bar) (T : Task) (room : ℕ) (o : Outcome) (v : Seen) → Ok v ≡ seen_as b T room o → v.kept + 3 * v.queued ≤ room
unfolding seen_as
watched_room (Ok u) T room o v e = seen_room T room o v.kept v.queued v.steps v.aside e
watched_room (Err r) T room o v e = let z : ◌≡◌ {A = ℕ} 0 1 = cc in absurd (omega arith)

module _ (inner : Bool) (c : RegionCoverer) (a : Area) (steps : ℕ) where
  abbrev T : Task
  T = task_of (asked_of c inner) a

  pub watched_barred : (r : Refusal) (m out : List ℕ) → bar_of c a (length m) ≡ Err r → Watched inner c a steps (Err r) m m out out
  unfolding seen_as memory_seen output_seen
  watched_barred r m out e = record { answer = rw (e, seen_as); memory = rw (e, memory_seen); output = rw (e, output_seen) }

  -- the start cells stand in their array, and in the memory's first words meanwhile
  pub watched_open : (k : ℕ) (ids t m m₁ m₂ out out₂ : List ℕ) (r : Result Seen Refusal) → bar_of c a (length m) ≡ Ok tt → k ≡ length (starts_for c (bound_of a)) → ids ≡ starts_for c (bound_of a) ++ t
      → length m₁ ≡ length m → m₁ ≡ in_place (length (bound_of a)) (starts_for c (bound_of a)) m
      → (r ≡ seen_of T (length out) (after (course_of (asked_of c inner) a) (take k ids) steps)) × (out₂ ≡ seen_over T (after (course_of (asked_of c inner) a) (take k ids) steps) out) × (m₂ ≡ cleared 0 memory_words m₁)
      → Watched inner c a steps r m m₂ out out₂
  unfolding seen_as memory_seen output_seen after_of
  watched_open k ids t m m₁ m₂ out out₂ r e K I l p A =
      let v = early_none c a (length m) e in
      let o : after (course_of (asked_of c inner) a) (take k ids) steps ≡ after_of inner c a steps =
      ap (λ (x : List ℕ). after (course_of (asked_of c inner) a) x steps) (bound_front k ids (starts_for c (bound_of a)) t K I).0 in
      record {
        answer = rw (e, seen_as) (A.0 ∙ ap (seen_of T (length out)) o);
        memory = rw (e, memory_seen) (A.2 ∙ cleared_front memory_words m m₁ (bound_past a (starts_for c (bound_of a)) m m₁ v.region (omega (arith, v.long)) l p));
        output = rw (e, output_seen) (A.1 ∙ ap (λ (x : Outcome). seen_over T x out) o);
      }
