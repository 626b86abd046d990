-- The run's start cells, and that its raw cells are cells.
use mathlib.Core.Path.{◌≡◌, sym, ap, ◌∙◌, subst}
use mathlib.Core.Bool.{Bool, true}
use mathlib.Core.List.{List, ◌++◌}
use Prim.Native.Nat.{ℕ, ◌+◌, ◌-◌, ◌≤◌, ◌<◌}
use native.Mathlib.Omega.{arith}
use lib.ListN.{length, take, drop, length-append, length-drop}
use Rattle.std.specs.Prelude as Std
use Rattle.refusal.specs.declared.Refusal.{Refusal}
use Rattle.cellid.specs.CellId.{Cell, level_of}
use Rattle.order.specs.Order.{All}
use Rattle.region.specs.Region.{Area, in_domain, bound_of}
use Rattle.region.proofs.Laws.{bound_fits, bound_cells}
use Rattle.run.specs.declared.RegionCoverer.{RegionCoverer}
use Rattle.fast.specs.Memory.{NumbersFit, starts_for, in_place}
use Rattle.fast.proofs.StartLaws.{StartLevel, starts_laws}
use Rattle.fast.proofs.Turns.{bound_front, in_place_back}
use Rattle.cellunion.specs.Memory.{zeros}
use Rattle.cellunion.proofs.Memory.{drop_more, length_zeros}
use Rattle.run.specs.Run.{State, Outcome, refused, going, raw_ids, queue_words, memory_words}
use Rattle.run.specs.Ground.{Fit, Domain}
use Rattle.order.proofs.OrderLaws.{all_weak}
use Rattle.run.proofs.Lists.{all_with}
use Rattle.run.proofs.Looks.{canon}
use Rattle.run.proofs.Demand3.{raw_cells}
use Rattle.candidate.specs.Candidate.{Asks}
use Rattle.coverer.specs.Coverer.{only_words, outcome_of, engine_answer, engine_memory}
use Rattle.coverer.specs.Engine.{past}
use Rattle.coverer.proofs.Memory.{cleared_front}
use Rattle.coverer.specs.declared.Ran.{Ran}
use Rattle.covering.specs.Covering.{asked_of, ran_of}
use Rattle.bars.proofs.Early.{Valid}

-- what the fast covering and the start cells ask of the numbers
pub valid_domain : (c : RegionCoverer) (a : Area) (memory : ℕ) → Valid c a memory → NumbersFit c
valid_domain c a memory v = record { ordered = v.order; deep = v.deep; some = v.«mod».0; few = v.«mod».1 }

-- a list in place of the bound leaves the words past a run's alone
pub bound_past : (a : Area) (l m m₁ : List ℕ) → in_domain a ≡ true → memory_words ≤ length m → length m₁ ≡ length m → m₁ ≡ in_place (length (bound_of a)) l m → past memory_words m₁ ≡ past memory_words m
unfolding past in_place
bound_past a l m m₁ h g s e =
    let n = length (bound_of a) in
    let room : length l ≤ n = omega (arith, bound_fits a h, s, ap length e ∙ length-append l (zeros (n - length l) ++ drop n m), length-append (zeros (n - length l)) (drop n m), length_zeros (n - length l), length-drop n m) in
    drop_more n memory_words m₁ m (omega (arith, bound_fits a h)) (ap (drop n) e ∙ in_place_back n l m room)

-- what the engine leaves rests on these words alone
engine_past : (o : Outcome) (m m₁ : List ℕ) → past memory_words m₁ ≡ past memory_words m → engine_memory o m₁ ≡ engine_memory o m
unfolding engine_memory only_words past
engine_past (refused n) m m₁ e = cleared_front memory_words m m₁ e
engine_past (going s) m m₁ e = ap (λ (t : List ℕ). zeros queue_words ++ (raw_ids s ++ (zeros (memory_words - (queue_words + length (raw_ids s))) ++ t))) e

-- the start cells are as the run asks
pub starts_fit : (c : RegionCoverer) (a : Area) → 0 < c.level_mod → in_domain a ≡ true → (inner : Bool) → All (Fit (asked_of c inner)) (starts_for c (bound_of a))
starts_fit c a s h inner =
    let S = starts_laws c.min_level c.max_level c.level_mod c.max_cells (bound_of a) s (bound_cells a h) in
    all_weak (λ x. Cell x × StartLevel c.min_level c.max_level c.level_mod (level_of x)) _ (starts_for c (bound_of a))
    (λ x k. record { cell = canon x _ _ k.0.2; high = k.1.0; on = k.1.1 }) (all_with _ _ (starts_for c (bound_of a)) S.cells S.levels)

module _ (c : RegionCoverer) (a : Area) (memory : ℕ) (v : Valid c a memory) (inner : Bool) where
  pub run_domain : Domain (asked_of c inner)
  run_domain = record { order = v.order; deep = v.deep }

  pub ran_cells : (allowance : ℕ) (s : State) → ran_of inner c a allowance ≡ going s → All Cell (raw_ids s)
  unfolding ran_of outcome_of
  ran_cells allowance s e = raw_cells _ run_domain _ (starts_for c (bound_of a)) (starts_fit c a v.«mod».0 v.region inner) allowance s e

  -- the start cells in their array
  module _ (k : ℕ) (ids t : List ℕ) (K : k ≡ length (starts_for c (bound_of a))) (I : ids ≡ starts_for c (bound_of a) ++ t) where
    front : take k ids ≡ starts_for c (bound_of a)
    front = (bound_front k ids (starts_for c (bound_of a)) t K I).0

    pub run_asks : (room : ℕ) → room ≡ memory → (memory_words ≤ room) × Asks (asked_of c inner) a × (k ≤ 6) × All (Fit (asked_of c inner)) (take k ids)
    run_asks room e =
        let S = starts_laws c.min_level c.max_level c.level_mod c.max_cells (bound_of a) v.«mod».0 (bound_cells a v.region) in (
          omega (arith, v.long),
          record { order = v.order; deep = v.deep; some = v.«mod».0; few = v.«mod».1; region = v.region },
          omega (arith, K, S.few),
          subst (All (Fit (asked_of c inner))) (sym front) (starts_fit c a v.«mod».0 v.region inner),
        )

    pub run_gives : (allowance : ℕ) (m m₁ m' : List ℕ) (r : Std.Result Ran Refusal) → length m ≡ memory → length m₁ ≡ length m → m₁ ≡ in_place (length (bound_of a)) (starts_for c (bound_of a)) m
        → (r ≡ engine_answer (outcome_of (asked_of c inner) a (take k ids) allowance)) × (m' ≡ engine_memory (outcome_of (asked_of c inner) a (take k ids) allowance) m₁)
        → (r ≡ engine_answer (ran_of inner c a allowance)) × (m' ≡ engine_memory (ran_of inner c a allowance) m)
    unfolding ran_of
    run_gives allowance m m₁ m' r l s e R = (
      R.0 ∙ ap (λ (l : List ℕ). engine_answer (outcome_of (asked_of c inner) a l allowance)) front,
      R.1 ∙ ap (λ (l : List ℕ). engine_memory (outcome_of (asked_of c inner) a l allowance) m₁) front
          ∙ engine_past (outcome_of (asked_of c inner) a (starts_for c (bound_of a)) allowance) m m₁ (bound_past a (starts_for c (bound_of a)) m m₁ v.region (omega (arith, v.long)) s e),
    )
