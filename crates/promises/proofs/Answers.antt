-- The promises for the public functions, from their contracts.
use Rattle.std.specs.Prelude.{Ok}
use mathlib.Core.Path.{◌≡◌, refl, sym, ap, ◌∙◌, subst}
use mathlib.Core.Bool.{Bool, true, false}
use mathlib.Core.List.{List, [], ◌∷◌}
use Prim.Native.Nat.{ℕ, zero, suc, ◌+◌, ◌*◌, ◌%◌, ◌^◌, ◌≤◌, ◌<◌}
use native.Mathlib.Omega.{arith}
use lib.ListN.{length, take, get_or}
use Rattle.cellid.specs.CellId.{level_of}
use Rattle.order.specs.Order.{All}
use Rattle.cellunion.specs.CellUnion.{covers, Apart, SameLeaves}
use Rattle.denorm.specs.Denorm.{OnStep}
use Rattle.region.specs.Region.{Area, bound_of}
use Rattle.region.proofs.Laws.{bound_cells}
use Rattle.run.specs.declared.RegionCoverer.{RegionCoverer}
use Rattle.fast.specs.Memory.{starts_for, fast_covering_for}
use Rattle.fast.proofs.Laws.{fast_apart, fast_leaves, fast_levels}
use Rattle.totals.specs.declared.Totals.{Totals}
use Rattle.totals.specs.Totals.{no_totals, six_of, total_at}
use Rattle.run.specs.Run.{State, going, run, after, raw_ids, sum_of, leaves_of, aside_total}
use Rattle.run.specs.Ground.{Fit, Disjoint, grown_from}
use Rattle.run.specs.Sixes.{aside_from, aside_six, sum_of_six}
use Rattle.run.proofs.Steps.{run_ends}
use Rattle.run.proofs.Demand3.{raw_disjoint}
use Rattle.run.proofs.Sixes.{six_add_up, six_at, six_fit, aside_and_raw, aside_no_start, inner_six}
use Rattle.cellunion.proofs.Words.{apart_meets}
use Rattle.coverer.specs.Coverer.{course_of, outcome_of}
use Rattle.covering.specs.declared.Answer.{Answer}
use Rattle.covering.specs.declared.Ending.{Ending}
use Rattle.covering.specs.declared.Kind.{Kind}
use Rattle.covering.specs.Covering.{list_of, asked_of, ran_of, result_of, Answered}
use Rattle.bars.proofs.Early.{Valid}
use Rattle.fast.proofs.StartLaws.{Starting, starts_laws}
use Rattle.covering.proofs.Starts.{starts_fit, run_domain, ran_cells}
use Rattle.covering.proofs.Table.{RunFinished, Finished, answered_done}
use Rattle.promises.specs.Promises.{OnLevels, Outer, Inner}
use Rattle.promises.specs.Answers.{OuterDone, InnerDone, FastDone, Promised}
use Rattle.promises.proofs.Lists.{list_covered, list_within}
use Rattle.promises.proofs.Runs.{raw_same, normal_same, final_same, final_on, outer_keeps, inner_keeps}

-- 1, 2 and 3 divide 30
divides : (m : ℕ) → 0 < m → m ≤ 3 → 30 % m ≡ 0
divides zero h k = absurd (omega arith)
divides (suc zero) h k = refl
divides (suc (suc zero)) h k = refl
divides (suc (suc (suc zero))) h k = refl
divides (suc (suc (suc (suc m)))) h k = absurd (omega arith)

apart_disjoint : (l : List ℕ) → Apart l → Disjoint l
unfolding Disjoint
apart_disjoint [] A = tt
apart_disjoint (x ∷ l) A = let k = apart_meets x l A in (k.0, apart_disjoint l k.1)

-- ---- a run that ended, whichever list is asked for

module _ (inner : Bool) (c : RegionCoverer) (a : Area) (allowance memory : ℕ) (v : Valid c a memory) where
  begun : Starting c.min_level c.max_level c.level_mod (bound_of a) (starts_for c (bound_of a))
  begun = starts_laws _ _ _ _ (bound_of a) v.«mod».0 (bound_cells a v.region)

  fit : All (Fit (asked_of c inner)) (starts_for c (bound_of a))
  fit = starts_fit c a v.«mod».0 v.region inner

  module _ (s : State) (ran : ran_of inner c a allowance ≡ going s) where
    run_is : run (course_of (asked_of c inner) a) (starts_for c (bound_of a)) allowance ≡ going s
    unfolding ran_of outcome_of
    run_is = ran

    same_list : (e : Ending) → SameLeaves (list_of e c (raw_ids s)) (raw_ids s)
    unfolding list_of
    same_list Ending.Raw = raw_same _ (run_domain c a memory v inner) _ (starts_for c (bound_of a)) fit allowance s run_is
    same_list Ending.CellUnion = normal_same _ (run_domain c a memory v inner) _ (starts_for c (bound_of a)) fit allowance s run_is
    same_list Ending.Covering = final_same _ (run_domain c a memory v inner) _ (starts_for c (bound_of a)) fit allowance s run_is

    final_list : OnLevels (asked_of c inner) (list_of Ending.Covering c (raw_ids s))
    unfolding list_of
    final_list = final_on _ (run_domain c a memory v inner) _ (starts_for c (bound_of a)) fit allowance s run_is (divides c.level_mod v.«mod».0 v.«mod».1)

    module _ (e : Ending) (l : List ℕ) (is : l ≡ list_of e c (raw_ids s)) where
      words_same : SameLeaves l (raw_ids s)
      words_same = subst (λ (x : List ℕ). SameLeaves x (raw_ids s)) (sym is) (same_list e)

      words_levels : e ≡ Ending.Covering → OnLevels (asked_of c inner) l
      words_levels f = subst (OnLevels (asked_of c inner)) (sym (is ∙ ap (λ (x : Ending). list_of x c (raw_ids s)) f)) final_list

      outer_list : inner ≡ false → Outer (course_of (asked_of c inner) a) (starts_for c (bound_of a)) s l
      outer_list o = outer_keeps _ (run_domain c a memory v inner) _ (starts_for c (bound_of a)) fit allowance s run_is l words_same o

      inner_list : inner ≡ true → Inner (course_of (asked_of c inner) a) (starts_for c (bound_of a)) s l
      inner_list i = inner_keeps _ (run_domain c a memory v inner) _ (starts_for c (bound_of a)) fit allowance s run_is l words_same i

    last : after (course_of (asked_of c inner) a) (starts_for c (bound_of a)) s.steps ≡ going s
    last = (run_ends _ _ (starts_for c (bound_of a)) allowance s run_is).last

    none_aside : inner ≡ true → aside_six s ≡ no_totals
    none_aside i = inner_six _ _ i (starts_for c (bound_of a)) s.steps s last

    module _ (t : Totals) (is : t ≡ aside_six s) where
      totals_sum : sum_of_six t ≡ aside_total s
      totals_sum = rw is (six_add_up _ (run_domain c a memory v inner) _ (starts_for c (bound_of a)) fit s.steps s last begun.few)

      total_at_lem : (k : ℕ) → total_at t k ≡ aside_from s k
      total_at_lem k = ap (λ (x : Totals). total_at x k) is ∙ six_at _ (run_domain c a memory v inner) _ (starts_for c (bound_of a)) fit s.steps s last begun.few k

      totals_each : inner ≡ false → (k : ℕ) → k < length (starts_for c (bound_of a)) → total_at t k + sum_of leaves_of (grown_from k s.raw) ≡ leaves_of (get_or (starts_for c (bound_of a)) k 0)
      totals_each o k h = omega (arith, total_at_lem k, aside_and_raw _ (run_domain c a memory v inner) _ (starts_for c (bound_of a)) fit o allowance s run_is k h)

      totals_none : (k : ℕ) → length (starts_for c (bound_of a)) ≤ k → total_at t k ≡ 0
      totals_none k h = total_at_lem k ∙ aside_no_start _ (run_domain c a memory v inner) _ (starts_for c (bound_of a)) fit s.steps s last k h

      totals_most : All (λ n. n ≤ 2 ^ 60) (six_of t) × (sum_of_six t ≤ 6 * 2 ^ 60)
      totals_most = rw is (six_fit _ (run_domain c a memory v inner) _ (starts_for c (bound_of a)) fit s.steps s last)

    raw_once : c.level_mod ≤ 1 → Disjoint (raw_ids s)
    raw_once m = raw_disjoint _ (run_domain c a memory v inner) _ (starts_for c (bound_of a)) fit (apart_disjoint (starts_for c (bound_of a)) (begun.apart m)) s.steps s last

-- ---- a success of each kind

module _ (c : RegionCoverer) (a : Area) (allowance memory : ℕ) (v : Valid c a memory) (r : Answer) (out : List ℕ) (counted : r.count ≡ length (take r.count out)) where
  outer_done : (e : Ending) → RunFinished e false c a allowance (take r.count out) r.steps r.aside → OuterDone e c a allowance r out
  outer_done e F = record {
    state = F.state;
    ran = F.ran;
    taken = F.taken;
    totals = F.totals;
    sum = totals_sum false c a allowance memory v F.state F.ran _ F.totals;
    each = totals_each false c a allowance memory v F.state F.ran _ F.totals refl;
    none = totals_none false c a allowance memory v F.state F.ran _ F.totals;
    most = totals_most false c a allowance memory v F.state F.ran _ F.totals;
    counted = counted;
    list = F.list;
    keeps = outer_list false c a allowance memory v F.state F.ran e _ F.list refl;
    once = λ m. raw_once false c a allowance memory v F.state F.ran (omega arith);
    levels = words_levels false c a allowance memory v F.state F.ran e _ F.list;
    covered = λ ids i. list_covered (asked_of c false) a ids i v.region _ _ _ v.deep (begun false c a allowance memory v).leaves
        (outer_list false c a allowance memory v F.state F.ran e _ F.list refl);
  }

  inner_done : (e : Ending) → RunFinished e true c a allowance (take r.count out) r.steps r.aside → InnerDone e c a allowance r out
  inner_done e F = record {
    state = F.state;
    ran = F.ran;
    taken = F.taken;
    totals = F.totals ∙ none_aside true c a allowance memory v F.state F.ran refl;
    counted = counted;
    list = F.list;
    keeps = inner_list true c a allowance memory v F.state F.ran e _ F.list refl;
    once = λ m. raw_once true c a allowance memory v F.state F.ran (omega arith);
    levels = words_levels true c a allowance memory v F.state F.ran e _ F.list;
    none_outside = λ ids i. list_within (asked_of c true) a ids i v.region _ _ _ (ran_cells c a memory v true allowance F.state F.ran)
        (inner_list true c a allowance memory v F.state F.ran e _ F.list refl);
  }

  fast_done : take r.count out ≡ fast_covering_for c (bound_of a) → r.steps ≡ 0 → r.aside ≡ no_totals → FastDone c a r out
  fast_done w t z =
      let C = bound_cells a v.region in
      record {
        taken = t;
        totals = z;
        counted = counted;
        list = w;
        missing = λ n h. subst (λ (l : List ℕ). covers l n ≡ true) (sym w) (fast_leaves c.min_level c.max_level c.level_mod c.max_cells (bound_of a) v.order C n h);
        apart = subst Apart (sym w) (fast_apart c.min_level c.max_level c.level_mod c.max_cells (bound_of a) v.order C);
        levels = subst (All (λ id. OnStep c.min_level c.max_level c.level_mod (level_of id))) (sym w)
            (fast_levels c.min_level c.max_level c.level_mod c.max_cells (bound_of a) v.order C (divides c.level_mod v.«mod».0 v.«mod».1) v.deep);
      }

  done : (k : Kind) → Finished k c a allowance (take r.count out) r.steps r.aside → Promised k c a allowance r out
  unfolding Finished Promised
  done (Kind.Outer e) F = outer_done e F
  done (Kind.Inner e) F = inner_done e F
  done Kind.Fast F = fast_done F.0 F.1 F.2

-- ---- the theorem for the public functions: each ensures `Answered` of its kind

pub keeps : (k : Kind) (c : RegionCoverer) (a : Area) (allowance : ℕ) (r : Answer) (mem mem' out out' : List ℕ)
    → Answered (result_of k c a allowance (length mem) (length out)) (Ok r) mem mem' out out' → Promised k c a allowance r out'
keeps k c a allowance r mem mem' out out' A =
    let d = answered_done k c a allowance r mem mem' out out' A in
    done c a allowance (length mem) d.valid r out' d.counted k d.finished
