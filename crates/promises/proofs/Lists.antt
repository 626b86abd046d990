-- A region that is a list: nothing need be asked about its tests, since every cell around a listed leaf passes, and a cell that the list contains has listed leaves
-- alone.
use mathlib.Core.Path.{◌≡◌, refl, sym, ap, ◌∙◌, subst}
use mathlib.Core.Bool.{Bool, true, false}
use mathlib.Core.List.{List, []}
use Prim.Native.Nat.{ℕ, zero, suc, ◌+◌, ◌*◌, ◌^◌, ◌≤◌, ◌<◌}
use native.Mathlib.Nat.{mul-one}
use native.Mathlib.Omega.{arith}
use lib.Dec.{ltb}
use borrow.Author.Tests.{le-leb}
use Rattle.cellid.specs.CellId.{Cell, IsCell, id_of, parent_at}
use Rattle.cellid.proofs.Ancestors.{parent_cell, parent_holds}
use Rattle.order.specs.Order.{All, sort}
use Rattle.cellunion.specs.CellUnion.{covers, normalise, pass, rev}
use Rattle.denorm.specs.Denorm.{denormalise}
use Rattle.cellunion.proofs.Unique.{all_at, covers→}
use Rattle.cellunion.proofs.Counts.{hi_le}
use Rattle.picklist.specs.PickList.{is_pick_list}
use Rattle.picklist.proofs.Laws.{pick_is, meets_leaf, holds_leaf}
use Rattle.region.specs.Region.{Area, list_area, in_domain, intersects_cell, contains_cell, bound_of}
use Rattle.fast.specs.Fast.{starts_of, adjusted_cells, keep_starts, fast_covering, merged_covering, merged_in}
use Rattle.fast.specs.Memory.{starts_for}
use Rattle.totals.specs.Totals.{no_totals}
use Rattle.run.specs.declared.RegionCoverer.{RegionCoverer}
use Rattle.run.specs.declared.Request.{Request}
use Rattle.run.specs.Run.{max_level, Course, State, going, then, is_empty, nothing, start_all, placed, after, loop, run, raw_ids, sum_of}
use Rattle.run.specs.Ground.{Passes, grown_from}
use Rattle.run.specs.Sixes.{aside_from, aside_six}
use Rattle.candidate.specs.Candidate.{task_of}
use Rattle.coverer.specs.Coverer.{course_of, outcome_of}
use Rattle.std.specs.Prelude.{Ok}
use Rattle.bars.specs.Bars.{Bar, bar_of}
use Rattle.covering.specs.declared.Ending.{Ending}
use Rattle.covering.specs.declared.Kind.{Kind}
use Rattle.covering.specs.Covering.{done, fitted, checked, list_of, ended_as, asked_of, ran_of, comes_to, result_of}
use Rattle.promises.specs.Promises.{Outer, Inner}
use Rattle.promises.specs.Answers.{CoversAll}
use Rattle.promises.proofs.Runs.{leaf_covered}

leaf_is : (n : ℕ) → n < 6 * 2 ^ 60 → IsCell (2 * n + 1) 30 n
unfolding id_of
leaf_is n h = record { level = omega arith; place = h; is = sym (mul-one (2 * n + 1)) }

module _ (q : Request) (ids : List ℕ) (P : is_pick_list ids ≡ true) where
  list_passes : max_level q ≤ 30 → (n : ℕ) → covers ids n ≡ true → Passes (task_of q (list_area ids)) n
  unfolding intersects_cell
  list_passes d n t M l h =
      let C : All Cell ids = ((pick_is ids).0 P).1 in
      let w = covers→ ids n C t in
      let I = leaf_is n (omega (arith, w.3, hi_le (all_at Cell ids C w.0 w.1))) in
      (meets_leaf ids (parent_at (2 * n + 1) M) P (M, _, parent_cell M I (omega arith))).1 (n, t, parent_holds M I (omega arith))

module _ (q : Request) (a : Area) (ids : List ℕ) (e : a ≡ list_area ids) (d : in_domain a ≡ true) (starts : List ℕ) (s : State) (list : List ℕ) where
  picked : is_pick_list ids ≡ true
  unfolding in_domain
  picked = subst (λ (x : Area). in_domain x ≡ true) e d

  bound_is : bound_of a ≡ ids
  unfolding bound_of
  bound_is = ap bound_of e

  pub list_covered : max_level q ≤ 30 → CoversAll (bound_of a) starts → Outer (course_of q a) starts s list → CoversAll ids list
  list_covered h b O n t =
      leaf_covered (course_of q a) starts s list O n (b n (subst (λ (l : List ℕ). covers l n ≡ true) (sym bound_is) t)) (subst (λ (x : Area). Passes (task_of q x) n) (sym e) (list_passes q ids picked h n t))

  pub list_within : All Cell (raw_ids s) → Inner (course_of q a) starts s list → CoversAll list ids
  unfolding contains_cell
  list_within C I n t =
      let r = I.inside n t in
      holds_leaf ids r.0 n picked (all_at Cell (raw_ids s) C r.0 r.1) (subst (λ (x : Area). contains_cell x r.0 ≡ true) e r.2) r.3

-- ---- an empty list is a region, and its answer is the empty list

no_starts : (c : RegionCoverer) → starts_for c [] ≡ []
unfolding starts_of adjusted_cells keep_starts fast_covering merged_covering merged_in normalise sort pass rev denormalise
no_starts c = by (ltb 1 c.level_mod)
  where
    by : (b : Bool) → ◌≡◌ {A = List ℕ} (elim b [ true ↦ adjusted_cells c.min_level c.level_mod [] | false ↦ [] ]) []
    by true = refl
    by false = refl

no_run : (C : Course) (allowance : ℕ) → run C [] allowance ≡ going nothing
unfolding run after start_all placed loop then is_empty
no_run C zero = refl
no_run C (suc allowance) = refl

no_list : (e : Ending) (c : RegionCoverer) → list_of e c [] ≡ []
unfolding list_of normalise sort pass rev denormalise
no_list Ending.Raw c = refl
no_list Ending.CellUnion c = refl
no_list Ending.Covering c = refl

no_room : (room : ℕ) → fitted room [] 0 no_totals ≡ done [] 0 no_totals
unfolding fitted
no_room room = rw (fitted, le-leb 0 room (omega arith))

module _ (c : RegionCoverer) (allowance room : ℕ) where
  no_end : (inner : Bool) (e : Ending) → ended_as e c room (ran_of inner c (list_area []) allowance) ≡ done [] 0 no_totals
  unfolding ran_of outcome_of ended_as bound_of raw_ids aside_six aside_from grown_from sum_of
  no_end inner e =
      ap (λ (l : List ℕ). ended_as e c room (run (course_of (asked_of c inner) (list_area [])) l allowance)) (no_starts c)
      ∙ ap (ended_as e c room) (no_run (course_of (asked_of c inner) (list_area [])) allowance) ∙ ap (λ (l : List ℕ). fitted room l 0 no_totals) (no_list e c) ∙ no_room room

  no_answer : (k : Kind) → comes_to k c (list_area []) allowance room ≡ done [] 0 no_totals
  unfolding comes_to bound_of fast_covering merged_covering merged_in normalise sort pass rev denormalise
  no_answer (Kind.Outer e) = no_end false e
  no_answer (Kind.Inner e) = no_end true e
  no_answer Kind.Fast = no_room room

pub empty_list : (k : Kind) (c : RegionCoverer) (allowance memory room : ℕ) → bar_of c (list_area []) memory ≡ Ok tt → result_of k c (list_area []) allowance memory room ≡ done [] 0 no_totals
unfolding result_of checked
empty_list k c allowance memory room e = ap (λ (b : Bar). checked b (comes_to k c (list_area []) allowance room)) e ∙ no_answer c allowance room k
