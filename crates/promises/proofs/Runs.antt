-- From the defined run's laws and those of lists to the promises, for every list with the raw list's leaves; the three lists that are handed back are such.
use mathlib.Core.Path.{◌≡◌, refl, sym, ap, ◌∙◌}
use mathlib.Core.Bool.{Bool, true, false, true≢false}
use mathlib.Core.Logic.{inl, inr, ⊎_elim}
use mathlib.Core.List.{List, [], ◌∷◌}
use Prim.Native.Nat.{ℕ, ◌%◌, ◌<◌}
use native.Mathlib.Omega.{arith}
use lib.ListN.{length, get_or}
use Rattle.cellid.specs.CellId.{Cell, level_of, has_leaf, one}
use Rattle.order.specs.Order.{All}
use Rattle.order.proofs.OrderLaws.{which, all_weak}
use Rattle.cellunion.specs.CellUnion.{covers, SameLeaves, Member, normalise}
use Rattle.denorm.specs.Denorm.{OnStep, denormalise}
use Rattle.cellid.proofs.Laws.{or_true, true_or}
use Rattle.cellunion.proofs.Unique.{all_at}
use Rattle.cellunion.proofs.Norm.{normalise_leaves}
use Rattle.denorm.proofs.Laws.{final_levels, final_leaves}
use Rattle.picklist.proofs.Laws.{some_found, some_covers}
use Rattle.run.specs.Run.{min_level, max_level, level_mod, Task, Course, ◌by◌, Grown, State, going, run, raw_ids, sum_of}
use Rattle.run.specs.Ground.{Domain, Fit, Passes, times_covered}
use Rattle.run.proofs.Lists.{all_map}
use Rattle.run.proofs.Ground.{Kept}
use Rattle.run.proofs.Steps.{run_ends}
use Rattle.run.proofs.Demand3.{no_ground_missing, leaf_kept, raw_kept, raw_cells, aside_after, beneath_after}
use Rattle.promises.specs.Promises.{OnLevels, Ended, Outer, Inner}

-- ---- leaves of lists, in both crates' words

times_covers : (l : List ℕ) (n : ℕ) → 0 < times_covered l n → covers l n ≡ true
unfolding times_covered sum_of covers one
times_covers [] n h = absurd (omega arith)
times_covers (x ∷ l) n h = ⊎_elim
    (λ (t : has_leaf x n ≡ true). true_or (has_leaf x n) (covers l n) (inl t))
    (λ (t : has_leaf x n ≡ false). true_or (has_leaf x n) (covers l n) (inr (times_covers l n (let e : one (has_leaf x n) ≡ 0 = ap one t in omega arith))))
    (which (has_leaf x n))

-- a leaf that a list covers lies under the cell at some place of it
covers_place : (l : List ℕ) (n : ℕ) → covers l n ≡ true → (i : ℕ) × (i < length l) × (has_leaf (get_or l i 0) n ≡ true)
covers_place l n t = some_found (λ y. has_leaf y n) l (sym (some_covers l n) ∙ t)

covers_member : (l : List ℕ) (n : ℕ) → covers l n ≡ true → (id : ℕ) × Member id l × (has_leaf id n ≡ true)
unfolding covers Member
covers_member [] n t = absurd (true≢false (sym t))
covers_member (x ∷ l) n t = ⊎_elim
    (λ e. (x, inl refl, e))
    (λ e. let r = covers_member l n e in (r.0, inr r.1, r.2))
    (or_true (has_leaf x n) (covers l n) t)

-- ---- a run that ended

module _ (T : Task) (D : Domain T.asked) (lt : Grown → Grown → Bool) (starts : List ℕ) (ok : All (Fit T.asked) starts) (a : ℕ) (s : State) (done : run (T by lt) starts a ≡ going s) where
  kept : All (Kept T) (raw_ids s)
  unfolding raw_ids
  kept = all_map (λ (c : Grown). c.id) (Kept T) s.raw (raw_kept T D lt starts ok a s done)

  cells : All Cell (raw_ids s)
  cells = raw_cells T D lt starts ok a s done

  raw_levels : OnLevels T.asked (raw_ids s)
  raw_levels = all_weak (Kept T) (λ id. OnStep (min_level T.asked) (max_level T.asked) (level_mod T.asked) (level_of id)) (raw_ids s) (λ id k. record { from = k.low; to = k.fit.high; on = k.fit.on }) kept

  ended : Ended (T by lt) starts s
  ended = let E = run_ends T lt starts a s done in record { empty = E.empty; last = E.last }

  -- ---- for every list with the raw list's leaves

  module _ (list : List ℕ) (same : SameLeaves list (raw_ids s)) where
    pub outer_keeps : T.asked.inner ≡ false → Outer (T by lt) starts s list
    outer_keeps o = record {
      ended = ended;
      each = no_ground_missing T D lt starts ok a s done o;
      aside = aside_after T D lt starts ok s.steps s ended.last;
      missing = λ i n h t p. same n ∙ times_covers (raw_ids s) n (leaf_kept T D lt starts ok a s done o i n h t p);
      levels = raw_levels;
      same = same;
    }

    pub inner_keeps : T.asked.inner ≡ true → Inner (T by lt) starts s list
    inner_keeps i =
        let passed : All (λ id. T.within id ≡ true) (raw_ids s) = all_weak (Kept T) (λ id. T.within id ≡ true) (raw_ids s) (λ id k. k.inside i) kept in
        record {
          ended = ended;
          beneath = beneath_after T D lt starts ok s.steps s ended.last;
          passed = passed;
          inside = λ n t.
              let r = covers_member (raw_ids s) n (sym (same n) ∙ t) in
              (r.0, r.1, all_at (λ id. T.within id ≡ true) (raw_ids s) passed r.0 r.1, r.2);
          levels = raw_levels;
          same = same;
        }

  -- ---- the lists that are handed back: raw, normalised, final

  pub raw_same : SameLeaves (raw_ids s) (raw_ids s)
  raw_same n = refl

  pub normal_same : SameLeaves (normalise (raw_ids s)) (raw_ids s)
  normal_same = normalise_leaves (raw_ids s) cells

  pub final_same : SameLeaves (denormalise (min_level T.asked) (level_mod T.asked) (normalise (raw_ids s))) (raw_ids s)
  final_same = final_leaves (min_level T.asked) (level_mod T.asked) (raw_ids s) cells

  -- level_mod divides 30: true of 1, 2 and 3
  pub final_on : 30 % level_mod T.asked ≡ 0 → OnLevels T.asked (denormalise (min_level T.asked) (level_mod T.asked) (normalise (raw_ids s)))
  final_on m = final_levels (min_level T.asked) (max_level T.asked) (level_mod T.asked) (raw_ids s) m D.deep cells raw_levels

-- ---- the paper's sentence

-- "a leaf under a start cell, whose every containing cell of levels 0 to max passes the intersection test", lies under a cell of the list
pub leaf_covered : (C : Course) (starts : List ℕ) (s : State) (list : List ℕ) → Outer C starts s list → (n : ℕ) → covers starts n ≡ true → Passes C.task n → covers list n ≡ true
leaf_covered C starts s list O n t p = let r = covers_place starts n t in O.missing r.0 n r.1 r.2 (λ M l h. p M (omega arith) h)
