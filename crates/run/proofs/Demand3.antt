-- Demand 3, from what every state keeps (Ground).
use mathlib.Core.Path.{◌≡◌, refl, sym, ap, ◌∙◌, subst}
use mathlib.Core.Bool.{Bool, true, false, true≢false}
use mathlib.Core.Logic.{⊎_elim}
use mathlib.Core.List.{List, [], ◌∷◌, ◌++◌}
use Prim.Native.Nat.{ℕ, ◌+◌, ◌*◌, ◌≤◌, ◌<◌}
use native.Mathlib.Omega.{arith}
use lib.Dec.{leb, eqb}
use lib.ListN.{length, get_or}
use borrow.Author.Tests.{leb-false, eq-eqb, eqb-true}
use Rattle.cellid.specs.CellId.{Cell, IsCell, child_of, level_of, leaves_of, has_leaf, parent_at, one, holds}
use Rattle.cellid.proofs.Laws.{no_true, one_le}
use Rattle.cellid.proofs.Leaves.{contains_leaves, holds_level}
use Rattle.order.specs.Order.{All}
use Rattle.run.specs.Run.{Grown, State, after, going, placed, raw_ids, run, sum_of, Task, ◌by◌}
use Rattle.run.specs.Ground.{Aside, Beneath, Step, Disjoint, Domain, Fit, RawCell, Tiles, all_cells, grown_from, times_covered, PassesFrom}
use Rattle.order.proofs.OrderLaws.{all_append, which, all_weak, all_get}
use Rattle.run.proofs.Lists.{Fares, sum_append, sum_map, all_map, all_back, all_with, term_le, rel_le, rel_eq, Holds, Rel}
use Rattle.run.proofs.Steps.{run_ends}
use Rattle.run.proofs.Ground.{Additive, Kept, Inv, after_ok}
use Rattle.run.proofs.Leaves.{leaves_add, leaves_pos, has_leaf_add, one_true, disjoint_of, disjoint_once, parent_of_leaf}
use Rattle.run.proofs.Starts.{sel, sel_add, sel_none, sel_zero, at_start, at_add, sum_from, sum_start, past_end, past_none, sum_placed, from_le, all_from}

-- ---- one state

module _ (T : Task) (D : Domain T.asked) (lt : Grown → Grown → Bool) (starts : List ℕ) (ok : All (Fit T.asked) starts) where
  pub sums : (n : ℕ) (s : State) → after (T by lt) starts n ≡ going s → (F : ℕ → ℕ → ℕ) (A : Additive F) → Inv T D lt F A (sum_of (λ (c : Grown). F c.from c.id) (placed 0 starts)) 0 s
  unfolding Fares
  sums n s e F A = subst (Holds (Inv T D lt F A (sum_of (λ (c : Grown). F c.from c.id) (placed 0 starts)) 0)) e (after_ok T D lt F A starts ok n)

  -- what grew from one start cell measures as the start cell does, in an inner run at most so much
  pub measure : (n : ℕ) (s : State) → after (T by lt) starts n ≡ going s → (f : ℕ → ℕ)
      → ((id L p : ℕ) → IsCell id L p → L < 30 → f (child_of id 0) + (f (child_of id 1) + (f (child_of id 2) + f (child_of id 3))) ≡ f id)
      → (i : ℕ) → i < length starts → Rel T.asked.inner (sum_of f (grown_from i (all_cells s))) (f (get_or starts i 0))
  unfolding all_cells
  measure n s e f A i h =
      let w : Grown → ℕ = λ c. at_start i f c.from c.id in
      let I = sums n s e (at_start i f) (at_add i f A) in
      let z : i ≡ 0 + i = omega arith in
      let a : sum_of f (grown_from i (s.raw ++ (s.queue ++ s.aside))) ≡ 0 + (sum_of w s.raw + (sum_of w s.queue + sum_of w s.aside)) =
      sym (sum_from i f (s.raw ++ (s.queue ++ s.aside))) ∙ omega (arith, sum_append w s.raw (s.queue ++ s.aside), sum_append w s.queue s.aside) in
      let b : sum_of w (placed 0 starts) ≡ f (get_or starts i 0) =
      ap (λ (j : ℕ). sum_of (λ (c : Grown). at_start j f c.from c.id) (placed 0 starts)) z ∙ sum_start f 0 starts i h in
      rw (a, ← b) I.sum

  ids : (n : ℕ) (s : State) → after (T by lt) starts n ≡ going s → All (λ (c : Grown). Cell c.id) (all_cells s)
  unfolding all_cells
  ids n s e =
      let I = sums n s e (λ i id. 0) (λ i id L p c l. refl) in
      all_append _ s.raw (s.queue ++ s.aside) (all_weak _ _ s.raw (λ c k. (_, _, k.fit.cell)) I.raw)
      (all_append _ s.queue s.aside (all_weak _ _ s.queue (λ c k. (_, _, k.fit.cell)) I.queue) (all_weak _ _ s.aside (λ c k. (_, _, k.cell)) I.aside))

  -- the place that each cell carries is that of a start cell
  places : (n : ℕ) (s : State) → after (T by lt) starts n ≡ going s → All (λ (c : Grown). c.from < length starts) (all_cells s)
  unfolding all_cells
  places n s e =
      let w : Grown → ℕ = λ c. past_end (length starts) leaves_of c.from c.id in
      let I = sums n s e (past_end (length starts) leaves_of) (λ j id L p c l. sel_add (leb (length starts) j) _ _ _ _ _ (leaves_add id L p c l)) in
      let r = rel_le T.asked.inner _ _ I.sum in
      let t : sum_of w (s.raw ++ (s.queue ++ s.aside)) ≤ 0 =
      omega (arith, sum_append w s.raw (s.queue ++ s.aside), sum_append w s.queue s.aside, past_none (length starts) leaves_of 0 starts (omega arith)) in
      all_weak _ _ (s.raw ++ (s.queue ++ s.aside)) (λ c h. let x = h w in leb-false _ _ (sel_none (leb (length starts) c.from) (leaves_of c.id) (leaves_pos c.id) (omega arith))) (term_le (s.raw ++ (s.queue ++ s.aside)))

  -- each leaf of a cell lies under the start cell that the cell grew from
  leaves_beneath : (n : ℕ) (s : State) → after (T by lt) starts n ≡ going s → (c : Grown) → c.from < length starts
      → ((w : Grown → ℕ) → w c ≤ sum_of w (all_cells s)) → (m : ℕ) → has_leaf c.id m ≡ true → has_leaf (get_or starts c.from 0) m ≡ true
  unfolding one sel
  leaves_beneath n s e c h t m k =
      let f : ℕ → ℕ = λ id. one (has_leaf id m) in
      let r = rel_le T.asked.inner _ _ (measure n s e f (has_leaf_add m) c.from h) in
      let u = t (λ (d : Grown). at_start c.from f d.from d.id) in
      let v : sel (eqb c.from c.from) (one (has_leaf c.id m)) ≡ 1 = rw (eq-eqb c.from c.from refl, k) in
      one_true (has_leaf (get_or starts c.from 0) m) (omega (arith, sum_from c.from f (all_cells s)))

  pub beneath_after : (n : ℕ) (s : State) → after (T by lt) starts n ≡ going s → All (Beneath starts) (all_cells s)
  beneath_after n s e =
      let all = all_with _ _ (all_cells s) (places n s e) (all_with _ _ (all_cells s) (ids n s e) (term_le (all_cells s))) in
      all_weak _ (Beneath starts) (all_cells s) (λ c k. record {
        from = k.0;
        inside = (contains_leaves (get_or starts c.from 0) c.id (_, _, (all_get (Fit T.asked) starts 0 c.from k.0 ok).cell) k.1.0).1 (leaves_beneath n s e c k.0 k.1.1);
      }) all

  -- inner and outer: what grew from one start cell does not overlap
  pub disjoint_after : (n : ℕ) (s : State) → after (T by lt) starts n ≡ going s → (i : ℕ) → i < length starts → Disjoint (grown_from i (all_cells s))
  unfolding times_covered
  disjoint_after n s e i h = disjoint_of (grown_from i (all_cells s)) (all_from Cell i (all_cells s) (ids n s e))
      (λ m. let r = rel_le T.asked.inner _ _ (measure n s e (λ id. one (has_leaf id m)) (has_leaf_add m) i h) in omega (arith, one_le (has_leaf (get_or starts i 0) m)))

  pub tiles_after : T.asked.inner ≡ false → (n : ℕ) (s : State) → after (T by lt) starts n ≡ going s → (i : ℕ) → i < length starts → Tiles (get_or starts i 0) (grown_from i (all_cells s))
  unfolding times_covered
  tiles_after o n s e i h = record {
    apart = disjoint_after n s e i h;
    leaves = rel_eq T.asked.inner _ _ o (measure n s e leaves_of leaves_add i h);
    same = λ m. rel_eq T.asked.inner _ _ o (measure n s e (λ id. one (has_leaf id m)) (has_leaf_add m) i h);
  }

  pub aside_after : (n : ℕ) (s : State) → after (T by lt) starts n ≡ going s → All (Aside T starts) s.aside
  unfolding all_cells
  aside_after n s e =
      let I = sums n s e (λ i id. 0) (λ i id L p c l. refl) in
      let b = all_back (Beneath starts) s.queue s.aside (all_back (Beneath starts) s.raw (s.queue ++ s.aside) (beneath_after n s e)) in
      all_weak _ (Aside T starts) s.aside (λ c k. record { no = k.0.no; high = k.0.high; start = k.1 }) (all_with _ _ s.aside I.aside b)

  pub levels_after : (n : ℕ) (s : State) → after (T by lt) starts n ≡ going s → All (RawCell T) s.raw
  levels_after n s e =
      let I = sums n s e (λ i id. 0) (λ i id L p c l. refl) in
      all_weak _ _ s.raw (λ c k. record { low = k.low; high = k.fit.high; on = k.fit.on; inside = k.inside }) I.raw

  pub raw_cells_after : (n : ℕ) (s : State) → after (T by lt) starts n ≡ going s → All Cell (raw_ids s)
  unfolding raw_ids
  raw_cells_after n s e = all_map (λ (c : Grown). c.id) Cell s.raw (all_weak _ _ s.raw (λ c k. (_, _, k.fit.cell)) (sums n s e (λ i id. 0) (λ i id L p c l. refl)).raw)

-- ---- a leaf that is not lost

module _ (T : Task) (starts : List ℕ) (ok : All (Fit T.asked) starts) (i : ℕ) (h : i < length starts) (n : ℕ) (passes : PassesFrom T (level_of (get_or starts i 0)) n) where
  -- no set-aside cell that grew from the start cell i has the leaf
  not_held : (c : Grown) → Cell c.id → Aside T starts c → c.from ≡ i → has_leaf c.id n ≡ false
  not_held c k A e = no_true (has_leaf c.id n) (λ t.
      let s : Cell (get_or starts i 0) = (_, _, (all_get (Fit T.asked) starts 0 i h ok).cell) in
      let l : level_of (get_or starts i 0) ≤ level_of c.id = holds_level (get_or starts i 0) c.id s k (ap (λ (j : ℕ). holds (get_or starts j 0) c.id) (sym e) ∙ A.start.inside) in
      let d : parent_at (2 * n + 1) (level_of c.id) ≡ c.id = parent_of_leaf c.id n k t in
      true≢false (sym (passes (level_of c.id) l A.high) ∙ ap T.hits d ∙ A.no))

  aside_none : (l : List Grown) → All (λ (c : Grown). Cell c.id × Aside T starts c) l → sum_of (λ (c : Grown). at_start i (λ id. one (has_leaf id n)) c.from c.id) l ≡ 0
  unfolding All sum_of one sel
  aside_none [] a = refl
  aside_none (c ∷ l) a = ⊎_elim
      (λ (e : eqb c.from i ≡ true). rw (not_held c a.0.0 a.0.1 (eqb-true _ _ e), one) (omega (arith, sel_zero (eqb c.from i), aside_none l a.1)))
      (λ (e : eqb c.from i ≡ false). rw (e, sel) (omega (arith, aside_none l a.1)))
      (which (eqb c.from i))

-- ---- demand 3

module _ (T : Task) (D : Domain T.asked) (lt : Grown → Grown → Bool) (starts : List ℕ) (ok : All (Fit T.asked) starts) (a : ℕ) (s : State) (done : run (T by lt) starts a ≡ going s) where
  pub no_ground_missing : T.asked.inner ≡ false → (k : ℕ) → k ≤ s.steps → Step (T by lt) starts k
  no_ground_missing o k h =
      let t = (run_ends T lt starts a s done).each k (omega arith) h in
      record {
        state = t.0;
        is = t.1;
        count = t.2;
        beneath = beneath_after T D lt starts ok k t.0 t.1;
        tiles = tiles_after T D lt starts ok o k t.0 t.1;
        aside = aside_after T D lt starts ok k t.0 t.1;
      }

  -- a leaf under a start cell, whose containing cells from that start cell's level to max pass, lies under a raw cell
  pub leaf_kept : T.asked.inner ≡ false → (i n : ℕ) → i < length starts → has_leaf (get_or starts i 0) n ≡ true → PassesFrom T (level_of (get_or starts i 0)) n → 0 < times_covered (raw_ids s) n
  unfolding raw_ids times_covered sum_of one
  leaf_kept o i n h t passes =
      let E = run_ends T lt starts a s done in
      let f : ℕ → ℕ = λ id. one (has_leaf id n) in
      let w : Grown → ℕ = λ c. at_start i f c.from c.id in
      let I = sums T D lt starts ok s.steps s E.last (at_start i f) (at_add i f (has_leaf_add n)) in
      let z : i ≡ 0 + i = omega arith in
      let b : sum_of w (placed 0 starts) ≡ one (has_leaf (get_or starts i 0) n) =
      ap (λ (j : ℕ). sum_of (λ (c : Grown). at_start j f c.from c.id) (placed 0 starts)) z ∙ sum_start f 0 starts i h in
      let u : one (has_leaf (get_or starts i 0) n) ≡ 1 = ap one t in
      let c : 0 + (sum_of w s.raw + (sum_of w s.queue + sum_of w s.aside)) ≡ sum_of w (placed 0 starts) = rel_eq T.asked.inner _ _ o I.sum in
      let d : sum_of w s.queue ≡ 0 = ap (sum_of w) E.empty in
      let v : All (λ (c : Grown). Cell c.id × Aside T starts c) s.aside = all_with _ _ s.aside (all_weak _ _ s.aside (λ c k. (_, _, k.cell)) I.aside) (aside_after T D lt starts ok s.steps s E.last) in
      let g : sum_of w s.aside ≡ 0 = aside_none T starts ok i h n passes s.aside v in
      omega (arith, sum_from i f s.raw, from_le i f s.raw, sum_map (λ (c : Grown). c.id) f s.raw)

  -- the raw cells, as Ground knows them
  pub raw_kept : All (λ (c : Grown). Kept T c.id) s.raw
  raw_kept = (sums T D lt starts ok s.steps s (run_ends T lt starts a s done).last (λ i id. 0) (λ i id L p c l. refl)).raw

  pub raw_cells : All Cell (raw_ids s)
  raw_cells = raw_cells_after T D lt starts ok s.steps s (run_ends T lt starts a s done).last

  pub raw_levels : All (RawCell T) s.raw
  raw_levels = levels_after T D lt starts ok s.steps s (run_ends T lt starts a s done).last

-- ---- start cells that don't overlap: no two raw cells overlap, in inner and outer runs

module _ (T : Task) (D : Domain T.asked) (lt : Grown → Grown → Bool) (starts : List ℕ) (ok : All (Fit T.asked) starts) (apart : Disjoint starts) where
  pub raw_disjoint : (n : ℕ) (s : State) → after (T by lt) starts n ≡ going s → Disjoint (raw_ids s)
  unfolding raw_ids times_covered
  raw_disjoint n s e =
      disjoint_of (raw_ids s) (raw_cells_after T D lt starts ok n s e)
      (λ m.
      let f : ℕ → ℕ = λ id. one (has_leaf id m) in
      let I = sums T D lt starts ok n s e (λ i id. one (has_leaf id m)) (λ i id L p c l. has_leaf_add m id L p c l) in
      let r = rel_le T.asked.inner _ _ I.sum in
      omega (arith, sum_map (λ (c : Grown). c.id) f s.raw, sum_placed f 0 starts, disjoint_once starts (all_weak _ _ starts (λ x F. (_, _, F.cell)) ok) apart m))
