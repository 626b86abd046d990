-- What every state of a run keeps: for any additive measure of cells, the sum over results, queue and set-aside cells is that of the start cells.
use mathlib.Core.Path.{◌≡◌, refl, sym, ap, ◌∙◌, subst}
use mathlib.Core.Bool.{Bool, true, false, ◌&&◌, not, true≢false, and-eq-true_iff}
use mathlib.Core.List.{List, [], ◌∷◌, map}
use Prim.Native.Nat.{ℕ, zero, suc, ◌+◌, ◌-◌, ◌*◌, ◌%◌, ◌≤◌, ◌<◌}
use native.Mathlib.Nat.{add-mod_right, zero-mod, zero-add}
use native.Mathlib.Omega.{arith}
use lib.Dec.{leb, ltb, eqb}
use lib.ListN.{length}
use borrow.Author.Tests.{ltb-true, ltb-false, leb-true, not-true}
use Rattle.cellid.specs.CellId.{IsCell, child_of, level_of, place_of}
use Rattle.cellid.proofs.Laws.{level_cell, or_false}
use Rattle.cellid.proofs.Leaves.{child_cell}
use Rattle.order.specs.Order.{All}
use Rattle.run.specs.Run.{Child, Expansion, Grown, Look, State, add, add_all, after, depth, divide, ending, enqueue, expand, fails, four_of, full, is_handed_on, is_empty, is_full, join, keep, lifts, look, none, nothing, placed, reached, set_aside, start_all, start_as, step, step_on, step_with, sum_of, terminal, expansion_of, Task, min_level, max_level, level_mod, max_cells, queue_most, raw_most, part, ◌by◌, failing}
use Rattle.run.specs.Ground.{Domain, Fit, look_for, ChildOk, Queued}
use Rattle.order.proofs.OrderLaws.{all_append}
use Rattle.run.proofs.Lists.{Fares, sum_append, sum_map, sum_insert, all_map, all_insert, Holds, then_ok, if_ok, empty_nil, Rel, rel_refl, rel_trans, rel_add, rel_less, rel_same}
use Rattle.run.proofs.Looks.{MeansBy, Means, look_means, canon}

-- a measure of cells, with the place of the start cell, that is the sum of its four children's
abbrev pub Additive : (ℕ → ℕ → ℕ) → Type 0
Additive F = (i id L p : ℕ) → IsCell id L p → L < 30
    → F i (child_of id 0) + (F i (child_of id 1) + (F i (child_of id 2) + F i (child_of id 3))) ≡ F i id

pub record Failed (T : Task) (id : ℕ) : Type 0 where
  pub cell : IsCell id (level_of id) (place_of id)
  pub high : level_of id ≤ max_level T.asked
  pub no : T.hits id ≡ false

pub record Kept (T : Task) (id : ℕ) : Type 0 where
  pub fit : Fit T.asked id
  pub low : min_level T.asked ≤ level_of id
  pub yes : T.hits id ≡ true
  pub inside : T.asked.inner ≡ true → T.within id ≡ true

module _ (T : Task) (f : ℕ → ℕ) where
  pub record ExpOk (e : Expansion) (w : ℕ) : Type 0 where
    pub sum : Rel T.asked.inner (sum_of (λ (k : Child). f k.id) e.children + sum_of f e.failed) w
    pub children : All (ChildOk T) e.children
    pub failed : All (Failed T) e.failed

  join_ok : (a b : Expansion) (u v : ℕ) → ExpOk a u → ExpOk b v → ExpOk (join a b) (u + v)
  unfolding join
  join_ok a b u v x y =
      let f' : Child → ℕ = λ k. f k.id in
      record {
        sum = rel_same T.asked.inner _ ((sum_of f' a.children + sum_of f a.failed) + (sum_of f' b.children + sum_of f b.failed)) (u + v)
            (omega (arith, sum_append f' a.children b.children, sum_append f a.failed b.failed))
            (rel_add T.asked.inner _ _ _ _ x.sum y.sum);
        children = all_append _ a.children b.children x.children y.children;
        failed = all_append _ a.failed b.failed x.failed y.failed;
      }

  reached_ok : (id : ℕ) (v : Look) → Fit T.asked id → look T id ≡ v → ExpOk (reached id v) (f id)
  unfolding reached sum_of All MeansBy
  reached_ok id fails F e = record {
    sum = rel_same T.asked.inner _ (f id) (f id) (omega arith) (rel_refl T.asked.inner (f id));
    children = tt;
    failed = (record { cell = F.cell; high = F.high; no = look_means T id fails e }, tt);
  }
  reached_ok id none F e = record {
    sum = rel_less T.asked.inner _ (f id) (f id) (look_means T id none e) (omega arith) (rel_refl T.asked.inner (f id));
    children = tt;
    failed = tt;
  }
  reached_ok id terminal F e = record {
    sum = rel_same T.asked.inner _ (f id) (f id) (omega arith) (rel_refl T.asked.inner (f id));
    children = (record { fit = F; seen = e }, tt);
    failed = tt;
  }
  reached_ok id divide F e = record {
    sum = rel_same T.asked.inner _ (f id) (f id) (omega arith) (rel_refl T.asked.inner (f id));
    children = (record { fit = F; seen = e }, tt);
    failed = tt;
  }

  failing_ok : (c L p : ℕ) → IsCell c L p → L ≤ max_level T.asked → T.hits c ≡ false → ExpOk (failing c) (f c)
  unfolding All sum_of
  failing_ok c L p d h t = record {
    sum = rel_same T.asked.inner _ (f c) (f c) (omega arith) (rel_refl T.asked.inner (f c));
    children = tt;
    failed = (record { cell = canon c L p d; high = rw (level_cell c L p d) h; no = t }, tt);
  }

  module _ (D : Domain T.asked) (A : (id L p : ℕ) → IsCell id L p → L < 30 → f (child_of id 0) + (f (child_of id 1) + (f (child_of id 2) + f (child_of id 3))) ≡ f id) where
    -- the level that is reached is one of the run
    abbrev AtRun : ℕ → Type 0
    AtRun M = (M ≤ max_level T.asked) × ((M - min_level T.asked) % level_mod T.asked ≡ 0)

    four_ok : (n id L p : ℕ) → IsCell id L p → AtRun (L + suc n) → ((k : ℕ) → k < 4 → IsCell (child_of id k) (L + 1) (4 * p + k) → AtRun ((L + 1) + n) → ExpOk (part T n (child_of id k)) (f (child_of id k)))
        → ExpOk (four_of (part T n) id) (f id)
    unfolding four_of
    four_ok n id L p c h a =
        let e : L + suc n ≡ (L + 1) + n = omega arith in
        let deep : L < 30 = omega (arith, D.deep, h.0) in
        let b : (k : ℕ) → k < 4 → ExpOk (part T n (child_of id k)) (f (child_of id k)) = λ k g. a k g (child_cell k c deep g) (subst AtRun e h) in
        subst (ExpOk (four_of (part T n) id)) (A id L p c deep)
        (join_ok _ _ _ _ (b 0 (omega arith)) (join_ok _ _ _ _ (b 1 (omega arith)) (join_ok _ _ _ _ (b 2 (omega arith)) (b 3 (omega arith)))))

    part_ok : (n id L p : ℕ) → IsCell id L p → AtRun (L + n) → ExpOk (part T n id) (f id)
    unfolding part
    part_ok zero id L p c h =
        let l : level_of id ≡ L + 0 = level_cell id L p c ∙ omega arith in
        reached_ok id (look T id) (record { cell = canon id L p c; high = rw l h.0; on = rw l h.1 }) refl
    part_ok (suc n) id L p c h = if_ok (λ y. ExpOk y (f id)) (T.hits id) _ _
        (λ t. four_ok n id L p c h (λ k g d r. part_ok n (child_of id k) (L + 1) (4 * p + k) d r))
        (λ t. failing_ok id L p c (omega (arith, h.0)) t)

    pub expand_ok : (n id L p : ℕ) → IsCell id L p → L + n ≤ max_level T.asked → ((L + n) - min_level T.asked) % level_mod T.asked ≡ 0 → ExpOk (expand T n id) (f id)
    unfolding expand
    expand_ok zero id L p c h o = part_ok zero id L p c (h, o)
    expand_ok (suc n) id L p c h o = four_ok n id L p c (h, o) (λ k g d r. part_ok n (child_of id k) (L + 1) (4 * p + k) d r)

-- ---- a queued cell's expansion

pub low_on : (L m k : ℕ) → L < m → ((L + 1) - m) % k ≡ 0
low_on L m k h = let e : (L + 1) - m ≡ 0 = omega arith in ap (λ (n : ℕ). n % k) e ∙ zero-mod k

pub high_on : (L m k : ℕ) → m ≤ L → (L - m) % k ≡ 0 → ((L + k) - m) % k ≡ 0
high_on L m k h e = let s : (L + k) - m ≡ (L - m) + k = omega arith in rw s (add-mod_right (L - m) k ∙ e)

module _ (T : Task) (D : Domain T.asked) (lt : Grown → Grown → Bool) (F : ℕ → ℕ → ℕ) (A : Additive F) where
  pub expansion_ok : (i id : ℕ) → Queued T id → ExpOk T (F i) (expansion_of T id) (F i id)
  unfolding expansion_of depth MeansBy
  expansion_ok i id Q =
      let m : Means T id divide = look_means T id divide Q.seen in
      let c = Q.fit.cell in
      if_ok (λ (n : ℕ). ExpOk T (F i) (expand T n id) (F i id)) (ltb (level_of id) (min_level T.asked)) 1 (level_mod T.asked)
      (λ t. let l : level_of id < min_level T.asked = ltb-true _ _ t in
      expand_ok T (F i) D (A i) 1 id (level_of id) (place_of id) c (omega (arith, D.order)) (low_on (level_of id) (min_level T.asked) (level_mod T.asked) l))
      (λ t. let l : min_level T.asked ≤ level_of id = ltb-false _ _ t in
      let b : level_of id + level_mod T.asked ≤ max_level T.asked = ltb-false _ _ (m.1 t) in
      expand_ok T (F i) D (A i) (level_mod T.asked) id (level_of id) (place_of id) c b (high_on (level_of id) (min_level T.asked) (level_mod T.asked) l Q.fit.on))

  -- ---- states: w is what still has to be put somewhere

  abbrev pub weight : Grown → ℕ
  weight c = F c.from c.id

  pub record Inv (N w : ℕ) (s : State) : Type 0 where
    pub sum : Rel T.asked.inner (w + (sum_of weight s.raw + (sum_of weight s.queue + sum_of weight s.aside))) N
    pub raw : All (λ (c : Grown). Kept T c.id) s.raw
    pub queue : All (λ (c : Grown). Queued T c.id) s.queue
    pub aside : All (λ (c : Grown). Failed T c.id) s.aside

  less_ok : (N w w' : ℕ) (s : State) → Rel T.asked.inner w' w → Inv N w s → Inv N w' s
  less_ok N w w' s r I = record {
    sum = rel_trans T.asked.inner _ _ _ (rel_add T.asked.inner _ _ _ _ r (rel_refl T.asked.inner (sum_of weight s.raw + (sum_of weight s.queue + sum_of weight s.aside)))) I.sum;
    raw = I.raw;
    queue = I.queue;
    aside = I.aside;
  }

  keep_ok : (N w : ℕ) (c : Grown) (s : State) → Kept T c.id → Inv N (weight c + w) s → Holds (Inv N w) (keep c s)
  unfolding keep Fares All sum_of
  keep_ok N w c s k I = if_ok (Holds (Inv N w)) (ltb (length s.raw) raw_most) _ _
      (λ t. record {
        sum = rel_same T.asked.inner _ _ N (omega (arith, sum_append weight s.raw (c ∷ []))) I.sum;
        raw = all_append _ s.raw (c ∷ []) I.raw (k, tt);
        queue = I.queue;
        aside = I.aside;
      })
      (λ t. tt)

  enqueue_ok : (N w : ℕ) (c : Grown) (s : State) → Queued T c.id → Inv N (weight c + w) s → Holds (Inv N w) (enqueue lt c s)
  unfolding enqueue Fares
  enqueue_ok N w c s k I = if_ok (Holds (Inv N w)) (ltb (length s.queue) queue_most) _ _
      (λ t. record {
        sum = rel_same T.asked.inner _ _ N (omega (arith, sum_insert lt weight c s.queue)) I.sum;
        raw = I.raw;
        queue = all_insert lt _ c s.queue k I.queue;
        aside = I.aside;
      })
      (λ t. tt)

  aside_ok : (N w i : ℕ) (l : List ℕ) (s : State) → All (Failed T) l → Inv N (sum_of (F i) l + w) s → Inv N w (set_aside T.asked i l s)
  unfolding set_aside
  aside_ok N w i l s a I = if_ok (Inv N w) T.asked.inner _ _
      (λ t. less_ok N (sum_of (F i) l + w) w s (rel_less T.asked.inner w (sum_of (F i) l + w) _ t (omega arith) (rel_refl T.asked.inner _)) I)
      (λ t.
      let tag : ℕ → Grown = λ x. record { from = i; id = x } in
      record {
        sum = rel_same T.asked.inner _ _ N (omega (arith, sum_append weight s.aside (map tag l), sum_map tag weight l)) I.sum;
        raw = I.raw;
        queue = I.queue;
        aside = all_append _ s.aside (map tag l) I.aside (all_map tag _ l a);
      })

  kept_terminal : (id : ℕ) → Fit T.asked id → look T id ≡ terminal → Kept T id
  unfolding MeansBy
  kept_terminal id f e =
      let m : Means T id terminal = look_means T id terminal e in
      record { fit = f; low = ltb-false _ _ m.1; yes = m.0; inside = m.2 }

  kept_parent : (id : ℕ) → Queued T id → T.asked.inner ≡ false → min_level T.asked ≤ level_of id → Kept T id
  unfolding MeansBy
  kept_parent id Q o l =
      let m : Means T id divide = look_means T id divide Q.seen in
      record { fit = Q.fit; low = l; yes = m.0; inside = λ t. absurd (true≢false (sym t ∙ o)) }

  add_open : (N w : ℕ) (c : Grown) (s : State) → Queued T c.id → Inv N (weight c + w) s → Holds (Inv N w) (add (T by lt) c false s)
  unfolding add Fares sum_of lifts
  add_open N w c s Q I =
      let e = expansion_of T c.id in
      let x = expansion_ok c.from c.id Q in
      if_ok (Holds (Inv N w)) (is_empty e.children) _ _
      (λ t.
      let n : e.children ≡ [] = empty_nil e.children t in
      let r : Rel T.asked.inner (sum_of (F c.from) e.failed) (weight c) =
      rel_same T.asked.inner _ _ _ (sym (zero-add (sum_of (F c.from) e.failed)) ∙ ap (λ (l : List Child). sum_of (λ (k : Child). F c.from k.id) l + sum_of (F c.from) e.failed) (sym n)) x.sum in
      aside_ok N w c.from e.failed s x.failed (less_ok N (weight c + w) _ s (rel_add T.asked.inner _ _ _ _ r (rel_refl T.asked.inner w)) I))
      (λ t. if_ok (Holds (Inv N w)) (lifts T c.id) _ _
      (λ u.
      let a = (and-eq-true_iff (not T.asked.inner) (leb (min_level T.asked) (level_of c.id) && eqb (ending e.children) (full T.asked))).0 u in
      let b = (and-eq-true_iff (leb (min_level T.asked) (level_of c.id)) (eqb (ending e.children) (full T.asked))).0 a.1 in
      keep_ok N w c s (kept_parent c.id Q (not-true T.asked.inner a.0) (leb-true _ _ b.0)) I)
      (λ u. enqueue_ok N w c s Q I))

  add_ok : (N w : ℕ) (c : Grown) (b : Bool) (s : State) → Fit T.asked c.id → look T c.id ≡ look_for b → Inv N (weight c + w) s → Holds (Inv N w) (add (T by lt) c b s)
  unfolding add
  add_ok N w c true s f e I = keep_ok N w c s (kept_terminal c.id f e) I
  add_ok N w c false s f e I = add_open N w c s (record { fit = f; seen = e }) I

  pub full_inner : (s : State) → is_full T.asked s ≡ true → T.asked.inner ≡ true
  unfolding is_full
  full_inner s t = ((and-eq-true_iff T.asked.inner (leb (max_cells T.asked) (length s.raw))).0 t).0

  add_all_ok : (N w i : ℕ) (l : List Child) (s : State) → All (ChildOk T) l → Inv N (sum_of (λ (k : Child). F i k.id) l + w) s
      → Holds (Inv N w) (add_all (T by lt) i l s)
  unfolding add_all Fares All sum_of
  add_all_ok N w i [] s a I = less_ok N (0 + w) w s (rel_same T.asked.inner w (0 + w) (0 + w) (omega arith) (rel_refl T.asked.inner (0 + w))) I
  add_all_ok N w i (k ∷ l) s a I =
      let r = sum_of (λ (k : Child). F i k.id) l in
      if_ok (Holds (Inv N w)) (is_full T.asked s) _ _
      (λ t. add_all_ok N w i l s a.1 (less_ok N _ (r + w) s (rel_less T.asked.inner (r + w) _ _ (full_inner s t) (omega arith) (rel_refl T.asked.inner _)) I))
      (λ t. then_ok (Inv N (r + w)) (Inv N w) (add (T by lt) (record { from = i; id = k.id }) k.ends s) (add_all (T by lt) i l)
      (add_ok N (r + w) (record { from = i; id = k.id }) k.ends s a.0.fit a.0.seen (less_ok N _ _ s (rel_same T.asked.inner _ _ _ (omega arith) (rel_refl T.asked.inner _)) I))
      (λ s' J. add_all_ok N w i l s' a.1 J))

  step_with_lem : (N : ℕ) (c : Grown) (s : State) → Queued T c.id → Inv N (weight c + 0) s → Holds (Inv N 0) (step_with (T by lt) c s)
  unfolding step_with Fares All sum_of is_handed_on
  step_with_lem N c s Q I =
      let e = expansion_of T c.id in
      let x = expansion_ok c.from c.id Q in
      if_ok (Holds (Inv N 0)) (is_full T.asked s) _ _
      (λ t. record {
        sum = rel_less T.asked.inner _ _ N (full_inner s t) (omega arith) I.sum;
        raw = I.raw;
        queue = tt;
        aside = I.aside;
      })
      (λ t. if_ok (Holds (Inv N 0)) (is_handed_on T c s) _ _
      (λ u. add_all_ok N 0 c.from e.children (set_aside T.asked c.from e.failed s) x.children
      (aside_ok N _ c.from e.failed s x.failed
      (less_ok N (weight c + 0) _ s (rel_same T.asked.inner _ _ _ (omega arith) (rel_add T.asked.inner _ _ _ _ x.sum (rel_refl T.asked.inner 0))) I)))
      (λ u.
      let a = or_false T.asked.inner _ u in
      let b = or_false (ltb (level_of c.id) (min_level T.asked)) _ a.1 in
      keep_ok N 0 c s (kept_parent c.id Q a.0 (ltb-false _ _ b.0)) I))

  step_on_lem : (N : ℕ) (l : List Grown) (s : State) → s.queue ≡ l → Inv N 0 s → Holds (Inv N 0) (step_on (T by lt) l s)
  unfolding step_on Fares All sum_of
  step_on_lem N [] s e I = I
  step_on_lem N (c ∷ l) s e I =
      let a : All (λ (c : Grown). Queued T c.id) (c ∷ l) = subst (All (λ (c : Grown). Queued T c.id)) e I.queue in
      step_with_lem N c (record { raw = s.raw; queue = l; aside = s.aside; steps = suc s.steps }) a.0 (record {
        sum = rel_same T.asked.inner _ _ N (omega (arith, ap (sum_of weight) e)) I.sum;
        raw = I.raw;
        queue = a.1;
        aside = I.aside;
      })

  pub step_ok : (N : ℕ) (s : State) → Inv N 0 s → Holds (Inv N 0) (step (T by lt) s)
  unfolding step
  step_ok N s I = step_on_lem N s.queue s refl I

  start_as_lem : (N w : ℕ) (v : Look) (c : Grown) (s : State) → Fit T.asked c.id → look T c.id ≡ v → Inv N (weight c + w) s → Holds (Inv N w) (start_as (T by lt) v c s)
  unfolding start_as Fares All sum_of MeansBy
  start_as_lem N w fails c s f e I =
      aside_ok N w c.from (c.id ∷ []) s (record { cell = f.cell; high = f.high; no = look_means T c.id fails e }, tt)
      (less_ok N _ _ s (rel_same T.asked.inner _ (weight c + w) _ (omega arith) (rel_refl T.asked.inner _)) I)
  start_as_lem N w none c s f e I = less_ok N _ w s (rel_less T.asked.inner w (weight c + w) _ (look_means T c.id none e) (omega arith) (rel_refl T.asked.inner _)) I
  start_as_lem N w terminal c s f e I = add_ok N w c true s f e I
  start_as_lem N w divide c s f e I = add_ok N w c false s f e I

  start_all_lem : (N : ℕ) (l : List Grown) (s : State) → All (λ (c : Grown). Fit T.asked c.id) l → Inv N (sum_of weight l) s → Holds (Inv N 0) (start_all (T by lt) l s)
  unfolding start_all Fares All sum_of
  start_all_lem N [] s a I = I
  start_all_lem N (c ∷ l) s a I = then_ok (Inv N (sum_of weight l)) (Inv N 0) (start_as (T by lt) (look T c.id) c s) (start_all (T by lt) l)
      (start_as_lem N (sum_of weight l) (look T c.id) c s a.0 refl I)
      (λ s' J. start_all_lem N l s' a.1 J)

  fit_placed : (i : ℕ) (l : List ℕ) → All (Fit T.asked) l → All (λ (c : Grown). Fit T.asked c.id) (placed i l)
  unfolding placed All
  fit_placed i [] a = tt
  fit_placed i (x ∷ l) a = (a.0, fit_placed (suc i) l a.1)

  -- after each step, whatever the run comes to
  pub after_ok : (starts : List ℕ) → All (Fit T.asked) starts → (n : ℕ) → Holds (Inv (sum_of weight (placed 0 starts)) 0) (after (T by lt) starts n)
  unfolding after sum_of All
  after_ok starts a zero = start_all_lem _ (placed 0 starts) nothing (fit_placed 0 starts a) (record {
    sum = rel_same T.asked.inner _ (sum_of weight (placed 0 starts)) _ (omega arith) (rel_refl T.asked.inner _);
    raw = tt;
    queue = tt;
    aside = tt;
  })
  after_ok starts a (suc n) = then_ok _ _ (after (T by lt) starts n) (step (T by lt)) (after_ok starts a n) (λ s I. step_ok _ s I)
