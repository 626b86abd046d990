-- Going through all leaves: what may be passed over at once, and what the stretches hold.
use mathlib.Core.Path.{◌≡◌, refl, sym, ap, ◌∙◌, subst}
use mathlib.Core.Logic.{inl, inr, ⊎_elim}
use mathlib.Core.Bool.{Bool, true, false, ◌&&◌, ◌||◌, and-eq-true_iff}
use mathlib.Core.List.{List, [], ◌++◌, append-nil}
use Prim.Native.Nat.{ℕ, zero, suc, ◌+◌, ◌-◌, ◌≤◌, ◌<◌}
use native.Mathlib.Omega.{arith}
use lib.Dec.{ltb}
use borrow.Author.Tests.{ltb-true, ltb-false}
use Rattle.cellid.specs.CellId.{Cell, IsCell, id_of, child_of}
use Rattle.cellid.proofs.Laws.{or_true, true_or, bool_iff}
use Rattle.order.specs.Order.{All}
use Rattle.order.proofs.OrderLaws.{which, all_append}
use Rattle.cellunion.specs.CellUnion.{lo, hi, covers, Member, Apart, NoFour, Normal, normalise}
use Rattle.cellunion.proofs.Spans.{span, kids}
use Rattle.cellunion.proofs.Unique.{all_at, at_all, covers←, member_append→, apart_append}
use Rattle.cellunion.proofs.Norm.{normal_is}
use Rattle.cellunion.proofs.Counts.{hi_le}
use Rattle.cellunion.proofs.Lists.{covers_nil, covers_append}
use Rattle.ranges.specs.Ranges.{leaves, tile}
use Rattle.ranges.specs.Stretches.{each, stretches}
use Rattle.ranges.proofs.Tiles.{clash, between, between→, between←, and_both, tiled}

-- ---- one leaf, and many

module _ (out : ℕ → ℕ → List ℕ) (f : ℕ → Bool) where
  each_yes : (s n k : ℕ) → f n ≡ true → each out f s n (suc k) ≡ each out f s (n + 1) k
  unfolding each
  each_yes s n k t = rw (each, t)

  each_no : (s n k : ℕ) → f n ≡ false → each out f s n (suc k) ≡ out s n ++ each out f (n + 1) (n + 1) k
  unfolding each
  each_no s n k t = rw (each, t)

  -- what is left of N leaves from n on
  abbrev pub rest : ℕ → ℕ → ℕ → List ℕ
  rest N s n = each out f s n (N - n)

  rest_yes : (N s n : ℕ) → n < N → f n ≡ true → rest N s n ≡ rest N s (n + 1)
  rest_yes N s n h t =
      let e : N - n ≡ suc (N - (n + 1)) = omega arith in
      ap (each out f s n) e ∙ each_yes s n (N - (n + 1)) t

  rest_no : (N s n : ℕ) → n < N → f n ≡ false → rest N s n ≡ out s n ++ rest N (n + 1) (n + 1)
  rest_no N s n h t =
      let e : N - n ≡ suc (N - (n + 1)) = omega arith in
      ap (each out f s n) e ∙ each_no s n (N - (n + 1)) t

  run_yes : (d N s n m : ℕ) → m ≡ n + d → m ≤ N → ((i : ℕ) → n ≤ i → i < m → f i ≡ true) → rest N s n ≡ rest N s m
  run_yes zero N s n m e h t = let z : n ≡ m = omega arith in ap (rest N s) z
  run_yes (suc d) N s n m e h t = rest_yes N s n (omega arith) (t n (omega arith) (omega arith)) ∙ run_yes d N s (n + 1) m (omega arith) h (λ i a b. t i (omega arith) b)

  -- leaves that pass lengthen the stretch
  pub skip_yes : (N s n m : ℕ) → n ≤ m → m ≤ N → ((i : ℕ) → n ≤ i → i < m → f i ≡ true) → rest N s n ≡ rest N s m
  skip_yes N s n m g h t = run_yes (m - n) N s n m (omega arith) h t

  module _ (nil : (s : ℕ) → out s s ≡ []) where
    run_no : (d N n m : ℕ) → m ≡ n + d → m ≤ N → ((i : ℕ) → n ≤ i → i < m → f i ≡ false) → rest N n n ≡ rest N m m
    run_no zero N n m e h t = let z : n ≡ m = omega arith in ap (λ (x : ℕ). rest N x x) z
    run_no (suc d) N n m e h t = rest_no N n n (omega arith) (t n (omega arith) (omega arith))
        ∙ ap (λ (l : List ℕ). l ++ rest N (n + 1) (n + 1)) (nil n) ∙ run_no d N (n + 1) m (omega arith) h (λ i a b. t i (omega arith) b)

    -- leaves that do not pass end it
    pub skip_no : (N s n m : ℕ) → n < m → m ≤ N → ((i : ℕ) → n ≤ i → i < m → f i ≡ false) → rest N s n ≡ out s n ++ rest N m m
    skip_no N s n m g h t = rest_no N s n (omega arith) (t n (omega arith) (omega arith))
        ∙ ap (λ (l : List ℕ). out s n ++ l) (run_no (m - (n + 1)) N (n + 1) m (omega arith) h (λ i a b. t i (omega arith) b))

    pub skip_none : (N n m : ℕ) → n ≤ m → m ≤ N → ((i : ℕ) → n ≤ i → i < m → f i ≡ false) → rest N n n ≡ rest N m m
    skip_none N n m g h t = run_no (m - n) N n m (omega arith) h t

  pub rest_end : (N s : ℕ) → rest N s N ≡ out s N
  unfolding each
  rest_end N s = let z : N - N ≡ 0 = omega arith in rw z

-- only what f says of the leaves to come counts
each_same : (out : ℕ → ℕ → List ℕ) (f g : ℕ → Bool) (k s n : ℕ) → ((i : ℕ) → n ≤ i → i < n + k → f i ≡ g i) → each out f s n k ≡ each out g s n k
unfolding each
each_same out f g zero s n h = refl
each_same out f g (suc k) s n h = ⊎_elim
    (λ (t : f n ≡ true). each_yes out f s n k t ∙ each_same out f g k s (n + 1) (λ i a b. h i (omega arith) (omega arith)) ∙ sym (each_yes out g s n k (sym (h n (omega arith) (omega arith)) ∙ t)))
    (λ (t : f n ≡ false). each_no out f s n k t ∙ ap (λ (l : List ℕ). out s n ++ l) (each_same out f g k (n + 1) (n + 1) (λ i a b. h i (omega arith) (omega arith))) ∙ sym (each_no out g s n k (sym (h n (omega arith) (omega arith)) ∙ t)))
    (which (f n))

pub rest_same : (out : ℕ → ℕ → List ℕ) (f g : ℕ → Bool) (N s n : ℕ) → ((i : ℕ) → n ≤ i → f i ≡ g i) → rest out f N s n ≡ rest out g N s n
rest_same out f g N s n h = each_same out f g (N - n) s n (λ i a b. h i a)

pub stretches_same : (out : ℕ → ℕ → List ℕ) (f g : ℕ → Bool) → ((i : ℕ) → f i ≡ g i) → stretches out f ≡ stretches out g
unfolding stretches
stretches_same out f g h = each_same out f g leaves 0 0 (λ i a b. h i)

-- ---- what the stretches hold, for any `out` and any `has` that finds in `out s e` just the leaves of [s, e)

module _ (out : ℕ → ℕ → List ℕ) (has : List ℕ → ℕ → Bool) (at : (s e : ℕ) (l : List ℕ) (n : ℕ) → s ≤ e → e ≤ leaves → has (out s e ++ l) n ≡ (between s e n || has l n)) (nil : (n : ℕ) → has [] n ≡ false) (f : ℕ → Bool) where
  has_end : (s e n : ℕ) → s ≤ e → e ≤ leaves → has (out s e) n ≡ between s e n
  has_end s e n h r = ap (λ (l : List ℕ). has l n) (sym (append-nil (out s e))) ∙ at s e [] n h r ∙ ap (λ (b : Bool). between s e n || b) (nil n) ∙ or_none (between s e n)
    where
      or_none : (b : Bool) → (b || false) ≡ b
      or_none true = refl
      or_none false = refl

  each_has : (k s n m : ℕ) → s ≤ n → n + k ≤ leaves → ((i : ℕ) → s ≤ i → i < n → f i ≡ true) → has (each out f s n k) m ≡ (between s (n + k) m && f m)
  unfolding each
  each_has zero s n m h r t = has_end s n m h (omega arith) ∙ bool_iff (between s n m) (between s (n + 0) m && f m)
      (λ u. let w = between→ s n m u in and_both _ _ (between← s (n + 0) m w.0 (omega (arith, w.1))) (t m w.0 w.1))
      (λ u. let w = between→ s (n + 0) m ((and-eq-true_iff (between s (n + 0) m) (f m)).0 u).0 in between← s n m w.0 (omega (arith, w.1)))
  each_has (suc k) s n m h r t = ⊎_elim
      (λ (u : f n ≡ true). ap (λ (l : List ℕ). has l m) (each_yes out f s n k u)
      ∙ each_has k s (n + 1) m (omega arith) (omega arith) (λ i a b. ⊎_elim (λ (v : ltb i n ≡ true). t i a (ltb-true _ _ v)) (λ (v : ltb i n ≡ false). let q : n ≡ i = omega (arith, ltb-false i n v) in subst (λ (x : ℕ). f x ≡ true) q u) (which (ltb i n)))
      ∙ ap (λ (x : ℕ). between s x m && f m) (move n k))
      (λ (u : f n ≡ false). ap (λ (l : List ℕ). has l m) (each_no out f s n k u)
      ∙ at s n (each out f (n + 1) (n + 1) k) m h (omega arith)
      ∙ ap (λ (b : Bool). between s n m || b) (each_has k (n + 1) (n + 1) m (omega arith) (omega arith) (λ i a b. absurd (omega arith)) ∙ ap (λ (x : ℕ). between (n + 1) x m && f m) (move n k))
      ∙ around s n (n + suc k) m h (omega arith) t u)
      (which (f n))
    where
      move : (n k : ℕ) → n + 1 + k ≡ n + suc k
      move n k = omega arith

      around : (s n e m : ℕ) → s ≤ n → n < e → ((i : ℕ) → s ≤ i → i < n → f i ≡ true) → f n ≡ false → (between s n m || (between (n + 1) e m && f m)) ≡ (between s e m && f m)
      around s n e m h g t u = bool_iff (between s n m || (between (n + 1) e m && f m)) (between s e m && f m)
          (λ v. ⊎_elim
          (λ w. let r = between→ s n m w in and_both _ _ (between← s e m r.0 (omega (arith, r.1))) (t m r.0 r.1))
          (λ w. let q = (and-eq-true_iff (between (n + 1) e m) (f m)).0 w in let r = between→ (n + 1) e m q.0 in and_both _ _ (between← s e m (omega (arith, r.0)) r.1) q.1)
          (or_true (between s n m) (between (n + 1) e m && f m) v))
          (λ v. let q = (and-eq-true_iff (between s e m) (f m)).0 v in let r = between→ s e m q.0 in ⊎_elim
          (λ (w : ltb m n ≡ true). true_or (between s n m) (between (n + 1) e m && f m) (inl (between← s n m r.0 (ltb-true _ _ w))))
          (λ (w : ltb m n ≡ false). ⊎_elim
          (λ (x : ltb n m ≡ true). true_or (between s n m) (between (n + 1) e m && f m) (inr (and_both _ _ (between← (n + 1) e m (omega (arith, ltb-true n m x)) r.1) q.1)))
          (λ (x : ltb n m ≡ false). let y : m ≡ n = omega (arith, ltb-false m n w, ltb-false n m x) in clash (f m) q.1 (ap f y ∙ u))
          (which (ltb n m)))
          (which (ltb m n)))

  -- the leaves of the stretches are those that pass
  pub stretches_has : ((n : ℕ) → leaves ≤ n → f n ≡ false) → (m : ℕ) → has (stretches out f) m ≡ f m
  unfolding stretches
  stretches_has z m = each_has leaves 0 0 m (omega arith) (omega arith) (λ i a b. absurd (omega arith)) ∙ bool_iff (between 0 (0 + leaves) m && f m) (f m)
      (λ t. ((and-eq-true_iff (between 0 (0 + leaves) m) (f m)).0 t).1)
      (λ t. ⊎_elim
      (λ (u : ltb m leaves ≡ true). let h : m < leaves = ltb-true _ _ u in rw (between← 0 (0 + leaves) m (omega arith) (omega arith)) t)
      (λ (u : ltb m leaves ≡ false). clash (f m) t (z m (ltb-false _ _ u)))
      (which (ltb m leaves)))

-- ---- the cells of the leaves that pass are the normal list of these

pub record Held (f : ℕ → Bool) (s e : ℕ) (l : List ℕ) : Type 0 where
  pub cells : All Cell l
  pub apart : Apart l
  pub from : All (λ y. s ≤ lo y) l
  pub most : (c d : ℕ) → Member c l → Cell d → lo d ≡ lo c → hi d ≤ e → ((n : ℕ) → lo d ≤ n → n < hi d → f n ≡ true) → hi d ≤ hi c

held_end : (f : ℕ → Bool) (s e : ℕ) → s ≤ e → e ≤ leaves → Held f s e (tile s e)
held_end f s e h r = let T = tiled s e h r in record { cells = T.cells; apart = T.apart; from = T.from; most = λ c d m D q g t. T.most c d m D q g }

held_more : (f : ℕ → Bool) (s n e : ℕ) (l : List ℕ) → s ≤ n → n < e → e ≤ leaves → f n ≡ false → Held f (n + 1) e l → Held f s e (tile s n ++ l)
held_more f s n e l h g r u H =
    let T = tiled s n h (omega arith) in
    record {
      cells = all_append Cell (tile s n) l T.cells H.cells;
      apart = apart_append (tile s n) l T.apart H.apart (λ x y i j.
          let a : hi x ≤ n = all_at (λ y. hi y ≤ n) (tile s n) T.to x i in
          let b : n + 1 ≤ lo y = all_at (λ y. n + 1 ≤ lo y) l H.from y j in
          let u = span (all_at Cell (tile s n) T.cells x i) in
          let v = span (all_at Cell l H.cells y j) in
          omega arith);
      from = all_append (λ y. s ≤ lo y) (tile s n) l T.from (at_all (λ y. s ≤ lo y) l (λ y m. let w : n + 1 ≤ lo y = all_at (λ y. n + 1 ≤ lo y) l H.from y m in omega arith));
      most = λ c d m D q w t. ⊎_elim
          (λ (k : Member c (tile s n)). T.most c d k D q (⊎_elim
          (λ (v : ltb n (hi d) ≡ true).
          let x : hi c ≤ n = all_at (λ y. hi y ≤ n) (tile s n) T.to c k in
          let y = span (all_at Cell (tile s n) T.cells c k) in
          clash (f n) (t n (omega arith) (ltb-true n (hi d) v)) u)
          (λ (v : ltb n (hi d) ≡ false). ltb-false n (hi d) v)
          (which (ltb n (hi d)))))
          (λ (k : Member c l). H.most c d k D q w t)
          (member_append→ (tile s n) l c m);
    }

each_held : (f : ℕ → Bool) (k s n : ℕ) → s ≤ n → n + k ≤ leaves → Held f s (n + k) (each tile f s n k)
unfolding each
each_held f zero s n h r = (let z : n + 0 ≡ n = omega arith in subst (λ (x : ℕ). Held f s x (tile s n)) (sym z) (held_end f s n h (omega arith)))
each_held f (suc k) s n h r =
    let z : n + 1 + k ≡ n + suc k = omega arith in
    ⊎_elim
    (λ (u : f n ≡ true). subst (Held f s (n + suc k)) (sym (each_yes tile f s n k u)) (subst (λ (x : ℕ). Held f s x (each tile f s (n + 1) k)) z (each_held f k s (n + 1) (omega arith) (omega arith))))
    (λ (u : f n ≡ false). subst (Held f s (n + suc k)) (sym (each_no tile f s n k u)) (held_more f s n (n + suc k) (each tile f (n + 1) (n + 1) k) h (omega arith) r u (subst (λ (x : ℕ). Held f (n + 1) x (each tile f (n + 1) (n + 1) k)) z (each_held f k (n + 1) (n + 1) (omega arith) (omega arith)))))
    (which (f n))

module _ (f : ℕ → Bool) (z : (n : ℕ) → leaves ≤ n → f n ≡ false) where
  -- their leaves are those that pass ..
  pub cells_leaves : (n : ℕ) → covers (stretches tile f) n ≡ f n
  cells_leaves n = stretches_has tile covers (λ s e l n h r. covers_append (tile s e) l n ∙ ap (λ (b : Bool). b || covers l n) ((tiled s e h r).has n)) covers_nil f z n

  no_four : (l : List ℕ) → Held f 0 leaves l → ((n : ℕ) → covers l n ≡ f n) → NoFour l
  unfolding NoFour
  no_four l H same L p h g m0 m1 m2 m3 =
      let P : IsCell (id_of L p) L p = record { level = omega arith; place = g; is = refl } in
      let K = kids P h in
      let in-l : (k n : ℕ) → Member (child_of (id_of L p) k) l → lo (child_of (id_of L p) k) ≤ n → n < hi (child_of (id_of L p) k) → f n ≡ true = λ k n m a b. sym (same n) ∙ covers← l n H.cells (child_of (id_of L p) k, m, a, b) in
      let r : hi (id_of L p) ≤ hi (child_of (id_of L p) 0) = H.most (child_of (id_of L p) 0) (id_of L p) m0 (L, p, P) (omega arith) (hi_all P) (λ n a b. ⊎_elim
      (λ (t : ltb n (hi (child_of (id_of L p) 0)) ≡ true). in-l 0 n m0 (omega arith) (ltb-true _ _ t))
      (λ (t : ltb n (hi (child_of (id_of L p) 0)) ≡ false). let t0 = ltb-false n (hi (child_of (id_of L p) 0)) t in ⊎_elim
      (λ (t : ltb n (hi (child_of (id_of L p) 1)) ≡ true). in-l 1 n m1 (omega arith) (ltb-true _ _ t))
      (λ (t : ltb n (hi (child_of (id_of L p) 1)) ≡ false). let t1 = ltb-false n (hi (child_of (id_of L p) 1)) t in ⊎_elim
      (λ (t : ltb n (hi (child_of (id_of L p) 2)) ≡ true). in-l 2 n m2 (omega arith) (ltb-true _ _ t))
      (λ (t : ltb n (hi (child_of (id_of L p) 2)) ≡ false). let t2 = ltb-false n (hi (child_of (id_of L p) 2)) t in in-l 3 n m3 (omega arith) (omega arith))
      (which (ltb n (hi (child_of (id_of L p) 2)))))
      (which (ltb n (hi (child_of (id_of L p) 1)))))
      (which (ltb n (hi (child_of (id_of L p) 0))))) in
      omega arith
    where
      hi_all : {c L p : ℕ} → IsCell c L p → hi c ≤ leaves
      hi_all {c} {L} {p} P = hi_le (L, p, P)

  -- .. and they are normal
  pub cells_normal : Normal (stretches tile f)
  unfolding stretches
  cells_normal =
      let H : Held f 0 leaves (each tile f 0 0 leaves) = each_held f leaves 0 0 (omega arith) (omega arith) in
      record { cells = H.cells; apart = H.apart; nofour = no_four (each tile f 0 0 leaves) H cells_leaves }

  -- so they are what normalising gives for any list of cells with these leaves
  pub cells_are : (l : List ℕ) → All Cell l → ((n : ℕ) → covers l n ≡ f n) → stretches tile f ≡ normalise l
  cells_are l C same = normal_is (stretches tile f) l cells_normal C (λ n. cells_leaves n ∙ sym (same n))
