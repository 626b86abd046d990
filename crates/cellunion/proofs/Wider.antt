-- A cell of a normal list made wider: the cells before it that do not lie in the wide one, the wide one, and the pass over those behind it give the normal list.
use mathlib.Core.Path.{◌≡◌, refl, sym, ap, ap₂, ◌∙◌, subst}
use mathlib.Core.Logic.{inl, inr, ⊎_elim}
use mathlib.Core.Bool.{true}
use mathlib.Core.List.{List, [], ◌∷◌, ◌++◌, append_assoc}
use Prim.Native.Nat.{ℕ, suc, ◌+◌, ◌-◌, ◌*◌, ◌≤◌, ◌<◌}
use native.Mathlib.Numerals.{add-one}
use native.Mathlib.Omega.{arith}
use lib.ListN.{length, get_or, take, drop, set, take-append-drop}
use lib.Seq.{length-take-le, set_split, take-take, take-set-lt, drop-set-lt}
use lib.Dec.{ltb}
use Rattle.cellid.specs.CellId.{Cell, first_leaf, last_leaf, holds}
use Rattle.order.specs.Order.{All, Sorted}
use Rattle.order.proofs.OrderLaws.{all_append}
use Rattle.cellunion.specs.CellUnion.{lo, hi, Member, Apart, NoFour, Normal, clear_of, collapse, pass, rev, normalise}
use Rattle.cellunion.specs.Stack.{Down, Stack, AllBefore, top_first, Topped, Gives, PassAsks, PassDone}
use Rattle.cellunion.specs.Memory.{zeros, laid, normalised}
use Rattle.cellunion.proofs.Spans.{span, In, holds_in}
use Rattle.cellunion.proofs.Unique.{all_at, at_all, Covered, member_append→, member_append←}
use Rattle.cellunion.proofs.Stack.{tail, Cov, cov_members, Cleared, clear_laws, Collapsed, collapse_laws}
use Rattle.cellunion.proofs.Norm.{Passed, pass_laws, member_rev→, member_rev←, all_rev, stack_normal, same_covered, normal_is}
use Rattle.cellunion.proofs.Lists.{apart_from}
use Rattle.cellunion.proofs.Settled.{apart_back, normal_back, apart_sorted}
use Rattle.cellunion.proofs.Memory.{next_word, all_drop, drop_more, drop_take_same}
use Rattle.cellunion.proofs.Runs.{rev_top, clear_normal}

-- ---- a normal list cut in two, the cells before the cut as a stack

apart_across : (a b : List ℕ) → Apart (a ++ b) → (x y : ℕ) → Member x a → Member y b → last_leaf x < first_leaf y
unfolding Apart Member
apart_across [] b A x y m k = absurd m
apart_across (z ∷ a) b A x y m k = ⊎_elim
    (λ (e : x ≡ z). rw e (all_at (λ w. last_leaf z < first_leaf w) (a ++ b) A.0 y (member_append← a b y (inr k))))
    (λ (j : Member x a). apart_across a b A.1 x y j k)
    m

rev_cons : (x : ℕ) (s r : List ℕ) → rev (x ∷ s) ++ r ≡ rev s ++ (x ∷ r)
unfolding rev
rev_cons x s r = append_assoc (rev s) (x ∷ []) r

down_of : (s r : List ℕ) → All Cell (rev s ++ r) → Apart (rev s ++ r) → Down s
unfolding Down Member
down_of [] r C A = tt
down_of (x ∷ s) r C A =
    let C' : All Cell (rev s ++ (x ∷ r)) = subst (λ (l : List ℕ). All Cell l) (rev_cons x s r) C in
    let A' : Apart (rev s ++ (x ∷ r)) = subst Apart (rev_cons x s r) A in (
      at_all (λ y. hi y ≤ lo x) s (λ y m.
          let h : last_leaf y < first_leaf x = apart_across (rev s) (x ∷ r) A' y x (member_rev← s y m) (inl refl) in
          let u = span (all_at Cell (rev s ++ (x ∷ r)) C' y (member_append← (rev s) (x ∷ r) y (inl (member_rev← s y m)))) in
          let v = span (all_at Cell (rev s ++ (x ∷ r)) C' x (member_append← (rev s) (x ∷ r) x (inr (inl refl)))) in
          omega arith),
      down_of s (x ∷ r) C' A',
    )

-- the cells before a place of a normal list, the last first
front_stack : (s r : List ℕ) → Normal (rev s ++ r) → Stack s
unfolding NoFour
front_stack s r N =
    let in_all : (x : ℕ) → Member x s → Member x (rev s ++ r) = λ x m. member_append← (rev s) r x (inl (member_rev← s x m)) in
    record {
      cells = at_all Cell s (λ x m. all_at Cell (rev s ++ r) N.cells x (in_all x m));
      down = down_of s r N.cells N.apart;
      nofour = λ L p h g a b c d. N.nofour L p h g (in_all _ a) (in_all _ b) (in_all _ c) (in_all _ d);
    }

-- ---- the wide cell

-- a stands between s, the cells before it, the last first, and r; c lies around it
record Around (s : List ℕ) (a : ℕ) (r : List ℕ) (c : ℕ) : Type 0 where
  pub stack : Stack (a ∷ s)
  pub cells : All Cell (a ∷ r)
  pub apart : Apart (a ∷ r)
  pub cell : Cell c
  pub within : In a c

module _ (s : List ℕ) (a : ℕ) (r : List ℕ) (c : ℕ) (W : Around s a r c) where
  cleared : Cleared s c (clear_of c s)
  unfolding Down All
  cleared =
      let u = span W.stack.cells.0 in
      let before : (y : ℕ) → Member y s → hi y ≤ lo a = λ y m. all_at (λ y. hi y ≤ lo a) s W.stack.down.0 y m in
      let some : (y : ℕ) → Member y s → lo y < hi y = λ y m. (span (all_at Cell s W.stack.cells.1 y m)).some in
      clear_laws c W.cell s (tail W.stack) (at_all (λ y. lo y < hi c) s (λ y m. omega (arith, before y m, some y m, W.within.1)))
      (λ y m i. omega (arith, before y m, i.1, W.within.1))

  topped : Topped (clear_of c s) c
  topped = record { stack = cleared.stack; cell = W.cell; under = cleared.under }

  collapsed : (b : ℕ) → 2 * lo c + 1 ≤ b → Collapsed (clear_of c s) c b (collapse (clear_of c s) c)
  collapsed b h = collapse_laws (clear_of c s) c b cleared.stack W.cell cleared.under h

  -- the wide cell begins before all that is still to come
  ready : All (AllBefore (collapse (clear_of c s) c)) r
  unfolding All
  ready = at_all (AllBefore (collapse (clear_of c s) c)) r (λ x m.
      let h : hi a ≤ lo x = all_at (λ x. hi a ≤ lo x) r (apart_from a r W.cells W.apart) x m in
      let u = span W.cells.0 in
      let v = span (all_at Cell r W.cells.1 x m) in
      (collapsed x (omega (arith, W.within.0))).low)

  passed : Passed (collapse (clear_of c s) c) r (pass (collapse (clear_of c s) c) r)
  unfolding All Apart
  passed = pass_laws r (collapse (clear_of c s) c) (collapsed (2 * lo c + 1) (omega arith)).stack W.cells.1 (apart_sorted r W.cells.1 W.apart.1) ready

  list : List ℕ
  list = rev s ++ (c ∷ r)

  in_list : Cov s list
  unfolding list
  in_list = cov_members s list (λ x m. member_append← (rev s) (c ∷ r) x (inl (member_rev← s x m)))

  cov_to : Cov list (pass (collapse (clear_of c s) c) r)
  unfolding list Member
  cov_to n w =
      let K = collapsed (2 * lo c + 1) (omega arith) in
      ⊎_elim
      (λ (m : Member w.0 (rev s)). passed.old n (K.to n (cleared.to n (w.0, member_rev→ s w.0 m, w.2, w.3))))
      (λ m. ⊎_elim
      (λ (e : w.0 ≡ c). passed.old n (K.to n (w.0, inl e, w.2, w.3)))
      (λ (m : Member w.0 r). passed.new n (w.0, m, w.2, w.3))
      m)
      (member_append→ (rev s) (c ∷ r) w.0 w.1)

  cov_from : Cov (pass (collapse (clear_of c s) c) r) list
  unfolding list Member
  cov_from n w = ⊎_elim
      (λ (k : Covered (collapse (clear_of c s) c) n).
      let v = (collapsed (2 * lo c + 1) (omega arith)).from n k in
      ⊎_elim
      (λ (e : v.0 ≡ c). (v.0, member_append← (rev s) (c ∷ r) v.0 (inr (inl e)), v.2, v.3))
      (λ (m : Member v.0 (clear_of c s)). in_list n (cleared.from n (v.0, m, v.2, v.3)))
      v.1)
      (λ (k : Covered r n). (k.0, member_append← (rev s) (c ∷ r) k.0 (inr (inr k.1)), k.2, k.3))
      (passed.from n w)

  -- THE WIDE CELL: the pass gives the normal list of all, with c in the place of a
  widened : rev (pass (collapse (clear_of c s) c) r) ≡ normalise list
  unfolding list All
  widened =
      let p = pass (collapse (clear_of c s) c) r in
      let N = stack_normal p passed.stack in
      let C : All Cell list = all_append Cell (rev s) (c ∷ r) (all_rev Cell s W.stack.cells.1) (W.cell, W.cells.1) in
      normal_is (rev p) list N C (same_covered (rev p) list N.cells C
      (λ n w. cov_from n (w.0, member_rev→ p w.0 w.1, w.2, w.3))
      (λ n w. let v = cov_to n w in (v.0, member_rev← p v.0 v.1, v.2, v.3)))

-- ---- in memory

module _ (m : List ℕ) (k at c : ℕ) (room : k ≤ length m) (N : Normal (take k m)) (h : at < k) (C : Cell c) (t : holds c (get_or m at 0) ≡ true) where
  s : List ℕ
  s = top_first at m

  r : List ℕ
  r = drop (at + 1) (take k m)

  around : Around s (get_or m at 0) r c
  unfolding s r top_first All
  around =
      let e : drop at (take k m) ≡ get_or m at 0 ∷ drop (at + 1) (take k m) = next_word m k at room h in
      let f : rev (top_first (suc at) m) ++ drop (at + 1) (take k m) ≡ take k m =
      ap (λ (l : List ℕ). l ++ drop (at + 1) (take k m)) (sym (rev_top (suc at) m (omega arith)) ∙ sym (take-take (suc at) k m (omega arith)))
      ∙ ap (λ (j : ℕ). take (suc at) (take k m) ++ drop j (take k m)) (add-one at) ∙ take-append-drop (suc at) (take k m) in
      let D : All Cell (get_or m at 0 ∷ drop (at + 1) (take k m)) = subst (λ (l : List ℕ). All Cell l) e (all_drop Cell at (take k m) N.cells) in
      record {
        stack = front_stack (top_first (suc at) m) (drop (at + 1) (take k m)) (subst Normal (sym f) N);
        cells = D;
        apart = subst Apart e (apart_back (take at (take k m)) (drop at (take k m)) (subst Apart (sym (take-append-drop at (take k m))) N.apart));
        cell = C;
        within = holds_in C D.0 t;
      }

  listed : rev s ++ (c ∷ r) ≡ take k (set m at c)
  unfolding s r
  listed =
      let l : length (take k m) ≡ k = length-take-le k m room in
      sym (take-set-lt k m at c h ∙ set_split (take k m) at c (omega arith)
      ∙ ap₂ (λ (x : List ℕ) (j : ℕ). x ++ (c ∷ drop j (take k m))) (take-take at k m (omega arith) ∙ rev_top at m (omega arith)) (sym (add-one at)))

  back : Normal r
  unfolding r
  back = normal_back (take (at + 1) (take k m)) (drop (at + 1) (take k m)) (subst Normal (sym (take-append-drop (at + 1) (take k m))) N)

  module _ (j : ℕ) (le : j ≤ at) (is : top_first j m ≡ clear_of c (top_first at m)) where
    pub widen_topped : (j < length m) × Topped (top_first j m) c
    unfolding s
    widen_topped = (omega arith, rw is (topped s (get_or m at 0) r c around))

    module _ (m₁ : List ℕ) (top : ℕ) (len : length m₁ ≡ length m) (G : Gives (collapse (top_first j m) c) j m m₁ top) where
      top_is : top_first top m₁ ≡ collapse (clear_of c s) c
      unfolding s
      top_is = G.is ∙ ap (λ (l : List ℕ). collapse l c) is

      behind : drop (at + 1) m₁ ≡ drop (at + 1) m
      behind = drop_more (j + 1) (at + 1) m₁ m (omega arith) G.rest

      rest_is : r ≡ drop (at + 1) (take k m₁)
      unfolding r
      rest_is = sym (drop_take_same k (at + 1) m₁ m behind)

      pub widen_asks : PassAsks k m₁ top (at + 1) × Normal (drop (at + 1) (take k m₁))
      unfolding All Apart
      widen_asks =
          let W = around in (
            record {
              few = omega (arith, G.within);
              within = omega arith;
              room = omega arith;
              stack = subst Stack (sym top_is) (collapsed s (get_or m at 0) r c W (2 * lo c + 1) (omega arith)).stack;
              cells = subst (λ (l : List ℕ). All Cell l) rest_is W.cells.1;
              sorted = subst (Sorted ltb) rest_is (apart_sorted r W.cells.1 W.apart.1);
              ready = rw (top_is, ← rest_is) (ready s (get_or m at 0) r c W);
            },
            subst Normal rest_is back,
          )

      pub widen_done : (m₂ : List ℕ) (n : ℕ) (out : List ℕ) → length m₂ ≡ length m₁ → PassDone k m₁ top (at + 1) m₂ n → out ≡ laid n (zeros (k - n)) m₂
          → (n ≡ length (normalise (take k (set m at c)))) × (out ≡ normalised k (set m at c))
      unfolding list
      widen_done m₂ n out q P e =
          let f : take n m₂ ≡ rev (pass (collapse (clear_of c s) c) r) = P.is ∙ ap₂ (λ (x y : List ℕ). rev (pass x y)) top_is (sym rest_is) in
          clear_normal k (set m at c) m₂ n out P.within (omega arith) (f ∙ widened s (get_or m at 0) r c around ∙ ap normalise listed)
          (P.rest ∙ drop_more (at + 1) k m₁ m (omega arith) behind ∙ sym (drop-set-lt k m at c h)) e
