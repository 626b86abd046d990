-- Merging: the scan for the best pair, what replacing a pair does to the list, and the turns of the merge.
use mathlib.Core.Path.{◌≡◌, refl, sym, ap, ◌∙◌, subst}
use mathlib.Core.Bool.{true, false}
use mathlib.Core.Logic.{◌⊎◌, inl, inr, ⊎_elim, by_cases}
use mathlib.Core.List.{List, [], ◌∷◌, ◌++◌}
use Prim.Native.Nat.{ℕ, zero, suc, ◌+◌, ◌-◌, ◌≤◌, ◌<◌}
use native.Mathlib.Decide.{dec_lt}
use native.Mathlib.Numerals.{add-one}
use native.Mathlib.Omega.{arith}
use lib.ListN.{length, get_or, set, take, drop, length-append, length-take, length-drop}
use lib.Seq.{split_at, set_split, drop-cons}
use lib.Dec.{ltb}
use borrow.Author.Tests.{lt-ltb, le-ltb, le-leb, lt-leb}
use Rattle.cellid.specs.CellId.{Cell, level_of, parent_at, holds}
use Rattle.order.specs.Order.{All}
use Rattle.order.proofs.OrderLaws.{which, all_get}
use Rattle.cellunion.specs.CellUnion.{lo, hi, Member, Normal, normalise}
use Rattle.cellunion.proofs.Spans.{In, in_holds}
use Rattle.cellunion.proofs.Unique.{all_at, at_all, covers→, covers←, member_append→, member_append←, raw_in}
use Rattle.cellunion.proofs.Stack.{Cov, cov_members}
use Rattle.cellunion.proofs.Norm.{normalise_normal, normalise_leaves, normalise_short, normalise_same, same_covered}
use Rattle.fast.specs.declared.Best.{Best}
use Rattle.fast.specs.Fast.{pair_depth, best_of, joined, merged_in}
use Rattle.fast.proofs.Levels.{Joint, pair_joint, in_higher, Under, under_le}

-- ---- the scan

module _ (low step : ℕ) where
  pub best_better : (l : List ℕ) (k : ℕ) → (best_of low step l k).depth < pair_depth low step (get_or l k 0) (get_or l (suc k) 0)
      → best_of low step l (suc k) ≡ record { at = k; depth = pair_depth low step (get_or l k 0) (get_or l (suc k) 0) }
  unfolding best_of
  best_better l k h = rw (best_of, lt-ltb _ _ h)

  pub best_same : (l : List ℕ) (k : ℕ) → pair_depth low step (get_or l k 0) (get_or l (suc k) 0) ≤ (best_of low step l k).depth → best_of low step l (suc k) ≡ best_of low step l k
  unfolding best_of
  best_same l k h = rw (best_of, le-ltb _ _ h)

  -- the best pair is one of those looked at
  pub record Found (l : List ℕ) (k : ℕ) (b : Best) : Type 0 where
    pub before : b.at < k
    pub depth : b.depth ≡ pair_depth low step (get_or l b.at 0) (get_or l (b.at + 1) 0)

  pub best_found : (l : List ℕ) (k : ℕ) → 0 < (best_of low step l k).depth → Found l k (best_of low step l k)
  unfolding best_of
  best_found l zero h = absurd (omega arith)
  best_found l (suc k) h = by_cases (dec_lt (best_of low step l k).depth (pair_depth low step (get_or l k 0) (get_or l (suc k) 0)))
      (λ t. rw (best_better l k t) (record { before = omega arith; depth = rw (add-one k) }))
      (λ t.
      let e : best_of low step l (suc k) ≡ best_of low step l k = best_same l k (omega arith) in
      let f = best_found l k (rw (← e) h) in
      rw e (record { before = omega (arith, f.before); depth = f.depth }))

-- ---- a pair replaced by a cell around both

module _ (u v : List ℕ) (a b P : ℕ) where
  pair_cov : In a P → In b P → Cov (u ++ a ∷ b ∷ v) (u ++ P ∷ v)
  unfolding Member
  pair_cov i j n w = ⊎_elim
      (λ (m : Member w.0 u). (w.0, member_append← u (P ∷ v) w.0 (inl m), w.2, w.3))
      (λ (m : (w.0 ≡ a) ⊎ ((w.0 ≡ b) ⊎ Member w.0 v)). ⊎_elim
      (λ (e : w.0 ≡ a). (P, member_append← u (P ∷ v) P (inr (inl refl)), omega (arith, w.2, ap lo e, i.0), omega (arith, w.3, ap hi e, i.1)))
      (λ (m : (w.0 ≡ b) ⊎ Member w.0 v). ⊎_elim
      (λ (e : w.0 ≡ b). (P, member_append← u (P ∷ v) P (inr (inl refl)), omega (arith, w.2, ap lo e, j.0), omega (arith, w.3, ap hi e, j.1)))
      (λ (m : Member w.0 v). (w.0, member_append← u (P ∷ v) w.0 (inr (inr m)), w.2, w.3))
      m)
      m)
      (member_append→ u (a ∷ b ∷ v) w.0 w.1)

  one_more : Cov (u ++ P ∷ v) (u ++ P ∷ b ∷ v)
  unfolding Member
  one_more = cov_members (u ++ P ∷ v) (u ++ P ∷ b ∷ v) (λ x m. member_append← u (P ∷ b ∷ v) x (⊎_elim
      (λ (k : Member x u). inl k)
      (λ (k : (x ≡ P) ⊎ Member x v). inr (⊎_elim (λ (e : x ≡ P). inl e) (λ (j : Member x v). inr (inr j)) k))
      (member_append→ u (P ∷ v) x m)))

pair_all : (Q : ℕ → Type 0) (u v : List ℕ) (a b P : ℕ) → All Q (u ++ a ∷ b ∷ v) → Q P → All Q (u ++ P ∷ v)
unfolding All
pair_all Q [] v a b P h p = (p, h.1.1)
pair_all Q (x ∷ u) v a b P h p = (h.0, pair_all Q u v a b P h.1 p)

first_all : (Q : ℕ → Type 0) (u v : List ℕ) (a b P : ℕ) → All Q (u ++ a ∷ b ∷ v) → Q P → All Q (u ++ P ∷ b ∷ v)
unfolding All
first_all Q [] v a b P h p = (p, h.1)
first_all Q (x ∷ u) v a b P h p = (h.0, first_all Q u v a b P h.1 p)

-- the list cut at the pair that starts at place i
split_pair : (l : List ℕ) (i : ℕ) → i + 1 < length l → l ≡ take i l ++ get_or l i 0 ∷ get_or l (i + 1) 0 ∷ drop (i + 2) l
split_pair l i h =
    let e : i + 2 ≡ suc (suc i) = omega arith in
    split_at l i 0 (omega arith) ∙ rw (add-one i, e) (ap (λ (t : List ℕ). take i l ++ get_or l i 0 ∷ t) (drop-cons l (suc i) 0 (omega arith)))

set_pair : (l : List ℕ) (i x : ℕ) → i + 1 < length l → set l i x ≡ take i l ++ x ∷ get_or l (i + 1) 0 ∷ drop (i + 2) l
set_pair l i x h =
    let e : i + 2 ≡ suc (suc i) = omega arith in
    set_split l i x (omega arith) ∙ rw (add-one i, e) (ap (λ (t : List ℕ). take i l ++ x ∷ t) (drop-cons l (suc i) 0 (omega arith)))

-- ---- what replacing the best pair does

-- the level of each cell is at most one on step
abbrev pub AllUnder : ℕ → ℕ → ℕ → List ℕ → Type 0
AllUnder low top step l = All (λ x. Under low top step (level_of x)) l

pub record Joined (l : List ℕ) (b : Best) : Type 0 where
  pub cells : All Cell (joined l b)
  pub cover : Cov l (joined l b)
  pub shorter : length (joined l b) + 1 ≡ length l
  pub keeps : (low top step : ℕ) → AllUnder low top step l → AllUnder low top step (joined l b)
  pub wide : Cell (parent_at (get_or l b.at 0) (b.depth - 1)) × (holds (parent_at (get_or l b.at 0) (b.depth - 1)) (get_or l b.at 0) ≡ true)
  pub written : normalise (set l b.at (parent_at (get_or l b.at 0) (b.depth - 1))) ≡ normalise (joined l b)

join_laws : (l : List ℕ) (b : Best) → All Cell l → b.at + 1 < length l → Joint (get_or l b.at 0) (get_or l (b.at + 1) 0) (b.depth - 1) → Joined l b
unfolding joined
join_laws l b C h J =
    let i = b.at in
    let x = get_or l i 0 in
    let y = get_or l (i + 1) 0 in
    let P = parent_at x (b.depth - 1) in
    let u = take i l in
    let v = drop (i + 2) l in
    let l-is : l ≡ u ++ x ∷ y ∷ v = split_pair l i h in
    let s-is : set l i P ≡ u ++ P ∷ y ∷ v = set_pair l i P h in
    let C' : All Cell (u ++ x ∷ y ∷ v) = subst (All Cell) l-is C in
    let cells : All Cell (u ++ P ∷ v) = pair_all Cell u v x y P C' J.first.cell in
    let more : All Cell (u ++ P ∷ y ∷ v) = first_all Cell u v x y P C' J.first.cell in
    record {
      cells = cells;
      cover = subst (λ (k : List ℕ). Cov k (u ++ P ∷ v)) (sym l-is) (pair_cov u v x y P J.first.within J.second);
      shorter = simp (length-append, length-take, length-drop) (omega arith);
      keeps = λ low top step A.
          let Q : ℕ → Type 0 = λ z. Under low top step (level_of z) in
          let h' : level_of P ≤ level_of x = in_higher x P (all_get Cell l 0 i (omega arith) C) J.first.cell J.first.within in
          pair_all Q u v x y P (subst (All Q) l-is A) (under_le (level_of P) h' (all_get Q l 0 i (omega arith) A));
      wide = (J.first.cell, in_holds J.first.cell (all_get Cell l 0 i (omega arith) C) J.first.within);
      written = ap normalise s-is ∙ normalise_same (u ++ P ∷ y ∷ v) (u ++ P ∷ v) more cells (same_covered (u ++ P ∷ y ∷ v) (u ++ P ∷ v) more cells
          (pair_cov u v P y P (omega arith, omega arith) J.second) (one_more u v x y P));
    }

-- normalising covers as much ..
pub normal_cov : (l : List ℕ) → All Cell l → Cov l (normalise l)
normal_cov l C n w = covers→ (normalise l) n (normalise_normal l C).cells (normalise_leaves l C n ∙ covers← l n C w)

-- .. and lifts no level off what it reaches
pub normal_under : (low top step : ℕ) (l : List ℕ) → All Cell l → AllUnder low top step l → AllUnder low top step (normalise l)
normal_under low top step l C A =
    let N = normalise_normal l C in
    at_all (λ x. Under low top step (level_of x)) (normalise l) (λ d m.
    let r = raw_in l (normalise l) C N (normalise_leaves l C) d m in
    under_le (level_of d) (in_higher r.0 d (all_at Cell l C r.0 r.1) (all_at Cell (normalise l) N.cells d m) r.2) (all_at (λ x. Under low top step (level_of x)) l A r.0 r.1))

-- ---- the turns

-- what merging makes of a list of cells
pub record Merges (l r : List ℕ) : Type 0 where
  pub cells : All Cell r
  pub cover : Cov l r
  pub short : length r ≤ length l
  pub keeps : (low top step : ℕ) → AllUnder low top step l → AllUnder low top step r
  pub normal : Normal l → Normal r

merges_none : (l : List ℕ) → All Cell l → Merges l l
merges_none l C = record { cells = C; cover = λ n w. w; short = omega arith; keeps = λ low top step A. A; normal = λ N. N }

merges_turn : (l r : List ℕ) (b : Best) → Joined l b → Merges (normalise (joined l b)) r → Merges l r
merges_turn l r b J M = record {
  cells = M.cells;
  cover = λ n w. M.cover n (normal_cov (joined l b) J.cells n (J.cover n w));
  short = omega (arith, M.short, normalise_short (joined l b) J.cells, J.shorter);
  keeps = λ low top step A. M.keeps low top step (normal_under low top step (joined l b) J.cells (J.keeps low top step A));
  normal = λ N. M.normal (normalise_normal (joined l b) J.cells);
}

module _ (low step cells : ℕ) where
  pub merged_short : (k : ℕ) (l : List ℕ) → length l ≤ cells → merged_in low step cells k l ≡ l
  unfolding merged_in
  merged_short zero l h = refl
  merged_short (suc k) l h = rw (merged_in, le-ltb cells (length l) h)

  pub merged_stop : (k : ℕ) (l : List ℕ) → (best_of low step l (length l - 1)).depth ≤ low → merged_in low step cells k l ≡ l
  unfolding merged_in
  merged_stop zero l h = refl
  merged_stop (suc k) l h = ⊎_elim
      (λ (t : ltb cells (length l) ≡ true). rw (merged_in, t, le-leb _ low h))
      (λ (t : ltb cells (length l) ≡ false). rw (merged_in, t))
      (which (ltb cells (length l)))

  pub merged_go : (k : ℕ) (l : List ℕ) → cells < length l → low < (best_of low step l (length l - 1)).depth
      → merged_in low step cells (suc k) l ≡ merged_in low step cells k (normalise (joined l (best_of low step l (length l - 1))))
  unfolding merged_in
  merged_go k l h g = rw (merged_in, lt-ltb cells (length l) h, lt-leb _ low g)

  pub best_joined : (l : List ℕ) → All Cell l → low < (best_of low step l (length l - 1)).depth → Joined l (best_of low step l (length l - 1))
  best_joined l C g =
      let b = best_of low step l (length l - 1) in
      let f = best_found low step l (length l - 1) (omega arith) in
      let h : b.at + 1 < length l = omega (arith, f.before) in
      let J = pair_joint low step (get_or l b.at 0) (get_or l (b.at + 1) 0) (all_get Cell l 0 b.at (omega arith) C) (all_get Cell l 0 (b.at + 1) h C) (omega (arith, f.depth)) in
      join_laws l b C h (subst (λ (d : ℕ). Joint (get_or l b.at 0) (get_or l (b.at + 1) 0) (d - 1)) (sym f.depth) J)

  -- the three ways of a turn
  data Turn (l : List ℕ) : Type 0 where
    enough : length l ≤ cells → Turn l
    end : (best_of low step l (length l - 1)).depth ≤ low → Turn l
    go : cells < length l → low < (best_of low step l (length l - 1)).depth → Turn l

  turn : (l : List ℕ) → Turn l
  turn l = by_cases (dec_lt cells (length l))
      (λ h. by_cases (dec_lt low (best_of low step l (length l - 1)).depth) (λ g. go h g) (λ g. end (omega arith)))
      (λ h. enough (omega arith))

  pub merged_laws : (k : ℕ) (l : List ℕ) → All Cell l → Merges l (merged_in low step cells k l)
  unfolding merged_in
  merged_laws zero l C = merges_none l C
  merged_laws (suc k) l C = by_turn (λ m D. merged_laws k m D) (turn l)
    where
      by_turn : ((m : List ℕ) → All Cell m → Merges m (merged_in low step cells k m)) → Turn l → Merges l (merged_in low step cells (suc k) l)
      by_turn r (enough h) = subst (Merges l) (sym (merged_short (suc k) l h)) (merges_none l C)
      by_turn r (end h) = subst (Merges l) (sym (merged_stop (suc k) l h)) (merges_none l C)
      by_turn r (go h g) =
          let b = best_of low step l (length l - 1) in
          let J = best_joined l C g in
          subst (Merges l) (sym (merged_go k l h g)) (merges_turn l (merged_in low step cells k (normalise (joined l b))) b J
          (r (normalise (joined l b)) (normalise_normal (joined l b) J.cells).cells))

  -- the list's length is fuel enough: merging ends because the list is short, or because the best level found lies below min
  pub merged_ends : (k : ℕ) (l : List ℕ) → All Cell l → length l ≤ k
      → (length (merged_in low step cells k l) ≤ cells) ⊎ ((best_of low step (merged_in low step cells k l) (length (merged_in low step cells k l) - 1)).depth ≤ low)
  unfolding merged_in
  merged_ends zero l C h = inl (omega arith)
  merged_ends (suc k) l C h = by_turn (λ m D g. merged_ends k m D g) (turn l)
    where
      Ends : List ℕ → Type 0
      Ends r = (length r ≤ cells) ⊎ ((best_of low step r (length r - 1)).depth ≤ low)

      by_turn : ((m : List ℕ) → All Cell m → length m ≤ k → Ends (merged_in low step cells k m)) → Turn l → Ends (merged_in low step cells (suc k) l)
      by_turn r (enough g) = subst Ends (sym (merged_short (suc k) l g)) (inl g)
      by_turn r (end g) = subst Ends (sym (merged_stop (suc k) l g)) (inr g)
      by_turn r (go f g) =
          let b = best_of low step l (length l - 1) in
          let J = best_joined l C g in
          subst Ends (sym (merged_go k l f g)) (r (normalise (joined l b)) (normalise_normal (joined l b) J.cells).cells
          (omega (arith, normalise_short (joined l b) J.cells, J.shorter)))
