-- The pass over words that are a normal list: from the first on that lies behind the parent of the last kept, they stay as they are.
use mathlib.Core.Path.{◌≡◌, refl, sym, ap, ◌∙◌, subst}
use mathlib.Core.Logic.{◌⊎◌, inl, inr, ⊎_elim}
use mathlib.Core.Bool.{Bool, true, false, true≢false}
use mathlib.Core.List.{List, [], ◌∷◌, ◌++◌, append_assoc, append-nil}
use Prim.Native.Nat.{ℕ, ◌+◌, ◌-◌, ◌≤◌, ◌<◌}
use native.Mathlib.Omega.{arith}
use lib.ListN.{length, get_or, take, drop, length-append}
use lib.Seq.{length-take-le, length-slice, take_at, drop_at, drop-drop}
use lib.Dec.{ltb, leb}
use borrow.Author.Tests.{le-ltb, leb-false}
use Rattle.cellid.specs.CellId.{Cell, IsCell, id_of, bit_at, level_of, child_of, first_leaf, last_leaf}
use Rattle.cellid.proofs.Laws.{level_cell, cell_pos}
use Rattle.cellid.proofs.Ancestors.{parent_cell, parent_holds}
use Rattle.order.specs.Order.{All, Le, Sorted}
use Rattle.order.proofs.OrderLaws.{all_append}
use Rattle.cellunion.specs.CellUnion.{lo, hi, Member, Apart, NoFour, Normal, up_one, keep_cell, pass, rev}
use Rattle.cellunion.specs.Stack.{Down, Stack, AllBefore, top_first, Gives, PassDone, near_top}
use Rattle.cellunion.specs.Memory.{laid}
use Rattle.cellunion.proofs.Spans.{span, In, kids, Kids, holds_in}
use Rattle.cellunion.proofs.Unique.{all_at, at_all, Covered, normal_unique, member_append→, member_append←, apart_append}
use Rattle.cellunion.proofs.Stack.{up_kid, next_is}
use Rattle.cellunion.proofs.Norm.{pass_laws, member_rev→, member_rev←, all_rev, apart_rev, stack_normal, same_covered}
use Rattle.cellunion.proofs.Lists.{apart_from}
use Rattle.cellunion.proofs.Memory.{laid_nil, next_word, no_more, drop_more, drop_take_same}
use Rattle.cellunion.proofs.Runs.{Passing, pass_turn, rev_top, top_pop}

-- ---- the rest of a normal list

pub apart_back : (a b : List ℕ) → Apart (a ++ b) → Apart b
unfolding Apart
apart_back [] b A = A
apart_back (x ∷ a) b A = apart_back a b A.1

pub normal_back : (a b : List ℕ) → Normal (a ++ b) → Normal b
unfolding NoFour
normal_back a b N =
    let in_all : (x : ℕ) → Member x b → Member x (a ++ b) = λ x m. member_append← a b x (inr m) in
    record {
      cells = at_all Cell b (λ x m. all_at Cell (a ++ b) N.cells x (in_all x m));
      apart = apart_back a b N.apart;
      nofour = λ L p h g m₀ m₁ m₂ m₃. N.nofour L p h g (in_all _ m₀) (in_all _ m₁) (in_all _ m₂) (in_all _ m₃);
    }

pub apart_sorted : (l : List ℕ) → All Cell l → Apart l → Sorted ltb l
unfolding All Sorted Apart
apart_sorted [] C A = tt
apart_sorted (x ∷ l) C A = (
  at_all (Le ltb x) l (λ y m.
      let h : last_leaf x < first_leaf y = all_at (λ y. last_leaf x < first_leaf y) l A.0 y m in
      let u = span C.0 in let v = span (all_at Cell l C.1 y m) in le-ltb y x (omega arith)),
  apart_sorted l C.1 A.1,
)

-- ---- the parent of the last kept

up_cell : {c : ℕ} → Cell c → Cell (up_one c) × In c (up_one c)
up_cell {c} C =
    let h : level_of c - 1 ≤ C.0 = omega (arith, level_cell c C.0 C.1 C.2) in
    let U : Cell (up_one c) = (level_of c - 1, _, parent_cell (level_of c - 1) C.2 h) in
    (U, holds_in U C (parent_holds (level_of c - 1) C.2 h))

pub above_pos : (m : List ℕ) (k up : ℕ) → 0 < k → All Cell (top_first k m) → up ≡ up_one (get_or m (k - 1) 0) → 0 < up
unfolding All
above_pos m k up h C e = rw e (let U = (up_cell (subst (λ (s : List ℕ). All Cell s) (top_pop k m h) C).0).0 in cell_pos _ _ _ U.2)

pub near_yes : (m : List ℕ) (k id up a z : ℕ) → 0 < k → up ≡ up_one (get_or m (k - 1) 0) → a ≡ first_leaf id → z ≡ last_leaf up → leb a z ≡ near_top (top_first k m) id
unfolding near_top
near_yes m k id up a z h e f g = rw (top_pop k m h, f, g, e)

pub near_none : (m : List ℕ) (k id : ℕ) → k ≤ 0 → true ≡ near_top (top_first k m) id
unfolding near_top top_first
near_none m k id h = let e : k ≡ 0 = omega arith in rw e

-- ---- all of r lies behind the parent of t, the last kept

four_cases : {A0 A1 A2 A3 B0 B1 B2 B3 : Type 0} → A0 ⊎ B0 → A1 ⊎ B1 → A2 ⊎ B2 → A3 ⊎ B3
    → (A3 → B0 → ⊥) → (A3 → B1 → ⊥) → (A3 → B2 → ⊥) → (A0 → B1 → ⊥) → (A1 → B2 → ⊥) → (A2 → B3 → ⊥) → (A0 → A1 → A2 → A3 → ⊥) → (B0 → B1 → B2 → B3 → ⊥) → ⊥
four_cases m0 m1 m2 m3 x0 x1 x2 y0 y1 y2 f g = ⊎_elim
    (λ a3. ⊎_elim (λ a0. ⊎_elim (λ a1. ⊎_elim (λ a2. f a0 a1 a2 a3) (x2 a3) m2) (x1 a3) m1) (x0 a3) m0)
    (λ b3. ⊎_elim (λ a2. y2 a2 b3) (λ b2. ⊎_elim (λ a1. y1 a1 b2) (λ b1. ⊎_elim (λ a0. y0 a0 b1) (λ b0. g b0 b1 b2 b3) m0) m1) m2)
    m3

module _ (t : ℕ) (s r : List ℕ) (S : Stack (t ∷ s)) (N : Normal r) (far : All (λ x. hi (up_one t) ≤ lo x) r) where
  top_cell : Cell t
  unfolding All
  top_cell = S.cells.0

  ends : (y : ℕ) → Member y (t ∷ s) → hi y ≤ hi (up_one t)
  unfolding Member Down
  ends y m =
      let u = span top_cell in
      let w = (up_cell top_cell).1 in
      ⊎_elim (λ (e : y ≡ t). omega (arith, ap hi e, w.1)) (λ (k : Member y s). omega (arith, w.1, all_at (λ y. hi y ≤ lo t) s S.down.0 y k)) m

  begins : (x : ℕ) → Member x r → hi (up_one t) ≤ lo x
  begins x m = all_at (λ x. hi (up_one t) ≤ lo x) r far x m

  -- a child of P that is kept, and ends where the next begins, would be the last kept, and P its parent
  no_seam : {P L p : ℕ} (k b : ℕ) → IsCell P L p → L < 30 → k < 4 → Member (child_of P k) (t ∷ s) → hi (child_of P k) ≡ b → hi (up_one t) ≤ b → b < hi P → ⊥
  unfolding Down
  no_seam {P} {L} {p} k b I h g m e f l =
      let w = (up_cell top_cell).1 in
      let q : child_of P k ≡ t = next_is t s b (child_of P k) top_cell (omega (arith, w.1)) S.down.0 m e in
      let u : up_one t ≡ P = ap up_one (sym q) ∙ up_kid k I h g in
      omega (arith, ap hi u)

  side : (x : ℕ) → Member x (rev (t ∷ s) ++ r) → Member x (t ∷ s) ⊎ Member x r
  side x m = ⊎_elim (λ k. inl (member_rev→ (t ∷ s) x k)) (λ k. inr k) (member_append→ (rev (t ∷ s)) r x m)

  far_nofour : NoFour (rev (t ∷ s) ++ r)
  unfolding NoFour
  far_nofour L p h g m0 m1 m2 m3 =
      let P = id_of L p in
      let I : IsCell P L p = record { level = omega arith; place = g; is = refl } in
      let K : Kids P (bit_at (L + 1)) = kids I h in
      four_cases (side (child_of P 0) m0) (side (child_of P 1) m1) (side (child_of P 2) m2) (side (child_of P 3) m3)
      (λ a b. omega (arith, ends (child_of P 3) a, begins (child_of P 0) b))
      (λ a b. omega (arith, ends (child_of P 3) a, begins (child_of P 1) b))
      (λ a b. omega (arith, ends (child_of P 3) a, begins (child_of P 2) b))
      (λ a b. no_seam 0 (lo (child_of P 1)) I h (omega arith) a (omega arith) (begins (child_of P 1) b) (omega arith))
      (λ a b. no_seam 1 (lo (child_of P 2)) I h (omega arith) a (omega arith) (begins (child_of P 2) b) (omega arith))
      (λ a b. no_seam 2 (lo (child_of P 3)) I h (omega arith) a (omega arith) (begins (child_of P 3) b) (omega arith))
      (S.nofour L p h g) (N.nofour L p h g)

  far_normal : Normal (rev (t ∷ s) ++ r)
  far_normal = record {
    cells = all_append Cell (rev (t ∷ s)) r (all_rev Cell (t ∷ s) S.cells) N.cells;
    apart = apart_append (rev (t ∷ s)) r (apart_rev (t ∷ s) S.cells S.down) N.apart (λ x y a b.
        let m = member_rev→ (t ∷ s) x a in
        let u = span (all_at Cell (t ∷ s) S.cells x m) in
        let v = span (all_at Cell r N.cells y b) in
        omega (arith, ends x m, begins y b));
    nofour = far_nofour;
  }

  far_pass : All (AllBefore (t ∷ s)) r → rev (pass (t ∷ s) r) ≡ rev (t ∷ s) ++ r
  far_pass R =
      let P = pass_laws r (t ∷ s) S N.cells (apart_sorted r N.cells N.apart) R in
      let p = pass (t ∷ s) r in
      let q = rev (t ∷ s) ++ r in
      let Q = stack_normal p P.stack in
      normal_unique (rev p) q Q far_normal (same_covered (rev p) q Q.cells far_normal.cells
      (λ n w. ⊎_elim
      (λ (k : Covered (t ∷ s) n). (k.0, member_append← (rev (t ∷ s)) r k.0 (inl (member_rev← (t ∷ s) k.0 k.1)), k.2, k.3))
      (λ (k : Covered r n). (k.0, member_append← (rev (t ∷ s)) r k.0 (inr k.1), k.2, k.3))
      (P.from n (w.0, member_rev→ p w.0 w.1, w.2, w.3)))
      (λ n w.
      let v : Covered p n = ⊎_elim
      (λ (m : Member w.0 (t ∷ s)). P.old n (w.0, m, w.2, w.3))
      (λ (m : Member w.0 r). P.new n (w.0, m, w.2, w.3))
      (side w.0 w.1) in
      (v.0, member_rev← p v.0 v.1, v.2, v.3)))

-- what stands behind the first that is not near is far
not_near : (s : List ℕ) (x : ℕ) (r : List ℕ) → Stack s → Normal (x ∷ r) → All (AllBefore s) (x ∷ r) → near_top s x ≡ false → rev (pass s (x ∷ r)) ≡ rev s ++ (x ∷ r)
unfolding near_top All
not_near [] x r S N R e = absurd (true≢false e)
not_near (t ∷ s) x r S N R e =
    let h : last_leaf (up_one t) < first_leaf x = leb-false _ _ e in
    let u = span (up_cell S.cells.0).0 in
    let v = span N.cells.0 in
    let far : All (λ y. hi (up_one t) ≤ lo y) (x ∷ r) = (
      omega arith,
      at_all (λ y. hi (up_one t) ≤ lo y) r (λ y m.
          let g : hi x ≤ lo y = all_at (λ y. hi x ≤ lo y) r (apart_from x r N.cells N.apart) y m in omega arith),
    ) in
    far_pass t s (x ∷ r) S N far R

-- ---- the turns

pub record Settling (n : ℕ) (m₀ : List ℕ) (k₀ i₀ : ℕ) (m : List ℕ) (k i : ℕ) : Type 0 where
  pub passing : Passing n m₀ k₀ i₀ m k i
  pub list : Normal (drop i (take n m))

pub settle_turn : (n : ℕ) (m₀ : List ℕ) (k₀ i₀ : ℕ) (m : List ℕ) (k i : ℕ) (m' : List ℕ) (r : ℕ) → Settling n m₀ k₀ i₀ m k i → i < n → length m' ≡ length m → Gives (keep_cell (top_first k m) (get_or m i 0)) k m m' r
    → Settling n m₀ k₀ i₀ m' r (i + 1)
settle_turn n m₀ k₀ i₀ m k i m' r G h q K =
    let P = G.passing.asks in
    let e = next_word m n i P.room h in
    let w = drop_take_same n (i + 1) m' m (drop_more (k + 1) (i + 1) m' m (omega (arith, P.few)) K.rest) in
    record {
      passing = pass_turn n m₀ k₀ i₀ m k i m' r G.passing h q K;
      list = subst Normal (sym w) (normal_back (get_or m i 0 ∷ []) (drop (i + 1) (take n m)) (subst Normal e G.list));
    }

-- the pass has nothing left to do
pub record Rests (n : ℕ) (m : List ℕ) (k i : ℕ) : Type 0 where
  pub is : rev (pass (top_first k m) (drop i (take n m))) ≡ rev (top_first k m) ++ drop i (take n m)

pub rests_end : (n : ℕ) (m : List ℕ) (k i : ℕ) → n ≤ length m → n ≤ i → Rests n m k i
unfolding pass
rests_end n m k i r h = record { is = rw (no_more m n i r h) (sym (append-nil (rev (top_first k m)))) }

pub rests_far : (n : ℕ) (m₀ : List ℕ) (k₀ i₀ : ℕ) (m : List ℕ) (k i : ℕ) (b : Bool) → Settling n m₀ k₀ i₀ m k i → i < n → b ≡ near_top (top_first k m) (get_or m i 0) → b ≡ false → Rests n m k i
rests_far n m₀ k₀ i₀ m k i b G h e t =
    let P = G.passing.asks in
    let w = next_word m n i P.room h in
    record { is = rw w (not_near (top_first k m) (get_or m i 0) (drop (i + 1) (take n m)) P.stack (subst Normal w G.list) (subst (λ (l : List ℕ). All (AllBefore (top_first k m)) l) w P.ready) (sym e ∙ t)) }

pub settle_done : (n : ℕ) (m₀ : List ℕ) (k₀ i₀ : ℕ) (m : List ℕ) (k i : ℕ) (m' : List ℕ) (r : ℕ) → Settling n m₀ k₀ i₀ m k i → Rests n m k i → r ≡ k + (n - i) → m' ≡ laid k (drop i (take n m)) m → PassDone n m₀ k₀ i₀ m' r
unfolding laid
settle_done n m₀ k₀ i₀ m k i m' r G R er em =
    let P = G.passing.asks in
    let w = drop i (take n m) in
    let l : length w ≡ n - i = length-slice i n m P.room in
    let f : length (take k m ++ w) ≡ r = length-append (take k m) w ∙ omega (arith, length-take-le k m (omega (arith, P.few, P.within, P.room))) in
    let a : m' ≡ (take k m ++ w) ++ drop (k + length w) m = em ∙ sym (append_assoc (take k m) w (drop (k + length w) m)) in
    let j : k + length w ≡ r = omega arith in
    record {
      within = omega (arith, P.few, P.within);
      is = ap (take r) a ∙ take_at (take k m ++ w) (drop (k + length w) m) r f ∙ ap (λ (x : List ℕ). x ++ w) (rev_top k m (omega (arith, P.few, P.within, P.room))) ∙ sym R.is ∙ ap rev G.passing.same;
      rest =
          let z : r + (n - r) ≡ n = omega (arith, P.few, P.within) in
          ap (λ (x : ℕ). drop x m') (sym z) ∙ sym (drop-drop (n - r) r m') ∙ ap (drop (n - r)) (ap (drop r) a ∙ drop_at (take k m ++ w) (drop (k + length w) m) r f ∙ ap (λ (x : ℕ). drop x m) j)
          ∙ drop-drop (n - r) r m ∙ ap (λ (x : ℕ). drop x m) z ∙ G.passing.rest;
    }

-- all were near: nothing is left to be moved
pub settle_through : (n : ℕ) (m₀ : List ℕ) (k₀ i₀ : ℕ) (m : List ℕ) (k i : ℕ) → Settling n m₀ k₀ i₀ m k i → n ≤ i → PassDone n m₀ k₀ i₀ m k
settle_through n m₀ k₀ i₀ m k i G h =
    let r = G.passing.asks.room in
    settle_done n m₀ k₀ i₀ m k i m k G (rests_end n m k i r h) (omega arith) (sym (ap (λ (l : List ℕ). laid k l m) (no_more m n i r h) ∙ laid_nil k m))
