-- The adjustment of start cells in memory: one more cell, and the loop over them.
use mathlib.Core.Path.{◌≡◌, refl, sym, ap, ap₂, ◌∙◌, subst}
use mathlib.Core.Bool.{true, false}
use mathlib.Core.Logic.{◌⊎◌, inl, inr}
use mathlib.Core.List.{List, [], ◌∷◌, ◌++◌}
use Prim.Native.Nat.{ℕ, ◌+◌, ◌-◌, ◌≤◌, ◌<◌, min}
use native.Mathlib.Omega.{arith}
use lib.ListN.{length, get_or, set, take, drop}
use lib.Seq.{length-take-le, drop-set-lt}
use Rattle.cellid.specs.CellId.{Cell, holds}
use Rattle.order.specs.Order.{All}
use Rattle.cellunion.specs.CellUnion.{rev}
use Rattle.cellunion.specs.Stack.{top_first, Gives}
use Rattle.cellunion.specs.Memory.{zeros, laid}
use Rattle.cellunion.proofs.Memory.{next_read, no_more, drop_more, length_zeros}
use Rattle.cellunion.proofs.Runs.{top_pop, top_push, rev_top}
use Rattle.fast.specs.Fast.{merged_covering, keep_start, keep_starts, adjusted_cells, starts_of}
use Rattle.fast.specs.Memory.{in_place}
use Rattle.fast.proofs.StartLaws.{keep_skip, keep_swap, keep_push, keep_all, raised, raised_is, adjusted_short, rough_laws, starts_rough, starts_adjusted}
use Rattle.fast.proofs.Laws.{Covering}
use Rattle.fast.proofs.Turns.{in_place_again, take_in_place, length_in_place}

-- ---- one more cell

module _ (m : List ℕ) (k c : ℕ) where
  pub start_skip : 0 < k → holds (get_or m (k - 1) 0) c ≡ true → Gives (keep_start (top_first k m) c) k m m k
  start_skip h e = record {
    is = top_pop k m h ∙ sym (ap (λ (s : List ℕ). keep_start s c) (top_pop k m h) ∙ keep_skip (get_or m (k - 1) 0) (top_first (k - 1) m) c e);
    within = omega arith;
    rest = refl;
  }

  pub start_swap : k < length m → 0 < k → holds (get_or m (k - 1) 0) c ≡ false → holds c (get_or m (k - 1) 0) ≡ true → Gives (keep_start (top_first k m) c) k m (set m (k - 1) c) k
  start_swap l h e f =
      let j : k - 1 + 1 ≡ k = omega arith in
      record {
        is = ap (λ (n : ℕ). top_first n (set m (k - 1) c)) (sym j) ∙ top_push (k - 1) c m (omega arith)
            ∙ sym (ap (λ (s : List ℕ). keep_start s c) (top_pop k m h) ∙ keep_swap (get_or m (k - 1) 0) (top_first (k - 1) m) c e f);
        within = omega arith;
        rest = drop-set-lt (k + 1) m (k - 1) c (omega arith);
      }

  -- neither holds the other, or there is no last kept one
  abbrev pub Free : Type 0
  Free = (k ≤ 0) ⊎ ((0 < k) × (holds (get_or m (k - 1) 0) c ≡ false) × (holds c (get_or m (k - 1) 0) ≡ false))

  pushed : Free → keep_start (top_first k m) c ≡ c ∷ top_first k m
  unfolding keep_start top_first
  pushed (inl h) = let e : k ≡ 0 = omega arith in rw e
  pushed (inr h) = rw (top_pop k m h.0) (keep_push (get_or m (k - 1) 0) (top_first (k - 1) m) c h.1 h.2)

  pub start_push : k < length m → Free → Gives (keep_start (top_first k m) c) k m (set m k c) (k + 1)
  start_push l f = record {
    is = top_push k c m l ∙ sym (pushed f);
    within = omega arith;
    rest = drop-set-lt (k + 1) m k c (omega arith);
  }

-- ---- all of them

module _ (low step : ℕ) where
  pub record Adjusting (m₀ : List ℕ) (n : ℕ) (m : List ℕ) (k i : ℕ) : Type 0 where
    pub few : k ≤ i
    pub within : i ≤ n
    pub room : n ≤ length m₀
    pub len : length m ≡ length m₀
    pub rest : drop i m ≡ drop i m₀
    pub kept : All Cell (top_first k m)
    pub cells : All Cell (drop i (take n m₀))
    pub same : keep_starts low step (top_first k m) (drop i (take n m₀)) ≡ keep_starts low step [] (take n m₀)

  pub adjusting_start : (m₀ : List ℕ) (n : ℕ) → n ≤ length m₀ → All Cell (take n m₀) → Adjusting m₀ n m₀ 0 0
  unfolding All top_first
  adjusting_start m₀ n h C = record { few = omega arith; within = omega arith; room = h; len = refl; rest = refl; kept = tt; cells = C; same = refl }

  module _ (m₀ : List ℕ) (n : ℕ) (m : List ℕ) (k i up : ℕ) (A : Adjusting m₀ n m k i) (h : i < n) (u : up ≡ raised low step (get_or m i 0)) where
    next : drop i (take n m₀) ≡ get_or m i 0 ∷ drop (i + 1) (take n m₀)
    next = next_read m₀ m n i A.room h A.rest

    cells : All Cell (get_or m i 0 ∷ drop (i + 1) (take n m₀))
    cells = subst (λ (s : List ℕ). All Cell s) next A.cells

    up_cell : Cell up
    unfolding All
    up_cell = subst Cell (sym u) (raised_is low step (get_or m i 0) cells.0).cell

    pub adjusting_asks : (k < length m) × All Cell (top_first k m) × Cell up
    adjusting_asks = (omega (arith, A.few, A.room, A.len), A.kept, up_cell)

    pub adjusting_turn : (m' : List ℕ) (r : ℕ) → length m' ≡ length m → Gives (keep_start (top_first k m) up) k m m' r → Adjusting m₀ n m' r (i + 1)
    unfolding All keep_starts
    adjusting_turn m' r q G = record {
      few = omega (arith, G.within, A.few);
      within = omega arith;
      room = A.room;
      len = q ∙ A.len;
      rest = drop_more (k + 1) (i + 1) m' m (omega (arith, A.few)) G.rest ∙ drop_more i (i + 1) m m₀ (omega arith) A.rest;
      kept = subst (λ (s : List ℕ). All Cell s) (sym G.is) (keep_all Cell (top_first k m) up A.kept up_cell);
      cells = cells.1;
      same = ap (λ (s : List ℕ). keep_starts low step s (drop (i + 1) (take n m₀))) (G.is ∙ ap (keep_start (top_first k m)) u) ∙ sym (ap (keep_starts low step (top_first k m)) next) ∙ A.same;
    }

  pub adjusting_done : (m₀ : List ℕ) (n : ℕ) (m : List ℕ) (k i : ℕ) (out : List ℕ) → Adjusting m₀ n m k i → n ≤ i → out ≡ laid k (zeros (n - k)) m
      → (k ≡ length (adjusted_cells low step (take n m₀))) × (out ≡ in_place n (adjusted_cells low step (take n m₀)) m₀)
  unfolding adjusted_cells keep_starts in_place laid
  adjusting_done m₀ n m k i out A h e =
      let z = no_more m₀ n i A.room h in
      let s : top_first k m ≡ keep_starts low step [] (take n m₀) = sym (ap (keep_starts low step (top_first k m)) z) ∙ A.same in
      let f : take k m ≡ rev (keep_starts low step [] (take n m₀)) = rev_top k m (omega (arith, A.few, A.within, A.len, A.room)) ∙ ap rev s in
      let q : k ≡ length (rev (keep_starts low step [] (take n m₀))) = sym (length-take-le k m (omega (arith, A.few, A.within, A.len, A.room))) ∙ ap length f in
      let w : k + length (zeros (n - k)) ≡ n = omega (arith, length_zeros (n - k), A.few, A.within) in (
        q,
        e ∙ ap₂ (λ (a b : List ℕ). a ++ (zeros (n - k) ++ b)) f (ap (λ (j : ℕ). drop j m) w ∙ drop_more i n m m₀ A.within A.rest)
            ∙ ap (λ (j : ℕ). rev (keep_starts low step [] (take n m₀)) ++ (zeros (n - j) ++ drop n m₀)) q,
      )

-- ---- the rough covering, and the adjustment

module _ (low top step cells n : ℕ) (m : List ℕ) (room : n ≤ length m) (C : All Cell (take n m))
    (few k : ℕ) (m' : List ℕ) (ef : few ≡ min cells 4) (ek : k ≡ length (merged_covering 0 top 1 few (take n m))) (em : m' ≡ in_place n (merged_covering 0 top 1 few (take n m)) m) where
  list : List ℕ
  list = merged_covering 0 top 1 (min cells 4) (take n m)

  L : Covering 0 top 1 (take n m) list
  unfolding list
  L = rough_laws low top step cells (take n m) C

  same : merged_covering 0 top 1 few (take n m) ≡ list
  unfolding list
  same = ap (λ (j : ℕ). merged_covering 0 top 1 j (take n m)) ef

  size : length list ≡ k
  size = sym (ek ∙ ap length same)

  within : k ≤ n
  within = omega (arith, L.short, size, length-take-le n m room)

  there : m' ≡ in_place n list m
  there = em ∙ ap (λ (l : List ℕ). in_place n l m) same

  front : take k m' ≡ list
  front = ap (take k) there ∙ take_in_place n k list m size

  -- no adjustment
  pub starts_done : step ≤ 1 → (k ≡ length (starts_of low top step cells (take n m))) × (m' ≡ in_place n (starts_of low top step cells (take n m)) m)
  unfolding list
  starts_done g =
      let q : list ≡ starts_of low top step cells (take n m) = sym (starts_rough low top step cells (take n m) C g) in
      (sym size ∙ ap length q, there ∙ ap (λ (l : List ℕ). in_place n l m) q)

  pub adjust_asks : (k ≤ length m') × All Cell (take k m')
  adjust_asks = (omega (arith, ap length there, length_in_place n list m (omega (arith, within, size)) room, within), rw front L.normal.cells)

  pub starts_adjusted_done : 1 < step → (r : ℕ) (m'' : List ℕ) → r ≡ length (adjusted_cells low step (take k m')) → m'' ≡ in_place k (adjusted_cells low step (take k m')) m'
      → (r ≡ length (starts_of low top step cells (take n m))) × (m'' ≡ in_place n (starts_of low top step cells (take n m)) m)
  unfolding list
  starts_adjusted_done g r m'' er e'' =
      let q : adjusted_cells low step (take k m') ≡ starts_of low top step cells (take n m) = ap (adjusted_cells low step) front ∙ sym (starts_adjusted low top step cells (take n m) C g) in
      let s : length (adjusted_cells low step (take k m')) ≤ k = omega (arith, ap (λ (l : List ℕ). length (adjusted_cells low step l)) front, adjusted_short low step list, size) in (
        er ∙ ap length q,
        e'' ∙ in_place_again n k list (adjusted_cells low step (take k m')) m m' m' size within there refl s ∙ ap (λ (l : List ℕ). in_place n l m) q,
      )
