-- The scan for the deepest pair: the smaller the exclusive or of two neighbours, the deeper their common ancestor lies.
use mathlib.Core.Path.{◌≡◌, refl, sym, ap, ◌∙◌, subst}
use mathlib.Core.Logic.{by_cases}
use mathlib.Core.List.{List}
use Prim.Native.Nat.{ℕ, suc, ◌+◌, ◌-◌, ◌*◌, ◌/◌, ◌%◌, ◌^◌, ◌≤◌, ◌<◌}
use native.Mathlib.Nat.{div-add-mod', le-div_iff_mul-le, mod-lt, mod-le, mul-le-mul_right}
use native.Mathlib.Decide.{dec_lt}
use native.Mathlib.Numerals.{add-one}
use native.Mathlib.Omega.{arith}
use lib.Bits.{bit_xor}
use lib.Count.{count_leading_zeros, leading_top}
use lib.ListN.{length, get_or, take}
use lib.Pow.{pow_pos}
use lib.Seq.{get_or-take, length-take-le}
use Rattle.cellid.specs.CellId.{Cell, bit_at, place_at, first_leaf, last_leaf}
use Rattle.cellid.proofs.Laws.{same_above, low_cell, low_pos}
use Rattle.cellid.proofs.Ancestors.{spread, spread_lt, pow_less, common_none, common_some}
use Rattle.order.specs.Order.{All}
use Rattle.order.proofs.OrderLaws.{all_get}
use Rattle.cellunion.specs.CellUnion.{lo, hi, Apart}
use Rattle.cellunion.proofs.Lists.{apart_get}
use Rattle.cellunion.proofs.Spans.{span, lo_is, hi_is}
use Rattle.fast.specs.declared.Best.{Best}
use Rattle.fast.specs.Fast.{adjusted, pair_depth, best_of}
use Rattle.fast.proofs.Levels.{adjusted_low, adjusted_high, adjusted_le, adjusted_from, depth_some, depth_none}
use Rattle.fast.proofs.Merging.{best_better, best_same}

-- ---- adjusting keeps the order of levels

whole_mono : (x y m : ℕ) → 0 < m → x ≤ y → x - x % m ≤ y - y % m
whole_mono x y m p h =
    let f : x / m * m ≤ y / m * m = mul-le-mul_right m ((le-div_iff_mul-le p).1 (omega (arith, div-add-mod' x m))) in
    omega (arith, div-add-mod' x m, div-add-mod' y m)

adjusted_mono : (low step L M : ℕ) → 0 < step → L ≤ M → adjusted low step L ≤ adjusted low step M
adjusted_mono low step L M p h = by_cases (dec_lt low L)
    (λ g. rw (adjusted_high low step L g, adjusted_high low step M (omega arith)) (omega (arith, whole_mono (L - low) (M - low) step p (omega arith), mod-le (L - low) step, mod-le (M - low) step)))
    (λ g. by_cases (dec_lt low M)
    (λ f. omega (arith, adjusted_le low step L, adjusted_from low step M (omega arith)))
    (λ f. rw (adjusted_low low step L (omega arith), adjusted_low low step M (omega arith)) h))

-- ---- zeros above

zeros_fall : (s r : ℕ) → 0 < s → r < 2 ^ 64 → s ≤ r → count_leading_zeros 64 r ≤ count_leading_zeros 64 s
zeros_fall s r p h l =
    let a = leading_top 64 s p (omega arith) in
    let b = leading_top 64 r (omega arith) h in
    let g : a.0 < suc b.0 = pow_less a.0 (suc b.0) (omega (arith, a.2, b.3)) in
    omega (arith, a.1, b.1)

-- a number of 2 ^ 61 on has at most two
few_zeros : (s : ℕ) → 2 ^ 61 ≤ s → s < 2 ^ 64 → count_leading_zeros 64 s < 3
few_zeros s l h =
    let a = leading_top 64 s (omega arith) h in
    let g : 61 < suc a.0 = pow_less 61 (suc a.0) (omega (arith, a.3)) in
    omega (arith, a.1)

-- ---- what two cells differ in

xor_far : (a b t : ℕ) → a + 2 ^ t ≤ b → 2 ^ t ≤ bit_xor a b
xor_far a b t h = by_cases (dec_lt (bit_xor a b) (2 ^ t))
    (λ g. let e : a / 2 ^ t * 2 ^ t ≡ b / 2 ^ t * 2 ^ t = ap (λ (n : ℕ). n * 2 ^ t) (same_above a b t g) in
    absurd (omega (arith, div-add-mod' a (2 ^ t), div-add-mod' b (2 ^ t), mod-lt b (pow_pos t))))
    (λ g. omega arith)

low_wide : {a : ℕ} (A : Cell a) → hi a ≡ lo a + bit_at A.0
low_wide A = omega (arith, lo_is A.2, hi_is A.2)

-- the exclusive or of cells that do not overlap is no smaller than the lowest set bit of each
apart_spread : (a b : ℕ) → Cell a → Cell b → last_leaf a < first_leaf b → spread a b ≤ bit_xor a b
apart_spread a b A B h =
    let s = span A in
    let u = span B in
    let f = xor_far a b (place_at A.0) (omega (arith, low_wide A)) in
    let g = xor_far a b (place_at B.0) (omega (arith, low_wide B)) in
    omega (arith, low_cell a A.0 A.1 A.2, low_cell b B.0 B.1 B.2)

-- ---- the depth falls as that grows

depth_falls : (low step a b x y : ℕ) → 0 < step → Cell a → Cell b → Cell x → Cell y → spread a b ≤ spread x y → pair_depth low step x y ≤ pair_depth low step a b
depth_falls low step a b x y p A B X Y h =
    let z = count_leading_zeros 64 (spread a b) in
    let w = count_leading_zeros 64 (spread x y) in
    let l : w ≤ z = zeros_fall (spread a b) (spread x y) (omega (arith, low_pos a)) (spread_lt x y X Y) h in
    by_cases (dec_lt w 3)
    (λ g. omega (arith, depth_none low step x y (common_none x y X Y g)))
    (λ g. omega (
      arith,
      depth_some low step x y ((w - 3) / 2) (adjusted low step ((w - 3) / 2)) (common_some x y X Y (omega arith)) refl,
      depth_some low step a b ((z - 3) / 2) (adjusted low step ((z - 3) / 2)) (common_some a b A B (omega arith)) refl,
      adjusted_mono low step ((w - 3) / 2) ((z - 3) / 2) p (omega arith),
    ))

-- ---- the scan

-- pairs whose exclusive or is `least` or more lie no deeper than `most`
abbrev pub Least : ℕ → ℕ → ℕ → ℕ → Type 0
Least low step least most = (x y : ℕ) → Cell x → Cell y → least ≤ bit_xor x y → pair_depth low step x y ≤ most

-- cells on two faces have no depth
least_start : (low step : ℕ) → Least low step (2 ^ 61) 0
least_start low step x y X Y h = omega (arith, depth_none low step x y (common_none x y X Y (few_zeros (spread x y) (omega arith) (spread_lt x y X Y))))

least_pair : (low step a b most : ℕ) → 0 < step → Cell a → Cell b → last_leaf a < first_leaf b → pair_depth low step a b ≤ most → Least low step (bit_xor a b) most
least_pair low step a b most p A B h d x y X Y l =
    omega (arith, depth_falls low step a b x y p A B X Y (omega (arith, apart_spread a b A B h)))

-- the best of the first i pairs
pub record Scanning (low step : ℕ) (m : List ℕ) (k : ℕ) (b : Best) (least i : ℕ) : Type 0 where
  pub within : i ≤ k - 1
  pub is : b ≡ best_of low step (take k m) i
  pub skips : Least low step least b.depth

pub scan_start : (low step : ℕ) (m : List ℕ) (k : ℕ) → Scanning low step m k (record { at = 0; depth = 0 }) (2 ^ 61) 0
unfolding best_of
scan_start low step m k = record { within = omega arith; is = refl; skips = least_start low step }

pub scan_done : (low step : ℕ) (m : List ℕ) (k : ℕ) (b : Best) (least i : ℕ) → Scanning low step m k b least i → k ≤ i + 1 → b ≡ best_of low step (take k m) (k - 1)
scan_done low step m k b least i S h = let e : i ≡ k - 1 = omega (arith, S.within) in S.is ∙ ap (best_of low step (take k m)) e

module _ (low step : ℕ) (p : 0 < step) (m : List ℕ) (k : ℕ) (room : k ≤ length m) (C : All Cell (take k m)) (A : Apart (take k m)) where
  word_cell : (i : ℕ) → i < k → Cell (get_or m i 0)
  word_cell i h = subst Cell (get_or-take k m i 0 h) (all_get Cell (take k m) 0 i (omega (arith, length-take-le k m room)) C)

  module _ (b : Best) (least i : ℕ) (S : Scanning low step m k b least i) (h : i + 1 < k) where
    pub pair_cells : Cell (get_or m i 0) × Cell (get_or m (i + 1) 0)
    pair_cells = (word_cell i (omega arith), word_cell (i + 1) h)

    here : pair_depth low step (get_or (take k m) i 0) (get_or (take k m) (suc i) 0) ≡ pair_depth low step (get_or m i 0) (get_or m (i + 1) 0)
    here = rw (get_or-take k m i 0 (omega arith), get_or-take k m (suc i) 0 (omega arith), ← add-one i)

    next_to : last_leaf (get_or m i 0) < first_leaf (get_or m (i + 1) 0)
    next_to = rw (add-one i, ← get_or-take k m i 0 (omega arith), ← get_or-take k m (suc i) 0 (omega arith)) (apart_get (take k m) i (suc i) A (omega arith) (omega (arith, length-take-le k m room)))

    same : pair_depth low step (get_or m i 0) (get_or m (i + 1) 0) ≤ b.depth → b ≡ best_of low step (take k m) (i + 1)
    same l = rw (add-one i) (S.is ∙ sym (best_same low step (take k m) i (rw (here, ← S.is) l)))

    -- the pair's exclusive or is no smaller than one before
    pub scan_pass : least ≤ bit_xor (get_or m i 0) (get_or m (i + 1) 0) → Scanning low step m k b least (i + 1)
    scan_pass l = record { within = omega arith; is = same (S.skips _ _ pair_cells.0 pair_cells.1 l); skips = S.skips }

    pub scan_better : (d : ℕ) → d ≡ pair_depth low step (get_or m i 0) (get_or m (i + 1) 0) → b.depth < d → Scanning low step m k (record { at = i; depth = d }) (bit_xor (get_or m i 0) (get_or m (i + 1) 0)) (i + 1)
    scan_better d q l = record {
      within = omega arith;
      is = rw (add-one i) (sym (best_better low step (take k m) i (rw (here, ← q, ← S.is) l) ∙ rw (here, ← q)));
      skips = least_pair low step (get_or m i 0) (get_or m (i + 1) 0) d p pair_cells.0 pair_cells.1 next_to (omega (arith, q));
    }

    pub scan_worse : (d : ℕ) → d ≡ pair_depth low step (get_or m i 0) (get_or m (i + 1) 0) → d ≤ b.depth → Scanning low step m k b (bit_xor (get_or m i 0) (get_or m (i + 1) 0)) (i + 1)
    scan_worse d q l = record {
      within = omega arith;
      is = same (omega (arith, q));
      skips = least_pair low step (get_or m i 0) (get_or m (i + 1) 0) b.depth p pair_cells.0 pair_cells.1 next_to (omega (arith, q));
    }
