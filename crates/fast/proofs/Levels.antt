-- Adjusted levels, ancestors, and the common ancestor of a pair.
use mathlib.Core.Path.{◌≡◌, refl, sym, ap, subst}
use mathlib.Core.Logic.{by_cases}
use Prim.Native.Nat.{ℕ, ◌+◌, ◌-◌, ◌*◌, ◌/◌, ◌%◌, ◌≤◌, ◌<◌, min, max}
use native.Mathlib.Nat.{div-add-mod', mul-mod_left, zero-mod, mod-le, mod-one}
use native.Mathlib.Decide.{dec_lt}
use native.Mathlib.Omega.{arith}
use Rattle.std.specs.Prelude.{Option, Some, None}
use borrow.Author.Tests.{le-leb, lt-leb}
use Rattle.cellid.specs.CellId.{Cell, IsCell, level_of, parent_at, common_level}
use Rattle.cellid.proofs.Laws.{level_cell, level_le}
use Rattle.cellid.proofs.Ancestors.{parent_cell, parent_holds, common_level_lem}
use Rattle.cellunion.specs.CellUnion.{lo, hi}
use Rattle.denorm.specs.Denorm.{OnStep}
use Rattle.cellunion.proofs.Spans.{In, Nest, left, right, inside, around, span, nest, in_level, in_same, holds_in}
use Rattle.fast.specs.Fast.{adjusted, lifted, depth_of, pair_depth}

-- ---- adjusted levels

pub adjusted_low : (low step L : ℕ) → L ≤ low → adjusted low step L ≡ L
unfolding adjusted
adjusted_low low step L h = rw (adjusted, le-leb L low h)

pub adjusted_high : (low step L : ℕ) → low < L → adjusted low step L ≡ L - (L - low) % step
unfolding adjusted
adjusted_high low step L h = rw (adjusted, lt-leb L low h)

-- steps of one level leave every level
pub adjusted_one : (low step L : ℕ) → 0 < step → step ≤ 1 → adjusted low step L ≡ L
adjusted_one low step L p h = by_cases (dec_lt low L)
    (λ g. let e : step ≡ 1 = omega arith in rw (adjusted_high low step L g, e, mod-one (L - low)) (omega arith))
    (λ g. adjusted_low low step L (omega arith))

pub adjusted_le : (low step L : ℕ) → adjusted low step L ≤ L
adjusted_le low step L = by_cases (dec_lt low L)
    (λ h. rw (adjusted_high low step L h) (omega arith))
    (λ h. rw (adjusted_low low step L (omega arith)) (omega arith))

-- a level above min does not leave it
pub adjusted_from : (low step L : ℕ) → low ≤ L → low ≤ adjusted low step L
adjusted_from low step L g = by_cases (dec_lt low L)
    (λ h. rw (adjusted_high low step L h) (omega (arith, mod-le (L - low) step)))
    (λ h. rw (adjusted_low low step L (omega arith)) g)

whole : (x m : ℕ) → (x - x % m) % m ≡ 0
whole x m = let e : x - x % m ≡ x / m * m = omega (arith, div-add-mod' x m) in rw e (mul-mod_left (x / m) m)

-- at min or above it is on step
pub adjusted_on : (low step L : ℕ) → (adjusted low step L - low) % step ≡ 0
adjusted_on low step L = by_cases (dec_lt low L)
    (λ h.
    let e : L - (L - low) % step - low ≡ (L - low) - (L - low) % step = omega arith in
    rw (adjusted_high low step L h, e) (whole (L - low) step))
    (λ h. let e : L - low ≡ 0 = omega arith in rw (adjusted_low low step L (omega arith), e) (zero-mod step))

-- ---- ancestors

-- the ancestor at a level that is not below the cell's own
pub record Ancestor (id M P : ℕ) : Type 0 where
  pub cell : Cell P
  pub level : level_of P ≡ M
  pub within : In id P

pub ancestor : (id M : ℕ) → Cell id → M ≤ level_of id → Ancestor id M (parent_at id M)
ancestor id M c h =
    let l : M ≤ c.0 = omega (arith, level_cell id c.0 c.1 c.2) in
    let d = parent_cell M c.2 l in
    record {
      cell = (M, _, d);
      level = level_cell (parent_at id M) M _ d;
      within = holds_in (M, _, d) c (parent_holds M c.2 l);
    }

-- a cell inside another lies no higher
pub in_higher : (a b : ℕ) → Cell a → Cell b → In a b → level_of b ≤ level_of a
in_higher a b c d i = rw (level_cell a c.0 c.1 c.2, level_cell b d.0 d.1 d.2) (in_level c.0 d.0 c.1 d.1 c.2 d.2 i)

-- ---- lifting

pub lifted_is : (low top step id : ℕ) → Cell id → Ancestor id (adjusted low step (min (level_of id) top)) (lifted low top step id)
unfolding lifted
lifted_is low top step id c = ancestor id (adjusted low step (min (level_of id) top)) c (omega (arith, adjusted_le low step (min (level_of id) top)))

-- ---- levels that reach a level on step

-- the level L is at most one that runs from low to top in whole steps from low
pub record Under (low top step L : ℕ) : Type 0 where
  pub to : ℕ
  pub le : L ≤ to
  pub on : OnStep low top step to

pub under_le : {low top step L : ℕ} (K : ℕ) → K ≤ L → Under low top step L → Under low top step K
under_le K h u = record { to = u.to; le = omega (arith, u.le); on = u.on }

reach : (low top step M : ℕ) → low ≤ top → M ≤ top → (M - low) % step ≡ 0 → Under low top step M
reach low top step M o h e =
    let f : max M low - low ≡ M - low = omega arith in
    record { to = max M low; le = omega arith; on = record { from = omega arith; to = omega arith; on = rw f e } }

pub lifted_under : (low top step id : ℕ) → low ≤ top → Cell id → Under low top step (level_of (lifted low top step id))
lifted_under low top step id o c =
    let M = adjusted low step (min (level_of id) top) in
    rw (lifted_is low top step id c).level (reach low top step M o (omega (arith, adjusted_le low step (min (level_of id) top))) (adjusted_on low step (min (level_of id) top)))

-- ---- the common ancestor of a pair, at a level that is not below the deepest

pub record Joint (a b M : ℕ) : Type 0 where
  pub first : Ancestor a M (parent_at a M)
  pub second : In b (parent_at a M)

-- of two ancestors of a cell the deeper lies in the other
nested : {a K M P Q : ℕ} → Cell a → M ≤ K → Ancestor a K Q → Ancestor a M P → Nest Q P → In Q P
nested c h q p (left x) = let s = span c in absurd (omega (arith, q.within.1, p.within.0))
nested c h q p (right x) = let s = span c in absurd (omega (arith, q.within.0, p.within.1))
nested c h q p (inside x) = x
nested {a} {K} {M} {P} {Q} c h q p (around x) =
    let C = q.cell in
    let D = p.cell in
    let lq : level_of Q ≡ C.0 = level_cell Q C.0 C.1 C.2 in
    let lp : level_of P ≡ D.0 = level_cell P D.0 D.1 D.2 in
    let g : C.0 ≤ D.0 = in_level D.0 C.0 D.1 C.1 D.2 C.2 x in
    let e : C.0 ≡ D.0 = omega (arith, q.level, p.level) in
    let same : P ≡ Q = in_same D.0 D.1 C.1 D.2 (subst (λ (n : ℕ). IsCell Q n C.1) e C.2) x in
    (omega (arith, ap lo same), omega (arith, ap hi same))

joint_at : (a b K M : ℕ) → Cell a → Cell b → K ≤ level_of a → K ≤ level_of b → parent_at a K ≡ parent_at b K → M ≤ K → Joint a b M
joint_at a b K M c d f g e h =
    let q = ancestor a K c f in
    let p = ancestor a M c (omega arith) in
    let r = subst (λ (x : ℕ). In b x) (sym e) (ancestor b K d g).within in
    let n = nested c h q p (nest q.cell p.cell) in
    record { first = p; second = (omega (arith, r.0, n.0), omega (arith, r.1, n.1)) }

depth_joint : (low step : ℕ) (x : Option ℕ) (a b : ℕ) → Cell a → Cell b → common_level a b ≡ x → 0 < depth_of low step x → Joint a b (depth_of low step x - 1)
unfolding depth_of
depth_joint low step None a b c d e h = absurd (omega arith)
depth_joint low step (Some K) a b c d e h =
    let s = (common_level_lem a b K e).0 in
    let z : adjusted low step K + 1 - 1 ≡ adjusted low step K = omega arith in
    rw z (joint_at a b K (adjusted low step K) c d s.0 s.1 s.2 (adjusted_le low step K))

-- one less than the pair's depth is a level at which the two have one ancestor
pub pair_joint : (low step a b : ℕ) → Cell a → Cell b → 0 < pair_depth low step a b → Joint a b (pair_depth low step a b - 1)
unfolding pair_depth
pair_joint low step a b c d h = depth_joint low step (common_level a b) a b c d refl h

depth_small : (low step : ℕ) (x : Option ℕ) (a b : ℕ) → common_level a b ≡ x → depth_of low step x ≤ 31
unfolding depth_of
depth_small low step None a b e = omega arith
depth_small low step (Some K) a b e = omega (arith, (common_level_lem a b K e).0.0, level_le a, adjusted_le low step K)

pub pair_small : (low step a b : ℕ) → pair_depth low step a b ≤ 31
unfolding pair_depth
pair_small low step a b = depth_small low step (common_level a b) a b refl

pub depth_some : (low step a b K r : ℕ) → common_level a b ≡ Some K → r ≡ adjusted low step K → r + 1 ≡ pair_depth low step a b
unfolding pair_depth depth_of
depth_some low step a b K r e f = rw (e, f)

pub depth_none : (low step a b : ℕ) → common_level a b ≡ None → 0 ≡ pair_depth low step a b
unfolding pair_depth depth_of
depth_none low step a b e = rw e
