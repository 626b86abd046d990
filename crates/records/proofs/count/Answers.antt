-- `records::count` meets its contract: the table's digits are the counts, by one computed test.
use mathlib.Core.Path.{◌≡◌, refl}
use mathlib.Core.Bool.{Bool, true, ◌&&◌}
use mathlib.Core.Logic.{by_cases}
use Prim.Native.Nat.{ℕ, zero, suc, ◌*◌, ◌/◌, ◌%◌, ◌^◌, ◌<◌}
use native.Mathlib.Decide.{ℕ_discrete}
use native.Mathlib.Omega.{arith}
use lib.Dec.{T, eqb, eqb→eq}
use lib.Count.{ones, ones-le}
use lib.Ieee.Fits.{and_l, and_r}
use Rattle.records.proofs.count.Goals as goal

abbrev digit : ℕ → ℕ
digit x = 0x4332_3221_3221_2110 / 2 ^ (4 * x) % 16

-- the digits of the first k sets
unfoldable right : ℕ → Bool
right zero = true
right (suc k) = eqb (digit k) (ones k) && right k

all_right : T (right 16)
unfolding right ones
all_right = tt

at : (k x : ℕ) → x < k → T (right k) → digit x ≡ ones x
unfolding right
at zero x h r = omega arith
at (suc k) x h r = by_cases (ℕ_discrete x k) (λ e. rw e (eqb→eq (digit k) (ones k) (and_l (eqb (digit k) (ones k)) (right k) r))) (λ n. at k x (omega arith) (and_r (eqb (digit k) (ones k)) (right k) r))

pub returns-then-x-lt16 : goal.returns-then-x-lt16
returns-then-x-lt16 c = record {
  value = at 16 c.args.x c.if-x-lt16.true all_right;
  upper_bound = omega arith;
}

pub overflow_cast-result : goal.overflow_cast-result
overflow_cast-result c = omega (arith, ones-le 64 c.args.x c.ranges.x.fits)

pub returns : goal.returns
returns c = record {
  value = refl;
  upper_bound = ones-le 64 c.args.x c.ranges.x.fits;
}
