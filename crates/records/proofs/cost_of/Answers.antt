-- `records::cost_of` meets its contract.
use Prim.Native.Nat.{ℕ, ◌+◌, ◌*◌, ◌≤◌}
use native.Mathlib.Omega.{arith}
use native.Mathlib.Nat.{mul-le-mul}
use Rattle.cellid.proofs.Laws.{level_le}
use Rattle.run.specs.Run.{cost_of}
use Rattle.records.proofs.cost_of.Goals as goal

inner : (l f : ℕ) → l ≤ 30 → f ≤ 65 → l * f ≤ 30 * 65
inner l f h k = mul-le-mul h k

outer : (l f p : ℕ) → l ≤ 30 → f ≤ 65 → p ≤ 64 → (l * f + p) * f ≤ 2014 * 65
outer l f p h k j = mul-le-mul {n₂ = 2014} (omega (arith, inner l f h k)) k

pub overflow_mul-result : goal.overflow_mul-result
overflow_mul-result c = omega (arith, inner c.level.result c.args.weight (omega (arith, level_le c.args.id)) (omega arith))

pub overflow_add-result : goal.overflow_add-result
overflow_add-result c = omega (arith, inner c.level.result c.args.weight (omega (arith, level_le c.args.id)) (omega arith))

pub overflow_mul-result-2 : goal.overflow_mul-result-2
overflow_mul-result-2 c = omega (arith, outer c.level.result c.args.weight c.count.result (omega (arith, level_le c.args.id)) (omega arith) (omega arith))

pub overflow_add-result-2 : goal.overflow_add-result-2
overflow_add-result-2 c = omega (arith, outer c.level.result c.args.weight c.count.result (omega (arith, level_le c.args.id)) (omega arith) (omega arith))

pub returns : goal.returns
unfolding cost_of
returns c = (
  rw (← c.level.ensures, ← c.count.ensures.value, ← c.count-2.ensures.value),
  omega (arith, outer c.level.result c.args.weight c.count.result (omega (arith, level_le c.args.id)) (omega arith) (omega arith)),
)
