-- `fast::Numbers::adjust_level` meets its contract. Assumes nothing.
use mathlib.Core.Path.{sym}
use Prim.Native.Nat.{◌-◌}
use native.Mathlib.Nat.{mod-le}
use native.Mathlib.Omega.{arith}
use Rattle.fast.proofs.Levels.{adjusted_low, adjusted_high, adjusted_one}
use Rattle.fast.proofs.numbers.Numbers.adjust_level.Goals.{else-self-gt1-via-then-self-gt1+else-self-level, else-self-gt1-via-else-self-gt1}
use Rattle.fast.proofs.numbers.Numbers.adjust_level.Goals as goal

pub overflow_sub-result-then-self-level : goal.overflow_sub-result-then-self-level
overflow_sub-result-then-self-level c =
    let s = c.args in
    omega (arith, mod-le (s.level - s.self.coverer.min_level) s.self.coverer.level_mod, c.if-self-level.true)

pub returns-then-self-level : goal.returns-then-self-level
returns-then-self-level c = sym (adjusted_high _ _ _ c.if-self-level.true)

pub returns-else-self-gt1 : goal.returns-else-self-gt1
returns-else-self-gt1 c = elim c.else-self-gt1.branch [
  | else-self-gt1-via-then-self-gt1+else-self-level w ↦ sym (adjusted_low _ _ _ w.if-self-level.false)
  | else-self-gt1-via-else-self-gt1 w ↦ sym (adjusted_one _ _ _ c.args.self.fit.some w.if-self-gt1.false)
]
