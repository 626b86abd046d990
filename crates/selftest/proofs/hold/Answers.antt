-- `selftest::hold` meets its contract.
use mathlib.Core.Path.{ap, ◌∙◌}
use Prim.Native.Nat.{ℕ}
use native.Mathlib.Nat.{sub-zero}
use native.Mathlib.Omega.{arith}
use Rattle.cellunion.specs.Memory.{zeros, laid}
use Rattle.selftest.proofs.Laws.{held_laid}
use Rattle.selftest.proofs.hold.Goals as goal

pub returns : goal.returns
returns c =
    let n = c.min-n in
    (n.ensures, held_laid n.result _ _ _ (omega (arith, n.ensures)) c.lay.ensures.1, c.clear.ensures ∙ ap (λ (k : ℕ). laid 0 (zeros k) c.args.out.now) (sub-zero n.result))
