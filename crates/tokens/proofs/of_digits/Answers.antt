-- `tokens::of_digits`: a shift by four for each digit that is missing.
use mathlib.Core.Path.{◌≡◌, sym, ap, ◌∙◌}
use Rattle.std.proofs.Common.{Some}
use Prim.Native.Nat.{ℕ, ◌-◌, ◌*◌, ◌%◌, ◌^◌, ◌≤◌, ◌<◌}
use native.Mathlib.Omega.{arith}
use lib.Pow.{shl_exact}
use borrow.Author.Tests.{ne_eqb}
use Rattle.tokens.specs.Steps.{of_digits}
use Rattle.tokens.proofs.Names.{sixteen_pow}
use Rattle.tokens.proofs.of_digits.Goals as goal

shifted : (n v : ℕ) → n ≤ 16 → v < 16 ^ n → (v * 2 ^ (4 * (16 - n))) % 2 ^ 64 ≡ v * 16 ^ (16 - n)
shifted n v h g = shl_exact (4 * n) (4 * (16 - n)) 64 (rw sixteen_pow at g) (omega arith) ∙ ap (λ (p : ℕ). v * p) (sym (sixteen_pow (16 - n)))

pub returns-else-value-eq0 : goal.returns-else-value-eq0
returns-else-value-eq0 c = rw (c.in-Token.is, of_digits, ne_eqb _ _ c.if-value-eq0.false) (ap Some (shifted _ _ c.requires.0 c.requires.1))
