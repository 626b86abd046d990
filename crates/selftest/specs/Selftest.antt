-- Which engines are asked. Assumes nothing.
use Rattle.std.specs.Prelude.{true, false, ℕ, eqb}
use Rattle.queue.specs.declared.Engine.{Engine}
use Rattle.selftest.specs.declared.Engines.{Engines}

-- the engines that a number stands for
abbrev pub engines_of : ℕ → Engines
engines_of n = elim (eqb n 0) [ true ↦ Engines.One Engine.Quick | false ↦ elim (eqb n 1) [ true ↦ Engines.One Engine.Plain | false ↦ Engines.Both ] ]
