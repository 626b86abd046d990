-- `input::newline`: a newline is found, or none.
use mathlib.Core.Path.{◌≡◌, ap, ◌∙◌}
use mathlib.Core.List.{List}
use Prim.Native.Nat.{ℕ, ◌+◌}
use Rattle.std.proofs.Common.{Option, option_map, position, ◌==◌}
use Rattle.input.proofs.newline.Goals as goal

found : (from : ℕ) (o : Option ℕ) (s t : List ℕ) → s ≡ t → o ≡ position (λ b. b == 10) s → option_map (λ n. from + n) o ≡ option_map (λ n. from + n) (position (λ b. b == 10) t)
found from o s t e h = ap (option_map (λ (n : ℕ). from + n)) (h ∙ ap (position (λ (b : ℕ). b == 10)) e)

pub returns-in-Some : goal.returns-in-Some
returns-in-Some c = found _ _ _ _ c.of.ensures c.in-Some.ensures.value

pub returns-in-None : goal.returns-in-None
returns-in-None c = found c.args.part.start _ _ _ c.of.ensures c.in-None.ensures.value
