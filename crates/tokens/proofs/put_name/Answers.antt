-- `tokens::put_name`: what is left of the id by a shift has the name's digits.
use mathlib.Core.Path.{◌≡◌, refl, ap, ◌∙◌}
use mathlib.Core.List.{List, [], ◌∷◌}
use Prim.Native.Nat.{ℕ, ◌+◌, ◌-◌, ◌*◌, ◌/◌, ◌^◌, ◌<◌}
use native.Mathlib.Omega.{arith}
use lib.ListN.{length}
use lib.Seq.{sets, length-sets}
use Rattle.io.specs.Digits.{last_digits}
use Rattle.tokens.specs.declared.Form.{Form}
use Rattle.tokens.specs.Tokens.{name_of}
use Rattle.tokens.proofs.Names.{name_digits}
use Rattle.tokens.proofs.put_name.Goals as goal

-- no digit, nothing written
none : (at n : ℕ) (s d : List ℕ) → n ≡ length s → n ≡ 0 → (at ≡ at + length s) × (d ≡ sets d at s)
none at n [] d e z = (omega arith, refl)
none at n (b ∷ s) d e z = absurd (omega arith)

some : (form : Form) (id n at : ℕ) (d d' : List ℕ) → id < 2 ^ 64 → n ≡ length (name_of form id) → d' ≡ sets d at (last_digits 16 n (id / 2 ^ (4 * (16 - n))))
    → (at + n ≡ at + length (name_of form id)) × (d' ≡ sets d at (name_of form id))
some form id n at d d' h e w = (ap (λ (k : ℕ). at + k) e, w ∙ ap (sets d at) (name_digits form id n h e))

pub put_digits-requires : goal.put_digits-requires
put_digits-requires c = omega (arith, c.name_length-n.ensures.0)

pub overflow_add-result : goal.overflow_add-result
overflow_add-result c = omega (arith, c.name_length-n.ensures.0)

pub shape_of-text : goal.shape_of-text
shape_of-text c = ap length c.put_digits.ensures ∙ simp length-sets

pub returns-then-n-eq0 : goal.returns-then-n-eq0
returns-then-n-eq0 c = none _ c.name_length-n.result (name_of c.args.form c.args.id) _ c.name_length-n.ensures.0 c.if-n-eq0.true

pub returns : goal.returns
returns c = some _ _ _ _ _ _ c.ranges.id.fits c.name_length-n.ensures.0 c.put_digits.ensures
