-- `tokens::put_line`: a name, then a newline.
use mathlib.Core.Path.{◌≡◌, sym, ap, ◌∙◌}
use mathlib.Core.List.{List, [], ◌∷◌}
use Prim.Native.Nat.{ℕ, ◌+◌, ◌≤◌, ◌<◌}
use native.Mathlib.Omega.{arith}
use lib.ListN.{length, set}
use lib.Seq.{sets, length-sets}
use Rattle.cellid.proofs.Puts.{sets_append}
use Rattle.tokens.specs.declared.Form.{Form}
use Rattle.tokens.specs.Tokens.{name_of, name_line}
use Rattle.tokens.proofs.Turns.{line_length}
use Rattle.tokens.proofs.put_line.Goals as goal

module _ (form : Form) (id at end : ℕ) (d d' : List ℕ) (fits : at + length (name_line form id) ≤ length d) (e : end ≡ at + length (name_of form id)) (w : d' ≡ sets d at (name_of form id)) where
  inside : end < length d'
  inside = omega (arith, ap length w ∙ length-sets d at (name_of form id), line_length form id)

  whole : (end + 1 ≡ at + length (name_line form id)) × (set d' end 10 ≡ sets d at (name_line form id))
  unfolding name_line
  whole = (omega (arith, line_length form id), rw (w, e) (sym (sets_append (name_of form id) (10 ∷ []) d at)))

pub put_name-end-requires : goal.put_name-end-requires
put_name-end-requires c = omega (arith, line_length c.args.form c.args.id)

pub overflow_add-result : goal.overflow_add-result
overflow_add-result c = let i = inside _ _ _ _ _ _ c.requires c.put_name-end.ensures.0 c.put_name-end.ensures.1 in omega arith

pub bounds-text-end : goal.bounds-text-end
bounds-text-end c = inside _ _ _ _ _ _ c.requires c.put_name-end.ensures.0 c.put_name-end.ensures.1

pub returns : goal.returns
returns c = whole _ _ _ _ _ _ c.requires c.put_name-end.ensures.0 c.put_name-end.ensures.1
