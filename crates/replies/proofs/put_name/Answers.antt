-- `replies::put_name`: where there is no room for sixteen digits, the name is put as far as it goes.
use mathlib.Core.Path.{◌≡◌, sym, ap, ◌∙◌}
use mathlib.Core.List.{List}
use Prim.Native.Nat.{ℕ, ◌+◌}
use native.Mathlib.Nat.{zero-add}
use native.Mathlib.Omega.{arith}
use lib.ListN.{length, take, replicate}
use lib.Seq.{sets, sets-eq, take_at}
use Rattle.tokens.specs.declared.Form.{Form}
use Rattle.tokens.specs.Tokens.{name_of}
use Rattle.tokens.proofs.Names.{name_short}
use Rattle.replies.specs.Write.{Wrote}
use Rattle.replies.proofs.put_name.Goals as goal

-- what was put at the beginning of the array is read there again
module _ (form : Form) (id : ℕ) (d : List ℕ) (k : ℕ) (e : k ≡ 0 + length (name_of form id)) (w : d ≡ sets (replicate 16 0) 0 (name_of form id)) where
  read_back : take k d ≡ name_of form id
  read_back = ap (take k) (w ∙ sets-eq (name_of form id) (replicate 16 0) 0 (omega (arith, name_short form id))) ∙ take_at (name_of form id) _ k (omega arith)

  counted : k ≡ length (take k d)
  counted = e ∙ zero-add _ ∙ sym (ap length read_back)

passed_on : (at : ℕ) (s t d d' : List ℕ) (r : ℕ) → t ≡ s → Wrote at t d r d' → Wrote at s d r d'
passed_on at s t d d' r e w = rw e at w

pub put_name-requires : goal.put_name-requires
put_name-requires c = omega (arith, name_short c.args.form c.args.id)

pub put_name-k-requires : goal.put_name-k-requires
put_name-k-requires c = omega (arith, name_short c.args.form c.args.id)

pub slice_bounds-name-end : goal.slice_bounds-name-end
slice_bounds-name-end c = omega (arith, c.put_name-k.ensures.0, name_short c.args.form c.args.id)

pub slice_bounds-put-end : goal.slice_bounds-put-end
slice_bounds-put-end c = counted c.args.form c.args.id _ _ c.put_name-k.ensures.0 c.put_name-k.ensures.1

pub returns-then-at-text : goal.returns-then-at-text
returns-then-at-text c = record { count = omega (arith, c.put_name.ensures.0, name_short c.args.form c.args.id); bytes = c.put_name.ensures.1 }

pub returns : goal.returns
returns c = passed_on _ _ _ _ _ _ (read_back _ _ _ _ c.put_name-k.ensures.0 c.put_name-k.ensures.1) c.put.ensures
