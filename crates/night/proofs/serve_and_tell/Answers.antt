-- `night::serve_and_tell`: the lists of the orders lie in the part of the output that is lent.
use mathlib.Core.Path.{◌≡◌, ap, ◌∙◌}
use mathlib.Core.List.{List, ◌++◌}
use Prim.Native.Nat.{ℕ, ◌≤◌}
use native.Mathlib.Omega.{arith}
use borrow.Author.Rules.{rules}
use lib.ListN.{length, take, drop}
use lib.Seq.{length-take-le, take_at}
use Rattle.night.proofs.Laws.{all_fit}
use Rattle.night.proofs.serve_and_tell.Goals as goal

-- the first places keep their number where a list of as many stands in their place
as_many : (o : ℕ) (a b : List ℕ) → o ≤ length b → length a ≡ length (take o b) → length (take o (a ++ drop o b)) ≡ length (take o b)
as_many o a b h e = ap length (take_at a (drop o b) o (e ∙ length-take-le o b h)) ∙ e

pub tell_night-requires : goal.tell_night-requires
tell_night-requires c =
    let same = as_many c.min-o.result c.night.new.out c.args.out.now (omega arith) c.night.auto.out in
    let few = length-take-le c.min-o.result c.args.out.now (omega arith) in
    (rw same (all_fit _ _ _ _ _ _ _ c.requires.0 c.night.ensures), rw same (omega (arith, few)))
