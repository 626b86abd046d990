-- `root::root_far` meets its contract. Assumes nothing.
use Rattle.std.proofs.Common.{◌≡◌, ℕ, false, T, sym, refl, subst}
use denote.Floats.{passes}
use lib.Ieee.{Float, nan, binary64, fits, is_nan, of_bits, to_bits, div}
use lib.Ieee.Compare.{differs_from_itself}
use Rattle.root.specs.Root as Root
use Rattle.root.proofs.Kept.{root_negative, itself_number, no, read_back, no_nan}
use Rattle.root.proofs.root_far.Goals.{Else-x-2, Start}
use Rattle.root.proofs.root_far.Goals as goal

-- what owning an `f64` tells: the format holds it
held : (c : Start) → T (fits binary64 c.args.x)
held c = passes _ c.well_formed.0.1

root_nan : nan ≡ Root.root binary64 nan
unfolding Root.root
root_nan = refl

-- past both tests x is a number that is not below zero
number : (c : Else-x-2) → is_nan c.args.x ≡ false
number c = itself_number c.args.x c.if-x.false

read : (c : Start) (r : ℕ) → r ≡ to_bits binary64 (Root.root binary64 (of_bits binary64 (to_bits binary64 c.args.x))) → of_bits binary64 r ≡ Root.root binary64 c.args.x
read c r e = read_back c.args.x r (held c) e

pub returns-then-x : goal.returns-then-x
returns-then-x c = subst (λ (v : Float). v ≡ Root.root binary64 v) (sym (differs_from_itself c.args.x (passes _ c.if-x.true))) root_nan

pub returns-then-x-2 : goal.returns-then-x-2
unfolding of_bits div
returns-then-x-2 c = sym (root_negative binary64 c.args.x c.if-x-2.true)

pub float_to_bits-x : goal.float_to_bits-x
float_to_bits-x c = no _ (number (goal.at.float_to_bits-x c).Else-x-2)

pub float_from_bits-result : goal.float_from_bits-result
unfolding of_bits
float_from_bits-result c = no_nan c.args.x c.root_bits.result (number (goal.at.float_from_bits-result c).Else-x-2) c.if-x-2.false (read (goal.at.float_from_bits-result c).Start c.root_bits.result c.root_bits.ensures)

pub returns-else-x-2 : goal.returns-else-x-2
returns-else-x-2 c = read (goal.at.returns-else-x-2 c).Start c.root_bits.result c.root_bits.ensures
