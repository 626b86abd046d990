-- `root::root` meets its contract. Assumes nothing.
use Rattle.std.proofs.Common.{◌≡◌, ℕ, T}
use denote.Floats.{passes}
use lib.Ieee.{binary64, fits, of_bits, to_bits}
use Rattle.root.specs.Root as Root
use Rattle.root.proofs.Kept.{no, read_back, no_nan}
use Rattle.root.proofs.Short.{in_range, sound}
use Rattle.root.proofs.root.Goals.{Start}
use Rattle.root.proofs.root.Goals as goal

-- what owning an `f64` tells: the format holds it
held : (c : Start) → T (fits binary64 c.args.x)
held c = passes _ c.well_formed.0.1

read : (c : Start) (r : ℕ) → r ≡ to_bits binary64 (Root.root binary64 (of_bits binary64 (to_bits binary64 c.args.x))) → of_bits binary64 r ≡ Root.root binary64 c.args.x
read c r e = read_back c.args.x r (held c) e

pub float_to_bits-x : goal.float_to_bits-x
float_to_bits-x c = no _ (sound c.args.x c.if-x.true).0

pub root_near-requires : goal.root_near-requires
root_near-requires c = in_range c.args.x c.if-x.true c.if-x-2.true

pub float_from_bits-result : goal.float_from_bits-result
float_from_bits-result c =
    let x = c.args.x in
    let s = sound x c.if-x.true in
    no_nan x c.root_near.result s.0 s.1 (read (goal.at.float_from_bits-result c).Start c.root_near.result c.root_near.ensures)

pub returns-then-x-2 : goal.returns-then-x-2
returns-then-x-2 c = read (goal.at.returns-then-x-2 c).Start c.root_near.result c.root_near.ensures
