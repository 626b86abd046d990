-- A coordinate lies on its face, whatever float it is taken from.
use Rattle.std.proofs.Common.{◌^◌, ◌<◌, arith}
use lib.Ieee.{Float}
use Rattle.neighbors.specs.Neighbors.{st_to_ij}

pub ij_lt : (s : Float) → st_to_ij s < 2 ^ 30
unfolding st_to_ij
ij_lt s = omega arith
