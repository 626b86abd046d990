-- What a caller may use of the memory that `normalize` leaves.
use mathlib.Core.Path.{◌≡◌, refl, sym, ap, ◌∙◌}
use mathlib.Core.List.{List, ◌++◌, append_assoc}
use Prim.Native.Nat.{ℕ, ◌-◌, ◌≤◌}
use native.Mathlib.Omega.{arith}
use lib.ListN.{length, take, drop, length-append, length-drop}
use lib.Seq.{take_at, drop_at, length-take-le}
use Rattle.cellid.specs.CellId.{Cell}
use Rattle.order.specs.Order.{All}
use Rattle.cellunion.specs.CellUnion.{normalise}
use Rattle.cellunion.specs.Memory.{zeros, normalised}
use Rattle.cellunion.proofs.Norm.{normalise_short}
use Rattle.cellunion.proofs.Memory.{length_zeros}

module _ (n : ℕ) (m : List ℕ) where
  -- the normal list stands in front
  pub take_normalised : take (length (normalise (take n m))) (normalised n m) ≡ normalise (take n m)
  unfolding normalised
  take_normalised = take_at (normalise (take n m)) (zeros (n - length (normalise (take n m))) ++ drop n m) (length (normalise (take n m))) refl

  module _ (room : n ≤ length m) (C : All Cell (take n m)) where
    pub length_normal : length (normalise (take n m)) ≤ n
    length_normal = omega (arith, normalise_short (take n m) C, length-take-le n m room)

    front : length (normalise (take n m) ++ zeros (n - length (normalise (take n m)))) ≡ n
    front = omega (arith, length-append (normalise (take n m)) (zeros (n - length (normalise (take n m)))), length_zeros (n - length (normalise (take n m))), length_normal)

    -- and what stood from n on is there
    pub drop_normalised : drop n (normalised n m) ≡ drop n m
    unfolding normalised
    drop_normalised =
        ap (drop n) (sym (append_assoc (normalise (take n m)) (zeros (n - length (normalise (take n m)))) (drop n m)))
        ∙ drop_at (normalise (take n m) ++ zeros (n - length (normalise (take n m)))) (drop n m) n front

    pub length_normalised : length (normalised n m) ≡ length m
    unfolding normalised
    length_normalised =
        ap length (sym (append_assoc (normalise (take n m)) (zeros (n - length (normalise (take n m)))) (drop n m)))
        ∙ length-append (normalise (take n m) ++ zeros (n - length (normalise (take n m)))) (drop n m) ∙ omega (arith, front, length-drop n m)
