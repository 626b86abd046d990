-- The places which served orders take are places of the output.
use mathlib.Core.Path.{◌≡◌, sym}
use mathlib.Core.List.{List, [], ◌∷◌}
use Prim.Native.Nat.{ℕ, zero, suc, ◌+◌, ◌≤◌, ◌<◌}
use native.Mathlib.Omega.{arith}
use native.Mathlib.Numerals.{add-one}
use lib.ListN.{length, take, drop, get_or}
use Rattle.std.proofs.Common.{Result}
use Rattle.refusal.specs.declared.Refusal.{Refusal}
use Rattle.orders.specs.declared.Order.{Order}
use Rattle.orders.specs.Orders.{NightOver}
use Rattle.orders.specs.Nights.{places_of}
use Rattle.orders.proofs.Laws.{night_serves}
use Rattle.orders.proofs.Nights.{places_fit}

-- ---- where the lists begin

-- the places before an order, and its own
places_next : (os : List Order) (k : ℕ) (d : Order) → k < length os → places_of (take (suc k) os) ≡ places_of (take k os) + (get_or os k d).count
unfolding places_of
places_next [] k d h = absurd (omega arith)
places_next (o ∷ os) zero d h = omega arith
places_next (o ∷ os) (suc k) d h = omega (arith, places_next os k d (omega arith))

-- are among those of all
pub places_all : (os : List Order) (k : ℕ) → places_of (take k os) ≤ places_of os
unfolding places_of
places_all os zero = omega arith
places_all [] (suc k) = omega arith
places_all (o ∷ os) (suc k) = omega (arith, places_all os k)

-- where the list of order k begins at `begin`, behind those before it
module _ (os : List Order) (k begin : ℕ) (d : Order) (h : k < length os) (e : begin ≡ places_of (take k os)) where
  -- the next one begins where it ends
  pub begins_next : begin + (get_or os k d).count ≡ places_of (take (k + 1) os)
  begins_next = rw (add-one k, e) (sym (places_next os k d h))

  -- and it lies in an output that has the places of all
  pub ends_within : (room : ℕ) → places_of os ≤ room → begin + (get_or os k d).count ≤ room
  ends_within room f = omega (arith, e, places_next os k d h, places_all os (suc k))

-- orders that are served take places of the output
pub all_fit : (os os' : List Order) (mem mem' out out' : List ℕ) (r : Result Unit Refusal) → length os ≤ 256 → NightOver os os' mem mem' out out' r → places_of os' ≤ length out
all_fit os os' mem mem' out out' r h s = rw (s.orders, night_serves os mem out h) (places_fit os mem out)
