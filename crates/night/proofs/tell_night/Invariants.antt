-- `night::tell_night`: the line of an order is written from where its list begins, and the places before it are the counts of the orders before it.
use mathlib.Core.Path.{◌≡◌}
use Prim.Native.Nat.{◌≤◌}
use lib.ListN.{take}
use Rattle.orders.specs.Nights.{places_of}
use Rattle.night.proofs.tell_night.Given as goal

abbrev pub invariant-loop-order : goal.invariant-loop-order
invariant-loop-order l = (l.begin ≡ places_of (take l.order-index l.orders)) × (l.refused ≤ l.order-index)
