-- One look at a cell, and one at the four quarters of a cell together: what is asked on the way. Definitions only.
use Rattle.std.specs.Prelude.{ℕ, ◌+◌, ◌-◌, ◌*◌, ◌/◌, ◌%◌, ◌^◌, Bool, not, cond, ◌&&◌, ◌||◌, List, [], ◌∷◌, eqb, get_or}
use Rattle.std.specs.Float.Ieee.{le}
use Rattle.std.specs.Float.{nan}
use Rattle.cellid.specs.CellId.{one}
use Rattle.hilbert.specs.Curve.{ij_at}
use Rattle.point.specs.ChordAngle.{right}
use Rattle.point.specs.declared.Point.{Point}
use Rattle.cell.specs.Cell.{vertex_at}
use Rattle.cell.specs.Siblings.{quarter_at}
use Rattle.cell.specs.declared.Cell.{Cell}
use Rattle.cell.specs.declared.Cap.{Cap}
use Rattle.cell.specs.declared.Quarters.{Quarters}
use Rattle.sight.specs.Sight.{sight_by, four_bits, four_sights}
use Rattle.sight.specs.declared.Sight.{Sight}
use Rattle.sight.specs.declared.Sights.{Sights}
use Rattle.cap.specs.Cap.{cap_holds, complement_of, meets_cell, holds_cell}

-- what a cell is to the cap; where `whole` is false only outside or not
unfoldable pub sight_in : Cap → Bool → Cell → Sight
sight_in cap whole c = sight_by (meets_cell cap c) (whole && holds_cell cap c)

-- ---- a cell with all its corners on one side of the rim: the other side decides

-- the side that has none of the corners, where the cap has all of them or none
abbrev pub other_side : Cap → Bool → Cap
other_side cap all = cond all (complement_of cap) cap

-- the answer, by whether that side reaches into the cell
abbrev pub sight_past : Bool → Bool → Sight
sight_past all reached = cond reached Sight.Crossing (cond all Sight.Inside Sight.Outside)

-- whether it can: "a radius of RIGHT or more answers no"
abbrev pub can_reach : Cap → Bool
can_reach cap = not (le right cap.radius)

-- ---- the four quarters of a cell

abbrev pub quarter_sights : Cap → Bool → Quarters → Sights
quarter_sights cap whole q = four_sights (sight_in cap whole (quarter_at q 0)) (sight_in cap whole (quarter_at q 1)) (sight_in cap whole (quarter_at q 2)) (sight_in cap whole (quarter_at q 3))

-- how many of the corners lie in the cap
unfoldable pub held_of : Cap → Cell → ℕ
held_of cap c = one (cap_holds cap (vertex_at c 0)) + one (cap_holds cap (vertex_at c 1)) + one (cap_holds cap (vertex_at c 2)) + one (cap_holds cap (vertex_at c 3))

-- whether some quarter's edges may be asked, where `near` tells whether the cap can reach into one that has none of its corners in it, `beyond` whether the
-- other side can into one that has all
abbrev pub asks_edges : Bool → Bool → ℕ → ℕ → ℕ → ℕ → Bool
asks_edges near beyond a b c d = (near && eqb (a * b * c * d) 0) || (beyond && eqb ((4 - a) * (4 - b) * (4 - c) * (4 - d)) 0)

abbrev pub nowhere : Point
nowhere = record { x = nan; y = nan; z = nan }

-- which of nine points lie in the cap
unfoldable pub held_nine : Cap → List Point → List ℕ
held_nine cap p =
    one (cap_holds cap (get_or p 0 nowhere))
    ∷ one (cap_holds cap (get_or p 1 nowhere))
    ∷ one (cap_holds cap (get_or p 2 nowhere))
    ∷ one (cap_holds cap (get_or p 3 nowhere))
    ∷ one (cap_holds cap (get_or p 4 nowhere))
    ∷ one (cap_holds cap (get_or p 5 nowhere))
    ∷ one (cap_holds cap (get_or p 6 nowhere))
    ∷ one (cap_holds cap (get_or p 7 nowhere))
    ∷ one (cap_holds cap (get_or p 8 nowhere))
    ∷ []

-- the corners of the square whose lower left one is at `at` of the nine
unfoldable pub square_at : List Point → ℕ → List Point
square_at p at = get_or p at nowhere ∷ get_or p (at + 3) nowhere ∷ get_or p (at + 4) nowhere ∷ get_or p (at + 1) nowhere ∷ []

unfoldable pub held_at : List ℕ → ℕ → ℕ
held_at h at = get_or h at 0 + get_or h (at + 3) 0 + get_or h (at + 4) 0 + get_or h (at + 1) 0

-- where the n-th quarter's lower left corner is among the nine
abbrev pub corner_at : ℕ → ℕ
corner_at n = n + n / 2

-- a set of quarters, i's bit over j's, as a set of places of a row of the curve
abbrev pub has_bit : ℕ → ℕ → ℕ
has_bit set n = set / 2 ^ n % 2

unfoldable pub turned : ℕ → ℕ → ℕ
turned row set = four_bits (has_bit set (ij_at row 0)) (has_bit set (ij_at row 1)) (has_bit set (ij_at row 2)) (has_bit set (ij_at row 3))
