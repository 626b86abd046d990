-- One look at a cell: "Let the predicate give one of three answers: outside, crossing, inside." Quoted lines are the words of paper 02, f. Definitions only.
use Rattle.std.specs.Prelude.{Bool, true, false, cond, ◌&&◌, ℕ, ◌+◌, ◌*◌}
use Rattle.cellid.specs.CellId.{child_of, one}
use Rattle.sight.specs.declared.Sight.{Sight}
use Rattle.sight.specs.declared.Sights.{Sights}

-- the answer, by what the intersection test and the containment test say of a cell
unfoldable pub sight_by : Bool → Bool → Sight
sight_by hits within = cond hits (cond within Sight.Inside Sight.Crossing) Sight.Outside

-- the look at a cell, by its two tests. Where `whole` is false only outside or not is asked: any cell that is not outside is told as crossing
unfoldable pub sight_of : (ℕ → Bool) → (ℕ → Bool) → Bool → ℕ → Sight
sight_of hits within whole id = sight_by (hits id) (whole && within id)

-- cells "count as passed when they are crossing or inside"
abbrev pub passes : Sight → Bool
passes Sight.Outside = false
passes Sight.Crossing = true
passes Sight.Inside = true

abbrev pub is_inside : Sight → Bool
is_inside Sight.Outside = false
is_inside Sight.Crossing = false
is_inside Sight.Inside = true

-- ---- the four children of a cell: the single look at each, as two sets by place on the curve

-- four bits as a number, the first the lowest
abbrev pub four_bits : ℕ → ℕ → ℕ → ℕ → ℕ
four_bits a b c d = a + 2 * b + 4 * c + 8 * d

unfoldable pub four_sights : Sight → Sight → Sight → Sight → Sights
four_sights a b c d = record {
  passing = four_bits (one (passes a)) (one (passes b)) (one (passes c)) (one (passes d));
  inside = four_bits (one (is_inside a)) (one (is_inside b)) (one (is_inside c)) (one (is_inside d));
}

unfoldable pub sights_of : (ℕ → Sight) → ℕ → Sights
sights_of look id = four_sights (look (child_of id 0)) (look (child_of id 1)) (look (child_of id 2)) (look (child_of id 3))

-- ---- on the way: both sets in one number

abbrev pub weight_of : Sight → ℕ
weight_of s = one (passes s) + 16 * one (is_inside s)
