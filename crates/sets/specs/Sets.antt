-- The union, the common part and the difference of two lists of cells, and what is answered. Quoted lines are paper 02's words, from j.
use Rattle.std.specs.Prelude.{Bool, true, false, ◌&&◌, ◌||◌, not, List, ℕ, Result, Err}
use Rattle.cellunion.specs.CellUnion.{covers}
use Rattle.picklist.specs.PickList.{is_pick_list}
use Rattle.refusal.specs.declared.Refusal.{Refusal}
use Rattle.ranges.specs.Ranges.{tile, fitted}
use Rattle.ranges.specs.Stretches.{stretches}
use Rattle.sets.specs.declared.Op.{Op}
use Rattle.sets.specs.declared.Op.TheVariants.{Union, Common, Difference}

-- whether a leaf is wanted, by whether it is the first list's and whether it is the second's: "those of either, of both, or of the first alone"
unfoldable pub wants : Op → Bool → Bool → Bool
wants Union x y = x || y
wants Common x y = x && y
wants Difference x y = x && not y

-- the leaf n is wanted
unfoldable pub wanted : Op → List ℕ → List ℕ → ℕ → Bool
wanted op a b n = wants op (covers a n) (covers b n)

-- all leaves are gone through in order, and each stretch of those that are wanted becomes its largest cells. "The answer is normalised, and its leaves are
-- exactly those" (proofs/Laws: it is normal, has these leaves, and no other list does)
unfoldable pub combined : Op → List ℕ → List ℕ → List ℕ
combined op a b = stretches tile (wanted op a b)

-- with so many places of output, of lists "up to 4,096 ids": "15 first list bad or too long, 16 the second likewise, 17 answer longer than the output; in this order"
unfoldable pub set_result : Op → List ℕ → List ℕ → ℕ → Result (List ℕ) Refusal
set_result op a b room = elim (is_pick_list a) [
  | false ↦ Err Refusal.FirstList
  | true ↦ elim (is_pick_list b) [
    | false ↦ Err Refusal.SecondList
    | true ↦ fitted Refusal.SetTooLong (combined op a b) room
  ]
]
