-- A list of cells as pairs of first and last leaf, such pairs as the normalised list again, and what is answered. Quoted lines are paper 02's words, from n.
use Rattle.std.specs.Prelude.{◌≡◌, Bool, true, false, ◌&&◌, ◌||◌, List, [], ◌∷◌, ◌++◌, ℕ, zero, suc, ◌+◌, ◌-◌, ◌*◌, ◌/◌, ◌%◌, ◌^◌, length, drop, leb, ltb, eqb, Result, Ok, Err}
use Rattle.cellid.specs.CellId.{first_leaf, last_leaf}
use Rattle.cellunion.specs.CellUnion.{is_list}
use Rattle.refusal.specs.declared.Refusal.{Refusal}

-- how many leaves there are; leaf number n, from 0, has the id 2n + 1
abbrev pub leaves : ℕ
leaves = 6 * 2 ^ 60

-- ---- a list's pairs: one word after another, first, last, first, last

-- "neighbouring pairs joined when the next first is the last plus 2"
abbrev pub joins : ℕ → ℕ → Bool
joins last next = eqb next (last + 2)

-- a pair before others
unfoldable pub pair_before : ℕ → ℕ → List ℕ → List ℕ
pair_before first last [] = first ∷ last ∷ []
pair_before first last (next ∷ ps) = elim (joins last next) [ true ↦ first ∷ ps | false ↦ first ∷ last ∷ next ∷ ps ]

-- "pairs of first and last leaf", a pair for each cell
unfoldable pub pairs_of : List ℕ → List ℕ
pairs_of [] = []
pairs_of (id ∷ l) = pair_before (first_leaf id) (last_leaf id) (pairs_of l)

-- ---- pairs: "ascending, none joinable"

-- a pair that may come next: two leaf ids, the first at b or after
unfoldable pub follows : ℕ → ℕ → ℕ → Bool
follows b first last = eqb (first % 2) 1 && (eqb (last % 2) 1 && (leb b first && (leb first last && ltb last (2 * leaves))))

-- none joinable: the next first is at least the last plus 4
unfoldable pub pairs_from : ℕ → List ℕ → Bool
pairs_from b [] = true
pairs_from b (first ∷ []) = false
pairs_from b (first ∷ last ∷ ps) = follows b first last && pairs_from (last + 4) ps

abbrev pub is_pairs : List ℕ → Bool
is_pairs ps = pairs_from 1 ps

-- the leaf n lies in some pair
unfoldable pub in_pairs : List ℕ → ℕ → Bool
in_pairs [] n = false
in_pairs (first ∷ []) n = false
in_pairs (first ∷ last ∷ ps) n = (leb first (2 * n + 1) && leb (2 * n + 1) last) || in_pairs ps n

-- ---- their cells: "the normalised list" (proofs/Laws: it is normal, has the pairs' leaves, and no other list does). A stretch [s, e) is the leaf
-- numbers from s to before e

-- z leaves from s on can be a cell, and lie in the stretch
unfoldable pub fits : ℕ → ℕ → ℕ → Bool
fits z s e = eqb (s % z) 0 && leb (s + z) e

-- the largest number of leaves, 4 ^ k at most, that a cell from s on has in the stretch
unfoldable pub size_from : ℕ → ℕ → ℕ → ℕ
size_from zero s e = 1
size_from (suc k) s e = elim (fits (2 ^ (2 * suc k)) s e) [ true ↦ 2 ^ (2 * suc k) | false ↦ size_from k s e ]

unfoldable pub size : ℕ → ℕ → ℕ
size s e = size_from 30 s e

-- a stretch as cells, each the largest that fits; k bounds their number. The cell of z leaves from s on has the id 2s + z
unfoldable pub tile_by : ℕ → ℕ → ℕ → List ℕ
tile_by zero s e = []
tile_by (suc k) s e = elim (ltb s e) [ true ↦ (2 * s + size s e) ∷ tile_by k (s + size s e) e | false ↦ [] ]

unfoldable pub tile : ℕ → ℕ → List ℕ
tile s e = tile_by (e - s) s e

-- what each pair's stretch becomes, one after another
unfoldable pub each_pair : (ℕ → ℕ → List ℕ) → List ℕ → List ℕ
each_pair out [] = []
each_pair out (first ∷ []) = []
each_pair out (first ∷ last ∷ ps) = out (first / 2) ((last + 1) / 2) ++ each_pair out ps

abbrev pub cells_of : List ℕ → List ℕ
cells_of ps = each_pair tile ps

-- ---- what a call comes to: refused, or a list

-- the list l; where an output of so many places is too short for it, that refusal
unfoldable pub fitted : Refusal → List ℕ → ℕ → Result (List ℕ) Refusal
fitted full l room = elim (leb (length l) room) [ true ↦ Ok l | false ↦ Err full ]

-- l is the answer to good input: "25 input outside these rules, then 26 answer longer than the output"
unfoldable pub result_of : Bool → List ℕ → ℕ → Result (List ℕ) Refusal
result_of good l room = elim good [
  | false ↦ Err Refusal.NotRanges
  | true ↦ fitted Refusal.RangesTooLong l room
]

unfoldable pub pairs_result : List ℕ → ℕ → Result (List ℕ) Refusal
pairs_result ids room = result_of (is_list ids) (pairs_of ids) room

unfoldable pub cells_result : List ℕ → ℕ → Result (List ℕ) Refusal
cells_result ps room = result_of (is_pairs ps) (cells_of ps) room

unfoldable pub list_answer : Result (List ℕ) Refusal → Result ℕ Refusal
list_answer (Err r) = Err r
list_answer (Ok l) = Ok (length l)

-- how many words an answer has
unfoldable pub words_of : Result ℕ Refusal → ℕ
words_of (Err r) = 0
words_of (Ok count) = count

-- "output unchanged"; else the list stands in the first places, and the others stay
unfoldable pub output_after : Result (List ℕ) Refusal → List ℕ → List ℕ
output_after (Err r) out = out
output_after (Ok l) out = l ++ drop (length l) out

-- what a public function ensures of its answer and the output
pub record Answered (R : Result (List ℕ) Refusal) (r : Result ℕ Refusal) (out out' : List ℕ) : Type 0 where
  pub answer : r ≡ list_answer R
  pub output : out' ≡ output_after R out
