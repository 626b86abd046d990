-- Lists of cells: the leaves they hold, normal lists, normalising. Quoted lines are paper 01's words, from "Lists" and "Cell ids".
use Rattle.std.specs.Prelude.{◌≡◌, Bool, true, false, ◌&&◌, ◌||◌, List, [], ◌∷◌, ◌++◌, ◌⊎◌, ℕ, zero, suc, ◌+◌, ◌-◌, ◌*◌, ◌/◌, ◌^◌, ◌<◌, ltb, eqb}
use Rattle.cellid.specs.CellId.{Cell, id_of, low_bit, level_of, valid_id, parent_at, child_of, first_leaf, last_leaf, leaves_of, holds, has_leaf, one}
use Rattle.order.specs.Order.{All, sort}

-- ---- leaves. Leaf number n, from 0, has the id 2n + 1.

-- the leaf n lies under some cell of the list
unfoldable pub covers : List ℕ → ℕ → Bool
covers [] n = false
covers (id ∷ l) n = has_leaf id n || covers l n

-- two lists hold the same ground
abbrev pub SameLeaves : List ℕ → List ℕ → Type 0
SameLeaves a b = (n : ℕ) → covers a n ≡ covers b n

-- the number of a cell's first leaf, and of the leaf after its last: the cell is the stretch between
unfoldable pub lo : ℕ → ℕ
lo id = (id - low_bit id) / 2

unfoldable pub hi : ℕ → ℕ
hi id = (id + low_bit id) / 2

-- ---- what a list may be

unfoldable pub Member : ℕ → List ℕ → Type 0
Member x [] = ⊥
Member x (y ∷ l) = (x ≡ y) ⊎ Member x l

-- ascending and free of overlap: each cell's last leaf stands before the first leaf of all later ones
unfoldable pub Apart : List ℕ → Type 0
Apart [] = Unit
Apart (x ∷ l) = All (λ y. last_leaf x < first_leaf y) l × Apart l

-- the same in 01's words: "ascending, no cell inside another" (proofs/Words)
unfoldable pub Clear : List ℕ → Type 0
Clear [] = Unit
Clear (x ∷ l) = All (λ y. (x < y) × (holds x y ≡ false) × (holds y x ≡ false)) l × Clear l

-- an id may come next in a list: it is valid, and its first leaf stands after b, the last leaf of those before it
unfoldable pub listed : ℕ → ℕ → Bool
listed b id = valid_id id && ltb b (first_leaf id)

-- "valid, ascending and free of overlap" (paper 02, n and j)
unfoldable pub list_from : ℕ → List ℕ → Bool
list_from b [] = true
list_from b (id ∷ l) = listed b id && list_from (last_leaf id) l

-- exactly the lists of cells that are `Apart` (proofs/Lists)
abbrev pub is_list : List ℕ → Bool
is_list l = list_from 0 l

-- no four siblings are left: no cell has all its four children in the list
unfoldable pub NoFour : List ℕ → Type 0
NoFour l = (L p : ℕ) → L < 30 → p < 6 * 2 ^ (2 * L)
    → Member (child_of (id_of L p) 0) l → Member (child_of (id_of L p) 1) l → Member (child_of (id_of L p) 2) l → Member (child_of (id_of L p) 3) l → ⊥

-- "ascending, no cell inside another, four siblings replaced by their parent until none are left"
pub record Normal (l : List ℕ) : Type 0 where
  pub cells : All Cell l
  pub apart : Apart l
  pub nofour : NoFour l

-- ---- normalising: sort, then one pass with the kept cells as a stack, the last kept on top. It is the Rust's pass; the laws (proofs/Norm) say that it
-- gives the one normal list with the same leaves.

-- the parent
abbrev pub up_one : ℕ → ℕ
up_one c = parent_at c (level_of c - 1)

-- x, y, z and c are the four children of one cell, in order
unfoldable pub is_four : ℕ → ℕ → ℕ → ℕ → Bool
is_four x y z c =
    ltb 0 (level_of c)
    && (eqb x (child_of (up_one c) 0) && (eqb y (child_of (up_one c) 1) && (eqb z (child_of (up_one c) 2) && eqb c (child_of (up_one c) 3))))

-- c goes on top, and as long as it completes four siblings their parent goes in their place
unfoldable pub collapse : List ℕ → ℕ → List ℕ
collapse [] c = c ∷ []
collapse (z ∷ []) c = c ∷ z ∷ []
collapse (z ∷ y ∷ []) c = c ∷ z ∷ y ∷ []
collapse (z ∷ y ∷ x ∷ s) c = elim (is_four x y z c) [ true ↦ collapse s (up_one c) | false ↦ c ∷ z ∷ y ∷ x ∷ s ]

-- without the kept cells inside c
unfoldable pub clear_of : ℕ → List ℕ → List ℕ
clear_of c [] = []
clear_of c (t ∷ s) = elim (holds c t) [ true ↦ clear_of c s | false ↦ t ∷ s ]

-- one more cell: nothing if the last kept holds it
unfoldable pub keep_cell : List ℕ → ℕ → List ℕ
keep_cell [] c = c ∷ []
keep_cell (t ∷ s) c = elim (holds t c) [ true ↦ t ∷ s | false ↦ collapse (clear_of c (t ∷ s)) c ]

unfoldable pub pass : List ℕ → List ℕ → List ℕ
pass s [] = s
pass s (c ∷ l) = pass (keep_cell s c) l

-- the stack read from below
unfoldable pub rev : List ℕ → List ℕ
rev [] = []
rev (x ∷ l) = rev l ++ (x ∷ [])

unfoldable pub normalise : List ℕ → List ℕ
normalise l = rev (pass [] (sort ltb l))

-- ---- counting leaves

-- how many of 0, .., N - 1 pass
unfoldable pub count_to : (ℕ → Bool) → ℕ → ℕ
count_to f zero = 0
count_to f (suc N) = one (f N) + count_to f N

-- the leaves of a list's cells, added up
unfoldable pub leaf_sum : List ℕ → ℕ
leaf_sum [] = 0
leaf_sum (id ∷ l) = leaves_of id + leaf_sum l
