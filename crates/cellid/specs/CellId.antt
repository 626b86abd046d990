-- Cell ids, by the published S2 rules (paper 01, "Cell ids"). A cell is a level L, 0 to 30, and a place p among the 6 * 4 ^ L cells of that level,
-- in the order of the curve; its id is (2 * p + 1) * 4 ^ (30 - L). Powers of four are written as powers of two.
use Rattle.std.specs.Prelude.{◌≡◌, ℕ, zero, suc, ◌+◌, ◌-◌, ◌*◌, ◌/◌, ◌%◌, ◌^◌, ◌<◌, ◌≤◌, Bool, true, false, ◌&&◌, List, [], ◌∷◌, ◌==◌, nat_le, Option, Some, None}
use Rattle.std.specs.Int.Count.{count_trailing_zeros}

-- ---- what an id is

-- how far the lowest set bit of a level's ids stands from the right: two places a level, from 60 down to 0
abbrev pub place_at : ℕ → ℕ
place_at L = 2 * (30 - L)

-- "that bit is 2^(2·(30 − level))"
abbrev pub bit_at : ℕ → ℕ
bit_at L = 2 ^ place_at L

-- the id of the p-th cell of the level L
unfoldable pub id_of : ℕ → ℕ → ℕ
id_of L p = (2 * p + 1) * bit_at L

pub record IsCell (id L p : ℕ) : Type 0 where
  pub level : L ≤ 30
  pub place : p < 6 * 2 ^ (2 * L)
  pub is : id ≡ id_of L p

-- a valid id: some place of some level
abbrev pub Cell : ℕ → Type 0
Cell id = (L : ℕ) × (p : ℕ) × IsCell id L p

-- "Top three bits: face 0 to 5. Then two bits a level, a single 1, zeros." The number with the face f and the pairs d 1, .., d L, as far as these go
unfoldable pub spell : ℕ → (ℕ → ℕ) → ℕ → ℕ
spell f d zero = f * 2 ^ 61
spell f d (suc k) = spell f d k + d (suc k) * 2 ^ (2 * (29 - k) + 1)

pub record Spelt (id f : ℕ) (d : ℕ → ℕ) (L : ℕ) : Type 0 where
  pub face : f ≤ 5
  pub level : L ≤ 30
  pub pairs : (k : ℕ) → d k < 4
  pub is : id ≡ spell f d L + bit_at L

-- ---- what is read from an id

-- the top three bits
abbrev pub face_of : ℕ → ℕ
face_of id = id / 2 ^ 61

-- the two bits of the level k, 1 to 30
abbrev pub pair_of : ℕ → ℕ → ℕ
pair_of id k = id / 2 ^ (2 * (30 - k) + 1) % 4

-- the weight of the lowest set bit
unfoldable pub low_bit : ℕ → ℕ
low_bit id = 2 ^ count_trailing_zeros 64 id

-- "the level is read from the lowest set bit"
unfoldable pub level_of : ℕ → ℕ
level_of id = 30 - (count_trailing_zeros 64 id / 2)

unfoldable pub place_of : ℕ → ℕ
place_of id = id / 2 ^ (count_trailing_zeros 64 id + 1)

-- "valid if its face is at most 5 and its lowest set bit stands at an even place, 0 to 60"
unfoldable pub valid_id : ℕ → Bool
valid_id id = nat_le (face_of id) 5 && (nat_le (count_trailing_zeros 64 id) 60 && count_trailing_zeros 64 id % 2 == 0)

-- ---- one cell from another

-- the cell of a face
unfoldable pub face_cell : ℕ → ℕ
face_cell face = face * 2 ^ 61 + 2 ^ 60

-- those of all six, which have every leaf
unfoldable pub six_faces : List ℕ
six_faces = face_cell 0 ∷ face_cell 1 ∷ face_cell 2 ∷ face_cell 3 ∷ face_cell 4 ∷ face_cell 5 ∷ []

-- the ancestor at the level L, of any id that stands at L or below
unfoldable pub parent_at : ℕ → ℕ → ℕ
parent_at id L = (id / (2 * bit_at L)) * (2 * bit_at L) + bit_at L

-- the k-th child, 0 to 3: "Children come in ascending id order"
unfoldable pub child_of : ℕ → ℕ → ℕ
child_of id k = (id - low_bit id) + (2 * k + 1) * (low_bit id / 4)

-- ---- leaves. Leaf number n, from 0, has the id 2 * n + 1.

-- "With b the lowest bit, the leaves beneath run from id − (b − 1) to id + (b − 1)"
unfoldable pub first_leaf : ℕ → ℕ
first_leaf id = id - (low_bit id - 1)

unfoldable pub last_leaf : ℕ → ℕ
last_leaf id = id + (low_bit id - 1)

-- "A cell holds 4^(30 − level) leaves"
unfoldable pub leaves_of : ℕ → ℕ
leaves_of id = 2 ^ (2 * (30 - level_of id))

-- a contains b
unfoldable pub holds : ℕ → ℕ → Bool
holds a b = nat_le (first_leaf a) b && nat_le b (last_leaf a)

-- the leaf number n lies beneath id
abbrev pub has_leaf : ℕ → ℕ → Bool
has_leaf id n = holds id (2 * n + 1)

-- a test counted: 1 where it is true
unfoldable pub one : Bool → ℕ
one true = 1
one false = 0

-- a and b intersect
unfoldable pub meets : ℕ → ℕ → Bool
meets a b = nat_le (first_leaf b) (last_leaf a) && nat_le (first_leaf a) (last_leaf b)

-- ---- the level of the common ancestor

-- both have the same ancestor at the level N
abbrev pub SameAt : ℕ → ℕ → ℕ → Type 0
SameAt a b N = (N ≤ level_of a) × (N ≤ level_of b) × (parent_at a N ≡ parent_at b N)

unfoldable pub same_at : ℕ → ℕ → ℕ → Bool
same_at a b N = nat_le N (level_of a) && (nat_le N (level_of b) && parent_at a N == parent_at b N)

-- the deepest level, from n upwards, at which both have the same ancestor
unfoldable pub deepest : ℕ → ℕ → ℕ → Option ℕ
deepest a b zero = elim (same_at a b 0) [ true ↦ Some 0 | false ↦ None ]
deepest a b (suc n) = elim (same_at a b (suc n)) [ true ↦ Some (suc n) | false ↦ deepest a b n ]

unfoldable pub common_level : ℕ → ℕ → Option ℕ
common_level a b = deepest a b 30
