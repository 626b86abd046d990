-- The rows P1 to P10 of paper 01's "Numbers to try": what the definitions give, beside what the paper says. proofs/Rows shows that each row is right.
use Rattle.std.specs.Prelude.{◌≡◌, false, List, [], ◌∷◌, map, ℕ, negsuc, Float}
use Rattle.std.specs.Float.{fin, binary64}
use Rattle.std.specs.Float.Ieee.{of_bits, to_bits}
use Rattle.root.specs.Root.{root}
use Rattle.cellid.specs.CellId.{face_cell, child_of, valid_id, one}
use Rattle.denorm.specs.Denorm.{goal}
use Rattle.fast.specs.Fast.{adjusted, fast_covering}
use Rattle.run.specs.Run.{full, cost_of}

-- the row's number, what the definitions give, what the paper says
pub data Row : Type 0 where
  numbers : ℕ → List ℕ → List ℕ → Row
  float : ℕ → Float → Float → Row

abbrev pub Right : Row → Type 0
Right (numbers n given said) = given ≡ said
Right (float n given said) = given ≡ said

-- the run's own 4 ^ level_mod, for a request with that level_mod
abbrev pub four : ℕ → ℕ
four m = full (record { coverer = record { min_level = 0; max_level = 30; level_mod = m; max_cells = 8; edition = 1 }; inner = false })

unfoldable pub table : List Row
table =
    -- faces 0 and 5
    numbers 1 (map face_cell (0 ∷ 5 ∷ [])) (0x1000000000000000 ∷ 0xb000000000000000 ∷ [])
    -- children of face 0
    ∷ numbers 2 (map (child_of (face_cell 0)) (0 ∷ 1 ∷ 2 ∷ 3 ∷ [])) (0x0400000000000000 ∷ 0x0c00000000000000 ∷ 0x1400000000000000 ∷ 0x1c00000000000000 ∷ [])
    -- invalid: 0 for false
    ∷ numbers 3 (map (λ (id : ℕ). one (valid_id id)) (0 ∷ 0xd000000000000000 ∷ 2 ∷ [])) (0 ∷ 0 ∷ 0 ∷ [])
    -- adjusted, min 3 mod 2: 2, 3, 4, 5 become 2, 3, 3, 5; min 1 mod 3: 30 becomes 28
    ∷ numbers 4 (map (adjusted 3 2) (2 ∷ 3 ∷ 4 ∷ 5 ∷ [])) (2 ∷ 3 ∷ 3 ∷ 5 ∷ [])
    ∷ numbers 4 (map (adjusted 1 3) (30 ∷ [])) (28 ∷ [])
    -- denormalised, min 1 mod 2: level 4 becomes 5; 30 stays 30
    ∷ numbers 5 (map (goal 1 2) (4 ∷ 30 ∷ [])) (5 ∷ 30 ∷ [])
    -- cost, mod 1: level 0, 4 children, 0 terminals; with 4 terminals; level 1, 1 child, 0 terminals
    ∷ numbers 6 (cost_of (four 1) 0 4 0 ∷ cost_of (four 1) 0 4 4 ∷ cost_of (four 1) 1 1 0 ∷ []) (16 ∷ 20 ∷ 20 ∷ [])
    -- cost, mod 2: level 1, 16 children, 0 terminals
    ∷ numbers 7 (cost_of (four 2) 1 16 0 ∷ []) (512 ∷ [])
    -- faces 0 and 1, max_cells 0, min 0: merging leaves both
    ∷ numbers 8 (fast_covering 0 30 1 0 (map face_cell (0 ∷ 1 ∷ []))) (map face_cell (0 ∷ 1 ∷ []))
    -- first two children of face 0, max_cells 1: min 0 gives face 0; min 1 leaves both
    ∷ numbers 9 (fast_covering 0 30 1 1 (map (child_of (face_cell 0)) (0 ∷ 1 ∷ []))) (face_cell 0 ∷ [])
    ∷ numbers 9 (fast_covering 1 30 1 1 (map (child_of (face_cell 0)) (0 ∷ 1 ∷ []))) (map (child_of (face_cell 0)) (0 ∷ 1 ∷ []))
    -- root of 2^−1074 is 2^−537: as values, and as patterns of bits
    ∷ float 10 (root binary64 (fin false 1 (negsuc 1073))) (fin false 1 (negsuc 536))
    ∷ numbers 10 (to_bits binary64 (root binary64 (of_bits binary64 1)) ∷ []) (0x1e60000000000000 ∷ [])
    ∷ []
