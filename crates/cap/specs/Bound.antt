-- The cells that bound a cap, cap.rs and metric.rs: "the level it picks becomes 30 thresholds on the squared chord radius"; "Level 0 gives the six faces;
-- otherwise the vertex neighbours at level − 1". Definitions only.
use Rattle.std.specs.Prelude.{ℕ, zero, suc, ◌-◌, Bool, true, cond, ◌&&◌, List, [], ◌∷◌, ◌++◌, length, replicate, Float}
use Rattle.std.specs.Float.Ieee.{lt, le}
use Rattle.cellid.specs.CellId.{six_faces}
use Rattle.point.specs.Floats.{bits}
use Rattle.point.specs.declared.Point.{Point}
use Rattle.neighbors.specs.Neighbors.{leaf_of_point, vertex_neighbors}
use Rattle.cell.specs.declared.Cap.{Cap}
use Rattle.cap.specs.declared.Bound.{Bound}

-- the largest squared chord radius at which the Rust still takes level 1, 2, .., 30, found by running it
unfoldable pub thresholds : List Float
thresholds =
    bits 0x3fcb_ebec_ca21_6d56 ∷
    bits 0x3fac_5020_d273_8de9 ∷
    bits 0x3f8c_695a_8bc3_592b ∷
    bits 0x3f6c_6fab_c857_d59b ∷
    bits 0x3f4c_7140_446c_37b7 ∷
    bits 0x3f2c_71a5_6640_715e ∷
    bits 0x3f0c_71be_aee2_728d ∷
    bits 0x3eec_71c5_010d_c208 ∷
    bits 0x3ecc_71c6_9598_c2d9 ∷
    bits 0x3eac_71c6_fabb_85de ∷
    bits 0x3e8c_71c7_1404_36cc ∷
    bits 0x3e6c_71c7_1a56_6309 ∷
    bits 0x3e4c_71c7_1bea_ee1a ∷
    bits 0x3e2c_71c7_1c50_10de ∷
    bits 0x3e0c_71c7_1c69_598d ∷
    bits 0x3dec_71c7_1c6f_abbb ∷
    bits 0x3dcc_71c7_1c71_4045 ∷
    bits 0x3dac_71c7_1c71_a568 ∷
    bits 0x3d8c_71c7_1c71_beb1 ∷
    bits 0x3d6c_71c7_1c71_c503 ∷
    bits 0x3d4c_71c7_1c71_c697 ∷
    bits 0x3d2c_71c7_1c71_c6fd ∷
    bits 0x3d0c_71c7_1c71_c717 ∷
    bits 0x3cec_71c7_1c71_c71d ∷
    bits 0x3ccc_71c7_1c71_c71f ∷
    bits 0x3cac_71c7_1c71_c71f ∷
    bits 0x3c8c_71c7_1c71_c71f ∷
    bits 0x3c6c_71c7_1c71_c71f ∷
    bits 0x3c4c_71c7_1c71_c71f ∷
    bits 0x3c2c_71c7_1c71_c71f ∷ []

-- how many of a falling list's thresholds the radius is at most
unfoldable pub level_in : List Float → Float → ℕ
level_in [] r = 0
level_in (t ∷ ts) r = cond (le r t) (suc (level_in ts r)) 0

-- the level of the bound, 0 to 30: a radius that is no number, and one above all thresholds, have level 0, and an empty cap level 30
unfoldable pub level_for : Float → ℕ
level_for r = level_in thresholds r

-- each is below the one before
abbrev pub falling : List Float → Bool
falling [] = true
falling (a ∷ []) = true
falling (a ∷ b ∷ l) = lt b a && falling (b ∷ l)

unfoldable pub bound_at : ℕ → Point → List ℕ
bound_at zero center = six_faces
bound_at (suc n) center = vertex_neighbors (leaf_of_point center) n

-- the ids of the bound, in the Rust's order
unfoldable pub union_bound : Cap → List ℕ
union_bound c = bound_at (level_for c.radius) c.center

-- a list of at most six with its length, zeros after
abbrev pub in_six : List ℕ → Bound
in_six l = record { ids = l ++ replicate (6 - length l) 0; count = length l }
