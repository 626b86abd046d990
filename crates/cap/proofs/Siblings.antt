-- The four quarters of a cell together: nine corners decide as each quarter's four do, and the order of the curve. Assumes nothing.
use mathlib.Core.Path.{◌≡◌, refl, ap, ap₂, ◌∙◌}
use mathlib.Core.Logic.{inl, inr}
use mathlib.Core.Bool.{Bool, true, false, not, ◌&&◌, and-eq-true_iff}
use mathlib.Core.List.{List}
use Prim.Native.Nat.{ℕ, zero, suc, ◌-◌, ◌*◌, ◌/◌, ◌%◌, ◌^◌, ◌≤◌, ◌<◌}
use native.Mathlib.Nat.{mul-le-mul}
use native.Mathlib.Omega.{arith}
use lib.ListN.{get_or}
use lib.Dec.{eqb}
use borrow.Author.Tests.{eqb-true, eq-eqb}
use Rattle.cellid.specs.CellId as CellId
use Rattle.cellid.specs.CellId.{level_of, child_of, one}
use Rattle.cellid.proofs.Laws.{every, every_at, level_cell, one_le, true_or}
use Rattle.hilbert.specs.Curve.{ij_at}
use Rattle.hilbert.proofs.Laws.{ij_lt}
use Rattle.point.specs.declared.Point.{Point}
use Rattle.cell.specs.Cell.{cell_of, vertex_at, vertices_of}
use Rattle.cell.specs.Siblings.{quarters_of, quarter_at, half_of, shared_corner, corners_of, scales_of, scaled_of, cell_scales}
use Rattle.cell.specs.declared.Cell.{Cell}
use Rattle.cell.specs.declared.Cap.{Cap}
use Rattle.cell.specs.declared.Quarters.{Quarters}
use Rattle.cell.proofs.Siblings.{child_quarter, quarters_in}
use Rattle.sight.specs.Sight.{sight_of, passes, is_inside, four_bits, four_sights, sights_of}
use Rattle.sight.specs.declared.Sight.{Sight}
use Rattle.sight.specs.declared.Sights.{Sights}
use Rattle.sight.proofs.Laws.{pick_bit, sets_lt}
use Rattle.cap.proofs.Looks.{enough, not_enough, asked_less}
use Rattle.cap.specs.Cap.{cap_holds, complement_of, cap_intersects, cap_contains}
use Rattle.cap.specs.Looks.{sight_in, can_reach, asks_edges, quarter_sights, held_of, nowhere, held_nine, square_at, held_at, corner_at, turned}

-- ---- the scales of the lines, where edges may be asked

-- a product of four numbers up to 4 fits
pub product_le : (a b c d : ℕ) → a ≤ 4 → b ≤ 4 → c ≤ 4 → d ≤ 4 → (a * b ≤ 16) × (a * b * c ≤ 64) × (a * b * c * d ≤ 256)
product_le a b c d e f g h =
    let x : a * b ≤ 16 = mul-le-mul e f in
    let y : a * b * c ≤ 64 = mul-le-mul x g in
    (x, y, mul-le-mul y h)

-- one that is zero is seen
zero_seen : (a b c d : ℕ) → let r = eqb (a * b * c * d) 0 in (a ≡ 0 → r ≡ true) × (b ≡ 0 → r ≡ true) × (c ≡ 0 → r ≡ true) × (d ≡ 0 → r ≡ true)
zero_seen a b c d = (
  λ e. eq-eqb (a * b * c * d) 0 (rw e (omega arith)),
  λ e. eq-eqb (a * b * c * d) 0 (rw e (omega arith)),
  λ e. eq-eqb (a * b * c * d) 0 (rw e (omega arith)),
  λ e. eq-eqb (a * b * c * d) 0 (rw e (omega arith)),
)

-- so a quarter whose edges may be asked has its scales
abbrev Asked : Bool → Bool → Bool → ℕ → Type 0
Asked near beyond asked held = (held ≡ 0 → near ≡ true → asked ≡ true) × (held ≡ 4 → beyond ≡ true → asked ≡ true)

pub edges_asked : (near beyond asked : Bool) (a b c d : ℕ) → asked ≡ asks_edges near beyond a b c d → Asked near beyond asked a × Asked near beyond asked b × Asked near beyond asked c × Asked near beyond asked d
edges_asked near beyond asked a b c d e =
    let n = eqb (a * b * c * d) 0 in
    let f = eqb ((4 - a) * (4 - b) * (4 - c) * (4 - d)) 0 in
    let none : n ≡ true → near ≡ true → asked ≡ true = λ z t. e ∙ true_or (near && n) (beyond && f) (inl ((and-eq-true_iff near n).1 (t, z))) in
    let all : f ≡ true → beyond ≡ true → asked ≡ true = λ z t. e ∙ true_or (near && n) (beyond && f) (inr ((and-eq-true_iff beyond f).1 (t, z))) in
    let Z = zero_seen a b c d in
    let F = zero_seen (4 - a) (4 - b) (4 - c) (4 - d) in (
      (λ h. none (Z.0 h), λ h. all (F.0 (omega arith))),
      (λ h. none (Z.1 h), λ h. all (F.1 (omega arith))),
      (λ h. none (Z.2 h), λ h. all (F.2 (omega arith))),
      (λ h. none (Z.3 h), λ h. all (F.3 (omega arith))),
    )

-- ---- the corners of a quarter, and which of them lie in the cap, are read from the nine

square_is : (q : Quarters) (n : ℕ) → n < 4 → square_at (corners_of q) (corner_at n) ≡ vertices_of (quarter_at q n)
unfolding square_at corners_of vertices_of vertex_at quarter_at half_of
square_is q zero h = refl
square_is q (suc zero) h = refl
square_is q (suc (suc zero)) h = refl
square_is q (suc (suc (suc zero))) h = refl
square_is q (suc (suc (suc (suc n)))) h = absurd (omega arith)

held_is : (cap : Cap) (q : Quarters) (n : ℕ) → n < 4 → held_at (held_nine cap (corners_of q)) (corner_at n) ≡ held_of cap (quarter_at q n)
unfolding held_at held_nine held_of corners_of vertex_at quarter_at half_of
held_is cap q zero h = refl
held_is cap q (suc zero) h = refl
held_is cap q (suc (suc zero)) h = refl
held_is cap q (suc (suc (suc zero))) h = refl
held_is cap q (suc (suc (suc (suc n)))) h = absurd (omega arith)

scales_is : (q : Quarters) (n : ℕ) → n < 4 → (quarter_at (scaled_of q) n).uv ≡ cell_scales (quarter_at q n)
unfolding scaled_of scales_of cell_scales quarter_at half_of
scales_is q zero h = refl
scales_is q (suc zero) h = refl
scales_is q (suc (suc zero)) h = refl
scales_is q (suc (suc (suc zero))) h = refl
scales_is q (suc (suc (suc (suc n)))) h = absurd (omega arith)

pub held_le : (cap : Cap) (c : Cell) (r : ℕ) → r ≡ held_of cap c → r ≤ 4
unfolding held_of
held_le cap c r e = omega (arith, e, one_le (cap_holds cap (vertex_at c 0)), one_le (cap_holds cap (vertex_at c 1)), one_le (cap_holds cap (vertex_at c 2)), one_le (cap_holds cap (vertex_at c 3)))

-- what is read of the nine on the way
pub nine_le : (cap : Cap) (p : List Point) (h : List ℕ) (k : ℕ) → h ≡ held_nine cap p → get_or h k 0 ≤ 1
unfolding held_nine
nine_le cap p h k e = rw e (go k)
  where
    go : (k : ℕ) → get_or (held_nine cap p) k 0 ≤ 1
    go zero = one_le (cap_holds cap (get_or p 0 nowhere))
    go (suc zero) = one_le (cap_holds cap (get_or p 1 nowhere))
    go (suc (suc zero)) = one_le (cap_holds cap (get_or p 2 nowhere))
    go (suc (suc (suc zero))) = one_le (cap_holds cap (get_or p 3 nowhere))
    go (suc (suc (suc (suc zero)))) = one_le (cap_holds cap (get_or p 4 nowhere))
    go (suc (suc (suc (suc (suc zero))))) = one_le (cap_holds cap (get_or p 5 nowhere))
    go (suc (suc (suc (suc (suc (suc zero)))))) = one_le (cap_holds cap (get_or p 6 nowhere))
    go (suc (suc (suc (suc (suc (suc (suc zero))))))) = one_le (cap_holds cap (get_or p 7 nowhere))
    go (suc (suc (suc (suc (suc (suc (suc (suc zero)))))))) = one_le (cap_holds cap (get_or p 8 nowhere))
    go (suc (suc (suc (suc (suc (suc (suc (suc (suc k))))))))) = omega arith

pub held_read : (cap : Cap) (q : Quarters) (p : List Point) (h : List ℕ) (n r : ℕ) → n < 4 → p ≡ corners_of q → h ≡ held_nine cap p → r ≡ held_at h (corner_at n) → r ≡ held_of cap (quarter_at q n)
held_read cap q p h n r l e f g = g ∙ rw (f, e) (held_is cap q n l)

-- what a look at the n-th quarter asks for, from what was picked for it
pub part_asks : (cap : Cap) (near beyond asked : Bool) (q s : Quarters) (c m : Cell) (p v : List Point) (n held : ℕ) → n < 4 → near ≡ can_reach cap → beyond ≡ can_reach (complement_of cap) → q.face < 6 → p ≡ corners_of q
    → held ≡ held_of cap (quarter_at q n) → Asked near beyond asked held → (asked ≡ true → s ≡ scaled_of q)
    → m ≡ quarter_at s n → c ≡ quarter_at q n → v ≡ square_at p (corner_at n)
    → ((near ≡ can_reach cap) × (beyond ≡ can_reach (complement_of cap)) × (held ≡ held_of cap c)) × ((c.face < 6) × (v ≡ vertices_of c) × (held ≡ 0 → near ≡ true → m.uv ≡ cell_scales c) × (held ≡ 4 → beyond ≡ true → m.uv ≡ cell_scales c))
unfolding quarter_at
part_asks cap near beyond asked q s c m p v n held l en eb f e h A k em ec ev =
    let scaled : asked ≡ true → m.uv ≡ cell_scales (quarter_at q n) = λ t. rw (em, k t) (scales_is q n l) in
    rw ec ((en, eb, h), (f, rw (ev, e) (square_is q n l), λ z t. scaled (A.0 z t), λ z t. scaled (A.1 z t)))

-- ---- the corner that all four share

shared_at : (q : Quarters) (n : ℕ) → n < 4 → (k : ℕ) × (k < 4) × (vertex_at (quarter_at q n) k ≡ shared_corner q)
unfolding vertex_at quarter_at half_of
shared_at q zero h = (2, omega arith, refl)
shared_at q (suc zero) h = (1, omega arith, refl)
shared_at q (suc (suc zero)) h = (3, omega arith, refl)
shared_at q (suc (suc (suc zero))) h = (0, omega arith, refl)
shared_at q (suc (suc (suc (suc n)))) h = absurd (omega arith)

module _ (cap : Cap) (q : Quarters) (whole : Bool) where
  pub shared_enough : (not whole && cap_holds cap (shared_corner q)) ≡ true → record { passing = 15; inside = 0 } ≡ quarter_sights cap whole q
  unfolding four_sights one
  shared_enough h =
      let r = asked_less (cap_holds cap (shared_corner q)) whole h in
      let at : (n : ℕ) → n < 4 → sight_in cap false (quarter_at q n) ≡ Sight.Crossing = λ n l. (let m = shared_at q n l in enough cap (quarter_at q n) m.0 m.1 (ap (cap_holds cap) m.2 ∙ r.0)) in
      rw (r.1, at 0 (omega arith), at 1 (omega arith), at 2 (omega arith), at 3 (omega arith))

  pub shared_not : (not whole && cap_holds cap (shared_corner q)) ≡ false → quarter_sights cap true q ≡ quarter_sights cap whole q
  shared_not h =
      let at : (n : ℕ) → n < 4 → sight_in cap true (quarter_at q n) ≡ sight_in cap whole (quarter_at q n) = λ n l. (let m = shared_at q n l in not_enough cap (quarter_at q n) m.0 whole m.1 (rw m.2 h)) in
      rw (at 0 (omega arith), at 1 (omega arith), at 2 (omega arith), at 3 (omega arith))

-- ---- the order of the curve

turned_is : (f : ℕ → ℕ) → ((n : ℕ) → f n ≤ 1) → (row : ℕ) → row < 4 → turned row (four_bits (f 0) (f 1) (f 2) (f 3)) ≡ four_bits (f (ij_at row 0)) (f (ij_at row 1)) (f (ij_at row 2)) (f (ij_at row 3))
unfolding turned
turned_is f h row g =
    rw (pick_bit f h (ij_at row 0) (ij_lt row 0 g (omega arith)), pick_bit f h (ij_at row 1) (ij_lt row 1 g (omega arith)), pick_bit f h (ij_at row 2) (ij_lt row 2 g (omega arith)), pick_bit f h (ij_at row 3) (ij_lt row 3 g (omega arith)))

-- four cells by a test
abbrev set_by : (Cell → Bool) → (ℕ → Cell) → ℕ
set_by test f = four_bits (one (test (f 0))) (one (test (f 1))) (one (test (f 2))) (one (test (f 3)))

-- a set of quarters is, turned, the set of children
set_turned : (test : Cell → Bool) (id : ℕ) → CellId.Cell id → level_of id < 30
    → turned (quarters_of id).orientation (set_by test (quarter_at (quarters_of id))) ≡ set_by test (λ k. cell_of (child_of id k))
set_turned test id (L, p, c) h =
    let l : L < 30 = omega (arith, level_cell id L p c) in
    turned_is (λ n. one (test (quarter_at (quarters_of id) n))) (λ n. one_le (test (quarter_at (quarters_of id) n))) (quarters_of id).orientation (quarters_in id (L, p, c)).1
    ∙ rw (child_quarter 0 c l (omega arith), child_quarter 1 c l (omega arith), child_quarter 2 c l (omega arith), child_quarter 3 c l (omega arith))

pub sights_turned : (cap : Cap) (whole : Bool) (id : ℕ) (q : Quarters) (l r : Sights) → CellId.Cell id → level_of id < 30 → q ≡ quarters_of id → l ≡ quarter_sights cap whole q
    → r.passing ≡ turned q.orientation l.passing → r.inside ≡ turned q.orientation l.inside → r ≡ sights_of (sight_of (cap_intersects cap) (cap_contains cap) whole) id
unfolding sights_of sight_of sight_in four_sights cap_intersects cap_contains
sights_turned cap whole id q l r c h e f ep ei =
    ap₂ (λ (p i : ℕ). record { passing = p; inside = i })
    (ep ∙ rw (f, e) (set_turned (λ x. passes (sight_in cap whole x)) id c h))
    (ei ∙ rw (f, e) (set_turned (λ x. is_inside (sight_in cap whole x)) id c h))

pub in_row : (cap : Cap) (whole : Bool) (id : ℕ) (q : Quarters) (l : Sights) → CellId.Cell id → q ≡ quarters_of id → l ≡ quarter_sights cap whole q → (q.orientation < 4) × (l.passing < 16) × (l.inside < 16)
in_row cap whole id q l c e f =
    let s = sets_lt (sight_in cap whole (quarter_at q 0)) (sight_in cap whole (quarter_at q 1)) (sight_in cap whole (quarter_at q 2)) (sight_in cap whole (quarter_at q 3)) in
    (rw e (quarters_in id c).1, rw f s.0, rw f s.1)

-- ---- the tables of the four rows, each a number of sixteen digits of four bits

pub row_0 : (set : ℕ) → set < 16 → 0xfedc7654ba983210 / 2 ^ (4 * set) % 16 ≡ turned 0 set
unfolding every turned ij_at
row_0 set h = eqb-true _ _ (every_at 16 (λ s. eqb (0xfedc7654ba983210 / 2 ^ (4 * s) % 16) (turned 0 s)) refl set h)

pub row_1 : (set : ℕ) → set < 16 → 0xfe76dc54ba329810 / 2 ^ (4 * set) % 16 ≡ turned 1 set
unfolding every turned ij_at
row_1 set h = eqb-true _ _ (every_at 16 (λ s. eqb (0xfe76dc54ba329810 / 2 ^ (4 * s) % 16) (turned 1 s)) refl set h)

pub row_2 : (set : ℕ) → set < 16 → 0xfb73d951ea62c840 / 2 ^ (4 * set) % 16 ≡ turned 2 set
unfolding every turned ij_at
row_2 set h = eqb-true _ _ (every_at 16 (λ s. eqb (0xfb73d951ea62c840 / 2 ^ (4 * s) % 16) (turned 2 s)) refl set h)

pub row_3 : (set : ℕ) → set < 16 → 0xfbd97351eac86240 / 2 ^ (4 * set) % 16 ≡ turned 3 set
unfolding every turned ij_at
row_3 set h = eqb-true _ _ (every_at 16 (λ s. eqb (0xfbd97351eac86240 / 2 ^ (4 * s) % 16) (turned 3 s)) refl set h)
