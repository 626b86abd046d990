use native.Mathlib.Omega.{arith}
use mathlib.Core.Path.{◌≡◌, ◌∙◌, ap}
use Prim.Native.Nat.{ℕ, ◌≤◌, ◌<◌, ◌+◌, ◌-◌, ◌*◌, ◌/◌, ◌%◌, ◌^◌}
use lib.Pow.{pow_mono}
use lib.Bits.{bit_and, and_mask}
use Rattle.cellid.proofs.Laws.{cell_lt}
use Rattle.positions.specs.Table.{steps_word}
use Rattle.positions.proofs.Laws.{PackedDigits}
use Rattle.hilbert.specs.Curve.{leaf_of}
use Rattle.hilbert.proofs.Laws.{leaf_cell}
use Rattle.hilbert.proofs.Fours.{digit_fours, digit_fours_in, leaf_by_fours, four_back}
use Rattle.hilbert.proofs.from_face_ij.Goals.{After-four_at, After-loop-k}
use Rattle.hilbert.proofs.from_face_ij.Goals as goal

next : (c : After-four_at) → let a = c.args in
    PackedDigits (digit_fours a.face a.i a.j (8 - (c.loop-k.k - 1)))
    (256 * c.loop-k.n + bit_and (c.four_at.result / 2 ^ c.loop-k.row) 255)
    (bit_and (c.four_at.result / 2 ^ c.loop-k.row / 2 ^ 32) 24)
next c =
    four_back _ _ _ _ _ _ _ (omega arith) (omega arith) c.loop-k.invariant.1
    (c.four_at.ensures ∙ ap (λ (x : ℕ). steps_word (x / 16) (x % 16)) c.four_bits.ensures)

next_fits : (c : After-four_at) → 256 * c.loop-k.n + bit_and (c.four_at.result / 2 ^ c.loop-k.row) 255 < 2 ^ 64
next_fits c =
    let a = c.args in
    let m = 8 - (c.loop-k.k - 1) in
    let g : 2 ^ (8 * m) ≤ 2 ^ 64 = pow_mono {i = 8 * m} {j = 64} (omega arith) in
    omega (arith, (next c).places, (digit_fours_in a.face a.i a.j m).n)

last_is : (c : After-loop-k) → let a = c.args in leaf_of a.face a.i a.j ≡ a.face * 2 ^ 61 + 2 * c.loop-k.n + 1
last_is c =
    let a = c.args in
    let z : c.loop-k.k ≡ 0 = omega arith in
    let e : c.loop-k.n ≡ (digit_fours a.face a.i a.j 8).n = c.loop-k.invariant.1.places ∙ ap (λ (k : ℕ). (digit_fours a.face a.i a.j (8 - k)).n) z in
    leaf_by_fours a.face a.i a.j c.requires.i_bound c.requires.j_bound ∙ omega (arith, e)

last_small : (c : After-loop-k) → let a = c.args in leaf_of a.face a.i a.j < 12 * 2 ^ 60
last_small c = cell_lt _ _ _ (leaf_cell _ _ _ c.requires.face_bound)

pub loop-k-init : goal.loop-k-init
unfolding digit_fours
loop-k-init c = (omega arith, record { places = omega arith; rows = omega (arith, and_mask c.args.face 1) })

pub four_at-requires : goal.four_at-requires
four_at-requires c = omega (arith, c.four_bits.ensures)

pub overflow_shr-four : goal.overflow_shr-four
overflow_shr-four c =
    let a = c.args in
    omega (arith, c.loop-k.invariant.1.rows, (digit_fours_in a.face a.i a.j (8 - c.loop-k.k)).row)

pub overflow_mul-n : goal.overflow_mul-n
overflow_mul-n c = omega (arith, next_fits (goal.at.overflow_mul-n c).After-four_at)

pub overflow_add-n : goal.overflow_add-n
overflow_add-n c = omega (arith, next_fits (goal.at.overflow_add-n c).After-four_at)

pub loop-k-preserved : goal.loop-k-preserved
loop-k-preserved c = (omega arith, next (goal.at.loop-k-preserved c).After-four_at)

pub overflow_mul-result : goal.overflow_mul-result
overflow_mul-result c = omega (arith, last_is (goal.at.overflow_mul-result c).After-loop-k, last_small (goal.at.overflow_mul-result c).After-loop-k, c.requires)

pub overflow_add-result : goal.overflow_add-result
overflow_add-result c = omega (arith, last_is (goal.at.overflow_add-result c).After-loop-k, last_small (goal.at.overflow_add-result c).After-loop-k, c.requires)

pub overflow_add-result-2 : goal.overflow_add-result-2
overflow_add-result-2 c = omega (arith, last_is (goal.at.overflow_add-result-2 c).After-loop-k, last_small (goal.at.overflow_add-result-2 c).After-loop-k, c.requires)

pub returns : goal.returns
returns c = rw (last_is (goal.at.returns c).After-loop-k) (omega (arith, c.requires))
