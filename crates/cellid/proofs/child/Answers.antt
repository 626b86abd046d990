use Rattle.std.proofs.Common.{ℕ, ◌+◌, ◌-◌, ◌*◌, ◌/◌, ◌^◌, ◌<◌, ◌≤◌, ap, mul-le-mul_right, arith}
use Rattle.cellid.specs.CellId.{child_of}
use Rattle.cellid.proofs.Laws.{low_le, low_room}
use Rattle.cellid.proofs.child.Goals as goal

-- the child's offset is less than twice the lowest bit
offset : (k low : ℕ) → k < 4 → (2 * k + 1) * (low / 4) ≤ 7 * (low / 4)
offset k low h = mul-le-mul_right (low / 4) (omega arith)

product : (k low : ℕ) → k < 4 → low ≤ 2 ^ 63 → (2 * k + 1) * (low / 4) < 2 ^ 64
product k low h b = omega (arith, offset k low h)

total : (id k low : ℕ) → k < 4 → id < 2 ^ 64 → low ≤ id → id + low ≤ 2 ^ 64 → (id - low) + (2 * k + 1) * (low / 4) < 2 ^ 64
total id k low h f l r = omega (arith, offset k low h)

pub overflow_sub-result : goal.overflow_sub-result
overflow_sub-result c = omega (arith, c.lsb-low.ensures, low_le c.args.id c.requires.id_nonzero c.ranges.id.fits)

pub overflow_mul-result-2 : goal.overflow_mul-result-2
overflow_mul-result-2 c =
    let r = low_room c.args.id c.requires.id_nonzero c.ranges.id.fits in
    let l = low_le c.args.id c.requires.id_nonzero c.ranges.id.fits in
    record { fits = product c.args.k c.lsb-low.result c.requires.k_bound (omega (arith, c.lsb-low.ensures, r, l)) }

pub overflow_add-result-2 : goal.overflow_add-result-2
overflow_add-result-2 c =
    let r = low_room c.args.id c.requires.id_nonzero c.ranges.id.fits in
    let l = low_le c.args.id c.requires.id_nonzero c.ranges.id.fits in
    record { fits = total c.args.id c.args.k c.lsb-low.result c.requires.k_bound c.ranges.id.fits (omega (arith, c.lsb-low.ensures, l)) (omega (arith, c.lsb-low.ensures, r)) }

pub returns : goal.returns
unfolding child_of
returns c = ap (λ (b : ℕ). (c.args.id - b) + (2 * c.args.k + 1) * (b / 4)) c.lsb-low.ensures
