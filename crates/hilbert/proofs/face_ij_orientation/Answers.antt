use native.Mathlib.Omega.{arith}
use mathlib.Core.Path.{◌≡◌, ◌∙◌, ap, ap₂, subst}
use Prim.Native.Nat.{ℕ, ◌<◌, ◌+◌, ◌-◌, ◌*◌, ◌/◌, ◌^◌}
use lib.Bits.{bit_and, bit_xor, and_mask}
use Rattle.turns.specs.Turns.{Walk}
use Rattle.turns.specs.Table.{turns_word}
use Rattle.turns.proofs.Laws.{PackedWalk, packed_fits, packed_read}
use Rattle.hilbert.specs.declared.FaceIj.{FaceIj}
use Rattle.hilbert.specs.Curve.{walk, face_ij}
use Rattle.hilbert.proofs.Laws.{walk_in, orientation_is}
use Rattle.hilbert.proofs.Fours.{walk_fours, walk_fours_in, walk_by_fours, four_more}
use Rattle.hilbert.proofs.face_ij_orientation.Goals.{After-four_at}
use Rattle.hilbert.proofs.face_ij_orientation.Goals as goal

next : (c : After-four_at) → PackedWalk (walk_fours c.args.id (8 - (c.loop-k.k - 1)))
    (16 * c.loop-k.ij + bit_and (c.four_at.result / 2 ^ c.loop-k.row) 0xf0000000f)
    (bit_and (c.four_at.result / 2 ^ c.loop-k.row / 2 ^ 16) 12)
next c = four_more _ _ _ _ _ (omega arith) (omega arith) c.loop-k.invariant.1 (c.four_at.ensures ∙ ap turns_word c.four_positions.ensures)

next_fits : (c : After-four_at) → 16 * c.loop-k.ij + bit_and (c.four_at.result / 2 ^ c.loop-k.row) 0xf0000000f < 2 ^ 64
next_fits c = packed_fits _ _ _ _ (omega arith) (walk_fours_in c.args.id (8 - (c.loop-k.k - 1))) (next c)

same : (f i j o i' j' o' : ℕ) → i ≡ i' → j ≡ j' → o ≡ o' → ◌≡◌ {A = FaceIj} (record { face = f; i = i; j = j; orientation = o }) (record { face = f; i = i'; j = j'; orientation = o' })
same f i j o i' j' o' a b c = rw (a, b, c)

pub loop-k-init : goal.loop-k-init
unfolding walk_fours
loop-k-init c = (omega arith, record { places = omega arith; rows = omega (arith, and_mask (c.args.id / 2 ^ 61) 1) })

pub four_at-requires : goal.four_at-requires
four_at-requires c = omega (arith, c.four_positions.ensures)

pub overflow_shr-four : goal.overflow_shr-four
overflow_shr-four c = omega (arith, c.loop-k.invariant.1.rows, (walk_fours_in c.args.id (8 - c.loop-k.k)).row)

pub overflow_mul-ij : goal.overflow_mul-ij
overflow_mul-ij c = omega (arith, next_fits (goal.at.overflow_mul-ij c).After-four_at)

pub overflow_add-ij : goal.overflow_add-ij
overflow_add-ij c = omega (arith, next_fits (goal.at.overflow_add-ij c).After-four_at)

pub loop-k-preserved : goal.loop-k-preserved
loop-k-preserved c = (omega arith, next (goal.at.loop-k-preserved c).After-four_at)

pub swaps-requires : goal.swaps-requires
swaps-requires c = c.requires

pub returns : goal.returns
unfolding face_ij
returns c =
    let id = c.args.id in
    let u = c.requires in
    let z : c.loop-k.k ≡ 0 = omega arith in
    let e : walk_fours id (8 - c.loop-k.k) ≡ walk id 30 = ap (λ (k : ℕ). walk_fours id (8 - k)) z ∙ walk_by_fours id 7 (omega arith) in
    let r = packed_read 30 _ _ (walk id 30) (omega arith) (walk_in id 30) (subst (λ (w : Walk). PackedWalk w c.loop-k.ij c.loop-k.row) e c.loop-k.invariant.1) in
    same _ _ _ _ _ _ _ r.0 r.1 (ap₂ bit_xor r.2 c.swaps.ensures ∙ orientation_is id u.0 u.1 u.2)
