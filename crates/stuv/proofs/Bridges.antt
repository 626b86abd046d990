-- What the projection's definitions mean: a face and a place of it are read back from the place's vector, a line's normal is at right angles to its places and
-- points to those on one side of it, and the maps between (s, t) and (u, v) take ends to ends and the middle to the middle.
use mathlib.Core.Path.{◌≡◌, refl, ◌∙◌}
use mathlib.Core.Bool.{Bool, true, false, cond}
use Prim.Native.Nat.{ℕ, zero, suc, ◌*◌, ◌<◌}
use native.Mathlib.Omega.{arith}
use lib.Dec.{T}
use lib.Ieee.{Float, nan, inf, fin, binary64, up, down, size, units, odd, round, sum, add, sub, mul, div, neg, lt, le, eq, fits, of_bits}
use lib.Ieee.Fits.{neg-fits}
use lib.Ieee.Scale.{finite}
use borrow.Author.Tests.{ltb-true, le-ltb}
use Rattle.root.specs.Root.{root}
use Rattle.point.specs.Floats.{◌⊕◌, ◌⊖◌, ◌⊗◌, zero_f, half_f, one_f, abs_of}
use Rattle.point.specs.Vector.{dot_of, mul_of}
use Rattle.point.proofs.Laws.{never}
use Rattle.point.proofs.Exact.{times_minus}
use Rattle.point.proofs.Numbers.{Number, nought, one_fits, neg_neg, neg_number, over_one, over_minus, times_one, one_times, minus_times}
use Rattle.point.proofs.Numbers.{nought_times, zero_is, zero_minus, sum_comm, zero_last, zero_between, zero_first, minus_self}
use Rattle.point.proofs.Differences.{above_difference, equal_above}
use Rattle.stuv.specs.Projection.{st_to_uv, uv_to_st, axis_of, along_axis, face_toward, uv_at, face_uv_to_xyz, xyz_to_face_uv, behind, face_xyz_to_uv, u_norm, v_norm}
use Rattle.std.specs.Prelude.{Some}

-- ---- from a face's place to a vector and back

-- the place (u, v) of a face is where the line through its vector meets the face, whatever values of the format u and v are
pub place_back : (face : ℕ) (u v : Float) → T (fits binary64 u) → T (fits binary64 v) → uv_at face (face_uv_to_xyz face u v) ≡ record { u = u; v = v }
unfolding uv_at face_uv_to_xyz
place_back zero u v p q = rw (over_one u p, over_one v q)
place_back (suc zero) u v p q = rw (neg_neg u, over_one u p, over_one v q)
place_back (suc (suc zero)) u v p q = rw (neg_neg u, neg_neg v, over_one u p, over_one v q)
place_back (suc (suc (suc zero))) u v p q = rw (over_minus u p, over_minus v q)
place_back (suc (suc (suc (suc zero)))) u v p q = rw (over_minus u p, over_minus v q)
place_back (suc (suc (suc (suc (suc n))))) u v p q = rw (over_minus u p, over_minus v q)

-- no place of a face is behind it
before : (face : ℕ) (u v : Float) → behind face (face_uv_to_xyz face u v) ≡ false
unfolding behind face_uv_to_xyz le lt eq neg of_bits
before zero u v = refl
before (suc zero) u v = refl
before (suc (suc zero)) u v = refl
before (suc (suc (suc zero))) u v = refl
before (suc (suc (suc (suc zero)))) u v = refl
before (suc (suc (suc (suc (suc n))))) u v = refl

-- so it is the place that is found on that face
pub side_back : (face : ℕ) (u v : Float) → T (fits binary64 u) → T (fits binary64 v)
    → face_xyz_to_uv face (face_uv_to_xyz face u v) ≡ Some (record { u = u; v = v })
unfolding face_xyz_to_uv
side_back face u v p q = rw (before face u v, place_back face u v p q)

-- ---- the face itself

abs_neg : (x : Float) → abs_of (neg x) ≡ abs_of x
unfolding abs_of neg
abs_neg nan = refl
abs_neg (inf s) = refl
abs_neg (fin s m e) = refl

one_size : abs_of one_f ≡ one_f
unfolding abs_of of_bits
one_size = refl

one_plus : lt one_f zero_f ≡ false
unfolding lt of_bits
one_plus = refl

one_minus : lt (neg one_f) zero_f ≡ true
unfolding lt neg of_bits
one_minus = refl

-- a size below 1 is not above it
not_over : (x : Float) → lt x one_f ≡ true → lt one_f x ≡ false
unfolding lt of_bits
not_over nan h = refl
not_over (inf true) h = refl
not_over (inf false) h = never h
not_over (fin true m e) h = refl
not_over (fin false m e) h = le-ltb (1 * down e) (m * up e * 1) (omega (arith, ltb-true (m * up e * 1) (1 * down e) h))

either_way : (a : Bool) (n : ℕ) → cond a n n ≡ n
either_way true n = refl
either_way false n = refl

-- a place of a face, less than 1 from its middle in u and in v, has a vector that points to that face
pub face_back : (face : ℕ) (u v : Float) → face < 6 → lt (abs_of u) one_f ≡ true → lt (abs_of v) one_f ≡ true → face_toward (face_uv_to_xyz face u v) ≡ face
unfolding face_toward axis_of along_axis face_uv_to_xyz
face_back zero u v h p q = rw (one_size, not_over (abs_of u) p, not_over (abs_of v) q, one_plus)
face_back (suc zero) u v h p q = rw (abs_neg u, one_size, p, not_over (abs_of v) q, one_plus)
face_back (suc (suc zero)) u v h p q = rw (abs_neg u, abs_neg v, one_size, p, q, either_way (lt (abs_of u) (abs_of v)) 2, one_plus)
face_back (suc (suc (suc zero))) u v h p q = rw (abs_neg one_f, abs_neg u, abs_neg v, one_size, not_over (abs_of u) p, not_over (abs_of v) q, one_minus)
face_back (suc (suc (suc (suc zero)))) u v h p q = rw (abs_neg one_f, abs_neg u, one_size, q, not_over (abs_of u) p, one_minus)
face_back (suc (suc (suc (suc (suc zero))))) u v h p q = rw (abs_neg one_f, one_size, p, q, either_way (lt (abs_of v) (abs_of u)) 2, one_minus)
face_back (suc (suc (suc (suc (suc (suc n)))))) u v h p q = absurd (omega arith)

-- so the face and the place are both read back
pub xyz_back : (face : ℕ) (u v : Float) → face < 6 → lt (abs_of u) one_f ≡ true → lt (abs_of v) one_f ≡ true → T (fits binary64 u) → T (fits binary64 v)
    → xyz_to_face_uv (face_uv_to_xyz face u v) ≡ record { face = face; uv = record { u = u; v = v } }
unfolding xyz_to_face_uv
xyz_back face u v h p q f g = rw (face_back face u v h p q, place_back face u v f g)

-- ---- the side of a line

difference : (x y : Float) → x ⊖ y ≡ x ⊕ neg y
unfolding sub
difference x y = refl

difference_turned : (x y : Float) → x ⊖ y ≡ neg y ⊕ x
difference_turned x y = difference x y ∙ sum_comm x (neg y)

-- the difference x - y as a sum of three, one of them a zero
module _ (x y : Float) (p : Number x) (q : Number y) (t : Bool) where
  abbrev Difference : Float → Type 0
  Difference s = eq s (x ⊖ y) ≡ true

  x_y_0 : Difference (x ⊕ neg y ⊕ nought t)
  x_y_0 = rw (difference x y) (zero_last x (neg y) t p (neg_number y q))

  y_x_0 : Difference (neg y ⊕ x ⊕ nought t)
  y_x_0 = rw (difference_turned x y) (zero_last (neg y) x t (neg_number y q) p)

  x_0_y : Difference (x ⊕ nought t ⊕ neg y)
  x_0_y = rw (difference x y) (zero_between x (neg y) t p (neg_number y q))

  y_0_x : Difference (neg y ⊕ nought t ⊕ x)
  y_0_x = rw (difference_turned x y) (zero_between (neg y) x t (neg_number y q) p)

  0_x_y : Difference (nought t ⊕ x ⊕ neg y)
  0_x_y = rw (difference x y) (zero_first x (neg y) t p (neg_number y q))

  0_y_x : Difference (nought t ⊕ neg y ⊕ x)
  0_y_x = rw (difference_turned x y) (zero_first (neg y) x t (neg_number y q) p)

neg_minus : (x : Float) → T (fits binary64 x) → neg x ⊗ neg one_f ≡ x
neg_minus x h = times_minus (neg x) (neg-fits binary64 x h) ∙ neg_neg x

neg_one : (x : Float) → T (fits binary64 x) → neg x ⊗ one_f ≡ neg x
neg_one x h = times_one (neg x) (neg-fits binary64 x h)

one_neg : (x : Float) → T (fits binary64 x) → one_f ⊗ neg x ≡ neg x
one_neg x h = one_times (neg x) (neg-fits binary64 x h)

minus_neg : (x : Float) → T (fits binary64 x) → neg one_f ⊗ neg x ≡ x
minus_neg x h = minus_times (neg x) (neg-fits binary64 x h) ∙ neg_neg x

one_minus_one : one_f ⊗ neg one_f ≡ neg one_f
one_minus_one = times_minus one_f one_fits

minus_one : neg one_f ⊗ neg one_f ≡ one_f
minus_one = neg_minus one_f one_fits

neg_finite : (x : Float) → T (finite x) → T (finite (neg x))
unfolding neg
neg_finite nan h = h
neg_finite (inf s) h = h
neg_finite (fin s m e) h = h

-- a place's vector times the normal of the line of u is that u less the place's own
u_side : (face : ℕ) (u w v : Float) → Number u → Number w → T (finite v) → eq (dot_of (u_norm face u) (face_uv_to_xyz face w v)) (u ⊖ w) ≡ true
unfolding dot_of u_norm face_uv_to_xyz
u_side zero u w v p q r =
    let z = nought_times false v r in
    rw (zero_is, z.1, times_one u p.1, minus_times w q.1) (x_y_0 u w p q z.0)
u_side (suc zero) u w v p q r =
    let z = nought_times false v r in
    rw (zero_is, z.1, one_neg w q.1, times_one u p.1) (y_x_0 u w p q z.0)
u_side (suc (suc zero)) u w v p q r =
    let z = nought_times false (neg v) (neg_finite v r) in
    rw (zero_is, z.1, one_neg w q.1, times_one u p.1) (y_0_x u w p q z.0)
u_side (suc (suc (suc zero))) u w v p q r =
    let z = nought_times false (neg v) (neg_finite v r) in
    rw (zero_is, z.1, neg_minus u p.1, one_neg w q.1) (x_0_y u w p q z.0)
u_side (suc (suc (suc (suc zero)))) u w v p q r =
    let z = nought_times false v r in
    rw (zero_is, z.1, neg_minus u p.1, one_neg w q.1) (0_x_y u w p q z.0)
u_side (suc (suc (suc (suc (suc n))))) u w v p q r =
    let z = nought_times false v r in
    rw (zero_is, z.1, minus_times w q.1, neg_minus u p.1) (0_y_x u w p q z.0)

-- a place's vector times the normal of the line of v is the place's own v less that one
v_side : (face : ℕ) (v u w : Float) → Number v → T (finite u) → Number w → eq (dot_of (v_norm face v) (face_uv_to_xyz face u w)) (w ⊖ v) ≡ true
unfolding dot_of v_norm face_uv_to_xyz
v_side zero v u w p r q =
    let z = nought_times false u r in
    rw (zero_is, z.1, neg_one v p.1, one_times w q.1) (y_0_x w v q p z.0)
v_side (suc zero) v u w p r q =
    let z = nought_times false (neg u) (neg_finite u r) in
    rw (zero_is, z.1, neg_one v p.1, one_times w q.1) (0_y_x w v q p z.0)
v_side (suc (suc zero)) v u w p r q =
    let z = nought_times false (neg u) (neg_finite u r) in
    rw (zero_is, z.1, minus_neg w q.1, neg_one v p.1) (0_x_y w v q p z.0)
v_side (suc (suc (suc zero))) v u w p r q =
    let z = nought_times false (neg u) (neg_finite u r) in
    rw (zero_is, z.1, times_minus v p.1, minus_neg w q.1) (y_x_0 w v q p z.0)
v_side (suc (suc (suc (suc zero)))) v u w p r q =
    let z = nought_times false (neg u) (neg_finite u r) in
    rw (zero_is, z.1, one_times w q.1, times_minus v p.1) (x_y_0 w v q p z.0)
v_side (suc (suc (suc (suc (suc n))))) v u w p r q =
    let z = nought_times false u r in
    rw (zero_is, z.1, one_times w q.1, times_minus v p.1) (x_0_y w v q p z.0)

-- with the opposite normal of a line of u the difference is turned round
pub u_back_side : (face : ℕ) (u w v : Float) → Number u → Number w → T (finite v)
    → eq (dot_of (mul_of (u_norm face u) (neg one_f)) (face_uv_to_xyz face w v)) (w ⊖ u) ≡ true
unfolding dot_of mul_of u_norm face_uv_to_xyz
u_back_side zero u w v p q r =
    let z = nought_times true v r in
    rw (zero_minus, z.1, times_minus u p.1, minus_one, neg_one u p.1, one_times w q.1) (y_x_0 w u q p z.0)
u_back_side (suc zero) u w v p q r =
    let z = nought_times true v r in
    rw (zero_minus, z.1, one_minus_one, times_minus u p.1, minus_neg w q.1, neg_one u p.1) (x_y_0 w u q p z.0)
u_back_side (suc (suc zero)) u w v p q r =
    let z = nought_times true (neg v) (neg_finite v r) in
    rw (zero_minus, z.1, one_minus_one, times_minus u p.1, minus_neg w q.1, neg_one u p.1) (x_0_y w u q p z.0)
u_back_side (suc (suc (suc zero))) u w v p q r =
    let z = nought_times true (neg v) (neg_finite v r) in
    rw (zero_minus, z.1, neg_minus u p.1, one_minus_one, times_minus u p.1, minus_neg w q.1) (y_0_x w u q p z.0)
u_back_side (suc (suc (suc (suc zero)))) u w v p q r =
    let z = nought_times true v r in
    rw (zero_minus, z.1, neg_minus u p.1, one_minus_one, times_minus u p.1, minus_neg w q.1) (0_y_x w u q p z.0)
u_back_side (suc (suc (suc (suc (suc n))))) u w v p q r =
    let z = nought_times true v r in
    rw (zero_minus, z.1, neg_minus u p.1, minus_one, one_times w q.1, times_minus u p.1) (0_x_y w u q p z.0)

-- and for v
pub v_back_side : (face : ℕ) (v u w : Float) → Number v → T (finite u) → Number w
    → eq (dot_of (mul_of (v_norm face v) (neg one_f)) (face_uv_to_xyz face u w)) (v ⊖ w) ≡ true
unfolding dot_of mul_of v_norm face_uv_to_xyz
v_back_side zero v u w p r q =
    let z = nought_times true u r in
    rw (zero_minus, z.1, neg_minus v p.1, one_minus_one, times_one v p.1, minus_times w q.1) (x_0_y v w p q z.0)
v_back_side (suc zero) v u w p r q =
    let z = nought_times true (neg u) (neg_finite u r) in
    rw (zero_minus, z.1, neg_minus v p.1, one_minus_one, times_one v p.1, minus_times w q.1) (0_x_y v w p q z.0)
v_back_side (suc (suc zero)) v u w p r q =
    let z = nought_times true (neg u) (neg_finite u r) in
    rw (zero_minus, z.1, minus_one, neg_minus v p.1, one_neg w q.1, times_one v p.1) (0_y_x v w p q z.0)
v_back_side (suc (suc (suc zero))) v u w p r q =
    let z = nought_times true (neg u) (neg_finite u r) in
    rw (zero_minus, z.1, times_minus v p.1, minus_one, neg_minus v p.1, one_neg w q.1) (x_y_0 v w p q z.0)
v_back_side (suc (suc (suc (suc zero)))) v u w p r q =
    let z = nought_times true (neg u) (neg_finite u r) in
    rw (zero_minus, z.1, one_minus_one, times_minus v p.1, minus_times w q.1, neg_minus v p.1) (y_x_0 v w p q z.0)
v_back_side (suc (suc (suc (suc (suc n))))) v u w p r q =
    let z = nought_times true u r in
    rw (zero_minus, z.1, one_minus_one, times_minus v p.1, minus_times w q.1, neg_minus v p.1) (y_0_x v w p q z.0)

-- so the normal of a line of u is at right angles to the line's places: the product is a zero
pub u_normal : (face : ℕ) (u v : Float) → Number u → T (finite v) → eq (dot_of (u_norm face u) (face_uv_to_xyz face u v)) zero_f ≡ true
u_normal face u v p r = rw (minus_self u p.0) at (u_side face u u v p p r)

-- and the normal of a line of v likewise
pub v_normal : (face : ℕ) (u v : Float) → T (finite u) → Number v → eq (dot_of (v_norm face v) (face_uv_to_xyz face u v)) zero_f ≡ true
v_normal face u v r p = rw (minus_self v p.0) at (v_side face v u v p r p)

-- the normal of the line of u points to the places with a smaller u
pub u_inside : (face : ℕ) (u w v : Float) → Number u → Number w → T (finite v) → lt zero_f (dot_of (u_norm face u) (face_uv_to_xyz face w v)) ≡ lt w u
u_inside face u w v p q r = equal_above (dot_of (u_norm face u) (face_uv_to_xyz face w v)) (u ⊖ w) (u_side face u w v p q r) ∙ above_difference u w p q

-- the normal of the line of v points to the places with a larger v
pub v_inside : (face : ℕ) (v u w : Float) → Number v → T (finite u) → Number w → lt zero_f (dot_of (v_norm face v) (face_uv_to_xyz face u w)) ≡ lt v w
v_inside face v u w p r q = equal_above (dot_of (v_norm face v) (face_uv_to_xyz face u w)) (w ⊖ v) (v_side face v u w p r q) ∙ above_difference w v q p

-- the opposite of the normal of a line of u points to the places with a larger u
pub u_back_inside : (face : ℕ) (u w v : Float) → Number u → Number w → T (finite v)
    → lt zero_f (dot_of (mul_of (u_norm face u) (neg one_f)) (face_uv_to_xyz face w v)) ≡ lt u w
u_back_inside face u w v p q r =
    equal_above (dot_of (mul_of (u_norm face u) (neg one_f)) (face_uv_to_xyz face w v)) (w ⊖ u) (u_back_side face u w v p q r) ∙ above_difference w u q p

-- the opposite of the normal of a line of v points to the places with a smaller v
pub v_back_inside : (face : ℕ) (v u w : Float) → Number v → T (finite u) → Number w
    → lt zero_f (dot_of (mul_of (v_norm face v) (neg one_f)) (face_uv_to_xyz face u w)) ≡ lt w v
v_back_inside face v u w p r q =
    equal_above (dot_of (mul_of (v_norm face v) (neg one_f)) (face_uv_to_xyz face u w)) (v ⊖ w) (v_back_side face v u w p r q) ∙ above_difference v w p q

-- ---- the ends and the middle of a face's side: 0, 1/2 and 1 in (s, t) are -1, 0 and 1 in (u, v)

pub st_first : st_to_uv zero_f ≡ neg one_f
unfolding st_to_uv le lt eq of_bits neg div mul sub add sum round units odd size
st_first = refl

pub st_middle : st_to_uv half_f ≡ zero_f
unfolding st_to_uv le lt eq of_bits neg div mul sub add sum round units odd size
st_middle = refl

pub st_last : st_to_uv one_f ≡ one_f
unfolding st_to_uv le lt eq of_bits neg div mul sub add sum round units odd size
st_last = refl

pub uv_first : uv_to_st (neg one_f) ≡ zero_f
unfolding uv_to_st root le lt eq of_bits neg mul sub add sum round units odd size
uv_first = refl

pub uv_middle : uv_to_st zero_f ≡ half_f
unfolding uv_to_st root le lt eq of_bits neg mul sub add sum round units odd size
uv_middle = refl

pub uv_last : uv_to_st one_f ≡ one_f
unfolding uv_to_st root le lt eq of_bits neg mul sub add sum round units odd size
uv_last = refl
