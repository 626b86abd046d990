-- The quadratic map keeps the order of what lies between 0 and 1: each of its two halves rises, and they meet at 1/2.
use mathlib.Core.Path.{◌≡◌, refl, subst}
use mathlib.Core.Bool.{Bool, true, false, cond}
use denote.Floats.{passes}
use lib.Dec.{T, lit≤}
use lib.Ieee.{Float, size, units, odd, round, sum, add, sub, mul, div, neg, lt, le, eq, of_bits}
use Rattle.point.specs.Floats.{◌⊖◌, ◌⊗◌, ◌⊘◌, half_f, one_f, three_f, four_f}
use Rattle.point.proofs.Sizes.{Within, within_finite, within_more, le_within, mul_within}
use Rattle.point.proofs.Order.{le_trans, le_self}
use Rattle.point.proofs.Rising.{Size, or_less, sub_order, sub_plus, mul_order, mul_plus, factor_order}
use Rattle.stuv.specs.Projection.{st_to_uv}
use Rattle.stuv.proofs.Finite.{four_within, upper_within, rest_within, lower_within}

-- s lies between 0 and 1
pub record InUnit (s : Float) : Type 0 where
  pub size : Size s
  pub most : T (le s one_f)

one_size : Size one_f
unfolding of_bits
one_size = (tt, refl)

four_size : Size four_f
unfolding of_bits
four_size = (tt, refl)

third_size : Size (one_f ⊘ three_f)
unfolding div of_bits round units odd size
third_size = (tt, refl)

half_in : InUnit half_f
unfolding le lt eq of_bits
half_in = record { size = (tt, refl); most = tt }

within : (s : Float) → InUnit s → Within 1 s
unfolding of_bits
within s h = le_within 1 s one_f h.size.1 h.most (refl, refl)

-- ---- the two halves

abbrev upper_half : Float → Float
upper_half s = one_f ⊘ three_f ⊗ (four_f ⊗ s ⊗ s ⊖ one_f)

abbrev lower_half : Float → Float
lower_half s = one_f ⊘ three_f ⊗ (one_f ⊖ four_f ⊗ (one_f ⊖ s) ⊗ (one_f ⊖ s))

-- four times x, and that times x again, for an x within 2 of zero
four_times : (x : Float) → Size x → Within 2 x → Size (four_f ⊗ x)
four_times x p h = (within_finite 8 (four_f ⊗ x) (mul_within 4 2 four_f x (lit≤ tt) four_within h), mul_plus four_f x four_size p)

square : (x : Float) → Size x → Within 2 x → Size (four_f ⊗ x ⊗ x)
square x p h =
    let q = four_times x p h in
    let w : Within 8 (four_f ⊗ x) = mul_within 4 2 four_f x (lit≤ tt) four_within h in
    (within_finite 16 (four_f ⊗ x ⊗ x) (mul_within 8 2 (four_f ⊗ x) x (lit≤ tt) w h), mul_plus (four_f ⊗ x) x q p)

square_order : (x y : Float) → Size x → Size y → Within 2 x → Within 2 y → T (le x y) → T (le (four_f ⊗ x ⊗ x) (four_f ⊗ y ⊗ y))
square_order x y p q a b h =
    mul_order (four_f ⊗ x) x (four_f ⊗ y) y (four_times x p a) p (four_times y q b) q
    (mul_order four_f x four_f y four_size p four_size q (le_self four_f four_size.0) h) h

more : (x : Float) → Within 1 x → Within 2 x
more x h = within_more 1 2 x (lit≤ tt) h

module _ (s t : Float) (p : InUnit s) (q : InUnit t) (h : T (le s t)) where
  upper_order : T (le (upper_half s) (upper_half t))
  upper_order =
      let a = within s p in
      let b = within t q in
      factor_order (one_f ⊘ three_f) (four_f ⊗ s ⊗ s ⊖ one_f) (four_f ⊗ t ⊗ t ⊖ one_f) third_size
      (within_finite 5 (four_f ⊗ s ⊗ s ⊖ one_f) (upper_within s a)) (within_finite 5 (four_f ⊗ t ⊗ t ⊖ one_f) (upper_within t b))
      (sub_order (four_f ⊗ s ⊗ s) one_f (four_f ⊗ t ⊗ t) one_f (square s p.size (more s a)) one_size (square t q.size (more t b)) one_size
      (square_order s t p.size q.size (more s a) (more t b) h) (le_self one_f one_size.0))

  rest_size : (x : Float) → InUnit x → Size (one_f ⊖ x)
  rest_size x r = (within_finite 2 (one_f ⊖ x) (rest_within x (within x r)), sub_plus one_f x one_size r.size r.most)

  lower_order : T (le (lower_half s) (lower_half t))
  lower_order =
      let a = within s p in
      let b = within t q in
      let i = rest_size s p in
      let j = rest_size t q in
      let c = rest_within s a in
      let d = rest_within t b in
      factor_order (one_f ⊘ three_f) (one_f ⊖ four_f ⊗ (one_f ⊖ s) ⊗ (one_f ⊖ s)) (one_f ⊖ four_f ⊗ (one_f ⊖ t) ⊗ (one_f ⊖ t)) third_size
      (within_finite 17 (one_f ⊖ four_f ⊗ (one_f ⊖ s) ⊗ (one_f ⊖ s)) (lower_within s a))
      (within_finite 17 (one_f ⊖ four_f ⊗ (one_f ⊖ t) ⊗ (one_f ⊖ t)) (lower_within t b))
      (sub_order one_f (four_f ⊗ (one_f ⊖ s) ⊗ (one_f ⊖ s)) one_f (four_f ⊗ (one_f ⊖ t) ⊗ (one_f ⊖ t))
      one_size (square (one_f ⊖ s) i c) one_size (square (one_f ⊖ t) j d)
      (le_self one_f one_size.0)
      (square_order (one_f ⊖ t) (one_f ⊖ s) j i d c
      (sub_order one_f t one_f s one_size q.size one_size p.size (le_self one_f one_size.0) h)))

halves_meet : T (le (lower_half half_f) (upper_half half_f))
unfolding le lt eq of_bits neg div mul sub add sum round units odd size
halves_meet = tt

-- what is no larger in (s, t) is no larger in (u, v)
pub st_rises : (s t : Float) → InUnit s → InUnit t → T (le s t) → T (le (st_to_uv s) (st_to_uv t))
unfolding st_to_uv
st_rises s t p q h = go (le half_f s) (le half_f t) refl refl
  where
    go : (a b : Bool) → le half_f s ≡ a → le half_f t ≡ b → T (le (cond a (upper_half s) (lower_half s)) (cond b (upper_half t) (lower_half t)))
    go true true e f = upper_order s t p q h
    go true false e f = absurd (subst T f (le_trans half_f s t (passes _ e) h))
    go false true e f =
        le_trans (lower_half s) (lower_half half_f) (upper_half t) (lower_order s half_f p half_in (or_less s half_f p.size half_in.size e))
        (le_trans (lower_half half_f) (upper_half half_f) (upper_half t) halves_meet (upper_order half_f t half_in q (passes _ f)))
    go false false e f = lower_order s t p q h
