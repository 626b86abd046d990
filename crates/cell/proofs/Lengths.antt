-- The normals of a cell's edges have one length for each line: the root of 1 + w * w. Assumes nothing.
use mathlib.Core.Path.{◌≡◌, refl, sym, ap, ◌∙◌}
use mathlib.Core.Bool.{Bool, true, false, ◌&&◌}
use Prim.Native.Nat.{ℕ, zero, suc}
use lib.Dec.{T}
use lib.Ieee.{Float, binary64, size, units, round, mul, neg, eq, fits, of_bits}
use lib.Ieee.Fits.{neg-fits, add-fits, mul-fits}
use Rattle.root.specs.Root.{root}
use Rattle.point.specs.Floats.{◌⊕◌, ◌⊗◌, ◌⊘◌, zero_f, one_f}
use Rattle.point.specs.Vector.{mul_of, dot_of, norm2_of, norm_of, is_zero, normalize_of}
use Rattle.point.specs.declared.Point.{Point}
use Rattle.point.proofs.Signs.{Plus, square_plus, add_plus}
use Rattle.point.proofs.Exact.{plus_zero, square_neg, times_minus}
use Rattle.point.proofs.Numbers.{one_fits, sum_comm}
use Rattle.stuv.specs.Projection.{u_norm, v_norm}
use Rattle.cell.specs.Siblings.{scale_of}

zero_fits : T (fits binary64 zero_f)
unfolding fits of_bits
zero_fits = tt

one_plus : Plus one_f
unfolding of_bits
one_plus = refl

one_square : one_f ⊗ one_f ≡ one_f
unfolding mul of_bits round units size
one_square = refl

zero_square : zero_f ⊗ zero_f ≡ zero_f
unfolding mul of_bits round units size
zero_square = refl

-- the six orders of 1, a square and 0
module _ (w : Float) where
  abbrev sq : Float
  sq = w ⊗ w

  abbrev full : Float
  full = one_f ⊕ w ⊗ w

  one_sq_zero : one_f ⊕ sq ⊕ zero_f ≡ full
  one_sq_zero = plus_zero full (add_plus binary64 one_f sq one_plus (square_plus binary64 w)) (add-fits binary64 one_f sq)

  sq_one_zero : sq ⊕ one_f ⊕ zero_f ≡ full
  sq_one_zero = plus_zero (sq ⊕ one_f) (add_plus binary64 sq one_f (square_plus binary64 w) one_plus) (add-fits binary64 sq one_f) ∙ sum_comm sq one_f

  sq_zero_one : sq ⊕ zero_f ⊕ one_f ≡ full
  sq_zero_one = ap (λ (x : Float). x ⊕ one_f) (plus_zero sq (square_plus binary64 w) (mul-fits binary64 w w)) ∙ sum_comm sq one_f

  zero_sq_one : zero_f ⊕ sq ⊕ one_f ≡ full
  zero_sq_one = ap (λ (x : Float). x ⊕ one_f) (sum_comm zero_f sq) ∙ sq_zero_one

  one_zero_sq : one_f ⊕ zero_f ⊕ sq ≡ full
  one_zero_sq = ap (λ (x : Float). x ⊕ sq) (plus_zero one_f one_plus one_fits)

  zero_one_sq : zero_f ⊕ one_f ⊕ sq ≡ full
  zero_one_sq = ap (λ (x : Float). x ⊕ sq) (sum_comm zero_f one_f) ∙ one_zero_sq

-- ---- a vector whose length is that of the line w, and its opposite

abbrev vector : Float → Float → Float → Point
vector x y z = record { x = x; y = y; z = z }

-- a component of the size of w; one of the size of 1
pub record Like (x w : Float) : Type 0 where
  pub square : x ⊗ x ≡ w ⊗ w
  pub held : T (fits binary64 x)

pub record One (s : Float) : Type 0 where
  pub square : s ⊗ s ≡ one_f
  pub held : T (fits binary64 s)
  pub some : eq s zero_f ≡ false
  pub back : eq (s ⊗ neg one_f) zero_f ≡ false

same : (w : Float) → T (fits binary64 w) → Like w w
same w h = record { square = refl; held = h }

turned : (w : Float) → T (fits binary64 w) → Like (neg w) w
turned w h = record { square = square_neg w; held = neg-fits binary64 w h }

one : One one_f
unfolding eq mul neg of_bits round units size
one = record { square = one_square; held = one_fits; some = refl; back = refl }

minus : One (neg one_f)
unfolding eq mul neg of_bits round units size
minus = record { square = square_neg one_f ∙ one_square; held = neg-fits binary64 one_f one_fits; some = refl; back = refl }

pub record Sized (a : Point) (w : Float) : Type 0 where
  pub norm : norm2_of a ≡ one_f ⊕ w ⊗ w
  pub some : is_zero a ≡ false
  pub norm_back : norm2_of (mul_of a (neg one_f)) ≡ one_f ⊕ w ⊗ w
  pub some_back : is_zero (mul_of a (neg one_f)) ≡ false

opposite : (x y z : Float) → T (fits binary64 x) → T (fits binary64 y) → T (fits binary64 z) → norm2_of (mul_of (vector x y z) (neg one_f)) ≡ norm2_of (vector x y z)
unfolding norm2_of dot_of mul_of
opposite x y z p q r = rw (times_minus x p, times_minus y q, times_minus z r, square_neg x, square_neg y, square_neg z)

second : (a c : Bool) → (a && false && c) ≡ false
second true c = refl
second false c = refl

third : (a b : Bool) → (a && b && false) ≡ false
third true true = refl
third true false = refl
third false b = refl

module _ {w x s : Float} (l : Like x w) (u : One s) where
  s_x_0 : Sized (vector s x zero_f) w
  unfolding norm2_of dot_of is_zero mul_of
  s_x_0 = record {
    norm = rw (u.square, l.square, zero_square) (one_sq_zero w);
    some = rw u.some;
    norm_back = opposite s x zero_f u.held l.held zero_fits ∙ rw (u.square, l.square, zero_square) (one_sq_zero w);
    some_back = rw u.back;
  }

  s_0_x : Sized (vector s zero_f x) w
  unfolding norm2_of dot_of is_zero mul_of
  s_0_x = record {
    norm = rw (u.square, zero_square, l.square) (one_zero_sq w);
    some = rw u.some;
    norm_back = opposite s zero_f x u.held zero_fits l.held ∙ rw (u.square, zero_square, l.square) (one_zero_sq w);
    some_back = rw u.back;
  }

  x_s_0 : Sized (vector x s zero_f) w
  unfolding norm2_of dot_of is_zero mul_of
  x_s_0 = record {
    norm = rw (l.square, u.square, zero_square) (sq_one_zero w);
    some = rw u.some (second (eq x zero_f) (eq zero_f zero_f));
    norm_back = opposite x s zero_f l.held u.held zero_fits ∙ rw (l.square, u.square, zero_square) (sq_one_zero w);
    some_back = rw u.back (second (eq (x ⊗ neg one_f) zero_f) (eq (zero_f ⊗ neg one_f) zero_f));
  }

  x_0_s : Sized (vector x zero_f s) w
  unfolding norm2_of dot_of is_zero mul_of
  x_0_s = record {
    norm = rw (l.square, zero_square, u.square) (sq_zero_one w);
    some = rw u.some (third (eq x zero_f) (eq zero_f zero_f));
    norm_back = opposite x zero_f s l.held zero_fits u.held ∙ rw (l.square, zero_square, u.square) (sq_zero_one w);
    some_back = rw u.back (third (eq (x ⊗ neg one_f) zero_f) (eq (zero_f ⊗ neg one_f) zero_f));
  }

  0_x_s : Sized (vector zero_f x s) w
  unfolding norm2_of dot_of is_zero mul_of
  0_x_s = record {
    norm = rw (zero_square, l.square, u.square) (zero_sq_one w);
    some = rw u.some (third (eq zero_f zero_f) (eq x zero_f));
    norm_back = opposite zero_f x s zero_fits l.held u.held ∙ rw (zero_square, l.square, u.square) (zero_sq_one w);
    some_back = rw u.back (third (eq (zero_f ⊗ neg one_f) zero_f) (eq (x ⊗ neg one_f) zero_f));
  }

  0_s_x : Sized (vector zero_f s x) w
  unfolding norm2_of dot_of is_zero mul_of
  0_s_x = record {
    norm = rw (zero_square, u.square, l.square) (zero_one_sq w);
    some = rw u.some (second (eq zero_f zero_f) (eq x zero_f));
    norm_back = opposite zero_f s x zero_fits u.held l.held ∙ rw (zero_square, u.square, l.square) (zero_one_sq w);
    some_back = rw u.back (second (eq (zero_f ⊗ neg one_f) zero_f) (eq (x ⊗ neg one_f) zero_f));
  }

pub u_sized : (face : ℕ) (w : Float) → T (fits binary64 w) → Sized (u_norm face w) w
unfolding u_norm
u_sized zero w h = x_s_0 (same w h) minus
u_sized (suc zero) w h = s_x_0 (same w h) one
u_sized (suc (suc zero)) w h = s_0_x (same w h) one
u_sized (suc (suc (suc zero))) w h = x_0_s (turned w h) one
u_sized (suc (suc (suc (suc zero)))) w h = 0_x_s (turned w h) one
u_sized (suc (suc (suc (suc (suc n))))) w h = 0_s_x (turned w h) minus

pub v_sized : (face : ℕ) (w : Float) → T (fits binary64 w) → Sized (v_norm face w) w
unfolding v_norm
v_sized zero w h = x_0_s (turned w h) one
v_sized (suc zero) w h = 0_x_s (turned w h) one
v_sized (suc (suc zero)) w h = 0_s_x (turned w h) minus
v_sized (suc (suc (suc zero))) w h = x_s_0 (same w h) minus
v_sized (suc (suc (suc (suc zero)))) w h = s_x_0 (same w h) one
v_sized (suc (suc (suc (suc (suc n))))) w h = s_0_x (same w h) one

-- ---- so an edge's normal is brought to unit length by its line's scale

by_norm : (a : Point) (n : Float) → is_zero a ≡ false → norm2_of a ≡ n → normalize_of a ≡ mul_of a (one_f ⊘ root binary64 n)
unfolding normalize_of norm_of
by_norm a n z e = rw (z, e)

pub scaled : (a : Point) (w : Float) → Sized a w → mul_of a (scale_of w) ≡ normalize_of a
unfolding scale_of
scaled a w z = sym (by_norm a (one_f ⊕ w ⊗ w) z.some z.norm)

pub scaled_back : (a : Point) (w : Float) → Sized a w → mul_of (mul_of a (neg one_f)) (scale_of w) ≡ normalize_of (mul_of a (neg one_f))
unfolding scale_of
scaled_back a w z = sym (by_norm (mul_of a (neg one_f)) (one_f ⊕ w ⊗ w) z.some_back z.norm_back)

-- as the code has it: n the normal, m the scale
pub edge_scaled : (a n r : Point) (w m : Float) → Sized a w → m ≡ scale_of w → n ≡ a → r ≡ mul_of n m → r ≡ normalize_of a
edge_scaled a n r w m z e f g = rw (g, f, e) (scaled a w z)

pub back_scaled : (a n b r : Point) (w m : Float) → Sized a w → m ≡ scale_of w → n ≡ a → b ≡ mul_of n (neg one_f) → r ≡ mul_of b m → r ≡ normalize_of (mul_of a (neg one_f))
back_scaled a n b r w m z e f g h = rw (h, g, f, e) (scaled_back a w z)
