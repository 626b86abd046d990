-- The order of keys by their first difference decides every pair. Assumes nothing.
use mathlib.Core.Path.{◌≡◌, refl, sym, ◌∙◌}
use mathlib.Core.Bool.{Bool, true, false, true≢false}
use mathlib.Core.Logic.{by_cases}
use mathlib.Core.List.{List, [], ◌∷◌}
use Prim.Native.Nat.{ℕ, ◌≤◌, ◌<◌}
use native.Mathlib.Nat.{le_antisymm}
use native.Mathlib.Omega.{arith}
use native.Mathlib.Decide.{dec_lt}
use lib.Dec.{ltb}
use borrow.Author.Tests.{lt-ltb, le-ltb, ltb-true, ltb-false}
use Rattle.order.specs.Order.{Order}
use Rattle.order.specs.Lex.{first, lexb}

pub first_lt : (a b : ℕ) (r : Bool) → a < b → first a b r ≡ true
unfolding first
first_lt a b r h = rw (lt-ltb a b h, first)

pub first_gt : (a b : ℕ) (r : Bool) → b < a → first a b r ≡ false
unfolding first
first_gt a b r h = rw (le-ltb a b (omega arith), first, lt-ltb b a h)

pub first_eq : (a b : ℕ) (r : Bool) → a ≤ b → b ≤ a → first a b r ≡ r
unfolding first
first_eq a b r h k = rw (le-ltb a b k, first, le-ltb b a h)

-- not before: not less, and where equal the rest is not before
not_first : (a b : ℕ) (r : Bool) → first a b r ≡ false → (b ≤ a) × (a ≤ b → r ≡ false)
not_first a b r e = by_cases (dec_lt a b)
    (λ h. absurd (true≢false (sym (first_lt a b r h) ∙ e)))
    (λ h. (omega arith, λ k. sym (first_eq a b r k (omega arith)) ∙ e))

lex_asym : (xs ys : List ℕ) → lexb xs ys ≡ true → lexb ys xs ≡ false
unfolding lexb
lex_asym [] [] e = refl
lex_asym [] (y ∷ ys) e = refl
lex_asym (x ∷ xs) [] e = absurd (true≢false (sym e))
lex_asym (x ∷ xs) (y ∷ ys) e = by_cases (dec_lt x y)
    (λ h. first_gt y x _ h)
    (λ h. by_cases (dec_lt y x)
    (λ k. absurd (true≢false (sym e ∙ first_gt x y _ k)))
    (λ k. first_eq y x _ (omega arith) (omega arith) ∙ lex_asym xs ys (sym (first_eq x y _ (omega arith) (omega arith)) ∙ e)))

lex_trans : (xs ys zs : List ℕ) → lexb ys xs ≡ false → lexb zs ys ≡ false → lexb zs xs ≡ false
unfolding lexb
lex_trans [] ys [] p q = refl
lex_trans [] ys (z ∷ zs) p q = refl
lex_trans (x ∷ xs) [] zs p q = absurd (true≢false p)
lex_trans (x ∷ xs) (y ∷ ys) [] p q = absurd (true≢false q)
lex_trans (x ∷ xs) (y ∷ ys) (z ∷ zs) p q =
    let P : (x ≤ y) × (y ≤ x → lexb ys xs ≡ false) = not_first y x _ p in
    let Q : (y ≤ z) × (z ≤ y → lexb zs ys ≡ false) = not_first z y _ q in
    by_cases (dec_lt x z)
    (λ h. first_gt z x _ h)
    (λ h. first_eq z x _ (omega arith) (omega arith) ∙ lex_trans xs ys zs (P.1 (omega arith)) (Q.1 (omega arith)))

lex_tri : (xs ys : List ℕ) → lexb xs ys ≡ false → lexb ys xs ≡ false → xs ≡ ys
unfolding lexb
lex_tri [] [] p q = refl
lex_tri [] (y ∷ ys) p q = absurd (true≢false p)
lex_tri (x ∷ xs) [] p q = absurd (true≢false q)
lex_tri (x ∷ xs) (y ∷ ys) p q =
    let P : (y ≤ x) × (x ≤ y → lexb xs ys ≡ false) = not_first x y _ p in
    let Q : (x ≤ y) × (y ≤ x → lexb ys xs ≡ false) = not_first y x _ q in
    rw (le_antisymm Q.0 P.0, lex_tri xs ys (P.1 Q.0) (Q.1 P.0))

-- an order by a key that tells any two apart
pub by_key : {A : Type 0} (key : A → List ℕ) → ((x y : A) → key x ≡ key y → x ≡ y) → Order (λ (x y : A). lexb (key x) (key y))
by_key key inj = record {
  asym = λ x y e. lex_asym (key x) (key y) e;
  trans = λ x y z p q. lex_trans (key x) (key y) (key z) p q;
  tri = λ x y p q. inj x y (lex_tri (key x) (key y) p q);
}

-- the order of the numbers themselves
pub numbers : Order ltb
numbers = record {
  asym = λ x y e. le-ltb y x (omega (arith, ltb-true x y e));
  trans = λ x y z p q. le-ltb z x (omega (arith, ltb-false y x p, ltb-false z y q));
  tri = λ x y p q. le_antisymm (ltb-false y x q) (ltb-false x y p);
}
