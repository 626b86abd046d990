-- `Rec::goes_first` meets its contract: the tuples' order is the keys'.
use Rattle.std.proofs.Common.{◌≡◌, ℕ, Ordering, Less, Equal, Greater, Bool, false, refl, ap, sym, ◌∙◌, arith}
use Rattle.std.specs.Prelude.{Option, Some, None}
use Rattle.std.specs.Ordering.{is_some_and, nat_cmp, partial_ordering_then, is_lt}
use mathlib.Core.Logic.{by_cases}
use native.Mathlib.Decide.{dec_lt}
use borrow.Author.Tests.{lt-ltb, le-ltb, eq-eqb, ne_eqb}
use Rattle.order.specs.Lex.{first, lexb}
use Rattle.order.proofs.LexLaws.{first_lt, first_gt, first_eq}
use Rattle.records.specs.Records.{key, before}
use Rattle.records.proofs.Rec.goes_first.Goals as goal

-- one field after another
assoc : (p q r : Option Ordering) → partial_ordering_then (partial_ordering_then p q) r ≡ partial_ordering_then p (partial_ordering_then q r)
assoc None q r = refl
assoc (Some Less) q r = refl
assoc (Some Equal) q r = refl
assoc (Some Greater) q r = refl

-- one field, and then the rest
field : (a b : ℕ) (p : Option Ordering) (r : Bool) → is_some_and is_lt p ≡ r → is_some_and is_lt (partial_ordering_then (Some (nat_cmp a b)) p) ≡ first a b r
field a b p r e = by_cases (dec_lt a b)
    (λ h. rw (lt-ltb a b h, first_lt a b r h))
    (λ h. by_cases (dec_lt b a)
    (λ k. rw (le-ltb a b (omega arith), ne_eqb a b (omega arith), first_gt a b r k))
    (λ k. let z : a ≡ b = omega arith in rw (le-ltb a b (omega arith), eq-eqb a b z, first_eq a b r (omega arith) (omega arith)) e))

none_left : (p : Option Ordering) → partial_ordering_then p (Some Equal) ≡ p
none_left None = refl
none_left (Some Less) = refl
none_left (Some Equal) = refl
none_left (Some Greater) = refl

last : (a b : ℕ) → is_some_and is_lt (Some (nat_cmp a b)) ≡ first a b false
last a b = ap (is_some_and is_lt) (sym (none_left (Some (nat_cmp a b)))) ∙ field a b (Some Equal) false refl

abbrev on : ℕ → ℕ → Option Ordering
on a b = Some (nat_cmp a b)

five : (a a' b b' c c' d d' e e' : ℕ) → is_some_and is_lt (partial_ordering_then (partial_ordering_then (partial_ordering_then (partial_ordering_then (on a a') (on b b')) (on c c')) (on d d')) (on e e'))
    ≡ first a a' (first b b' (first c c' (first d d' (first e e' false))))
five a a' b b' c c' d d' e e' = simp assoc (field a a' _ _ (field b b' _ _ (field c c' _ _ (field d d' _ _ (last e e')))))

pub returns : goal.returns
unfolding before key lexb
returns c = rw (← c.cost.ensures, ← c.cost-2.ensures, ← c.from.ensures, ← c.from-2.ensures) (c.lt.ensures ∙ five _ _ _ _ _ _ _ _ _ _)
