-- Sums and facts over lists, and over outcomes.
use mathlib.Core.Path.{◌≡◌, refl, sym, ap, ◌∙◌}
use mathlib.Core.Bool.{Bool, true, false, true≢false}
use mathlib.Core.Logic.{⊎_elim}
use mathlib.Core.List.{List, [], ◌∷◌, ◌++◌, map}
use Prim.Native.Nat.{ℕ, ◌+◌, ◌≤◌}
use native.Mathlib.Omega.{arith}
use Rattle.refusal.specs.declared.Refusal.{Refusal}
use Rattle.order.specs.Order.{insert, All}
use Rattle.order.proofs.OrderLaws.{which, insert_past, insert_front, all_weak}
use Rattle.run.specs.Run.{Outcome, State, going, is_empty, refused, sum_of, then}

pub sum_append : {A : Type 0} (f : A → ℕ) (l r : List A) → sum_of f (l ++ r) ≡ sum_of f l + sum_of f r
unfolding sum_of
sum_append f [] r = omega arith
sum_append f (x ∷ l) r = let e : sum_of f (l ++ r) ≡ sum_of f l + sum_of f r = sum_append f l r in omega arith

pub sum_map : {A B : Type 0} (g : A → B) (f : B → ℕ) (l : List A) → sum_of f (map g l) ≡ sum_of (λ x. f (g x)) l
unfolding sum_of
sum_map g f [] = refl
sum_map g f (x ∷ l) = ap (λ (n : ℕ). f (g x) + n) (sum_map g f l)

pub sum_insert : {A : Type 0} (lt : A → A → Bool) (f : A → ℕ) (x : A) (q : List A) → sum_of f (insert lt x q) ≡ f x + sum_of f q
unfolding sum_of insert
sum_insert lt f x [] = refl
sum_insert lt f x (y ∷ q) = ⊎_elim
    (λ (e : lt y x ≡ true). rw (insert_past lt x y q e) (let i : sum_of f (insert lt x q) ≡ f x + sum_of f q = sum_insert lt f x q in omega arith))
    (λ (e : lt y x ≡ false). rw (insert_front lt x y q e))
    (which (lt y x))

pub all_of : {A : Type 0} (P : A → Type 0) → ((x : A) → P x) → (l : List A) → All P l
unfolding All
all_of P f [] = tt
all_of P f (x ∷ l) = (f x, all_of P f l)

pub all_map : {A B : Type 0} (g : A → B) (P : B → Type 0) (l : List A) → All (λ x. P (g x)) l → All P (map g l)
unfolding All
all_map g P [] a = tt
all_map g P (x ∷ l) a = (a.0, all_map g P l a.1)

pub all_insert : {A : Type 0} (lt : A → A → Bool) (P : A → Type 0) (x : A) (q : List A) → P x → All P q → All P (insert lt x q)
unfolding insert All
all_insert lt P x [] p a = (p, tt)
all_insert lt P x (y ∷ q) p a = ⊎_elim
    (λ (e : lt y x ≡ true). rw (insert_past lt x y q e) (a.0, all_insert lt P x q p a.1))
    (λ (e : lt y x ≡ false). rw (insert_front lt x y q e) (p, a))
    (which (lt y x))

-- P of the state, or R of the refusal
unfoldable pub Fares : (State → Type 0) → (Refusal → Type 0) → Outcome → Type 0
Fares P R (refused r) = R r
Fares P R (going s) = P s

pub then_fares : (P Q : State → Type 0) (R : Refusal → Type 0) (o : Outcome) (f : State → Outcome) → Fares P R o → ((s : State) → P s → Fares Q R (f s)) → Fares Q R (then o f)
unfolding Fares then
then_fares P Q R (refused r) f h g = h
then_fares P Q R (going s) f h g = g s h

-- P in the state, if there is one
abbrev pub Holds : (State → Type 0) → Outcome → Type 0
Holds P = Fares P (λ n. Unit)

pub then_ok : (P Q : State → Type 0) (o : Outcome) (f : State → Outcome) → Holds P o → ((s : State) → P s → Holds Q (f s)) → Holds Q (then o f)
then_ok P Q = then_fares P Q (λ n. Unit)

-- both ways of a test
pub if_ok : {X : Type 0} (P : X → Type 0) (b : Bool) (x y : X) → (b ≡ true → P x) → (b ≡ false → P y) → P (elim b [ true ↦ x | false ↦ y ])
if_ok P true x y f g = f refl
if_ok P false x y f g = g refl

-- of one test on two sides
pub if_two : {X Y : Type 0} {c : Bool} {x y : X} {u v : Y} (P : X → Y → Type 0) (b : Bool) → b ≡ c → (b ≡ true → P x u) → (b ≡ false → P y v)
    → P (elim b [ true ↦ x | false ↦ y ]) (elim c [ true ↦ u | false ↦ v ])
if_two {c} {x} {y} {u} {v} P b e f g = if_ok (λ z. P z (elim c [ true ↦ u | false ↦ v ])) b x y (λ t. rw (sym e ∙ t) (f t)) (λ t. rw (sym e ∙ t) (g t))

pub empty_nil : {A : Type 0} (l : List A) → is_empty l ≡ true → l ≡ []
unfolding is_empty
empty_nil [] e = refl
empty_nil (x ∷ l) e = absurd (true≢false (sym e))

-- equal, and in an inner run at most
unfoldable pub Rel : Bool → ℕ → ℕ → Type 0
Rel true a b = a ≤ b
Rel false a b = a ≡ b

pub rel_refl : (i : Bool) (a : ℕ) → Rel i a a
unfolding Rel
rel_refl true a = omega arith
rel_refl false a = refl

pub rel_trans : (i : Bool) (a b c : ℕ) → Rel i a b → Rel i b c → Rel i a c
unfolding Rel
rel_trans true a b c h k = omega arith
rel_trans false a b c h k = h ∙ k

pub rel_add : (i : Bool) (a b c d : ℕ) → Rel i a b → Rel i c d → Rel i (a + c) (b + d)
unfolding Rel
rel_add true a b c d h k = omega arith
rel_add false a b c d h k = omega arith

pub rel_less : (i : Bool) (a b c : ℕ) → i ≡ true → a ≤ b → Rel i b c → Rel i a c
unfolding Rel
rel_less true a b c e h k = omega arith
rel_less false a b c e h k = absurd (true≢false (sym e))

pub rel_same : (i : Bool) (a b c : ℕ) → a ≡ b → Rel i b c → Rel i a c
rel_same i a b c e h = rw e h

pub all_back : {A : Type 0} (P : A → Type 0) (l r : List A) → All P (l ++ r) → All P r
unfolding All
all_back P [] r a = a
all_back P (x ∷ l) r a = all_back P l r a.1

-- no term is more than the sum
pub term_le : {A : Type 0} (l : List A) → All (λ c. (w : A → ℕ) → w c ≤ sum_of w l) l
unfolding All sum_of
term_le [] = tt
term_le (x ∷ l) = (λ w. omega arith, all_weak _ _ l (λ c h w. let r = h w in omega arith) (term_le l))

pub rel_le : (i : Bool) (a b : ℕ) → Rel i a b → a ≤ b
unfolding Rel
rel_le true a b h = h
rel_le false a b h = omega arith

pub rel_eq : (i : Bool) (a b : ℕ) → i ≡ false → Rel i a b → a ≡ b
unfolding Rel
rel_eq true a b e h = absurd (true≢false e)
rel_eq false a b e h = h

pub all_with : {A : Type 0} (P Q : A → Type 0) (l : List A) → All P l → All Q l → All (λ x. P x × Q x) l
unfolding All
all_with P Q [] a b = tt
all_with P Q (x ∷ l) a b = ((a.0, b.0), all_with P Q l a.1 b.1)
