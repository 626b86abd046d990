-- `normalise` gives the one normal list with the same leaves, and none is shorter.
use mathlib.Core.Path.{◌≡◌, refl, sym, ap, ◌∙◌}
use mathlib.Core.Logic.{◌⊎◌, inl, inr, ⊎_elim}
use mathlib.Core.Bool.{true, false}
use mathlib.Core.List.{List, [], ◌∷◌, ◌++◌}
use Prim.Native.Nat.{ℕ, ◌+◌, ◌*◌, ◌≤◌, ◌<◌}
use native.Mathlib.Omega.{arith}
use lib.Dec.{ltb}
use lib.ListN.{length, length-append}
use borrow.Author.Tests.{ltb-false}
use Rattle.cellid.specs.CellId.{Cell, first_leaf, last_leaf}
use Rattle.cellid.proofs.Laws.{bool_iff}
use Rattle.cellunion.specs.CellUnion.{lo, hi, covers, SameLeaves, Member, Apart, NoFour, Normal, keep_cell, pass, rev, normalise}
use Rattle.cellunion.specs.Stack.{Down, Stack, AllBefore}
use Rattle.order.specs.Order.{All, Le, insert, sort, Sorted}
use Rattle.order.proofs.OrderLaws.{which, all_append, all_weak, insert_past, insert_front}
use Rattle.order.proofs.LexLaws.{numbers}
use Rattle.order.proofs.SortLaws.{sort_sorted, length_sort}
use Rattle.cellunion.proofs.Spans.{span}
use Rattle.cellunion.proofs.Unique.{all_at, at_all, Covered, covers→, covers←, normal_unique}
use Rattle.cellunion.proofs.Stack.{stack_nil, Cov, Kept, keep_laws}

-- ---- the pass

pub record Passed (s l r : List ℕ) : Type 0 where
  pub stack : Stack r
  pub old : Cov s r
  pub new : Cov l r
  pub from : (n : ℕ) → Covered r n → Covered s n ⊎ Covered l n
  pub short : length r ≤ length s + length l

pass_step : (s l r q : List ℕ) (c : ℕ) → Kept s c q → Passed q l r → Passed s (c ∷ l) r
unfolding Member
pass_step s l r q c K P = record {
  stack = P.stack;
  old = λ n k. P.old n (K.to n (k.0, inr k.1, k.2, k.3));
  new = λ n k. ⊎_elim (λ (e : k.0 ≡ c). P.old n (K.to n (k.0, inl e, k.2, k.3))) (λ m. P.new n (k.0, m, k.2, k.3)) k.1;
  from = λ n k. ⊎_elim
      (λ w. let v = K.from n w in ⊎_elim (λ (e : v.0 ≡ c). inr (v.0, inl e, v.2, v.3)) (λ m. inl (v.0, m, v.2, v.3)) v.1)
      (λ w. inr (w.0, inr w.1, w.2, w.3)) (P.from n k);
  short = omega (arith, K.short, P.short);
}

pub ready_on : (s : List ℕ) (c : ℕ) (l : List ℕ) → AllBefore s c → All (Le ltb c) l → All (AllBefore s) l
ready_on s c l r a = all_weak (Le ltb c) (AllBefore s) l (λ x h. let g : c ≤ x = ltb-false _ _ h in all_weak (λ y. 2 * lo y + 1 ≤ c) (λ y. 2 * lo y + 1 ≤ x) s (λ y e. omega arith) r) a

pub pass_laws : (l s : List ℕ) → Stack s → All Cell l → Sorted ltb l → All (AllBefore s) l → Passed s l (pass s l)
unfolding pass All Sorted
pass_laws [] s S C o r = record { stack = S; old = λ n k. k; new = λ n k. absurd (unfold Member in k.1); from = λ n k. inl k; short = omega arith }
pass_laws (c ∷ l) s S C o r =
    let K = keep_laws s c S C.0 r.0 in
    pass_step s l (pass (keep_cell s c) l) (keep_cell s c) c K (pass_laws l (keep_cell s c) K.stack C.1 o.1 (ready_on (keep_cell s c) c l K.low o.0))

-- ---- reading the stack from below

pub member_rev→ : (l : List ℕ) (x : ℕ) → Member x (rev l) → Member x l
unfolding rev Member
member_rev→ [] x m = m
member_rev→ (y ∷ l) x m = ⊎_elim (λ k. inr (member_rev→ l x k)) (λ e. inl e) (snoc→ (rev l) m)
  where
    snoc→ : (a : List ℕ) → Member x (a ++ (y ∷ [])) → Member x a ⊎ (x ≡ y)
    snoc→ [] m = ⊎_elim (λ e. inr e) (λ k. absurd k) m
    snoc→ (z ∷ a) m = ⊎_elim (λ e. inl (inl e)) (λ k. ⊎_elim (λ j. inl (inr j)) (λ e. inr e) (snoc→ a k)) m

pub member_rev← : (l : List ℕ) (x : ℕ) → Member x l → Member x (rev l)
unfolding rev Member
member_rev← [] x m = m
member_rev← (y ∷ l) x m = snoc← (rev l) (⊎_elim (λ e. inr e) (λ k. inl (member_rev← l x k)) m)
  where
    snoc← : (a : List ℕ) → Member x a ⊎ (x ≡ y) → Member x (a ++ (y ∷ []))
    snoc← [] m = ⊎_elim (λ k. absurd k) (λ e. inl e) m
    snoc← (z ∷ a) m = ⊎_elim (λ k. ⊎_elim (λ e. inl e) (λ j. inr (snoc← a (inl j))) k) (λ e. inr (snoc← a (inr e))) m

pub all_rev : (P : ℕ → Type 0) (l : List ℕ) → All P l → All P (rev l)
all_rev P l a = at_all P (rev l) (λ x m. all_at P l a x (member_rev→ l x m))

apart_snoc : (l : List ℕ) (x : ℕ) → Apart l → All (λ y. last_leaf y < first_leaf x) l → Apart (l ++ (x ∷ []))
unfolding Apart All
apart_snoc [] x a b = (tt, tt)
apart_snoc (y ∷ l) x a b = (all_append (λ z. last_leaf y < first_leaf z) l (x ∷ []) a.0 (b.0, tt), apart_snoc l x a.1 b.1)

pub apart_rev : (s : List ℕ) → All Cell s → Down s → Apart (rev s)
unfolding rev Apart All Down
apart_rev [] c d = tt
apart_rev (x ∷ s) c d = apart_snoc (rev s) x (apart_rev s c.1 d.1) (all_rev (λ y. last_leaf y < first_leaf x) s (at_all (λ y. last_leaf y < first_leaf x) s (λ y m.
    let h : hi y ≤ lo x = all_at (λ y. hi y ≤ lo x) s d.0 y m in
    let u = span c.0 in
    let v = span (all_at Cell s c.1 y m) in omega arith)))

pub length_rev : (l : List ℕ) → length (rev l) ≡ length l
unfolding rev
length_rev [] = refl
length_rev (x ∷ l) = length-append (rev l) (x ∷ []) ∙ omega (arith, length_rev l)

pub stack_normal : (s : List ℕ) → Stack s → Normal (rev s)
unfolding NoFour
stack_normal s S = record {
  cells = all_rev Cell s S.cells;
  apart = apart_rev s S.cells S.down;
  nofour = λ L p h g a b c d. S.nofour L p h g (member_rev→ s _ a) (member_rev→ s _ b) (member_rev→ s _ c) (member_rev→ s _ d);
}

-- ---- sorting keeps the members

member_insert : (x : ℕ) (q : List ℕ) (y : ℕ) → (Member y (insert ltb x q) → (y ≡ x) ⊎ Member y q) × ((y ≡ x) ⊎ Member y q → Member y (insert ltb x q))
unfolding insert Member
member_insert x [] y = (λ m. m, λ m. m)
member_insert x (z ∷ q) y = ⊎_elim
    (λ (e : ltb z x ≡ true). let r = member_insert x q y in rw (insert_past ltb x z q e) (
      λ m. ⊎_elim (λ e. inr (inl e)) (λ k. ⊎_elim (λ e. inl e) (λ j. inr (inr j)) (r.0 k)) m,
      λ m. ⊎_elim (λ e. inr (r.1 (inl e))) (λ k. ⊎_elim (λ e. inl e) (λ j. inr (r.1 (inr j))) k) m,
    ))
    (λ (e : ltb z x ≡ false). rw (insert_front ltb x z q e) (λ m. m, λ m. m))
    (which (ltb z x))

pub member_sort→ : (l : List ℕ) (y : ℕ) → Member y (sort ltb l) → Member y l
unfolding sort Member
member_sort→ [] y m = m
member_sort→ (x ∷ l) y m = ⊎_elim (λ e. inl e) (λ k. inr (member_sort→ l y k)) ((member_insert x (sort ltb l) y).0 m)

pub member_sort← : (l : List ℕ) (y : ℕ) → Member y l → Member y (sort ltb l)
unfolding sort Member
member_sort← [] y m = m
member_sort← (x ∷ l) y m = (member_insert x (sort ltb l) y).1 (⊎_elim (λ e. inl e) (λ k. inr (member_sort← l y k)) m)

pub cov_none : (n : ℕ) → Covered [] n → ⊥
unfolding Member
cov_none n w = w.1

-- ---- the results

pub all_ready : (l : List ℕ) → All (AllBefore []) l
unfolding All
all_ready [] = tt
all_ready (x ∷ l) = (tt, all_ready l)

pub normalised : (l : List ℕ) → All Cell l → Passed [] (sort ltb l) (pass [] (sort ltb l))
normalised l C = pass_laws (sort ltb l) [] stack_nil (at_all Cell (sort ltb l) (λ x m. all_at Cell l C x (member_sort→ l x m))) (sort_sorted ltb numbers l) (all_ready (sort ltb l))

pub normalise_normal : (l : List ℕ) → All Cell l → Normal (normalise l)
unfolding normalise
normalise_normal l C = stack_normal (pass [] (sort ltb l)) (normalised l C).stack

pub same_covered : (a b : List ℕ) → All Cell a → All Cell b → Cov a b → Cov b a → SameLeaves a b
same_covered a b A B f g n = bool_iff (covers a n) (covers b n) (λ t. covers← b n B (f n (covers→ a n A t))) (λ t. covers← a n A (g n (covers→ b n B t)))

pub normalise_leaves : (l : List ℕ) → All Cell l → SameLeaves (normalise l) l
unfolding normalise
normalise_leaves l C =
    let P = normalised l C in
    same_covered (rev (pass [] (sort ltb l))) l (all_rev Cell (pass [] (sort ltb l)) P.stack.cells) C
    (λ n k. ⊎_elim (λ (w : Covered [] n). absurd (cov_none n w)) (λ w. (w.0, member_sort→ l w.0 w.1, w.2, w.3)) (P.from n (k.0, member_rev→ (pass [] (sort ltb l)) k.0 k.1, k.2, k.3)))
    (λ n k. let w = P.new n (k.0, member_sort← l k.0 k.1, k.2, k.3) in (w.0, member_rev← (pass [] (sort ltb l)) w.0 w.1, w.2, w.3))

pub normalise_short : (l : List ℕ) → All Cell l → length (normalise l) ≤ length l
unfolding normalise
normalise_short l C = omega (arith, length_rev (pass [] (sort ltb l)), (normalised l C).short, length_sort ltb l)

-- a normal list is what normalising gives for every list of cells with its leaves ..
pub normal_is : (a l : List ℕ) → Normal a → All Cell l → SameLeaves a l → a ≡ normalise l
normal_is a l A C same = normal_unique a (normalise l) A (normalise_normal l C) (λ n. same n ∙ sym (normalise_leaves l C n))

-- .. and none of these is shorter
pub normal_shortest : (a l : List ℕ) → Normal a → All Cell l → SameLeaves a l → length a ≤ length l
normal_shortest a l A C same = omega (arith, ap length (normal_is a l A C same), normalise_short l C)

pub normalise_again : (a : List ℕ) → Normal a → normalise a ≡ a
normalise_again a A = sym (normal_is a a A A.cells (λ n. refl))

-- only the leaves count
pub normalise_same : (a b : List ℕ) → All Cell a → All Cell b → SameLeaves a b → normalise a ≡ normalise b
normalise_same a b A B same = normal_is (normalise a) b (normalise_normal a A) B (λ n. normalise_leaves a A n ∙ same n)
