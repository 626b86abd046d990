-- Two normal lists with the same leaves are one list.
use mathlib.Core.Path.{◌≡◌, refl, sym, ap, ap₂, ◌∙◌, subst}
use mathlib.Core.Logic.{◌⊎◌, inl, inr, ⊎_elim}
use mathlib.Core.Bool.{true}
use mathlib.Core.List.{List, [], ◌∷◌, ◌++◌}
use Prim.Native.Nat.{ℕ, zero, suc, ◌+◌, ◌-◌, ◌*◌, ◌≤◌, ◌<◌}
use native.Mathlib.Omega.{arith}
use Rattle.cellid.specs.CellId.{Cell, IsCell, id_of, bit_at, child_of, first_leaf, last_leaf, has_leaf}
use Rattle.cellid.proofs.Laws.{or_true, true_or}
use Rattle.cellid.proofs.Leaves.{child_cell}
use Rattle.cellunion.specs.CellUnion.{lo, hi, covers, SameLeaves, Member, Apart, NoFour, Normal}
use Rattle.order.specs.Order.{All}
use Rattle.cellunion.proofs.Spans.{lo_is, hi_is, span, leaf→, leaf←, In, in_anti, kids, kid_up}

pub all_at : (P : ℕ → Type 0) (l : List ℕ) → All P l → (x : ℕ) → Member x l → P x
unfolding All Member
all_at P [] a x m = absurd m
all_at P (y ∷ l) a x m = ⊎_elim (λ e. subst P (sym e) a.0) (λ m. all_at P l a.1 x m) m

pub at_all : (P : ℕ → Type 0) (l : List ℕ) → ((x : ℕ) → Member x l → P x) → All P l
unfolding All Member
at_all P [] f = tt
at_all P (y ∷ l) f = (f y (inl refl), at_all P l (λ x m. f x (inr m)))

pub member_append→ : (a b : List ℕ) (x : ℕ) → Member x (a ++ b) → Member x a ⊎ Member x b
unfolding Member
member_append→ [] b x m = inr m
member_append→ (y ∷ a) b x m = ⊎_elim (λ e. inl (inl e)) (λ k. ⊎_elim (λ j. inl (inr j)) (λ j. inr j) (member_append→ a b x k)) m

pub member_append← : (a b : List ℕ) (x : ℕ) → Member x a ⊎ Member x b → Member x (a ++ b)
unfolding Member
member_append← [] b x m = ⊎_elim (λ k. absurd k) (λ k. k) m
member_append← (y ∷ a) b x m = ⊎_elim (λ k. ⊎_elim (λ e. inl e) (λ j. inr (member_append← a b x (inl j))) k) (λ k. inr (member_append← a b x (inr k))) m

pub apart_append : (a b : List ℕ) → Apart a → Apart b → ((x y : ℕ) → Member x a → Member y b → last_leaf x < first_leaf y) → Apart (a ++ b)
unfolding Apart Member
apart_append [] b A B f = B
apart_append (x ∷ a) b A B f = (
  at_all (λ y. last_leaf x < first_leaf y) (a ++ b) (λ y m. ⊎_elim (λ k. all_at (λ y. last_leaf x < first_leaf y) a A.0 y k) (λ k. f x y (inl refl) k) (member_append→ a b y m)),
  apart_append a b A.1 B (λ z y m k. f z y (inr m) k),
)

-- a leaf is covered by a member, and by each member that has it
abbrev pub Covered : List ℕ → ℕ → Type 0
Covered l n = (d : ℕ) × Member d l × (lo d ≤ n) × (n < hi d)

pub covers→ : (l : List ℕ) (n : ℕ) → All Cell l → covers l n ≡ true → Covered l n
unfolding covers Member All
covers→ [] n a t = let z : ◌≡◌ {A = ℕ} 0 1 = cc in absurd (omega arith)
covers→ (x ∷ l) n a t = ⊎_elim
    (λ e. let r = leaf→ n a.0 e in (x, inl refl, r.0, r.1))
    (λ e. let r = covers→ l n a.1 e in (r.0, inr r.1, r.2, r.3))
    (or_true (has_leaf x n) (covers l n) t)

pub covers← : (l : List ℕ) (n : ℕ) → All Cell l → Covered l n → covers l n ≡ true
unfolding covers Member All
covers← [] n a c = absurd c.1
covers← (x ∷ l) n a c = true_or (has_leaf x n) (covers l n) (⊎_elim
    (λ e. inl (leaf← n a.0 (omega (arith, c.2, ap lo e)) (omega (arith, c.3, ap hi e))))
    (λ m. inr (covers← l n a.1 (c.0, m, c.2, c.3))) c.1)

-- two members of an apart list that share a leaf are one
pub apart_one : (l : List ℕ) → All Cell l → Apart l → (x y n : ℕ) → Member x l → Member y l → lo x ≤ n → n < hi x → lo y ≤ n → n < hi y → x ≡ y
unfolding Apart All Member
apart_one [] a s x y n mx my p q u v = absurd mx
apart_one (z ∷ l) a s x y n mx my p q u v = ⊎_elim
    (λ (e : x ≡ z). ⊎_elim
    (λ (f : y ≡ z). e ∙ sym f)
    (λ (m : Member y l).
    let b : last_leaf z < first_leaf y = all_at (λ w. last_leaf z < first_leaf w) l s.0 y m in
    let c = span a.0 in let d = span (all_at Cell l a.1 y m) in
    absurd (omega (arith, ap lo e, ap hi e)))
    my)
    (λ (k : Member x l). ⊎_elim
    (λ (f : y ≡ z).
    let b : last_leaf z < first_leaf x = all_at (λ w. last_leaf z < first_leaf w) l s.0 x k in
    let c = span a.0 in let d = span (all_at Cell l a.1 x k) in
    absurd (omega (arith, ap lo f, ap hi f)))
    (λ (m : Member y l). apart_one l a.1 s.1 x y n k m p q u v)
    my)
    mx

-- THE KEY: in a normal list, a cell whose leaves are all covered lies in one member
abbrev Held : List ℕ → ℕ → Type 0
Held l c = (d : ℕ) × Member d l × In c d

no_four : (l : List ℕ) → Normal l → (L p c : ℕ) → IsCell c L p → L < 30 → Member (child_of c 0) l → Member (child_of c 1) l → Member (child_of c 2) l → Member (child_of c 3) l → ⊥
unfolding NoFour
no_four l N L p c C h m0 m1 m2 m3 =
    let at : (k : ℕ) → Member (child_of c k) l → Member (child_of (id_of L p) k) l = λ k m. subst (λ (x : ℕ). Member (child_of x k) l) C.is m in
    N.nofour L p h C.place (at 0 m0) (at 1 m1) (at 2 m2) (at 3 m3)

one_up : (l : List ℕ) → Normal l → (L p c k : ℕ) → IsCell c L p → L < 30 → k < 4 → In (child_of c k) c → Held l (child_of c k) → Member (child_of c k) l ⊎ Held l c
one_up l N L p c k C h g i r = ⊎_elim
    (λ e. inl (subst (λ (x : ℕ). Member x l) e r.1))
    (λ j. inr (r.0, r.1, j))
    (kid_up k C h g (all_at Cell l N.cells r.0 r.1) r.2 i)

four_up : (l : List ℕ) → Normal l → (L p c : ℕ) → IsCell c L p → L < 30
    → Held l (child_of c 0) → Held l (child_of c 1) → Held l (child_of c 2) → Held l (child_of c 3) → Held l c
four_up l N L p c C h r0 r1 r2 r3 =
    let K = kids C h in
    ⊎_elim (λ m0. ⊎_elim (λ m1. ⊎_elim (λ m2. ⊎_elim (λ m3. absurd (no_four l N L p c C h m0 m1 m2 m3))
    (λ d. d) (one_up l N L p c 3 C h (omega arith) (omega arith, omega arith) r3))
    (λ d. d) (one_up l N L p c 2 C h (omega arith) (omega arith, omega arith) r2))
    (λ d. d) (one_up l N L p c 1 C h (omega arith) (omega arith, omega arith) r1))
    (λ d. d) (one_up l N L p c 0 C h (omega arith) (omega arith, omega arith) r0)

full_at : (l : List ℕ) → Normal l → (k L p c : ℕ) → IsCell c L p → L + k ≡ 30
    → ((n : ℕ) → lo c ≤ n → n < hi c → covers l n ≡ true) → Held l c
full_at l N zero L p c C e f =
    let s = span (L, p, C) in
    let z : bit_at L ≡ 1 = let q : L ≡ 30 = omega arith in ap bit_at q in
    let r = covers→ l (lo c) N.cells (f (lo c) (omega arith) (omega arith)) in
    (r.0, r.1, (r.2, omega (arith, r.3, lo_is C, hi_is C)))
full_at l N (suc k) L p c C e f =
    let h : L < 30 = omega arith in
    let K = kids C h in
    let sub : L + 1 + k ≡ 30 = omega arith in
    four_up l N L p c C h
    (full_at l N k (L + 1) (4 * p + 0) (child_of c 0) (child_cell 0 C h (omega arith)) sub (λ n a b. f n (omega arith) (omega arith)))
    (full_at l N k (L + 1) (4 * p + 1) (child_of c 1) (child_cell 1 C h (omega arith)) sub (λ n a b. f n (omega arith) (omega arith)))
    (full_at l N k (L + 1) (4 * p + 2) (child_of c 2) (child_cell 2 C h (omega arith)) sub (λ n a b. f n (omega arith) (omega arith)))
    (full_at l N k (L + 1) (4 * p + 3) (child_of c 3) (child_cell 3 C h (omega arith)) sub (λ n a b. f n (omega arith) (omega arith)))

pub full : (l : List ℕ) → Normal l → (c : ℕ) → Cell c → ((n : ℕ) → lo c ≤ n → n < hi c → covers l n ≡ true) → Held l c
full l N c C f = full_at l N (30 - C.0) C.0 C.1 c C.2 (omega (arith, C.2.level)) f

-- each cell of a list with the same leaves lies in a member of the normal one
pub same_held : (a b : List ℕ) → Normal a → All Cell b → SameLeaves a b → (c : ℕ) → Member c b → Held a c
same_held a b N B same c m =
    full a N c (all_at Cell b B c m) (λ n p q. same n ∙ covers← b n B (c, m, p, q))

same_member : (a b : List ℕ) → Normal a → Normal b → SameLeaves a b → (c : ℕ) → Member c a → Member c b
same_member a b A B same c m =
    let C = all_at Cell a A.cells c m in
    let s = span C in
    let x = same_held b a B A.cells (λ n. sym (same n)) c m in
    let y = same_held a b A B.cells same x.0 x.1 in
    let e : c ≡ y.0 = apart_one a A.cells A.apart c y.0 (lo c) m y.1 (omega arith) (omega arith) (omega (arith, x.2.0, y.2.0)) (omega (arith, x.2.1, y.2.1)) in
    let f : c ≡ x.0 = in_anti C (all_at Cell b B.cells x.0 x.1) x.2 (omega (arith, y.2.0, ap lo e), omega (arith, y.2.1, ap hi e)) in
    subst (λ (z : ℕ). Member z b) (sym f) x.1

-- apart lists with the same members are one
pub apart_same : (a b : List ℕ) → All Cell a → All Cell b → Apart a → Apart b → ((x : ℕ) → Member x a → Member x b) → ((x : ℕ) → Member x b → Member x a) → a ≡ b
unfolding Apart All Member
apart_same [] [] A B s t f g = refl
apart_same [] (y ∷ b) A B s t f g = absurd (g y (inl refl))
apart_same (x ∷ a) [] A B s t f g = absurd (f x (inl refl))
apart_same (x ∷ a) (y ∷ b) A B s t f g =
    let sx = span A.0 in
    let sy = span B.0 in
    let e : x ≡ y = ⊎_elim (λ e. e) (λ (m : Member x b). ⊎_elim (λ e. sym e) (λ (k : Member y a).
    let u : last_leaf y < first_leaf x = all_at (λ w. last_leaf y < first_leaf w) b t.0 x m in
    let v : last_leaf x < first_leaf y = all_at (λ w. last_leaf x < first_leaf w) a s.0 y k in
    absurd (omega arith)) (g y (inl refl))) (f x (inl refl)) in
    ap₂ (λ (z : ℕ) (l : List ℕ). z ∷ l) e (apart_same a b A.1 B.1 s.1 t.1
    (λ z m. ⊎_elim (λ (q : z ≡ y). let v : last_leaf x < first_leaf z = all_at (λ w. last_leaf x < first_leaf w) a s.0 z m in absurd (omega (arith, ap first_leaf q, ap first_leaf e))) (λ k. k) (f z (inr m)))
    (λ z m. ⊎_elim (λ (q : z ≡ x). let v : last_leaf y < first_leaf z = all_at (λ w. last_leaf y < first_leaf w) b t.0 z m in absurd (omega (arith, ap first_leaf q, ap first_leaf e))) (λ k. k) (g z (inr m))))

-- THE THEOREM
pub normal_unique : (a b : List ℕ) → Normal a → Normal b → SameLeaves a b → a ≡ b
normal_unique a b A B same =
    apart_same a b A.cells B.cells A.apart B.apart (same_member a b A B same) (same_member b a B A (λ n. sym (same n)))

-- each cell of the normal list has a raw one inside it
pub raw_in : (raw a : List ℕ) → All Cell raw → Normal a → SameLeaves a raw → (d : ℕ) → Member d a → (r : ℕ) × Member r raw × In r d
raw_in raw a C A same d m =
    let D = all_at Cell a A.cells d m in
    let s = span D in
    let w = covers→ raw (lo d) C (sym (same (lo d)) ∙ covers← a (lo d) A.cells (d, m, omega arith, omega arith)) in
    let x = same_held a raw A C same w.0 w.1 in
    let e : x.0 ≡ d = apart_one a A.cells A.apart x.0 d (lo d) x.1 m (omega (arith, x.2.0, w.2)) (omega (arith, x.2.1, w.3)) (omega arith) (omega arith) in
    (w.0, w.1, (omega (arith, x.2.0, ap lo e), omega (arith, x.2.1, ap hi e)))
