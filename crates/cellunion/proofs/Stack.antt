-- One pass of normalising: the kept cells stay normal and hold the same leaves.
use mathlib.Core.Path.{◌≡◌, refl, sym, ap, ap₂, ◌∙◌, subst}
use mathlib.Core.Logic.{inl, inr, ⊎_elim}
use mathlib.Core.Bool.{true, false, ◌&&◌, and-eq-true_iff}
use mathlib.Core.List.{List, [], ◌∷◌}
use Prim.Native.Nat.{ℕ, suc, ◌+◌, ◌-◌, ◌*◌, ◌/◌, ◌^◌, ◌≤◌, ◌<◌}
use native.Mathlib.Omega.{arith}
use lib.Pow.{pow-add}
use lib.Dec.{ltb, eqb}
use lib.ListN.{length}
use borrow.Author.Tests.{ltb-true, ltb-false, lt-ltb, eqb-true, eq-eqb}
use Rattle.cellid.specs.CellId.{Cell, IsCell, id_of, bit_at, level_of, parent_at, child_of, holds}
use Rattle.cellid.proofs.Laws.{level_cell, parent_id}
use Rattle.cellid.proofs.Leaves.{child_cell}
use Rattle.cellunion.specs.CellUnion.{lo, hi, Member, NoFour, up_one, is_four, collapse, clear_of, keep_cell}
use Rattle.cellunion.specs.Stack.{Down, Stack, AllBefore}
use Rattle.order.specs.Order.{All}
use Rattle.order.proofs.OrderLaws.{which, all_weak}
use Rattle.cellunion.proofs.Spans.{span, In, Nest, left, right, inside, around, nest, Kids, kids, holds_in, holds_no}
use Rattle.cellunion.proofs.Unique.{all_at, at_all, Covered}

-- ---- the parent

pub up_is : {c L q : ℕ} → IsCell c (L + 1) q → IsCell (up_one c) L (q / 4)
up_is {c} {L} {q} d = record {
  level = omega (arith, d.level);
  place = omega (arith, d.place, e);
  is = ap₂ parent_at d.is l ∙ parent_id L 1 q d.level;
}
  where
    l : level_of c - 1 ≡ L
    l = omega (arith, level_cell c (L + 1) q d)

    e : 2 ^ (2 * (L + 1)) ≡ 4 * 2 ^ (2 * L)
    e = let n : 2 * (L + 1) ≡ 2 + 2 * L = omega arith in ap (λ (n : ℕ). 2 ^ n) n ∙ pow-add 2 2 (2 * L)

pub up_kid : {P L p : ℕ} (k : ℕ) → IsCell P L p → L < 30 → k < 4 → up_one (child_of P k) ≡ P
up_kid {P} {L} {p} k c h g =
    let u = up_is (child_cell k c h g) in
    let e : (4 * p + k) / 4 ≡ p = omega arith in
    u.is ∙ ap (id_of L) e ∙ sym c.is

pub record Four (x y z c : ℕ) : Type 0 where
  pub L : ℕ
  pub p : ℕ
  pub cell : IsCell (up_one c) L p
  pub small : L < 30
  pub is0 : x ≡ child_of (up_one c) 0
  pub is1 : y ≡ child_of (up_one c) 1
  pub is2 : z ≡ child_of (up_one c) 2
  pub is3 : c ≡ child_of (up_one c) 3

pub four→ : {x y z c : ℕ} → Cell c → is_four x y z c ≡ true → Four x y z c
unfolding is_four
four→ {x} {y} {z} {c} C t =
    let P = up_one c in
    let r = (and-eq-true_iff (ltb 0 (level_of c)) (eqb x (child_of P 0) && (eqb y (child_of P 1) && (eqb z (child_of P 2) && eqb c (child_of P 3))))).0 t in
    let r1 = (and-eq-true_iff (eqb x (child_of P 0)) (eqb y (child_of P 1) && (eqb z (child_of P 2) && eqb c (child_of P 3)))).0 r.1 in
    let r2 = (and-eq-true_iff (eqb y (child_of P 1)) (eqb z (child_of P 2) && eqb c (child_of P 3))).0 r1.1 in
    let r3 = (and-eq-true_iff (eqb z (child_of P 2)) (eqb c (child_of P 3))).0 r2.1 in
    let a : 0 < level_of c = ltb-true _ _ r.0 in
    let b : level_of c ≡ C.0 = level_cell c C.0 C.1 C.2 in
    let e : C.0 ≡ (C.0 - 1) + 1 = omega arith in
    record {
      L = C.0 - 1;
      p = C.1 / 4;
      cell = up_is (subst (λ (n : ℕ). IsCell c n C.1) e C.2);
      small = omega (arith, C.2.level);
      is0 = eqb-true _ _ r1.0;
      is1 = eqb-true _ _ r2.0;
      is2 = eqb-true _ _ r3.0;
      is3 = eqb-true _ _ r3.1;
    }

pub four← : {x y z c P L p : ℕ} → IsCell P L p → L < 30 → x ≡ child_of P 0 → y ≡ child_of P 1 → z ≡ child_of P 2 → c ≡ child_of P 3 → is_four x y z c ≡ true
unfolding is_four
four← {x} {y} {z} {c} {P} {L} {p} C h a b d e =
    let u : up_one c ≡ P = ap up_one e ∙ up_kid 3 C h (omega arith) in
    let l : level_of c ≡ L + 1 = ap level_of e ∙ level_cell (child_of P 3) (L + 1) (4 * p + 3) (child_cell 3 C h (omega arith)) in
    rw (lt-ltb 0 (level_of c) (omega arith), u, eq-eqb x (child_of P 0) a, eq-eqb y (child_of P 1) b, eq-eqb z (child_of P 2) d, eq-eqb c (child_of P 3) e)

-- ---- stacks

pub tail : {t : ℕ} {s : List ℕ} → Stack (t ∷ s) → Stack s
unfolding All Down NoFour Member
tail S = record {
  cells = S.cells.1;
  down = S.down.1;
  nofour = λ L p h g a b c d. S.nofour L p h g (inr a) (inr b) (inr c) (inr d);
}

pub stack_nil : Stack []
unfolding All Down NoFour Member
stack_nil = record { cells = tt; down = tt; nofour = λ L p h g a b c d. a }

-- all that a covers, b covers
abbrev pub Cov : List ℕ → List ℕ → Type 0
Cov a b = (n : ℕ) → Covered a n → Covered b n

pub cov_members : (a b : List ℕ) → ((x : ℕ) → Member x a → Member x b) → Cov a b
cov_members a b f n c = (c.0, f c.0 c.1, c.2, c.3)

-- one cell more in front, where r has a cell around it
pub cov_in : (x y : ℕ) (l r : List ℕ) → In x y → Member y r → Cov l r → Cov (x ∷ l) r
unfolding Member
cov_in x y l r i m g n w = ⊎_elim
    (λ (q : w.0 ≡ x). (y, m, omega (arith, w.2, ap lo q, i.0), omega (arith, w.3, ap hi q, i.1)))
    (λ (k : Member w.0 l). g n (w.0, k, w.2, w.3))
    w.1

-- ---- what the new cell takes out

pub record Cleared (s : List ℕ) (c : ℕ) (r : List ℕ) : Type 0 where
  pub stack : Stack r
  pub under : All (λ y. hi y ≤ lo c) r
  pub to : Cov s (c ∷ r)
  pub from : Cov r s
  pub short : length r ≤ length s

before : {t c : ℕ} → Cell t → Cell c → lo t < hi c → (In c t → ⊥) → holds c t ≡ false → Nest t c → hi t ≤ lo c
before T C r n f (left h) = h
before T C r n f (right h) = absurd (omega arith)
before T C r n f (inside h) = absurd (holds_no C T f h)
before T C r n f (around h) = absurd (n h)

-- the next one down cannot hold c either: c would lie before the top
pub not_next : (t c : ℕ) (s : List ℕ) → Cell c → 2 * lo t + 1 ≤ c → All (λ y. hi y ≤ lo t) s → (y : ℕ) → Member y s → In c y → ⊥
not_next t c s C r a y m i =
    let h : hi y ≤ lo t = all_at (λ y. hi y ≤ lo t) s a y m in
    let u = span C in omega (arith, i.1)

-- what begins before c does begins before c ends
pub begun : (s : List ℕ) (c : ℕ) → Cell c → AllBefore s c → All (λ y. lo y < hi c) s
begun s c C r = all_weak (λ y. 2 * lo y + 1 ≤ c) (λ y. lo y < hi c) s (λ y h. let u = span C in omega arith) r

pub clear_laws : (c : ℕ) → Cell c → (s : List ℕ) → Stack s → All (λ y. lo y < hi c) s → ((y : ℕ) → Member y s → In c y → ⊥) → Cleared s c (clear_of c s)
unfolding clear_of All Down Member
clear_laws c C [] S r n = record { stack = S; under = tt; to = λ n c. absurd c.1; from = λ n c. c; short = omega arith }
clear_laws c C (t ∷ s) S r n = ⊎_elim
    (λ (e : holds c t ≡ true).
    let i = holds_in C S.cells.0 e in
    let R = clear_laws c C s (tail S) r.1 (λ y m. n y (inr m)) in
    rw (e, clear_of) (record {
      stack = R.stack;
      under = R.under;
      to = cov_in t c s (c ∷ clear_of c s) i (inl refl) R.to;
      from = λ n k. let w = R.from n k in (w.0, inr w.1, w.2, w.3);
      short = omega (arith, R.short);
    }))
    (λ (e : holds c t ≡ false).
    let b : hi t ≤ lo c = before S.cells.0 C r.0 (n t (inl refl)) e (nest S.cells.0 C) in
    let u = span S.cells.0 in
    rw (e, clear_of) (record {
      stack = S;
      under = (b, all_weak (λ y. hi y ≤ lo t) (λ y. hi y ≤ lo c) s (λ y h. omega arith) S.down.0);
      to = λ n k. (k.0, inr k.1, k.2, k.3);
      from = λ n k. k;
      short = omega arith;
    }))
    (which (holds c t))

-- ---- four siblings stand on top, if they are there at all and were not before

pub next_is : (z : ℕ) (t : List ℕ) (b w : ℕ) → Cell z → hi z ≤ b → All (λ y. hi y ≤ lo z) t → Member w (z ∷ t) → hi w ≡ b → w ≡ z
unfolding Member
next_is z t b w Z h a m e = ⊎_elim (λ q. q) (λ m. let g : hi w ≤ lo z = all_at (λ y. hi y ≤ lo z) t a w m in let s = span Z in absurd (omega arith)) m

unfoldable pub TopFour : List ℕ → ℕ → ℕ → Type 0
TopFour [] c P = ⊥
TopFour (z ∷ []) c P = ⊥
TopFour (z ∷ y ∷ []) c P = ⊥
TopFour (z ∷ y ∷ x ∷ s) c P = (x ≡ child_of P 0) × (y ≡ child_of P 1) × (z ≡ child_of P 2) × (c ≡ child_of P 3)

rest_of : {w z : ℕ} (t : List ℕ) → Member w (z ∷ t) → (w ≡ z → ⊥) → Member w t
unfolding Member
rest_of t m n = ⊎_elim (λ e. absurd (n e)) (λ m. m) m

none_of : (w : ℕ) → Member w [] → ⊥
unfolding Member
none_of w m = m

top_four : (s : List ℕ) (c P C : ℕ) → All Cell s → Down s → All (λ y. hi y ≤ lo c) s → Kids P C → c ≡ child_of P 3
    → Member (child_of P 0) s → Member (child_of P 1) s → Member (child_of P 2) s → TopFour s c P
unfolding TopFour All Down
top_four [] c P C A D U K e m0 m1 m2 = none_of (child_of P 0) m0
top_four (z ∷ []) c P C A D U K e m0 m1 m2 =
    let e2 = next_is z [] (lo c) (child_of P 2) A.0 U.0 D.0 m2 (omega (arith, ap lo e)) in
    none_of (child_of P 1) (rest_of [] m1 (λ q. omega (arith, ap lo q, ap lo e2)))
top_four (z ∷ y ∷ []) c P C A D U K e m0 m1 m2 =
    let e2 = next_is z (y ∷ []) (lo c) (child_of P 2) A.0 U.0 D.0 m2 (omega (arith, ap lo e)) in
    let m1' = rest_of (y ∷ []) m1 (λ q. omega (arith, ap lo q, ap lo e2)) in
    let e1 = next_is y [] (lo z) (child_of P 1) A.1.0 D.0.0 D.1.0 m1' (omega (arith, ap lo e2)) in
    none_of (child_of P 0) (rest_of [] (rest_of (y ∷ []) m0 (λ q. omega (arith, ap lo q, ap lo e2))) (λ q. omega (arith, ap lo q, ap lo e1)))
top_four (z ∷ y ∷ x ∷ s) c P C A D U K e m0 m1 m2 =
    let e2 = next_is z (y ∷ x ∷ s) (lo c) (child_of P 2) A.0 U.0 D.0 m2 (omega (arith, ap lo e)) in
    let m1' = rest_of (y ∷ x ∷ s) m1 (λ q. omega (arith, ap lo q, ap lo e2)) in
    let e1 = next_is y (x ∷ s) (lo z) (child_of P 1) A.1.0 D.0.0 D.1.0 m1' (omega (arith, ap lo e2)) in
    let m0' = rest_of (x ∷ s) (rest_of (y ∷ x ∷ s) m0 (λ q. omega (arith, ap lo q, ap lo e2))) (λ q. omega (arith, ap lo q, ap lo e1)) in
    let e0 = next_is x s (lo y) (child_of P 0) A.1.1.0 D.1.0.0 D.1.1.0 m0' (omega (arith, ap lo e1)) in
    (sym e0, sym e1, sym e2, e)

-- c on top makes no four siblings, unless the top three and c are such
pub push_nofour : (s : List ℕ) (c : ℕ) → Stack s → Cell c → All (λ y. hi y ≤ lo c) s → ((P L p : ℕ) → IsCell P L p → L < 30 → TopFour s c P → ⊥) → NoFour (c ∷ s)
unfolding NoFour Member
push_nofour s c S C U f L p h g m0 m1 m2 m3 =
    let P = id_of L p in
    let I : IsCell P L p = record { level = omega arith; place = g; is = refl } in
    let K = kids I h in
    ⊎_elim
    (λ (e : child_of P 3 ≡ c). f P L p I h (top_four s c P (bit_at (L + 1)) S.cells S.down U K (sym e)
    (rest_of s m0 (λ q. omega (arith, ap lo q, ap lo e))) (rest_of s m1 (λ q. omega (arith, ap lo q, ap lo e))) (rest_of s m2 (λ q. omega (arith, ap lo q, ap lo e)))))
    (λ (m : Member (child_of P 3) s).
    let u : hi (child_of P 3) ≤ lo c = all_at (λ y. hi y ≤ lo c) s U (child_of P 3) m in
    S.nofour L p h g (rest_of s m0 (λ q. omega (arith, ap lo q))) (rest_of s m1 (λ q. omega (arith, ap lo q))) (rest_of s m2 (λ q. omega (arith, ap lo q))) m)
    m3

-- ---- c goes on top and collapses

pub record Collapsed (s : List ℕ) (c b : ℕ) (r : List ℕ) : Type 0 where
  pub stack : Stack r
  pub to : Cov (c ∷ s) r
  pub from : Cov r (c ∷ s)
  pub low : AllBefore r b
  pub short : length r ≤ suc (length s)

push_laws : (s : List ℕ) (c b : ℕ) → Stack s → Cell c → All (λ y. hi y ≤ lo c) s → 2 * lo c + 1 ≤ b → ((P L p : ℕ) → IsCell P L p → L < 30 → TopFour s c P → ⊥) → Collapsed s c b (c ∷ s)
unfolding All Down
push_laws s c b S C U l f = record {
  stack = record { cells = (C, S.cells); down = (U, S.down); nofour = push_nofour s c S C U f };
  to = λ n k. k;
  from = λ n k. k;
  low = (
    l,
    at_all (λ y. 2 * lo y + 1 ≤ b) s (λ y m.
        let h : hi y ≤ lo c = all_at (λ y. hi y ≤ lo c) s U y m in
        let u = span (all_at Cell s S.cells y m) in omega arith),
  );
  short = omega arith;
}

-- the leaves of four siblings and of their parent
four_to : (x y z c P C : ℕ) (s : List ℕ) → Kids P C → x ≡ child_of P 0 → y ≡ child_of P 1 → z ≡ child_of P 2 → c ≡ child_of P 3 → Cov (c ∷ z ∷ y ∷ x ∷ s) (P ∷ s)
unfolding Member
four_to x y z c P C s K e0 e1 e2 e3 n k =
    ⊎_elim (λ (q : k.0 ≡ c). (P, inl refl, omega (arith, k.2, k.3, ap lo q, ap hi q, ap lo e3, ap hi e3), omega (arith, k.2, k.3, ap lo q, ap hi q, ap lo e3, ap hi e3)))
    (⊎_elim (λ (q : k.0 ≡ z). (P, inl refl, omega (arith, k.2, k.3, ap lo q, ap hi q, ap lo e2, ap hi e2), omega (arith, k.2, k.3, ap lo q, ap hi q, ap lo e2, ap hi e2)))
    (⊎_elim (λ (q : k.0 ≡ y). (P, inl refl, omega (arith, k.2, k.3, ap lo q, ap hi q, ap lo e1, ap hi e1), omega (arith, k.2, k.3, ap lo q, ap hi q, ap lo e1, ap hi e1)))
    (⊎_elim (λ (q : k.0 ≡ x). (P, inl refl, omega (arith, k.2, k.3, ap lo q, ap hi q, ap lo e0, ap hi e0), omega (arith, k.2, k.3, ap lo q, ap hi q, ap lo e0, ap hi e0)))
    (λ m. (k.0, inr m, k.2, k.3))))) k.1

four_from : (x y z c P C : ℕ) (s : List ℕ) → Kids P C → x ≡ child_of P 0 → y ≡ child_of P 1 → z ≡ child_of P 2 → c ≡ child_of P 3 → Cov (P ∷ s) (c ∷ z ∷ y ∷ x ∷ s)
unfolding Member
four_from x y z c P C s K e0 e1 e2 e3 n k =
    ⊎_elim (λ (q : k.0 ≡ P).
    let a : lo P ≤ n = omega (arith, k.2, ap lo q) in
    let b : n < hi P = omega (arith, k.3, ap hi q) in
    four_part (lo P) C n a (omega arith)
    (λ h. (x, inr (inr (inr (inl refl))), omega (arith, ap lo e0), omega (arith, ap hi e0)))
    (λ g h. (y, inr (inr (inl refl)), omega (arith, ap lo e1), omega (arith, ap hi e1)))
    (λ g h. (z, inr (inl refl), omega (arith, ap lo e2), omega (arith, ap hi e2)))
    (λ g. (c, inl refl, omega (arith, ap lo e3), omega (arith, ap hi e3))))
    (λ m. (k.0, inr (inr (inr (inr m))), k.2, k.3)) k.1
  where
    four_part : {A : Type 0} (a C n : ℕ) → a ≤ n → n < a + 4 * C → (n < a + C → A) → (a + C ≤ n → n < a + 2 * C → A) → (a + 2 * C ≤ n → n < a + 3 * C → A) → (a + 3 * C ≤ n → A) → A
    four_part a C n h g f0 f1 f2 f3 =
        ⊎_elim (λ (t : ltb n (a + C) ≡ true). f0 (ltb-true _ _ t)) (λ (t0 : ltb n (a + C) ≡ false).
        ⊎_elim (λ (t : ltb n (a + 2 * C) ≡ true). f1 (ltb-false _ _ t0) (ltb-true _ _ t)) (λ (t1 : ltb n (a + 2 * C) ≡ false).
        ⊎_elim (λ (t : ltb n (a + 3 * C) ≡ true). f2 (ltb-false _ _ t1) (ltb-true _ _ t)) (λ (t2 : ltb n (a + 3 * C) ≡ false). f3 (ltb-false _ _ t2))
        (which (ltb n (a + 3 * C)))) (which (ltb n (a + 2 * C)))) (which (ltb n (a + C)))

-- what the parent takes the place of
pub record Rise (x c P : ℕ) (s : List ℕ) : Type 0 where
  pub cell : Cell P
  pub under : All (λ y. hi y ≤ lo P) s
  pub low : lo P ≤ lo c

pub rise : (x y z c : ℕ) (s : List ℕ) → Stack (z ∷ y ∷ x ∷ s) → Cell c → Four x y z c → Rise x c (up_one c) s
unfolding Down
rise x y z c s S C F =
    let K = kids F.cell F.small in
    let e : lo x ≡ lo (up_one c) = ap lo F.is0 ∙ K.lo0 in
    record {
      cell = (F.L, F.p, F.cell);
      under = subst (λ (n : ℕ). All (λ y. hi y ≤ n) s) e S.down.1.1.0;
      low = omega (arith, ap lo F.is3);
    }

collapse_if : (x y z c : ℕ) (s : List ℕ) → collapse (z ∷ y ∷ x ∷ s) c ≡ elim (is_four x y z c) [ true ↦ collapse s (up_one c) | false ↦ c ∷ z ∷ y ∷ x ∷ s ]
unfolding collapse
collapse_if x y z c s = refl

pub collapse_go : (x y z c : ℕ) (s : List ℕ) → is_four x y z c ≡ true → collapse (z ∷ y ∷ x ∷ s) c ≡ collapse s (up_one c)
collapse_go x y z c s e = collapse_if x y z c s ∙ rw e

pub collapse_end : (x y z c : ℕ) (s : List ℕ) → is_four x y z c ≡ false → collapse (z ∷ y ∷ x ∷ s) c ≡ c ∷ z ∷ y ∷ x ∷ s
collapse_end x y z c s e = collapse_if x y z c s ∙ rw e

pub collapse_laws : (s : List ℕ) (c b : ℕ) → Stack s → Cell c → All (λ y. hi y ≤ lo c) s → 2 * lo c + 1 ≤ b → Collapsed s c b (collapse s c)
unfolding collapse TopFour
collapse_laws [] c b S C U l = push_laws [] c b S C U l (λ P L p I h t. t)
collapse_laws (z ∷ []) c b S C U l = push_laws (z ∷ []) c b S C U l (λ P L p I h t. t)
collapse_laws (z ∷ y ∷ []) c b S C U l = push_laws (z ∷ y ∷ []) c b S C U l (λ P L p I h t. t)
collapse_laws (z ∷ y ∷ x ∷ s) c b S C U l = ⊎_elim
    (λ (e : is_four x y z c ≡ true).
    let F = four→ C e in
    let K = kids F.cell F.small in
    let R = rise x y z c s S C F in
    let D = collapse_laws s (up_one c) b (tail (tail (tail S))) R.cell R.under (omega (arith, R.low)) in
    rw (collapse_go x y z c s e) (record {
      stack = D.stack;
      to = λ n k. D.to n (four_to x y z c (up_one c) _ s K F.is0 F.is1 F.is2 F.is3 n k);
      from = λ n k. four_from x y z c (up_one c) _ s K F.is0 F.is1 F.is2 F.is3 n (D.from n k);
      low = D.low;
      short = omega (arith, D.short);
    }))
    (λ (e : is_four x y z c ≡ false). rw (collapse_end x y z c s e) (push_laws (z ∷ y ∷ x ∷ s) c b S C U l
    (λ P L p I h t. let w : true ≡ false = sym (four← {x = x} {y = y} {z = z} {c = c} I h t.0 t.1 t.2 t.3) ∙ e in let v : ◌≡◌ {A = ℕ} 0 1 = cc in omega arith)))
    (which (is_four x y z c))

-- ---- one more cell

pub record Kept (s : List ℕ) (c : ℕ) (r : List ℕ) : Type 0 where
  pub stack : Stack r
  pub to : Cov (c ∷ s) r
  pub from : Cov r (c ∷ s)
  pub low : AllBefore r c
  pub short : length r ≤ suc (length s)

two_steps : (s q r : List ℕ) (c : ℕ) → Cleared s c q → Collapsed q c c r → Kept s c r
unfolding Member
two_steps s q r c A B = record {
  stack = B.stack;
  to = λ n k. B.to n (⊎_elim (λ (e : k.0 ≡ c). (k.0, inl e, k.2, k.3)) (λ m. A.to n (k.0, m, k.2, k.3)) k.1);
  from = λ n k. let w = B.from n k in
      ⊎_elim (λ (e : w.0 ≡ c). (w.0, inl e, w.2, w.3)) (λ m. let v = A.from n (w.0, m, w.2, w.3) in (v.0, inr v.1, v.2, v.3)) w.1;
  low = B.low;
  short = omega (arith, A.short, B.short);
}

pub keep_laws : (s : List ℕ) (c : ℕ) → Stack s → Cell c → AllBefore s c → Kept s c (keep_cell s c)
unfolding keep_cell All Down Member
keep_laws [] c S C r =
    let u = span C in
    let B = push_laws [] c c S C tt (omega arith) (λ P L p I h t. unfold TopFour in t) in
    record { stack = B.stack; to = B.to; from = B.from; low = B.low; short = B.short }
keep_laws (t ∷ s) c S C r = ⊎_elim
    (λ (e : holds t c ≡ true).
    let i = holds_in S.cells.0 C e in
    rw (e, keep_cell) (record {
      stack = S;
      to = cov_in c t (t ∷ s) (t ∷ s) i (inl refl) (λ n k. k);
      from = λ n k. (k.0, inr k.1, k.2, k.3);
      low = r;
      short = omega arith;
    }))
    (λ (e : holds t c ≡ false).
    let u = span C in
    let A = clear_laws c C (t ∷ s) S (begun (t ∷ s) c C r) (λ y m i. ⊎_elim (λ (q : y ≡ t). holds_no S.cells.0 C e (omega (arith, i.0, ap lo q), omega (arith, i.1, ap hi q))) (λ m. not_next t c s C r.0 S.down.0 y m i) m) in
    rw (e, keep_cell) (two_steps (t ∷ s) (clear_of c (t ∷ s)) _ c A (collapse_laws (clear_of c (t ∷ s)) c c A.stack C A.under (omega arith))))
    (which (holds t c))
