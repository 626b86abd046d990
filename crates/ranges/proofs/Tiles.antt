-- A stretch as cells: they are its leaves, in order, each the largest that fits.
use mathlib.Core.Path.{◌≡◌, refl, sym, ap, ap₂, ◌∙◌, subst}
use mathlib.Core.Logic.{inl, inr, ⊎_elim, by_cases}
use mathlib.Core.Bool.{Bool, true, false, ◌&&◌, ◌||◌, and-eq-true_iff}
use mathlib.Core.List.{List, [], ◌∷◌}
use Prim.Native.Nat.{ℕ, zero, suc, ◌+◌, ◌-◌, ◌*◌, ◌/◌, ◌%◌, ◌^◌, ◌≤◌, ◌<◌}
use native.Mathlib.Nat.{div-add-mod', div-lt_iff_lt-mul, mod-one, mul-mod_left, mul_assoc}
use native.Mathlib.Omega.{arith}
use native.Mathlib.Decide.{ℕ_discrete}
use lib.ListN.{length}
use lib.Pow.{pow_pos, pow_mono, pow-add}
use lib.Dec.{leb, ltb, eqb}
use borrow.Author.Tests.{leb-true, le-leb, ltb-true, ltb-false, lt-ltb, le-ltb, eqb-true, eq-eqb}
use Rattle.cellid.specs.CellId.{Cell, IsCell, id_of, bit_at, first_leaf, last_leaf, has_leaf}
use Rattle.cellid.proofs.Laws.{odd_mul, or_true, true_or, bool_iff}
use Rattle.order.specs.Order.{All}
use Rattle.order.proofs.OrderLaws.{which}
use Rattle.cellunion.specs.CellUnion.{lo, hi, covers, Member, Apart}
use Rattle.cellunion.proofs.Spans.{lo_is, hi_is, span, leaf→, leaf←}
use Rattle.cellunion.proofs.Unique.{all_at, at_all}
use Rattle.ranges.specs.Ranges.{leaves, fits, size_from, size, tile_by, tile}

pub clash : {A : Type 0} (b : Bool) → b ≡ true → b ≡ false → A
clash b t f = absurd (let z : true ≡ false = sym t ∙ f in let y : ◌≡◌ {A = ℕ} 0 1 = cc in omega arith)

-- ---- the leaf n lies in [s, e)

unfoldable pub between : ℕ → ℕ → ℕ → Bool
between s e n = leb s n && ltb n e

pub between→ : (s e n : ℕ) → between s e n ≡ true → (s ≤ n) × (n < e)
unfolding between
between→ s e n t = let r = (and-eq-true_iff (leb s n) (ltb n e)).0 t in (leb-true _ _ r.0, ltb-true _ _ r.1)

pub between← : (s e n : ℕ) → s ≤ n → n < e → between s e n ≡ true
unfolding between
between← s e n a b = rw (le-leb s n a, lt-ltb n e b)

pub and_both : (a b : Bool) → a ≡ true → b ≡ true → (a && b) ≡ true
and_both a b p q = rw (p, q)

between_join : (s m e n : ℕ) → s ≤ m → m ≤ e → (between s m n || between m e n) ≡ between s e n
between_join s m e n h g = bool_iff (between s m n || between m e n) (between s e n)
    (λ t. ⊎_elim
    (λ u. let r = between→ s m n u in between← s e n r.0 (omega (arith, r.1)))
    (λ u. let r = between→ m e n u in between← s e n (omega (arith, r.0)) r.1)
    (or_true (between s m n) (between m e n) t))
    (λ t. let r = between→ s e n t in ⊎_elim
    (λ (u : ltb n m ≡ true). true_or (between s m n) (between m e n) (inl (between← s m n r.0 (ltb-true _ _ u))))
    (λ (u : ltb n m ≡ false). true_or (between s m n) (between m e n) (inr (between← m e n (ltb-false _ _ u) r.1)))
    (which (ltb n m)))

pub between_none : (s e n : ℕ) → e ≤ s → between s e n ≡ false
between_none s e n h = ⊎_elim (λ (t : between s e n ≡ true). let r = between→ s e n t in absurd (omega (arith, r.0, r.1))) (λ t. t) (which (between s e n))

-- ---- the largest number of leaves

pub size_go : (K s e : ℕ) → fits (2 ^ (2 * suc K)) s e ≡ true → size_from (suc K) s e ≡ 2 ^ (2 * suc K)
unfolding size_from
size_go K s e t = rw (size_from, t)

pub size_on : (K s e : ℕ) → fits (2 ^ (2 * suc K)) s e ≡ false → size_from (suc K) s e ≡ size_from K s e
unfolding size_from
size_on K s e t = rw (size_from, t)

pub record Sized (K s e z : ℕ) : Type 0 where
  pub k : ℕ
  pub low : k ≤ K
  pub is : z ≡ 2 ^ (2 * k)
  pub on : s % z ≡ 0
  pub within : s + z ≤ e
  pub some : 0 < z

size_from_lem : (K s e : ℕ) → s < e → Sized K s e (size_from K s e)
unfolding fits size_from
size_from_lem zero s e h = record { k = 0; low = omega arith; is = refl; on = mod-one s; within = omega arith; some = omega arith }
size_from_lem (suc K) s e h = ⊎_elim
    (λ (t : fits (2 ^ (2 * suc K)) s e ≡ true).
    let r = (and-eq-true_iff (eqb (s % 2 ^ (2 * suc K)) 0) (leb (s + 2 ^ (2 * suc K)) e)).0 t in
    subst (Sized (suc K) s e) (sym (size_go K s e t)) (record { k = suc K; low = omega arith; is = refl; on = eqb-true _ _ r.0; within = leb-true _ _ r.1; some = pow_pos (2 * suc K) }))
    (λ (t : fits (2 ^ (2 * suc K)) s e ≡ false).
    let w = size_from_lem K s e h in
    subst (Sized (suc K) s e) (sym (size_on K s e t)) (record { k = w.k; low = omega (arith, w.low); is = w.is; on = w.on; within = w.within; some = w.some }))
    (which (fits (2 ^ (2 * suc K)) s e))

size_max : (K k s e : ℕ) → k ≤ K → fits (2 ^ (2 * k)) s e ≡ true → 2 ^ (2 * k) ≤ size_from K s e
unfolding size_from
size_max zero k s e h t = let z : k ≡ 0 = omega arith in rw z (omega arith)
size_max (suc K) k s e h t = ⊎_elim
    (λ (u : fits (2 ^ (2 * suc K)) s e ≡ true). rw (size_go K s e u) (pow_mono {i = 2 * k} {j = 2 * suc K} (omega arith)))
    (λ (u : fits (2 ^ (2 * suc K)) s e ≡ false). rw (size_on K s e u) (size_max K k s e (by_cases (ℕ_discrete k (suc K))
    (λ q. clash (fits (2 ^ (2 * suc K)) s e) (subst (λ (x : ℕ). fits (2 ^ (2 * x)) s e ≡ true) q t) u)
    (λ q. omega arith)) t))
    (which (fits (2 ^ (2 * suc K)) s e))

-- ---- the cell of z leaves from s on

pub record Placed (s z : ℕ) : Type 0 where
  pub cell : Cell (2 * s + z)
  pub lo_s : lo (2 * s + z) ≡ s
  pub hi_s : hi (2 * s + z) ≡ s + z

placed : (k s : ℕ) → k ≤ 30 → s % 2 ^ (2 * k) ≡ 0 → s + 2 ^ (2 * k) ≤ leaves → Placed s (2 ^ (2 * k))
unfolding id_of
placed k s h o r =
    let C = 2 ^ (2 * k) in
    let p = s / C in
    let e : p * C ≡ s = omega (arith, div-add-mod' s C) in
    let b : bit_at (30 - k) ≡ C = (let n : 30 - (30 - k) ≡ k = omega arith in ap (λ (x : ℕ). 2 ^ (2 * x)) n) in
    let w : 2 ^ (2 * (30 - k)) * C ≡ 2 ^ 60 = (let n : 2 * (30 - k) + 2 * k ≡ 60 = omega arith in sym (pow-add 2 (2 * (30 - k)) (2 * k)) ∙ ap (λ (x : ℕ). 2 ^ x) n) in
    let I : IsCell (2 * s + C) (30 - k) p = record {
      level = omega arith;
      place = (div-lt_iff_lt-mul (pow_pos (2 * k))).1 (omega (arith, w, mul_assoc 6 (2 ^ (2 * (30 - k))) C, pow_pos (2 * k)));
      is = sym (ap (λ (x : ℕ). (2 * p + 1) * x) b ∙ odd_mul p C ∙ ap (λ (x : ℕ). 2 * x + C) e);
    } in
    record {
      cell = (30 - k, p, I);
      lo_s = lo_is I ∙ ap (λ (x : ℕ). p * x) b ∙ e;
      hi_s = hi_is I ∙ ap (λ (x : ℕ). p * x + x) b ∙ ap (λ (x : ℕ). x + C) e;
    }

pub sized : (s e : ℕ) → s < e → Sized 30 s e (size s e)
unfolding size
sized s e h = size_from_lem 30 s e h

size_cell : (s e : ℕ) → s < e → e ≤ leaves → Placed s (size s e)
size_cell s e h r =
    let z = sized s e h in
    subst (Placed s) (sym z.is) (placed z.k s z.low (ap (λ (x : ℕ). s % x) (sym z.is) ∙ z.on) (omega (arith, z.within, z.is)))

-- no cell from s on in the stretch is larger
size_most : (s e d : ℕ) → Cell d → lo d ≡ s → hi d ≤ e → hi d ≤ s + size s e
unfolding size fits
size_most s e d D l h =
    let k = 30 - D.0 in
    let C = 2 ^ (2 * k) in
    let a : D.1 * C ≡ s = sym (lo_is D.2) ∙ l in
    let b : hi d ≡ s + C = hi_is D.2 ∙ ap (λ (x : ℕ). x + C) a in
    let m : s % C ≡ 0 = ap (λ (x : ℕ). x % C) (sym a) ∙ mul-mod_left D.1 C in
    let t : fits C s e ≡ true = rw (fits, eq-eqb (s % C) 0 m, le-leb (s + C) e (omega arith)) in
    omega (arith, size_max 30 k s e (omega arith) t)

-- ---- the tiles

by_go : (k s e : ℕ) → s < e → tile_by (suc k) s e ≡ (2 * s + size s e) ∷ tile_by k (s + size s e) e
unfolding tile_by
by_go k s e h = rw (tile_by, lt-ltb s e h)

by_end : (k s e : ℕ) → e ≤ s → tile_by k s e ≡ []
unfolding tile_by
by_end zero s e h = refl
by_end (suc k) s e h = rw (tile_by, le-ltb s e h)

by_same : (k j s e : ℕ) → e - s ≤ k → e - s ≤ j → tile_by k s e ≡ tile_by j s e
by_same zero j s e a b = by_end zero s e (omega arith) ∙ sym (by_end j s e (omega arith))
by_same (suc k) zero s e a b = by_end (suc k) s e (omega arith) ∙ sym (by_end zero s e (omega arith))
by_same (suc k) (suc j) s e a b = ⊎_elim
    (λ (t : ltb s e ≡ true). let h : s < e = ltb-true _ _ t in let z = sized s e h in
    by_go k s e h ∙ ap (λ (l : List ℕ). (2 * s + size s e) ∷ l) (by_same k j (s + size s e) e (omega (arith, z.some)) (omega (arith, z.some))) ∙ sym (by_go j s e h))
    (λ (t : ltb s e ≡ false). let h : e ≤ s = ltb-false _ _ t in by_end (suc k) s e h ∙ sym (by_end (suc j) s e h))
    (which (ltb s e))

pub tile_go : (s e : ℕ) → s < e → tile s e ≡ (2 * s + size s e) ∷ tile (s + size s e) e
unfolding tile
tile_go s e h =
    let z = sized s e h in
    let n : e - s ≡ suc (e - s - 1) = omega arith in
    ap (λ (k : ℕ). tile_by k s e) n ∙ by_go (e - s - 1) s e h ∙ ap (λ (l : List ℕ). (2 * s + size s e) ∷ l) (by_same (e - s - 1) (e - (s + size s e)) (s + size s e) e (omega (arith, z.some)) (omega arith))

pub tile_end : (s e : ℕ) → e ≤ s → tile s e ≡ []
unfolding tile
tile_end s e h = by_end (e - s) s e h

pub tile_nil : (s : ℕ) → tile s s ≡ []
tile_nil s = tile_end s s (omega arith)

pub record Tiled (s e : ℕ) (l : List ℕ) : Type 0 where
  pub cells : All Cell l
  pub apart : Apart l
  pub from : All (λ y. s ≤ lo y) l
  pub to : All (λ y. hi y ≤ e) l
  pub short : s + length l ≤ e
  pub has : (n : ℕ) → covers l n ≡ between s e n
  pub most : (c d : ℕ) → Member c l → Cell d → lo d ≡ lo c → hi d ≤ e → hi d ≤ hi c

none : (s e : ℕ) → s ≤ e → e ≤ s → Tiled s e []
unfolding All Apart covers Member
none s e g h = record { cells = tt; apart = tt; from = tt; to = tt; short = omega arith; has = λ n. sym (between_none s e n h); most = λ c d m. absurd m }

cell_has : (s z n : ℕ) → Placed s z → has_leaf (2 * s + z) n ≡ between s (s + z) n
cell_has s z n P = bool_iff (has_leaf (2 * s + z) n) (between s (s + z) n)
    (λ t. let r = leaf→ n P.cell t in between← s (s + z) n (omega (arith, r.0, P.lo_s)) (omega (arith, r.1, P.hi_s)))
    (λ t. let r = between→ s (s + z) n t in leaf← n P.cell (omega (arith, r.0, P.lo_s)) (omega (arith, r.1, P.hi_s)))

one_more : (s e z : ℕ) (l : List ℕ) → Placed s z → 0 < z → ((d : ℕ) → Cell d → lo d ≡ s → hi d ≤ e → hi d ≤ s + z) → Tiled (s + z) e l → Tiled s e ((2 * s + z) ∷ l)
unfolding All Apart covers Member
one_more s e z l P p big T =
    let x = span P.cell in
    record {
      cells = (P.cell, T.cells);
      apart = (
        at_all (λ y. last_leaf (2 * s + z) < first_leaf y) l (λ y m.
            let g : s + z ≤ lo y = all_at (λ y. s + z ≤ lo y) l T.from y m in
            let u = span (all_at Cell l T.cells y m) in omega (arith, P.hi_s)),
        T.apart,
      );
      from = (omega (arith, P.lo_s), at_all (λ y. s ≤ lo y) l (λ y m. let g : s + z ≤ lo y = all_at (λ y. s + z ≤ lo y) l T.from y m in omega arith));
      to = (omega (arith, P.hi_s, T.short), T.to);
      short = omega (arith, T.short);
      has = λ n. ap₂ (λ (a b : Bool). a || b) (cell_has s z n P) (T.has n) ∙ between_join s (s + z) e n (omega arith) (omega (arith, T.short));
      most = λ c d m D q h. ⊎_elim
          (λ (i : c ≡ 2 * s + z). omega (arith, big d D (q ∙ ap lo i ∙ P.lo_s) h, ap hi i, P.hi_s))
          (λ (k : Member c l). T.most c d k D q h) m;
    }

tiled_none : (s e : ℕ) → s ≤ e → e ≤ s → Tiled s e (tile s e)
tiled_none s e g h = subst (Tiled s e) (sym (tile_end s e h)) (none s e g h)

tiled_by : (k s e : ℕ) → e - s ≤ k → s ≤ e → e ≤ leaves → Tiled s e (tile s e)
tiled_by zero s e f g r = tiled_none s e g (omega arith)
tiled_by (suc k) s e f g r = ⊎_elim
    (λ (t : ltb s e ≡ true).
    let h : s < e = ltb-true _ _ t in
    let z = sized s e h in
    subst (Tiled s e) (sym (tile_go s e h)) (one_more s e (size s e) (tile (s + size s e) e) (size_cell s e h r) z.some (size_most s e) (tiled_by k (s + size s e) e (omega (arith, z.some)) z.within r)))
    (λ (t : ltb s e ≡ false). tiled_none s e g (ltb-false _ _ t))
    (which (ltb s e))

pub tiled : (s e : ℕ) → s ≤ e → e ≤ leaves → Tiled s e (tile s e)
tiled s e = tiled_by (e - s) s e (omega arith)
