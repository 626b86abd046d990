-- Stretches as cells: the largest cell that fits, the cells of one stretch, and those of pairs one after another.
use mathlib.Core.Path.{◌≡◌, refl, sym, ap, ◌∙◌, subst}
use mathlib.Core.Logic.{⊎_elim}
use mathlib.Core.Bool.{Bool, true, false}
use mathlib.Core.List.{List, [], ◌∷◌, ◌++◌}
use Prim.Native.Nat.{ℕ, zero, suc, ◌+◌, ◌-◌, ◌*◌, ◌/◌, ◌%◌, ◌^◌, ◌≤◌, ◌<◌}
use native.Mathlib.Nat.{zero-mod, mul_assoc, mul_left_comm, mul-mod_left, div-add-mod'}
use native.Mathlib.Omega.{arith}
use lib.Seq.{sets, length-sets}
use lib.ListN.{length, get_or, drop, set, length-set}
use lib.Pow.{pow_mono, pow-add, shl-shr}
use lib.Count.{count_trailing_zeros}
use lib.Dec.{leb, ltb}
use borrow.Author.Tests.{ltb-true, ltb-false, le-leb, lt-leb, eq-eqb, ne_eqb}
use Rattle.cellid.proofs.Laws.{one_shl, odd_part, zeros_of}
use Rattle.order.proofs.OrderLaws.{which}
use Rattle.ranges.specs.Ranges.{leaves, pairs_from, is_pairs, fits, size_from, size, tile, each_pair, cells_of}
use Rattle.ranges.specs.Steps.{aligned}
use Rattle.ranges.proofs.Inputs.{Follows, pairs_cons, each_cons}
use Rattle.ranges.proofs.Tiles.{sized, size_go, size_on, tile_go, tiled}
use Rattle.cellid.proofs.Puts.{next_of, none_left, next_two, Put, put_part, put_done}

-- ---- the largest cell

fits_yes : (z s e : ℕ) → s % z ≡ 0 → leb (s + z) e ≡ fits z s e
unfolding fits
fits_yes z s e h = rw (fits, eq-eqb (s % z) 0 h)

fits_no : (z s e : ℕ) → (s % z ≡ 0 → ⊥) → false ≡ fits z s e
unfolding fits
fits_no z s e h = rw (fits, ne_eqb (s % z) 0 h)

zero_zeros : count_trailing_zeros 64 0 ≡ 64
unfolding count_trailing_zeros
zero_zeros = refl

-- 4 ^ k divides s as far as its trailing zeros go, and no further
on_yes : (s k : ℕ) → s < 2 ^ 64 → 2 * k ≤ count_trailing_zeros 64 s → s % 2 ^ (2 * k) ≡ 0
on_yes zero k h g = zero-mod (2 ^ (2 * k))
on_yes (suc x) k h g =
    let O = odd_part 64 (suc x) (omega arith) h in
    let t : count_trailing_zeros 64 (suc x) ≡ O.1 = ap (count_trailing_zeros 64) O.3 ∙ zeros_of 64 O.1 O.0 O.2 in
    let n : O.1 - 2 * k + 2 * k ≡ O.1 = omega arith in
    let e : suc x ≡ (2 * O.0 + 1) * 2 ^ (O.1 - 2 * k) * 2 ^ (2 * k) =
    O.3 ∙ ap (λ (w : ℕ). (2 * O.0 + 1) * w) (ap (λ (w : ℕ). 2 ^ w) (sym n) ∙ pow-add 2 (O.1 - 2 * k) (2 * k)) ∙ sym (mul_assoc (2 * O.0 + 1) (2 ^ (O.1 - 2 * k)) (2 ^ (2 * k))) in
    ap (λ (w : ℕ). w % 2 ^ (2 * k)) e ∙ mul-mod_left ((2 * O.0 + 1) * 2 ^ (O.1 - 2 * k)) (2 ^ (2 * k))

odd_not : (m w : ℕ) → 2 * m + 1 ≡ 2 * w → ⊥
odd_not m w e = omega arith

on_no : (s k : ℕ) → 0 < s → s < 2 ^ 64 → count_trailing_zeros 64 s < 2 * k → s % 2 ^ (2 * k) ≡ 0 → ⊥
on_no s k p h g z =
    let O = odd_part 64 s p h in
    let t : count_trailing_zeros 64 s ≡ O.1 = ap (count_trailing_zeros 64) O.3 ∙ zeros_of 64 O.1 O.0 O.2 in
    let d = 2 * k - O.1 - 1 in
    let n : 1 + (d + O.1) ≡ 2 * k = omega arith in
    let q = s / 2 ^ (2 * k) in
    let c : 2 ^ (2 * k) ≡ 2 * (2 ^ d * 2 ^ O.1) = ap (λ (w : ℕ). 2 ^ w) (sym n) ∙ pow-add 2 1 (d + O.1) ∙ ap (λ (w : ℕ). 2 * w) (pow-add 2 d O.1) in
    let a : q * 2 ^ (2 * k) ≡ s = omega (arith, div-add-mod' s (2 ^ (2 * k))) in
    let b : (2 * (q * 2 ^ d)) * 2 ^ O.1 ≡ s = shuffle q (2 ^ d) (2 ^ O.1) ∙ ap (λ (w : ℕ). q * w) (sym c) ∙ a in
    odd_not O.0 (q * 2 ^ d) (sym (shl-shr (2 * O.0 + 1) O.1) ∙ ap (λ (w : ℕ). w / 2 ^ O.1) (sym O.3 ∙ sym b) ∙ shl-shr (2 * (q * 2 ^ d)) O.1)
  where
    shuffle : (q D C : ℕ) → (2 * (q * D)) * C ≡ q * (2 * (D * C))
    shuffle q D C = mul_assoc 2 (q * D) C ∙ ap (λ (w : ℕ). 2 * w) (mul_assoc q D C) ∙ mul_left_comm 2 q (D * C)

fits_at : (s e k : ℕ) → s < 2 ^ 64 → 2 * k ≤ count_trailing_zeros 64 s → fits (2 ^ (2 * k)) s e ≡ leb (s + 2 ^ (2 * k)) e
fits_at s e k h g = sym (fits_yes (2 ^ (2 * k)) s e (on_yes s k h g))

fits_past : (s e k : ℕ) → 0 < s → s < 2 ^ 64 → count_trailing_zeros 64 s < 2 * k → fits (2 ^ (2 * k)) s e ≡ false
fits_past s e k p h g = sym (fits_no (2 ^ (2 * k)) s e (on_no s k p h g))

size_down : (d k s e : ℕ) → ((j : ℕ) → k < j → j ≤ k + d → fits (2 ^ (2 * j)) s e ≡ false) → size_from (k + d) s e ≡ size_from k s e
size_down zero k s e f = let z : k + 0 ≡ k = omega arith in ap (λ (x : ℕ). size_from x s e) z
size_down (suc d) k s e f =
    let z : k + suc d ≡ suc (k + d) = omega arith in
    ap (λ (x : ℕ). size_from x s e) z ∙ size_on (k + d) s e (f (suc (k + d)) (omega arith) (omega arith)) ∙ size_down d k s e (λ j a b. f j a (omega arith))

pub record Sizing (s e k : ℕ) : Type 0 where
  pub low : k ≤ 30
  pub on : 2 * k ≤ count_trailing_zeros 64 s
  pub same : size_from k s e ≡ size s e

pub aligned_le : (s : ℕ) → aligned s ≤ 30
unfolding aligned
aligned_le s = omega arith

pub size_start : (s e k : ℕ) → s < 2 ^ 64 → k ≡ aligned s → Sizing s e k
unfolding size aligned
size_start s e k h q = record {
  low = omega arith;
  on = omega arith;
  same = ⊎_elim
      (λ (t : ltb k 30 ≡ true).
      let g : k < 30 = ltb-true _ _ t in
      let n : k + (30 - k) ≡ 30 = omega arith in
      let p : 0 < s = ⊎_elim (λ (u : ltb 0 s ≡ true). ltb-true _ _ u) (λ (u : ltb 0 s ≡ false). let z : s ≡ 0 = omega (arith, ltb-false 0 s u) in absurd (omega (arith, ap (count_trailing_zeros 64) z, zero_zeros))) (which (ltb 0 s)) in
      sym (ap (λ (x : ℕ). size_from x s e) (sym n) ∙ size_down (30 - k) k s e (λ j a b. fits_past s e j p h (omega arith))))
      (λ (t : ltb k 30 ≡ false). let g : 30 ≤ k = ltb-false _ _ t in let n : k ≡ 30 = omega arith in ap (λ (x : ℕ). size_from x s e) n)
      (which (ltb k 30));
}

pub size_z : (k z : ℕ) → k ≤ 30 → z ≡ (1 * 2 ^ (2 * k)) % 2 ^ 64 → (z ≡ 2 ^ (2 * k)) × (z ≤ 2 ^ 60)
size_z k z h q =
    let e : z ≡ 2 ^ (2 * k) = q ∙ one_shl (2 * k) (omega arith) in
    (e, omega (arith, pow_mono {i = 2 * k} {j = 60} (omega arith)))

size_k : (k s e : ℕ) (b : Bool) → 0 < k → b ≡ fits (2 ^ (2 * k)) s e → ((b ≡ true) → size_from k s e ≡ 2 ^ (2 * k)) × ((b ≡ false) → size_from k s e ≡ size_from (k - 1) s e)
size_k zero s e b h q = absurd (omega arith)
size_k (suc k) s e b h q = let z : suc k - 1 ≡ k = omega arith in (λ t. size_go k s e (sym q ∙ t), λ t. size_on k s e (sym q ∙ t) ∙ ap (λ (x : ℕ). size_from x s e) (sym z))

pub size_hit : (s e k z : ℕ) → s < 2 ^ 64 → Sizing s e k → 0 < k → z ≡ (1 * 2 ^ (2 * k)) % 2 ^ 64 → s + z ≤ e → z ≡ size s e
size_hit s e k z w G h q g =
    let Z = (size_z k z G.low q).0 in
    Z ∙ sym ((size_k k s e true h (sym (fits_at s e k w G.on ∙ le-leb (s + 2 ^ (2 * k)) e (omega arith)))).0 refl) ∙ G.same

pub size_miss : (s e k z : ℕ) → s < 2 ^ 64 → Sizing s e k → 0 < k → z ≡ (1 * 2 ^ (2 * k)) % 2 ^ 64 → e < s + z → Sizing s e (k - 1)
size_miss s e k z w G h q g =
    let Z = (size_z k z G.low q).0 in
    record {
      low = omega (arith, G.low);
      on = omega (arith, G.on);
      same = sym ((size_k k s e false h (sym (fits_at s e k w G.on ∙ lt-leb (s + 2 ^ (2 * k)) e (omega arith)))).1 refl) ∙ G.same;
    }

pub size_end : (s e k : ℕ) → Sizing s e k → k ≤ 0 → 1 ≡ size s e
unfolding size_from
size_end s e k G h = let z : k ≡ 0 = omega arith in sym (ap (λ (x : ℕ). size_from x s e) z) ∙ G.same

-- ---- the cells of a stretch

pub record Tiling (s e : ℕ) (out₀ : List ℕ) (at : ℕ) (out : List ℕ) (from place : ℕ) : Type 0 where
  pub to : from ≤ e
  pub world : e ≤ leaves
  pub low : place + (e - from) < 2 ^ 64
  pub len : length out ≡ length out₀
  pub put : Put place at (tile from e) (tile s e) out out₀

pub tile_turn : (s e : ℕ) (out₀ : List ℕ) (at : ℕ) (out : List ℕ) (from place z : ℕ) (out' : List ℕ) → Tiling s e out₀ at out from place → from < e → z ≡ size from e → out' ≡ set out place (2 * from + z) → Tiling s e out₀ at out' (from + z) (place + 1)
tile_turn s e out₀ at out from place z out' G h q w =
    let Z = sized from e h in
    let g : tile from e ≡ ((2 * from + z) ∷ []) ++ tile (from + z) e = tile_go from e h ∙ ap (λ (x : ℕ). (2 * from + x) ∷ tile (from + x) e) (sym q) in
    record {
      to = omega (arith, Z.within);
      world = G.world;
      low = omega (arith, Z.some, G.low);
      len = ap length w ∙ length-set out place (2 * from + z) ∙ G.len;
      put = put_part place at ((2 * from + z) ∷ []) (tile (from + z) e) (tile from e) (tile s e) out out₀ (place + 1) out' G.put g refl w;
    }

pub tile_fits : (s e z : ℕ) → s < e → e ≤ leaves → z ≡ size s e → (s + z ≤ e)
tile_fits s e z h r q = omega (arith, (sized s e h).within)

-- ---- the cells of pairs

pub record Filling (ps out₀ out : List ℕ) (at i : ℕ) : Type 0 where
  pub within : i ≤ length ps
  pub len : length out ≡ length out₀
  pub p : ℕ
  pub low : at ≤ p
  pub rest : pairs_from (2 * p + 1) (drop i ps) ≡ true
  pub put : Put at 0 (cells_of (drop i ps)) (cells_of ps) out out₀

pub fill_start : (ps out : List ℕ) → is_pairs ps ≡ true → Filling ps out out 0 0
fill_start ps out t = record { within = omega arith; len = refl; p = 0; low = omega arith; rest = t; put = record { count = refl; same = refl } }

fill_next : (ps out₀ out : List ℕ) (at i : ℕ) (G : Filling ps out₀ out at i) → i + 1 < length ps → Follows (2 * G.p + 1) (get_or ps i 0) (get_or ps (i + 1) 0) × (pairs_from (get_or ps (i + 1) 0 + 4) (drop (i + 2) ps) ≡ true)
fill_next ps out₀ out at i G h = pairs_cons (2 * G.p + 1) (get_or ps i 0) (get_or ps (i + 1) 0) (drop (i + 2) ps) (subst (λ (l : List ℕ). pairs_from (2 * G.p + 1) l ≡ true) (next_two ps i h) G.rest)

pub fill_asks : (ps out₀ out : List ℕ) (at i : ℕ) → Filling ps out₀ out at i → i + 1 < length ps → (get_or ps (i + 1) 0 < 2 * leaves) × (get_or ps i 0 / 2 ≤ (get_or ps (i + 1) 0 + 1) / 2) × ((get_or ps (i + 1) 0 + 1) / 2 ≤ leaves) × (at + ((get_or ps (i + 1) 0 + 1) / 2 - get_or ps i 0 / 2) < 2 ^ 64)
fill_asks ps out₀ out at i G h = let F = (fill_next ps out₀ out at i G h).0 in (F.to, omega (arith, F.some), omega (arith, F.to), omega (arith, F.from, F.to, F.some, G.low))

pub fill_turn : (ps out₀ out : List ℕ) (at i at' : ℕ) (out' : List ℕ) → Filling ps out₀ out at i → i + 1 < length ps → (at' ≡ at + length (tile (get_or ps i 0 / 2) ((get_or ps (i + 1) 0 + 1) / 2))) × (out' ≡ sets out at (tile (get_or ps i 0 / 2) ((get_or ps (i + 1) 0 + 1) / 2))) → Filling ps out₀ out' at' (i + 2)
fill_turn ps out₀ out at i at' out' G h w =
    let r = fill_next ps out₀ out at i G h in
    let F = r.0 in
    let s = get_or ps i 0 / 2 in
    let last = get_or ps (i + 1) 0 in
    let e = (last + 1) / 2 in
    let T = tiled s e (omega (arith, F.some)) (omega (arith, F.to)) in
    let q : last + 4 ≡ 2 * (e + 1) + 1 = omega (arith, F.odd') in
    record {
      within = omega arith;
      len = ap length w.1 ∙ length-sets out at (tile s e) ∙ G.len;
      p = e + 1;
      low = omega (arith, T.short, w.0, F.from, G.low);
      rest = subst (λ (b : ℕ). pairs_from b (drop (i + 2) ps) ≡ true) q r.1;
      put = put_part at 0 (tile s e) (cells_of (drop (i + 2) ps)) (cells_of (drop i ps)) (cells_of ps) out out₀ at' out' G.put (ap cells_of (next_two ps i h) ∙ each_cons tile (get_or ps i 0) last (drop (i + 2) ps)) w.0 w.1;
    }

pub fill_done : (ps out₀ out : List ℕ) (at i : ℕ) → Filling ps out₀ out at i → length ps ≤ i + 1 → (at ≡ length (cells_of ps)) × (out ≡ sets out₀ 0 (cells_of ps))
unfolding each_pair
fill_done ps out₀ out at i G h =
    let z : cells_of (drop i ps) ≡ [] = ⊎_elim
    (λ (t : ltb i (length ps) ≡ true). ap (each_pair tile) (next_of ps i (ltb-true _ _ t) ∙ ap (λ (s : List ℕ). get_or ps i 0 ∷ s) (none_left ps (i + 1) h)))
    (λ (t : ltb i (length ps) ≡ false). ap (each_pair tile) (none_left ps i (ltb-false _ _ t)))
    (which (ltb i (length ps))) in
    let q = put_done at 0 (cells_of (drop i ps)) (cells_of ps) out out₀ G.put z in
    (omega (arith, q.0), q.1)
