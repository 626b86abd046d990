-- The two 64-bit sets by Hilbert place and the list of children are one and the same.
use mathlib.Core.Path.{◌≡◌, refl, sym, ap, ap₂, ◌∙◌, subst}
use mathlib.Core.Bool.{Bool, true, false}
use mathlib.Core.List.{List, [], ◌++◌, append_assoc}
use Prim.Native.Nat.{ℕ, zero, suc, ◌+◌, ◌-◌, ◌*◌, ◌/◌, ◌%◌, ◌^◌, ◌≤◌, ◌<◌}
use native.Mathlib.Nat.{pow-suc, mul_assoc, mul_comm, mul_left_comm, add-mul, mul-div_cancel_left, mul-suc, mul-one, mul-zero, mul-add, one-mul, div-div-eq-div-mul}
use native.Mathlib.Omega.{arith}
use lib.Bits.{block_half, block_odd}
use lib.Dec.{eqb}
use lib.Pow.{pow_pos, pow-add}
use lib.Arith.{digits_lt}
use Rattle.cellid.specs.CellId.{IsCell, id_of, child_of, bit_at}
use Rattle.cellid.proofs.Laws.{low_id, bit_up, odd_mul}
use Rattle.cellid.proofs.Leaves.{child_cell}
use Rattle.run.specs.declared.Found.{Found}
use Rattle.run.specs.Run.{Child, Expansion, Look, divide, expand, fails, four_of, join, look, none, reached, terminal, Task, part, failing}
use Rattle.run.specs.Masks.{none_found, cons_if, descend, found, found_part, found_at, children_in, place_in, up_to}
use Rattle.run.proofs.Lists.{if_ok}

-- ---- lists of sets

list_cong : (g h : ℕ → ℕ) (w p t b c : ℕ) → ((j : ℕ) → j < w → g (b + j) ≡ h (c + j)) → children_in g w p t b ≡ children_in h w p t c
unfolding children_in
list_cong g h zero p t b c e = refl
list_cong g h (suc w) p t b c e =
    let z : g b ≡ h c = ap g (omega arith) ∙ e 0 (omega arith) ∙ ap h (omega arith) in
    let r : children_in g w (p / 2) (t / 2) (suc b) ≡ children_in h w (p / 2) (t / 2) (suc c) = list_cong g h w (p / 2) (t / 2) (suc b) (suc c) (λ j l.
    let u : suc b + j ≡ b + suc j = omega arith in
    let v : c + suc j ≡ suc c + j = omega arith in
    ap g u ∙ e (suc j) (omega arith) ∙ ap h v) in
    rw (z, r)

list_none : (g : ℕ → ℕ) (w t b : ℕ) → children_in g w 0 t b ≡ []
unfolding children_in cons_if
list_none g zero t b = refl
list_none g (suc w) t b = list_none g w (t / 2) (suc b)

cons_append : {A : Type 0} (b : Bool) (x : A) (l r : List A) → cons_if b x l ++ r ≡ cons_if b x (l ++ r)
unfolding cons_if
cons_append true x l r = refl
cons_append false x l r = refl

list_append : (g : ℕ → ℕ) (w v p t p' t' b : ℕ) → p < 2 ^ w → t < 2 ^ w → children_in g (w + v) (p' * 2 ^ w + p) (t' * 2 ^ w + t) b ≡ children_in g w p t b ++ children_in g v p' t' (b + w)
unfolding children_in
list_append g zero v p t p' t' b h k =
    let a : p' * 2 ^ 0 + p ≡ p' = omega (arith, mul-one p') in
    let c : t' * 2 ^ 0 + t ≡ t' = omega (arith, mul-one t') in
    let d : 0 + v ≡ v = omega arith in
    let e : b + 0 ≡ b = omega arith in
    rw (a, c, d, e)
list_append g (suc w) v p t p' t' b h k =
    let d : suc w + v ≡ suc (w + v) = omega arith in
    let e : b + suc w ≡ suc b + w = omega arith in
    let r : children_in g (w + v) (p' * 2 ^ w + p / 2) (t' * 2 ^ w + t / 2) (suc b) ≡ children_in g w (p / 2) (t / 2) (suc b) ++ children_in g v p' t' (suc b + w) =
    list_append g w v (p / 2) (t / 2) p' t' (suc b) (omega (arith, pow-suc 2 w)) (omega (arith, pow-suc 2 w)) in
    rw (d, e, children_in, block_odd p' w p, block_odd t' w t, block_half p' w p, block_half t' w t, r) (sym (cons_append (eqb (p % 2) 1) _ (children_in g w (p / 2) (t / 2) (suc b)) (children_in g v p' t' (suc b + w))))

-- one turn of the loop over the sets
pub list_turn : (g : ℕ → ℕ) (W p t j : ℕ) → j < W
    → children_in g (W - j) (p / 2 ^ j) (t / 2 ^ j) j ≡ cons_if (eqb (p / 2 ^ j % 2) 1) (record { id = g j; ends = eqb (t / 2 ^ j % 2) 1 }) (children_in g (W - suc j) (p / 2 ^ suc j) (t / 2 ^ suc j) (suc j))
unfolding children_in
list_turn g W p t j h =
    let d : W - j ≡ suc (W - suc j) = omega arith in
    let half : (x : ℕ) → x / 2 ^ suc j ≡ x / 2 ^ j / 2 = λ x. ap (λ (n : ℕ). x / n) (pow-suc 2 j) ∙ sym (div-div-eq-div-mul x (2 ^ j) 2) in
    rw (d, half p, half t)

-- ---- places

descend_core : (p j D C : ℕ) → 0 < D → ((2 * p + 1) * (D * C) - D * C) + (2 * j + 1) * (D * C / D) ≡ (2 * (D * p + j) + 1) * C
descend_core p j D C d =
    rw (mul-div_cancel_left C d) (omega (arith, odd_mul p (D * C), mul_left_comm p D C, odd_mul j C, odd_mul (D * p + j) C, add-mul (D * p) j C, mul_assoc D p C))

pub descend_id : (L p n j : ℕ) → L + n ≤ 30 → descend (id_of L p) n j ≡ id_of (L + n) (2 ^ (2 * n) * p + j)
unfolding descend id_of
descend_id L p n j h = rw (low_id L p, bit_up L n h) (descend_core p j (2 ^ (2 * n)) (bit_at (L + n)) (pow_pos (2 * n)))

place_core : (w p k j : ℕ) → (w * 4) * p + (w * k + j) ≡ w * (4 * p + k) + j
place_core w p k j = omega (arith, mul_assoc w 4 p, mul-add w (4 * p) k)

child_descend : (id L p n k j : ℕ) → IsCell id L p → L + suc n ≤ 30 → k < 4 → descend id (suc n) (2 ^ (2 * n) * k + j) ≡ descend (child_of id k) n j
child_descend id L p n k j c h g =
    let d = child_cell k c (omega arith) g in
    let w : 2 ^ (2 * suc n) ≡ 2 ^ (2 * n) * 4 = ap (λ (m : ℕ). 2 ^ m) (mul-suc 2 n) ∙ pow-add 2 (2 * n) 2 in
    let e : L + suc n ≡ (L + 1) + n = omega arith in
    ap (λ (x : ℕ). descend x (suc n) (2 ^ (2 * n) * k + j)) c.is
    ∙ descend_id L p (suc n) (2 ^ (2 * n) * k + j) h
    ∙ ap₂ id_of e (ap (λ (m : ℕ). m * p + (2 ^ (2 * n) * k + j)) w ∙ place_core (2 ^ (2 * n)) p k j)
    ∙ sym (descend_id (L + 1) (4 * p + k) n j (omega arith))
    ∙ ap (λ (x : ℕ). descend x n j) (sym d.is)

-- ---- the two expansions

pub record Small (w : ℕ) (f : Found) : Type 0 where
  pub present : f.present < 2 ^ w
  pub terminal : f.terminal < 2 ^ w

placed_lt : (x y w k : ℕ) → x < 2 ^ w → y < 2 ^ (w * k) → x * 2 ^ (w * k) + y < 2 ^ (w * suc k)
placed_lt x y w k h g =
    let e : 2 ^ (w * suc k) ≡ 2 ^ w * 2 ^ (w * k) = ap (λ (n : ℕ). 2 ^ n) (mul-suc w k) ∙ pow-add 2 (w * k) w ∙ mul_comm (2 ^ (w * k)) (2 ^ w) in
    rw e (digits_lt h g)

pub up_small : (f : ℕ → Found) (w id : ℕ) → ((k : ℕ) → k < 4 → Small w (f (child_of id k))) → (k : ℕ) → k ≤ 4 → Small (w * k) (up_to f w id k)
unfolding up_to place_in
up_small f w id s zero h = record { present = pow_pos (w * 0); terminal = pow_pos (w * 0) }
up_small f w id s (suc k) h =
    let r = up_small f w id s k (omega arith) in
    let d = s k (omega arith) in
    record { present = placed_lt (f (child_of id k)).present (up_to f w id k).present w k d.present r.present; terminal = placed_lt (f (child_of id k)).terminal (up_to f w id k).terminal w k d.terminal r.terminal }

parts : (ℕ → List Child) → ℕ → List Child
parts l zero = []
parts l (suc k) = parts l k ++ l k

up_list : (g : ℕ → ℕ) (f : ℕ → Found) (l : ℕ → List Child) (w id : ℕ) → ((k : ℕ) → k < 4 → Small w (f (child_of id k)))
    → ((k : ℕ) → k < 4 → children_in g w (f (child_of id k)).present (f (child_of id k)).terminal (w * k) ≡ l k)
    → (k : ℕ) → k ≤ 4 → children_in g (w * k) (up_to f w id k).present (up_to f w id k).terminal 0 ≡ parts l k
unfolding up_to place_in parts
up_list g f l w id s e zero h = rw (mul-zero w) (list_none g 0 0 0)
up_list g f l w id s e (suc k) h =
    let r = up_small f w id s k (omega arith) in
    let z : 0 + w * k ≡ w * k = omega arith in
    ap (λ (n : ℕ). children_in g n (up_to f w id (suc k)).present (up_to f w id (suc k)).terminal 0) (mul-suc w k)
    ∙ list_append g (w * k) w (up_to f w id k).present (up_to f w id k).terminal (f (child_of id k)).present (f (child_of id k)).terminal 0 r.present r.terminal
    ∙ ap₂ (λ (x y : List Child). x ++ y) (up_list g f l w id s e k (omega arith))
    (ap (λ (n : ℕ). children_in g w (f (child_of id k)).present (f (child_of id k)).terminal n) z ∙ e k (omega arith))

at_small : (v : Look) → Small 1 (found_at v)
unfolding found_at
at_small fails = record { present = omega arith; terminal = omega arith }
at_small none = record { present = omega arith; terminal = omega arith }
at_small terminal = record { present = omega arith; terminal = omega arith }
at_small divide = record { present = omega arith; terminal = omega arith }

at_list : (g : ℕ → ℕ) (id : ℕ) (v : Look) → g 0 ≡ id → children_in g 1 (found_at v).present (found_at v).terminal 0 ≡ (reached id v).children
unfolding found_at reached children_in cons_if
at_list g id fails e = refl
at_list g id none e = refl
at_list g id terminal e = rw e
at_list g id divide e = rw e

-- where a cell on the way down is passed over there are no places
branch_list : (b : Bool) (f : Found) (e : Expansion) (g : ℕ → ℕ) (w c : ℕ) → children_in g w f.present f.terminal 0 ≡ e.children
    → children_in g w (elim b as (λ x. Found) [ true ↦ f | false ↦ none_found ]).present (elim b as (λ x. Found) [ true ↦ f | false ↦ none_found ]).terminal 0
    ≡ (elim b as (λ x. Expansion) [ true ↦ e | false ↦ failing c ]).children
branch_list true f e g w c h = h
branch_list false f e g w c h = list_none g w 0 0

four_w : (n : ℕ) → 2 ^ (2 * n) * 4 ≡ 2 ^ (2 * suc n)
four_w n = sym (ap (λ (m : ℕ). 2 ^ m) (mul-suc 2 n) ∙ pow-add 2 (2 * n) 2)

module _ (T : Task) where
  pub part_last : (c : ℕ) → found_part T 0 c ≡ found_at (look T c)
  unfolding found_part
  part_last c = refl

  -- a cell between that passes has its own expansion's sets
  pub part_more : (n c : ℕ) → 0 < n → T.hits c ≡ true → found_part T n c ≡ found T n c
  unfolding found_part found
  part_more zero c s h = absurd (omega arith)
  part_more (suc n) c s h = rw (h, found_part)

  pub part_none : (n c : ℕ) → 0 < n → T.hits c ≡ false → found_part T n c ≡ none_found
  unfolding found_part
  part_none zero c s h = absurd (omega arith)
  part_none (suc n) c s h = rw (h, found_part)

  pub found_four : (n id : ℕ) → found T (suc n) id ≡ up_to (found_part T n) (2 ^ (2 * n)) id 4
  unfolding found
  found_four n id = refl

  four_small : (n id : ℕ) → ((c : ℕ) → Small (2 ^ (2 * n)) (found_part T n c)) → Small (2 ^ (2 * suc n)) (up_to (found_part T n) (2 ^ (2 * n)) id 4)
  four_small n id s = subst (λ (w : ℕ). Small w (up_to (found_part T n) (2 ^ (2 * n)) id 4)) (four_w n) (up_small (found_part T n) (2 ^ (2 * n)) id (λ k g. s (child_of id k)) 4 (omega arith))

  pub part_small : (n c : ℕ) → Small (2 ^ (2 * n)) (found_part T n c)
  unfolding found_part
  part_small zero c = at_small (look T c)
  part_small (suc n) c =
      if_ok (Small (2 ^ (2 * suc n))) (T.hits c) _ _ (λ t. four_small n c (part_small n)) (λ t. record { present = pow_pos (2 ^ (2 * suc n)); terminal = pow_pos (2 ^ (2 * suc n)) })

  pub found_small : (n id : ℕ) → Small (2 ^ (2 * n)) (found T n id)
  unfolding found
  found_small zero id = part_small zero id
  found_small (suc n) id = four_small n id (part_small n)

  -- what the four children have together
  four_list : (n id L p : ℕ) → IsCell id L p → L + suc n ≤ 30
      → ((k : ℕ) → k < 4 → children_in (descend (child_of id k) n) (2 ^ (2 * n)) (found_part T n (child_of id k)).present (found_part T n (child_of id k)).terminal 0 ≡ (part T n (child_of id k)).children)
      → children_in (descend id (suc n)) (2 ^ (2 * suc n)) (up_to (found_part T n) (2 ^ (2 * n)) id 4).present (up_to (found_part T n) (2 ^ (2 * n)) id 4).terminal 0 ≡ (four_of (part T n) id).children
  unfolding four_of join parts
  four_list n id L p c h e =
      let w = 2 ^ (2 * n) in
      let kid : ℕ → ℕ = λ k. child_of id k in
      let l : ℕ → List Child = λ k. (part T n (kid k)).children in
      let u = up_to (found_part T n) w id 4 in
      let d : (k : ℕ) → k < 4 → children_in (descend id (suc n)) w (found_part T n (kid k)).present (found_part T n (kid k)).terminal (w * k) ≡ l k = λ k g.
      list_cong (descend id (suc n)) (descend (kid k) n) w (found_part T n (kid k)).present (found_part T n (kid k)).terminal (w * k) 0
      (λ j x. let z : j ≡ 0 + j = omega arith in child_descend id L p n k j c h g ∙ ap (descend (kid k) n) z)
      ∙ e k g in
      ap (λ (m : ℕ). children_in (descend id (suc n)) m u.present u.terminal 0) (sym (four_w n))
      ∙ up_list (descend id (suc n)) (found_part T n) l w id (λ k g. part_small n (kid k)) d 4 (omega arith)
      ∙ append_assoc (l 0 ++ l 1) (l 2) (l 3) ∙ append_assoc (l 0) (l 1) (l 2 ++ l 3)

  part_list : (n id L p : ℕ) → IsCell id L p → L + n ≤ 30
      → children_in (descend id n) (2 ^ (2 * n)) (found_part T n id).present (found_part T n id).terminal 0 ≡ (part T n id).children
  unfolding found_part part
  part_list zero id L p c h =
      let a : L + 0 ≡ L = omega arith in
      let b : 2 ^ (2 * 0) * p + 0 ≡ p = omega (arith, one-mul p) in
      let z : descend id 0 0 ≡ id = ap (λ (x : ℕ). descend x 0 0) c.is ∙ descend_id L p 0 0 (omega arith) ∙ ap₂ id_of a b ∙ sym c.is in
      at_list (descend id 0) id (look T id) z
  part_list (suc n) id L p c h = branch_list (T.hits id) (up_to (found_part T n) (2 ^ (2 * n)) id 4) (four_of (part T n) id) (descend id (suc n)) (2 ^ (2 * suc n)) id
      (four_list n id L p c h (λ k g. part_list n (child_of id k) (L + 1) (4 * p + k) (child_cell k c (omega arith) g) (omega arith)))

  -- the children are those of the sets, in ascending order, with their marks
  pub found_list : (n id L p : ℕ) → IsCell id L p → L + n ≤ 30
      → children_in (descend id n) (2 ^ (2 * n)) (found T n id).present (found T n id).terminal 0 ≡ (expand T n id).children
  unfolding found expand
  found_list zero id L p c h = part_list zero id L p c h
  found_list (suc n) id L p c h = four_list n id L p c h (λ k g. part_list n (child_of id k) (L + 1) (4 * p + k) (child_cell k c (omega arith) g) (omega arith))
