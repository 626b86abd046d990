-- An id's name, as the code spells it; a name is that of its number, and a number that of its name.
use mathlib.Core.Path.{◌≡◌, refl, sym, ap, ap₂, ◌∙◌}
use mathlib.Core.Bool.{Bool, true, false, not, and-eq-true_iff}
use mathlib.Core.List.{List, [], ◌∷◌, ◌++◌}
use Rattle.std.proofs.Common.{Option, Some, None, unwrap_or}
use mathlib.Core.Logic.{by_cases, ⊎_elim}
use Prim.Native.Nat.{ℕ, zero, suc, ◌+◌, ◌-◌, ◌*◌, ◌/◌, ◌%◌, ◌^◌, ◌≤◌, ◌<◌}
use native.Mathlib.Omega.{arith}
use native.Mathlib.Decide.{ℕ_discrete}
use native.Mathlib.Nat.{mul-one, mul_assoc, div-one, pow-suc, eq-zero-or-pos, lt_of_mul-lt-mul_right}
use lib.Pow.{pow-add, shl-shr}
use lib.Count.{count_trailing_zeros, trailing_of_zero}
use lib.Dec.{leb, eqb}
use lib.ListN.{length, get_or, take, replicate}
use lib.Seq.{take-suc, take_all}
use borrow.Author.Tests.{leb-true, le-leb, eqb-true, eqb-false, eq-eqb, ne_eqb, ltb-true, not-true}
use Rattle.io.specs.Digits.{last_digits as digits, hex_digit_ascii}
use Rattle.text.specs.Text.{digit_of, all_digits, value_from}
use Rattle.text.proofs.Laws.{digits_then, value_then}
use Rattle.cellid.specs.CellId.{valid_id}
use Rattle.cellid.proofs.Laws.{odd_part, zeros_of, valid_fits}
use Rattle.tokens.specs.declared.Form.{Form}
use Rattle.tokens.specs.Tokens.{hex_text, digit_before, trim, token_of, name_of, is_name, value_of, named}
use Rattle.tokens.specs.Steps.{of_digits}
use Rattle.tokens.proofs.Digits.{glyph_digit, glyph_some, digits_length, digits_all, value_digits, digits_value, digits_scaled, last_digit, trim_tail, trim_whole, trim_length}

-- ---- powers of sixteen

pub sixteen_pow : (k : ℕ) → 16 ^ k ≡ 2 ^ (4 * k)
sixteen_pow zero = refl
sixteen_pow (suc k) =
    let e : 4 * suc k ≡ 4 * k + 4 = omega arith in
    rw (pow-suc, sixteen_pow k) (sym (ap (λ (n : ℕ). 2 ^ n) e ∙ pow-add 2 (4 * k) 4))

-- ---- a token, digit by digit

-- z zeros stand behind the digits of m, and the last of these is none
pub record Parts (id z m : ℕ) : Type 0 where
  pub few : z ≤ 16
  pub is : id ≡ m * 16 ^ z
  pub token : token_of id ≡ digits 16 (16 - z) m
  pub last : 0 < id → 0 < m % 16
  pub some : 0 < id → z < 16

odd_last : (p r : ℕ) → r < 4 → 0 < (2 * p + 1) * 2 ^ r % 16
odd_last p zero h = omega arith
odd_last p (suc zero) h = omega arith
odd_last p (suc (suc zero)) h = omega arith
odd_last p (suc (suc (suc zero))) h = omega arith
odd_last p (suc (suc (suc (suc r)))) h = absurd (omega arith)

parts_of : (id z m : ℕ) → z < 16 → id ≡ m * 16 ^ z → 0 < m % 16 → Parts id z m
unfolding token_of hex_text
parts_of id z m f e h =
    let n : (16 - z) + z ≡ 16 = omega arith in
    let k : length (digits 16 (16 - z) m) ≡ 16 - z = digits_length 16 (16 - z) m in
    let d : digits 16 16 id ≡ digits 16 (16 - z) m ++ replicate z 48 = rw e (ap (λ (x : ℕ). digits 16 x (m * 16 ^ z)) (sym n) ∙ digits_scaled z (16 - z) m) in
    record {
      few = omega arith;
      is = e;
      token = ap trim d ∙ trim_tail (digits 16 (16 - z) m) z
          ∙ trim_whole (digits 16 (16 - z) m) (omega (arith, k)) (λ g. glyph_some (m % 16) h (sym (last_digit (16 - z) m (omega arith)) ∙ g));
      last = λ _. h;
      some = λ _. f;
    }

token_zero : Parts 0 16 0
unfolding token_of hex_text trim digit_before
token_zero = record { few = omega arith; is = refl; token = refl; last = λ h. absurd (omega arith); some = λ h. absurd (omega arith) }

-- the zeros are told by the lowest set bit, and what is left by a shift
pub token_parts : (id : ℕ) → id < 2 ^ 64 → Parts id (count_trailing_zeros 64 id / 4) (id / 2 ^ (4 * (count_trailing_zeros 64 id / 4)))
token_parts id h = ⊎_elim
    (λ (z : id ≡ 0).
    let t : count_trailing_zeros 64 id ≡ 64 = ap (count_trailing_zeros 64) z ∙ trailing_of_zero 64 in
    rw (t, z) token_zero)
    (λ (p : 0 < id).
    let o = odd_part 64 id p h in
    let t : count_trailing_zeros 64 id ≡ o.1 = ap (count_trailing_zeros 64) o.3 ∙ zeros_of 64 o.1 o.0 o.2 in
    let w : o.1 ≡ o.1 % 4 + 4 * (o.1 / 4) = omega arith in
    let e : id ≡ (2 * o.0 + 1) * 2 ^ (o.1 % 4) * 2 ^ (4 * (o.1 / 4)) = o.3 ∙ ap (λ (n : ℕ). (2 * o.0 + 1) * 2 ^ n) w ∙ ap (λ (n : ℕ). (2 * o.0 + 1) * n) (pow-add 2 (o.1 % 4) (4 * (o.1 / 4)))
    ∙ sym (mul_assoc (2 * o.0 + 1) (2 ^ (o.1 % 4)) (2 ^ (4 * (o.1 / 4)))) in
    let m : id / 2 ^ (4 * (o.1 / 4)) ≡ (2 * o.0 + 1) * 2 ^ (o.1 % 4) = ap (λ (n : ℕ). n / 2 ^ (4 * (o.1 / 4))) e ∙ shl-shr ((2 * o.0 + 1) * 2 ^ (o.1 % 4)) (4 * (o.1 / 4)) in
    rw (t, m) (parts_of id (o.1 / 4) ((2 * o.0 + 1) * 2 ^ (o.1 % 4)) (omega (arith, o.2)) (rw sixteen_pow e) (odd_last o.0 (o.1 % 4) (omega arith))))
    (eq-zero-or-pos id)

-- ---- the code's way to a name

pub token_length : (id : ℕ) → id < 2 ^ 64 → 16 - count_trailing_zeros 64 id / 4 ≡ length (name_of Form.Token id)
unfolding name_of
token_length id h = sym (ap length (token_parts id h).token ∙ digits_length 16 _ _)

pub hex_length : (id : ℕ) → length (hex_text id) ≡ 16
unfolding hex_text
hex_length id = digits_length 16 16 id

pub name_short : (form : Form) (id : ℕ) → length (name_of form id) ≤ 16
unfolding name_of token_of
name_short Form.Digits id = omega (arith, hex_length id)
name_short Form.Token id = omega (arith, hex_length id, trim_length (hex_text id))

-- a shift, and the digits that are left
pub name_digits : (form : Form) (id n : ℕ) → id < 2 ^ 64 → n ≡ length (name_of form id) → digits 16 n (id / 2 ^ (4 * (16 - n))) ≡ name_of form id
unfolding name_of hex_text
name_digits Form.Digits id n h e =
    let k : n ≡ 16 = e ∙ hex_length id in
    rw (k, div-one)
name_digits Form.Token id n h e =
    let P = token_parts id h in
    let k : n ≡ 16 - count_trailing_zeros 64 id / 4 = e ∙ sym (token_length id h) in
    let z : 16 - n ≡ count_trailing_zeros 64 id / 4 = omega (arith, P.few) in
    rw (z, k) (sym P.token)

-- ---- a name's number

-- the last of some digits tells their number by sixteen
last_mod : (t : List ℕ) → 0 < length t → all_digits 16 t ≡ true → (value_from 16 0 t % 16 ≡ digit_of (get_or t (length t - 1) 0)) × (digit_of (get_or t (length t - 1) 0) < 16)
unfolding value_from
last_mod t p h =
    let k : suc (length t - 1) ≡ length t = omega arith in
    let s : t ≡ take (length t - 1) t ++ (get_or t (length t - 1) 0 ∷ []) = sym (take_all (suc (length t - 1)) t (omega arith)) ∙ take-suc t (length t - 1) 0 (omega arith) in
    let d : digit_of (get_or t (length t - 1) 0) < 16 = ltb-true _ _ ((and-eq-true_iff _ true).0 ((and-eq-true_iff (all_digits 16 (take (length t - 1) t)) _).0 (sym (digits_then 16 (take (length t - 1) t) (get_or t (length t - 1) 0 ∷ [])) ∙ ap (all_digits 16) (sym s) ∙ h)).1).0 in
    let v : value_from 16 0 t ≡ value_from 16 0 (take (length t - 1) t) * 16 + digit_of (get_or t (length t - 1) 0) = ap (value_from 16 0) s ∙ value_then 16 0 (take (length t - 1) t) _ in
    (omega (arith, v), d)

-- the last digit is a zero
last_zero : (t : List ℕ) → 0 < length t → all_digits 16 t ≡ true → eqb (get_or t (length t - 1) 0) 48 ≡ eqb (value_from 16 0 t % 16) 0
unfolding digit_of
last_zero t p h =
    let m = last_mod t p h in
    by_cases (ℕ_discrete (get_or t (length t - 1) 0) 48)
    (λ e. eq-eqb _ _ e ∙ sym (eq-eqb _ _ (m.0 ∙ ap digit_of e)))
    (λ n. ne_eqb _ _ n ∙ sym (ne_eqb _ _ (λ z. n (sym (glyph_digit _ m.1) ∙ ap hex_digit_ascii (sym m.0 ∙ z)))))

module _ (t : List ℕ) (few : length t ≤ 16) (h : all_digits 16 t ≡ true) where
  digits_named : (u : Bool) → eqb (length t) 16 ≡ u → named Form.Digits t ≡ unwrap_or (of_digits Form.Digits (length t) (value_from 16 0 t)) 0
  unfolding named is_name value_of
  digits_named true e =
      let k : length t ≡ 16 = eqb-true _ _ e in
      rw (named, is_name, e, h, value_of, k, mul-one, of_digits)
  digits_named false e = rw (named, is_name, e, of_digits)

  token_named : named Form.Token t ≡ unwrap_or (of_digits Form.Token (length t) (value_from 16 0 t)) 0
  unfolding named is_name value_of
  token_named = ⊎_elim
      (λ (z : length t ≡ 0). none t z)
      (λ (p : 0 < length t). rw (named, is_name, le-leb 1 (length t) p, le-leb (length t) 16 few, h, last_zero t p h, value_of) (turned (eqb (value_from 16 0 t % 16) 0)))
      (eq-zero-or-pos (length t))
    where
      none : (t : List ℕ) → length t ≡ 0 → named Form.Token t ≡ unwrap_or (of_digits Form.Token (length t) (value_from 16 0 t)) 0
      none [] z = unfold named is_name value_from in refl
      none (b ∷ t) z = absurd (omega arith)

      turned : (u : Bool) → ◌≡◌ {A = ℕ} (elim (not u) [ true ↦ value_from 16 0 t * 16 ^ (16 - length t) | false ↦ 0 ]) (unwrap_or (elim u [ true ↦ None | false ↦ Some (value_from 16 0 t * 16 ^ (16 - length t)) ]) 0)
      turned true = refl
      turned false = refl

  pub named_digits : (form : Form) → named form t ≡ unwrap_or (of_digits form (length t) (value_from 16 0 t)) 0
  named_digits Form.Digits = digits_named (eqb (length t) 16) refl
  named_digits Form.Token = token_named

-- ---- an id from its name

pub name_is_digits : (form : Form) (id : ℕ) → id < 2 ^ 64 → all_digits 16 (name_of form id) ≡ true
name_is_digits form id h = ap (all_digits 16) (sym (name_digits form id (length (name_of form id)) h refl)) ∙ digits_all (length (name_of form id)) _

-- the digits of m, z of sixteen less, spell it
part_small : (id z m : ℕ) → id < 2 ^ 64 → z ≤ 16 → id ≡ m * 16 ^ z → m < 16 ^ (16 - z)
part_small id z m h f e =
    let n : (16 - z) + z ≡ 16 = omega arith in
    let w : 16 ^ (16 - z) * 16 ^ z ≡ 16 ^ 16 = sym (pow-add 16 (16 - z) z) ∙ ap (λ (k : ℕ). 16 ^ k) n in
    lt_of_mul-lt-mul_right (16 ^ z) (rw (w, ← e) h)

hex_value : (id : ℕ) → id < 2 ^ 64 → value_from 16 0 (hex_text id) ≡ id
unfolding hex_text
hex_value id h = value_digits 16 id h

of_digits_lem : (v : ℕ) → of_digits Form.Digits 16 v ≡ Some v
of_digits_lem v = refl

of_token : (n v : ℕ) → 0 < v % 16 → of_digits Form.Token n v ≡ Some (v * 16 ^ (16 - n))
of_token n v h = rw (of_digits, ne_eqb (v % 16) 0 (λ e. omega arith))

pub name_back : (form : Form) (id : ℕ) → valid_id id ≡ true → named form (name_of form id) ≡ id
unfolding name_of
name_back Form.Digits id v =
    let h = (valid_fits id v).1 in
    named_digits (hex_text id) (omega (arith, hex_length id)) (name_is_digits Form.Digits id h) Form.Digits
    ∙ ap (λ (o : Option ℕ). unwrap_or o 0) (ap₂ (of_digits Form.Digits) (hex_length id) (hex_value id h) ∙ of_digits_lem id)
name_back Form.Token id v =
    let h = (valid_fits id v).1 in
    let z = count_trailing_zeros 64 id / 4 in
    let m = id / 2 ^ (4 * (count_trailing_zeros 64 id / 4)) in
    let P = token_parts id h in
    let k : 16 - (16 - z) ≡ z = omega (arith, P.few) in
    let d : value_from 16 0 (digits 16 (16 - z) m) ≡ m = value_digits (16 - z) m (part_small id z m h P.few P.is) in
    rw P.token (named_digits (digits 16 (16 - z) m) (omega (arith, digits_length 16 (16 - z) m)) (digits_all (16 - z) m) Form.Token
    ∙ ap (λ (o : Option ℕ). unwrap_or o 0) (ap₂ (of_digits Form.Token) (digits_length 16 (16 - z) m) d ∙ of_token (16 - z) m (P.last (valid_fits id v).0)) ∙ rw k (sym P.is))

-- ---- a name from its id

pub record IsName (form : Form) (t : List ℕ) : Type 0 where
  pub few : length t ≤ 16
  pub digits : all_digits 16 t ≡ true

pub is_name_lem : (form : Form) (t : List ℕ) → is_name form t ≡ true → IsName form t
unfolding is_name
is_name_lem Form.Digits t h =
    let a = (and-eq-true_iff (eqb (length t) 16) _).0 h in
    record { few = omega (arith, eqb-true (length t) 16 a.0); digits = a.1 }
is_name_lem Form.Token t h =
    let a = (and-eq-true_iff (leb (length t) 16) _).0 ((and-eq-true_iff (leb 1 (length t)) _).0 h).1 in
    record { few = leb-true _ _ a.0; digits = ((and-eq-true_iff (all_digits 16 t) _).0 a.1).0 }

pub name_named : (form : Form) (t : List ℕ) → is_name form t ≡ true → name_of form (value_of t) ≡ t
unfolding name_of value_of hex_text token_of is_name
name_named Form.Digits t h =
    let a = (and-eq-true_iff (eqb (length t) 16) _).0 h in
    let k : length t ≡ 16 = eqb-true _ _ a.0 in
    rw (k, mul-one) (ap (λ (n : ℕ). digits 16 n (value_from 16 0 t)) (sym k) ∙ digits_value t a.1)
name_named Form.Token t h =
    let a = (and-eq-true_iff (leb 1 (length t)) _).0 h in
    let b = (and-eq-true_iff (leb (length t) 16) _).0 a.1 in
    let c = (and-eq-true_iff (all_digits 16 t) _).0 b.1 in
    let s : 1 ≤ length t = leb-true _ _ a.0 in
    let f : length t ≤ 16 = leb-true _ _ b.0 in
    let n : length t + (16 - length t) ≡ 16 = omega arith in
    ap trim (ap (λ (x : ℕ). digits 16 x (value_from 16 0 t * 16 ^ (16 - length t))) (sym n) ∙ digits_scaled (16 - length t) (length t) (value_from 16 0 t) ∙ rw (digits_value t c.0))
    ∙ trim_tail t (16 - length t) ∙ trim_whole t (omega arith) (eqb-false _ _ (not-true _ c.1))
