-- Hexadecimal digits: of a number, and back; behind them zeros, which a trim takes away.
use mathlib.Core.Path.{◌≡◌, refl, sym, ap, ◌∙◌}
use mathlib.Core.Bool.{true, and-eq-true_iff}
use mathlib.Core.List.{List, [], ◌∷◌, ◌++◌, append_assoc, append-nil}
use mathlib.Core.Logic.{by_cases}
use Prim.Native.Nat.{ℕ, zero, suc, ◌+◌, ◌-◌, ◌*◌, ◌/◌, ◌%◌, ◌^◌, ◌≤◌, ◌<◌}
use native.Mathlib.Omega.{arith}
use native.Mathlib.Decide.{dec_lt, ℕ_discrete}
use native.Mathlib.Nat.{add-zero, zero-add, mul-one, mul_assoc, pow-suc, div-add-mod', div-lt_iff_lt-mul, mul-div_cancel, mul-mod_left}
use lib.Arith.{digits_div, digits_mod}
use lib.ListN.{length, get_or, set, replicate, length-append, replicate-append-replicate}
use lib.Seq.{get_or_at, set_comm, sets}
use borrow.Author.Tests.{lt-ltb, le-ltb, le-leb, lt-leb, ltb-true, eq-eqb, ne_eqb}
use Rattle.io.specs.Digits.{last_digits, hex_digit_ascii}
use Rattle.text.specs.Text.{digit_of, all_digits, value_from}
use Rattle.text.proofs.Laws.{digits_then, value_then}
use Rattle.cellid.proofs.Puts.{sets_append}
use Rattle.tokens.specs.Tokens.{digit_before, trim}

-- ---- one digit

-- `0` to `9`, `a` to `f`
figure : (b d : ℕ) → b ≡ 48 + d → d < 10 → digit_of b ≡ d
unfolding digit_of
figure b d e h = rw (digit_of, le-ltb b 48 (omega arith), le-leb b 57 (omega arith)) (omega arith)

letter : (b d : ℕ) → b ≡ 87 + d → 10 ≤ d → d < 16 → digit_of b ≡ d
unfolding digit_of
letter b d e l h = rw (digit_of, le-ltb b 48 (omega arith), lt-leb b 57 (omega arith), le-ltb b 97 (omega arith), le-leb b 102 (omega arith)) (omega arith)

pub digit_glyph : (d : ℕ) → d < 16 → digit_of (hex_digit_ascii d) ≡ d
digit_glyph d h = by_cases (dec_lt d 10)
    (λ l. figure (hex_digit_ascii d) d (rw (lt-ltb d 10 l)) l)
    (λ l.
    let k : 10 ≤ d = omega arith in
    letter (hex_digit_ascii d) d (rw (le-ltb d 10 k)) k h)

pub glyph_digit : (b : ℕ) → digit_of b < 16 → hex_digit_ascii (digit_of b) ≡ b
unfolding digit_of
glyph_digit b h = by_cases (dec_lt b 48)
    (λ p. absurd (omega (arith, rw (digit_of, lt-ltb b 48 p) at h)))
    (λ p.
    by_cases (dec_lt 57 b)
    (λ q.
    by_cases (dec_lt b 97)
    (λ r. absurd (omega (arith, rw (digit_of, le-ltb b 48 (omega arith), lt-leb b 57 q, lt-ltb b 97 r) at h)))
    (λ r.
    by_cases (dec_lt 102 b)
    (λ s. absurd (omega (arith, rw (digit_of, le-ltb b 48 (omega arith), lt-leb b 57 q, le-ltb b 97 (omega arith), lt-leb b 102 s) at h)))
    (λ s.
    let e : digit_of b ≡ b - 87 = rw (digit_of, le-ltb b 48 (omega arith), lt-leb b 57 q, le-ltb b 97 (omega arith), le-leb b 102 (omega arith)) in
    rw (e, le-ltb (b - 87) 10 (omega arith)) (omega arith))))
    (λ q.
    let e : digit_of b ≡ b - 48 = rw (digit_of, le-ltb b 48 (omega arith), le-leb b 57 (omega arith)) in
    rw (e, lt-ltb (b - 48) 10 (omega arith)) (omega arith)))

-- a newline is no digit
pub digit_line : (b : ℕ) → digit_of b < 16 → b ≡ 10 → ⊥
unfolding digit_of
digit_line b h e = omega (arith, rw e at h)

pub glyph_some : (d : ℕ) → 0 < d → hex_digit_ascii d ≡ 48 → ⊥
glyph_some d h e = by_cases (dec_lt d 10)
    (λ l. omega (arith, rw (lt-ltb d 10 l) at e))
    (λ l. omega (arith, rw (le-ltb d 10 (omega arith)) at e))

-- ---- digits of a number, and back

pub digits_length : (base k n : ℕ) → length (last_digits base k n) ≡ k
digits_length base zero n = refl
digits_length base (suc k) n = rw (length-append (last_digits base k (n / base)) _, digits_length base k (n / base)) (omega arith)

pub digits_all : (k n : ℕ) → all_digits 16 (last_digits 16 k n) ≡ true
digits_all zero n = refl
digits_all (suc k) n =
    let d : n % 16 < 16 = omega arith in
    rw (digits_then 16 (last_digits 16 k (n / 16)) _, digits_all k (n / 16), digit_glyph (n % 16) d, lt-ltb (n % 16) 16 d)

pub value_digits : (k n : ℕ) → n < 16 ^ k → value_from 16 0 (last_digits 16 k n) ≡ n
unfolding value_from
value_digits zero n h = omega arith
value_digits (suc k) n h =
    let up : n / 16 < 16 ^ k = (div-lt_iff_lt-mul {k = 16} {x = n} {y = 16 ^ k} (omega arith)).1 (rw pow-suc at h) in
    rw (value_then 16 0 (last_digits 16 k (n / 16)) _, value_digits k (n / 16) up, digit_glyph (n % 16) (omega arith)) (div-add-mod' n 16)

more_digits : (k m d : ℕ) → d < 16 → last_digits 16 (suc k) (m * 16 + d) ≡ last_digits 16 k m ++ (hex_digit_ascii d ∷ [])
more_digits k m d h = rw (digits_div m h, digits_mod m h)

digits_from : (t : List ℕ) (k m : ℕ) → all_digits 16 t ≡ true → last_digits 16 (k + length t) (value_from 16 m t) ≡ last_digits 16 k m ++ t
unfolding value_from
digits_from [] k m h = rw (add-zero, append-nil)
digits_from (b ∷ t) k m h =
    let a = (and-eq-true_iff _ (all_digits 16 t)).0 h in
    let d : digit_of b < 16 = ltb-true _ _ a.0 in
    let e : k + suc (length t) ≡ suc k + length t = omega arith in
    ap (λ (n : ℕ). last_digits 16 n (value_from 16 (m * 16 + digit_of b) t)) e
    ∙ digits_from t (suc k) (m * 16 + digit_of b) a.1
    ∙ rw (more_digits k m (digit_of b) d, glyph_digit b d) (append_assoc (last_digits 16 k m) (b ∷ []) t)

pub digits_value : (t : List ℕ) → all_digits 16 t ≡ true → last_digits 16 (length t) (value_from 16 0 t) ≡ t
digits_value t h = ap (λ (n : ℕ). last_digits 16 n (value_from 16 0 t)) (sym (zero-add (length t))) ∙ digits_from t 0 0 h

-- zeros behind the digits
pub digits_scaled : (j k m : ℕ) → last_digits 16 (k + j) (m * 16 ^ j) ≡ last_digits 16 k m ++ replicate j 48
digits_scaled zero k m = rw (add-zero, mul-one, append-nil)
digits_scaled (suc j) k m =
    let e : m * 16 ^ suc j ≡ m * 16 ^ j * 16 = rw pow-suc (sym (mul_assoc m (16 ^ j) 16)) in
    let q : m * 16 ^ j * 16 / 16 ≡ m * 16 ^ j = mul-div_cancel (m * 16 ^ j) (omega arith) in
    let p : k + suc j ≡ suc (k + j) = omega arith in
    let s : j + 1 ≡ suc j = omega arith in
    ap (λ (n : ℕ). last_digits 16 n (m * 16 ^ suc j)) p
    ∙ rw (e, q, mul-mod_left (m * 16 ^ j) 16, digits_scaled j k m) (append_assoc (last_digits 16 k m) (replicate j 48) (48 ∷ []) ∙ ap (λ (l : List ℕ). last_digits 16 k m ++ l) (replicate-append-replicate j 1 48 ∙ ap (λ (n : ℕ). replicate n 48) s))

-- the last digit
pub last_digit : (k m : ℕ) → 0 < k → get_or (last_digits 16 k m) (length (last_digits 16 k m) - 1) 0 ≡ hex_digit_ascii (m % 16)
last_digit zero m h = absurd (omega arith)
last_digit (suc k) m h = get_or_at (last_digits 16 k (m / 16)) (hex_digit_ascii (m % 16)) [] 0 _ (digits_length 16 k (m / 16) ∙ rw (digits_length 16 (suc k) m) (omega arith))

-- ---- digits stored from the last on

-- a store behind a run of stores may go before it
sets_set : (s d : List ℕ) (at k x : ℕ) → at + length s ≤ k → set (sets d at s) k x ≡ sets (set d k x) at s
sets_set [] d at k x h = refl
sets_set (y ∷ s) d at k x h =
    sets_set s (set d at y) (suc at) k x (omega arith) ∙ ap (λ (l : List ℕ). sets l (suc at) s) (set_comm d at k y x (λ e. omega arith))

pub digits_none : (d : List ℕ) (at n k : ℕ) → k ≤ 0 → sets d at (last_digits 16 k n) ≡ d
digits_none d at n k h = let e : k ≡ 0 = omega arith in rw e

pub digits_go : (d : List ℕ) (at n k g : ℕ) → 0 < k → g ≡ hex_digit_ascii (n % 16) → sets d at (last_digits 16 k n) ≡ sets (set d (at + (k - 1)) g) at (last_digits 16 (k - 1) (n / 16))
digits_go d at n zero g h e = absurd (omega arith)
digits_go d at n (suc k) g h e =
    let p : suc k - 1 ≡ k = omega arith in
    let l : length (last_digits 16 k (n / 16)) ≡ k = digits_length 16 k (n / 16) in
    rw (p, e, sets_append (last_digits 16 k (n / 16)) (hex_digit_ascii (n % 16) ∷ []) d at, l) (sets_set (last_digits 16 k (n / 16)) d at (at + k) (hex_digit_ascii (n % 16)) (omega arith))

-- ---- trailing zeros

trim_zeros : (j : ℕ) → trim (replicate j 48) ≡ []
unfolding trim digit_before
trim_zeros zero = refl
trim_zeros (suc j) = rw (trim_zeros j)

pub trim_tail : (l : List ℕ) (j : ℕ) → trim (l ++ replicate j 48) ≡ trim l
unfolding trim
trim_tail [] j = trim_zeros j
trim_tail (b ∷ l) j = ap (digit_before b) (trim_tail l j)

pub trim_whole : (l : List ℕ) → 0 < length l → (get_or l (length l - 1) 0 ≡ 48 → ⊥) → trim l ≡ l
unfolding trim digit_before
trim_whole [] p h = absurd (omega arith)
trim_whole (b ∷ []) p h = rw (digit_before, ne_eqb b 48 h)
trim_whole (b ∷ c ∷ l) p h =
    let m : suc (length l) - 1 ≡ length l = omega arith in
    let n : suc (suc (length l)) - 1 ≡ suc (length l) = omega arith in
    rw (trim_whole (c ∷ l) (omega arith) (λ e. h (rw n (rw m at e))))

-- a trim never lengthens
digit_length : (b : ℕ) (l : List ℕ) → length (digit_before b l) ≤ suc (length l)
unfolding digit_before
digit_length b [] = by_cases (ℕ_discrete b 48) (λ e. rw (digit_before, eq-eqb b 48 e) (omega arith)) (λ e. rw (digit_before, ne_eqb b 48 e) (omega arith))
digit_length b (c ∷ l) = omega arith

pub trim_length : (l : List ℕ) → length (trim l) ≤ length l
unfolding trim
trim_length [] = omega arith
trim_length (b ∷ l) = omega (arith, digit_length b (trim l), trim_length l)
