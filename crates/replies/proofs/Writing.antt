-- Laws of `specs/Write.antt`: what is written in parts is written whole, and what a number's digits are.
use mathlib.Core.Path.{◌≡◌, refl, sym, ap, ◌∙◌}
use mathlib.Core.List.{List, [], ◌∷◌, ◌++◌, append_assoc}
use Prim.Native.Nat.{ℕ, zero, suc, ◌+◌, ◌-◌, ◌*◌, ◌/◌, ◌^◌, ◌≤◌, ◌<◌, min}
use native.Mathlib.Omega.{arith}
use native.Mathlib.Decide.{dec_lt}
use mathlib.Core.Logic.{by_cases}
use native.Mathlib.Numerals.{add-one}
use native.Mathlib.Nat.{mod-eq_of_lt, div-lt_iff_lt-mul, le-div_iff_mul-le, pow-suc, pow-le-pow_right}
use lib.ListN.{length, get_or, take, drop, length-append, length-drop, take-append-drop}
use lib.Seq.{drop-cons, drop-drop, length-take-le, set_out, sets, sets-eq, length-sets}
use borrow.Rule.Slice.PartMut.{put_mid}
use borrow.Author.Tests.{lt-ltb, le-ltb}
use Rattle.io.specs.Digits.{last_digits, IsDigitCount}
use Rattle.cellid.proofs.Puts.{sets_append}
use Rattle.tokens.specs.declared.Form.{Form}
use Rattle.totals.specs.declared.Totals.{Totals}
use Rattle.totals.specs.Totals.{six_of, total_at}
use Rattle.replies.specs.Write.{Wrote, spelled, decimal_text, space, id_text, ids_text, numbers_text}

-- ---- parts

pub sets_out : (s d : List ℕ) (at : ℕ) → length d ≤ at → sets d at s ≡ d
sets_out [] d at h = refl
sets_out (x ∷ s) d at h = rw (set_out d at x h) (sets_out s d (suc at) (omega arith))

-- what has no room changes nothing
sets_rest : (s d : List ℕ) (at : ℕ) → (0 < length s → length d ≤ at) → sets d at s ≡ d
sets_rest [] d at h = refl
sets_rest (x ∷ s) d at h = sets_out (x ∷ s) d at (h (omega arith))

-- as much of s as has room, copied to its place, is s stored byte after byte
pub sets_copied : (s d m : List ℕ) (at n k : ℕ) → at < length d → n ≡ min (length s) (length d - at) → m ≡ take n s → k ≡ n → put_mid at k d m ≡ sets d at s
sets_copied s d m at n k h e c f =
    let t : length (take n s) ≡ n = length-take-le n s (omega arith) in
    let l : length (sets d at (take n s)) ≡ length d = length-sets d at (take n s) in
    let whole : sets d at s ≡ sets d at (take n s) =
    ap (sets d at) (sym (take-append-drop n s)) ∙ sets_append (take n s) (drop n s) d at
    ∙ sets_rest (drop n s) (sets d at (take n s)) (at + length (take n s)) (simp length-drop (λ p. omega arith)) in
    rw (whole, sets-eq (take n s) d at (omega arith), t, c, f, drop-drop n at d) (sym (append_assoc (take at d) (take n s) (drop (at + n) d)))

pub wrote_none : (at : ℕ) (d : List ℕ) → Wrote at [] d at d
wrote_none at d = record { count = omega arith; bytes = refl }

-- two writings, the second where the first stopped, are one
module _ {at : ℕ} {a b d : List ℕ} {k : ℕ} {d' : List ℕ} {r : ℕ} {d'' : List ℕ} (p : Wrote at a d k d') (q : Wrote k b d' r d'') where
  kept : length d' ≡ length d
  kept = ap length p.bytes ∙ length-sets d at a

  -- it stopped where a ends, or there is no room
  from_end : sets d' k b ≡ sets d' (at + length a) b
  from_end = by_cases (dec_lt k (length d'))
      (λ h. let e : k ≡ at + length a = omega (arith, kept) in rw e)
      (λ h. sets_out b d' k (omega arith) ∙ sym (sets_out b d' (at + length a) (omega (arith, kept))))

  pub wrote_then : Wrote at (a ++ b) d r d''
  wrote_then = record { count = omega (arith, kept, length-append a b); bytes = q.bytes ∙ from_end ∙ rw p.bytes (sym (sets_append a b d at)) }

-- ---- numbers

-- the fewest digits that hold a number are at most so many
few : (base least most n k : ℕ) → 0 < base → n < base ^ most → least ≤ most → IsDigitCount base least n k → k ≤ most
few base least most n k p h g f = by_cases (dec_lt most k)
    (λ l.
    let q : base ^ most ≤ base ^ (k - 1) = pow-le-pow_right {n = base} p {i = most} {j = k - 1} (omega arith) in
    absurd (omega (arith, f.2 (omega arith))))
    (λ l. omega arith)

-- the digits of a number of so many are those with no zeros in front
digits_spelled : (k n f : ℕ) → n < 10 ^ suc k → (0 < k → 10 ^ k ≤ n) → k < f → last_digits 10 (suc k) n ≡ spelled f n
unfolding spelled
digits_spelled k n zero hi lo g = absurd (omega arith)
digits_spelled zero n (suc f) hi lo g = rw (spelled, lt-ltb n 10 hi, mod-eq_of_lt hi)
digits_spelled (suc k) n (suc f) hi lo g =
    let ten : 0 < 10 = omega arith in
    let p : 10 ^ 0 ≤ 10 ^ k = pow-le-pow_right {n = 10} ten {i = 0} {j = k} (omega arith) in
    let low : 10 ^ k * 10 ≤ n = rw pow-suc at (lo (omega arith)) in
    let up : n / 10 < 10 ^ suc k = (div-lt_iff_lt-mul ten).1 (rw (pow-suc 10 (suc k)) at hi) in
    rw (spelled, le-ltb n 10 (omega arith), ← digits_spelled k (n / 10) f up (λ _. (le-div_iff_mul-le ten).1 low) (omega arith))

pub decimal_text_lem : (k n : ℕ) → IsDigitCount 10 1 n k → n < 2 ^ 64 → last_digits 10 k n ≡ decimal_text n
unfolding decimal_text
decimal_text_lem zero n h b = absurd (omega arith)
decimal_text_lem (suc k) n h b =
    let e : suc k - 1 ≡ k = omega arith in
    digits_spelled k n 20 h.1 (λ p. rw e at (h.2 (omega arith))) (omega (arith, few 10 1 20 n (suc k) (omega arith) (omega arith) (omega arith) h))

numbers_go : (l : List ℕ) (i : ℕ) → i < length l → numbers_text (drop i l) ≡ (space ++ decimal_text (get_or l i 0)) ++ numbers_text (drop (i + 1) l)
unfolding numbers_text
numbers_go l i h = rw (drop-cons l i 0 h, numbers_text, add-one i) (sym (append_assoc space (decimal_text (get_or l i 0)) _))

-- a total more
six_at : (t : Totals) (i : ℕ) → i < 6 → get_or (six_of t) i 0 ≡ total_at t i
six_at t zero h = refl
six_at t (suc zero) h = refl
six_at t (suc (suc zero)) h = refl
six_at t (suc (suc (suc zero))) h = refl
six_at t (suc (suc (suc (suc zero)))) h = refl
six_at t (suc (suc (suc (suc (suc zero))))) h = refl
six_at t (suc (suc (suc (suc (suc (suc i)))))) h = absurd (omega (arith, h))

pub totals_go : (t : Totals) (i : ℕ) → i < 6 → numbers_text (drop i (six_of t)) ≡ (space ++ decimal_text (total_at t i)) ++ numbers_text (drop (i + 1) (six_of t))
totals_go t i h = numbers_go (six_of t) i h ∙ rw (six_at t i h)

pub ids_go : (form : Form) (l : List ℕ) (i : ℕ) → i < length l → ids_text form (drop i l) ≡ id_text form (get_or l i 0) ++ ids_text form (drop (i + 1) l)
unfolding ids_text
ids_go form l i h = rw (drop-cons l i 0 h, ids_text, add-one i)
