-- Laws of `specs/Text.antt`: what digits spell, what a field comes to, there or not, and numbers, words and bytes one after another.
use Rattle.std.proofs.Common.{◌≡◌, ℕ, zero, suc, ◌+◌, ◌-◌, ◌*◌, ◌^◌, ◌<◌, ◌≤◌, true, false, cond, ◌&&◌, ltb, List, [], ◌∷◌, ◌++◌, length, get_or, take, drop, replicate, slice_range, Some, None, Result, Ok, Err, option_and_then, bytes_eq, sym, refl, ap, ◌∙◌, le_trans, lt_of_lt_of_le, le-mul_of_pos_right, suc-mul, mul-le-mul, pow-suc, add-one, arith, length-append, length-drop, length-take-le, drop_of_length-le, drop-cons, get_or-drop, take-suc, take-suc-set, take_all, length-set, set, append_assoc, append-nil, ltb-true, le-ltb, lt-ltb, ne_eqb, eq-eqb, eqb, ◌||◌}
use Rattle.std.specs.Option.{is_some}
use Rattle.std.proofs.lemmas.List.{length-replicate}
use mathlib.Core.Bool.{and_assoc, and-eq-true_iff}
use mathlib.Core.Logic.{by_cases}
use native.Mathlib.Decide.{ℕ_discrete}
use native.Mathlib.Nat.{pow-le-pow_right}
use lib.Seq.{take-append_seam, drop-append_seam}
use Rattle.text.specs.declared.Base.{Base}
use Rattle.text.specs.declared.Fault.{Fault}
use Rattle.text.specs.declared.Read.{Read}
use Rattle.text.specs.Text.{digit_of, all_digits, value_from, is_blank, leading, start_at, end_at, field_at, choice_of, Spells, Stopped, number_as, field_as, number_after, numbers_after, and_then, list_after, words_with, ReadList, is_silent, all_plain, field_no}

-- ---- numbers

-- a number is no less than what its first digits make
pub value_grows : (base n : ℕ) (l : List ℕ) → 0 < base → n ≤ value_from base n l
unfolding value_from
value_grows base n [] h = omega arith
value_grows base n (b ∷ l) h =
    let more : n ≤ n * base = le-mul_of_pos_right n h in
    le_trans {n = n} {m = n * base + digit_of b} (omega arith) (value_grows base (n * base + digit_of b) l h)

pub value_go : (base n : ℕ) (l : List ℕ) (i : ℕ) → i < length l → value_from base n (drop i l) ≡ value_from base (n * base + digit_of (get_or l i 0)) (drop (i + 1) l)
unfolding value_from
value_go base n l i h = rw (drop-cons l i 0 h, value_from, add-one i)

pub value_end : (base n : ℕ) (l : List ℕ) (i : ℕ) → length l ≤ i → value_from base n (drop i l) ≡ n
unfolding value_from
value_end base n l i h = rw (drop_of_length-le l h)

-- ---- words

module _ {A : Type 0} (xs : List A) (words w : List ℕ) (at i : ℕ) where
  -- the choice among those that are left: the first of them, or one of the others
  pub choice_go : (x : A) → i < length xs → x ≡ get_or xs i x
      → choice_of (drop i xs) words at w ≡ option_and_then (λ f. cond (bytes_eq (slice_range words f.start f.end) w) (Some x) (choice_of (drop (i + 1) xs) words f.end w)) (field_at words at)
  unfolding choice_of
  choice_go x h e = rw (drop-cons xs i x h, choice_of, add-one i, ← e)

  pub choice_end : length xs ≤ i → choice_of (drop i xs) words at w ≡ None
  unfolding choice_of
  choice_end h = rw (drop_of_length-le xs h)

-- ---- fields

-- a byte that is no blank is one more of its run
leading_go : (l : List ℕ) (i : ℕ) → i < length l → is_blank (get_or l i 0) ≡ false → leading false (drop i l) ≡ suc (leading false (drop (i + 1) l))
leading_go l i h e = rw (drop-cons l i 0 h, e, add-one i) (omega arith)

-- where the blanks end before the line does, a field begins
stops : (l : List ℕ) → leading true l < length l → 0 < leading false (drop (leading true l) l)
stops [] h = absurd (omega arith)
stops (x ∷ l) h =
    let n : 1 + leading true l ≡ suc (leading true l) = omega arith in
    elim (is_blank x) as (λ t. is_blank x ≡ t → 0 < leading false (drop (leading true (x ∷ l)) (x ∷ l))) [
      | true ↦ λ e. rw (e, n) (stops l (omega (arith, rw (e, n) at h)))
      | false ↦ λ e. rw (e, e) (omega arith)
    ] refl

-- a line has a field if a byte of it is no blank
module _ (l : List ℕ) (start : ℕ) (e : start ≡ 0 + leading true (drop 0 l)) where
  end_none : start ≡ length l → end_at l 0 ≤ start_at l 0
  unfolding start_at end_at
  end_none h = let n : drop (0 + leading true l) l ≡ [] = drop_of_length-le l (omega arith) in rw n (omega arith)

  end_some : start < length l → start_at l 0 < end_at l 0
  unfolding start_at end_at
  end_some h = let n : 0 + leading true l ≡ leading true l = omega arith in rw n (omega (arith, stops l (omega arith)))

  pub field_none : start ≡ length l → is_some (field_at l 0) ≡ false
  unfolding field_at start_at end_at
  field_none h = rw (le-ltb _ _ (end_none h))

  pub field_first : start < length l → is_some (field_at l 0) ≡ true
  unfolding field_at start_at end_at
  field_first h = rw (lt-ltb _ _ (end_some h))

  -- so it asks nothing if the blanks end with it, or if it begins with #
  pub silent_is : start ≤ length l → is_silent l ≡ ((eqb start (length l) || eqb (get_or l 0 0) 35) && all_plain l)
  unfolding is_silent
  silent_is h = by_cases (ℕ_discrete start (length l))
      (λ a. rw (is_silent, field_none a, eq-eqb _ _ a))
      (λ a. rw (is_silent, field_first (omega arith), ne_eqb _ _ a))

pub field_more : (k : ℕ) (l : List ℕ) (at : ℕ) → field_no (suc k) l at ≡ option_and_then (λ f. field_no k l f.end) (field_at l at)
unfolding field_no
field_more k l at = refl

pub field_last : (k : ℕ) (l : List ℕ) (at : ℕ) → k ≡ 0 → field_no k l at ≡ field_at l at
unfolding field_no
field_last k l at e = rw e

-- ---- digits

pub digits_then : (base : ℕ) (a b : List ℕ) → all_digits base (a ++ b) ≡ (all_digits base a && all_digits base b)
digits_then base [] b = refl
digits_then base (x ∷ a) b = rw (all_digits, digits_then base a b) (sym (and_assoc (ltb (digit_of x) base) (all_digits base a) (all_digits base b)))

pub value_then : (base n : ℕ) (a b : List ℕ) → value_from base n (a ++ b) ≡ value_from base (value_from base n a) b
unfolding value_from
value_then base n [] b = refl
value_then base n (x ∷ a) b = value_then base (n * base + digit_of x) a b

-- no digit is a blank
digit_whole : (x : ℕ) → digit_of x < 16 → is_blank x ≡ false
unfolding digit_of
digit_whole x h = by_cases (ℕ_discrete x 32)
    (λ e. absurd (omega (arith, rw e at h)))
    (λ a.
    by_cases (ℕ_discrete x 9)
    (λ e. absurd (omega (arith, rw e at h)))
    (λ b.
    by_cases (ℕ_discrete x 13)
    (λ e. absurd (omega (arith, rw e at h)))
    (λ c. rw (is_blank, ne_eqb x 32 a, ne_eqb x 9 b, ne_eqb x 13 c))))

-- one digit more of at most sixteen still fits
grown : (n base d k : ℕ) → base ≤ 16 → d < base → n < 16 ^ k → n * base + d < 16 ^ suc k
grown n base d k h g s =
    let a : suc n * base ≤ 16 ^ k * 16 = mul-le-mul s h in
    rw pow-suc (omega (arith, a, suc-mul n base))

pub spells_none : (base : ℕ) (l : List ℕ) (from : ℕ) → from ≤ length l → Spells base l from from 0
unfolding value_from
spells_none base l from h =
    let z : from - from ≡ 0 = omega arith in
    record { order = omega arith; within = h; few = omega arith; size = rw z (omega arith); digits = rw z; value = rw z; parted = refl }

module _ (base : ℕ) (l : List ℕ) (from to n d : ℕ) (small : base ≤ 16) (S : Spells base l from to n) (e : d ≡ digit_of (get_or l to 0)) (g : d < base) where
  pub spells_fits : to < from + 16 → n * base + d < 2 ^ 64
  spells_fits h =
      let k : suc (to - from) ≤ 16 = omega (arith, S.order) in
      let p : 16 ^ suc (to - from) ≤ 16 ^ 16 = pow-le-pow_right {n = 16} (omega arith) {i = suc (to - from)} {j = 16} k in
      lt_of_lt_of_le (grown n base d (to - from) small g S.size) p

  pub spells_more : to < length l → to < from + 16 → Spells base l from (to + 1) (n * base + d)
  unfolding value_from
  spells_more h m =
      let k : (to + 1) - from ≡ suc (to - from) = omega (arith, S.order) in
      let q : from + (to - from) ≡ to = omega (arith, S.order) in
      let x : get_or (drop from l) (to - from) 0 ≡ get_or l to 0 = rw q at (get_or-drop from l (to - from) 0) in
      let t : take (suc (to - from)) (drop from l) ≡ take (to - from) (drop from l) ++ (get_or l to 0 ∷ []) = rw x at (take-suc (drop from l) (to - from) 0 (simp length-drop (omega (arith, S.order)))) in
      let w : digit_of (get_or l to 0) < base = rw e at g in
      record {
        order = omega (arith, S.order);
        within = omega arith;
        few = omega arith;
        size = rw k (grown n base d (to - from) small g S.size);
        digits = rw (k, t, digits_then base (take (to - from) (drop from l)) _, S.digits, lt-ltb _ _ w);
        value = rw (k, t, value_then base 0 (take (to - from) (drop from l)) _, S.value, e);
        parted = S.parted ∙ rw (leading_go l to h (digit_whole (get_or l to 0) (omega arith))) (omega arith);
      }

-- ---- digits that are read to their end: there is one such end

digit_at : (base : ℕ) (l : List ℕ) (m k : ℕ) → k < m → k < length l → all_digits base (take m l) ≡ true → digit_of (get_or l k 0) < base
digit_at base [] m k h g t = absurd (omega arith)
digit_at base (b ∷ l) zero k h g t = absurd (omega arith)
digit_at base (b ∷ l) (suc m) zero h g t = ltb-true _ _ ((and-eq-true_iff (ltb (digit_of b) base) (all_digits base (take m l))).0 t).0
digit_at base (b ∷ l) (suc m) (suc k) h g t = digit_at base l m k (omega arith) (omega arith) ((and-eq-true_iff (ltb (digit_of b) base) (all_digits base (take m l))).0 t).1

module _ (base : ℕ) (l : List ℕ) (from : ℕ) where
  not_before : (to n to' n' : ℕ) → Spells base l from to n → Stopped base l from to → Spells base l from to' n' → to < to' → ⊥
  not_before to n to' n' S E S' h =
      let q : from + (to - from) ≡ to = omega (arith, S.order) in
      let d : digit_of (get_or (drop from l) (to - from) 0) < base = digit_at base (drop from l) (to' - from) (to - from) (omega (arith, S.order)) (simp length-drop (omega (arith, S.order, S'.within))) S'.digits in
      let e : get_or (drop from l) (to - from) 0 ≡ get_or l to 0 = rw q at (get_or-drop from l (to - from) 0) in
      let o : base ≤ digit_of (get_or l to 0) = E (omega (arith, S'.within)) (omega (arith, S'.few)) in
      omega (arith, ap digit_of e)

  -- any two results that the contract of `read_digits` allows are one
  pub spells_once : (to n to' n' : ℕ) → Spells base l from to n → Stopped base l from to → Spells base l from to' n' → Stopped base l from to' → (to ≡ to') × (n ≡ n')
  spells_once to n to' n' S E S' E' =
      let a : to < to' → ⊥ = not_before to n to' n' S E S' in
      let b : to' < to → ⊥ = not_before to' n' to n S' E' S in
      let e : to ≡ to' = omega arith in
      (e, sym S.value ∙ ap (λ (x : ℕ). value_from base 0 (take (x - from) (drop from l))) e ∙ S'.value)

module _ (base fewest most limit : ℕ) (l : List ℕ) (at start end n : ℕ) (S : Spells base l start end n) where
  -- digits that a blank or the line's end follows are the next field
  short_field : start < end → start ≡ at + leading true (drop at l) → end + leading false (drop end l) ≡ end → field_at l at ≡ Some (record { start = start; end = end })
  unfolding field_at start_at end_at
  short_field h s e =
      let g : start + leading false (drop start l) ≡ end = S.parted ∙ e in
      rw (← s, g, lt-ltb _ _ h)

  short_number : 0 < fewest → 16 ≤ most → fewest ≤ end - start → n ≤ limit → number_as base fewest most limit (slice_range l start end) ≡ Ok n
  unfolding number_as
  short_number p q f h =
      let k : length (slice_range l start end) ≡ end - start = length-take-le (end - start) (drop start l) (simp length-drop (omega (arith, S.within))) in
      rw (k, S.digits, ne_eqb (end - start) 0 (λ e. omega arith), le-ltb _ _ f, le-ltb most (end - start) (omega (arith, S.few)), S.value, le-ltb _ _ h)

  pub at_short : 0 < fewest → 16 ≤ most → start ≡ at + leading true (drop at l) → fewest ≤ end - start → end + leading false (drop end l) ≡ end → n ≤ limit
      → Ok (record { value = n; after = end }) ≡ field_as (number_as base fewest most limit) l at
  at_short p q s f e h = rw (short_field (omega arith) s e, short_number p q f h)

-- ---- numbers, one after another

module _ (base : Base) (l : List ℕ) (k at : ℕ) where
  pub numbers_more : (r : Read ℕ) → number_after base 0xffff_ffff_ffff_ffff l at ≡ Ok r
      → numbers_after base (suc k) l at ≡ record { values = r.value ∷ (numbers_after base k l r.after).values; after = (numbers_after base k l r.after).after }
  unfolding numbers_after
  numbers_more r e = rw (numbers_after, e)

  pub numbers_fault : (f : Fault) → number_after base 0xffff_ffff_ffff_ffff l at ≡ Err f → numbers_after base (suc k) l at ≡ record { values = replicate (suc k) 0; after = Err f }
  unfolding numbers_after
  numbers_fault f e = rw (numbers_after, e)

module _ (base : Base) (l m : List ℕ) (at after i : ℕ) (F : take i m ++ (numbers_after base (length m - i) l after).values ≡ (numbers_after base (length m) l at).values)
    (G : (numbers_after base (length m - i) l after).after ≡ (numbers_after base (length m) l at).after) where
  -- the numbers that stand in the first places, and one more
  pub filling_more : (r : Read ℕ) → i < length m → Ok r ≡ number_after base 0xffff_ffff_ffff_ffff l after
      → (take (i + 1) (set m i r.value) ++ (numbers_after base (length (set m i r.value) - (i + 1)) l r.after).values ≡ (numbers_after base (length (set m i r.value)) l at).values)
      × ((numbers_after base (length (set m i r.value) - (i + 1)) l r.after).after ≡ (numbers_after base (length (set m i r.value)) l at).after)
  filling_more r h e =
      let k : length m - i ≡ suc (length m - (i + 1)) = omega arith in
      let t : take (i + 1) (set m i r.value) ≡ take i m ++ (r.value ∷ []) = rw (add-one i) (take-suc-set m i r.value h) in
      let n = numbers_more base l (length m - (i + 1)) after r (sym e) in
      rw (length-set m i r.value, t, append_assoc) (rw (k, n) at F, rw (k, n) at G)

  -- or a fault, from which on they are 0
  pub filling_fault : (f : Fault) → i < length m → Err f ≡ number_after base 0xffff_ffff_ffff_ffff l after
      → (zeros : List ℕ) → zeros ≡ replicate (length (take (length m - i) (drop i m))) 0
      → (Err f ≡ (numbers_after base (length m) l at).after) × (take i m ++ (zeros ++ drop (length m - i) (drop i m)) ≡ (numbers_after base (length m) l at).values)
  filling_fault f h e zeros z =
      let k : length m - i ≡ suc (length m - (i + 1)) = omega arith in
      let n = numbers_fault base l (length m - (i + 1)) after f (sym e) in
      let d : length (drop i m) ≡ length m - i = length-drop i m in
      let t : length (take (length m - i) (drop i m)) ≡ length m - i = length-take-le (length m - i) (drop i m) (omega arith) in
      let r : drop (length m - i) (drop i m) ≡ [] = drop_of_length-le (drop i m) (omega arith) in
      (rw (k, n) at G, rw (z, t, r, append-nil, k) (rw (k, n) at F))

  -- or all
  pub filling_end : length m ≤ i → (Ok after ≡ (numbers_after base (length m) l at).after) × (m ≡ (numbers_after base (length m) l at).values)
  filling_end h =
      let k : length m - i ≡ 0 = omega arith in
      let n : numbers_after base 0 l after ≡ record { values = []; after = Ok after } = unfold numbers_after in refl in
      (rw (k, n) at G, rw (k, n, append-nil, take_all i m h) at F)

-- as many values as are asked for
pub numbers_length : (base : Base) (n : ℕ) (l : List ℕ) (at : ℕ) → length (numbers_after base n l at).values ≡ n
numbers_length base zero l at = unfold numbers_after in refl
numbers_length base (suc n) l at =
    elim (number_after base 0xffff_ffff_ffff_ffff l at) as (λ r. number_after base 0xffff_ffff_ffff_ffff l at ≡ r → length (numbers_after base (suc n) l at).values ≡ suc n) [
      | Err f ↦ λ e. rw (numbers_fault base l n at f e) (length-replicate (suc n) 0)
      | Ok r ↦ λ e. rw (numbers_more base l n at r e) (ap suc (numbers_length base n l r.after))
    ] refl

-- ---- a list

module _ (l m : List ℕ) (at : ℕ) where
  pub list_fault : (f : Fault) → Err f ≡ number_after Base.Ten (length m) l at → ReadList (list_after (length m) l at) (Err f) m m
  unfolding list_after words_with
  list_fault f e = record { read = rw (list_after, ← e); lent = rw (list_after, ← e) }

  pub list_read : (count : Read ℕ) → Ok count ≡ number_after Base.Ten (length m) l at → count.value ≤ length m → (part : List ℕ) (after : Result ℕ Fault)
      → after ≡ (numbers_after Base.Sixteen (length (take count.value m)) l count.after).after
      → part ≡ (numbers_after Base.Sixteen (length (take count.value m)) l count.after).values
      → ReadList (list_after (length m) l at) (and_then after (λ n. Ok (record { value = count.value; after = n }))) m (part ++ drop count.value m)
  unfolding list_after words_with
  list_read count e h part after p q =
      let k : length (take count.value m) ≡ count.value = length-take-le count.value m h in
      let w : list_after (length m) l at ≡ numbers_after Base.Sixteen count.value l count.after = rw (list_after, ← e) in
      let n : length (list_after (length m) l at).values ≡ count.value = rw w (numbers_length Base.Sixteen count.value l count.after) in
      record { read = rw (n, w, p, k); lent = rw (n, w, q, k) }

-- words with a list in the first of them
module _ (l words words' : List ℕ) (n : ℕ) (e : n ≡ length l) (d : words' ≡ words_with l words) where
  pub words_fit : n ≤ length words'
  unfolding words_with
  words_fit = rw (e, d) (simp length-append (omega arith))

  pub words_list : take n words' ≡ l
  unfolding words_with
  words_list = rw (e, d) (take-append_seam l _)

  pub words_rest : drop n words' ≡ drop (length l) words
  unfolding words_with
  words_rest = rw (e, d) (drop-append_seam l _)
