-- Thirty levels as eight times four, both ways: the first four begin two levels above the face, and those two lead nowhere.
use mathlib.Core.Path.{◌≡◌, refl, sym, ap, ap₂, ◌∙◌}
use Prim.Native.Nat.{ℕ, zero, suc, ◌+◌, ◌-◌, ◌*◌, ◌/◌, ◌%◌, ◌^◌, ◌≤◌, ◌<◌}
use native.Mathlib.Nat.{mul_left_comm}
use native.Mathlib.Omega.{arith}
use lib.Pow.{pow-add}
use lib.Bits.{bit_and}
use Rattle.cellid.specs.CellId.{face_of}
use Rattle.cellid.proofs.Laws.{pow_pair}
use Rattle.turns.specs.Turns.{ij_at, row_at, Walk, turn_of}
use Rattle.turns.specs.Table.{pair_at, four_turns, turns_word}
use Rattle.turns.proofs.Words.{bits_of}
use Rattle.turns.proofs.Laws.{Within, four_within, PackedWalk, turns_next}
use Rattle.positions.specs.Positions.{pos_of, index_in, ij_of, Digits, step_of}
use Rattle.positions.specs.Table.{four_steps, steps_word}
use Rattle.positions.proofs.Laws.{Below, four_below, PackedDigits, steps_next}
use Rattle.hilbert.specs.Curve.{pos_at, walk, digits, leaf_of}
use Rattle.hilbert.specs.Fours.{pos_four, bits_four}

-- ---- four levels of either way

-- from a level to the next by `step`, with the numbers d 29 to d 0; q 3 to q 0 are the four of these from the place 4 * k on
four_levels : {A : Type 0} (step : A → ℕ → A) (w : ℕ → A) (d q : ℕ → ℕ) (n k : ℕ) → ((m : ℕ) → w (suc m) ≡ step (w m) (d (29 - m)))
    → ((c : ℕ) → c < 4 → 4 * k + c < 30 → q c ≡ d (4 * k + c)) → n + 4 * k ≡ 26
    → step (step (step (step (w n) (q 3)) (q 2)) (q 1)) (q 0) ≡ w (suc (suc (suc (suc n))))
four_levels {A} step w d q n k s e h = level 0 (omega arith) (level 1 (omega arith) (level 2 (omega arith) (level 3 (omega arith) refl (omega arith)) (omega arith)) (omega arith)) (omega arith)
  where
    level : (c : ℕ) → c < 4 → {m : ℕ} {a : A} → a ≡ w m → m + 4 * k + c ≡ 29 → step a (q c) ≡ w (suc m)
    level c b {m} f g = let t : 4 * k + c ≡ 29 - m = omega arith in ap₂ step f (e c b (omega arith) ∙ ap d t) ∙ sym (s m)

-- the first four, of which two lead nowhere
first_levels : {A : Type 0} (step : A → ℕ → A) (a : A) (d q : ℕ → ℕ) → step (step a 0) 0 ≡ a → (q 3 ≡ 0) × (q 2 ≡ 0)
    → ((c : ℕ) → c < 4 → 4 * 7 + c < 30 → q c ≡ d (4 * 7 + c)) → step (step (step (step a (q 3)) (q 2)) (q 1)) (q 0) ≡ step (step a (d 29)) (d 28)
first_levels step a d q i z e =
    ap₂ step (ap₂ step (ap₂ (λ (x y : ℕ). step (step a x) y) z.0 z.1 ∙ i) (e 1 (omega arith) (omega arith))) (e 0 (omega arith) (omega arith))

-- ---- from an id to its place

pos_in_four : (id k c : ℕ) → c < 4 → 4 * k + c < 30 → pair_at (pos_four id k) c ≡ pos_at id (4 * k + c)
pos_in_four id k c h g =
    let e : 8 * k + 2 * c ≡ 2 * (4 * k + c) = omega arith in
    let f : 1 + 2 * (4 * k + c) ≡ 2 * (4 * k + c) + 1 = omega arith in
    bits_of (id / 2 ^ 1 % 2 ^ 60) (8 * k) 8 (2 * c) 2 (omega arith)
    ∙ ap (λ (t : ℕ). id / 2 ^ 1 % 2 ^ 60 / 2 ^ t % 4) e
    ∙ bits_of id 1 60 (2 * (4 * k + c)) 2 (omega arith)
    ∙ ap (λ (t : ℕ). id / 2 ^ t % 4) f

-- where the first n fours lead
unfoldable pub walk_fours : ℕ → ℕ → Walk
walk_fours id zero = record { i = 0; j = 0; row = face_of id % 2 }
walk_fours id (suc n) = four_turns (walk_fours id n) (pos_four id (7 - n))

pub walk_fours_in : (id n : ℕ) → Within (4 * n) (walk_fours id n)
unfolding walk_fours
walk_fours_in id zero = record { i = omega arith; j = omega arith; row = omega arith }
walk_fours_in id (suc n) =
    let e : 4 * suc n ≡ suc (suc (suc (suc (4 * n)))) = omega arith in
    rw e (four_within (4 * n) (pos_four id (7 - n)) (walk_fours id n) (walk_fours_in id n))

-- two turns at position 0, from the rows of a face
idle_turns : (row : ℕ) → row < 2 → turn_of (turn_of (record { i = 0; j = 0; row = row }) 0) 0 ≡ record { i = 0; j = 0; row = row }
unfolding turn_of ij_at row_at
idle_turns zero h = refl
idle_turns (suc zero) h = refl
idle_turns (suc (suc row)) h = absurd (omega (arith, h))

-- two levels of the id's own, and four with each four more
pub walk_by_fours : (id n : ℕ) → n < 8 → walk_fours id (suc n) ≡ walk id (2 + 4 * n)
unfolding walk_fours walk four_turns
walk_by_fours id zero h = first_levels turn_of _ (pos_at id) (pair_at (pos_four id 7)) (idle_turns (face_of id % 2) (omega arith)) (omega arith, omega arith) (pos_in_four id 7)
walk_by_fours id (suc n) h =
    let e : 2 + 4 * suc n ≡ suc (suc (suc (suc (2 + 4 * n)))) = omega arith in
    rw (e, walk_by_fours id n (omega arith)) (four_levels turn_of (walk id) (pos_at id) (pair_at (pos_four id (7 - suc n))) (2 + 4 * n) (7 - suc n) (λ m. refl) (pos_in_four id (7 - suc n)) (omega arith))

-- one turn of the loop
pub four_more : (id k ij row word : ℕ) → 0 < k → k ≤ 8 → PackedWalk (walk_fours id (8 - k)) ij row → word ≡ turns_word (pos_four id (k - 1))
    → PackedWalk (walk_fours id (8 - (k - 1))) (16 * ij + bit_and (word / 2 ^ row) 0xf0000000f) (bit_and (word / 2 ^ row / 2 ^ 16) 12)
unfolding walk_fours
four_more id k ij row word h g p f =
    let n : 8 - (k - 1) ≡ suc (8 - k) = omega arith in
    let m : 7 - (8 - k) ≡ k - 1 = omega arith in
    rw (n, walk_fours, m) (turns_next _ word ij row (walk_fours id (8 - k)) (walk_fours_in id (8 - k)).row p f)

-- ---- from a place to its leaf

quarter_in_four : (i j k c : ℕ) → c < 4 → 4 * k + c < 30 → ij_of (bits_four i k) (bits_four j k) c ≡ ij_of i j (4 * k + c)
quarter_in_four i j k c h g = ap₂ (λ (x y : ℕ). 2 * x + y) (bits_of i (4 * k) 4 c 1 (omega arith)) (bits_of j (4 * k) 4 c 1 (omega arith))

-- the positions that the first n fours take
unfoldable pub digit_fours : ℕ → ℕ → ℕ → ℕ → Digits
digit_fours face i j zero = record { n = 0; row = face % 2 }
digit_fours face i j (suc n) = four_steps (digit_fours face i j n) (bits_four i (7 - n)) (bits_four j (7 - n))

pub digit_fours_in : (face i j n : ℕ) → Below (2 ^ (8 * n)) (digit_fours face i j n)
unfolding digit_fours
digit_fours_in face i j zero = record { n = omega arith; row = omega arith }
digit_fours_in face i j (suc n) =
    let e : 8 * suc n ≡ 8 + 8 * n = omega arith in
    let p : 2 ^ (8 * suc n) ≡ 4 * (4 * (4 * (4 * 2 ^ (8 * n)))) = ap (λ (k : ℕ). 2 ^ k) e ∙ pow-add 2 8 (8 * n) ∙ omega arith in
    rw p (four_below (2 ^ (8 * n)) (bits_four i (7 - n)) (bits_four j (7 - n)) (digit_fours face i j n) (digit_fours_in face i j n))

-- two levels at quarter 0, from the rows of a face
idle_steps : (row : ℕ) → row < 2 → step_of (step_of (record { n = 0; row = row }) 0) 0 ≡ record { n = 0; row = row }
unfolding step_of pos_of index_in row_at
idle_steps zero h = refl
idle_steps (suc zero) h = refl
idle_steps (suc (suc row)) h = absurd (omega (arith, h))

-- the first n pairs of bits of the leaf at i, j, with no face before them
unfoldable pairs : ℕ → ℕ → ℕ → ℕ → Digits
pairs face i j zero = record { n = 0; row = face % 2 }
pairs face i j (suc n) = step_of (pairs face i j n) (ij_of i j (29 - n))

-- two levels of the place's own, and four with each four more
pairs_by_fours : (face i j n : ℕ) → n < 8 → i < 2 ^ 30 → j < 2 ^ 30 → digit_fours face i j (suc n) ≡ pairs face i j (2 + 4 * n)
unfolding digit_fours pairs four_steps
pairs_by_fours face i j zero h f g =
    first_levels step_of _ (ij_of i j) (ij_of (bits_four i 7) (bits_four j 7)) (idle_steps (face % 2) (omega arith)) (omega arith, omega arith) (quarter_in_four i j 7)
pairs_by_fours face i j (suc n) h f g =
    let e : 2 + 4 * suc n ≡ suc (suc (suc (suc (2 + 4 * n)))) = omega arith in
    let k = 7 - suc n in
    rw (e, pairs_by_fours face i j n (omega arith) f g)
    (four_levels step_of (pairs face i j) (ij_of i j) (ij_of (bits_four i k) (bits_four j k)) (2 + 4 * n) k (λ m. refl) (quarter_in_four i j k) (omega arith))

-- the face stands before them
digits_pairs : (face i j n : ℕ) → digits face i j n ≡ record { n = face * 2 ^ (2 * n) + (pairs face i j n).n; row = (pairs face i j n).row }
unfolding digits pairs step_of
digits_pairs face i j zero = ap (λ (x : ℕ). record { n = x; row = face % 2 }) (omega arith)
digits_pairs face i j (suc n) =
    let p : face * 2 ^ (2 * suc n) ≡ 4 * (face * 2 ^ (2 * n)) = ap (λ (x : ℕ). face * x) (pow_pair n (suc n) (omega arith)) ∙ mul_left_comm face 4 (2 ^ (2 * n)) in
    rw (digits_pairs face i j n) (ap (λ (x : ℕ). record { n = x; row = (pairs face i j (suc n)).row }) (omega (arith, p)))

-- so the leaf's id is its face, what eight fours take, a one
pub leaf_by_fours : (face i j : ℕ) → i < 2 ^ 30 → j < 2 ^ 30 → leaf_of face i j ≡ face * 2 ^ 61 + 2 * (digit_fours face i j 8).n + 1
unfolding leaf_of
leaf_by_fours face i j f g = rw (digits_pairs face i j 30, pairs_by_fours face i j 7 (omega arith) f g) (omega arith)

-- one turn of the loop
pub four_back : (face i j k n row word : ℕ) → 0 < k → k ≤ 8 → PackedDigits (digit_fours face i j (8 - k)) n row
    → let ij = 16 * bits_four i (k - 1) + bits_four j (k - 1) in word ≡ steps_word (ij / 16) (ij % 16)
    → PackedDigits (digit_fours face i j (8 - (k - 1))) (256 * n + bit_and (word / 2 ^ row) 255) (bit_and (word / 2 ^ row / 2 ^ 32) 24)
unfolding digit_fours
four_back face i j k n row word h g p f =
    let s : 8 - (k - 1) ≡ suc (8 - k) = omega arith in
    let m : 7 - (8 - k) ≡ k - 1 = omega arith in
    rw (s, digit_fours, m) (steps_next _ _ word n row (digit_fours face i j (8 - k)) (digit_fours_in face i j (8 - k)).row p (f ∙ ap₂ steps_word (omega arith) (omega arith)))
