-- Laws of the parts of the working memory, at any word a and any bound b.
use mathlib.Core.Path.{◌≡◌, refl, sym, ap, ap₂, ◌∙◌}
use mathlib.Core.List.{List, [], ◌∷◌, ◌++◌, append_assoc}
use Prim.Native.Nat.{ℕ, ◌+◌, ◌-◌, ◌*◌, ◌≤◌, ◌<◌}
use native.Mathlib.Numerals.{add-one}
use native.Mathlib.Nat.{sub-zero}
use native.Mathlib.Omega.{arith}
use Rattle.std.proofs.Common.{append-nil}
use lib.ListN.{drop_of_length-le, length-take, length, take, drop, set, length-append, length-drop}
use lib.Seq.{length-take-le, drop-drop, drop-set-lt, drop-set-add, take-suc-set, take-append-add, drop-append-add}
use Rattle.cellunion.specs.Memory.{zeros, laid}
use Rattle.cellunion.proofs.Memory.{drop_more, laid_start, length_zeros}
use Rattle.run.specs.Run.{queue_most, raw_most, queue_words, memory_words}
use Rattle.coverer.specs.Coverer.{cleared, only_words}
use Rattle.coverer.specs.Engine.{words_at, past}

-- the sizes fit together: four words for each record of the queue, and a word for each kept id
pub sizes : (queue_words ≡ 4 * queue_most) × (memory_words ≡ queue_words + raw_most)
sizes = (refl, refl)

-- ---- words of a part

pub words_length : (a k : ℕ) (m : List ℕ) → a + k ≤ length m → length (words_at a k m) ≡ k
unfolding words_at
words_length a k m h = length-take-le k (drop a m) (omega (arith, length-drop a m))

pub words_none : (a : ℕ) (m : List ℕ) → words_at a 0 m ≡ []
unfolding words_at
words_none a m = refl

-- one more word at the end
pub words_more : (a k v : ℕ) (m : List ℕ) → a + k < length m → words_at a (k + 1) (set m (a + k) v) ≡ words_at a k m ++ (v ∷ [])
unfolding words_at
words_more a k v m h = ap (take (k + 1)) (drop-set-add a m k v) ∙ rw add-one (take-suc-set (drop a m) k v (omega (arith, length-drop a m)))

pub words_past : (a k : ℕ) (m m' : List ℕ) → past a m' ≡ past a m → words_at a k m' ≡ words_at a k m
unfolding words_at past
words_past a k m m' e = ap (take k) e

pub past_set : (a i v : ℕ) (m : List ℕ) → i < a → past a (set m i v) ≡ past a m
unfolding past
past_set a i v m h = drop-set-lt a m i v h

pub past_later : (a b : ℕ) (m m' : List ℕ) → a ≤ b → past a m' ≡ past a m → past b m' ≡ past b m
unfolding past
past_later a b m m' h e = drop_more a b m' m h e

-- ---- what a run leaves

front : (b : ℕ) (m : List ℕ) → cleared 0 b m ≡ zeros b ++ drop b m
front b m = laid_start (zeros (b - 0)) m ∙ rw (length_zeros (b - 0), sub-zero)

-- the first b words cleared: what stood there makes no difference
pub cleared_front : (b : ℕ) (m m' : List ℕ) → past b m' ≡ past b m → cleared 0 b m' ≡ cleared 0 b m
unfolding past
cleared_front b m m' e = front b m' ∙ ap (λ (x : List ℕ). zeros b ++ x) e ∙ sym (front b m)

take_over : (xs ys : List ℕ) (a k : ℕ) → length xs ≡ a → take (a + k) (xs ++ ys) ≡ xs ++ take k ys
take_over xs ys a k e = ap (λ (n : ℕ). take (n + k) (xs ++ ys)) (sym e) ∙ take-append-add xs ys k

drop_over : (xs ys : List ℕ) (a k : ℕ) → length xs ≡ a → drop (a + k) (xs ++ ys) ≡ drop k ys
drop_over xs ys a k e = ap (λ (n : ℕ). drop (n + k) (xs ++ ys)) (sym e) ∙ drop-append-add xs ys k

-- clearing once more changes nothing
pub cleared_twice : (b : ℕ) (m : List ℕ) → cleared 0 b (cleared 0 b m) ≡ cleared 0 b m
unfolding past
cleared_twice b m =
    let z : b + 0 ≡ b = omega arith in
    cleared_front b m (cleared 0 b m) (ap (drop b) (front b m) ∙ ap (λ (j : ℕ). drop j (zeros b ++ drop b m)) (sym z) ∙ drop_over (zeros b) (drop b m) b 0 (length_zeros b))

-- the words before a and from a + k to b cleared, the k words between being l
pub cleared_only : (a b k : ℕ) (l m m' : List ℕ) → a + k ≤ b → b ≤ length m' → words_at a k m' ≡ l → past b m' ≡ past b m
    → cleared (a + k) b (cleared 0 a m') ≡ only_words a b l m
unfolding laid only_words past words_at
cleared_only a b k l m m' h g e d =
    let n : length l ≡ k = ap length (sym e) ∙ length-take-le k (drop a m') (omega (arith, length-drop a m')) in
    let z : a + (b - a) ≡ b = omega arith in
    let y : (a + k) + length (zeros (b - (a + k))) ≡ b = omega (arith, length_zeros (b - (a + k))) in
    let x : List ℕ = zeros a ++ drop a m' in
    let t : take (a + k) x ≡ zeros a ++ l = take_over (zeros a) (drop a m') a k (length_zeros a) ∙ ap (λ (v : List ℕ). zeros a ++ v) e in
    let u : drop b x ≡ drop b m =
    ap (λ (j : ℕ). drop j x) (sym z) ∙ drop_over (zeros a) (drop a m') a (b - a) (length_zeros a) ∙ drop-drop (b - a) a m' ∙ ap (λ (j : ℕ). drop j m') z ∙ d in
    ap (cleared (a + k) b) (front a m')
    ∙ ap (λ (j : ℕ). take (a + k) x ++ (zeros (b - (a + k)) ++ drop j x)) y
    ∙ ap₂ (λ (v w : List ℕ). v ++ (zeros (b - (a + k)) ++ w)) t u
    ∙ append_assoc (zeros a) l (zeros (b - (a + k)) ++ drop b m)
    ∙ ap (λ (j : ℕ). zeros a ++ (l ++ (zeros (b - (a + j)) ++ drop b m))) (sym n)

-- ---- for those who use what a run leaves

-- where the length stayed, the kept words had room
pub only_room : (a b : ℕ) (l m : List ℕ) → a ≤ b → b ≤ length m → length (only_words a b l m) ≡ length m → a + length l ≤ b
unfolding only_words
only_room a b l m h g e = omega (arith, simp (length-append, length_zeros, length-drop) at e)

-- the kept words, and what follows them
pub only_words_lem : (a b : ℕ) (l m : List ℕ) → drop a (only_words a b l m) ≡ l ++ (zeros (b - (a + length l)) ++ drop b m)
unfolding only_words
only_words_lem a b l m =
    let z : a + 0 ≡ a = omega arith in
    ap (λ (j : ℕ). drop j (only_words a b l m)) (sym z) ∙ drop_over (zeros a) (l ++ (zeros (b - (a + length l)) ++ drop b m)) a 0 (length_zeros a)

pub only_past : (a b : ℕ) (l m : List ℕ) → a + length l ≤ b → drop b (only_words a b l m) ≡ drop b m
unfolding only_words
only_past a b l m h =
    let n = b - (a + length l) in
    let z : a + (length l + (n + 0)) ≡ b = omega arith in
    ap (λ (j : ℕ). drop j (only_words a b l m)) (sym z)
    ∙ drop_over (zeros a) (l ++ (zeros n ++ drop b m)) a (length l + (n + 0)) (length_zeros a)
    ∙ drop_over l (zeros n ++ drop b m) (length l) (n + 0) refl
    ∙ drop_over (zeros n) (drop b m) n 0 (length_zeros n)

-- ---- the first b words of a memory, lent as an array: what stands behind them stays

module _ (b : ℕ) (m m₁ m₂ : List ℕ) (first : m₁ ≡ take b m) where
  none_behind : drop b m₁ ≡ []
  none_behind = ap (drop b) first ∙ drop_of_length-le (take b m) (omega (arith, length-take b m))

  pub front_cleared : m₂ ≡ cleared 0 b m₁ → m₂ ++ drop b m ≡ cleared 0 b m
  front_cleared e = ap (λ (x : List ℕ). x ++ drop b m) (e ∙ front b m₁ ∙ ap (λ (x : List ℕ). zeros b ++ x) none_behind ∙ append-nil (zeros b)) ∙ sym (front b m)

  pub front_only : (a : ℕ) (l : List ℕ) → m₂ ≡ only_words a b l m₁ → m₂ ++ drop b m ≡ only_words a b l m
  unfolding only_words
  front_only a l e = ap (λ (x : List ℕ). x ++ drop b m) (e ∙ ap (λ (x : List ℕ). zeros a ++ (l ++ (zeros (b - (a + length l)) ++ x))) none_behind) ∙ simp append_assoc
