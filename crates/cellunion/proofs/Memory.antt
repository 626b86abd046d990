-- Words of a memory one after another, and lists laid over a slice.
use mathlib.Core.Path.{◌≡◌, refl, sym, ap, ap₂, ◌∙◌}
use mathlib.Core.List.{List, [], ◌∷◌, ◌++◌, append_assoc, append-nil}
use Prim.Native.Nat.{ℕ, zero, suc, ◌+◌, ◌-◌, ◌≤◌, ◌<◌}
use native.Mathlib.Nat.{add-zero}
use native.Mathlib.Omega.{arith}
use native.Mathlib.Numerals.{add-one}
use lib.ListN.{length, get_or, take, drop, set, replicate, length-set, length-drop, take-append-drop, drop_of_length-le}
use lib.Seq.{take-nil, take-length, take-suc-set, drop-set-lt, drop-cons, drop-drop, get_or-drop, get_or-take, length-take-le}
use Rattle.std.specs.List.{copy_within}
use Rattle.std.proofs.lemmas.List.{drop-take}
use Rattle.std.proofs.lemmas.List.Edits.{paste_all}
use Rattle.std.proofs.lemmas.Slice.{put_mid-paste}
use borrow.Author.Tests.{le-leb, lt-leb}
use borrow.Rule.Slice.PartMut.{put_mid}
use Rattle.order.specs.Order.{All}
use Rattle.std.specs.Prelude.{Some, None}
use Rattle.cellunion.specs.Memory.{zeros, laid, room_for, laid_over}

-- ---- walking the list

pub next_word : (m : List ℕ) (n i : ℕ) → n ≤ length m → i < n → drop i (take n m) ≡ get_or m i 0 ∷ drop (i + 1) (take n m)
next_word m n i r h =
    let l : length (take n m) ≡ n = length-take-le n m r in
    drop-cons (take n m) i 0 (omega arith) ∙ ap₂ (λ (x : ℕ) (w : ℕ). x ∷ drop w (take n m)) (get_or-take n m i 0 h) (sym (add-one i))

-- where two lists are the same from a place on, they have the same word there
same_word : (a b : List ℕ) (i : ℕ) → drop i a ≡ drop i b → get_or a i 0 ≡ get_or b i 0
same_word a b i e = simp add-zero at (sym (get_or-drop i a 0 0) ∙ ap (λ (l : List ℕ). get_or l 0 0) e ∙ get_or-drop i b 0 0)

-- what a pass that writes behind itself reads next was not yet written
pub next_read : (m₀ m : List ℕ) (n i : ℕ) → n ≤ length m₀ → i < n → drop i m ≡ drop i m₀ → drop i (take n m₀) ≡ get_or m i 0 ∷ drop (i + 1) (take n m₀)
next_read m₀ m n i r h e = next_word m₀ n i r h ∙ ap (λ (x : ℕ). x ∷ drop (i + 1) (take n m₀)) (sym (same_word m m₀ i e))

pub no_more : (m : List ℕ) (n i : ℕ) → n ≤ length m → n ≤ i → drop i (take n m) ≡ []
no_more m n i r h = let l : length (take n m) ≡ n = length-take-le n m r in drop_of_length-le (take n m) {i = i} (omega arith)

pub all_drop : (P : ℕ → Type 0) (i : ℕ) (l : List ℕ) → All P l → All P (drop i l)
unfolding All
all_drop P zero l a = a
all_drop P (suc i) [] a = tt
all_drop P (suc i) (x ∷ l) a = all_drop P i l a.1

pub drop_more : (a b : ℕ) (x y : List ℕ) → a ≤ b → drop a x ≡ drop a y → drop b x ≡ drop b y
drop_more a b x y h e =
    let n : a + (b - a) ≡ b = omega arith in
    ap (λ (w : ℕ). drop w x) (sym n) ∙ sym (drop-drop (b - a) a x) ∙ ap (drop (b - a)) e ∙ drop-drop (b - a) a y ∙ ap (λ (w : ℕ). drop w y) n

-- words that are the same from a place on are the same from there to before n
pub drop_take_same : (n i : ℕ) (x y : List ℕ) → drop i x ≡ drop i y → drop i (take n x) ≡ drop i (take n y)
drop_take_same n i x y e = drop_take n i x ∙ ap (take (n - i)) e ∙ sym (drop_take n i y)
  where
    drop_take : (n i : ℕ) (l : List ℕ) → drop i (take n l) ≡ take (n - i) (drop i l)
    drop_take n zero l = let e : n - 0 ≡ n = omega arith in rw e
    drop_take zero (suc i) l = let e : 0 - suc i ≡ 0 = omega arith in rw e
    drop_take (suc n) (suc i) [] = sym (take-nil (suc n - suc i))
    drop_take (suc n) (suc i) (x ∷ l) = let e : suc n - suc i ≡ n - i = omega arith in rw e (drop_take n i l)

-- behind a part that is lent to its end there is nothing
pub past_end : (l part : List ℕ) (k : ℕ) → part ++ drop (length l - k) (drop k l) ≡ part
past_end l part k = ap (λ (t : List ℕ). part ++ t) (drop_of_length-le (drop k l) {i = length l - k} (omega (arith, length-drop k l))) ∙ append-nil part

-- ---- lists laid over a slice

pub laid_nil : (at : ℕ) (d : List ℕ) → laid at [] d ≡ d
unfolding laid
laid_nil at d = ap (λ (n : ℕ). take at d ++ drop n d) (add-zero at) ∙ take-append-drop at d

pub laid_cons : (at x : ℕ) (l d : List ℕ) → at < length d → laid at (x ∷ l) d ≡ laid (at + 1) l (set d at x)
unfolding laid
laid_cons at x l d h =
    let e : at + suc (length l) ≡ (at + 1) + length l = omega arith in
    sym (rw (drop-set-lt ((at + 1) + length l) d at x (omega arith), add-one at, take-suc-set d at x h, append_assoc) (ap (λ (n : ℕ). take at d ++ (x ∷ (l ++ drop n d))) (ap (λ (n : ℕ). n + length l) (sym (add-one at)) ∙ sym e)))

pub length_laid : (a d : List ℕ) (at : ℕ) → at + length a ≤ length d → length (laid at a d) ≡ length d
length_laid [] d at h = ap length (laid_nil at d)
length_laid (x ∷ a) d at h = ap length (laid_cons at x a d (omega arith)) ∙ length_laid a (set d at x) (at + 1) (simp length-set (omega arith)) ∙ simp length-set

pub laid_append : (a b d : List ℕ) (at : ℕ) → at + length a ≤ length d → laid at (a ++ b) d ≡ laid (at + length a) b (laid at a d)
laid_append [] b d at h = rw (laid_nil at d) (ap (λ (n : ℕ). laid n b d) (sym (add-zero at)))
laid_append (x ∷ a) b d at h =
    let e : at + 1 + length a ≡ at + suc (length a) = omega arith in
    laid_cons at x (a ++ b) d (omega arith) ∙ laid_append a b (set d at x) (at + 1) (simp length-set (omega arith))
    ∙ ap₂ (λ (n : ℕ) (s : List ℕ). laid n b s) e (sym (laid_cons at x a d (omega arith)))

pub laid_start : (l d : List ℕ) → laid 0 l d ≡ l ++ drop (length l) d
unfolding laid
laid_start l d = let e : 0 + length l ≡ length l = omega arith in ap (λ (n : ℕ). l ++ drop n d) e

-- a part that is lent is laid back
pub put_laid : (m : List ℕ) (at n : ℕ) (part l : List ℕ) → part ≡ l → length l ≡ n → put_mid at n m part ≡ laid at l m
unfolding laid
put_laid m at n part l e h = put_mid-paste at n m part l n e refl (sym h) ∙ paste_all m at l n (sym h) ∙ ap (λ (k : ℕ). take at m ++ (l ++ drop (at + k) m)) (sym h)

-- ---- there is room, or there is not

pub room_yes : (l d : List ℕ) → length l ≤ length d → (room_for l d ≡ Some (length l)) × (laid_over l d ≡ laid 0 l d)
unfolding room_for laid_over
room_yes l d h = let e = le-leb (length l) (length d) h in (rw (room_for, e), rw (laid_over, e))

pub room_no : (l d : List ℕ) → length d < length l → (room_for l d ≡ None) × (laid_over l d ≡ d)
unfolding room_for laid_over
room_no l d h = let e = lt-leb (length l) (length d) h in (rw (room_for, e), rw (laid_over, e))

-- ---- a copy

-- what is left of the words, laid over the output as it is now, makes the output that is wanted
pub record Laying (m : List ℕ) (n : ℕ) (out₀ out : List ℕ) (i : ℕ) : Type 0 where
  pub have : n ≤ length m
  pub room : n ≤ length out
  pub same : laid i (drop i (take n m)) out ≡ laid 0 (take n m) out₀

pub lay_turn : (m : List ℕ) (n : ℕ) (out₀ out : List ℕ) (i : ℕ) → Laying m n out₀ out i → i < n → Laying m n out₀ (set out i (get_or m i 0)) (i + 1)
lay_turn m n out₀ out i G h = record {
  have = G.have;
  room = simp length-set G.room;
  same = sym (laid_cons i (get_or m i 0) (drop (i + 1) (take n m)) out (omega (arith, G.room))) ∙ sym (ap (λ (l : List ℕ). laid i l out) (next_word m n i G.have h)) ∙ G.same;
}

pub copy_done : (m : List ℕ) (n : ℕ) (out₀ out : List ℕ) (i : ℕ) → Laying m n out₀ out i → n ≤ i → out ≡ laid 0 (take n m) out₀
copy_done m n out₀ out i G h = sym (sym G.same ∙ ap (λ (s : List ℕ). laid i s out) (no_more m n i G.have h) ∙ laid_nil i out)

pub lay_done : (l out out' : List ℕ) → length l ≤ length out → out' ≡ laid 0 (take (length l) l) out → (Some (length l) ≡ room_for l out) × (out' ≡ laid_over l out)
lay_done l out out' h e = let r = room_yes l out h in (sym r.0, e ∙ ap (λ (s : List ℕ). laid 0 s out) (take-length l) ∙ sym r.1)

pub lay_none : (l out : List ℕ) → length out < length l → (None ≡ room_for l out) × (out ≡ laid_over l out)
lay_none l out h = let r = room_no l out h in (sym r.0, sym r.1)

-- ---- words moved down

pub shifted : (m : List ℕ) (to from end : ℕ) → from ≤ end → end ≤ length m → copy_within m from end to ≡ laid to (drop from (take end m)) m
unfolding laid
shifted m to from end h r =
    let n = end - from in
    let e : from + n ≡ end = omega arith in
    let l : length (drop from (take end m)) ≡ n = simp (length-drop, length-take-le end m r) in
    let t : take n (drop from m) ≡ drop from (take end m) = sym (drop-take from n m) ∙ ap (λ (k : ℕ). drop from (take k m)) e in
    append_assoc (take to m) (take n (drop from m)) (drop (to + n) m) ∙ ap (λ (w : List ℕ). take to m ++ (w ++ drop (to + n) m)) t ∙ ap (λ (k : ℕ). take to m ++ (drop from (take end m) ++ drop (to + k) m)) (sym l)

-- ---- zeros

pub length_zeros : (n : ℕ) → length (zeros n) ≡ n
unfolding zeros
length_zeros zero = refl
length_zeros (suc n) = ap suc (length_zeros n)

pub zeros_add : (a b : ℕ) (t : List ℕ) → zeros a ++ (zeros b ++ t) ≡ zeros (a + b) ++ t
unfolding zeros
zeros_add zero b t = let e : 0 + b ≡ b = omega arith in rw e
zeros_add (suc a) b t = let e : suc a + b ≡ suc (a + b) = omega arith in rw e (ap (λ (l : List ℕ). 0 ∷ l) (zeros_add a b t))

pub zeros_replicate : (n : ℕ) → replicate n 0 ≡ zeros n
unfolding zeros
zeros_replicate zero = refl
zeros_replicate (suc n) = ap (λ (l : List ℕ). 0 ∷ l) (zeros_replicate n)

pub zeros_drop : (k n : ℕ) → drop k (zeros n) ≡ zeros (n - k)
unfolding zeros
zeros_drop zero n = let e : n ≡ n - 0 = omega arith in ap zeros e
zeros_drop (suc k) zero = let e : 0 ≡ 0 - suc k = omega arith in ap zeros e
zeros_drop (suc k) (suc n) = let e : suc n - suc k ≡ n - k = omega arith in rw e (zeros_drop k n)

pub cleared : (m : List ℕ) (from to : ℕ) (part : List ℕ) → from ≤ to → to ≤ length m → part ≡ replicate (length (take (to - from) (drop from m))) 0
    → put_mid from (to - from) m part ≡ laid from (zeros (to - from)) m
cleared m from to part h r e =
    let n = to - from in
    let l : length (take n (drop from m)) ≡ n = length-take-le n (drop from m) (omega (arith, length-drop from m)) in
    put_laid m from n part (zeros n) (e ∙ ap (λ (k : ℕ). replicate k 0) l ∙ zeros_replicate n) (length_zeros n)
