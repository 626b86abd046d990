-- Words put into an output: what is left, put over the output as it is now, makes the output that is wanted.
use Rattle.std.proofs.Common.{◌≡◌, ℕ, suc, ◌+◌, ◌<◌, ◌≤◌, List, [], ◌∷◌, ◌++◌, length, get_or, drop, set, sym, ap, ◌∙◌, ap₂, add-zero, add-one, arith, length-append, drop_of_length-le, drop-cons}
use lib.Seq.{sets}

pub next_of : (l : List ℕ) (i : ℕ) → i < length l → drop i l ≡ get_or l i 0 ∷ drop (i + 1) l
next_of l i h = drop-cons l i 0 h ∙ ap (λ (w : ℕ). get_or l i 0 ∷ drop w l) (sym (add-one i))

pub none_left : (l : List ℕ) (i : ℕ) → length l ≤ i → drop i l ≡ []
none_left l i h = drop_of_length-le l {i = i} h

pub next_two : (l : List ℕ) (i : ℕ) → i + 1 < length l → drop i l ≡ get_or l i 0 ∷ get_or l (i + 1) 0 ∷ drop (i + 2) l
next_two l i h =
    let e : i + 1 + 1 ≡ i + 2 = omega arith in
    next_of l i (omega arith) ∙ ap (λ (s : List ℕ). get_or l i 0 ∷ s) (next_of l (i + 1) h ∙ ap (λ (n : ℕ). get_or l (i + 1) 0 ∷ drop n l) e)

-- ---- words put over an output: what is put past its end changes nothing

pub sets_append : (a b d : List ℕ) (at : ℕ) → sets d at (a ++ b) ≡ sets (sets d at a) (at + length a) b
sets_append [] b d at = rw add-zero
sets_append (x ∷ a) b d at = let e : suc at + length a ≡ at + suc (length a) = omega arith in rw e at (sets_append a b (set d at x) (suc at))

-- what is put in parts: the count, and the output
pub record Put (at at₀ : ℕ) (l l₀ d d₀ : List ℕ) : Type 0 where
  pub count : at + length l ≡ at₀ + length l₀
  pub same : sets d at l ≡ sets d₀ at₀ l₀

pub put_part : (at at₀ : ℕ) (a b l l₀ d d₀ : List ℕ) (at' : ℕ) (d' : List ℕ) → Put at at₀ l l₀ d d₀ → l ≡ a ++ b → at' ≡ at + length a → d' ≡ sets d at a → Put at' at₀ b l₀ d' d₀
put_part at at₀ a b l l₀ d d₀ at' d' P e q w = record {
  count = omega (arith, P.count, ap length e, length-append a b);
  same = ap₂ (λ (n : ℕ) (s : List ℕ). sets s n b) q w ∙ sym (sets_append a b d at) ∙ sym (ap (sets d at) e) ∙ P.same;
}

pub put_done : (at at₀ : ℕ) (l l₀ d d₀ : List ℕ) → Put at at₀ l l₀ d d₀ → l ≡ [] → (at ≡ at₀ + length l₀) × (d ≡ sets d₀ at₀ l₀)
put_done at at₀ l l₀ d d₀ P e = (omega (arith, P.count, ap length e), sym (ap (sets d at) e) ∙ P.same)

pub put_last : (at at₀ : ℕ) (l l₀ d d₀ : List ℕ) (r : ℕ) (d' : List ℕ) → Put at at₀ l l₀ d d₀ → r ≡ at + length l → d' ≡ sets d at l → (r ≡ at₀ + length l₀) × (d' ≡ sets d₀ at₀ l₀)
put_last at at₀ l l₀ d d₀ r d' P q w = (q ∙ P.count, w ∙ P.same)
