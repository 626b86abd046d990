-- Laws of `specs/Feed.antt`: moving bytes down one by one, reading on behind bytes that have no newline, and answers that wait.
use mathlib.Core.Path.{◌≡◌, refl, sym, ap, ◌∙◌}
use mathlib.Core.Bool.{Bool, true, false, cond, ◌&&◌, true≢false}
use mathlib.Core.List.{List, [], ◌∷◌, ◌++◌}
use Rattle.std.proofs.Common.{Option, Some, None, is_some, option_map}
use Rattle.std.specs.List.{copy_within}
use Rattle.std.proofs.lemmas.List.Sums.{prefix_len-le-length}
use Prim.Native.Nat.{ℕ, ◌+◌, ◌-◌, ◌≤◌, ◌<◌}
use native.Mathlib.Omega.{arith}
use native.Mathlib.Numerals.{add-one}
use native.Mathlib.Nat.{zero-add, sub-zero}
use native.Mathlib.Decide.{ℕ_discrete}
use mathlib.Core.Logic.{by_cases}
use lib.ListN.{length, get_or, take, drop, set, length-take, length-drop}
use lib.Seq.{paste-suc, get_or-append-add, get_or-drop, length-take-le, take_at, take-take, take-add}
use lib.Dec.{eqb, leb, ltb}
use borrow.Author.Tests.{eq-eqb, ne_eqb, lt-ltb, le-ltb, le-leb, lt-leb, leb-true, ltb-true, ltb-false}
use Rattle.text.specs.Text.{until}
use Rattle.input.specs.declared.Found.{Found}
use Rattle.input.specs.Feed.{between, line_end, newline_in, span, line_to, last_line, too_long, LineWithin, Ready, Begins, Held, may_wait, left_waiting}

-- ---- moving down

-- bytes that were moved to the front stand there
pub moved_front : (from to : ℕ) (l : List ℕ) → from ≤ to → to ≤ length l → take (to - from) (copy_within l from to 0) ≡ between from to l
moved_front from to l h g = take_at (take (to - from) (drop from l)) _ (to - from) (length-take-le (to - from) (drop from l) (simp length-drop (omega arith)))

-- ---- reading on

until_append : (b : ℕ) (a c : List ℕ) → until b a ≡ length a → until b (a ++ c) ≡ length a + until b c
until_append b [] c h = rw zero-add
until_append b (x ∷ a) c h = by_cases (ℕ_discrete x b)
    (λ e. absurd (omega (arith, rw (eq-eqb x b e) at h)))
    (λ e. rw (ne_eqb x b e, until_append b a c (omega (arith, rw (ne_eqb x b e) at h))) (omega arith))

-- a newline is among some bytes, or none is
some_by : (u : Bool) (from end : ℕ) (s : List ℕ) → ltb (until 10 s) (length s) ≡ u → Some end ≡ option_map (λ (n : ℕ). from + n) (cond u (Some (until 10 s)) None) → (end ≡ from + until 10 s) × (end < from + length s)
some_by true from end s e h =
    let g : end ≡ from + until 10 s = cc in
    (g, omega (arith, ltb-true _ _ e))
some_by false from end s e h = let z : ◌≡◌ {A = ℕ} 0 1 = cc in absurd (omega arith)

pub newline_some : (from to end : ℕ) (l : List ℕ) → from ≤ to → Some end ≡ newline_in from to l → (end ≡ line_end from to l) × (end < to)
newline_some from to end l f h =
    let t : length (between from to l) ≤ to - from = simp length-take (omega arith) in
    let n = some_by (ltb (until 10 (between from to l)) (length (between from to l))) from end (between from to l) refl h in
    (n.0, omega (arith, n.1))

none_by : (u : Bool) (from : ℕ) (s : List ℕ) → ltb (until 10 s) (length s) ≡ u → ◌≡◌ {A = Option ℕ} None (option_map (λ (n : ℕ). from + n) (cond u (Some (until 10 s)) None)) → length s ≤ until 10 s
none_by true from s e h = let z : ◌≡◌ {A = ℕ} 0 1 = cc in absurd (omega arith)
none_by false from s e h = ltb-false _ _ e

pub newline_none : (from to : ℕ) (l : List ℕ) → from ≤ to → to ≤ length l → None ≡ newline_in from to l → line_end from to l ≡ to
newline_none from to l f g h =
    let t : length (between from to l) ≡ to - from = length-take-le (to - from) (drop from l) (simp length-drop (omega arith)) in
    omega (arith, prefix_len-le-length {X = ℕ}, none_by (ltb (until 10 (between from to l)) (length (between from to l))) from (between from to l) refl h)

-- the first bytes stay as they are
pub held_kept : {held : List ℕ} {n : ℕ} {buf buf' : List ℕ} → take n buf' ≡ take n buf → Held held n buf → Held held n buf'
held_kept e h = record { begins = rw e h.begins; unended = rw (sub-zero, e) (rw sub-zero at h.unended) }

module _ {held : List ℕ} {n : ℕ} {buf : List ℕ} (m : ℕ) (more : n ≤ m) (h : Held held n buf) where
  pub begins_on : Begins held (take m buf)
  begins_on =
      let k : length held ≤ n = omega (arith, simp length-take at (ap length h.begins)) in
      rw (take-take (length held) m buf (omega arith)) (rw (take-take (length held) n buf k) at h.begins)

  -- the first newline is behind them
  pub end_on : m ≤ length buf → line_end n m buf ≡ line_end 0 m buf
  end_on g =
      let k : length (take n buf) ≡ n = length-take-le n buf (omega arith) in
      let d : n + (m - n) ≡ m = omega arith in
      let s : take m buf ≡ take n buf ++ between n m buf = rw d at (take-add n (m - n) buf) in
      rw (sub-zero m, zero-add, s, until_append 10 (take n buf) (between n m buf) (omega (arith, rw sub-zero at h.unended)), k)

-- ---- parts

module _ (size : ℕ) where
  pub ready_line : (start end filled : ℕ) → start ≤ end → end < filled → filled ≤ size → Ready size (line_to start end filled)
  ready_line start end filled h g f = record { line = record { order = h; inside = omega arith }; unread = record { order = omega arith; inside = f } }

  last_within : (u : Bool) (n : ℕ) → n ≤ size → LineWithin size (elim u [ true ↦ Found.End | false ↦ Found.Line (span 0 n) ])
  last_within true n h = tt
  last_within false n h = record { order = omega arith; inside = h }

  pub ready_last : (n : ℕ) → n ≤ size → Ready size (last_line n)
  ready_last n h = record { line = last_within (eqb n 0) n h; unread = record { order = omega arith; inside = h } }

  pub ready_long : (next filled : ℕ) → next ≤ filled → filled ≤ size → Ready size (too_long next filled)
  ready_long next filled h g = record { line = tt; unread = record { order = h; inside = g } }

-- ---- answers that wait: one more has room behind them
module _ (room waiting longest end filled w : ℕ) (e : w ≡ left_waiting room waiting longest end filled) where
  pub left_room : waiting ≤ room → longest ≤ room → w + longest ≤ room
  unfolding left_waiting may_wait
  left_room h g = rw e (go (ltb end filled) (leb longest (room - waiting)) (leb-true longest (room - waiting)))
    where
      go : (a b : Bool) → (b ≡ true → longest ≤ room - waiting) → cond (a && b) waiting 0 + longest ≤ room
      go true true k = let l = k refl in omega arith
      go true false k = omega arith
      go false b k = omega arith

-- they go on waiting where the line's end is held and there is room; else none does
module _ (room waiting longest from to : ℕ) (l : List ℕ) (f : from ≤ to) where
  pub left_kept : (o : Option ℕ) → o ≡ newline_in from to l → is_some o ≡ true → longest ≤ room - waiting → waiting ≡ left_waiting room waiting longest (line_end from to l) to
  unfolding left_waiting may_wait
  left_kept (Some end) e s h =
      let n = newline_some from to end l f e in
      rw (lt-ltb (line_end from to l) to (omega (arith, n.0, n.1)), le-leb longest (room - waiting) h)
  left_kept None e s h = let z : ◌≡◌ {A = Bool} false true = s in absurd (true≢false (sym z))

  pub left_over : room - waiting < longest → 0 ≡ left_waiting room waiting longest (line_end from to l) to
  unfolding left_waiting may_wait
  left_over h = rw (lt-leb longest (room - waiting) h) (neither (ltb (line_end from to l) to))
    where
      neither : (a : Bool) → 0 ≡ cond (a && false) waiting 0
      neither true = refl
      neither false = refl

  pub left_none : to ≤ length l → (o : Option ℕ) → o ≡ newline_in from to l → is_some o ≡ false → 0 ≡ left_waiting room waiting longest (line_end from to l) to
  unfolding left_waiting may_wait
  left_none g (Some end) e s = let z : ◌≡◌ {A = Bool} true false = s in absurd (true≢false z)
  left_none g None e s = rw (le-ltb (line_end from to l) to (omega (arith, newline_none from to l f g e)))
