-- Lines of an input, out of one buffer. A stream's contract says nothing of the bytes that come, nor of when it can't be read, so that is open here;
-- said is where a line ends in the buffer, and that it begins with the bytes that were unread.
use Rattle.std.specs.Prelude.{◌≡◌, Bool, true, false, cond, ◌&&◌, Option, option_map, position, ◌==◌, List, ℕ, ◌+◌, ◌-◌, ◌≤◌, ◌<◌, eqb, leb, ltb, length, take, drop}
use Rattle.text.specs.Text.{until}
use Rattle.input.specs.declared.Span.{Span}
use Rattle.input.specs.declared.Found.{Found}
use Rattle.input.specs.declared.Feed.{Feed}

-- the bytes from a place on and before another
abbrev pub between : ℕ → ℕ → List ℕ → List ℕ
between from to l = take (to - from) (drop from l)

-- the place of the first newline (10) from a place on and before another, or that other place
abbrev pub line_end : ℕ → ℕ → List ℕ → ℕ
line_end from to l = from + until 10 (between from to l)

-- the place of that newline, where there is one
abbrev pub newline_in : ℕ → ℕ → List ℕ → Option ℕ
newline_in from to l = option_map (λ n. from + n) (position (λ b. b == 10) (between from to l))

-- ---- answers

abbrev pub span : ℕ → ℕ → Span
span start end = record { start = start; end = end }

-- the bytes of a part of a buffer
abbrev pub part_of : Span → List ℕ → List ℕ
part_of s l = between s.start s.end l

-- the line up to a newline at a place
abbrev pub line_to : ℕ → ℕ → ℕ → Feed
line_to start end filled = record { found = Found.Line (span start end); unread = span (end + 1) filled }

-- what is left at the input's end: a line of all the bytes, if there are any
abbrev pub last_line : ℕ → Feed
last_line n = record { found = elim (eqb n 0) [ true ↦ Found.End | false ↦ Found.Line (span 0 n) ]; unread = span n n }

-- a line too long, of which nothing is kept
abbrev pub too_long : ℕ → ℕ → Feed
too_long next filled = record { found = Found.TooLong; unread = span next filled }

-- a read that failed
abbrev pub failure : Feed
failure = record { found = Found.Failed; unread = span 0 0 }

-- no line follows
abbrev pub is_last : Found → Bool
is_last (Found.Line s) = false
is_last Found.TooLong = false
is_last Found.End = true
is_last Found.Failed = true

-- ---- contracts

-- a part of a buffer of some size
pub record Within (size : ℕ) (s : Span) : Type 0 where
  pub order : s.start ≤ s.end
  pub inside : s.end ≤ size

-- a line that was found is one
abbrev pub LineWithin : ℕ → Found → Type 0
LineWithin size (Found.Line s) = Within size s
LineWithin size _ = Unit {0}

-- the parts that a line and the bytes after it take of a buffer of some size
pub record Ready (size : ℕ) (r : Feed) : Type 0 where
  pub line : LineWithin size r.found
  pub unread : Within size r.unread

-- no line: one too long for the buffer is passed over, and what is unread are the bytes after the first newline in the buffer, or none; or a read failed
pub data NoLine (buf : List ℕ) (r : Feed) : Type 0 where
  passed : (end filled : ℕ) → end ≡ line_end 0 filled buf → end < filled → r ≡ too_long (end + 1) filled → NoLine buf r
  through : r ≡ too_long 0 0 → NoLine buf r
  failed : r ≡ failure → NoLine buf r

-- some bytes stand first in a list
abbrev pub Begins : List ℕ → List ℕ → Type 0
Begins held l = take (length held) l ≡ held

-- they stand first in the buffer's first n bytes, which have no newline
pub record Held (held : List ℕ) (n : ℕ) (buf : List ℕ) : Type 0 where
  pub begins : Begins held (take n buf)
  pub unended : n ≡ line_end 0 n buf

-- a line that begins with them, and of which more was read: up to the first newline in the buffer, or to the input's end
pub data ReadOn (held buf : List ℕ) (r : Feed) : Type 0 where
  ended : (end filled : ℕ) → end ≡ line_end 0 filled buf → end < filled → Begins held (take end buf) → r ≡ line_to 0 end filled → ReadOn held buf r
  last : (n : ℕ) → Held held n buf → r ≡ last_line n → ReadOn held buf r
  none : NoLine buf r → ReadOn held buf r

-- what is found where the unread bytes were before[next..filled], and the buffer is `after` then
pub record NextLine (before : List ℕ) (next filled : ℕ) (after : List ℕ) (r : Feed) : Type 0 where
  -- a newline is among the unread bytes: the line ends at the first, and the buffer is as it was
  pub there : line_end next filled before < filled → (r ≡ line_to next (line_end next filled before) filled) × (after ≡ before)
  -- none is: the line begins with all of them
  pub later : line_end next filled before ≡ filled → ReadOn (between next filled before) after r

-- ---- answers that wait in a page to be written

-- they may go on waiting where nothing has to be read for the next line, whose newline is held at `end`, before `filled`, and where one more of `longest`
-- bytes has room behind them
unfoldable pub may_wait : ℕ → ℕ → ℕ → ℕ → ℕ → Bool
may_wait room waiting longest end filled = ltb end filled && leb longest (room - waiting)

-- how many bytes are left waiting: all, or none
unfoldable pub left_waiting : ℕ → ℕ → ℕ → ℕ → ℕ → ℕ
left_waiting room waiting longest end filled = cond (may_wait room waiting longest end filled) waiting 0
