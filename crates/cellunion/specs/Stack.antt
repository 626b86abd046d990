-- The kept cells of the pass as a stack, the last kept on top, and where they stand in memory.
use Rattle.std.specs.Prelude.{◌≡◌, Bool, true, List, [], ◌∷◌, ℕ, zero, suc, ◌+◌, ◌*◌, ◌≤◌, length, get_or, take, drop, ltb, leb}
use Rattle.cellid.specs.CellId.{Cell, first_leaf, last_leaf}
use Rattle.order.specs.Order.{All, Sorted}
use Rattle.cellunion.specs.CellUnion.{lo, hi, NoFour, up_one, pass, rev}

-- each cell ends before those above it begin
unfoldable pub Down : List ℕ → Type 0
Down [] = Unit
Down (x ∷ s) = All (λ y. hi y ≤ lo x) s × Down s

pub record Stack (s : List ℕ) : Type 0 where
  pub cells : All Cell s
  pub down : Down s
  pub nofour : NoFour s

-- the first k words, the last of them first
unfoldable pub top_first : ℕ → List ℕ → List ℕ
top_first zero m = []
top_first (suc k) m = get_or m k 0 ∷ top_first k m

-- c may go on top: all of s ends before it begins
pub record Topped (s : List ℕ) (c : ℕ) : Type 0 where
  pub stack : Stack s
  pub cell : Cell c
  pub under : All (λ y. hi y ≤ lo c) s

-- all of s begins before c
abbrev pub AllBefore : List ℕ → ℕ → Type 0
AllBefore s c = All (λ y. 2 * lo y + 1 ≤ c) s

-- c may be looked at next
pub record Next (s : List ℕ) (c : ℕ) : Type 0 where
  pub stack : Stack s
  pub cell : Cell c
  pub ready : AllBefore s c

-- r words are kept, and what stands from place k + 1 on is as before
pub record Gives (want : List ℕ) (k : ℕ) (m m' : List ℕ) (r : ℕ) : Type 0 where
  pub is : top_first r m' ≡ want
  pub within : r ≤ k + 1
  pub rest : drop (k + 1) m' ≡ drop (k + 1) m

-- the words from place i to before n, sorted cells, may be looked at one after another on top of the first k
pub record PassAsks (n : ℕ) (m : List ℕ) (k i : ℕ) : Type 0 where
  pub few : k ≤ i
  pub within : i ≤ n
  pub room : n ≤ length m
  pub stack : Stack (top_first k m)
  pub cells : All Cell (drop i (take n m))
  pub sorted : Sorted ltb (drop i (take n m))
  pub ready : All (AllBefore (top_first k m)) (drop i (take n m))

-- the first r words are what the pass keeps, and what stands from place n on is as before
pub record PassDone (n : ℕ) (m : List ℕ) (k i : ℕ) (m' : List ℕ) (r : ℕ) : Type 0 where
  pub within : r ≤ n
  pub is : take r m' ≡ rev (pass (top_first k m) (drop i (take n m)))
  pub rest : drop n m' ≡ drop n m

-- the id begins before the parent of the top ends; on an empty stack every one does
unfoldable pub near_top : List ℕ → ℕ → Bool
near_top [] id = true
near_top (t ∷ s) id = leb (first_leaf id) (last_leaf (up_one t))
