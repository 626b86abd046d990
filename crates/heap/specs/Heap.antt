-- The heap of records: order's heap (specs/Heap), over the records' memory and in their order. Assumes nothing.
use Rattle.std.specs.Prelude.{List, ℕ}
use Rattle.order.specs.Heap.{pushed, popped, lesser}
use Rattle.records.specs.declared.Rec.{Rec}
use Rattle.records.specs.Records.{get_r, put_r, before}

-- the heap of n records with one more
abbrev pub push_r : List ℕ → ℕ → Rec → List ℕ
push_r = pushed get_r put_r before

-- the heap of n + 1 records without the first, which is the least
abbrev pub pop_r : List ℕ → ℕ → List ℕ
pop_r = popped get_r put_r before

-- the place of the lesser of the records under place i, of which there is at least one, in a heap of n
abbrev pub lesser_r : List ℕ → ℕ → ℕ → ℕ
lesser_r = lesser get_r put_r before
