-- The queue in lent memory, as an engine knows it: which engine keeps it decides how the records stand and move, as a heap or as a plain list. Either way they
-- are the sorted list with insertion (proofs/Laws `in_queue`). Of its queue an engine knows that it is one, that a record takes four of the first words, and
-- that its moves leave the others alone (`add_out`, `rest_out`, `get_r_out`); how the records stand is the matter of these definitions alone. Assumes nothing.
use Rattle.std.specs.Prelude.{List, ℕ}
use Rattle.order.specs.Heap.{Heap}
use Rattle.order.specs.Plain.{Listed}
use Rattle.records.specs.declared.Rec.{Rec}
use Rattle.records.specs.Records.{get_r, put_r, before}
use Rattle.heap.specs.Heap.{push_r, pop_r}
use Rattle.plain.specs.Plain.{least_r, take_r}
use Rattle.queue.specs.declared.Engine.{Engine}

-- the n records of m are the queue q, the next one first
unfoldable pub InQueue : Engine → List ℕ → ℕ → List Rec → Type 0
InQueue Engine.Quick = Heap get_r before
InQueue Engine.Plain = Listed get_r before

-- the queue of n records with one more
unfoldable pub add_r : Engine → List ℕ → ℕ → Rec → List ℕ
add_r Engine.Quick = push_r
add_r Engine.Plain = put_r

-- the record that a step takes, of n + 1
unfoldable pub next_r : Engine → List ℕ → ℕ → Rec
next_r Engine.Quick m n = get_r m 0
next_r Engine.Plain m n = get_r m (least_r m n)

-- the n + 1 records without it
unfoldable pub rest_r : Engine → List ℕ → ℕ → List ℕ
rest_r Engine.Quick = pop_r
rest_r Engine.Plain = take_r
