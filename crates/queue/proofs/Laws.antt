-- Whichever engine keeps it, the queue is the sorted list with insertion, and its two moves leave the words past the records as they are.
use mathlib.Core.Path.{◌≡◌, ◌∙◌}
use mathlib.Core.List.{List}
use Prim.Native.Nat.{ℕ, ◌+◌, ◌*◌, ◌<◌}
use native.Mathlib.Omega.{arith}
use lib.ListN.{set, drop}
use lib.Seq.{drop-set-lt, get_or-set_other}
use Rattle.order.specs.Plain.{closed}
use Rattle.order.specs.Queue.{Queue}
use Rattle.order.proofs.HeapSteps.{pushed_out, popped_out}
use Rattle.order.proofs.PlainLaws.{least_place_lem}
use Rattle.order.proofs.Queues.{heap_queue, plain_queue}
use Rattle.records.specs.declared.Rec.{Rec}
use Rattle.records.specs.Records.{get_r, put_r, cap_r, before}
use Rattle.records.proofs.Mem.{store, order}
use Rattle.plain.specs.Plain.{least_r}
use Rattle.queue.specs.declared.Engine.{Engine}
use Rattle.queue.specs.Queue.{InQueue, add_r, next_r, rest_r}

-- the records in memory are a queue: the sorted list of them by their order, least first
pub in_queue : (e : Engine) → Queue before get_r cap_r (InQueue e) (add_r e) (next_r e) (rest_r e)
unfolding InQueue add_r next_r rest_r
in_queue Engine.Quick = heap_queue get_r put_r before cap_r order store
in_queue Engine.Plain = plain_queue get_r put_r before cap_r order store

-- words from 4 * bound on are as they were
put_r_out : (bound : ℕ) (m : List ℕ) (i : ℕ) (r : Rec) → i < bound → drop (4 * bound) (put_r m i r) ≡ drop (4 * bound) m
unfolding put_r
put_r_out bound m i r h =
    drop-set-lt (4 * bound) _ (4 * i + 3) r.rank (omega arith) ∙ drop-set-lt (4 * bound) _ (4 * i + 2) r.terminal (omega arith)
    ∙ drop-set-lt (4 * bound) _ (4 * i + 1) r.present (omega arith) ∙ drop-set-lt (4 * bound) m (4 * i) r.id (omega arith)

pub add_out : (e : Engine) (bound : ℕ) (m : List ℕ) (n : ℕ) (r : Rec) → n < bound → drop (4 * bound) (add_r e m n r) ≡ drop (4 * bound) m
unfolding add_r
add_out Engine.Quick bound = pushed_out get_r put_r before (drop (4 * bound)) bound (put_r_out bound)
add_out Engine.Plain bound = put_r_out bound

pub rest_out : (e : Engine) (bound : ℕ) (m : List ℕ) (n : ℕ) → n < bound → drop (4 * bound) (rest_r e m n) ≡ drop (4 * bound) m
unfolding rest_r closed
rest_out Engine.Quick bound m n h = popped_out get_r put_r before (drop (4 * bound)) bound (put_r_out bound) m n h
rest_out Engine.Plain bound m n h = put_r_out bound m (least_r m n) (get_r m n) (omega (arith, least_place_lem get_r before m n))

-- a word written past the records changes none of them
pub get_r_out : (m : List ℕ) (w v i : ℕ) → 4 * i + 3 < w → get_r (set m w v) i ≡ get_r m i
unfolding get_r
get_r_out m w v i h = λ k. record {
  id = get_or-set_other m w (4 * i) v 0 (omega arith) k;
  present = get_or-set_other m w (4 * i + 1) v 0 (omega arith) k;
  terminal = get_or-set_other m w (4 * i + 2) v 0 (omega arith) k;
  rank = get_or-set_other m w (4 * i + 3) v 0 (omega arith) k;
}
