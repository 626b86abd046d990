-- `heap::push` meets its contract.
use mathlib.Core.Path.{◌≡◌, refl, ap, ◌∙◌}
use mathlib.Core.Bool.{Bool, true}
use mathlib.Core.List.{List}
use Prim.Native.Nat.{ℕ, ◌<◌}
use native.Mathlib.Omega.{arith}
use lib.ListN.{length}
use Rattle.order.specs.Heap.{above}
use Rattle.order.proofs.HeapRun.{Up_start, Up_turn, Up_top, Up_stop}
use Rattle.records.specs.declared.Rec.{Rec}
use Rattle.records.specs.Records.{get_r, put_r, before}
use Rattle.records.proofs.Mem.{length_put_r}
use Rattle.heap.proofs.push.Invariants.{Inv}
use Rattle.heap.proofs.push.Goals as goal
use Rattle.heap.proofs.push.Goals.{else-loop-i-test, then-loop-i-test+else-goes_first}

test : (r x : Rec) (m : List ℕ) (i : ℕ) (t v : Bool) → x ≡ get_r m i → t ≡ before r x → t ≡ v → before r (get_r m i) ≡ v
test r x m i t v ex et ev = rw (← ex, ← et) ev

turn : (m₀ : List ℕ) (n : ℕ) (r : Rec) (m : List ℕ) (i : ℕ) (x : Rec) (m' : List ℕ) → 0 < i
    → x ≡ get_r m (above i) → before r (get_r m (above i)) ≡ true → m' ≡ put_r m i x → Inv m₀ n r m i → Inv m₀ n r m' (above i)
turn m₀ n r m i x m' p ex t em I = record {
  within = omega arith;
  len = ap length em ∙ length_put_r m i x ∙ I.len;
  run = rw (em, ex) (Up_turn get_r put_r before p t I.run);
}

pub loop-i-init : goal.loop-i-init
loop-i-init c = record { within = omega arith; len = refl; run = Up_start get_r put_r _ _ _ _ }

pub loop-i-preserved : goal.loop-i-preserved
loop-i-preserved c = turn _ _ _ _ _ _ _ c.loop-i-test.true c.get-x.ensures (test _ _ _ _ _ _ c.get-x.ensures c.goes_first.ensures c.if-goes_first.true) c.put.ensures c.loop-i.invariant

pub shape_of-m : goal.shape_of-m
shape_of-m c = ap length c.put-2.ensures ∙ length_put_r _ _ _ ∙ c.loop-i.invariant.len

pub returns : goal.returns
returns c =
    let run = c.loop-i.invariant.run in
    c.put-2.ensures ∙ elim c.loop-i-test.branch [
      | else-loop-i-test w ↦ Up_top get_r put_r _ w.loop-i-test.false run
      | then-loop-i-test+else-goes_first w ↦ Up_stop get_r put_r _ (test _ _ _ _ _ _ w.get-x.ensures w.goes_first.ensures w.if-goes_first.false) run
    ]
