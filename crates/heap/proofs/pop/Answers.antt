-- `heap::pop` meets its contract.
use mathlib.Core.Path.{◌≡◌, refl, sym, ap, ◌∙◌}
use mathlib.Core.Bool.{true}
use mathlib.Core.List.{List}
use Prim.Native.Nat.{ℕ, ◌+◌, ◌*◌, ◌<◌}
use native.Mathlib.Omega.{arith}
use lib.ListN.{length}
use Rattle.order.proofs.HeapRun.{Down_start, Down_turn, Down_leaf, Down_stop}
use Rattle.records.specs.declared.Rec.{Rec}
use Rattle.records.specs.Records.{get_r, put_r, before}
use Rattle.heap.specs.Heap.{lesser_r}
use Rattle.records.proofs.Mem.{length_put_r}
use Rattle.heap.proofs.pop.Invariants.{Inv}
use Rattle.heap.proofs.pop.Goals as goal
use Rattle.heap.proofs.pop.Goals.{else-loop-i-test, then-loop-i-test+else-goes_first}

turn : (m₀ : List ℕ) (n : ℕ) (a : Rec) (m : List ℕ) (i c : ℕ) (x : Rec) (m' : List ℕ) → 2 * i + 1 < n
    → c ≡ lesser_r m n i → i < c → c < n → x ≡ get_r m c → before x a ≡ true → m' ≡ put_r m i x → Inv m₀ n a m i → Inv m₀ n a m' c
turn m₀ n a m i c x m' p ec lo hi ex t em I = record {
  room = I.room;
  within = omega arith;
  len = ap length em ∙ length_put_r m i x ∙ I.len;
  run = rw (em, ex) (Down_turn get_r put_r before ec p lo (ap (λ (y : Rec). before y a) (sym ex) ∙ t) I.run);
}

pub loop-i-init : goal.loop-i-init
loop-i-init c = record { room = omega arith; within = omega arith; len = refl; run = rw c.get-a.ensures (Down_start get_r put_r _ _ _) }

pub loop-i-preserved : goal.loop-i-preserved
loop-i-preserved c =
    let l = c.lesser-c.ensures in
    turn _ _ _ _ _ _ _ _ (omega arith) l.0 l.2 l.3 l.1 (sym c.goes_first.ensures ∙ c.if-goes_first.true) c.put.ensures c.loop-i.invariant

pub shape_of-m : goal.shape_of-m
shape_of-m c = ap length c.put-2.ensures ∙ length_put_r _ _ _ ∙ c.loop-i.invariant.len

pub returns : goal.returns
returns c =
    let run = c.loop-i.invariant.run in
    record {
      value = c.get-least.ensures;
      m_after = c.put-2.ensures ∙ elim c.loop-i-test.branch [
        | else-loop-i-test w ↦ Down_leaf get_r put_r _ (omega (arith, w.loop-i-test.false)) run
        | then-loop-i-test+else-goes_first w ↦ Down_stop get_r put_r _ w.lesser-c.ensures.0 (ap (λ (y : Rec). before y _) (sym w.lesser-c.ensures.1) ∙ sym w.goes_first.ensures ∙ w.if-goes_first.false) run
      ];
    }
