-- `heap::lesser` meets its contract.
use mathlib.Core.Path.{◌≡◌, sym}
use mathlib.Core.Bool.{Bool}
use mathlib.Core.List.{List}
use Prim.Native.Nat.{ℕ}
use native.Mathlib.Omega.{arith}
use Rattle.order.proofs.HeapSteps.{lesser_left, lesser_left_2, lesser_right}
use Rattle.records.specs.declared.Rec.{Rec}
use Rattle.records.specs.Records.{get_r, put_r, before}
use Rattle.heap.proofs.lesser.Goals as goal

test : (m : List ℕ) (l r : ℕ) (x y : Rec) (t v : Bool) → y ≡ get_r m r → x ≡ get_r m l → t ≡ before y x → t ≡ v → before (get_r m r) (get_r m l) ≡ v
test m l r x y t v ey ex et ev = rw (← ey, ← ex, ← et) ev

pub returns-then-goes_first : goal.returns-then-goes_first
returns-then-goes_first c =
    let t = test _ _ _ _ _ _ _ c.get-y.ensures c.get-x.ensures c.goes_first.ensures c.if-goes_first.true in
    (sym (lesser_right get_r put_r before _ _ _ (omega arith) t), c.get-y.ensures, omega arith, omega arith)

pub returns-else-goes_first : goal.returns-else-goes_first
returns-else-goes_first c =
    let t = test _ _ _ _ _ _ _ c.get-y.ensures c.get-x.ensures c.goes_first.ensures c.if-goes_first.false in
    (sym (lesser_left_2 get_r put_r before _ _ _ (omega arith) t), c.get-x.ensures, omega arith, omega arith)

pub returns-else-r-n : goal.returns-else-r-n
returns-else-r-n c = (sym (lesser_left get_r put_r before _ _ _ (omega arith)), c.get-x.ensures, omega arith, omega arith)
