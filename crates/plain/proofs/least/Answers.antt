-- `plain::least` meets its contract.
use mathlib.Core.Path.{◌≡◌, refl, sym, ap, ◌∙◌}
use mathlib.Core.Bool.{Bool, true, false}
use mathlib.Core.List.{List}
use Prim.Native.Nat.{ℕ, suc, ◌+◌, ◌-◌, ◌<◌}
use native.Mathlib.Omega.{arith}
use Rattle.order.specs.Plain.{least_at}
use Rattle.order.proofs.PlainLaws.{least_new, least_old}
use Rattle.records.specs.declared.Rec.{Rec}
use Rattle.records.specs.Records.{get_r, before}
use Rattle.plain.specs.Plain.{least_r}
use Rattle.plain.proofs.least.Goals as goal
use Rattle.plain.proofs.least.Goals.{then-goes_first, else-goes_first}

-- the record at the place i goes before the best so far, or it doesn't
module _ (m : List ℕ) (i best : ℕ) (x y : Rec) (b : Bool) (some : 0 < i) (is : best ≡ least_r m (i - 1)) (ex : x ≡ get_r m i) (ey : y ≡ get_r m best) (eb : b ≡ before x y) where
  back : i ≡ suc (i - 1)
  back = omega arith

  test : (t : Bool) → b ≡ t → before (get_r m (suc (i - 1))) (get_r m (least_r m (i - 1))) ≡ t
  test t e = rw (← back, ← is, ← ex, ← ey, ← eb) e

  new : b ≡ true → i ≡ least_r m i
  new e = back ∙ sym (ap (least_r m) back ∙ least_new get_r before m (i - 1) (test true e))

  old : b ≡ false → best ≡ least_r m i
  old e = is ∙ sym (ap (least_r m) back ∙ least_old get_r before m (i - 1) (test false e))

pub loop-i-init : goal.loop-i-init
unfolding least_at
loop-i-init c = record { found = omega arith; is = refl }

pub loop-i-preserved : goal.loop-i-preserved
loop-i-preserved c =
    let I = c.loop-i.invariant in
    let z : c.loop-i.i ≡ c.loop-i.i + 1 - 1 = omega arith in
    elim c.if-goes_first.branch [
      | then-goes_first w ↦ record { found = omega arith; is = w.best-is ∙ new _ _ _ _ _ _ c.loop-i.auto.i I.is c.get.ensures c.get-in-loop-i.ensures c.goes_first.ensures w.if-goes_first.true ∙ ap (least_r _) z }
      | else-goes_first w ↦ record { found = omega (arith, I.found); is = w.best-is ∙ old _ _ _ _ _ _ c.loop-i.auto.i I.is c.get.ensures c.get-in-loop-i.ensures c.goes_first.ensures w.if-goes_first.false ∙ ap (least_r _) z }
    ]

pub returns : goal.returns
returns c =
    let I = c.loop-i.invariant in
    let z : c.loop-i.i - 1 ≡ c.args.n = omega arith in record { value = I.is ∙ ap (least_r _) z; upper_bound = omega (arith, I.found) }
