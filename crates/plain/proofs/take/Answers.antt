-- `plain::take` meets its contract.
use mathlib.Core.Path.{◌≡◌}
use mathlib.Core.List.{List}
use Prim.Native.Nat.{ℕ}
use Rattle.order.specs.Plain.{closed}
use Rattle.records.specs.declared.Rec.{Rec}
use Rattle.records.specs.Records.{get_r, put_r}
use Rattle.plain.specs.Plain.{least_r, take_r}
use Rattle.plain.proofs.take.Goals as goal

done : (m : List ℕ) (n at : ℕ) (r last : Rec) (m' : List ℕ) → at ≡ least_r m n → r ≡ get_r m at → last ≡ get_r m n → m' ≡ put_r m at last
    → (r ≡ get_r m (least_r m n)) × (m' ≡ take_r m n)
unfolding closed
done m n at r last m' ea er el em = (rw (← ea) er, rw (em, el, ea))

pub returns : goal.returns
returns c = let r = done _ _ _ _ _ _ c.least-at.ensures.value c.get-first.ensures c.get-last.ensures c.put.ensures in record { value = r.0; m_after = r.1 }
