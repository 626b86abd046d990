-- The promises for the functions that C calls: what a call leaves is an answer, so they have what the public functions have.
use mathlib.Core.Path.{◌≡◌}
use mathlib.Core.List.{List}
use Prim.Native.Nat.{ℕ}
use lib.ListN.{length}
use Rattle.region.specs.Region.{Area}
use Rattle.totals.specs.declared.Totals.{Totals}
use Rattle.totals.specs.Totals.{six_of}
use Rattle.run.specs.declared.RegionCoverer.{RegionCoverer}
use Rattle.covering.specs.declared.Kind.{Kind}
use Rattle.covering.specs.Covering.{result_of}
use Rattle.capi.specs.Calls.{Called}
use Rattle.capi.proofs.Laws.{called_done}
use Rattle.promises.specs.Answers.{Promised}
use Rattle.promises.proofs.Answers.{keeps}

-- the six words of its totals, and what is promised of the answer that has them
pub call_keeps : (k : Kind) (c : RegionCoverer) (a : Area) (allowance number : ℕ) (mem mem' out out' : List ℕ) (count steps : ℕ) (aside : List ℕ)
    → Called (result_of k c a allowance (length mem) (length out)) number mem mem' out out' count steps aside → number ≡ 0
    → (t : Totals) × (aside ≡ six_of t) × Promised k c a allowance (record { count = count; steps = steps; aside = t }) out'
call_keeps k c a allowance number mem mem' out out' count steps aside C z = (_, C.told.totals, keeps k c a allowance _ mem mem' out out' (called_done C z))
