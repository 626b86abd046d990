-- `expand` meets its contract: one level below min, else level_mod.
use mathlib.Core.Path.{◌≡◌, ◌∙◌, subst}
use mathlib.Core.Logic.{⊎_elim}
use native.Mathlib.Omega.{arith}
use Prim.Native.Nat.{ℕ, ◌+◌, ◌≤◌}
use Rattle.cellid.specs.CellId.{level_of}
use Rattle.run.specs.Run.{depth}
use Rattle.run.proofs.Looks.{depth_low, depth_high}
use Rattle.candidate.proofs.asking.Asking.expand.Goals.{Then-self-eq1, Else-self-eq1}
use Rattle.candidate.proofs.asking.Asking.expand.Goals as goal

-- the depth in the two arms
one_down : (c : Then-self-eq1) → depth c.args.self.request c.args.id ≡ 1
one_down c = ⊎_elim (λ l. depth_low _ _ (omega (arith, l, c.level.ensures))) (λ h. depth_high _ _ (omega (arith, h.0, c.level.ensures)) ∙ h.1) c.if-self-eq1.either

deeper : (c : Else-self-eq1) → depth c.args.self.request c.args.id ≡ c.args.self.request.coverer.level_mod
deeper c = depth_high _ _ (omega (arith, c.if-self-eq1.false.0, c.level.ensures))

pub children-requires : goal.children-requires
children-requires c = record { cell = (c.requires.cell.0, omega (arith, c.requires.cell.1, one_down (goal.at.children-requires c).Then-self-eq1)) }

pub expand_children-requires : goal.expand_children-requires
expand_children-requires c =
    record {
      left_nonzero = (c.args.self.asks.some, c.args.self.asks.few);
      cell = (c.requires.cell.0, subst (λ (n : ℕ). level_of c.args.id + n ≤ 30) (deeper (goal.at.expand_children-requires c).Else-self-eq1) c.requires.cell.1);
    }

pub returns-then-self-eq1 : goal.returns-then-self-eq1
returns-then-self-eq1 c = rw (one_down (goal.at.returns-then-self-eq1 c).Then-self-eq1) c.children.ensures

pub returns-else-self-eq1 : goal.returns-else-self-eq1
returns-else-self-eq1 c = rw (deeper (goal.at.returns-else-self-eq1 c).Else-self-eq1) c.expand_children.ensures
