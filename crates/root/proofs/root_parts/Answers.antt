-- `root::root_parts` meets its contract: what it returns is put together as `Parts.together` says. Assumes nothing.
use Rattle.std.proofs.Common.{ℕ, ◌-◌, ◌*◌, ◌/◌, ◌^◌, ap, ◌∙◌, subst, arith}
use lib.Ieee.{binary64}
use Rattle.root.specs.Root.{rooted, Near}
use Rattle.root.proofs.Parts.{together, even, odds}
use Rattle.root.proofs.root_parts.Goals.{then-e-eq0, else-e-eq0}
use Rattle.root.proofs.root_parts.Goals as goal

pub returns-clause-value : goal.returns-clause-value
returns-clause-value c =
    let sig = c.args.sig in
    let e = c.args.e in
    let q = c.rounded_root.result in
    elim c.if-e-eq0.branch [
      | then-e-eq0 w ↦
          together sig ((e - 52) / 2) q (omega arith) (omega arith) (omega arith) (subst (λ (m : ℕ). Near (m * 2 ^ 52) q) w.even-is c.rounded_root.ensures)
          ∙ ap (rooted binary64) (even sig e (omega arith) w.if-e-eq0.true)
      | else-e-eq0 w ↦
          together (2 * sig) ((e - 52) / 2) q (omega arith) (omega arith) (omega arith) (subst (λ (m : ℕ). Near (m * 2 ^ 52) q) w.even-is c.rounded_root.ensures)
          ∙ ap (rooted binary64) (odds sig e (omega arith) w.if-e-eq0.false)
    ]
