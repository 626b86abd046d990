-- `selftest::respond_twice` meets its contract: the quick engine's answer is that of one call, and what is compared is the same.
use mathlib.Core.Path.{ap, sym, ◌∙◌}
use Prim.Native.Nat.{◌≤◌}
use native.Mathlib.Omega.{arith}
use lib.Seq.{length-take-le}
use Rattle.covering.specs.declared.Answer.{Answer}
use Rattle.covering.specs.Covering.{values_told}
use Rattle.selftest.proofs.Laws.{count_within, answered_twice, agrees, within_second}
use Rattle.selftest.proofs.respond_twice.Goals as goal

pub hold-n-requires : goal.hold-n-requires
hold-n-requires c = rw c.told-values.ensures (count_within c.respond-first.ensures)

pub slice_bounds-same-end-3 : goal.slice_bounds-same-end-3
slice_bounds-same-end-3 c =
    within_second _ _ _ _ _ _ _ _ _ _ _ _ _ c.hold-n.result c.respond-first.auto.mem (c.hold-n.auto.out ∙ c.respond-first.auto.out) (omega (arith, c.hold-n.ensures.0, ap (λ (a : Answer). a.count) c.told-values.ensures)) c.respond-first.ensures c.hold-n.ensures.2 c.respond-answer.ensures

pub slice_bounds-same-end-4 : goal.slice_bounds-same-end-4
slice_bounds-same-end-4 c =
    sym (length-take-le c.hold-n.result c.respond-answer.new.out (within_second _ _ _ _ _ _ _ _ _ _ _ _ _ c.hold-n.result c.respond-first.auto.mem (c.hold-n.auto.out ∙ c.respond-first.auto.out) (omega (arith, c.hold-n.ensures.0, ap (λ (a : Answer). a.count) c.told-values.ensures)) c.respond-first.ensures c.hold-n.ensures.2 c.respond-answer.ensures))

pub returns : goal.returns
returns c =
    let first = c.respond-first in
    let h = c.hold-n in
    let second = c.respond-answer in
    let e = h.auto.out ∙ first.auto.out in
    let n : h.result ≤ (values_told first.result).count = omega (arith, h.ensures.0, ap (λ (a : Answer). a.count) c.told-values.ensures) in (
      answered_twice _ _ _ _ _ _ _ _ _ _ _ _ _ h.result first.auto.mem e n first.ensures h.ensures.2 second.ensures,
      c.same-agree.ensures.1 (agrees _ _ _ _ _ _ _ _ _ _ _ _ _ h.result first.auto.mem e n first.ensures h.ensures.2 second.ensures _ _ h.ensures.1),
    )
