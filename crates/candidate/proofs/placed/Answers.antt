-- `placed` meets its contract: an or of parts that don't overlap is their sum.
use native.Mathlib.Nat.{lt_trans}
use lib.Dec.{lit<}
use Rattle.run.specs.Masks.{place_in}
use Rattle.candidate.proofs.Laws.{shift_lt, mask_or}
use Rattle.candidate.proofs.placed.Goals as goal

pub overflow_mul-result : goal.overflow_mul-result
overflow_mul-result c = record { fits = lt_trans (shift_lt c.args.width c.args.k c.requires.wide c.requires.four) (lit< tt) }

pub overflow_shl-result : goal.overflow_shl-result
overflow_shl-result c = shift_lt _ _ c.requires.wide c.requires.four

pub overflow_mul-result-2 : goal.overflow_mul-result-2
overflow_mul-result-2 c = record { fits = lt_trans (shift_lt c.args.width c.args.k c.requires.wide c.requires.four) (lit< tt) }

pub overflow_shl-result-2 : goal.overflow_shl-result-2
overflow_shl-result-2 c = shift_lt _ _ c.requires.wide c.requires.four

pub returns : goal.returns
unfolding place_in
returns c =
    let p = c.requires in
    rw (
      mask_or c.args.acc.present c.args.f.present c.args.width c.args.k p.wide p.four p.present p.presents,
      mask_or c.args.acc.terminal c.args.f.terminal c.args.width c.args.k p.wide p.four p.terminal p.terminals,
    )
