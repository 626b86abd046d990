-- `replies::put`: as much as has room is copied.
use mathlib.Core.Path.{sym}
use native.Mathlib.Omega.{arith}
use Rattle.replies.proofs.Writing.{sets_out, sets_copied}
use Rattle.replies.proofs.put.Goals as goal

pub returns-then-text-at : goal.returns-then-text-at
returns-then-text-at c = record { count = omega arith; bytes = sym (sets_out c.args.s.now _ _ c.if-text-at.true) }

pub returns : goal.returns
returns c = record {
  count = omega arith;
  bytes = sets_copied c.args.s.now _ _ _ c.min-n.result _ c.if-text-at.false c.min-n.ensures c.copy_from_slice.ensures.after (omega arith);
}
