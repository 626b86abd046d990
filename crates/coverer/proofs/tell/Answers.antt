-- `coverer::tell` meets its contract: the kept ids, then the queue; or there is no room.
use mathlib.Core.Path.{refl}
use native.Mathlib.Omega.{arith}
use Rattle.coverer.proofs.Watching.{told, told_not}
use Rattle.coverer.proofs.tell.Goals as goal

pub returns-then-kept-queued : goal.returns-then-kept-queued
returns-then-kept-queued c =
    let q = c.list_queue in
    record {
      value = λ T s H. told _ T _ _ s _ (omega arith) H _ _ c.if-kept-queued.true c.lay_raw.ensures q.ensures.out_after;
      m_unchanged = q.ensures.m_unchanged;
    }

pub returns-else-kept-queued : goal.returns-else-kept-queued
returns-else-kept-queued c = record {
  value = λ T s H. told_not _ T _ _ s _ (omega arith) H c.if-kept-queued.false;
  m_unchanged = refl;
}
