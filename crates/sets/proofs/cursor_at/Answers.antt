-- `sets::cursor_at`: the next cell has begun, it has not, or there is none.
use borrow.Author.Tests.{le-leb, lt-leb}
use Rattle.sets.proofs.Turns.{next_cell, cursor_begun, cursor_ahead, cursor_none}
use Rattle.sets.proofs.cursor_at.Goals as goal

pub lo-first-requires : goal.lo-first-requires
lo-first-requires c = next_cell _ _ c.if-i-l.true c.requires

pub hi-requires : goal.hi-requires
hi-requires c = next_cell _ _ c.if-i-l.true c.requires

pub returns-then-inside : goal.returns-then-inside
returns-then-inside c = rw (le-leb _ _ c.if-inside.true) (cursor_begun _ _ _ c.if-i-l.true _ _ c.lo-first.ensures c.if-inside.true c.hi.ensures)

pub returns-else-inside : goal.returns-else-inside
returns-else-inside c = rw (lt-leb _ _ c.if-inside.false) (cursor_ahead _ _ _ c.if-i-l.true _ c.lo-first.ensures c.if-inside.false)

pub returns : goal.returns
returns c = cursor_none _ _ _ c.if-i-l.false
