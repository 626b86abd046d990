-- `capi::call_by` meets its contract: the answer is told, and that the engines agree. Assumes nothing.
use Rattle.capi.proofs.Laws.{tested_called}
use Rattle.capi.proofs.call_by.Goals as goal

pub returns : goal.returns
returns c = tested_called _ c.respond-t.ensures c.tell.ensures
