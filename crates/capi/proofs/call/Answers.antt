-- `capi::call` meets its contract: the answer is told. Assumes nothing.
use Rattle.capi.proofs.Laws.{answered_called}
use Rattle.capi.proofs.call.Goals as goal

pub returns : goal.returns
returns c = answered_called c.respond-a.ensures c.tell.ensures
