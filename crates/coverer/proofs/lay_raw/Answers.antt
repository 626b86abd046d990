-- `coverer::lay_raw` meets its contract.
use Rattle.coverer.proofs.Watching.{lay_part}
use native.Mathlib.Omega.{arith}
use Rattle.run.specs.Run.{queue_words}
use Rattle.coverer.proofs.lay_raw.Goals as goal

pub returns : goal.returns
returns c = lay_part queue_words _ 1024 c.args.m.now _ _ (omega arith) c.copy.ensures
