-- `steps::answer_line`: the ids of a list stand in the words.
use Rattle.requests.proofs.Laws.{ids_fit}
use Rattle.steps.proofs.answer_line.Goals as goal

pub region-region-requires : goal.region-region-requires
region-region-requires c = ids_fit _ _ _ _ c.in-Ok.ensures
