-- `probe::ask_region`: the region's list stands in the words.
use Rattle.requests.proofs.Laws.{read_fits}
use Rattle.probe.proofs.ask_region.Goals as goal

pub region-region-requires : goal.region-region-requires
region-region-requires c = read_fits _ _ _ _ _ _ c.in_ok-g.ensures
