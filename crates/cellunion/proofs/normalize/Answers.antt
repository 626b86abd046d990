use Rattle.cellunion.proofs.Runs.{sort_done, pass_asks, normalize_done}
use Rattle.cellunion.proofs.normalize.Goals as goal

pub pass-kept-requires : goal.pass-kept-requires
pass-kept-requires c = pass_asks _ _ _ c.requires.1 (sort_done _ _ _ c.requires.0 c.sort.ensures)

pub returns : goal.returns
returns c = normalize_done _ _ _ _ _ _ (sort_done _ _ _ c.requires.0 c.sort.ensures) c.pass-kept.auto.mem c.pass-kept.ensures c.clear.ensures
