-- `probe::put_neighbors`: a level above that of the cell is below 30.
use Rattle.probe.proofs.Laws.{above}
use Rattle.probe.proofs.put_neighbors.Goals as goal

pub vertex_neighbors-v-requires : goal.vertex_neighbors-v-requires
vertex_neighbors-v-requires c = record {
  cell = c.requires;
  level_bound = above _ _ _ c.level.ensures c.if-level.true;
}
