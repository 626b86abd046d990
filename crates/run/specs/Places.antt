-- The queue's order without the places of start cells: proofs/Places shows that it is the run's, as far as lists, steps and the set-aside total go. Assumes
-- nothing.
use Rattle.std.specs.Prelude.{Bool, [], ◌∷◌}
use Rattle.order.specs.Lex.{lexb}
use Rattle.run.specs.Run.{Task, Grown, cost}

-- paper 01 alone, "the least cost; equal costs, the smaller id"
unfoldable pub by_id_alone : Task → Grown → Grown → Bool
by_id_alone T a b = lexb (cost T a.id ∷ a.id ∷ []) (cost T b.id ∷ b.id ∷ [])
