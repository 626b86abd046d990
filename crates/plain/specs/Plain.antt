-- The plain list of records: order's plain list (specs/Plain), over the records' memory and in their order. Assumes nothing.
use Rattle.std.specs.Prelude.{List, ℕ}
use Rattle.order.specs.Plain.{least_at, closed}
use Rattle.records.specs.Records.{get_r, put_r, before}

-- the place of the record that goes first, of those at places 0 to n
abbrev pub least_r : List ℕ → ℕ → ℕ
least_r = least_at get_r before

-- the list of n + 1 records without the one that goes first: the last takes its place
abbrev pub take_r : List ℕ → ℕ → List ℕ
take_r = closed get_r put_r before
