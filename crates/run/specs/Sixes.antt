-- The set-aside totals by start cell, request h of paper 02: "a successful outer answer gives six totals in place of one, zero where there is no such start
-- cell. Their sum is the old total". Assumes nothing.
use Rattle.std.specs.Prelude.{ℕ}
use Rattle.totals.specs.declared.Totals.{Totals}
use Rattle.totals.specs.Totals.{totals_by, six_of}
use Rattle.run.specs.Run.{State, sum_of, leaves_of}
use Rattle.run.specs.Ground.{grown_from}

-- how many places of start cells there are
abbrev pub places_most : ℕ
places_most = 6

-- the leaves of the set-aside cells that grew from the start cell i
unfoldable pub aside_from : State → ℕ → ℕ
aside_from s i = sum_of leaves_of (grown_from i s.aside)

-- the six totals, of the start cells 0 to 5
unfoldable pub aside_six : State → Totals
aside_six s = totals_by (aside_from s)

-- six totals together
abbrev pub sum_of_six : Totals → ℕ
sum_of_six t = sum_of (λ n. n) (six_of t)
