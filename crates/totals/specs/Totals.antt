-- Six totals, by the places 0 to 5 of the start cells. Assumes nothing.
use Rattle.std.specs.Prelude.{List, [], ◌∷◌, ℕ, get_or, set}
use Rattle.totals.specs.declared.Totals.{Totals}

-- the totals that f tells, by place
abbrev pub totals_by : (ℕ → ℕ) → Totals
totals_by f = record { six = f 0 ∷ f 1 ∷ f 2 ∷ f 3 ∷ f 4 ∷ f 5 ∷ [] }

-- six zeros
abbrev pub no_totals : Totals
no_totals = totals_by (λ i. 0)

-- the total at a place; past the sixth there is none, and it is 0
abbrev pub total_at : Totals → ℕ → ℕ
total_at t i = get_or t.six i 0

-- as a list of six
abbrev pub six_of : Totals → List ℕ
six_of t = total_at t 0 ∷ total_at t 1 ∷ total_at t 2 ∷ total_at t 3 ∷ total_at t 4 ∷ total_at t 5 ∷ []

-- with n at the place i
abbrev pub with_total : Totals → ℕ → ℕ → Totals
with_total t i n = record { six = set t.six i n }
