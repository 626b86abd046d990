-- The expansion's children as two 64-bit sets by Hilbert place, "present" and "terminal": the j-th cell under the candidate, j counted along the curve,
-- is bit j. proofs/Masks shows that the sets and the list of children of Run.antt are one and the same. Assumes nothing.
use Rattle.std.specs.Prelude.{Bool, true, false, List, [], ◌∷◌, ℕ, zero, suc, ◌+◌, ◌-◌, ◌*◌, ◌/◌, ◌%◌, ◌^◌, eqb}
use Rattle.cellid.specs.CellId.{child_of, low_bit}
use Rattle.run.specs.declared.Found.{Found}
use Rattle.run.specs.Run.{Task, Child, Look, fails, none, terminal, divide, look}

-- the j-th cell n levels under id
unfoldable pub descend : ℕ → ℕ → ℕ → ℕ
descend id n j = (id - low_bit id) + (2 * j + 1) * (low_bit id / 2 ^ (2 * n))

unfoldable pub cons_if : {A : Type 0} → Bool → A → List A → List A
cons_if true x l = x ∷ l
cons_if false x l = l

-- the places from b on whose bit is set in p, w of them looked at, g telling the cell; t has the terminal marks
unfoldable pub children_in : (ℕ → ℕ) → ℕ → ℕ → ℕ → ℕ → List Child
children_in g zero p t b = []
children_in g (suc w) p t b = cons_if (eqb (p % 2) 1) (record { id = g b; ends = eqb (t % 2) 1 }) (children_in g w (p / 2) (t / 2) (suc b))

abbrev pub none_found : Found
none_found = record { present = 0; terminal = 0 }

-- one cell, at the level asked for
unfoldable pub found_at : Look → Found
found_at fails = none_found
found_at none = none_found
found_at terminal = record { present = 1; terminal = 1 }
found_at divide = record { present = 1; terminal = 0 }

-- the k-th child's sets, of w places, beside those of the children before it
unfoldable pub place_in : Found → Found → ℕ → ℕ → Found
place_in acc f w k = record { present = f.present * 2 ^ (w * k) + acc.present; terminal = f.terminal * 2 ^ (w * k) + acc.terminal }

-- the sets of the first k children
unfoldable pub up_to : (ℕ → Found) → ℕ → ℕ → ℕ → Found
up_to f w id zero = none_found
up_to f w id (suc k) = place_in (up_to f w id k) (f (child_of id k)) w k

module _ (T : Task) where
  -- the sets of a cell on the way down, n levels above the level asked for
  unfoldable pub found_part : ℕ → ℕ → Found
  found_part zero c = found_at (look T c)
  found_part (suc n) c = elim (T.hits c) [ true ↦ up_to (found_part n) (2 ^ (2 * n)) c 4 | false ↦ none_found ]

  -- the sets of the expansion n levels down
  unfoldable pub found : ℕ → ℕ → Found
  found zero id = found_part zero id
  found (suc n) id = up_to (found_part n) (2 ^ (2 * n)) id 4
