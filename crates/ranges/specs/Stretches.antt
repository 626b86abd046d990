-- Any set of leaves, given as a test of leaf numbers: all leaves are gone through in order, and each stretch of those that pass becomes a pair, or cells. A
-- list's pairs and the cells of pairs are instances (proofs/Inputs), and so is what two lists make together (crate sets); nothing here is ever run.
use Rattle.std.specs.Prelude.{Bool, true, false, List, [], ◌∷◌, ◌++◌, ℕ, zero, suc, ◌+◌, ◌-◌, ◌*◌, ltb}
use Rattle.ranges.specs.Ranges.{leaves}

-- [s, n) are the passing leaves just before n, k are to come; a stretch [s, e) becomes `out s e`
unfoldable pub each : (ℕ → ℕ → List ℕ) → (ℕ → Bool) → ℕ → ℕ → ℕ → List ℕ
each out f s n zero = out s n
each out f s n (suc k) = elim (f n) [ true ↦ each out f s (n + 1) k | false ↦ out s n ++ each out f (n + 1) (n + 1) k ]

unfoldable pub stretches : (ℕ → ℕ → List ℕ) → (ℕ → Bool) → List ℕ
stretches out f = each out f 0 0 leaves

-- a stretch as a pair; an empty one is nothing
unfoldable pub pair : ℕ → ℕ → List ℕ
pair s e = elim (ltb s e) [ true ↦ (2 * s + 1) ∷ (2 * e - 1) ∷ [] | false ↦ [] ]
