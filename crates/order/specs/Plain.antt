-- A plain list of records in a memory M, at places 0, 1, .., in whatever order they came: the least is found by looking through all of it. One definition for
-- every record width and every order. Assumes nothing.
use Rattle.std.specs.Prelude.{◌≡◌, Bool, true, false, List, ℕ, zero, suc}
use Rattle.order.specs.Order.{gather}

module _ {M A : Type 0} (get : M → ℕ → A) (lt : A → A → Bool) where
  -- the place of the least of the records at places 0 to k
  unfoldable pub least_at : M → ℕ → ℕ
  least_at m zero = zero
  least_at m (suc k) = elim (lt (get m (suc k)) (get m (least_at m k))) [ true ↦ suc k | false ↦ least_at m k ]

  -- q is the sorted list of the n records of m
  pub record Listed (m : M) (n : ℕ) (q : List A) : Type 0 where
    pub sorted : gather lt (get m) n ≡ q

module _ {M A : Type 0} (get : M → ℕ → A) (put : M → ℕ → A → M) (lt : A → A → Bool) where
  -- the n + 1 records without the least: the last one takes its place
  unfoldable pub closed : M → ℕ → M
  closed m n = put m (least_at get lt m n) (get m n)
