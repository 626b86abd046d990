-- What an engine asks of its queue in memory, whatever holds it: it is a sorted list with insertion. Assumes nothing.
use Rattle.std.specs.Prelude.{◌≡◌, Bool, List, [], ◌∷◌, ℕ, suc, ◌<◌, length}
use Rattle.order.specs.Order.{insert}

-- `Rep m n q`: the n records in m are the queue q. `add` puts one in, `next` is the one that a step takes, `rest` is the memory without it.
pub record Queue {M A : Type 0} (lt : A → A → Bool) (get : M → ℕ → A) (cap : M → ℕ) (Rep : M → ℕ → List A → Type 0)
    (add : M → ℕ → A → M) (next : M → ℕ → A) (rest : M → ℕ → M) : Type 0 where
  pub none : (m : M) → Rep m 0 []
  pub size : (m : M) (n : ℕ) (q : List A) → Rep m n q → length q ≡ n
  pub only : (m m' : M) (n : ℕ) (q : List A) → ((i : ℕ) → i < n → get m' i ≡ get m i) → Rep m n q → Rep m' n q
  pub more : (m : M) (n : ℕ) (a : A) (q : List A) → n < cap m → Rep m n q → Rep (add m n a) (suc n) (insert lt a q)
  pub less : (m : M) (n : ℕ) (x : A) (q : List A) → n < cap m → Rep m (suc n) (x ∷ q) → (next m n ≡ x) × Rep (rest m n) n q
