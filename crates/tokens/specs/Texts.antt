-- Which lists can be written and which texts be read, with no word of how: what the theorems of proofs/Laws speak of.
use Rattle.std.specs.Prelude.{◌≡◌, true, false, List, [], ◌∷◌, ◌++◌, ℕ, suc, ◌<◌, length}
use Rattle.cellid.specs.CellId.{valid_id}
use Rattle.tokens.specs.declared.Form.{Form}
use Rattle.tokens.specs.Tokens.{is_name, value_of, lines_of}

-- "every id valid"
pub data AllValid : List ℕ → Type 0 where
  none : AllValid []
  more : {id : ℕ} {l : List ℕ} → valid_id id ≡ true → AllValid l → AllValid (id ∷ l)

-- "the number from 1 of the first such"
pub data FirstBad : List ℕ → ℕ → Type 0 where
  here : {id : ℕ} {l : List ℕ} → valid_id id ≡ false → FirstBad (id ∷ l) 1
  next : {id : ℕ} {l : List ℕ} {n : ℕ} → valid_id id ≡ true → FirstBad l n → FirstBad (id ∷ l) (suc n)

-- a text of lines, each a name of a valid id, ended by a newline
pub data Readable (form : Form) : List ℕ → Type 0 where
  empty : Readable form []
  line : (t r : List ℕ) → is_name form t ≡ true → valid_id (value_of t) ≡ true → Readable form r → Readable form (t ++ (10 ∷ r))

-- the n-th line is the first that is malformed: before it stand the lines of valid ids, and what follows them does not begin with such a line
pub record BadLine (form : Form) (text : List ℕ) (n : ℕ) : Type 0 where
  pub good : List ℕ
  pub rest : List ℕ
  pub valid : AllValid good
  pub number : n ≡ suc (length good)
  pub is : text ≡ lines_of form good ++ rest
  pub some : 0 < length rest
  pub bad : (t r : List ℕ) → rest ≡ t ++ (10 ∷ r) → is_name form t ≡ true → valid_id (value_of t) ≡ false
