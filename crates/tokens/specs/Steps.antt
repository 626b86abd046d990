-- What the loops count on: private contracts only, nothing here need be believed.
use Rattle.std.specs.Prelude.{◌≡◌, true, false, Option, Some, None, List, ◌∷◌, ℕ, ◌-◌, ◌*◌, ◌%◌, ◌^◌, ◌≤◌, ◌<◌, eqb, length, drop}
use Rattle.tokens.specs.declared.Form.{Form}
use Rattle.tokens.specs.declared.Line.{Line}
use Rattle.tokens.specs.Tokens.{ids_of}

-- the number of a name of n digits that spell v
abbrev pub of_digits : Form → ℕ → ℕ → Option ℕ
of_digits Form.Digits n v = elim (eqb n 16) [ true ↦ Some v | false ↦ None ]
of_digits Form.Token n v = elim (eqb (v % 16) 0) [ true ↦ None | false ↦ Some (v * 16 ^ (16 - n)) ]

-- the first line from a place on is no name ..
pub record NoName (form : Form) (text : List ℕ) (at : ℕ) : Type 0 where
  pub rest : List ℕ
  pub first : ids_of form (drop at text) ≡ 0 ∷ rest

-- .. or that of r, and the next one begins at the place of r
pub record Names (form : Form) (text : List ℕ) (at : ℕ) (r : Line) : Type 0 where
  pub first : ids_of form (drop at text) ≡ r.id ∷ ids_of form (drop r.next text)
  pub after : at < r.next
  pub within : r.next ≤ length text

abbrev pub FirstLine : Form → List ℕ → ℕ → Option Line → Type 0
FirstLine form text at None = NoName form text at
FirstLine form text at (Some r) = Names form text at r
