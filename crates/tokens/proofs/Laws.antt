-- What is promised of `write` and `read`: there and back, which texts can be read, which answer is given exactly when, and how much room is always enough.
use mathlib.Core.Path.{◌≡◌, refl, sym, ap, ◌∙◌}
use mathlib.Core.Bool.{Bool, true, false}
use mathlib.Core.List.{List, [], ◌∷◌, ◌++◌, append_assoc}
use mathlib.Core.Logic.{◌↔◌}
use Prim.Native.Nat.{ℕ, suc, ◌+◌, ◌*◌, ◌≤◌, ◌<◌}
use native.Mathlib.Omega.{arith}
use lib.Dec.{eqb}
use lib.ListN.{length, length-append}
use borrow.Author.Tests.{eqb-true}
use Rattle.cellid.specs.CellId.{valid_id}
use Rattle.cellid.proofs.Laws.{no_true, valid_fits}
use Rattle.tokens.specs.declared.Form.{Form}
use Rattle.tokens.specs.Tokens.{name_of, is_name, value_of, named, name_line, lines_of, unended, ids_from, ids_of}
use Rattle.tokens.specs.Texts.{AllValid, none, more, FirstBad, here, next, Readable, empty, line, BadLine}
use Rattle.tokens.proofs.Names.{name_short, name_is_digits, name_back, name_named, is_name_lem}
use Rattle.tokens.proofs.Lines.{first_line}
use Rattle.tokens.proofs.Turns.{line_length}

module _ (form : Form) where
  -- ---- names of valid ids

  named_by : (u : Bool) (t : List ℕ) → is_name form t ≡ u → 0 < named form t → (is_name form t ≡ true) × (named form t ≡ value_of t)
  unfolding named
  named_by true t e p = (e, rw (named, e))
  named_by false t e p = absurd (omega (arith, rw (named, e) at p))

  -- a number that is no 0 is that of a name
  named_some : (t : List ℕ) → 0 < named form t → (is_name form t ≡ true) × (named form t ≡ value_of t)
  named_some t p = named_by (is_name form t) t refl p

  named_is : (t : List ℕ) → is_name form t ≡ true → named form t ≡ value_of t
  unfolding named
  named_is t e = rw (named, e)

  -- the name of a valid id is one, and the id its value
  valid_name : (id : ℕ) → valid_id id ≡ true → (is_name form (name_of form id) ≡ true) × (value_of (name_of form id) ≡ id)
  valid_name id v =
      let b = name_back form id v in
      let s = named_some (name_of form id) (rw b (valid_fits id v).0) in
      (s.0, sym s.1 ∙ b)

  -- ---- the first line

  -- a valid id's line, then others
  line_first : (id : ℕ) (r : List ℕ) → valid_id id ≡ true → ids_of form (name_line form id ++ r) ≡ id ∷ ids_of form r
  unfolding name_line
  line_first id r v =
      ap (ids_of form) (append_assoc (name_of form id) (10 ∷ []) r) ∙ first_line form (name_of form id) r (name_is_digits form id (valid_fits id v).1)
      ∙ ap (λ (n : ℕ). n ∷ ids_of form r) (name_back form id v)

  -- and the other way round, where s is read already
  abbrev Split : List ℕ → ℕ → List ℕ → Type 0
  Split text id l = (r : List ℕ) × (text ≡ name_line form id ++ r) × (ids_of form r ≡ l)

  open_none : (s : List ℕ) (id : ℕ) (l : List ℕ) → unended s ≡ id ∷ l → 0 < id → ⊥
  unfolding unended
  open_none [] id l e p = omega (arith, ap length e)
  open_none (b ∷ s) id l e p = let z : id ≡ 0 = cc in omega arith

  split_by : (u : Bool) (s : List ℕ) (b : ℕ) (text : List ℕ) (id : ℕ) (l : List ℕ) → eqb b 10 ≡ u → ids_from form s (b ∷ text) ≡ id ∷ l → valid_id id ≡ true
      → (ids_from form (s ++ (b ∷ [])) text ≡ id ∷ l → Split ((s ++ (b ∷ [])) ++ text) id l) → Split (s ++ (b ∷ text)) id l
  unfolding ids_from name_line
  split_by true s b text id l u e v f =
      let g : named form s ∷ ids_of form text ≡ id ∷ l = rw (ids_from, u) at e in
      let i : named form s ≡ id = cc in
      let k : ids_of form text ≡ l = cc in
      let n = named_some s (rw i (valid_fits id v).0) in
      let w : name_of form id ≡ s = ap (name_of form) (sym i ∙ n.1) ∙ name_named form s n.0 in
      (text, rw (eqb-true b 10 u, w) (sym (append_assoc s (10 ∷ []) text)), k)
  split_by false s b text id l u e v f = let r = f (rw (ids_from, u) at e) in (r.0, sym (append_assoc s (b ∷ []) text) ∙ r.1, r.2)

  split_from : (text s : List ℕ) (id : ℕ) (l : List ℕ) → ids_from form s text ≡ id ∷ l → valid_id id ≡ true → Split (s ++ text) id l
  unfolding ids_from
  split_from [] s id l e v = absurd (open_none s id l e (valid_fits id v).0)
  split_from (b ∷ text) s id l e v = split_by (eqb b 10) s b text id l refl e v (λ g. split_from text (s ++ (b ∷ [])) id l g v)

  split_first : (text : List ℕ) (id : ℕ) (l : List ℕ) → ids_of form text ≡ id ∷ l → valid_id id ≡ true → Split text id l
  split_first text id l e v = split_from text [] id l e v

  -- a text with no line is empty
  lines_by : (u : Bool) (s : List ℕ) (b : ℕ) (text : List ℕ) → eqb b 10 ≡ u → (0 < length (ids_from form (s ++ (b ∷ [])) text)) → 0 < length (ids_from form s (b ∷ text))
  unfolding ids_from
  lines_by true s b text e f = rw (ids_from, e) (omega arith)
  lines_by false s b text e f = rw (ids_from, e) f

  lines_from : (text s : List ℕ) → 0 < length s + length text → 0 < length (ids_from form s text)
  unfolding ids_from unended
  lines_from [] [] p = absurd (omega arith)
  lines_from [] (b ∷ s) p = omega arith
  lines_from (b ∷ text) s p = lines_by (eqb b 10) s b text refl (lines_from text (s ++ (b ∷ [])) (rw (length-append s (b ∷ [])) (omega arith)))

  no_lines : (text : List ℕ) → ids_of form text ≡ [] → text ≡ []
  no_lines [] e = refl
  no_lines (b ∷ text) e = absurd (omega (arith, lines_from (b ∷ text) [] (omega arith), ap length e))

  -- ---- there and back

  -- "Reading what was written gives the list"
  pub read_written : (ids : List ℕ) → AllValid ids → ids_of form (lines_of form ids) ≡ ids
  unfolding lines_of ids_from unended
  read_written [] none = refl
  read_written (id ∷ l) (more v a) = line_first id (lines_of form l) v ∙ ap (λ (x : List ℕ). id ∷ x) (read_written l a)

  -- "writing what was read gives the same bytes"
  written_from : (ids text : List ℕ) → AllValid ids → ids_of form text ≡ ids → lines_of form ids ≡ text
  unfolding lines_of
  written_from [] text none e = sym (no_lines text e)
  written_from (id ∷ l) text (more v a) e =
      let s = split_first text id l e v in
      ap (λ (x : List ℕ). name_line form id ++ x) (written_from l s.0 a s.2) ∙ sym s.1

  pub written_read : (text : List ℕ) → AllValid (ids_of form text) → lines_of form (ids_of form text) ≡ text
  written_read text a = written_from (ids_of form text) text a refl

  -- no two lists have one text
  pub one_list : (a b : List ℕ) → AllValid a → AllValid b → lines_of form a ≡ lines_of form b → a ≡ b
  one_list a b x y e = sym (read_written a x) ∙ ap (ids_of form) e ∙ read_written b y

  -- ---- which texts can be read

  lines_readable : (ids : List ℕ) → AllValid ids → Readable form (lines_of form ids)
  unfolding lines_of name_line
  lines_readable [] none = empty
  lines_readable (id ∷ l) (more v a) =
      let n = valid_name id v in
      rw (append_assoc (name_of form id) (10 ∷ []) (lines_of form l)) (line (name_of form id) (lines_of form l) n.0 (rw n.1 v) (lines_readable l a))

  readable_lines : {text : List ℕ} → Readable form text → AllValid (ids_of form text)
  unfolding ids_from unended
  readable_lines empty = none
  readable_lines (line t r n v R) = rw (first_line form t r (is_name_lem form t n).digits, named_is t n) (more v (readable_lines R))

  pub readable : (text : List ℕ) → AllValid (ids_of form text) ↔ Readable form text
  readable text = (λ a. rw (written_read text a) at (lines_readable (ids_of form text) a), readable_lines)

  -- ---- which line is malformed

  bad_from : (ids : List ℕ) (n : ℕ) (text : List ℕ) → FirstBad ids n → ids_of form text ≡ ids → BadLine form text n
  unfolding lines_of
  bad_from [] n text x e = elim x [ ]
  bad_from (id ∷ l) _ text (here v) e = record {
    good = [];
    rest = text;
    valid = none;
    number = refl;
    is = refl;
    some = some text (ap length e);
    bad = λ t r q y. let f : value_of t ∷ ids_of form r ≡ id ∷ l = ap (λ (x : ℕ). x ∷ ids_of form r) (sym (named_is t y)) ∙ sym (first_line form t r (is_name_lem form t y).digits) ∙ ap (ids_of form) (sym q) ∙ e in
        let i : value_of t ≡ id = cc in rw i v;
  }
    where
      some : (text : List ℕ) → length (ids_of form text) ≡ suc (length l) → 0 < length text
      some [] h = unfold ids_from unended in absurd (omega arith)
      some (b ∷ text) h = omega arith
  bad_from (id ∷ l) _ text (next {n = n} v f) e =
      let s = split_first text id l e v in
      let B = bad_from l n s.0 f s.2 in
      record {
        good = id ∷ B.good;
        rest = B.rest;
        valid = more v B.valid;
        number = ap suc B.number;
        is = s.1 ∙ ap (λ (x : List ℕ). name_line form id ++ x) B.is ∙ sym (append_assoc (name_line form id) (lines_of form B.good) B.rest);
        some = B.some;
        bad = B.bad;
      }

  bad_first : (ids rest : List ℕ) → ids_of form rest ≡ ids → 0 < length rest → ((t r : List ℕ) → rest ≡ t ++ (10 ∷ r) → is_name form t ≡ true → valid_id (value_of t) ≡ false) → FirstBad ids 1
  unfolding name_line
  bad_first [] rest e p h = absurd (omega (arith, ap length (no_lines rest e)))
  bad_first (id ∷ l) rest e p h = here (no_true (valid_id id) (λ v.
      let s = split_first rest id l e v in
      let n = valid_name id v in
      let b : valid_id (value_of (name_of form id)) ≡ false = h (name_of form id) s.0 (s.1 ∙ append_assoc (name_of form id) (10 ∷ []) s.0) n.0 in
      let z : true ≡ false = sym v ∙ ap valid_id (sym n.1) ∙ b in
      let y : ◌≡◌ {A = ℕ} 0 1 = cc in absurd (omega arith)))

  bad_to : (good rest : List ℕ) → AllValid good → 0 < length rest → ((t r : List ℕ) → rest ≡ t ++ (10 ∷ r) → is_name form t ≡ true → valid_id (value_of t) ≡ false)
      → FirstBad (ids_of form (lines_of form good ++ rest)) (suc (length good))
  unfolding lines_of
  bad_to [] rest none p h = bad_first (ids_of form rest) rest refl p h
  bad_to (id ∷ l) rest (more v a) p h =
      rw (append_assoc (name_line form id) (lines_of form l) rest, line_first id (lines_of form l ++ rest) v) (next v (bad_to l rest a p h))

  pub bad_line : (text : List ℕ) (n : ℕ) → FirstBad (ids_of form text) n ↔ BadLine form text n
  bad_line text n = (λ f. bad_from (ids_of form text) n text f refl, λ B. rw (B.is, B.number) (bad_to B.good B.rest B.valid B.some B.bad))

  -- ---- room that is always enough

  -- a text has at most seventeen bytes an id ..
  pub lines_short : (ids : List ℕ) → length (lines_of form ids) ≤ 17 * length ids
  unfolding lines_of
  lines_short [] = omega arith
  lines_short (id ∷ l) = rw (length-append (name_line form id) (lines_of form l)) (omega (arith, line_length form id, name_short form id, lines_short l))

  -- .. and at least two
  name_some : (id : ℕ) → valid_id id ≡ true → 0 < length (name_of form id)
  name_some id v = by (name_of form id) (valid_name id v).0
    where
      by : (t : List ℕ) → is_name form t ≡ true → 0 < length t
      by [] h = empty_none form h
        where
          empty_none : (form : Form) → is_name form [] ≡ true → 0 < length {A = ℕ} []
          empty_none Form.Digits h = unfold is_name in let z : ◌≡◌ {A = ℕ} 0 1 = cc in absurd (omega arith)
          empty_none Form.Token h = unfold is_name in let z : ◌≡◌ {A = ℕ} 0 1 = cc in absurd (omega arith)
      by (b ∷ t) h = omega arith

  lines_long : (ids : List ℕ) → AllValid ids → 2 * length ids ≤ length (lines_of form ids)
  unfolding lines_of
  lines_long [] none = omega arith
  lines_long (id ∷ l) (more v a) = rw (length-append (name_line form id) (lines_of form l)) (omega (arith, line_length form id, name_some id v, lines_long l a))

  pub ids_short : (text : List ℕ) → AllValid (ids_of form text) → 2 * length (ids_of form text) ≤ length text
  ids_short text a = rw (written_read text a) at (lines_long (ids_of form text) a)
