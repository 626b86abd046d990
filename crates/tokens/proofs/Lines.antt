-- Lines of a text, from a place on: what the digits that stand there, and what follows them, make of the first line.
use mathlib.Core.Path.{◌≡◌, refl, sym, ap, ◌∙◌}
use mathlib.Core.Bool.{Bool, true, false, and-eq-true_iff}
use mathlib.Core.List.{List, [], ◌∷◌, ◌++◌, append_assoc, append-nil}
use Rattle.std.proofs.Common.{Option, Some, None, unwrap_or}
use Prim.Native.Nat.{ℕ, suc, ◌+◌, ◌-◌, ◌≤◌, ◌<◌}
use native.Mathlib.Omega.{arith}
use native.Mathlib.Decide.{dec_lt}
use mathlib.Core.Logic.{by_cases}
use lib.Dec.{eqb}
use lib.ListN.{length, get_or, take, drop, drop_of_length-le, length-append, length-drop, take-append-drop}
use lib.Seq.{drop-drop, length-take-le}
use borrow.Author.Tests.{eq-eqb, ne_eqb, ltb-true}
use Rattle.text.specs.Text.{digit_of, all_digits, Spells, Stopped}
use Rattle.text.proofs.Laws.{digits_then}
use Rattle.cellid.proofs.Laws.{no_true}
use Rattle.cellid.proofs.Puts.{next_of}
use Rattle.tokens.specs.declared.Form.{Form}
use Rattle.tokens.specs.Tokens.{is_name, named, unended, ids_from, ids_of}
use Rattle.tokens.specs.Steps.{of_digits, FirstLine}
use Rattle.tokens.proofs.Digits.{digit_line}
use Rattle.tokens.proofs.Names.{named_digits, is_name_lem}

module _ (form : Form) where
  -- ---- digits belong to the line that they stand in

  pub past_digits : (t s u : List ℕ) → all_digits 16 t ≡ true → ids_from form s (t ++ u) ≡ ids_from form (s ++ t) u
  unfolding ids_from
  past_digits [] s u h = rw append-nil
  past_digits (b ∷ t) s u h =
      let a = (and-eq-true_iff _ (all_digits 16 t)).0 h in
      rw (ids_from, ne_eqb b 10 (digit_line b (ltb-true _ _ a.0))) (past_digits t (s ++ (b ∷ [])) u a.1 ∙ ap (λ (x : List ℕ). ids_from form x u) (append_assoc s (b ∷ []) t))

  pub first_line : (t r : List ℕ) → all_digits 16 t ≡ true → ids_of form (t ++ (10 ∷ r)) ≡ named form t ∷ ids_of form r
  unfolding ids_from
  first_line t r h = past_digits t [] (10 ∷ r) h

  -- ---- a line that no name begins like

  named_none : (t : List ℕ) → is_name form t ≡ false → named form t ≡ 0
  unfolding named
  named_none t h = rw (named, h)

  abbrev Malformed : List ℕ → Type 0
  Malformed l = (r : List ℕ) × (l ≡ 0 ∷ r)

  unended_some : (s : List ℕ) → 0 < length s → Malformed (unended s)
  unfolding unended
  unended_some [] h = absurd (omega arith)
  unended_some (b ∷ s) h = ([], refl)

  spoilt_by : (t : Bool) (b : ℕ) (l s : List ℕ) → eqb b 10 ≡ t → is_name form s ≡ false → Malformed (ids_from form (s ++ (b ∷ [])) l) → Malformed (ids_from form s (b ∷ l))
  unfolding ids_from
  spoilt_by true b l s e h f = (ids_from form [] l, rw (ids_from, e, named_none s h))
  spoilt_by false b l s e h f = (f.0, rw (ids_from, e) f.1)

  spoilt : (l s : List ℕ) → 0 < length s → ((u : List ℕ) → is_name form (s ++ u) ≡ false) → Malformed (ids_from form s l)
  unfolding ids_from
  spoilt [] s p h = unended_some s p
  spoilt (b ∷ l) s p h =
      spoilt_by (eqb b 10) b l s refl (rw append-nil at (h []))
      (spoilt l (s ++ (b ∷ [])) (rw (length-append s (b ∷ [])) (omega arith)) (λ u. rw (append_assoc s (b ∷ []) u) (h (b ∷ u))))

  -- ---- what one pass over the digits from a place on tells

  module _ (text : List ℕ) (at end v : ℕ) (S : Spells 16 text at end v) where
    abbrev name : List ℕ
    name = take (end - at) (drop at text)

    name_length : length name ≡ end - at
    name_length = length-take-le (end - at) (drop at text) (simp length-drop (omega (arith, S.within)))

    from_here : ids_of form (drop at text) ≡ ids_from form name (drop end text)
    from_here =
        let e : at + (end - at) ≡ end = omega (arith, S.order) in
        ap (ids_from form []) (sym (take-append-drop (end - at) (drop at text)) ∙ ap (λ (x : List ℕ). name ++ x) (drop-drop (end - at) at text ∙ ap (λ (n : ℕ). drop n text) e))
        ∙ past_digits name [] (drop end text) S.digits

    -- a newline follows
    ended : (o : Option ℕ) → end < length text → get_or text end 0 ≡ 10 → o ≡ of_digits form (end - at) v → ids_of form (drop at text) ≡ unwrap_or o 0 ∷ ids_of form (drop (end + 1) text)
    unfolding ids_from
    ended o h e i =
        from_here ∙ ap (ids_from form name) (next_of text end h)
        ∙ rw (ids_from, eq-eqb _ _ e, i) (ap (λ (x : ℕ). x ∷ ids_of form (drop (end + 1) text)) (named_digits name (omega (arith, name_length, S.few)) S.digits form ∙ rw (name_length, S.value)))

    pub line_ended : (id next : ℕ) → end < length text → get_or text end 0 ≡ 10 → Some id ≡ of_digits form (end - at) v → next ≡ end + 1 → FirstLine form text at (Some (record { id = id; next = next }))
    line_ended id next h e i n = record { first = rw n (ended (Some id) h e i); after = omega (arith, S.order); within = omega arith }

    pub line_none : end < length text → get_or text end 0 ≡ 10 → None ≡ of_digits form (end - at) v → FirstLine form text at None
    line_none h e i = record { rest = ids_of form (drop (end + 1) text); first = ended None h e i }

    -- nothing follows
    pub line_open : at < length text → length text ≤ end → FirstLine form text at None
    unfolding ids_from
    line_open p h =
        let m = unended_some name (omega (arith, name_length)) in
        record { rest = m.0; first = from_here ∙ ap (ids_from form name) (drop_of_length-le text {i = end} h) ∙ m.1 }

    -- another byte follows: it is no digit, or there are sixteen
    no_name : Stopped 16 text at end → end < length text → (u : List ℕ) → is_name form ((name ++ (get_or text end 0 ∷ [])) ++ u) ≡ true → ⊥
    no_name stop h u y =
        let n = is_name_lem form _ y in
        let k : length name + suc (length u) ≤ 16 = rw (append_assoc name (get_or text end 0 ∷ []) u, length-append name (get_or text end 0 ∷ u)) at n.few in
        let d : digit_of (get_or text end 0) < 16 = ltb-true _ _ ((and-eq-true_iff _ (all_digits 16 u)).0 ((and-eq-true_iff (all_digits 16 name) _).0 (rw (append_assoc name (get_or text end 0 ∷ []) u, digits_then 16 name (get_or text end 0 ∷ u)) at n.digits)).1).0 in
        by_cases (dec_lt end (at + 16)) (λ l. omega (arith, stop h l)) (λ l. omega (arith, name_length, S.order))

    pub line_other : Stopped 16 text at end → end < length text → (get_or text end 0 ≡ 10 → ⊥) → FirstLine form text at None
    unfolding ids_from
    line_other stop h e =
        let m = spoilt (drop (end + 1) text) (name ++ (get_or text end 0 ∷ [])) (rw (length-append name (get_or text end 0 ∷ [])) (omega arith)) (λ u. no_true _ (no_name stop h u)) in
        record { rest = m.0; first = from_here ∙ ap (ids_from form name) (next_of text end h) ∙ rw (ids_from, ne_eqb _ _ e) m.1 }
