-- The two editions of the queue's order part ways at P6's tie and nowhere else: a cell with all its children there and terminal, against one a level deeper
-- with one child, which isn't. There both cost the same, so that edition 1 takes the smaller id, and edition 2 the larger cell.
use mathlib.Core.Path.{◌≡◌, sym, ap, ◌∙◌}
use mathlib.Core.Bool.{Bool, true, false, true≢false}
use mathlib.Core.Logic.{◌⊎◌, inl, inr, ⊎_elim, by_cases}
use mathlib.Core.List.{List, [], ◌∷◌}
use Prim.Native.Nat.{ℕ, suc, ◌+◌, ◌*◌, ◌≤◌, ◌<◌}
use native.Mathlib.Nat.{suc-mul}
use native.Mathlib.Omega.{arith}
use native.Mathlib.Decide.{dec_lt}
use lib.ListN.{length}
use Rattle.cellid.specs.CellId.{level_of}
use Rattle.order.specs.Lex.{first, lexb}
use Rattle.order.proofs.LexLaws.{first_lt, first_gt, first_eq}
use Rattle.run.specs.Run.{Task, Grown, Child, is_empty, expansion_of, full, ending, cost_of, cost, level_mod, by_id, level_key, by_level}
use Rattle.run.proofs.Counts.{ending_le, counts_most}
use Rattle.run.proofs.Records.{shifted, outweighs, digits}

-- level, children and terminals of two cells, with m for 4^level_mod: "level 0, 4 children .. with 4 terminals: 20; level 1, 1 child, 0 terminals: 20 too"
pub record Tie (m L c t L' c' t' : ℕ) : Type 0 where
  pub level : L' ≡ suc L
  pub children : c ≡ m
  pub terminals : t ≡ m
  pub child : c' ≡ 1
  pub none : t' ≡ 0

-- a queued cell's numbers: it has a child, at most m, and no more terminals than children
record Counts (m c t : ℕ) : Type 0 where
  some : 0 < c
  few : c ≤ m
  ends : t ≤ c

module _ (m L c t L' c' t' : ℕ) (x : Counts m c t) (y : Counts m c' t') where
  -- full terminals carry into the children, and full children into the level
  carried : suc (L * m + c) ≡ L' * m + c' → t ≡ m → t' ≡ 0 → Tie m L c t L' c' t'
  carried e f g =
      let up : suc L * m + 1 ≡ L' * m + c' = omega (arith, suc-mul L m) in
      let z : L' ≡ suc L = by_cases (dec_lt L' (suc L))
      (λ h. absurd (omega (arith, outweighs m L' (suc L) c' 1 h (omega arith))))
      (λ h. by_cases (dec_lt (suc L) L') (λ k. absurd (omega (arith, outweighs m (suc L) L' 1 c' k (omega arith)))) (λ k. omega arith)) in
      let w : suc L * m ≡ L' * m = ap (λ (n : ℕ). n * m) (sym z) in
      record { level = z; children = omega arith; terminals = f; child = omega arith; none = g }

  -- what is less by level and children costs less, but at the tie
  less_or_tie : L * m + c < L' * m + c' → (cost_of m L c t < cost_of m L' c' t') ⊎ Tie m L c t L' c' t'
  unfolding cost_of
  less_or_tie h = by_cases (dec_lt t (m + t'))
      (λ k. inl (outweighs m (L * m + c) (L' * m + c') t t' h k))
      (λ k. by_cases (dec_lt (suc (L * m + c)) (L' * m + c'))
      (λ l. inl (omega (arith, suc-mul (L * m + c) m, outweighs m (suc (L * m + c)) (L' * m + c') 0 0 l (omega arith))))
      (λ l. inr (carried (omega arith) (omega arith) (omega arith))))

-- the costs say what level, children and terminals say, but at the tie
tie_only : (m L c t L' c' t' : ℕ) (r : Bool) → Counts m c t → Counts m c' t'
    → (first (cost_of m L c t) (cost_of m L' c' t') r ≡ first L L' (first c c' (first t t' r))) ⊎ (Tie m L c t L' c' t' ⊎ Tie m L' c' t' L c t)
unfolding cost_of
tie_only m L c t L' c' t' r x y =
    let s = first t t' r in
    let e : first (L * m + c) (L' * m + c') s ≡ first L L' (first c c' s) = digits m L L' c c' s (omega arith) (omega arith) in
    by_cases (dec_lt (L * m + c) (L' * m + c'))
    (λ h. ⊎_elim (λ k. inl (first_lt _ _ r k ∙ sym (first_lt _ _ s h) ∙ e)) (λ k. inr (inl k)) (less_or_tie m L c t L' c' t' x y h))
    (λ h. by_cases (dec_lt (L' * m + c') (L * m + c))
    (λ g. ⊎_elim (λ k. inl (first_gt _ _ r k ∙ sym (first_gt _ _ s g) ∙ e)) (λ k. inr (inr k)) (less_or_tie m L' c' t' L c t y x g))
    (λ g. let z : L * m + c ≡ L' * m + c' = omega arith in
    inl (shifted ((L * m + c) * m) ((L' * m + c') * m) t t' r (ap (λ (n : ℕ). n * m) z) ∙ sym (first_eq _ _ s (omega arith) (omega arith)) ∙ e)))

same_cost : (m L c t L' c' t' : ℕ) → Tie m L c t L' c' t' → cost_of m L c t ≡ cost_of m L' c' t'
unfolding cost_of
same_cost m L c t L' c' t' x =
    let e : suc (L * m + c) ≡ L' * m + c' = rw (x.level, x.children, x.child) (omega (arith, suc-mul L m)) in
    let f : suc (L * m + c) * m ≡ (L' * m + c') * m = ap (λ (n : ℕ). n * m) e in
    omega (arith, x.terminals, x.none, suc-mul (L * m + c) m)

some_child : (l : List Child) → is_empty l ≡ false → 0 < length l
unfolding is_empty
some_child [] e = absurd (true≢false e)
some_child (k ∷ l) e = omega arith

module _ (T : Task) where
  abbrev children_of : Grown → List Child
  children_of a = (expansion_of T a.id).children

  -- a has all children that there can be, all of them terminal; b is one level deeper and has one child, which isn't
  abbrev pub TieOf : Grown → Grown → Type 0
  TieOf a b = Tie (full T.asked) (level_of a.id) (length (children_of a)) (ending (children_of a)) (level_of b.id) (length (children_of b)) (ending (children_of b))

  counts : 0 < level_mod T.asked → (a : Grown) → is_empty (children_of a) ≡ false → Counts (full T.asked) (length (children_of a)) (ending (children_of a))
  counts h a e = record { some = some_child (children_of a) e; few = (counts_most T h a.id).0; ends = ending_le (children_of a) }

  -- of two cells that have children, both editions say the same, or they are tied
  pub editions_agree : 0 < level_mod T.asked → (a b : Grown) → is_empty (children_of a) ≡ false → is_empty (children_of b) ≡ false
      → (by_id T a b ≡ by_level T a b) ⊎ (TieOf a b ⊎ TieOf b a)
  unfolding by_id cost by_level level_key lexb
  editions_agree h a b x y = tie_only (full T.asked) (level_of a.id) _ _ (level_of b.id) _ _ _ (counts h a x) (counts h b y)

  -- at a tie edition 2 takes the larger cell, and edition 1, where both cost the same, the smaller id
  pub at_tie : (a b : Grown) → TieOf a b → (by_level T a b ≡ true) × (by_id T a b ≡ lexb (a.id ∷ a.from ∷ []) (b.id ∷ b.from ∷ []))
  unfolding by_id cost by_level level_key lexb
  at_tie a b t =
      let e = same_cost (full T.asked) _ _ _ _ _ _ t in
      (first_lt _ _ _ (omega (arith, t.level)), first_eq _ _ _ (omega (arith, e)) (omega (arith, e)))
