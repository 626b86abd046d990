-- How long an answer gets: a union and a common part are no longer than both lists together.
use mathlib.Core.Path.{◌≡◌, sym, ap, ◌∙◌}
use mathlib.Core.Logic.{inl, inr}
use mathlib.Core.Bool.{true, and-eq-true_iff}
use mathlib.Core.List.{List, ◌++◌}
use Prim.Native.Nat.{ℕ, ◌+◌, ◌≤◌, ◌<◌}
use native.Mathlib.Omega.{arith}
use lib.ListN.{length, length-append}
use Rattle.cellid.specs.CellId.{Cell}
use Rattle.order.specs.Order.{All}
use Rattle.order.proofs.OrderLaws.{all_append}
use Rattle.cellunion.specs.CellUnion.{lo, hi, covers, Member}
use Rattle.cellunion.proofs.Spans.{span, In, Nest, left, right, inside, around, nest}
use Rattle.cellunion.proofs.Unique.{all_at, covers→, covers←, full, apart_one, member_append←}
use Rattle.cellunion.proofs.Short.{held_short}
use Rattle.cellunion.proofs.Lists.{covers_append}
use Rattle.ranges.proofs.Tiles.{and_both}
use Rattle.sets.specs.Sets.{wants, combined}
use Rattle.sets.specs.Steps.{is_short}
use Rattle.sets.specs.declared.Op.{Op}
use Rattle.sets.proofs.Laws.{set_normal, set_shortest, common_leaves}

module _ (a b : List ℕ) (A : All Cell a) (B : All Cell b) where
  -- an output with room for both lists has room for their union ..
  pub union_short : length (combined Op.Union a b) ≤ length a + length b
  unfolding wants
  union_short = omega (arith, set_shortest Op.Union a b A B (a ++ b) (all_append Cell a b A B) (covers_append a b), length-append a b)

  -- a cell of both lists' ground around a cell y of their common part is y
  is_whole : (y x : ℕ) → Member y (combined Op.Common a b) → Cell x → In y x → ((n : ℕ) → lo x ≤ n → n < hi x → (covers a n ≡ true) × (covers b n ≡ true)) → In x y
  is_whole y x m X i f =
      let S = combined Op.Common a b in
      let N = set_normal Op.Common a b A B in
      let h = full S N x X (λ n p q. let w = f n p q in common_leaves a b A B n ∙ and_both (covers a n) (covers b n) w.0 w.1) in
      let s = span (all_at Cell S N.cells y m) in
      let e : y ≡ h.0 = apart_one S N.cells N.apart y h.0 (lo y) m h.1 (omega arith) (omega arith) (omega (arith, h.2.0, i.0)) (omega (arith, h.2.1, i.1)) in
      (omega (arith, h.2.0, ap lo e), omega (arith, h.2.1, ap hi e))

  -- one of two cells that share the leaf lo y, of one list each, lies in y
  module _ (y x z : ℕ) (m : Member y (combined Op.Common a b)) (mx : Member x a) (mz : Member z b) (X : Cell x) (Z : Cell z) (Y : Cell y) (p : (lo x ≤ lo y) × (lo y < hi x)) (q : (lo z ≤ lo y) × (lo y < hi z)) where
    abbrev Found : Type 0
    Found = (r : ℕ) × Member r (a ++ b) × Cell r × In r y

    both_around : In y x → In y z → Nest x z → Found
    both_around i j (left h) = absurd (omega (arith, p.1, q.0))
    both_around i j (right h) = absurd (omega (arith, p.0, q.1))
    both_around i j (inside k) = (x, member_append← a b x (inl mx), X, is_whole y x m X i (λ n u v. (covers← a n A (x, mx, u, v), covers← b n B (z, mz, omega (arith, k.0), omega (arith, k.1)))))
    both_around i j (around k) = (z, member_append← a b z (inr mz), Z, is_whole y z m Z j (λ n u v. (covers← a n A (x, mx, omega (arith, k.0), omega (arith, k.1)), covers← b n B (z, mz, u, v))))

    first_around : In y x → Nest z y → Found
    first_around i (left h) = absurd (omega (arith, q.1))
    first_around i (right h) = absurd (omega (arith, q.0, (span Y).some))
    first_around i (inside j) = (z, member_append← a b z (inr mz), Z, j)
    first_around i (around j) = both_around i j (nest X Z)

    in_cell : Nest x y → Found
    in_cell (left h) = absurd (omega (arith, p.1))
    in_cell (right h) = absurd (omega (arith, p.0, (span Y).some))
    in_cell (inside i) = (x, member_append← a b x (inl mx), X, i)
    in_cell (around i) = first_around i (nest Z Y)

  -- .. and for their common part: each of its cells has a cell of one of the lists inside it
  pub common_short : length (combined Op.Common a b) ≤ length a + length b
  common_short =
      let S = combined Op.Common a b in
      let N = set_normal Op.Common a b A B in
      omega (
        arith,
        length-append a b,
        held_short S (a ++ b) N.cells N.apart (λ y m.
            let Y = all_at Cell S N.cells y m in
            let s = span Y in
            let t = (and-eq-true_iff (covers a (lo y)) (covers b (lo y))).0 (sym (common_leaves a b A B (lo y)) ∙ covers← S (lo y) N.cells (y, m, omega arith, omega arith)) in
            let x = covers→ a (lo y) A t.0 in
            let z = covers→ b (lo y) B t.1 in
            let X = all_at Cell a A x.0 x.1 in
            in_cell y x.0 z.0 m x.1 z.1 X (all_at Cell b B z.0 z.1) Y (x.2, x.3) (z.2, z.3) (nest X Y)),
      )

-- so where an answer is said to be short, it is
pub short_is : (op : Op) (a b : List ℕ) → All Cell a → All Cell b → is_short op ≡ true → length (combined op a b) ≤ length a + length b
unfolding is_short
short_is Op.Union a b A B t = union_short a b A B
short_is Op.Common a b A B t = common_short a b A B
short_is Op.Difference a b A B t = let z : ◌≡◌ {A = ℕ} 0 1 = cc in absurd (omega arith)
