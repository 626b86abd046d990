-- Request j in the paper's words: the answer's leaves, that it is normal, the only such list and the shortest; and how many leaves two lists share.
use mathlib.Core.Path.{◌≡◌, refl, sym, ap, ap₂, ◌∙◌}
use mathlib.Core.Bool.{Bool, true, false, ◌&&◌, ◌||◌, not, and-eq-true_iff}
use mathlib.Core.List.{List, ◌++◌}
use Prim.Native.Nat.{ℕ, ◌+◌, ◌≤◌}
use native.Mathlib.Omega.{arith}
use lib.ListN.{length}
use Rattle.cellid.specs.CellId.{Cell}
use Rattle.order.specs.Order.{All}
use Rattle.order.proofs.OrderLaws.{all_append}
use Rattle.cellunion.specs.CellUnion.{covers, Apart, Normal, normalise, count_to, leaf_sum}
use Rattle.cellunion.proofs.Unique.{normal_unique}
use Rattle.cellunion.proofs.Norm.{normal_shortest}
use Rattle.cellunion.proofs.Counts.{count_or, count_cong, leaves_count}
use Rattle.ranges.specs.Ranges.{leaves, tile}
use Rattle.ranges.proofs.Tiles.{clash}
use Rattle.ranges.proofs.Inputs.{covers_end}
use Rattle.cellunion.proofs.Lists.{covers_append}
use Rattle.ranges.proofs.Stretches.{stretches_same, cells_leaves, cells_normal, cells_are}
use Rattle.sets.specs.Sets.{wants, wanted, combined}
use Rattle.sets.specs.declared.Op.{Op}
use Rattle.sets.specs.declared.Op.TheVariants.{Union, Common, Difference}

-- ---- the answer

wants_none : (op : Op) → wants op false false ≡ false
unfolding wants
wants_none Union = refl
wants_none Common = refl
wants_none Difference = refl

module _ (op : Op) (a b : List ℕ) (A : All Cell a) (B : All Cell b) where
  wanted_end : (n : ℕ) → leaves ≤ n → wanted op a b n ≡ false
  unfolding wanted
  wanted_end n h = ap₂ (wants op) (covers_end a A n h) (covers_end b B n h) ∙ wants_none op

  -- "its leaves are exactly those" ..
  pub set_leaves : (n : ℕ) → covers (combined op a b) n ≡ wants op (covers a n) (covers b n)
  unfolding combined wanted
  set_leaves n = cells_leaves (wanted op a b) wanted_end n

  -- "The answer is normalised"
  pub set_normal : Normal (combined op a b)
  unfolding combined
  set_normal = cells_normal (wanted op a b) wanted_end

  -- nothing else has both properties
  pub set_only : (l : List ℕ) → Normal l → ((n : ℕ) → covers l n ≡ wants op (covers a n) (covers b n)) → l ≡ combined op a b
  set_only l N same = normal_unique l (combined op a b) N set_normal (λ n. same n ∙ sym (set_leaves n))

  -- "so no shorter list has those leaves"
  pub set_shortest : (l : List ℕ) → All Cell l → ((n : ℕ) → covers l n ≡ wants op (covers a n) (covers b n)) → length (combined op a b) ≤ length l
  set_shortest l C same = normal_shortest (combined op a b) l set_normal C (λ n. set_leaves n ∙ sym (same n))

  -- so it is what normalising gives for any list of cells with these leaves
  pub set_is : (l : List ℕ) → All Cell l → ((n : ℕ) → wants op (covers a n) (covers b n) ≡ covers l n) → combined op a b ≡ normalise l
  unfolding combined wanted
  set_is l C same = cells_are (wanted op a b) wanted_end l C (λ n. sym (same n))

-- what is asked of other lists for the same leaves has the same answer
pub set_same : (op op' : Op) (a b a' b' : List ℕ) → ((n : ℕ) → wants op (covers a n) (covers b n) ≡ wants op' (covers a' n) (covers b' n)) → combined op a b ≡ combined op' a' b'
unfolding combined wanted
set_same op op' a b a' b' same = stretches_same tile (wanted op a b) (wanted op' a' b') same

module _ (a b : List ℕ) (A : All Cell a) (B : All Cell b) where
  -- ".. of either, of both, or of the first alone"
  pub union_leaves : (n : ℕ) → covers (combined Op.Union a b) n ≡ (covers a n || covers b n)
  unfolding wants
  union_leaves n = set_leaves Op.Union a b A B n

  pub common_leaves : (n : ℕ) → covers (combined Op.Common a b) n ≡ (covers a n && covers b n)
  unfolding wants
  common_leaves n = set_leaves Op.Common a b A B n

  pub difference_leaves : (n : ℕ) → covers (combined Op.Difference a b) n ≡ (covers a n && not (covers b n))
  unfolding wants
  difference_leaves n = set_leaves Op.Difference a b A B n

  -- the union is both lists together, normalised
  pub union_is : combined Op.Union a b ≡ normalise (a ++ b)
  unfolding wants
  union_is = set_is Op.Union a b A B (a ++ b) (all_append Cell a b A B) (λ n. sym (covers_append a b n))

-- ---- two tests

parts : (x y : Bool) → ((x && not y) || (x && y)) ≡ x
parts true true = refl
parts true false = refl
parts false y = refl

rejoined : (x y : Bool) → ((x && not y) || y) ≡ (x || y)
rejoined true true = refl
rejoined true false = refl
rejoined false y = refl

never_less : (x y : Bool) → (x && not y) ≡ true → y ≡ true → ⊥
never_less true true t u = clash true refl (sym t)
never_less true false t u = clash true refl (sym u)
never_less false y t u = clash true refl (sym t)

never_both : (x y : Bool) → (x && not y) ≡ true → (x && y) ≡ true → ⊥
never_both x y t u = never_less x y t ((and-eq-true_iff x y).0 u).1

-- ---- how many leaves: what two lists share is counted once in their union

module _ (a b : List ℕ) (A : All Cell a) (P : Apart a) (B : All Cell b) (Q : Apart b) where
  -- a list's leaves, counted one by one
  of_set : (op : Op) → count_to (covers (combined op a b)) leaves ≡ leaf_sum (combined op a b)
  of_set op = let N = set_normal op a b A B in leaves_count (combined op a b) N.cells N.apart

  pub parts_count : leaf_sum (combined Op.Difference a b) + leaf_sum (combined Op.Common a b) ≡ leaf_sum a
  parts_count =
      let d = covers (combined Op.Difference a b) in
      let c = covers (combined Op.Common a b) in
      let same : (n : ℕ) → (d n || c n) ≡ covers a n = λ n. ap₂ (λ (x y : Bool). x || y) (difference_leaves a b A B n) (common_leaves a b A B n) ∙ parts (covers a n) (covers b n) in
      let apart : (n : ℕ) → d n ≡ true → c n ≡ true → ⊥ = λ n t u. never_both (covers a n) (covers b n) (sym (difference_leaves a b A B n) ∙ t) (sym (common_leaves a b A B n) ∙ u) in
      omega (arith, count_or d c leaves apart, count_cong (λ n. d n || c n) (covers a) leaves same, of_set Op.Difference, of_set Op.Common, leaves_count a A P)

  pub union_count : leaf_sum (combined Op.Union a b) + leaf_sum (combined Op.Common a b) ≡ leaf_sum a + leaf_sum b
  union_count =
      let d = covers (combined Op.Difference a b) in
      let same : (n : ℕ) → (d n || covers b n) ≡ covers (combined Op.Union a b) n = λ n. ap (λ (x : Bool). x || covers b n) (difference_leaves a b A B n) ∙ rejoined (covers a n) (covers b n) ∙ sym (union_leaves a b A B n) in
      let apart : (n : ℕ) → d n ≡ true → covers b n ≡ true → ⊥ = λ n t u. never_less (covers a n) (covers b n) (sym (difference_leaves a b A B n) ∙ t) u in
      omega (arith, parts_count, count_or d (covers b) leaves apart, count_cong (λ n. d n || covers b n) (covers (combined Op.Union a b)) leaves same, of_set Op.Difference, of_set Op.Union, leaves_count b B Q)
