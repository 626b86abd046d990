-- The laws of specs/Algebra: a made list has the leaves that its table says, so two ways with the same table make the same list.
use mathlib.Core.Path.{◌≡◌, refl, sym, ap₂, ◌∙◌}
use mathlib.Core.Logic.{⊎_elim}
use mathlib.Core.Bool.{Bool, true, false, beq, and-eq-true_iff}
use mathlib.Core.List.{List, [], ◌∷◌}
use Prim.Native.Nat.{ℕ, ◌≤◌, ◌<◌}
use lib.Dec.{ltb}
use borrow.Author.Tests.{ltb-true, ltb-false}
use Rattle.cellid.specs.CellId.{Cell}
use Rattle.cellid.proofs.Laws.{same_bool}
use Rattle.order.specs.Order.{All, sort}
use Rattle.order.proofs.OrderLaws.{which}
use Rattle.cellunion.specs.CellUnion.{covers, pass, rev, normalise}
use Rattle.cellunion.proofs.Norm.{normalise_same, normalise_again}
use Rattle.ranges.specs.Ranges.{leaves}
use Rattle.ranges.proofs.Inputs.{covers_end}
use Rattle.cellunion.proofs.Lists.{covers_nil}
use Rattle.ranges.proofs.Examples.{faces_cells, faces_leaves, faces_normal}
use Rattle.sets.specs.Sets.{wants}
use Rattle.sets.specs.Algebra.{Made, first, second, third, none, whole, by, made_list, test, agree, alike, laws, all_alike}
use Rattle.sets.specs.declared.Op.{Op}
use Rattle.sets.proofs.Laws.{set_leaves, set_normal}

agree_at : (s t : Made) (x y z : Bool) → agree s t x y ≡ true → test s x y z ≡ test t x y z
unfolding agree
agree_at s t x y true h = same_bool _ _ ((and-eq-true_iff _ (beq (test s x y false) (test t x y false))).0 h).0
agree_at s t x y false h = same_bool _ _ ((and-eq-true_iff (beq (test s x y true) (test t x y true)) _).0 h).1

alike_at : (s t : Made) (x y z : Bool) → alike s t ≡ true → test s x y z ≡ test t x y z
unfolding alike
alike_at s t x y z h =
    let p = (and-eq-true_iff (agree s t true true) _).0 h in
    let q = (and-eq-true_iff (agree s t true false) _).0 p.1 in
    let r = (and-eq-true_iff (agree s t false true) (agree s t false false)).0 q.1 in
    at x y p.0 q.0 r.0 r.1
  where
    at : (x y : Bool) → agree s t true true ≡ true → agree s t true false ≡ true → agree s t false true ≡ true → agree s t false false ≡ true → test s x y z ≡ test t x y z
    at true true a b c d = agree_at s t true true z a
    at true false a b c d = agree_at s t true false z b
    at false true a b c d = agree_at s t false true z c
    at false false a b c d = agree_at s t false false z d

module _ (a b c : List ℕ) (A : All Cell a) (B : All Cell b) (C : All Cell c) where
  made_cells : (m : Made) → All Cell (made_list a b c m)
  unfolding made_list All
  made_cells first = A
  made_cells second = B
  made_cells third = C
  made_cells none = tt
  made_cells whole = faces_cells
  made_cells (by op s t) = (set_normal op (made_list a b c s) (made_list a b c t) (made_cells s) (made_cells t)).cells

  -- a made list has the leaves that its table says
  pub made_leaves : (m : Made) (n : ℕ) → n < leaves → covers (made_list a b c m) n ≡ test m (covers a n) (covers b n) (covers c n)
  unfolding made_list test
  made_leaves first n h = refl
  made_leaves second n h = refl
  made_leaves third n h = refl
  made_leaves none n h = covers_nil n
  made_leaves whole n h = faces_leaves n h
  made_leaves (by op s t) n h = set_leaves op (made_list a b c s) (made_list a b c t) (made_cells s) (made_cells t) n ∙ ap₂ (wants op) (made_leaves s n h) (made_leaves t n h)

  -- what is made of two is normal already ..
  pub made_normal : (op : Op) (s t : Made) → normalise (made_list a b c (by op s t)) ≡ made_list a b c (by op s t)
  unfolding made_list
  made_normal op s t = normalise_again _ (set_normal op (made_list a b c s) (made_list a b c t) (made_cells s) (made_cells t))

  -- .. as are none, and the whole sphere
  pub none_normal : normalise (made_list a b c none) ≡ made_list a b c none
  unfolding made_list normalise sort pass rev
  none_normal = refl

  pub whole_normal : normalise (made_list a b c whole) ≡ made_list a b c whole
  unfolding made_list
  whole_normal = faces_normal

  -- two ways with the same table make the same list
  pub made_same : (s t : Made) → alike s t ≡ true → normalise (made_list a b c s) ≡ normalise (made_list a b c t)
  made_same s t h = normalise_same (made_list a b c s) (made_list a b c t) (made_cells s) (made_cells t) (λ n. ⊎_elim
      (λ (u : ltb n leaves ≡ true). let g : n < leaves = ltb-true _ _ u in made_leaves s n g ∙ alike_at s t (covers a n) (covers b n) (covers c n) h ∙ sym (made_leaves t n g))
      (λ (u : ltb n leaves ≡ false). let g : leaves ≤ n = ltb-false _ _ u in covers_end (made_list a b c s) (made_cells s) n g ∙ sym (covers_end (made_list a b c t) (made_cells t) n g))
      (which (ltb n leaves)))

-- ---- the laws

laws_alike : all_alike laws ≡ true
unfolding alike agree test wants all_alike
laws_alike = refl

rows_same : (a b c : List ℕ) → All Cell a → All Cell b → All Cell c → (l : List (Made × Made)) → all_alike l ≡ true → All (λ (r : Made × Made). normalise (made_list a b c r.0) ≡ normalise (made_list a b c r.1)) l
unfolding All all_alike
rows_same a b c A B C [] h = tt
rows_same a b c A B C (r ∷ l) h = let q = (and-eq-true_iff (alike r.0 r.1) (all_alike l)).0 h in (made_same a b c A B C r.0 r.1 q.0, rows_same a b c A B C l q.1)

pub laws_hold : (a b c : List ℕ) → All Cell a → All Cell b → All Cell c → All (λ (r : Made × Made). normalise (made_list a b c r.0) ≡ normalise (made_list a b c r.1)) laws
laws_hold a b c A B C = rows_same a b c A B C laws laws_alike
