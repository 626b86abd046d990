-- Request n in the paper's words, of any list and any pairs that may come in.
use mathlib.Core.Path.{◌≡◌, sym, ap, ◌∙◌, subst}
use mathlib.Core.Logic.{⊎_elim}
use mathlib.Core.Bool.{Bool, true, false}
use mathlib.Core.List.{List, [], ◌∷◌}
use Prim.Native.Nat.{ℕ, ◌+◌, ◌*◌, ◌≤◌}
use native.Mathlib.Omega.{arith}
use lib.ListN.{length}
use Rattle.cellid.specs.CellId.{first_leaf, last_leaf}
use Rattle.order.proofs.OrderLaws.{which}
use Rattle.cellunion.specs.CellUnion.{covers, SameLeaves, Normal, normalise, is_list}
use Rattle.denorm.specs.Denorm.{denormalise}
use Rattle.cellunion.proofs.Unique.{normal_unique}
use Rattle.cellunion.proofs.Lists.{is_list_lem}
use Rattle.denorm.proofs.Laws.{denormalise_laws, denormalise_leaves, denormalise_apart}
use Rattle.ranges.specs.Ranges.{leaves, joins, is_pairs, in_pairs, pair_before, pairs_of, cells_of}
use Rattle.ranges.specs.Stretches.{stretches, pair}
use Rattle.ranges.proofs.Stretches.{stretches_same, cells_leaves, cells_normal, cells_are}
use Rattle.ranges.proofs.Inputs.{covers_end, pairs_past, list_stretches, each_cells, pairs_ruled, pairs_leaves, pairs_again}

-- ---- a list's pairs

module _ (l : List ℕ) (t : is_list l ≡ true) where
  -- "The pairs hold exactly the list's leaves"
  pub list_leaves : (n : ℕ) → in_pairs (pairs_of l) n ≡ covers l n
  list_leaves n = ap (λ (ps : List ℕ). in_pairs ps n) (list_stretches l t) ∙ pairs_leaves (covers l) (covers_end l ((is_list_lem l).0 t).0) n

  -- "ascending, none joinable"
  pub list_ruled : is_pairs (pairs_of l) ≡ true
  list_ruled = ap is_pairs (list_stretches l t) ∙ pairs_ruled (covers l)

before_few : (first last : ℕ) (ps : List ℕ) → length (pair_before first last ps) ≤ 2 + length ps
unfolding pair_before
before_few first last [] = omega arith
before_few first last (next ∷ ps) = ⊎_elim
    (λ (t : joins last next ≡ true). rw (pair_before, t) (omega arith))
    (λ (t : joins last next ≡ false). rw (pair_before, t) (omega arith))
    (which (joins last next))

-- an output of two words for each cell has always room
pub pairs_short : (l : List ℕ) → length (pairs_of l) ≤ 2 * length l
unfolding pairs_of
pairs_short [] = omega arith
pairs_short (x ∷ l) = omega (arith, before_few (first_leaf x) (last_leaf x) (pairs_of l), pairs_short l)

-- "there is just one such pair list for a set of leaves": no two ..
pub pairs_unique : (p q : List ℕ) → is_pairs p ≡ true → is_pairs q ≡ true → ((n : ℕ) → in_pairs p n ≡ in_pairs q n) → p ≡ q
pairs_unique p q P Q same = sym (pairs_again p P) ∙ stretches_same pair (in_pairs p) (in_pairs q) same ∙ pairs_again q Q

-- .. and one for every set
pub pairs_there : (f : ℕ → Bool) → ((n : ℕ) → leaves ≤ n → f n ≡ false) → (is_pairs (stretches pair f) ≡ true) × ((n : ℕ) → in_pairs (stretches pair f) n ≡ f n)
pairs_there f z = (pairs_ruled f, pairs_leaves f z)

-- so whatever keeps the rules and holds the list's leaves is the answer
pub list_pairs_only : (l ps : List ℕ) → is_list l ≡ true → is_pairs ps ≡ true → ((n : ℕ) → in_pairs ps n ≡ covers l n) → ps ≡ pairs_of l
list_pairs_only l ps t r same = pairs_unique ps (pairs_of l) r (list_ruled l t) (λ n. same n ∙ sym (list_leaves l t n))

-- and lists of the same ground have the same pairs
pub same_pairs : (a b : List ℕ) → is_list a ≡ true → is_list b ≡ true → SameLeaves a b → pairs_of a ≡ pairs_of b
same_pairs a b s t same = list_pairs_only b (pairs_of a) t (list_ruled a s) (λ n. list_leaves a s n ∙ same n)

-- so the pairs of a covering are those of the normalised list that it is made from
pub final_pairs : (low step : ℕ) (l : List ℕ) → is_list l ≡ true → pairs_of (denormalise low step l) ≡ pairs_of l
final_pairs low step l t =
    let T = (is_list_lem l).0 t in
    let D = (is_list_lem (denormalise low step l)).1 ((denormalise_laws low step l T.0).cells, denormalise_apart low step l T.0 T.1) in
    same_pairs (denormalise low step l) l D t (denormalise_leaves low step l T.0)

-- ---- the cells of pairs

module _ (ps : List ℕ) (t : is_pairs ps ≡ true) where
  past : (n : ℕ) → leaves ≤ n → in_pairs ps n ≡ false
  past n h = pairs_past 1 ps n t h

  -- the cells hold exactly the pairs' leaves ..
  pub cells_held : (n : ℕ) → covers (cells_of ps) n ≡ in_pairs ps n
  cells_held n = ap (λ (l : List ℕ). covers l n) (each_cells ps t) ∙ cells_leaves (in_pairs ps) past n

  -- .. in a normalised list ..
  pub cells_normalised : Normal (cells_of ps)
  cells_normalised = subst Normal (sym (each_cells ps t)) (cells_normal (in_pairs ps) past)

  -- .. and no other normalised list does
  pub cells_only : (l : List ℕ) → Normal l → ((n : ℕ) → covers l n ≡ in_pairs ps n) → l ≡ cells_of ps
  cells_only l N same = normal_unique l (cells_of ps) N cells_normalised (λ n. same n ∙ sym (cells_held n))

-- ---- there and back

-- "back into the normalised list"
pub there_and_back : (l : List ℕ) → is_list l ≡ true → cells_of (pairs_of l) ≡ normalise l
there_and_back l t =
    let T = (is_list_lem l).0 t in
    each_cells (pairs_of l) (list_ruled l t) ∙ cells_are (in_pairs (pairs_of l)) (λ n h. pairs_past 1 (pairs_of l) n (list_ruled l t) h) l T.0 (λ n. sym (list_leaves l t n))

cells_listed : (ps : List ℕ) → is_pairs ps ≡ true → is_list (cells_of ps) ≡ true
cells_listed ps t = let N = cells_normalised ps t in (is_list_lem (cells_of ps)).1 (N.cells, N.apart)

pub back_and_there : (ps : List ℕ) → is_pairs ps ≡ true → pairs_of (cells_of ps) ≡ ps
back_and_there ps t = sym (list_pairs_only (cells_of ps) ps (cells_listed ps t) t (λ n. sym (cells_held ps t n)))
