-- The queue's order decides every pair of cells, in either edition; and the queue in memory, a record for each cell: inserting by the records' words is inserting by that order.
use mathlib.Core.Path.{◌≡◌, refl, sym, ap, ◌∙◌, subst}
use mathlib.Core.Bool.{Bool, true, false}
use mathlib.Core.Logic.{⊎_elim, by_cases}
use mathlib.Core.List.{List, [], ◌∷◌, map}
use Prim.Native.Nat.{ℕ, suc, ◌+◌, ◌*◌, ◌≤◌, ◌<◌}
use native.Mathlib.Nat.{suc-mul, mul-le-mul_right}
use native.Mathlib.Omega.{arith}
use native.Mathlib.Decide.{dec_lt}
use lib.Dec.{ltb, eqb}
use lib.Count.{ones}
use lib.ListN.{get_or}
use borrow.Author.Tests.{ltb-false}
use Rattle.cellid.specs.CellId.{level_of}
use Rattle.order.specs.Order.{Order, All, insert}
use Rattle.order.specs.Lex.{first, lexb}
use Rattle.order.proofs.LexLaws.{first_lt, first_gt, first_eq, by_key}
use Rattle.order.proofs.OrderLaws.{which, insert_past, insert_front}
use Rattle.run.specs.Run.{cost_of, Grown, full, depth, expansion_of, cost, level_mod, edition, by_id, level_key, by_level, by_edition, Task}
use Rattle.run.specs.Editions.{weight, cost_in}
use Rattle.run.specs.Masks.{found}
use Rattle.run.specs.declared.Request.{Request}
use Rattle.run.proofs.Counts.{found_counted, counts_most}

-- a map that keeps the order carries insertion over
pub map_insert : {A B : Type 0} (lt : A → A → Bool) (lt' : B → B → Bool) (rec : A → B) (x : A) (l : List A) → All (λ (y : A). lt y x ≡ lt' (rec y) (rec x)) l
    → map rec (insert lt x l) ≡ insert lt' (rec x) (map rec l)
unfolding insert All
map_insert lt lt' rec x [] a = refl
map_insert lt lt' rec x (y ∷ l) a = ⊎_elim
    (λ (e : lt y x ≡ true). ap (map rec) (insert_past lt x y l e) ∙ ap (λ t. rec y ∷ t) (map_insert lt lt' rec x l a.1) ∙ sym (insert_past lt' (rec x) (rec y) (map rec l) (sym a.0 ∙ e)))
    (λ (e : lt y x ≡ false). ap (map rec) (insert_front lt x y l e) ∙ sym (insert_front lt' (rec x) (rec y) (map rec l) (sym a.0 ∙ e)))
    (which (lt y x))

-- ---- numbers side by side are compared as one number, where the second ones lie less than m apart

pub shifted : (x y c d : ℕ) (r : Bool) → x ≡ y → first (x + c) (y + d) r ≡ first c d r
shifted x y c d r e = by_cases (dec_lt c d)
    (λ h. first_lt (x + c) (y + d) r (omega arith) ∙ sym (first_lt c d r h))
    (λ h. by_cases (dec_lt d c)
    (λ k. first_gt (x + c) (y + d) r (omega arith) ∙ sym (first_gt c d r k))
    (λ k. first_eq (x + c) (y + d) r (omega arith) (omega arith) ∙ sym (first_eq c d r (omega arith) (omega arith))))

-- one more in front outweighs whatever follows
pub outweighs : (m a b c d : ℕ) → a < b → c < m + d → a * m + c < b * m + d
outweighs m a b c d h k = let g : suc a * m ≤ b * m = mul-le-mul_right m h in omega (arith, suc-mul a m)

pub digits : (m a b c d : ℕ) (r : Bool) → c < m + d → d < m + c → first (a * m + c) (b * m + d) r ≡ first a b (first c d r)
digits m a b c d r h k = by_cases (dec_lt a b)
    (λ l. first_lt _ _ r (outweighs m a b c d l h) ∙ sym (first_lt a b _ l))
    (λ l. by_cases (dec_lt b a)
    (λ g. first_gt _ _ r (outweighs m b a d c g k) ∙ sym (first_gt a b _ g))
    (λ g. let z : a ≡ b = omega arith in
    shifted (a * m) (b * m) c d r (ap (λ (n : ℕ). n * m) z) ∙ sym (first_eq a b _ (omega arith) (omega arith))))

-- level, children and terminals, where no count reaches m
level_digits : (m l c t l' c' t' : ℕ) (r : Bool) → c < m → t < m → c' < m → t' < m → first (cost_of m l c t) (cost_of m l' c' t') r ≡ first l l' (first c c' (first t t' r))
unfolding cost_of
level_digits m l c t l' c' t' r hc ht hc' ht' = digits m (l * m + c) (l' * m + c') t t' r (omega arith) (omega arith) ∙ digits m l l' c c' (first t t' r) (omega arith) (omega arith)

-- what follows equal ids and places makes no difference
tail_two : (i j f g : ℕ) (r : Bool) → (i ≡ j → r ≡ false) → first i j (first f g false) ≡ first i j (first f g r)
unfolding first
tail_two i j f g r h = ⊎_elim
    (λ (e : ltb i j ≡ true). rw (e, first))
    (λ (e : ltb i j ≡ false). ⊎_elim
    (λ (d : ltb j i ≡ true). rw (e, d, first))
    (λ (d : ltb j i ≡ false). let a : j ≤ i = ltb-false _ _ e in let b : i ≤ j = ltb-false _ _ d in let z : i ≡ j = omega arith in rw (h z))
    (which (ltb j i)))
    (which (ltb i j))

self : (p t : ℕ) → lexb (p ∷ t ∷ []) (p ∷ t ∷ []) ≡ false
unfolding lexb
self p t = first_eq p p _ (omega arith) (omega arith) ∙ first_eq t t false (omega arith) (omega arith)

module _ (T : Task) where
  -- the order of a request's edition is one of the two
  second_edition : eqb (edition T.asked) 2 ≡ true → by_edition T ≡ by_level T
  unfolding by_edition
  second_edition e = let p : (a b : Grown) → by_edition T a b ≡ by_level T a b = λ a b. rw (by_edition, e) in λ k a b. p a b k

  pub first_edition : eqb (edition T.asked) 2 ≡ false → by_edition T ≡ by_id T
  unfolding by_edition
  first_edition e = let p : (a b : Grown) → by_edition T a b ≡ by_id T a b = λ a b. rw (by_edition, e) in λ k a b. p a b k

  -- "The order still decides every pair": of two cells that differ, one goes before the other
  told : (i j : ℕ) (key : Grown → List ℕ) → ((c : Grown) → get_or (key c) i 0 ≡ c.id) → ((c : Grown) → get_or (key c) j 0 ≡ c.from) → (a b : Grown) → key a ≡ key b → a ≡ b
  told i j key id from a b e =
      let part : ℕ → List ℕ → ℕ = λ n l. get_or l n 0 in
      λ k. record { from = (sym (from a) ∙ ap (part j) e ∙ from b) k; id = (sym (id a) ∙ ap (part i) e ∙ id b) k }

  pub by_id_decides : Order (by_id T)
  unfolding by_id
  by_id_decides = let key : Grown → List ℕ = λ c. cost T c.id ∷ c.id ∷ c.from ∷ [] in by_key key (told 1 2 key (λ c. refl) (λ c. refl))

  by_level_decides : Order (by_level T)
  unfolding by_level level_key
  by_level_decides = by_key (level_key T) (told 3 4 (level_key T) (λ c. refl) (λ c. refl))

  pub edition_decides : Order (by_edition T)
  edition_decides = ⊎_elim
      (λ (e : eqb (edition T.asked) 2 ≡ true). subst Order (sym (second_edition e)) by_level_decides)
      (λ (e : eqb (edition T.asked) 2 ≡ false). subst Order (sym (first_edition e)) by_id_decides)
      (which (eqb (edition T.asked) 2))

  -- the two sets of a queued cell
  abbrev pub present_of : ℕ → ℕ
  present_of id = (found T (depth T.asked id) id).present

  abbrev pub terminal_of : ℕ → ℕ
  terminal_of id = (found T (depth T.asked id) id).terminal

  -- the cost is that of the sets' counts
  pub cost_sets : (id : ℕ) → cost_of (weight T.asked) (level_of id) (ones (present_of id)) (ones (terminal_of id)) ≡ cost_in T id
  unfolding cost_in expansion_of
  cost_sets id = let k = found_counted T (depth T.asked id) id in rw (k.present, k.terminal)

  sets_same : (i j : ℕ) → i ≡ j → lexb (present_of i ∷ terminal_of i ∷ []) (present_of j ∷ terminal_of j ∷ []) ≡ false
  sets_same i j e = rw e (self (present_of j) (terminal_of j))

  -- what a record tells of a cell, in the order of its key
  abbrev pub words_of : Grown → List ℕ
  words_of c = cost_in T c.id ∷ c.id ∷ c.from ∷ present_of c.id ∷ terminal_of c.id ∷ []

  -- the sets behind id and place make no difference
  with_sets : (y x : Grown) → lexb (cost_in T y.id ∷ y.id ∷ y.from ∷ []) (cost_in T x.id ∷ x.id ∷ x.from ∷ []) ≡ lexb (words_of y) (words_of x)
  unfolding lexb
  with_sets y x = ap (first (cost_in T y.id) (cost_in T x.id)) (tail_two y.id x.id y.from x.from _ (sets_same y.id x.id))

  -- either edition's order is that of the costs in it, then of ids and places
  by_level_cost : 0 < level_mod T.asked → eqb (edition T.asked) 2 ≡ true → (y x : Grown)
      → by_level T y x ≡ lexb (cost_in T y.id ∷ y.id ∷ y.from ∷ []) (cost_in T x.id ∷ x.id ∷ x.from ∷ [])
  unfolding by_level level_key lexb cost_in weight
  by_level_cost h e y x =
      let m : full T.asked < weight T.asked = rw (weight, e) (omega arith) in
      let a = counts_most T h y.id in
      let b = counts_most T h x.id in
      sym (level_digits (weight T.asked) (level_of y.id) _ _ (level_of x.id) _ _ _ (omega (arith, m, a.0)) (omega (arith, m, a.1)) (omega (arith, m, b.0)) (omega (arith, m, b.1)))

  by_id_cost : eqb (edition T.asked) 2 ≡ false → (y x : Grown)
      → by_id T y x ≡ lexb (cost_in T y.id ∷ y.id ∷ y.from ∷ []) (cost_in T x.id ∷ x.id ∷ x.from ∷ [])
  unfolding by_id cost cost_in weight
  by_id_cost e y x = rw (by_id, cost_in, weight, e)

  -- by the request's edition, or by the words of the records: the same
  same_order : 0 < level_mod T.asked → (y x : Grown) → by_edition T y x ≡ lexb (words_of y) (words_of x)
  same_order h y x = ⊎_elim
      (λ (e : eqb (edition T.asked) 2 ≡ true). ap (λ (lt : Grown → Grown → Bool). lt y x) (second_edition e) ∙ by_level_cost h e y x ∙ with_sets y x)
      (λ (e : eqb (edition T.asked) 2 ≡ false). ap (λ (lt : Grown → Grown → Bool). lt y x) (first_edition e) ∙ by_id_cost e y x ∙ with_sets y x)
      (which (eqb (edition T.asked) 2))

  -- for any records of cells of which P holds, and any order of records by those words
  module _ (h : 0 < level_mod T.asked) {R : Type 0} (rec : Grown → R) (less : R → R → Bool) (P : Grown → Type 0) (is : (y x : Grown) → P y → P x → less (rec y) (rec x) ≡ lexb (words_of y) (words_of x)) where
    alike : (x : Grown) → P x → (l : List Grown) → All P l → All (λ (y : Grown). by_edition T y x ≡ less (rec y) (rec x)) l
    unfolding All
    alike x p [] a = tt
    alike x p (y ∷ l) a = (same_order h y x ∙ sym (is y x a.0 p), alike x p l a.1)

    pub queue_more : (x : Grown) (l : List Grown) → P x → All P l → map rec (insert (by_edition T) x l) ≡ insert less (rec x) (map rec l)
    queue_more x l p a = map_insert (by_edition T) less rec x l (alike x p l a)

-- ---- what a child weighs

pub weight_second : (q : Request) → eqb (edition q) 2 ≡ true → weight q ≡ full q + 1
unfolding weight
weight_second q e = rw (weight, e)

pub weight_first : (q : Request) → eqb (edition q) 2 ≡ false → weight q ≡ full q
unfolding weight
weight_first q e = rw (weight, e)
