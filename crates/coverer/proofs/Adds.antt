-- Adding a candidate, and the children of a taken one: the definition's cases, in the code's words.
use Rattle.std.specs.Prelude.Result.{Ok}
use mathlib.Core.Path.{◌≡◌, refl, sym, ap, ap₂, ◌∙◌, subst}
use mathlib.Core.Bool.{Bool, true, false, ◌&&◌, not}
use mathlib.Core.Logic.{⊎_elim}
use mathlib.Core.List.{List, [], ◌∷◌, ◌++◌}
use Prim.Native.Nat.{ℕ, suc, ◌+◌, ◌-◌, ◌/◌, ◌%◌, ◌^◌, ◌≤◌, ◌<◌}
use native.Mathlib.Numerals.{add-one}
use native.Mathlib.Omega.{arith}
use lib.Dec.{leb, ltb, eqb}
use lib.Count.{ones}
use lib.ListN.{length}
use borrow.Author.Tests.{ltb-true, ltb-false, eq-eqb, ne_eqb}
use Rattle.cellid.specs.CellId.{Cell, IsCell, level_of, place_of, low_bit, leaves_of}
use Rattle.cellid.proofs.Laws.{low_cell, cell_lt}
use Rattle.order.specs.Order.{All}
use Rattle.order.proofs.OrderLaws.{which}
use Rattle.region.specs.Region.{Area}
use Rattle.run.specs.declared.Request.{Request}
use Rattle.run.specs.Run.{Child, State, going, then, divide, is_empty, sum_of, full, depth, expansion_of, lifts, by_edition, keep, enqueue, set_aside, is_full, add, add_all, Task, max_level, level_mod, min_level, max_cells, memory_words, in_edition}
use Rattle.run.specs.Editions.{weight}
use Rattle.run.specs.Masks.{cons_if, children_in, found}
use Rattle.run.specs.Ground.{Domain, look_for, ChildOk, Queued}
use Rattle.run.specs.Sixes.{places_most}
use Rattle.run.proofs.Lists.{if_ok, empty_nil, sum_append, all_back, rel_eq}
use Rattle.run.proofs.Looks.{MeansBy, Means, look_means}
use Rattle.run.proofs.Leaves.{leaves_add}
use Rattle.run.proofs.Ground.{expansion_ok, low_on, high_on}
use Rattle.run.proofs.Masks.{list_turn}
use Rattle.run.proofs.Counts.{found_counted, empty_set}
use Rattle.run.proofs.Turns.{then_then, then_cong, then_going, add_none, add_lift, add_queue}
use Rattle.run.specs.declared.Found.{Found}
use Rattle.records.specs.declared.Rec.{Rec}
use Rattle.records.specs.Records.{record_of}
use Rattle.queue.specs.declared.Engine.{Engine}
use Rattle.candidate.specs.Candidate.{Asks}
use Rattle.coverer.specs.declared.Counts.{Counts}
use Rattle.coverer.specs.declared.Brood.{Brood}
use Rattle.coverer.specs.Engine.{Turn, is_in, child_at, child_if, children_from, leaves_in, aside_of, AsideUpTo, grown, rec_of, Stands, Gives, Does}
use Rattle.coverer.proofs.Stands.{raw_length, sets_aside, does_as, does_nothing, aside_le, up_to}

pub domain : (q : Request) (a : Area) → Asks q a → Domain q
domain q a A = record { order = A.order; deep = A.deep }

-- a cell's leaves are its lowest bit's weight
pub low_leaves : (id : ℕ) → IsCell id (level_of id) (place_of id) → low_bit id ≡ leaves_of id
unfolding leaves_of
low_leaves id c = low_cell id (level_of id) (place_of id) c

-- ---- a brood's children, place by place

cons_if_lem : {A : Type 0} (b : Bool) (x : A) (l : List A) → cons_if b x l ≡ cons_if b x [] ++ l
unfolding cons_if
cons_if_lem true x l = refl
cons_if_lem false x l = refl

pub children_turn : (b : Brood) (j : ℕ) → j < b.places → children_from b j ≡ child_if b j ++ children_from b (j + 1)
unfolding children_from child_if
children_turn b j h = rw (add-one j) (list_turn (child_at b) b.places b.present b.terminal j h
    ∙ cons_if_lem (is_in b.present j) (record { id = child_at b j; ends = is_in b.terminal j }) (children_in (child_at b) (b.places - suc j) (b.present / 2 ^ suc j) (b.terminal / 2 ^ suc j) (suc j)))

pub children_end : (b : Brood) (j : ℕ) → b.places ≤ j → children_from b j ≡ []
unfolding children_from children_in
children_end b j h = let z : b.places - j ≡ 0 = omega arith in rw z

all_front : {A : Type 0} (P : A → Type 0) (l r : List A) → All P (l ++ r) → All P l
unfolding All
all_front P [] r a = tt
all_front P (x ∷ l) r a = (a.0, all_front P l r a.1)

-- what is asked of the children that are left, and of the room for their leaves
pub record Waiting (P : Child → Type 0) (t : Counts) (l : List Child) : Type 0 where
  pub all : All P l
  pub room : t.aside + leaves_in l < 2 ^ 64

pub waiting_one : (P : Child → Type 0) (t : Counts) (b : Brood) (j : ℕ) → j < b.places → Waiting P t (children_from b j) → Waiting P t (child_if b j)
waiting_one P t b j h R =
    let e = children_turn b j h in
    let a : All P (child_if b j ++ children_from b (j + 1)) = subst (All P) e R.all in
    record {
      all = all_front P (child_if b j) (children_from b (j + 1)) a;
      room = omega (arith, R.room, ap leaves_in e, sum_append (λ (k : Child). leaves_of k.id) (child_if b j) (children_from b (j + 1)));
    }

pub waiting_next : (P : Child → Type 0) (t u : Counts) (b : Brood) (j : ℕ) → j < b.places → u.aside ≤ t.aside + leaves_in (child_if b j) → Waiting P t (children_from b j) → Waiting P u (children_from b (j + 1))
waiting_next P t u b j h g R =
    let e = children_turn b j h in
    let a : All P (child_if b j ++ children_from b (j + 1)) = subst (All P) e R.all in
    record {
      all = all_back P (child_if b j) (children_from b (j + 1)) a;
      room = omega (arith, R.room, ap leaves_in e, sum_append (λ (k : Child). leaves_of k.id) (child_if b j) (children_from b (j + 1)));
    }

-- a child that is there
pub child_there : (b : Brood) (j : ℕ) → is_in b.present j ≡ true → child_if b j ≡ record { id = child_at b j; ends = is_in b.terminal j } ∷ []
unfolding child_if cons_if
child_there b j e = rw (e, cons_if)

pub child_away : (b : Brood) (j : ℕ) → is_in b.present j ≡ false → child_if b j ≡ []
unfolding child_if cons_if
child_away b j e = rw (e, cons_if)

pub leaves_there : (b : Brood) (j : ℕ) → is_in b.present j ≡ true → leaves_in (child_if b j) ≡ leaves_of (child_at b j)
unfolding sum_of
leaves_there b j e = ap leaves_in (child_there b j e) ∙ omega arith

pub child_ok : (T : Task) (b : Brood) (j : ℕ) (ends : Bool) → is_in b.present j ≡ true → ends ≡ is_in b.terminal j
    → All (ChildOk T) (child_if b j) → ChildOk T (record { id = child_at b j; ends = ends })
unfolding All
child_ok T b j ends e d a =
    let one : ChildOk T (record { id = child_at b j; ends = is_in b.terminal j }) = (subst (All (ChildOk T)) (child_there b j e) a).0 in
    rw d one

pub child_id : (T : Task) (b : Brood) (j : ℕ) → is_in b.present j ≡ true → All (ChildOk T) (child_if b j) → child_at b j < 2 ^ 64
child_id T b j e a =
    let c = child_ok T b j (is_in b.terminal j) e refl a in
    omega (arith, cell_lt (child_at b j) (level_of (child_at b j)) (place_of (child_at b j)) c.fit.cell)

module _ (T : Task) (D : Domain T.asked) where
  -- ---- a candidate that is to be expanded

  pub queued : (id : ℕ) (b : Bool) → b ≡ false → ChildOk T (record { id = id; ends = b }) → Queued T id
  queued id b e C = record { fit = C.fit; seen = C.seen ∙ ap look_for e }

  -- the levels of its expansion
  pub record Below (id : ℕ) : Type 0 where
    pub high : level_of id + depth T.asked id ≤ max_level T.asked
    pub on : ((level_of id + depth T.asked id) - min_level T.asked) % level_mod T.asked ≡ 0

  pub below : (id : ℕ) → Queued T id → Below id
  unfolding depth MeansBy
  below id Q =
      let m : Means T id divide = look_means T id divide Q.seen in
      let P : ℕ → Type 0 = λ n. (level_of id + n ≤ max_level T.asked) × (((level_of id + n) - min_level T.asked) % level_mod T.asked ≡ 0) in
      let both : P (depth T.asked id) = if_ok P (ltb (level_of id) (min_level T.asked)) 1 (level_mod T.asked)
      (λ t. let l : level_of id < min_level T.asked = ltb-true _ _ t in (omega (arith, D.order), low_on (level_of id) (min_level T.asked) (level_mod T.asked) l))
      (λ t. let l : min_level T.asked ≤ level_of id = ltb-false _ _ t in (ltb-false _ _ (m.1 t), high_on (level_of id) (min_level T.asked) (level_mod T.asked) l Q.fit.on)) in
      record { high = both.0; on = both.1 }

  pub expands : (id : ℕ) → Queued T id → Cell id × (level_of id + depth T.asked id ≤ 30)
  expands id Q = ((level_of id, place_of id, Q.fit.cell), omega (arith, (below id Q).high, D.deep))

  -- no children: all its leaves failed
  none_failed : (id : ℕ) → Queued T id → is_empty (expansion_of T id).children ≡ true → T.asked.inner ≡ false → leaves_of id ≡ sum_of leaves_of (expansion_of T id).failed
  unfolding sum_of
  none_failed id Q e o =
      let x = expansion_ok T D (by_edition T) (λ i n. leaves_of n) (λ i n L p c l. leaves_add n L p c l) 0 id Q in
      let s : leaves_in (expansion_of T id).children + sum_of leaves_of (expansion_of T id).failed ≡ leaves_of id = rel_eq T.asked.inner _ _ o x.sum in
      let z : leaves_in (expansion_of T id).children ≡ 0 = ap leaves_in (empty_nil (expansion_of T id).children e) in
      omega arith

  is_empty_lem : (id : ℕ) → is_empty (expansion_of T id).children ≡ eqb (found T (depth T.asked id) id).present 0
  unfolding expansion_of
  is_empty_lem id = empty_set T (depth T.asked id) id

  lifts_is : (id : ℕ) → lifts T id ≡ (not T.asked.inner && (leb (min_level T.asked) (level_of id) && eqb (ones (found T (depth T.asked id) id).terminal) (full T.asked)))
  unfolding lifts expansion_of
  lifts_is id = rw (found_counted T (depth T.asked id) id).terminal

  -- ---- children, one after another

  pub add_all_append : (i : ℕ) (l r : List Child) (s : State) → add_all (in_edition T) i (l ++ r) s ≡ then (add_all (in_edition T) i l s) (add_all (in_edition T) i r)
  unfolding add_all then
  add_all_append i [] r s = refl
  add_all_append i (k ∷ l) r s = ⊎_elim
      (λ (e : is_full T.asked s ≡ true). rw (e, add_all) (add_all_append i l r s))
      (λ (e : is_full T.asked s ≡ false). rw (e, add_all)
      (then_cong (add (in_edition T) (grown i k.id) k.ends s) _ _ (λ x. add_all_append i l r x)
      ∙ sym (then_then (add (in_edition T) (grown i k.id) k.ends s) (add_all (in_edition T) i l) (add_all (in_edition T) i r))))
      (which (is_full T.asked s))

  pub children_then : (b : Brood) (j : ℕ) → j < b.places → (i : ℕ) (s : State) → add_all (in_edition T) i (children_from b j) s
      ≡ then (add_all (in_edition T) i (child_if b j) s) (add_all (in_edition T) i (children_from b (j + 1)))
  children_then b j h i s = ap (λ (l : List Child). add_all (in_edition T) i l s) (children_turn b j h) ∙ add_all_append i (child_if b j) (children_from b (j + 1)) s

  pub children_over : (b : Brood) (j : ℕ) → b.places ≤ j → (i : ℕ) (s : State) → add_all (in_edition T) i (children_from b j) s ≡ going s
  unfolding add_all
  children_over b j h i s = rw (children_end b j h)

module _ (E : Engine) (T : Task) (D : Domain T.asked) (i : ℕ) where
  -- ---- a candidate that is to be expanded: each way that it goes

  pub adds_none : (m : List ℕ) (t : Counts) (id n : ℕ) → Queued T id → (found T (depth T.asked id) id).present ≡ 0 → n ≡ leaves_of id
      → Does E T i (add (in_edition T) (grown i id) false) m t m (Ok (aside_of T.asked.inner t n))
  unfolding Gives
  adds_none m t id n Q z e =
      let b : is_empty (expansion_of T id).children ≡ true = is_empty_lem T D id ∙ eq-eqb _ 0 z in
      record {
        gives = λ v s S. (
          set_aside T.asked i (expansion_of T id).failed s,
          add_none T (by_edition T) (grown i id) s b,
          sets_aside E T i v m t n (expansion_of T id).failed s (λ o. e ∙ none_failed T D id Q b o) S,
        );
        frame = refl;
      }

  module _ (m : List ℕ) (t : Counts) (m' : List ℕ) (r : Turn) (id : ℕ) (some : (found T (depth T.asked id) id).present ≡ 0 → ⊥) (lift : Bool)
      (is : lift ≡ (not T.asked.inner && (leb (min_level T.asked) (level_of id) && eqb (ones (found T (depth T.asked id) id).terminal) (full T.asked)))) where
    pub adds_lifted : lift ≡ true → Does E T i (keep (grown i id)) m t m' r → Does E T i (add (in_edition T) (grown i id) false) m t m' r
    adds_lifted e = does_as E T i (keep (grown i id)) (add (in_edition T) (grown i id) false) m t m' r
        (λ v s S. add_lift T (by_edition T) (grown i id) s (is_empty_lem T D id ∙ ne_eqb _ 0 some) (lifts_is T D id ∙ sym is ∙ e))

    pub adds_queued : lift ≡ false → Does E T i (enqueue (by_edition T) (grown i id)) m t m' r
        → Does E T i (add (in_edition T) (grown i id) false) m t m' r
    adds_queued e = does_as E T i (enqueue (by_edition T) (grown i id)) (add (in_edition T) (grown i id) false) m t m' r
        (λ v s S. add_queue T (by_edition T) (grown i id) s (is_empty_lem T D id ∙ ne_eqb _ 0 some) (lifts_is T D id ∙ sym is ∙ e))

  pub adds_kept : (m : List ℕ) (t : Counts) (m' : List ℕ) (r : Turn) (id : ℕ) (b : Bool) → b ≡ true → Does E T i (keep (grown i id)) m t m' r
      → Does E T i (add (in_edition T) (grown i id) b) m t m' r
  unfolding add
  adds_kept m t m' r id b e = does_as E T i (keep (grown i id)) (add (in_edition T) (grown i id) b) m t m' r (λ v s S. rw (e, add))

  pub adds_open : (m : List ℕ) (t : Counts) (m' : List ℕ) (r : Turn) (id : ℕ) (b : Bool) → b ≡ false
      → Does E T i (add (in_edition T) (grown i id) false) m t m' r → Does E T i (add (in_edition T) (grown i id) b) m t m' r
  adds_open m t m' r id b e d = rw e d

  -- ---- a child, if there is one

  -- full: the state's results are as many as the counts say
  pub full_is : (v : ℕ → ℕ) (m : List ℕ) (t : Counts) (s : State) (f : Bool) → memory_words ≤ length m → Stands E T i v m t s → f ≡ (T.asked.inner && leb (max_cells T.asked) t.kept) → is_full T.asked s ≡ f
  unfolding is_full
  full_is v m t s f h S z = rw (raw_length E T i h S) (sym z)

  pub child_none : (m : List ℕ) (t : Counts) (b : Brood) (j : ℕ) → is_in b.present j ≡ false
      → Does E T i (add_all (in_edition T) i (child_if b j)) m t m (Ok t)
  unfolding add_all
  child_none m t b j e = does_nothing E T i (add_all (in_edition T) i (child_if b j)) m t (λ v s S. rw (child_away b j e))

  pub child_full : (m : List ℕ) (t : Counts) (b : Brood) (j : ℕ) (f : Bool) → memory_words ≤ length m → is_in b.present j ≡ true → f ≡ (T.asked.inner && leb (max_cells T.asked) t.kept) → f ≡ true
      → Does E T i (add_all (in_edition T) i (child_if b j)) m t m (Ok t)
  unfolding add_all
  child_full m t b j f h e ef t' = does_nothing E T i (add_all (in_edition T) i (child_if b j)) m t
      (λ v s S. rw (child_there b j e, add_all, full_is v m t s f h S ef ∙ t'))

  pub child_added : (m : List ℕ) (t : Counts) (m' : List ℕ) (r : Turn) (b : Brood) (j : ℕ) (f ends : Bool) → memory_words ≤ length m → is_in b.present j ≡ true → f ≡ (T.asked.inner && leb (max_cells T.asked) t.kept) → f ≡ false
      → ends ≡ is_in b.terminal j → Does E T i (add (in_edition T) (grown i (child_at b j)) ends) m t m' r
      → Does E T i (add_all (in_edition T) i (child_if b j)) m t m' r
  unfolding add_all
  child_added m t m' r b j f ends h e ef t' d = does_as E T i (add (in_edition T) (grown i (child_at b j)) ends)
      (add_all (in_edition T) i (child_if b j)) m t m' r
      (λ v s S. rw (child_there b j e, add_all, full_is v m t s f h S ef ∙ t', ← d) (then_going (add (in_edition T) (grown i (child_at b j)) ends s)))

  -- ---- adding a candidate, each way that the code goes

  module _ (m : List ℕ) (t : Counts) (id : ℕ) (b : Bool) (C : ChildOk T (record { id = id; ends = b })) where
    pub add_kept : (m' : List ℕ) (r : Turn) → b ≡ true → Does E T i (keep (grown i id)) m t m' r → AsideUpTo t.aside r
        → Does E T i (add (in_edition T) (grown i id) b) m t m' r × AsideUpTo (t.aside + leaves_of id) r
    add_kept m' r e d a = (adds_kept m t m' r id b e d, up_to t.aside _ r (omega arith) a)

    pub add_empty : (f : Found) (n : ℕ) (u : Counts) → b ≡ false → f ≡ found T (depth T.asked id) id → f.present ≡ 0 → n ≡ low_bit id → u ≡ aside_of T.asked.inner t n
        → Does E T i (add (in_edition T) (grown i id) b) m t m (Ok u) × AsideUpTo (t.aside + leaves_of id) (Ok u)
    unfolding AsideUpTo
    add_empty f n u e ef z en eu =
        let Q = queued T D id b e C in
        let l : n ≡ leaves_of id = en ∙ low_leaves id C.fit.cell in (
          adds_open m t m (Ok u) id b e (rw eu (adds_none m t id n Q (ap (λ (x : Found). x.present) (sym ef) ∙ z) l)),
          omega (arith, ap (λ (x : Counts). x.aside) eu, aside_le T.asked.inner t n),
        )

    module _ (f : Found) (lift : Bool) (n : ℕ) (m' : List ℕ) (r : Turn) (e : b ≡ false) (ef : f ≡ found T (depth T.asked id) id) (some : f.present ≡ 0 → ⊥) (all : n ≡ full T.asked)
        (is : lift ≡ (not T.asked.inner && (leb (min_level T.asked) (level_of id) && eqb (ones f.terminal) n))) where
      some_is : (found T (depth T.asked id) id).present ≡ 0 → ⊥
      some_is z = some (ap (λ (x : Found). x.present) ef ∙ z)

      lift_is : lift ≡ (not T.asked.inner && (leb (min_level T.asked) (level_of id) && eqb (ones (found T (depth T.asked id) id).terminal) (full T.asked)))
      lift_is = is ∙ ap₂ (λ (x : Found) (y : ℕ). not T.asked.inner && (leb (min_level T.asked) (level_of id) && eqb (ones x.terminal) y)) ef all

      pub add_lifted : lift ≡ true → Does E T i (keep (grown i id)) m t m' r → AsideUpTo t.aside r
          → Does E T i (add (in_edition T) (grown i id) b) m t m' r × AsideUpTo (t.aside + leaves_of id) r
      add_lifted l d a = (adds_open m t m' r id b e (adds_lifted m t m' r id some_is lift lift_is l d), up_to t.aside _ r (omega arith) a)

      pub add_queued : lift ≡ false → 0 < level_mod T.asked → i < places_most → (k : ℕ) → k ≡ weight T.asked → (x : Rec) → x ≡ record_of k i id f.present f.terminal
          → ((T : Task) (j : ℕ) → 0 < level_mod T.asked → j < places_most → x ≡ rec_of T (grown j x.id) → Does E T j (enqueue (by_edition T) (grown j x.id)) m t m' r) → AsideUpTo t.aside r
          → Does E T i (add (in_edition T) (grown i id) b) m t m' r × AsideUpTo (t.aside + leaves_of id) r
      unfolding record_of
      add_queued l some-mod placed k ek x ex d a =
          let own : x.id ≡ id = ap (λ (y : Rec). y.id) ex in
          let is-rec : x ≡ rec_of T (grown i id) = ex ∙ ap₂ (λ (y : Found) (b : ℕ). record_of b i id y.present y.terminal) ef ek in
          let q : Does E T i (enqueue (by_edition T) (grown i id)) m t m' r = subst (λ (k : ℕ). Does E T i (enqueue (by_edition T) (grown i k)) m t m' r) own (d T i some-mod placed (is-rec ∙ ap (λ (k : ℕ). rec_of T (grown i k)) (sym own))) in
          (adds_open m t m' r id b e (adds_queued m t m' r id some_is lift lift_is l q), up_to t.aside _ r (omega arith) a)
