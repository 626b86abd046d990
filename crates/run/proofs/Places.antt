-- The place in the queue's order changes nothing that paper 01's run tells: by cost and id alone it refuses with the same number, or keeps the same ids in as many
-- steps with the same set-aside total. Each of the two runs is laid beside one without places, where two cells of one id are one.
use mathlib.Core.Path.{◌≡◌, refl, sym, ap, ◌∙◌, subst}
use mathlib.Core.Bool.{Bool, true, false}
use mathlib.Core.Logic.{⊎_elim}
use mathlib.Core.List.{List, [], ◌∷◌, ◌++◌, map, map-map, map-append}
use Prim.Native.Nat.{ℕ, zero, suc}
use lib.Dec.{ltb, eqb}
use lib.ListN.{length, length-map, get_or}
use Rattle.refusal.specs.declared.Refusal.{Refusal}
use Rattle.order.specs.Order.{Order, Le, insert, sort, Sorted}
use Rattle.order.specs.Lex.{first, lexb}
use Rattle.order.proofs.LexLaws.{by_key}
use Rattle.order.proofs.OrderLaws.{which, all_weak, insert_past, insert_front, insert_comm}
use Rattle.order.proofs.SortLaws.{insert_sorted, sorted_sort}
use Rattle.run.specs.Run.{Task, ◌by◌, Grown, Child, State, Outcome, refused, going, then, Look, fails, none, terminal, divide, is_empty, look, expansion_of, cost, edition, by_id, in_edition, keep, enqueue, set_aside, add, is_full, add_all, lifts, is_handed_on, step_with, step_on, step, start_as, start_all, placed, nothing, after, loop, run, raw_ids, aside_total, leaves_of, queue_most, raw_most}
use Rattle.run.specs.declared.Request.{Request}
use Rattle.run.specs.Places.{by_id_alone}
use Rattle.run.proofs.Lists.{Fares, if_ok, if_two, all_of, all_map, sum_map}
use Rattle.run.proofs.Records.{map_insert, by_id_decides, first_edition}
use Rattle.run.proofs.Rows.{row_of}

-- ---- without places

abbrev id_of : Grown → ℕ
id_of c = c.id

abbrev bare_cell : ℕ → Grown
bare_cell id = record { from = 0; id = id }

abbrev pub bare_of : Grown → Grown
bare_of c = bare_cell c.id

abbrev bare : State → State
bare s = record { raw = map bare_of s.raw; queue = map bare_of s.queue; aside = map bare_of s.aside; steps = s.steps }

empty_map : {A B : Type 0} (f : A → B) (l : List A) → is_empty l ≡ is_empty (map f l)
unfolding is_empty
empty_map f [] = refl
empty_map f (x ∷ l) = refl

bare_aside : (q : Request) (i : ℕ) (l : List ℕ) (s : State) → set_aside q 0 l (bare s) ≡ bare (set_aside q i l s)
unfolding set_aside
bare_aside q i l s = if_two (λ (x u : State). u ≡ bare x) q.inner refl
    (λ t. refl)
    (λ t. ap (λ (k : List Grown). record { raw = map bare_of s.raw; queue = map bare_of s.queue; aside = k; steps = s.steps })
    (ap (λ (k : List Grown). map bare_of s.aside ++ k) (sym (map-map bare_of (λ (x : ℕ). record { from = i; id = x }) l)) ∙ sym (map-append bare_of s.aside (map (λ (x : ℕ). record { from = i; id = x }) l))))

-- ---- a run by any order `lt`, and beside it the run by `alone` without places: a fact of queues that inserting and taking keep, and under which inserting is the
-- same in both

-- a cell that is queued: it has children, and isn't kept in their place
pub record Waits (T : Task) (c : Grown) : Type 0 where
  pub some : is_empty (expansion_of T c.id).children ≡ false
  pub split : lifts T c.id ≡ false

module _ (T : Task) (alone lt : Grown → Grown → Bool) (Good : List Grown → Type 0) (empty : Good []) (rest : (c : Grown) (l : List Grown) → Good (c ∷ l) → Good l)
    (more : (c : Grown) (l : List Grown) → Waits T c → Good l → Good (insert lt c l)) (same : (c : Grown) (l : List Grown) → Waits T c → Good l → insert alone (bare_of c) (map bare_of l) ≡ map bare_of (insert lt c l)) where
  abbrev Mirrors : Outcome → Outcome → Type 0
  Mirrors o u = Fares (λ (s : State). Good s.queue × (u ≡ going (bare s))) (λ (r : Refusal). u ≡ refused r) o

  then_mirrors : (o u : Outcome) (f g : State → Outcome) → Mirrors o u → ((s : State) → Good s.queue → Mirrors (f s) (g (bare s))) → Mirrors (then o f) (then u g)
  unfolding Fares then
  then_mirrors (refused r) u f g h k = ap (λ (x : Outcome). then x g) h
  then_mirrors (going s) u f g h k = subst (λ (x : Outcome). Mirrors (f s) (then x g)) (sym h.1) (k s h.0)

  keep_mirrors : (c : Grown) (s : State) → Good s.queue → Mirrors (keep c s) (keep (bare_of c) (bare s))
  unfolding keep Fares
  keep_mirrors c s h = if_two Mirrors (ltb (length s.raw) raw_most) (ap (λ (n : ℕ). ltb n raw_most) (sym (length-map s.raw bare_of)))
      (λ t. (h, ap (λ (k : List Grown). going (record { raw = k; queue = map bare_of s.queue; aside = map bare_of s.aside; steps = s.steps })) (sym (map-append bare_of s.raw (c ∷ [])))))
      (λ t. refl)

  enqueue_mirrors : (c : Grown) (s : State) → Waits T c → Good s.queue → Mirrors (enqueue lt c s) (enqueue alone (bare_of c) (bare s))
  unfolding enqueue Fares
  enqueue_mirrors c s w h = if_two Mirrors (ltb (length s.queue) queue_most) (ap (λ (n : ℕ). ltb n queue_most) (sym (length-map s.queue bare_of)))
      (λ t. (more c s.queue w h, ap (λ (k : List Grown). going (record { raw = map bare_of s.raw; queue = k; aside = map bare_of s.aside; steps = s.steps })) (same c s.queue w h)))
      (λ t. refl)

  aside_mirrors : (i : ℕ) (l : List ℕ) (s : State) → Good s.queue → Mirrors (going (set_aside T.asked i l s)) (going (set_aside T.asked 0 l (bare s)))
  unfolding set_aside Fares
  aside_mirrors i l s h = (if_ok (λ (x : State). Good x.queue) T.asked.inner _ _ (λ t. h) (λ t. h), ap going (bare_aside T.asked i l s))

  add_mirrors : (c : Grown) (ends : Bool) (s : State) → Good s.queue → Mirrors (add (T by lt) c ends s) (add (T by alone) (bare_of c) ends (bare s))
  unfolding add
  add_mirrors c true s h = keep_mirrors c s h
  add_mirrors c false s h = if_two Mirrors (is_empty (expansion_of T c.id).children) refl
      (λ t. aside_mirrors c.from (expansion_of T c.id).failed s h)
      (λ t. if_two Mirrors (lifts T c.id) refl (λ u. keep_mirrors c s h) (λ u. enqueue_mirrors c s (record { some = t; split = u }) h))

  full_mirrors : (s : State) → is_full T.asked s ≡ is_full T.asked (bare s)
  unfolding is_full
  full_mirrors s = rw (length-map s.raw bare_of)

  add_all_mirrors : (i : ℕ) (l : List Child) (s : State) → Good s.queue → Mirrors (add_all (T by lt) i l s) (add_all (T by alone) 0 l (bare s))
  unfolding add_all Fares
  add_all_mirrors i [] s h = (h, refl)
  add_all_mirrors i (k ∷ l) s h = if_two Mirrors (is_full T.asked s) (full_mirrors s)
      (λ t. add_all_mirrors i l s h)
      (λ t. then_mirrors _ _ _ _ (add_mirrors (record { from = i; id = k.id }) k.ends s h) (add_all_mirrors i l))

  handed_mirrors : (c : Grown) (s : State) → is_handed_on T c s ≡ is_handed_on T (bare_of c) (bare s)
  unfolding is_handed_on
  handed_mirrors c s = rw (length-map s.raw bare_of, length-map s.queue bare_of)

  with_mirrors : (c : Grown) (s : State) → Good s.queue → Mirrors (step_with (T by lt) c s) (step_with (T by alone) (bare_of c) (bare s))
  unfolding step_with Fares then
  with_mirrors c s h =
      let e = expansion_of T c.id in
      if_two Mirrors (is_full T.asked s) (full_mirrors s)
      (λ t. (empty, refl))
      (λ t. if_two Mirrors (is_handed_on T c s) (handed_mirrors c s)
      (λ u. then_mirrors (going (set_aside T.asked c.from e.failed s)) _ (add_all (T by lt) c.from e.children) (add_all (T by alone) 0 e.children)
      (aside_mirrors c.from e.failed s h) (add_all_mirrors c.from e.children))
      (λ u. keep_mirrors c s h))

  on_mirrors : (l : List Grown) (s : State) → s.queue ≡ l → Good l → Mirrors (step_on (T by lt) l s) (step_on (T by alone) (map bare_of l) (bare s))
  unfolding step_on Fares
  on_mirrors [] s e h = (rw e h, refl)
  on_mirrors (c ∷ l) s e h = with_mirrors c (record { raw = s.raw; queue = l; aside = s.aside; steps = suc s.steps }) (rest c l h)

  start_mirrors : (v : Look) (c : Grown) (s : State) → Good s.queue → Mirrors (start_as (T by lt) v c s) (start_as (T by alone) v (bare_of c) (bare s))
  unfolding start_as Fares
  start_mirrors fails c s h = aside_mirrors c.from (c.id ∷ []) s h
  start_mirrors none c s h = (h, refl)
  start_mirrors terminal c s h = add_mirrors c true s h
  start_mirrors divide c s h = add_mirrors c false s h

  starts_mirror : (l : List Grown) (s : State) → Good s.queue → Mirrors (start_all (T by lt) l s) (start_all (T by alone) (map bare_of l) (bare s))
  unfolding start_all Fares
  starts_mirror [] s h = (h, refl)
  starts_mirror (c ∷ l) s h = then_mirrors _ _ _ _ (start_mirrors (look T c.id) c s h) (starts_mirror l)

  loop_mirrors : (a : ℕ) (s : State) → Good s.queue → Mirrors (loop (T by lt) a s) (loop (T by alone) a (bare s))
  unfolding loop step Fares
  loop_mirrors zero s h = if_two Mirrors (is_empty s.queue) (empty_map bare_of s.queue) (λ t. (h, refl)) (λ t. refl)
  loop_mirrors (suc a) s h = if_two Mirrors (is_empty s.queue) (empty_map bare_of s.queue) (λ t. (h, refl)) (λ t. then_mirrors _ _ _ _ (on_mirrors s.queue s refl h) (loop_mirrors a))

  mirrored : (o u : Outcome) → Mirrors o u → row_of o ≡ row_of u
  unfolding Fares row_of raw_ids aside_total
  mirrored (refused r) u h = sym (ap row_of h)
  mirrored (going s) u h = rw (h.1, map-map id_of bare_of s.raw, sum_map bare_of (λ (c : Grown). leaves_of c.id) s.aside)

  pub run_mirrored : (starts : List ℕ) (a : ℕ) → row_of (run (T by lt) starts a) ≡ row_of (then (start_all (T by alone) (map bare_of (placed 0 starts)) nothing) (loop (T by alone) a))
  unfolding run after
  run_mirrored starts a = mirrored _ _ (then_mirrors _ _ _ _ (starts_mirror (placed 0 starts) nothing empty) (loop_mirrors a))

-- ---- by cost and id alone, and by cost, id and place

module _ (T : Task) where
  abbrev key_of : ℕ → List ℕ
  key_of id = cost T id ∷ id ∷ []

  abbrev less : ℕ → ℕ → Bool
  less i j = lexb (key_of i) (key_of j)

  less_decides : Order less
  less_decides = by_key key_of (λ i j e. ap (λ (l : List ℕ). get_or l 1 0) e)

  bare_insert : (i : ℕ) (l : List ℕ) → map bare_cell (insert less i l) ≡ insert (by_id_alone T) (bare_cell i) (map bare_cell l)
  unfolding by_id_alone
  bare_insert i l = map_insert less (by_id_alone T) bare_cell i l (all_of _ (λ j. refl) l)

  alone_insert : (c : Grown) (l : List Grown) → insert (by_id_alone T) (bare_of c) (map bare_of l) ≡ map bare_of (insert (by_id_alone T) c l)
  unfolding by_id_alone
  alone_insert c l = sym (map_insert (by_id_alone T) (by_id_alone T) bare_of c l (all_of _ (λ d. refl) l))

  first_mono : (a b : ℕ) (r u : Bool) → (r ≡ false → u ≡ false) → first a b r ≡ false → first a b u ≡ false
  unfolding first
  first_mono a b r u h =
      let P : Bool → Bool → Type 0 = λ x y. x ≡ false → y ≡ false in
      if_two P (ltb a b) refl (λ t e. e) (λ t. if_two P (ltb b a) refl (λ d e. e) (λ d. h))

  le_ids : (x y : Grown) → Le (by_id T) x y → Le less x.id y.id
  unfolding by_id lexb
  le_ids x y = first_mono (cost T y.id) (cost T x.id) _ _ (first_mono y.id x.id _ _ (λ e. refl))

  sorted_ids : (l : List Grown) → Sorted (by_id T) l → Sorted less (map id_of l)
  unfolding Sorted
  sorted_ids [] s = tt
  sorted_ids (x ∷ l) s = (all_map id_of (Le less x.id) l (all_weak _ _ l (le_ids x) s.0), sorted_ids l s.1)

  ids_sort : (x : Grown) (l : List Grown) → sort less (map id_of (insert (by_id T) x l)) ≡ insert less x.id (sort less (map id_of l))
  unfolding insert sort
  ids_sort x [] = refl
  ids_sort x (y ∷ l) = ⊎_elim
      (λ (e : by_id T y x ≡ true). rw (insert_past (by_id T) x y l e) (ap (insert less y.id) (ids_sort x l) ∙ insert_comm less less_decides y.id x.id (sort less (map id_of l))))
      (λ (e : by_id T y x ≡ false). rw (insert_front (by_id T) x y l e))
      (which (by_id T y x))

  pub ids_insert : (x : Grown) (l : List Grown) → Sorted (by_id T) l → insert (by_id_alone T) (bare_of x) (map bare_of l) ≡ map bare_of (insert (by_id T) x l)
  ids_insert x l s =
      let own : (k : List Grown) → Sorted (by_id T) k → map id_of k ≡ sort less (map id_of k) = λ k t. sym (sorted_sort less less_decides (map id_of k) (sorted_ids k t)) in
      sym (sym (map-map bare_cell id_of (insert (by_id T) x l))
      ∙ ap (map bare_cell) (own (insert (by_id T) x l) (insert_sorted (by_id T) (by_id_decides T) x l s) ∙ ids_sort x l ∙ ap (insert less x.id) (sym (own l s)))
      ∙ bare_insert x.id (map id_of l) ∙ ap (insert (by_id_alone T) (bare_of x)) (map-map bare_cell id_of l))

  -- edition 1's run, beside the one without places
  pub id_mirrored : (starts : List ℕ) (a : ℕ) → row_of (run (T by by_id T) starts a) ≡ row_of (then (start_all (T by by_id_alone T) (map bare_of (placed 0 starts)) nothing) (loop (T by by_id_alone T) a))
  unfolding Sorted
  id_mirrored = run_mirrored T (by_id_alone T) (by_id T) (Sorted (by_id T)) tt (λ c l s. s.1) (λ c l w. insert_sorted (by_id T) (by_id_decides T) c l) (λ c l w. ids_insert c l)

  -- the number of a refusal, the raw ids, the steps and the set-aside total, in edition 1
  pub places_change_nothing : eqb (edition T.asked) 2 ≡ false → (starts : List ℕ) (a : ℕ) → row_of (run (in_edition T) starts a) ≡ row_of (run (T by by_id_alone T) starts a)
  places_change_nothing e starts a =
      ap (λ (lt : Grown → Grown → Bool). row_of (run (T by lt) starts a)) (first_edition T e)
      ∙ id_mirrored starts a
      ∙ sym (run_mirrored T (by_id_alone T) (by_id_alone T) (λ l. Unit) tt (λ c l s. tt) (λ c l w s. tt) (λ c l w s. alone_insert c l) starts a)
