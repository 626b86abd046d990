-- A taken record: it is handed on to its children, kept, or the end of an inner run. Over any request and any two tests.
use Rattle.std.specs.Prelude.Result.{Ok}
use mathlib.Core.Path.{◌≡◌, refl, sym, ap, ap₂, ◌∙◌, subst}
use mathlib.Core.Bool.{Bool, true, false, ◌&&◌, ◌||◌}
use mathlib.Core.Logic.{⊎_elim}
use mathlib.Core.List.{List, []}
use Prim.Native.Nat.{ℕ, ◌+◌, ◌-◌, ◌*◌, ◌/◌, ◌^◌, ◌≤◌, ◌<◌}
use native.Mathlib.Nat.{div-one, sub-zero, mul-div_cancel_left}
use native.Mathlib.Omega.{arith}
use lib.Dec.{leb, ltb, eqb}
use lib.Count.{ones, ones-le}
use lib.ListN.{length}
use lib.Pow.{pow_pos, pow_mono}
use Rattle.cellid.specs.CellId.{level_of, place_of, low_bit, bit_at, leaves_of}
use Rattle.cellid.proofs.Laws.{low_cell, bit_up, sub_mul}
use Rattle.order.specs.Order.{All}
use Rattle.order.proofs.OrderLaws.{which}
use Rattle.run.specs.declared.Request.{Request}
use Rattle.run.specs.Run.{Child, State, sum_of, depth, expand, expansion_of, by_edition, keep, set_aside, add_all, is_handed_on, step_with, raw_ids, Task, level_mod, max_cells, min_level, memory_words, in_edition}
use Rattle.run.specs.Sixes.{aside_from}
use Rattle.run.specs.Masks.{descend, children_in, found}
use Rattle.run.specs.Ground.{Domain, ChildOk, Queued}
use Rattle.run.proofs.Lists.{rel_le}
use Rattle.run.proofs.Leaves.{leaves_add}
use Rattle.run.proofs.Ground.{expansion_ok}
use Rattle.run.proofs.Masks.{found_small, found_list}
use Rattle.run.proofs.Counts.{found_counted}
use Rattle.run.proofs.Totals.{failed_total}
use Rattle.records.specs.declared.Rec.{Rec}
use Rattle.queue.specs.declared.Engine.{Engine}
use Rattle.records.specs.Records.{from_r, record_of}
use Rattle.queue.proofs.Laws.{in_queue}
use Rattle.coverer.specs.declared.Counts.{Counts}
use Rattle.coverer.specs.declared.Brood.{Brood}
use Rattle.coverer.specs.Engine.{Turn, children_from, leaves_in, brood_of, aside_of, grown, Taken, Stands, Gives, Does, hand_on}
use Rattle.coverer.proofs.Stands.{queue_length, raw_length, sets_aside, aside_in, aside_le, does_as}
use Rattle.coverer.proofs.Adds.{below, full_is, low_leaves}

brood_list : (r : Rec) (n : ℕ) → children_from (brood_of n r) 0 ≡ children_in (descend r.id n) (2 ^ (2 * n)) r.present r.terminal 0
unfolding children_from brood_of descend
brood_list r n = rw (sub-zero (2 ^ (2 * n)), div-one r.present, div-one r.terminal)

-- ---- the leaves of the places without a child

unit_is : (P U low : ℕ) → 0 < P → low ≡ P * U → low / P ≡ U
unit_is P U low h e = ap (λ (x : ℕ). x / P) e ∙ mul-div_cancel_left U h

pub depth_le : (q : Request) (id : ℕ) → 0 < level_mod q → level_mod q ≤ 3 → depth q id ≤ 3
unfolding depth
depth_le q id h g = ⊎_elim (λ (e : ltb (level_of id) (min_level q) ≡ true). rw (e, depth) (omega arith)) (λ (e : ltb (level_of id) (min_level q) ≡ false). rw (e, depth) g) (which (ltb (level_of id) (min_level q)))

pub places_le : (n : ℕ) → n ≤ 3 → 2 ^ (2 * n) ≤ 64
places_le n h = pow_mono {i = 2 * n} {j = 6} (omega arith)

-- a taken record's children are those of its cell
taken_present : (T : Task) (r : Rec) → Taken T r → r.present ≡ (found T (depth T.asked r.id) r.id).present
unfolding record_of
taken_present T r R = ap (λ (x : Rec). x.present) R.is

module _ (T : Task) (D : Domain T.asked) where
  module _ (id : ℕ) (Q : Queued T id) where
    abbrev n : ℕ
    n = depth T.asked id

    fits : level_of id + n ≤ 30
    fits = omega (arith, (below T D id Q).high, D.deep)

    -- the lowest bit's weight is as many units as there are places
    low_units : low_bit id ≡ 2 ^ (2 * n) * bit_at (level_of id + n)
    low_units = low_cell id (level_of id) (place_of id) Q.fit.cell ∙ bit_up (level_of id) n fits

    unit : low_bit id / 2 ^ (2 * n) ≡ bit_at (level_of id + n)
    unit = unit_is (2 ^ (2 * n)) (bit_at (level_of id + n)) (low_bit id) (pow_pos (2 * n)) low_units

    children_le : ones (found T n id).present ≤ 2 ^ (2 * n)
    children_le = ones-le (2 ^ (2 * n)) (found T n id).present (found_small T n id).present

    failed_is : T.asked.inner ≡ false → (2 ^ (2 * n) - ones (found T n id).present) * (low_bit id / 2 ^ (2 * n)) ≡ sum_of leaves_of (expansion_of T id).failed
    unfolding expansion_of
    failed_is o =
        let k : ones (found T n id).present ≡ length (expand T n id).children = (found_counted T n id).present in
        let B = below T D id Q in
        rw (unit, k) (sub_mul (2 ^ (2 * n)) (length (expand T n id).children) (bit_at (level_of id + n))
        ∙ ap (λ (x : ℕ). x - length (expand T n id).children * bit_at (level_of id + n)) (sym low_units ∙ low_leaves id Q.fit.cell)
        ∙ sym (failed_total T D o n id (level_of id) (place_of id) Q.fit.cell B.high B.on))

    failed_le : (k : ℕ) → (2 ^ (2 * n) - k) * (low_bit id / 2 ^ (2 * n)) ≤ leaves_of id
    failed_le k = rw (unit, sub_mul (2 ^ (2 * n)) k (bit_at (level_of id + n))) (omega (arith, low_units, low_leaves id Q.fit.cell))

    children_are : children_in (descend id n) (2 ^ (2 * n)) (found T n id).present (found T n id).terminal 0 ≡ (expansion_of T id).children
    unfolding expansion_of
    children_are = found_list T n id (level_of id) (place_of id) Q.fit.cell fits

    under_leaves : (t : Counts) (x : ℕ) → (T.asked.inner ≡ false → x ≡ sum_of leaves_of (expansion_of T id).failed)
        → (aside_of T.asked.inner t x).aside + leaves_in (expansion_of T id).children ≤ t.aside + leaves_of id
    under_leaves t x e =
        let u = expansion_ok T D (by_edition T) (λ i m. leaves_of m) (λ i m L p c l. leaves_add m L p c l) 0 id Q in
        let le : leaves_in (expansion_of T id).children + sum_of leaves_of (expansion_of T id).failed ≤ leaves_of id = rel_le T.asked.inner _ _ u.sum in
        ⊎_elim
        (λ (b : T.asked.inner ≡ true). omega (arith, ap (λ (y : Counts). y.aside) (aside_in T.asked.inner t x b)))
        (λ (b : T.asked.inner ≡ false). omega (arith, e b, aside_le T.asked.inner t x))
        (which T.asked.inner)

  -- what the code knows of a taken record and of what it makes of it
  pub record Broods (r : Rec) (m : ℕ) (k : ℕ) (b : Brood) : Type 0 where
    pub taken : Taken T r
    pub levels : m ≡ depth T.asked r.id
    pub count : k ≡ ones r.present
    pub is : b ≡ brood_of m r

  module _ (r : Rec) (m k : ℕ) (b : Brood) (B : Broods r m k b) where
    present_is : r.present ≡ (found T (depth T.asked r.id) r.id).present
    present_is = taken_present T r B.taken

    terminal_is : r.terminal ≡ (found T (depth T.asked r.id) r.id).terminal
    unfolding record_of
    terminal_is = ap (λ (x : Rec). x.terminal) B.taken.is

    places_is : b.places ≡ 2 ^ (2 * depth T.asked r.id)
    unfolding brood_of
    places_is = ap (λ (x : Brood). x.places) B.is ∙ ap (λ (x : ℕ). 2 ^ (2 * x)) B.levels

    unit_of : b.unit ≡ low_bit r.id / 2 ^ (2 * depth T.asked r.id)
    unfolding brood_of
    unit_of = ap (λ (x : Brood). x.unit) B.is ∙ ap (λ (x : ℕ). low_bit r.id / 2 ^ (2 * x)) B.levels

    count_is : k ≡ ones (found T (depth T.asked r.id) r.id).present
    count_is = B.count ∙ ap ones present_is

    pub brood_from : b.from ≡ from_r r
    unfolding brood_of
    brood_from = ap (λ (x : Brood). x.from) B.is

    pub brood_room : k ≤ b.places
    brood_room = rw (count_is, places_is) (children_le r.id B.taken.cell)

    pub brood_failed_le : (b.places - k) * b.unit ≤ leaves_of r.id
    brood_failed_le = rw (places_is, unit_of) (failed_le r.id B.taken.cell k)

    brood_failed : T.asked.inner ≡ false → (b.places - k) * b.unit ≡ sum_of leaves_of (expansion_of T r.id).failed
    brood_failed o = rw (places_is, unit_of, count_is) (failed_is r.id B.taken.cell o)

    brood_children : children_from b 0 ≡ (expansion_of T r.id).children
    brood_children =
        ap (λ (x : Brood). children_from x 0) B.is ∙ ap (λ (x : ℕ). children_from (brood_of x r) 0) B.levels ∙ brood_list r (depth T.asked r.id)
        ∙ ap₂ (λ (x y : ℕ). children_in (descend r.id (depth T.asked r.id)) (2 ^ (2 * depth T.asked r.id)) x y 0) present_is terminal_is
        ∙ children_are r.id B.taken.cell

    pub brood_places : 0 < level_mod T.asked → level_mod T.asked ≤ 3 → b.places ≤ 64
    brood_places h g = rw places_is (places_le (depth T.asked r.id) (depth_le T.asked r.id h g))

    pub brood_ok : All (ChildOk T) (children_from b 0)
    brood_ok = subst (All (ChildOk T)) (sym brood_children) (expansion_ok T D (by_edition T) (λ i x. leaves_of x) (λ i x L p c l. leaves_add x L p c l) 0 r.id B.taken.cell).children

    pub brood_leaves : (t u : Counts) → u ≡ aside_of T.asked.inner t ((b.places - k) * b.unit) → u.aside + leaves_in (children_from b 0) ≤ t.aside + leaves_of r.id
    brood_leaves t u e = rw (e, brood_children) (under_leaves r.id B.taken.cell t ((b.places - k) * b.unit) brood_failed)

    pub hands : (E : Engine) (m₁ : List ℕ) (t u : Counts) (m₂ : List ℕ) (a : Turn) → u ≡ aside_of T.asked.inner t ((b.places - k) * b.unit)
        → Does E T b.from (add_all (in_edition T) b.from (children_from b 0)) m₁ u m₂ a → Does E T (from_r r) (hand_on T (grown (from_r r) r.id)) m₁ t m₂ a
    unfolding hand_on
    hands E m₁ t u m₂ a e d =
        let i = from_r r in
        let d₁ : Does E T i (add_all (in_edition T) i (children_from b 0)) m₁ u m₂ a = subst (λ (j : ℕ). Does E T j (add_all (in_edition T) j (children_from b 0)) m₁ u m₂ a) brood_from d in
        record {
          gives = λ v s S.
              let s₁ : State = set_aside T.asked i (expansion_of T r.id).failed s in
              let S₁ : Stands E T i v m₁ u s₁ = rw e (sets_aside E T i v m₁ t ((b.places - k) * b.unit) (expansion_of T r.id).failed s brood_failed S) in
              subst (λ (l : List Child). Gives E T i v m₂ a (add_all (in_edition T) i l s₁)) brood_children (d₁.gives v s₁ S₁);
          frame = d₁.frame;
        }

-- ---- what is done with a taken record

module _ (E : Engine) (T : Task) (D : Domain T.asked) (m : List ℕ) (t : Counts) (long : memory_words ≤ length m) (f : Bool) (ef : f ≡ (T.asked.inner && leb (max_cells T.asked) t.kept)) where
  pub taken_full : (i id : ℕ) → f ≡ true
      → Does E T i (step_with (in_edition T) (grown i id)) m t m (Ok (record { kept = t.kept; queued = 0; aside = t.aside; steps = t.steps }))
  unfolding Gives step_with raw_ids aside_from All
  taken_full i id e = record {
    gives = λ v s S. (
      record { raw = s.raw; queue = []; aside = s.aside; steps = s.steps },
      rw (full_is E T D i v m t s f long S ef ∙ e, step_with),
      record { queue = (in_queue E).none m; raw = S.raw; few = omega arith; room = S.room; places = tt; aside = S.aside; others = S.others; steps = S.steps },
    );
    frame = refl;
  }

  module _ (r : Rec) (R : Taken T r) (k : ℕ) (ek : k ≡ ones r.present) (h : Bool)
      (eh : h ≡ (T.asked.inner || (ltb (level_of r.id) (min_level T.asked) || (eqb k 1 || leb (t.kept + t.queued + k) (max_cells T.asked))))) (still : f ≡ false) where
    abbrev i : ℕ
    i = from_r r

    count_children : length (expansion_of T r.id).children ≡ k
    unfolding expansion_of
    count_children = sym (ek ∙ ap ones (taken_present T r R) ∙ (found_counted T (depth T.asked r.id) r.id).present)

    hands_is : (v : ℕ → ℕ) (s : State) → Stands E T i v m t s → is_handed_on T (grown i r.id) s ≡ h
    unfolding is_handed_on
    hands_is v s S = rw (count_children, raw_length E T i long S, queue_length E T i S) (sym eh)

    pub taken_handed : (m' : List ℕ) (a : Turn) → h ≡ true → Does E T i (hand_on T (grown i r.id)) m t m' a
        → Does E T i (step_with (in_edition T) (grown i r.id)) m t m' a
    unfolding step_with hand_on
    taken_handed m' a e = does_as E T i (hand_on T (grown i r.id)) (step_with (in_edition T) (grown i r.id)) m t m' a
        (λ v s S. rw (full_is E T D i v m t s f long S ef ∙ still, step_with, hands_is v s S ∙ e))

    pub taken_kept : (m' : List ℕ) (a : Turn) → h ≡ false → Does E T i (keep (grown i r.id)) m t m' a
        → Does E T i (step_with (in_edition T) (grown i r.id)) m t m' a
    unfolding step_with
    taken_kept m' a e = does_as E T i (keep (grown i r.id)) (step_with (in_edition T) (grown i r.id)) m t m' a
        (λ v s S. rw (full_is E T D i v m t s f long S ef ∙ still, step_with, hands_is v s S ∙ e))
