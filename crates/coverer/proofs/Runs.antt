-- The start cells, one after another, and the steps until the queue is empty. Over any request and any two tests.
use Rattle.std.specs.Prelude.Result.{Ok, Err}
use Rattle.refusal.specs.declared.Refusal.{Refusal}
use mathlib.Core.Path.{◌≡◌, refl, sym, ap, ◌∙◌, subst}
use mathlib.Core.Bool.{true, false}
use mathlib.Core.Logic.{◌≢◌, ⊎_elim, by_cases}
use mathlib.Core.List.{List, [], ◌∷◌, map}
use Prim.Native.Nat.{ℕ, zero, suc, ◌+◌, ◌-◌, ◌^◌, ◌≤◌, ◌<◌}
use native.Mathlib.Numerals.{add-one}
use native.Mathlib.Decide.{ℕ_discrete}
use native.Mathlib.Omega.{arith}
use lib.ListN.{length, length-set, get_or, drop}
use lib.Seq.{drop-cons, drop-length}
use Rattle.cellid.specs.CellId.{leaves_of, low_bit}
use Rattle.order.specs.Order.{All}
use Rattle.order.proofs.OrderLaws.{which}
use Rattle.totals.specs.declared.Totals.{Totals}
use Rattle.totals.specs.Totals.{no_totals, total_at, with_total}
use Rattle.totals.proofs.Laws.{none_at, with_same, with_other}
use Rattle.run.specs.Run.{Grown, State, Outcome, refused, going, then, is_empty, Look, fails, none, terminal, divide, look, sum_of, by_edition, set_aside, add, step_with, step_on, step, start_as, start_all, placed, nothing, after, loop, run, raw_ids, aside_total, Task, Course, queue_most, raw_most, queue_words, memory_words, in_edition}
use Rattle.run.specs.Ground.{Domain, Fit, ChildOk, Queued}
use Rattle.run.specs.Sixes.{places_most, aside_from}
use Rattle.run.proofs.Demand3.{sums}
use Rattle.run.proofs.Lists.{empty_nil}
use Rattle.run.proofs.Looks.{MeansBy, look_means}
use Rattle.run.proofs.Sixes.{aside_nothing, aside_from_least}
use Rattle.run.proofs.Steps.{steps_one, steps_none}
use Rattle.run.proofs.Totals.{leaves_most}
use Rattle.run.proofs.Turns.{then_then, then_cong, then_going}
use Rattle.records.specs.declared.Rec.{Rec}
use Rattle.records.specs.Records.{from_r, record_of}
use Rattle.queue.specs.declared.Engine.{Engine}
use Rattle.queue.specs.Queue.{next_r, rest_r}
use Rattle.queue.proofs.Laws.{in_queue}
use Rattle.std.specs.Prelude.{Option, Some, None}
use Rattle.candidate.specs.declared.Candidate.{Candidate}
use Rattle.candidate.specs.Candidate.{candidate_of}
use Rattle.coverer.specs.declared.Counts.{Counts}
use Rattle.coverer.specs.declared.Tally.{Tally}
use Rattle.coverer.specs.Engine.{Turn, Stage, past, aside_of, grown, rec_of, Taken, stage_after, Stands, Gives, Does, Holds, Leads, Comes, Reached, Live}
use Rattle.coverer.proofs.Memory.{words_none, words_past, past_later}
use Rattle.coverer.proofs.Stands.{rec_tells, rest_past, queue_length, sets_aside, aside_in, does_as}
use Rattle.coverer.proofs.Adds.{low_leaves}

-- ---- what a candidate says of the look

kept_look : (v : Look) → candidate_of v ≡ Some Candidate.Kept → v ≡ terminal
kept_look fails e = let z : ◌≡◌ {A = ℕ} 0 1 = cc in absurd (omega arith)
kept_look none e = let z : ◌≡◌ {A = ℕ} 0 1 = cc in absurd (omega arith)
kept_look terminal e = refl
kept_look divide e = let z : ◌≡◌ {A = ℕ} 0 1 = cc in absurd (omega arith)

queued_look : (v : Look) → candidate_of v ≡ Some Candidate.Queued → v ≡ divide
queued_look fails e = let z : ◌≡◌ {A = ℕ} 0 1 = cc in absurd (omega arith)
queued_look none e = let z : ◌≡◌ {A = ℕ} 0 1 = cc in absurd (omega arith)
queued_look terminal e = let z : ◌≡◌ {A = ℕ} 0 1 = cc in absurd (omega arith)
queued_look divide e = refl

-- ---- steps: with an empty queue there is none, and the run is the state after as many as are allowed, refused where the queue isn't empty then

none_wait : (l : List Grown) → length l ≡ 0 → is_empty l ≡ true
unfolding is_empty
none_wait [] h = refl
none_wait (x ∷ l) h = absurd (omega arith)

some_wait : (l : List Grown) → 0 < length l → is_empty l ≡ false
unfolding is_empty
some_wait [] h = absurd (omega arith)
some_wait (x ∷ l) h = refl

-- 9: "the queue isn't empty and the allowance is used up"
unfoldable pub unless_queued : State → Outcome
unless_queued s = elim (is_empty s.queue) [ true ↦ going s | false ↦ refused Refusal.Allowance ]

-- n steps on from a state; with an empty queue there is no step
unfoldable onward : Course → ℕ → State → Outcome
onward C zero s = going s
onward C (suc n) s = then (step C s) (onward C n)

module _ (C : Course) where
  onward_empty : (n : ℕ) (s : State) → s.queue ≡ [] → onward C n s ≡ going s
  unfolding onward step step_on then
  onward_empty zero s e = refl
  onward_empty (suc n) s e = ap (λ (l : List Grown). then (step_on C l s) (onward C n)) e ∙ onward_empty n s e

  onward_last : (n : ℕ) (s : State) → onward C (suc n) s ≡ then (onward C n s) (step C)
  unfolding onward then
  onward_last zero s = then_going (step C s)
  onward_last (suc n) s = then_cong (step C s) _ _ (onward_last n) ∙ sym (then_then (step C s) (onward C n) (step C))

  after_onward : (l : List ℕ) (n : ℕ) → after C l n ≡ then (after C l 0) (onward C n)
  unfolding after onward
  after_onward l zero = sym (then_going (after C l 0))
  after_onward l (suc n) =
      ap (λ (o : Outcome). then o (step C)) (after_onward l n) ∙ then_then (after C l 0) (onward C n) (step C) ∙ then_cong (after C l 0) _ _ (λ s. sym (onward_last n s))

  onward_more : (n k : ℕ) (s : State) → onward C (n + k) s ≡ then (onward C n s) (onward C k)
  unfolding onward then
  onward_more zero k s = let z : 0 + k ≡ k = omega arith in ap (λ (n : ℕ). onward C n s) z
  onward_more (suc n) k s = let z : suc n + k ≡ suc (n + k) = omega arith in ap (λ (x : ℕ). onward C x s) z ∙ then_cong (step C s) _ _ (onward_more n k) ∙ sym (then_then (step C s) (onward C n) (onward C k))

  after_more : (l : List ℕ) (n k : ℕ) → after C l (n + k) ≡ then (after C l n) (onward C k)
  after_more l n k =
      after_onward l (n + k) ∙ then_cong (after C l 0) _ _ (onward_more n k) ∙ sym (then_then (after C l 0) (onward C n) (onward C k))
      ∙ ap (λ (o : Outcome). then o (onward C k)) (sym (after_onward l n))

  loop_onward : (n : ℕ) (s : State) → loop C n s ≡ then (onward C n s) unless_queued
  unfolding loop onward then unless_queued
  loop_onward zero s = refl
  loop_onward (suc n) s = ⊎_elim
      (λ (e : is_empty s.queue ≡ true). rw (e, loop) (sym (ap (λ (o : Outcome). then o unless_queued) (onward_empty (suc n) s (empty_nil s.queue e)) ∙ rw (e, unless_queued))))
      (λ (e : is_empty s.queue ≡ false). rw (e, loop) (then_cong (step C s) _ _ (loop_onward n) ∙ sym (then_then (step C s) (onward C n) unless_queued)))
      (which (is_empty s.queue))

  pub run_after : (l : List ℕ) (n : ℕ) → run C l n ≡ then (after C l n) unless_queued
  unfolding run
  run_after l n =
      then_cong (after C l 0) _ _ (loop_onward n) ∙ sym (then_then (after C l 0) (onward C n) unless_queued) ∙ ap (λ (o : Outcome). then o unless_queued) (sym (after_onward l n))

  -- a refusal stays, and so does a state with an empty queue
  after_refused : (l : List ℕ) (n k : ℕ) (x : Refusal) → n ≤ k → after C l n ≡ refused x → after C l k ≡ refused x
  unfolding then
  after_refused l n k x h e =
      let z : k ≡ n + (k - n) = omega arith in
      ap (after C l) z ∙ after_more l n (k - n) ∙ ap (λ (o : Outcome). then o (onward C (k - n))) e

  after_idle : (l : List ℕ) (n k : ℕ) (s : State) → n ≤ k → after C l n ≡ going s → s.queue ≡ [] → after C l k ≡ going s
  unfolding then
  after_idle l n k s h e q =
      let z : k ≡ n + (k - n) = omega arith in
      ap (after C l) z ∙ after_more l n (k - n) ∙ ap (λ (o : Outcome). then o (onward C (k - n))) e ∙ onward_empty (k - n) s q

-- ---- a start cell

module _ (T : Task) (id : ℕ) (c : Option Candidate) (is : c ≡ candidate_of (look T id)) where
  pub start_kept_ok : Fit T.asked id → c ≡ Some Candidate.Kept → ChildOk T (record { id = id; ends = true })
  start_kept_ok F e = record { fit = F; seen = kept_look (look T id) (sym is ∙ e) }

  pub start_queued_ok : Fit T.asked id → c ≡ Some Candidate.Queued → ChildOk T (record { id = id; ends = false })
  start_queued_ok F e = record { fit = F; seen = queued_look (look T id) (sym is ∙ e) }

module _ (E : Engine) (T : Task) (i : ℕ) where
  module _ (m : List ℕ) (t : Counts) (id : ℕ) (c : Option Candidate) (is : c ≡ candidate_of (look T id)) where
    pub start_kept : (m' : List ℕ) (r : Turn) → c ≡ Some Candidate.Kept → Does E T i (add (in_edition T) (grown i id) true) m t m' r
        → Does E T i (start_as (in_edition T) (look T id) (grown i id)) m t m' r
    unfolding start_as
    start_kept m' r e = does_as E T i (add (in_edition T) (grown i id) true) (start_as (in_edition T) (look T id) (grown i id)) m t m' r
        (λ v s S. ap (λ (x : Look). start_as (in_edition T) x (grown i id) s) (kept_look (look T id) (sym is ∙ e)))

    pub start_queued : (m' : List ℕ) (r : Turn) → c ≡ Some Candidate.Queued → Does E T i (add (in_edition T) (grown i id) false) m t m' r
        → Does E T i (start_as (in_edition T) (look T id) (grown i id)) m t m' r
    unfolding start_as
    start_queued m' r e = does_as E T i (add (in_edition T) (grown i id) false) (start_as (in_edition T) (look T id) (grown i id)) m t m' r
        (λ v s S. ap (λ (x : Look). start_as (in_edition T) x (grown i id) s) (queued_look (look T id) (sym is ∙ e)))

  none_gives : (v : ℕ → ℕ) (m : List ℕ) (t : Counts) (id n : ℕ) (s : State) (x : Look) → n ≡ leaves_of id → look T id ≡ x → candidate_of x ≡ None → Stands E T i v m t s
      → Gives E T i v m (Ok (aside_of T.asked.inner t n)) (start_as (in_edition T) x (grown i id) s)
  unfolding Gives start_as MeansBy sum_of
  none_gives v m t id n s fails e l c S = (set_aside T.asked i (id ∷ []) s, refl, sets_aside E T i v m t n (id ∷ []) s (λ o. e ∙ omega arith) S)
  none_gives v m t id n s none e l c S = (s, refl, rw (aside_in T.asked.inner t n (look_means T id none l)) S)
  none_gives v m t id n s terminal e l c S = let z : ◌≡◌ {A = ℕ} 0 1 = cc in absurd (omega arith)
  none_gives v m t id n s divide e l c S = let z : ◌≡◌ {A = ℕ} 0 1 = cc in absurd (omega arith)

  pub start_none : (m : List ℕ) (t u : Counts) (id n : ℕ) (c : Option Candidate) → Fit T.asked id → c ≡ candidate_of (look T id) → c ≡ None → n ≡ low_bit id → u ≡ aside_of T.asked.inner t n
      → Does E T i (start_as (in_edition T) (look T id) (grown i id)) m t m (Ok u)
  start_none m t u id n c F is e en eu =
      record { gives = λ v s S. rw eu (none_gives v m t id n s (look T id) (en ∙ low_leaves id F.cell) refl (sym is ∙ e) S); frame = refl }

-- ---- a turn is over

-- the other totals are as they were
after_others : (r : Turn) (x : Totals) (i : ℕ) (u : Tally) → Ok u ≡ stage_after r x i → (j : ℕ) → i ≢ j → total_at u.aside j ≡ total_at x j
unfolding stage_after
after_others (Err n) x i u a j d = let z : ◌≡◌ {A = ℕ} 0 1 = cc in absurd (omega arith)
after_others (Ok t) x i u a j d = ap (λ (y : Totals). total_at y j) (stage_aside u _ a) ∙ with_other x i t.aside j d
  where
    stage_aside : (u w : Tally) → ◌≡◌ {A = Stage} (Ok u) (Ok w) → u.aside ≡ w.aside
    stage_aside u w e = let z : u ≡ w = cc in ap (λ (t : Tally). t.aside) z

module _ (E : Engine) (T : Task) where
  holds_after : (i : ℕ) (x : Totals) (m : List ℕ) (t : Counts) (s : State) → i < places_most → length x.six ≡ places_most → Stands E T i (total_at x) m t s
      → Holds E T m (record { kept = t.kept; queued = t.queued; steps = t.steps; aside = with_total x i t.aside }) s
  holds_after i x m t s h six S = record {
    at = λ j. record { queue = S.queue; raw = S.raw; few = S.few; room = S.room; places = S.places; aside = all j; others = λ k d. all k; steps = S.steps };
    six = simp length-set six;
  }
    where
      all : (k : ℕ) → total_at (with_total x i t.aside) k ≡ aside_from s k
      all k = by_cases (ℕ_discrete i k)
          (λ z. ap (total_at (with_total x i t.aside)) (sym z) ∙ with_same x i t.aside (omega (arith, six)) ∙ S.aside ∙ ap (aside_from s) z)
          (λ d. with_other x i t.aside k d ∙ S.others k d)

  turn_over : (i : ℕ) (x : Totals) (m : List ℕ) (turn : Turn) (r : Stage) (o : Outcome) → i < places_most → length x.six ≡ places_most → r ≡ stage_after turn x i → Gives E T i (total_at x) m turn o → Leads E T m r o
  unfolding stage_after Gives Leads
  turn_over i x m (Err n) r o h six a g = rw a g
  turn_over i x m (Ok t) r o h six a g = rw a (g.0, g.1, holds_after i x m t g.0 h six g.2)

  -- ---- the start cells, one after another: l are all of them, i of them are done

  pub record Starting (l : List ℕ) (m₀ m : List ℕ) (t : Tally) (i : ℕ) : Type 0 where
    pub state : State
    pub holds : Holds E T m t state
    pub rest : start_all (in_edition T) (placed i (drop i l)) state ≡ after (in_edition T) l 0
    pub fresh : (j : ℕ) → i ≤ j → total_at t.aside j ≡ 0
    pub frame : past memory_words m ≡ past memory_words m₀

  holds_nothing : (m : List ℕ) → Holds E T m (record { kept = 0; queued = 0; steps = 0; aside = no_totals }) nothing
  unfolding raw_ids All
  holds_nothing m = record {
    at = λ i. record {
      queue = (in_queue E).none m;
      raw = words_none queue_words m;
      few = omega arith;
      room = omega arith;
      places = tt;
      aside = none_at i ∙ sym (aside_nothing i);
      others = λ j d. none_at j ∙ sym (aside_nothing j);
      steps = refl;
    };
    six = refl;
  }

  pub starting : (l m : List ℕ) → Starting l m m (record { kept = 0; queued = 0; steps = 0; aside = no_totals }) 0
  unfolding after
  starting l m = record { state = nothing; holds = holds_nothing m; rest = refl; fresh = λ j h. none_at j; frame = refl }

  turned : (l : List ℕ) (i x : ℕ) (s : State) → i < length l → x ≡ get_or l i 0
      → start_all (in_edition T) (placed i (drop i l)) s ≡ then (start_as (in_edition T) (look T x) (grown i x) s) (start_all (in_edition T) (placed (i + 1) (drop (i + 1) l)))
  unfolding start_all placed
  turned l i x s h e = rw (add-one i, drop-cons l i 0 h, e)

  module _ (l m₀ m : List ℕ) (t : Tally) (i x : ℕ) (m' : List ℕ) (turn : Turn) (r : Stage) (h : i < length l) (few : i < places_most) (ex : x ≡ get_or l i 0)
      (d : Does E T i (start_as (in_edition T) (look T x) (grown i x)) m (record { kept = t.kept; queued = t.queued; aside = 0; steps = t.steps }) m' turn)
      (a : r ≡ stage_after turn t.aside i) (I : Starting l m₀ m t i) where
    begun : Stands E T i (total_at t.aside) m (record { kept = t.kept; queued = t.queued; aside = 0; steps = t.steps }) I.state
    begun =
        let S = I.holds.at i in
        record {
          queue = S.queue;
          raw = S.raw;
          few = S.few;
          room = S.room;
          places = S.places;
          aside = sym (I.fresh i (omega arith)) ∙ S.aside;
          others = S.others;
          steps = S.steps;
        }

    led : Leads E T m' r (start_as (in_edition T) (look T x) (grown i x) I.state)
    led = turn_over i t.aside m' turn r _ few I.holds.six a (d.gives (total_at t.aside) I.state begun)

    on : start_all (in_edition T) (placed i (drop i l)) I.state ≡ then (start_as (in_edition T) (look T x) (grown i x) I.state) (start_all (in_edition T) (placed (i + 1) (drop (i + 1) l)))
    on = turned l i x I.state h ex

    pub starting_turn : (u : Tally) → r ≡ Ok u → Starting l m₀ m' u (i + 1)
    unfolding Leads then
    starting_turn u er =
        let g = subst (λ (y : Stage). Leads E T m' y (start_as (in_edition T) (look T x) (grown i x) I.state)) er led in
        record {
          state = g.0;
          holds = g.2;
          rest = sym (on ∙ ap (λ (o : Outcome). then o (start_all (in_edition T) (placed (i + 1) (drop (i + 1) l)))) g.1) ∙ I.rest;
          fresh = λ j k. after_others turn t.aside i u (sym er ∙ a) j (omega arith) ∙ I.fresh j (omega arith);
          frame = d.frame ∙ I.frame;
        }

    pub starting_stop : (n : Refusal) → r ≡ Err n → Comes E T (after (in_edition T) l 0) m₀ m' (Err n)
    unfolding Leads then
    starting_stop n er =
        let g = subst (λ (y : Stage). Leads E T m' y (start_as (in_edition T) (look T x) (grown i x) I.state)) er led in
        record {
          gives = sym I.rest ∙ on ∙ ap (λ (o : Outcome). then o (start_all (in_edition T) (placed (i + 1) (drop (i + 1) l)))) g;
          frame = d.frame ∙ I.frame;
        }

  pub starting_end : (l m₀ m : List ℕ) (t : Tally) (i : ℕ) → i ≡ length l → Starting l m₀ m t i → Comes E T (after (in_edition T) l 0) m₀ m (Ok t)
  unfolding Leads start_all placed
  starting_end l m₀ m t i e I =
      let d : drop i l ≡ [] = ap (λ (j : ℕ). drop j l) e ∙ drop-length l in
      record {
        gives = (I.state, sym I.rest ∙ ap (λ (x : List ℕ). start_all (in_edition T) (placed i x) I.state) d, I.holds);
        frame = I.frame;
      }

  -- ---- the least is taken

  -- the counts without the taken record, one step on, for work on the cells of the start cell i
  abbrev pub stepped : ℕ → Tally → Counts
  stepped i t = record { kept = t.kept; queued = t.queued - 1; aside = total_at t.aside i; steps = t.steps + 1 }

  -- the state without the taken cell, one step on
  abbrev without : State → List Grown → State
  without s l = record { raw = s.raw; queue = l; aside = s.aside; steps = suc s.steps }

  record Popped (m : List ℕ) (t : Tally) (s : State) : Type 0 where
    first : Grown
    rest : List Grown
    queue : s.queue ≡ first ∷ rest
    least : next_r E m (t.queued - 1) ≡ rec_of T first
    place : first.from < places_most
    stands : (i : ℕ) → Stands E T i (total_at t.aside) (rest_r E m (t.queued - 1)) (stepped i t) (without s rest)

  popped : (m : List ℕ) (t : Tally) (s : State) → memory_words ≤ length m → 0 < t.queued → Holds E T m t s → Popped m t s
  unfolding raw_ids aside_from All
  popped m t s long some H = go s.queue refl
    where
      few : t.queued ≤ queue_most
      few = (H.at 0).few

      go : (x : List Grown) → s.queue ≡ x → Popped m t s
      go [] e = absurd (omega (arith, queue_length E T 0 (H.at 0), ap length e))
      go (c ∷ l) e =
          let z : t.queued ≡ suc (t.queued - 1) = omega arith in
          let P = (in_queue E).less m (t.queued - 1) (rec_of T c) (map (rec_of T) l) (omega (arith, few)) (rw (z, e) at (H.at 0).queue) in
          let A : All (λ (x : Grown). x.from < places_most) (c ∷ l) = subst (All (λ (x : Grown). x.from < places_most)) e (H.at 0).places in
          record {
            first = c;
            rest = l;
            queue = e;
            least = P.0;
            place = A.0;
            stands = λ i. record {
              queue = P.1;
              raw = words_past queue_words t.kept m _ (rest_past E queue_most queue_words m (t.queued - 1) (omega (arith, few)) refl) ∙ (H.at i).raw;
              few = omega (arith, few);
              room = (H.at i).room;
              places = A.1;
              aside = (H.at i).aside;
              others = (H.at i).others;
              steps = add-one t.steps ∙ ap suc (H.at i).steps;
            };
          }

  module _ (m : List ℕ) (t : Tally) (s : State) (P : Popped m t s) (r : Rec) (er : r ≡ next_r E m (t.queued - 1)) where
    same_cell : grown (from_r r) r.id ≡ P.first
    unfolding record_of
    same_cell =
        let e : r ≡ rec_of T P.first = er ∙ P.least in
        let f : from_r r ≡ P.first.from = ap from_r e ∙ (rec_tells T P.first P.place).1 in
        let i : r.id ≡ P.first.id = ap (λ (x : Rec). x.id) e in
        λ k. record { from = f k; id = i k }

    same_rec : r ≡ rec_of T (grown (from_r r) r.id)
    same_rec = er ∙ P.least ∙ ap (rec_of T) (sym same_cell)

  -- what a reached state's queued cells are, and that the set-aside totals leave room for them
  reached_first : Domain T.asked → (l : List ℕ) (n : ℕ) (s : State) (c : Grown) (x : List Grown) → All (Fit T.asked) l → length l ≤ places_most → after (in_edition T) l n ≡ going s → s.queue ≡ c ∷ x
      → Queued T c.id × (aside_total s + leaves_of c.id < 2 ^ 64)
  unfolding sum_of All
  reached_first D l n s c x fit six is e =
      let I = sums T D (by_edition T) l fit n s is (λ i id. 0) (λ i id L p d l. refl) in
      let a : All (λ (y : Grown). Queued T y.id) (c ∷ x) = subst (All (λ (y : Grown). Queued T y.id)) e I.queue in
      let leaves : Grown → ℕ = λ y. leaves_of y.id in
      let b : sum_of leaves s.queue ≡ leaves_of c.id + sum_of leaves x = ap (sum_of leaves) e in
      (a.0, omega (arith, six, leaves_most T D (by_edition T) l fit n s is))

  pub record Takes (t : Tally) (r : Rec) : Type 0 where
    pub kept : t.kept ≤ raw_most
    pub queued : t.queued - 1 ≤ queue_most
    pub taken : Taken T r
    pub room : total_at t.aside (from_r r) + leaves_of r.id < 2 ^ 64

  pub takes : Domain T.asked → (m : List ℕ) (t : Tally) (r : Rec) → memory_words ≤ length m → 0 < t.queued → r ≡ next_r E m (t.queued - 1) → Live E T m t → Takes t r
  takes D m t r long some er L =
      let R = L.3 in
      let H = R.holds in
      let P = popped m t R.state long some H in
      let c = P.first in
      let F = reached_first D L.0 t.steps R.state c P.rest L.1 L.2 R.is P.queue in
      let z = same_cell m t R.state P r er in
      let i : c.id ≡ r.id = ap (λ (x : Grown). x.id) (sym z) in
      let f : c.from ≡ from_r r = ap (λ (x : Grown). x.from) (sym z) in
      let few : t.queued ≤ queue_most = (H.at 0).few in
      record {
        kept = (H.at 0).room;
        queued = omega arith;
        taken = record { cell = subst (Queued T) i F.0; place = omega (arith, P.place, f); is = same_rec m t R.state P r er };
        room = omega (arith, (H.at (from_r r)).aside, aside_from_least R.state (from_r r), F.1, ap leaves_of i);
      }

  module _ (m : List ℕ) (t : Tally) (r : Rec) (m₁ m₂ : List ℕ) (turn : Turn) (a : Stage) (long : memory_words ≤ length m) (some : 0 < t.queued) (few : t.queued ≤ queue_most) (place : from_r r < places_most)
      (er : r ≡ next_r E m (t.queued - 1)) (p : m₁ ≡ rest_r E m (t.queued - 1)) where
    stepped_on : Does E T (from_r r) (step_with (in_edition T) (grown (from_r r) r.id)) m₁ (stepped (from_r r) t) m₂ turn → a ≡ stage_after turn t.aside (from_r r)
        → (l : List ℕ) → Reached E T l m t → Comes E T (after (in_edition T) l (t.steps + 1)) m m₂ a
    unfolding step step_on after then
    stepped_on d w l R =
        let s = R.state in
        let P = popped m t s long some R.holds in
        let i = from_r r in
        let g : Gives E T i (total_at t.aside) m₂ turn (step_with (in_edition T) (grown i r.id) (without s P.rest)) = d.gives (total_at t.aside) (without s P.rest) (rw p (P.stands i)) in
        let o : after (in_edition T) l (t.steps + 1) ≡ step_with (in_edition T) (grown i r.id) (without s P.rest) =
        ap (after (in_edition T) l) (add-one t.steps) ∙ ap (λ (y : Outcome). then y (step (in_edition T))) R.is ∙ ap (λ (x : List Grown). step_on (in_edition T) x s) P.queue
        ∙ ap (λ (x : Grown). step_with (in_edition T) x (without s P.rest)) (sym (same_cell m t s P r er)) in
        record {
          gives = subst (Leads E T m₂ a) (sym o) (turn_over i t.aside m₂ turn a _ place R.holds.six w g);
          frame = d.frame ∙ ap (past memory_words) p ∙ past_later queue_words memory_words m _ (omega arith) (rest_past E queue_most queue_words m (t.queued - 1) (omega arith) refl);
        }

    -- the same in the code's words: j is the place that the record tells, n the total there
    pub steps : (j n : ℕ) → j ≡ from_r r → n ≡ total_at t.aside j
        → Does E T (from_r r) (step_with (in_edition T) (grown (from_r r) r.id)) m₁ (record { kept = t.kept; queued = t.queued - 1; aside = n; steps = t.steps + 1 }) m₂ turn → a ≡ stage_after turn t.aside j
        → (l : List ℕ) → Reached E T l m t → Comes E T (after (in_edition T) l (t.steps + 1)) m m₂ a
    steps j n ej en d w = stepped_on
        (subst (λ (x : ℕ). Does E T (from_r r) (step_with (in_edition T) (grown (from_r r) r.id)) m₁ (record { kept = t.kept; queued = t.queued - 1; aside = x; steps = t.steps + 1 }) m₂ turn) (en ∙ ap (total_at t.aside) ej) d)
        (w ∙ ap (stage_after turn t.aside) ej)

  -- ---- step after step: k is the allowance

  pub waiting : {m : List ℕ} {t : Tally} {s : State} → 0 < t.queued → Holds E T m t s → is_empty s.queue ≡ false
  waiting {m} {t} {s} h H = some_wait s.queue (omega (arith, queue_length E T 0 (H.at 0)))

  pub idle : {m : List ℕ} {t : Tally} {s : State} → t.queued ≤ 0 → Holds E T m t s → is_empty s.queue ≡ true
  idle {m} {t} {s} h H = none_wait s.queue (omega (arith, queue_length E T 0 (H.at 0)))

  pub record Going (k : ℕ) (m₀ : List ℕ) (t₀ : Tally) (m : List ℕ) (t : Tally) : Type 0 where
    pub live : Live E T m t
    pub left : t.steps ≤ k
    pub goes : (l : List ℕ) → Reached E T l m₀ t₀ → Reached E T l m t
    pub frame : past memory_words m ≡ past memory_words m₀

  module _ (k : ℕ) (m₀ : List ℕ) (t₀ : Tally) (m : List ℕ) (t : Tally) (I : Going k m₀ t₀ m t) where
    -- the allowance is used up, or the queue is empty
    pub going_spent : t.steps ≡ k → (l : List ℕ) → Reached E T l m₀ t₀ → Comes E T (after (in_edition T) l k) m₀ m (Ok t)
    unfolding Leads
    going_spent e l R₀ =
        let R = I.goes l R₀ in
        record { gives = (R.state, ap (after (in_edition T) l) (sym e) ∙ R.is, R.holds); frame = I.frame }

    pub going_end : t.queued ≤ 0 → (l : List ℕ) → Reached E T l m₀ t₀ → Comes E T (after (in_edition T) l k) m₀ m (Ok t)
    unfolding Leads
    going_end h l R₀ =
        let R = I.goes l R₀ in
        record { gives = (R.state, after_idle (in_edition T) l t.steps k R.state I.left R.is (empty_nil R.state.queue (idle h R.holds)), R.holds); frame = I.frame }

    module _ (m' : List ℕ) (r : Stage) (some : 0 < t.queued) (left : t.steps ≡ k → ⊥) (d : (l : List ℕ) → Reached E T l m t → Comes E T (after (in_edition T) l (t.steps + 1)) m m' r) where
      pub going_stop : (n : Refusal) → r ≡ Err n → (l : List ℕ) → Reached E T l m₀ t₀ → Comes E T (after (in_edition T) l k) m₀ m' (Err n)
      unfolding Leads
      going_stop n e l R₀ =
          let C = d l (I.goes l R₀) in
          let g : after (in_edition T) l (t.steps + 1) ≡ refused n = subst (λ (y : Stage). Leads E T m' y (after (in_edition T) l (t.steps + 1))) e C.gives in
          let over : t.steps ≤ k = I.left in
          record { gives = after_refused (in_edition T) l (t.steps + 1) k n (omega arith) g; frame = C.frame ∙ I.frame }

      next : (u : Tally) → r ≡ Ok u → (l : List ℕ) → Reached E T l m t → Reached E T l m' u × (u.steps ≡ t.steps + 1)
      unfolding Leads after then
      next u e l R =
          let C = d l R in
          let g = subst (λ (y : Stage). Leads E T m' y (after (in_edition T) l (t.steps + 1))) e C.gives in
          let one_step : step (in_edition T) R.state ≡ going g.0 =
          sym (ap (after (in_edition T) l) (add-one t.steps) ∙ ap (λ (o : Outcome). then o (step (in_edition T))) R.is) ∙ g.1 in
          let one : u.steps ≡ t.steps + 1 =
          (g.2.at 0).steps ∙ steps_one T (by_edition T) R.state g.0 (waiting some R.holds) one_step ∙ sym (ap suc (R.holds.at 0).steps) ∙ sym (add-one t.steps) in
          (record { state = g.0; is = ap (after (in_edition T) l) one ∙ g.1; holds = g.2 }, one)

      pub going_turn : (u : Tally) → r ≡ Ok u → Going k m₀ t₀ m' u × (u.steps ≡ t.steps + 1)
      going_turn u e =
          let L = I.live in
          let N = next u e L.0 L.3 in
          let over : t.steps ≤ k = I.left in (
            record {
              live = (L.0, L.1, L.2, N.0);
              left = omega (arith, N.1);
              goes = λ l R₀. (next u e l (I.goes l R₀)).0;
              frame = (d L.0 L.3).frame ∙ I.frame;
            },
            N.1,
          )

  -- ---- the start cells, then the steps

  module _ (l m m₁ : List ℕ) (r : Stage) (k : ℕ) (C : Comes E T (after (in_edition T) l 0) m m₁ r) where
    pub runs_refused : (n : Refusal) → r ≡ Err n → Comes E T (after (in_edition T) l k) m m₁ (Err n)
    unfolding Leads
    runs_refused n e =
        let g : after (in_edition T) l 0 ≡ refused n = subst (λ (y : Stage). Leads E T m₁ y (after (in_edition T) l 0)) e C.gives in
        record { gives = after_refused (in_edition T) l 0 k n (omega arith) g; frame = C.frame }

    module _ (t : Tally) (e : r ≡ Ok t) where
      started : (s : State) × (after (in_edition T) l 0 ≡ going s) × Holds E T m₁ t s
      unfolding Leads
      started = subst (λ (y : Stage). Leads E T m₁ y (after (in_edition T) l 0)) e C.gives

      no_steps : t.steps ≡ 0
      no_steps = (started.2.at 0).steps ∙ steps_none T (by_edition T) l started.0 started.1

      runs_reached : Reached E T l m₁ t
      runs_reached = record { state = started.0; is = ap (after (in_edition T) l) no_steps ∙ started.1; holds = started.2 }

      pub runs_live : All (Fit T.asked) l → length l ≤ places_most → Live E T m₁ t
      runs_live a six = (l, a, six, runs_reached)

      pub runs_room : t.steps ≤ k
      runs_room = omega (arith, no_steps)

      pub runs_on : (m₂ : List ℕ) (x : Stage) → ((l : List ℕ) → Reached E T l m₁ t → Comes E T (after (in_edition T) l k) m₁ m₂ x) → Comes E T (after (in_edition T) l k) m m₂ x
      runs_on m₂ x d = let D = d l runs_reached in record { gives = D.gives; frame = D.frame ∙ C.frame }
