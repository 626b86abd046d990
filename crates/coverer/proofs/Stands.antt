-- What memory and counts stand for: how it changes with each move of the engine, over any request and any two tests.
use Rattle.std.specs.Prelude.Result.{Ok, Err}
use Rattle.refusal.specs.declared.Refusal.{Refusal}
use mathlib.Core.Path.{◌≡◌, refl, sym, ap, ap₂, ◌∙◌}
use mathlib.Core.Bool.{Bool, true, false}
use mathlib.Core.Logic.{⊎_elim}
use mathlib.Core.List.{List, [], ◌∷◌, ◌++◌, map, map-append}
use Prim.Native.Nat.{ℕ, ◌+◌, ◌*◌, ◌≤◌, ◌<◌}
use native.Mathlib.Numerals.{add-one}
use native.Mathlib.Omega.{arith}
use lib.ListN.{length, set, length-map}
use Rattle.cellid.specs.CellId.{leaves_of}
use Rattle.order.specs.Order.{All, insert}
use Rattle.order.specs.Lex.{lexb}
use Rattle.order.proofs.OrderLaws.{which}
use Rattle.run.specs.Run.{Grown, State, Outcome, going, then, keep, enqueue, set_aside, by_edition, cost_of, level_mod, raw_ids, sum_of, Task, queue_most, raw_most, queue_words, memory_words}
use Rattle.run.specs.Editions.{cost_in}
use Rattle.run.specs.Sixes.{places_most, aside_from}
use Rattle.run.proofs.Lists.{if_ok, all_insert}
use Rattle.run.proofs.Records.{present_of, terminal_of, words_of, cost_sets, queue_more}
use Rattle.run.proofs.Turns.{keep_go, keep_stop, enqueue_go, enqueue_stop}
use Rattle.run.proofs.Sixes.{aside_grows, aside_stays}
use Rattle.records.specs.declared.Rec.{Rec}
use Rattle.records.specs.Records.{cost_r, from_r, record_of, before, key}
use Rattle.queue.specs.declared.Engine.{Engine}
use Rattle.queue.specs.Queue.{add_r, rest_r}
use Rattle.queue.proofs.Laws.{in_queue, add_out, rest_out, get_r_out}
use Rattle.coverer.specs.declared.Counts.{Counts}
use Rattle.coverer.specs.Engine.{Turn, words_at, past, grown, rec_of, Stands, Gives, Does, aside_of, AsideUpTo}
use Rattle.coverer.proofs.Memory.{words_length, words_more, words_past, past_set, past_later}

-- ---- the queue's moves leave the words past the records as they are

add_past : (e : Engine) (bound a : ℕ) (m : List ℕ) (n : ℕ) (r : Rec) → n < bound → 4 * bound ≡ a → past a (add_r e m n r) ≡ past a m
unfolding past
add_past e bound a m n r h z = rw (sym z) (add_out e bound m n r h)

pub rest_past : (e : Engine) (bound a : ℕ) (m : List ℕ) (n : ℕ) → n < bound → 4 * bound ≡ a → past a (rest_r e m n) ≡ past a m
unfolding past
rest_past e bound a m n h z = rw (sym z) (rest_out e bound m n h)

-- ---- counts

pub aside_in : (b : Bool) (t : Counts) (n : ℕ) → b ≡ true → aside_of b t n ≡ t
unfolding aside_of
aside_in true t n e = refl
aside_in false t n e = let z : ◌≡◌ {A = ℕ} 0 1 = cc in absurd (omega arith)

pub aside_out : (b : Bool) (t : Counts) (n : ℕ) → b ≡ false → aside_of b t n ≡ record { kept = t.kept; queued = t.queued; aside = t.aside + n; steps = t.steps }
unfolding aside_of
aside_out true t n e = let z : ◌≡◌ {A = ℕ} 0 1 = cc in absurd (omega arith)
aside_out false t n e = refl

pub aside_le : (b : Bool) (t : Counts) (n : ℕ) → (aside_of b t n).aside ≤ t.aside + n
unfolding aside_of
aside_le true t n = omega arith
aside_le false t n = omega arith

pub up_to : (n k : ℕ) (r : Turn) → n ≤ k → AsideUpTo n r → AsideUpTo k r
unfolding AsideUpTo
up_to n k (Err x) h a = tt
up_to n k (Ok t) h a = omega (arith, a)

-- ---- a queued cell's record

module _ (T : Task) where
  -- it tells the cell's cost and its start cell's place
  pub rec_tells : (c : Grown) → c.from < places_most → (cost_r (rec_of T c) ≡ cost_in T c.id) × (from_r (rec_of T c) ≡ c.from)
  unfolding record_of
  rec_tells c h =
      let k : cost_of _ _ _ _ ≡ cost_in T c.id = cost_sets T c.id in
      (rw k (omega arith), omega arith)

  -- so its key is the cell's cost, id and place, and its sets
  rec_words : (c : Grown) → c.from < places_most → key (rec_of T c) ≡ words_of T c
  unfolding key record_of
  rec_words c h = let k = rec_tells c h in ap₂ (λ (x y : ℕ). x ∷ c.id ∷ y ∷ present_of T c.id ∷ terminal_of T c.id ∷ []) k.0 k.1

  more : 0 < level_mod T.asked → (x : Grown) (l : List Grown) → x.from < places_most → All (λ (c : Grown). c.from < places_most) l → map (rec_of T) (insert (by_edition T) x l) ≡ insert before (rec_of T x) (map (rec_of T) l)
  unfolding before
  more some = queue_more T some (rec_of T) before (λ c. c.from < places_most) (λ y x a b. ap₂ lexb (rec_words y a) (rec_words x b))

-- ---- work on the cells of the start cell i

module _ (e : Engine) (T : Task) (i : ℕ) where
  pub queue_length : {v : ℕ → ℕ} {m : List ℕ} {t : Counts} {s : State} → Stands e T i v m t s → length s.queue ≡ t.queued
  queue_length {v} {m} {t} {s} S = sym (length-map s.queue (rec_of T)) ∙ (in_queue e).size m t.queued (map (rec_of T) s.queue) S.queue

  pub raw_length : {v : ℕ → ℕ} {m : List ℕ} {t : Counts} {s : State} → memory_words ≤ length m → Stands e T i v m t s → length s.raw ≡ t.kept
  unfolding raw_ids
  raw_length {v} {m} {t} {s} h S =
      let room : t.kept ≤ raw_most = S.room in
      sym (length-map s.raw (λ (c : Grown). c.id)) ∙ ap length (sym S.raw) ∙ words_length queue_words t.kept m (omega arith)

  -- ---- one more kept

  raw_more : (s : State) (c : Grown) (m m' : List ℕ) (k : ℕ) → words_at queue_words k m ≡ raw_ids s → words_at queue_words (k + 1) m' ≡ words_at queue_words k m ++ (c.id ∷ [])
      → words_at queue_words (k + 1) m' ≡ raw_ids (record { raw = s.raw ++ (c ∷ []); queue = s.queue; aside = s.aside; steps = s.steps })
  unfolding raw_ids
  raw_more s c m m' k e d = d ∙ ap (λ (l : List ℕ). l ++ (c.id ∷ [])) e ∙ sym (map-append (λ (x : Grown). x.id) s.raw (c ∷ []))

  pub keeps : (m : List ℕ) (t : Counts) (id : ℕ) → memory_words ≤ length m → t.kept < raw_most
      → Does e T i (keep (grown i id)) m t (set m (queue_words + t.kept) id) (Ok (record { kept = t.kept + 1; queued = t.queued; aside = t.aside; steps = t.steps }))
  unfolding Gives aside_from
  keeps m t id h g = record {
    gives = λ v s S.
        let few : t.queued ≤ queue_most = S.few in (
          record { raw = s.raw ++ (grown i id ∷ []); queue = s.queue; aside = s.aside; steps = s.steps },
          keep_go T (by_edition T) (grown i id) s (omega (arith, raw_length h S)),
          record {
            queue = (in_queue e).only m _ t.queued (map (rec_of T) s.queue) (λ j b. get_r_out m (queue_words + t.kept) id j (omega arith)) S.queue;
            raw = raw_more s (grown i id) m _ t.kept S.raw (words_more queue_words t.kept id m (omega arith));
            few = S.few;
            room = omega arith;
            places = S.places;
            aside = S.aside;
            others = S.others;
            steps = S.steps;
          },
        );
    frame = past_set memory_words (queue_words + t.kept) id m (omega arith);
  }

  pub keeps_not : (m : List ℕ) (t : Counts) (id : ℕ) → memory_words ≤ length m → raw_most ≤ t.kept → Does e T i (keep (grown i id)) m t m (Err Refusal.RawFull)
  unfolding Gives
  keeps_not m t id h g = record { gives = λ v s S. keep_stop T (by_edition T) (grown i id) s (omega (arith, raw_length h S)); frame = refl }

  -- ---- one more queued

  pub queues : 0 < level_mod T.asked → i < places_most → (m : List ℕ) (t : Counts) (r : Rec) (m' : List ℕ) → memory_words ≤ length m → t.queued < queue_most → r ≡ rec_of T (grown i r.id) → m' ≡ add_r e m t.queued r
      → Does e T i (enqueue (by_edition T) (grown i r.id)) m t m' (Ok (record { kept = t.kept; queued = t.queued + 1; aside = t.aside; steps = t.steps }))
  unfolding Gives aside_from raw_ids
  queues some placed m t r m' h g is em =
      let beyond : past queue_words m' ≡ past queue_words m = ap (past queue_words) em ∙ add_past e queue_most queue_words m t.queued r g refl in
      record {
        gives = λ v s S. (
          record { raw = s.raw; queue = insert (by_edition T) (grown i r.id) s.queue; aside = s.aside; steps = s.steps },
          enqueue_go T (by_edition T) (grown i r.id) s (omega (arith, queue_length S)),
          record {
            queue =
                rw (em, add-one t.queued, more T some (grown i r.id) s.queue placed S.places, ← is)
                ((in_queue e).more m t.queued r (map (rec_of T) s.queue) (omega arith) S.queue);
            raw = words_past queue_words t.kept m _ beyond ∙ S.raw;
            few = omega arith;
            room = S.room;
            places = all_insert (by_edition T) (λ (c : Grown). c.from < places_most) (grown i r.id) s.queue placed S.places;
            aside = S.aside;
            others = S.others;
            steps = S.steps;
          },
        );
        frame = past_later queue_words memory_words m _ (omega arith) beyond;
      }

  pub queues_not : (m : List ℕ) (t : Counts) (id : ℕ) → queue_most ≤ t.queued → Does e T i (enqueue (by_edition T) (grown i id)) m t m (Err Refusal.QueueFull)
  unfolding Gives
  queues_not m t id g = record { gives = λ v s S. enqueue_stop T (by_edition T) (grown i id) s (omega (arith, queue_length S)); frame = refl }

  -- ---- set aside

  inside : (l : List ℕ) (s : State) → T.asked.inner ≡ true → set_aside T.asked i l s ≡ s
  unfolding set_aside
  inside l s z = if_ok (λ (x : State). x ≡ s) T.asked.inner _ _ (λ t. refl) (λ t. let z : ◌≡◌ {A = ℕ} 0 1 = cc in absurd (omega arith))

  -- set aside changes nothing else
  record Beside (s x : State) : Type 0 where
    raw : x.raw ≡ s.raw
    queue : x.queue ≡ s.queue
    steps : x.steps ≡ s.steps

  beside : (l : List ℕ) (s : State) → Beside s (set_aside T.asked i l s)
  unfolding set_aside
  beside l s = if_ok (Beside s) T.asked.inner _ _ (λ t. record { raw = refl; queue = refl; steps = refl }) (λ t. record { raw = refl; queue = refl; steps = refl })

  aside_stands : (v : ℕ → ℕ) (m : List ℕ) (t : Counts) (n : ℕ) (l : List ℕ) (s : State) → T.asked.inner ≡ false → n ≡ sum_of leaves_of l → Stands e T i v m t s
      → Stands e T i v m (record { kept = t.kept; queued = t.queued; aside = t.aside + n; steps = t.steps }) (set_aside T.asked i l s)
  unfolding raw_ids
  aside_stands v m t n l s o z S =
      let B = beside l s in
      record {
        queue = rw B.queue S.queue;
        raw = rw B.raw S.raw;
        few = S.few;
        room = S.room;
        places = rw B.queue S.places;
        aside = ap₂ (λ (x y : ℕ). x + y) S.aside z ∙ sym (aside_grows T.asked o i l s);
        others = λ j d. S.others j d ∙ sym (aside_stays T.asked o i l s j d);
        steps = S.steps ∙ sym B.steps;
      }

  pub sets_aside : (v : ℕ → ℕ) (m : List ℕ) (t : Counts) (n : ℕ) (l : List ℕ) (s : State) → (T.asked.inner ≡ false → n ≡ sum_of leaves_of l) → Stands e T i v m t s
      → Stands e T i v m (aside_of T.asked.inner t n) (set_aside T.asked i l s)
  sets_aside v m t n l s z S = ⊎_elim
      (λ (b : T.asked.inner ≡ true). rw (aside_in T.asked.inner t n b, inside l s b) S)
      (λ (b : T.asked.inner ≡ false). rw (aside_out T.asked.inner t n b) (aside_stands v m t n l s b (z b) S))
      (which T.asked.inner)

  -- ---- one outcome in the place of another

  pub gives_as : (v : ℕ → ℕ) (m : List ℕ) (r : Turn) (o p : Outcome) → p ≡ o → Gives e T i v m r o → Gives e T i v m r p
  gives_as v m r o p z G = rw z G

  pub does_as : (f g : State → Outcome) (m : List ℕ) (t : Counts) (m' : List ℕ) (r : Turn) → ((v : ℕ → ℕ) (s : State) → Stands e T i v m t s → g s ≡ f s)
      → Does e T i f m t m' r → Does e T i g m t m' r
  does_as f g m t m' r z D = record { gives = λ v s S. gives_as v m' r (f s) (g s) (z v s S) (D.gives v s S); frame = D.frame }

  -- nothing is done
  pub does_nothing : (f : State → Outcome) (m : List ℕ) (t : Counts) → ((v : ℕ → ℕ) (s : State) → Stands e T i v m t s → f s ≡ going s) → Does e T i f m t m (Ok t)
  unfolding Gives
  does_nothing f m t z = record { gives = λ v s S. (s, z v s S, S); frame = refl }

  -- ---- one part after another

  -- from m₀ and t₀ to m and t a beginning of `goal` is done, and `rest` is what is left of it
  pub record Goes (goal rest : State → Outcome) (m₀ : List ℕ) (t₀ : Counts) (m : List ℕ) (t : Counts) : Type 0 where
    pub from : (v : ℕ → ℕ) (s₀ : State) → Stands e T i v m₀ t₀ s₀ → (s : State) × Stands e T i v m t s × (rest s ≡ goal s₀)
    pub frame : past memory_words m ≡ past memory_words m₀

  pub goes_start : (f : State → Outcome) (m : List ℕ) (t : Counts) → Goes f f m t m t
  goes_start f m t = record { from = λ v s S. (s, S, refl); frame = refl }

  pub goes_turn : (goal rest one next : State → Outcome) (m₀ : List ℕ) (t₀ : Counts) (m : List ℕ) (t : Counts) (m' : List ℕ) (u : Counts)
      → ((s : State) → rest s ≡ then (one s) next) → Does e T i one m t m' (Ok u) → Goes goal rest m₀ t₀ m t → Goes goal next m₀ t₀ m' u
  unfolding Gives then
  goes_turn goal rest one next m₀ t₀ m t m' u z D G = record {
    from = λ v s₀ S₀.
        let a = G.from v s₀ S₀ in
        let d = D.gives v a.0 a.1 in
        (d.0, d.2, sym (z a.0 ∙ ap (λ (o : Outcome). then o next) d.1) ∙ a.2);
    frame = D.frame ∙ G.frame;
  }

  pub goes_stop : (goal rest one next : State → Outcome) (m₀ : List ℕ) (t₀ : Counts) (m : List ℕ) (t : Counts) (m' : List ℕ) (n : Refusal)
      → ((s : State) → rest s ≡ then (one s) next) → Does e T i one m t m' (Err n) → Goes goal rest m₀ t₀ m t → Does e T i goal m₀ t₀ m' (Err n)
  unfolding Gives then
  goes_stop goal rest one next m₀ t₀ m t m' n z D G = record {
    gives = λ v s₀ S₀.
        let a = G.from v s₀ S₀ in
        sym a.2 ∙ z a.0 ∙ ap (λ (o : Outcome). then o next) (D.gives v a.0 a.1);
    frame = D.frame ∙ G.frame;
  }

  pub goes_end : (goal rest : State → Outcome) (m₀ : List ℕ) (t₀ : Counts) (m : List ℕ) (t : Counts) → ((s : State) → rest s ≡ going s)
      → Goes goal rest m₀ t₀ m t → Does e T i goal m₀ t₀ m (Ok t)
  unfolding Gives
  goes_end goal rest m₀ t₀ m t z G = record { gives = λ v s₀ S₀. let a = G.from v s₀ S₀ in (a.0, sym a.2 ∙ z a.0, a.1); frame = G.frame }
