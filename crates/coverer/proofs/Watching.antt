-- A run as it stands, told in an output: the queue is listed record by record, and what is listed are the defined cells and costs.
use Rattle.std.specs.Prelude.{Result}
use Rattle.std.specs.Prelude.Result.{Ok, Err}
use Rattle.refusal.specs.declared.Refusal.{Refusal}
use mathlib.Core.Path.{◌≡◌, refl, sym, ap, ap₂, ◌∙◌, subst}
use mathlib.Core.Bool.{Bool, true, false}
use mathlib.Core.List.{List, [], ◌∷◌, map}
use Prim.Native.Nat.{ℕ, suc, ◌+◌, ◌-◌, ◌*◌, ◌≤◌, ◌<◌}
use native.Mathlib.Omega.{arith}
use lib.ListN.{length, take, drop, set, length-set, length-append, length-map}
use lib.Dec.{leb}
use borrow.Author.Tests.{le-leb, lt-leb, leb-true}
use borrow.Author.Rules.{part_to_end}
use Rattle.cellunion.specs.Memory.{laid}
use Rattle.cellunion.proofs.Memory.{laid_nil, laid_cons, laid_append, room_yes, room_no}
use Rattle.order.specs.Order.{All}
use Rattle.totals.specs.declared.Totals.{Totals}
use Rattle.totals.specs.Totals.{total_at}
use Rattle.run.specs.Run.{Task, Grown, State, Outcome, refused, going, after, raw_ids, in_edition, queue_most, raw_most, queue_words, memory_words}
use Rattle.run.specs.Editions.{cost_in}
use Rattle.run.specs.Sixes.{places_most, aside_six}
use Rattle.records.specs.declared.Rec.{Rec}
use Rattle.records.specs.Records.{cost_r, from_r, record_of}
use Rattle.queue.specs.declared.Engine.{Engine}
use Rattle.queue.specs.Queue.{InQueue, next_r, rest_r}
use Rattle.queue.proofs.Laws.{in_queue}
use Rattle.coverer.specs.declared.Tally.{Tally}
use Rattle.coverer.specs.declared.Seen.{Seen}
use Rattle.coverer.specs.Coverer.{cleared}
use Rattle.coverer.specs.Watch.{with_costs, standing, seen_of, seen_over}
use Rattle.coverer.specs.Engine.{Stage, words_at, past, listed, rec_of, counts_at, Stands, Holds, Leads, Comes}
use Rattle.coverer.proofs.Memory.{past_later, cleared_front}
use Rattle.coverer.proofs.Stands.{rec_tells, rest_past, queue_length, raw_length}
use Rattle.coverer.proofs.Answers.{six_are}

-- a part that is lent to the memory's end holds the kept ids
pub lay_part : (a n k : ℕ) (m out out₁ : List ℕ) → length m - a ≡ k → out₁ ≡ laid 0 (take n (take k (drop a m))) out → out₁ ≡ laid 0 (words_at a n m) out
unfolding words_at
lay_part a n k m out out₁ z e = e ∙ ap (λ (l : List ℕ). laid 0 (take n l) out) (ap (λ (j : ℕ). take j (drop a m)) (sym z) ∙ part_to_end m a)

-- ---- the queue is listed: what is left of it, laid over the output as it is now, makes the output that is wanted

pub record Listing (E : Engine) (n at : ℕ) (m₀ out₀ m out : List ℕ) (left i : ℕ) : Type 0 where
  pub within : left ≤ n
  pub place : i + 3 * left ≡ at + 3 * n
  pub long : length m ≡ length m₀
  pub len : length out ≡ length out₀
  pub goes : (q : List Rec) → InQueue E m₀ n q → (p : List Rec) × InQueue E m left p × (laid i (listed p) out ≡ laid at (listed q) out₀)
  pub frame : past memory_words m ≡ past memory_words m₀

laid_three : (i x y z : ℕ) (l d : List ℕ) → i + 2 < length d → laid i (x ∷ y ∷ z ∷ l) d ≡ laid (i + 3) l (set (set (set d i x) (i + 1) y) (i + 2) z)
laid_three i x y z l d h =
    let e : i + 1 + 1 ≡ i + 2 = omega arith in
    let f : i + 2 + 1 ≡ i + 3 = omega arith in
    laid_cons i x (y ∷ z ∷ l) d (omega arith) ∙ laid_cons (i + 1) y (z ∷ l) (set d i x) (simp length-set (omega arith)) ∙ ap (λ (k : ℕ). laid k (z ∷ l) (set (set d i x) (i + 1) y)) e
    ∙ laid_cons (i + 2) z l (set (set d i x) (i + 1) y) (simp length-set h) ∙ ap (λ (k : ℕ). laid k l (set (set (set d i x) (i + 1) y) (i + 2) z)) f

module _ (E : Engine) (n at : ℕ) (m₀ out₀ : List ℕ) where
  pub list_start : Listing E n at m₀ out₀ m₀ out₀ n at
  list_start = record { within = omega arith; place = refl; long = refl; len = refl; goes = λ q Q. (q, Q, refl); frame = refl }

  module _ (m out : List ℕ) (left i : ℕ) (long : memory_words ≤ length m₀) (few : n ≤ queue_most) (room : at + 3 * n ≤ length out₀) (I : Listing E n at m₀ out₀ m out left i) where
    pub list_room : 0 < left → i + 2 < length out
    list_room some = omega (arith, I.within, I.place, I.len)

    pub list_turn : (r : Rec) (m' : List ℕ) → 0 < left → r ≡ next_r E m (left - 1) → m' ≡ rest_r E m (left - 1) → length m' ≡ length m
        → Listing E n at m₀ out₀ m' (set (set (set out i r.id) (i + 1) (cost_r r)) (i + 2) (from_r r)) (left - 1) (i + 3)
    unfolding listed
    list_turn r m' some er em el = record {
      within = omega (arith, I.within);
      place = omega (arith, I.place);
      long = el ∙ I.long;
      len = simp length-set I.len;
      goes = λ q Q. let a = I.goes q Q in next q a.0 a.1 a.2;
      frame = ap (past memory_words) em ∙ past_later queue_words memory_words m _ (omega arith) (rest_past E queue_most queue_words m (left - 1) (omega (arith, I.within)) refl) ∙ I.frame;
    }
      where
        next : (q p : List Rec) → InQueue E m left p → laid i (listed p) out ≡ laid at (listed q) out₀
            → (l : List Rec) × InQueue E m' (left - 1) l × (laid (i + 3) (listed l) (set (set (set out i r.id) (i + 1) (cost_r r)) (i + 2) (from_r r)) ≡ laid at (listed q) out₀)
        next q [] P e = absurd (omega (arith, (in_queue E).size m left [] P))
        next q (x ∷ l) P e =
            let z : left ≡ suc (left - 1) = omega arith in
            let N = (in_queue E).less m (left - 1) x l (omega (arith, I.within, I.long)) (subst (λ (k : ℕ). InQueue E m k (x ∷ l)) z P) in
            (l, subst (λ (k : List ℕ). InQueue E k (left - 1) l) (sym em) N.1, rw (er, N.0) (sym (laid_three i x.id (cost_r x) (from_r x) (listed l) out (list_room some)) ∙ e))

    pub list_end : left ≤ 0 → (q : List Rec) → InQueue E m₀ n q → out ≡ laid at (listed q) out₀
    unfolding listed
    list_end none q Q = let a = I.goes q Q in over a.0 a.1 a.2
      where
        over : (p : List Rec) → InQueue E m left p → laid i (listed p) out ≡ laid at (listed q) out₀ → out ≡ laid at (listed q) out₀
        over [] P e = sym (laid_nil i out) ∙ e
        over (x ∷ l) P e = let z : suc (length l) ≡ left = (in_queue E).size m left (x ∷ l) P in absurd (omega arith)

-- ---- how long it is, and what the answer tells of that

module _ (T : Task) where
  length_costs : (l : List Grown) → length (with_costs T l) ≡ 3 * length l
  unfolding with_costs
  length_costs [] = refl
  length_costs (c ∷ l) = omega (arith, length_costs l)

  standing_length : (s : State) → length (standing T s) ≡ length s.raw + 3 * length s.queue
  unfolding standing raw_ids
  standing_length s = length-append (raw_ids s) (with_costs T s.queue) ∙ omega (arith, length-map s.raw (λ (c : Grown). c.id), length_costs s.queue)

  pub seen_room : (room : ℕ) (o : Outcome) (kept queued steps : ℕ) (aside : Totals) → Ok (record { kept = kept; queued = queued; steps = steps; aside = aside }) ≡ seen_of T room o → kept + 3 * queued ≤ room
  unfolding seen_of
  seen_room room (refused n) kept queued steps aside e = let z : ◌≡◌ {A = ℕ} 0 1 = cc in absurd (omega arith)
  seen_room room (going s) kept queued steps aside e = by (leb (length (standing T s)) room) refl e
    where
      by : (b : Bool) → leb (length (standing T s)) room ≡ b → ◌≡◌ {A = Result Seen Refusal} (Ok (record { kept = kept; queued = queued; steps = steps; aside = aside })) (elim b [ true ↦ Ok (record { kept = length s.raw; queued = length s.queue; steps = s.steps; aside = aside_six s }) | false ↦ Err Refusal.ListTooLong ])
          → kept + 3 * queued ≤ room
      by true t d =
          let z : ◌≡◌ {A = Seen} (record { kept = kept; queued = queued; steps = steps; aside = aside }) (record { kept = length s.raw; queued = length s.queue; steps = s.steps; aside = aside_six s }) = cc in
          let x : kept ≡ length s.raw = ap (λ (v : Seen). v.kept) z in
          let y : queued ≡ length s.queue = ap (λ (v : Seen). v.queued) z in
          omega (arith, standing_length s, leb-true (length (standing T s)) room t)
      by false t d = let z : ◌≡◌ {A = ℕ} 0 1 = cc in absurd (omega arith)

-- ---- what is listed are the defined cells and costs

module _ (T : Task) where
  listed_costs : (l : List Grown) → All (λ (c : Grown). c.from < places_most) l → listed (map (rec_of T) l) ≡ with_costs T l
  unfolding listed with_costs All record_of
  listed_costs [] a = refl
  listed_costs (c ∷ l) a =
      let k = rec_tells T c a.0 in
      ap₂ (λ (x y : ℕ). c.id ∷ x ∷ y ∷ listed (map (rec_of T) l)) k.0 k.1 ∙ ap (λ (t : List ℕ). c.id ∷ cost_in T c.id ∷ c.from ∷ t) (listed_costs l a.1)

module _ (E : Engine) (T : Task) (m : List ℕ) (t : Tally) (s : State) (out : List ℕ) (long : memory_words ≤ length m) (H : Holds E T m t s) where
  abbrev S : Stands E T 0 (total_at t.aside) m (counts_at 0 t) s
  S = H.at 0

  length_raw : length (raw_ids s) ≡ t.kept
  unfolding raw_ids
  length_raw = length-map s.raw _ ∙ raw_length E T 0 long S

  length_standing : length (standing T s) ≡ t.kept + 3 * t.queued
  length_standing = standing_length T s ∙ omega (arith, raw_length E T 0 long S, queue_length E T 0 S)

  counted : t.kept + 3 * t.queued ≤ length out → Ok (record { kept = t.kept; queued = t.queued; steps = t.steps; aside = t.aside }) ≡ seen_of T (length out) (going s)
  unfolding seen_of
  counted h = rw (seen_of, le-leb (length (standing T s)) (length out) (omega (arith, length_standing)), raw_length E T 0 long S, queue_length E T 0 S, ← six_are E T H, ← S.steps)

  laid_standing : t.kept + 3 * t.queued ≤ length out → laid t.kept (with_costs T s.queue) (laid 0 (raw_ids s) out) ≡ seen_over T (going s) out
  unfolding seen_over standing
  laid_standing h =
      let z : t.kept ≡ 0 + length (raw_ids s) = omega (arith, length_raw) in
      ap (λ (k : ℕ). laid k (with_costs T s.queue) (laid 0 (raw_ids s) out)) z
      ∙ sym (laid_append (raw_ids s) (with_costs T s.queue) out 0 (omega (arith, length_raw))) ∙ sym (room_yes (standing T s) out (omega (arith, length_standing))).1

  -- there is room: the kept ids were laid, then the queue was listed
  pub told : (out₁ out₂ : List ℕ) → t.kept + 3 * t.queued ≤ length out → out₁ ≡ laid 0 (words_at queue_words t.kept m) out
      → ((q : List Rec) → InQueue E m t.queued q → out₂ ≡ laid t.kept (listed q) out₁)
      → (Ok (record { kept = t.kept; queued = t.queued; steps = t.steps; aside = t.aside }) ≡ seen_of T (length out) (going s)) × (out₂ ≡ seen_over T (going s) out)
  told out₁ out₂ h a b = (counted h, b (map (rec_of T) s.queue) S.queue ∙ rw (listed_costs T s.queue S.places, a, S.raw) (laid_standing h))

  pub told_not : length out < t.kept + 3 * t.queued → (Err Refusal.ListTooLong ≡ seen_of T (length out) (going s)) × (out ≡ seen_over T (going s) out)
  unfolding seen_of seen_over
  told_not h =
      let no = lt-leb (length (standing T s)) (length out) (omega (arith, length_standing)) in
      (rw (seen_of, no), sym (room_no (standing T s) out (omega (arith, length_standing))).1)

-- ---- the whole watch

module _ (E : Engine) (T : Task) (l : List ℕ) (k : ℕ) (m m₁ : List ℕ) (r : Stage) (C : Comes E T (after (in_edition T) l k) m m₁ r) where
  pub watch_refused : (n : Refusal) (out m₂ : List ℕ) → r ≡ Err n → m₂ ≡ cleared 0 memory_words m₁
      → (Err n ≡ seen_of T (length out) (after (in_edition T) l k)) × (out ≡ seen_over T (after (in_edition T) l k) out) × (m₂ ≡ cleared 0 memory_words m)
  unfolding Leads seen_of seen_over
  watch_refused n out m₂ e d =
      let o : after (in_edition T) l k ≡ refused n = subst (λ (y : Stage). Leads E T m₁ y (after (in_edition T) l k)) e C.gives in
      (rw o refl, rw o refl, d ∙ cleared_front memory_words m m₁ C.frame)

  module _ (t : Tally) (e : r ≡ Ok t) where
    ended : (s : State) × (after (in_edition T) l k ≡ going s) × Holds E T m₁ t s
    unfolding Leads
    ended = subst (λ (y : Stage). Leads E T m₁ y (after (in_edition T) l k)) e C.gives

    pub watch_few : (t.kept ≤ raw_most) × (t.queued ≤ queue_most)
    watch_few = ((ended.2.at 0).room, (ended.2.at 0).few)

    pub watch_told : (v : Result Seen Refusal) (out out₂ m₂ m₃ : List ℕ)
        → ((T : Task) (s : State) → Holds E T m₁ t s → (v ≡ seen_of T (length out) (going s)) × (out₂ ≡ seen_over T (going s) out))
        → past memory_words m₂ ≡ past memory_words m₁ → m₃ ≡ cleared 0 memory_words m₂
        → (v ≡ seen_of T (length out) (after (in_edition T) l k)) × (out₂ ≡ seen_over T (after (in_edition T) l k) out) × (m₃ ≡ cleared 0 memory_words m)
    watch_told v out out₂ m₂ m₃ f p d =
        let a = f T ended.0 ended.2 in
        (rw ended.1 a.0, rw ended.1 a.1, d ∙ cleared_front memory_words m m₂ (p ∙ C.frame))
