-- The ways an answer comes about, each with the working memory and the output that it leaves.
use mathlib.Core.Path.{◌≡◌, refl, sym, ap, ◌∙◌, subst}
use mathlib.Core.Bool.{Bool, true, false}
use mathlib.Core.List.{List, ◌++◌, append-nil}
use Prim.Native.Nat.{ℕ, ◌+◌, ◌-◌, ◌≤◌, ◌<◌}
use native.Mathlib.Nat.{sub-zero}
use native.Mathlib.Omega.{arith}
use lib.Dec.{leb}
use lib.ListN.{length, take, drop, length-drop, length-map, drop_of_length-le}
use lib.Seq.{take_all, take_at, drop_at, drop-drop, drop-append-add, length-take-le}
use Rattle.cellid.specs.CellId.{Cell}
use Rattle.order.specs.Order.{All}
use Rattle.region.specs.Region.{Area}
use Rattle.cellunion.specs.CellUnion.{normalise}
use Rattle.denorm.specs.Denorm.{denormalise}
use Rattle.cellunion.specs.Memory.{zeros, laid, normalised, room_for, laid_over}
use Rattle.cellunion.proofs.Memory.{laid_start, drop_more, length_zeros, zeros_add}
use Rattle.cellunion.proofs.Norm.{normalise_normal}
use Rattle.cellunion.proofs.Results.{take_normalised, drop_normalised, length_normal}
use Rattle.totals.specs.declared.Totals.{Totals}
use Rattle.run.specs.declared.RegionCoverer.{RegionCoverer}
use Rattle.run.specs.Run.{raw_most, Outcome, State, Grown, raw_ids, queue_words, memory_words}
use Rattle.run.specs.Sixes.{aside_six}
use Rattle.run.specs.Run as Run
use Rattle.coverer.specs.declared.Ran.{Ran}
use Rattle.coverer.specs.Coverer.{cleared, only_words, engine_answer, engine_memory}
use Rattle.coverer.specs.Engine.{words_at, past}
use Rattle.coverer.proofs.Memory.{words_length, cleared_front, only_words_lem, only_room, only_past}
use Rattle.covering.specs.declared.Answer.{Answer}
use Rattle.covering.specs.declared.Ending.{Ending}
use Rattle.std.specs.Prelude.{Option, Some, None, Ok, Err}
use Rattle.std.specs.Prelude as Std
use Rattle.refusal.specs.declared.Refusal.{Refusal}
use Rattle.bars.specs.Bars.{Bar, bar_of}
use Rattle.covering.specs.Covering.{Result, refused, done, fitted, checked, list_of, left_by, ended_as, ran_of, answer_of, output_after, memory_after, Answered, answer_laid}
use Rattle.bars.proofs.Early.{Valid, early_none}
use Rattle.covering.proofs.Starts.{ran_cells}

-- what is answered is answered whatever it is called
pub answered_as : {R R' : Result} {r r' : Std.Result Answer Refusal} {m n n' o p p' : List ℕ} → R ≡ R' → Answered R' r' m n' o p' → r ≡ r' → n ≡ n' → p ≡ p' → Answered R r m n o p
answered_as {m = m} {o = o} e a x y z = record {
  answer = x ∙ a.answer ∙ ap answer_of (sym e);
  memory = y ∙ a.memory ∙ ap (λ (w : Result). memory_after w m) (sym e);
  output = z ∙ a.output ∙ ap (λ (w : Result). output_after w o) (sym e);
}

-- 1 to 6 leave everything as it was
pub answered_barred : (b : Bar) (R : Result) (n : Refusal) (m o : List ℕ) → b ≡ Err n → Answered (checked b R) (Err n) m m o o
unfolding checked answer_of memory_after output_after
answered_barred b R n m o e = rw (e, checked) (record { answer = refl; memory = refl; output = refl })

-- where nothing bars it, a request is answered as what it comes to
pub answered_open : (b : Bar) (R : Result) (r : Std.Result Answer Refusal) (m m' o o' : List ℕ) → b ≡ Ok tt → Answered R r m m' o o' → Answered (checked b R) r m m' o o'
unfolding checked
answered_open b R r m m' o o' e A = rw (e, checked) A

-- 7 to 10 leave the words of a run zero
answered_late : (n : Refusal) (m o : List ℕ) → Answered (refused n) (Err n) m (cleared 0 memory_words m) o o
unfolding answer_of memory_after output_after
answered_late n m o = record { answer = refl; memory = refl; output = refl }

-- a finished list, laid over the output or with no room there
pub answered_laid : (l m o : List ℕ) (steps : ℕ) (aside : Totals) → Answered (fitted (length o) l steps aside) (answer_laid (room_for l o) steps aside) m (cleared 0 memory_words m) o (laid_over l o)
unfolding fitted room_for laid_over answer_of memory_after output_after
answered_laid l m o steps aside = by (leb (length l) (length o))
  where
    by : (b : Bool) → Answered (elim b [ true ↦ done l steps aside | false ↦ refused Refusal.ListTooLong ]) (answer_laid (elim b [ true ↦ Some (length l) | false ↦ None ]) steps aside) m (cleared 0 memory_words m) o (elim b [ true ↦ laid 0 l o | false ↦ o ])
    by true = record { answer = refl; memory = refl; output = laid_start l o }
    by false = record { answer = refl; memory = refl; output = refl }

-- the words of a run make no difference to what is left
pub fitted_front : (room : ℕ) (l : List ℕ) (steps : ℕ) (aside : Totals) (r : Std.Result Answer Refusal) (m m₁ m₂ o o₂ : List ℕ) → past memory_words m₁ ≡ past memory_words m → Answered (fitted room l steps aside) r m₁ m₂ o o₂ → Answered (fitted room l steps aside) r m m₂ o o₂
unfolding fitted memory_after
fitted_front room l steps aside r m m₁ m₂ o o₂ e A = record { answer = A.answer; memory = A.memory ∙ by (leb (length l) room); output = A.output }
  where
    by : (b : Bool) → memory_after (elim b [ true ↦ done l steps aside | false ↦ refused Refusal.ListTooLong ]) m₁ ≡ memory_after (elim b [ true ↦ done l steps aside | false ↦ refused Refusal.ListTooLong ]) m
    by true = cleared_front memory_words m m₁ e
    by false = cleared_front memory_words m m₁ e

-- ---- the list that is asked for

module _ (n : ℕ) (m : List ℕ) (k : ℕ) (m' : List ℕ) (K : (k ≡ length (normalise (take n m))) × (m' ≡ normalised n m)) where
  front : take k m' ≡ normalise (take n m)
  front = rw (K.0, K.1) (take_normalised n m)

  -- what is left in front may be laid or denormalised
  pub front_asks : n ≤ length m → All Cell (take n m) → length m' ≡ length m → (k ≤ length m') × All Cell (take k m')
  front_asks h C l = (omega (arith, K.0, length_normal n m h C), rw front (normalise_normal (take n m) C).cells)

unfoldable pub LayDone : Ending → RegionCoverer → ℕ → List ℕ → List ℕ → Option ℕ → List ℕ → List ℕ → Type 0
LayDone e c n m o r o' m' = (r ≡ room_for (list_of e c (take n m)) o) × (o' ≡ laid_over (list_of e c (take n m)) o) × (m' ≡ left_by e n m)

module _ (e : Ending) (c : RegionCoverer) (n : ℕ) (m o : List ℕ) (r : Option ℕ) (o' : List ℕ) where
  pub lay_raw : e ≡ Ending.Raw → (r ≡ room_for (take n m) o) × (o' ≡ laid_over (take n m) o) → LayDone e c n m o r o' m
  unfolding LayDone list_of left_by
  lay_raw E h = rw E (h.0, h.1, refl)

  module _ (k : ℕ) (m' : List ℕ) (K : (k ≡ length (normalise (take n m))) × (m' ≡ normalised n m)) where
    pub lay_union : e ≡ Ending.CellUnion → (r ≡ room_for (take k m') o) × (o' ≡ laid_over (take k m') o) → LayDone e c n m o r o' m'
    unfolding LayDone list_of left_by
    lay_union E h = rw E (h.0 ∙ ap (λ (l : List ℕ). room_for l o) (front n m k m' K), h.1 ∙ ap (λ (l : List ℕ). laid_over l o) (front n m k m' K), K.1)

    pub lay_covering : e ≡ Ending.Covering → (r ≡ room_for (denormalise c.min_level c.level_mod (take k m')) o) × (o' ≡ laid_over (denormalise c.min_level c.level_mod (take k m')) o) → LayDone e c n m o r o' m'
    unfolding LayDone list_of left_by
    lay_covering E h =
        rw E (h.0 ∙ ap (λ (l : List ℕ). room_for (denormalise c.min_level c.level_mod l) o) (front n m k m' K), h.1 ∙ ap (λ (l : List ℕ). laid_over (denormalise c.min_level c.level_mod l) o) (front n m k m' K), K.1)

-- ---- the end of a run

-- what is left of the raw list's words from the place j on
pub left_past : (e : Ending) (n j : ℕ) (l : List ℕ) → n ≤ j → n ≤ length l → All Cell (take n l) → drop j (left_by e n l) ≡ drop j l
unfolding left_by
left_past Ending.Raw n j l h r C = refl
left_past Ending.CellUnion n j l h r C = drop_more n j (normalised n l) l h (drop_normalised n l r C)
left_past Ending.Covering n j l h r C = drop_more n j (normalised n l) l h (drop_normalised n l r C)

-- the words from a on, taken out as a part
module _ (a k : ℕ) (m : List ℕ) (K : k ≡ length m - a) where
  part : take k (drop a m) ≡ drop a m
  part = take_all k (drop a m) (omega (arith, length-drop a m))

  pub part_words : (n : ℕ) → take n (take k (drop a m)) ≡ words_at a n m
  unfolding words_at
  part_words n = ap (take n) part

  -- and put back, changed in words before b alone
  pub put_past : (b : ℕ) (l : List ℕ) → a ≤ b → b ≤ length m → drop (b - a) l ≡ drop (b - a) (take k (drop a m)) → past b (take a m ++ (l ++ drop k (drop a m))) ≡ past b m
  unfolding past
  put_past b l h g e =
      let z : a + (b - a) ≡ b = omega arith in
      let t : length (take a m) ≡ a = length-take-le a m (omega arith) in
      let s : l ++ drop k (drop a m) ≡ l = ap (λ (x : List ℕ). l ++ x) (drop_of_length-le (drop a m) {i = k} (omega (arith, length-drop a m))) ∙ append-nil l in
      ap (λ (x : List ℕ). drop b (take a m ++ x)) s
      ∙ ap (λ (j : ℕ). drop j (take a m ++ l)) (sym z ∙ ap (λ (j : ℕ). j + (b - a)) (sym t))
      ∙ drop-append-add (take a m) l (b - a) ∙ e ∙ ap (drop (b - a)) part ∙ drop-drop (b - a) a m ∙ ap (λ (j : ℕ). drop j m) z

-- m has zeros in its first b words, but for the k words from a on; so m', which differs from it in those k alone, has zeros in all once they are cleared
module _ (a b k : ℕ) (m m' : List ℕ) (h : a + k ≤ b) (g : b ≤ length m) (H : m ≡ only_words a b (words_at a k m) m) where
  zeros_first : take a m ≡ zeros a
  unfolding only_words
  zeros_first = ap (take a) H ∙ take_at (zeros a) _ a (length_zeros a)

  zeros_after : drop (a + k) m ≡ zeros (b - (a + k)) ++ drop b m
  zeros_after =
      let l = words_at a k m in
      let n : length l ≡ k = words_length a k m (omega arith) in
      sym (drop-drop k a m) ∙ ap (λ (x : List ℕ). drop k (drop a x)) H ∙ ap (drop k) (only_words_lem a b l m) ∙ drop_at l _ k n ∙ ap (λ (j : ℕ). zeros (b - (a + j)) ++ drop b m) n

  pub wiped : take a m' ≡ take a m → past (a + k) m' ≡ past (a + k) m → laid a (zeros ((a + k) - a)) m' ≡ cleared 0 b m
  unfolding laid past
  wiped t d =
      let x : (a + k) - a ≡ k = omega arith in
      let y : a + (k + (b - (a + k))) ≡ b = omega arith in
      ap (λ (j : ℕ). take a m' ++ (zeros j ++ drop (a + length (zeros j)) m')) x
      ∙ ap (λ (j : ℕ). take a m' ++ (zeros k ++ drop (a + j) m')) (length_zeros k)
      ∙ ap (λ (v : List ℕ). v ++ (zeros k ++ drop (a + k) m')) (t ∙ zeros_first)
      ∙ ap (λ (v : List ℕ). zeros a ++ (zeros k ++ v)) (d ∙ zeros_after)
      ∙ ap (λ (v : List ℕ). zeros a ++ v) (zeros_add k (b - (a + k)) (drop b m))
      ∙ zeros_add a (k + (b - (a + k))) (drop b m)
      ∙ ap (λ (j : ℕ). zeros j ++ drop b m) y
      ∙ sym (laid_start (zeros (b - 0)) m ∙ rw (length_zeros (b - 0), sub-zero))

-- the raw list in the memory behind the queue's words
module _ (e : Ending) (c : RegionCoverer) (n : ℕ) (m : List ℕ) (P : (memory_words ≤ length m) × (n ≤ raw_most) × All Cell (words_at queue_words n m) × (c.min_level ≤ 30) × (0 < c.level_mod)) where
  abbrev ids : List ℕ
  ids = take (length m - queue_words) (drop queue_words m)

  words : take n ids ≡ words_at queue_words n m
  words = part_words queue_words (length m - queue_words) m refl n

  pub lay_asks : (n ≤ length ids) × All Cell (take n ids) × (c.min_level ≤ 30) × (0 < c.level_mod)
  lay_asks = (omega (arith, P.0, P.1, ap length (part queue_words (length m - queue_words) m refl), length-drop queue_words m), subst (All Cell) (sym words) P.2, P.3, P.4)

  pub finish_gives : m ≡ only_words queue_words memory_words (words_at queue_words n m) m → (steps : ℕ) (aside : Totals) (o : List ℕ) (w : Option ℕ) (r : Std.Result Answer Refusal) (l m₂ o₂ : List ℕ)
      → (w ≡ room_for (list_of e c (take n ids)) o) × (o₂ ≡ laid_over (list_of e c (take n ids)) o) × (l ≡ left_by e n ids) → r ≡ answer_laid w steps aside
      → m₂ ≡ laid queue_words (zeros ((queue_words + n) - queue_words)) (take queue_words m ++ (l ++ drop (length m - queue_words) (drop queue_words m))) → Answered (fitted (length o) (list_of e c (words_at queue_words n m)) steps aside) r m m₂ o o₂
  finish_gives H steps aside o w r l m₂ o₂ L R M =
      let j = (queue_words + n) - queue_words in
      answered_as refl (answered_laid (list_of e c (words_at queue_words n m)) m o steps aside)
      (R ∙ ap (λ (v : Option ℕ). answer_laid v steps aside) (L.0 ∙ ap (λ (x : List ℕ). room_for (list_of e c x) o) words))
      (M ∙ wiped queue_words memory_words n m _ (omega (arith, P.1)) P.0 H
      (take_at (take queue_words m) _ queue_words (length-take-le queue_words m (omega (arith, P.0))))
      (put_past queue_words (length m - queue_words) m refl (queue_words + n) l (omega arith) (omega (arith, P.0, P.1)) (ap (drop j) L.2 ∙ left_past e n j ids (omega arith) lay_asks.0 lay_asks.1)))
      (L.1 ∙ ap (λ (x : List ℕ). laid_over (list_of e c x) o) words)

-- the run's answer tells its outcome
pub ran_refused : (o : Outcome) (r : Refusal) → Err r ≡ engine_answer o → o ≡ Run.refused r
unfolding engine_answer
ran_refused (Run.refused k) r e = let z : k ≡ r = cc in ap Run.refused z
ran_refused (Run.going s) r e = let z : ◌≡◌ {A = ℕ} 0 1 = cc in absurd (omega arith)

pub record RanDone (o : Outcome) (v : Ran) : Type 0 where
  pub state : State
  pub is : o ≡ Run.going state
  pub counted : v.count ≡ length (raw_ids state)
  pub taken : v.steps ≡ state.steps
  pub totals : v.aside ≡ aside_six state

pub ran_done : (o : Outcome) (v : Ran) → Ok v ≡ engine_answer o → RanDone o v
unfolding engine_answer raw_ids
ran_done (Run.refused r) v e = let z : ◌≡◌ {A = ℕ} 0 1 = cc in absurd (omega arith)
ran_done (Run.going s) v e =
    let z : v ≡ record { count = length s.raw; steps = s.steps; aside = aside_six s } = cc in
    let x : v.count ≡ length s.raw = ap (λ (w : Ran). w.count) z in
    record { state = s; is = refl; counted = x ∙ sym (length-map s.raw (λ (w : Grown). w.id)); taken = ap (λ (w : Ran). w.steps) z; totals = ap (λ (w : Ran). w.aside) z }

module _ (e : Ending) (inner : Bool) (c : RegionCoverer) (a : Area) (allowance : ℕ) (m o : List ℕ) (none : bar_of c a (length m) ≡ Ok tt) (m₁ : List ℕ) (M : m₁ ≡ engine_memory (ran_of inner c a allowance) m) where
  -- 7, 8 or 9
  pub respond_late : (n : Refusal) → Err n ≡ engine_answer (ran_of inner c a allowance) → Answered (ended_as e c (length o) (ran_of inner c a allowance)) (Err n) m m₁ o o
  unfolding ended_as engine_memory
  respond_late n x =
      let f : ran_of inner c a allowance ≡ Run.refused n = ran_refused _ n x in
      answered_as (ap (ended_as e c (length o)) f) (answered_late n m o) refl (M ∙ ap (λ (w : Outcome). engine_memory w m) f) refl

  module _ (v : Ran) (D : RanDone (ran_of inner c a allowance) v) (same : length m₁ ≡ length m) where
    ended : m₁ ≡ only_words queue_words memory_words (raw_ids D.state) m
    unfolding engine_memory
    ended = M ∙ ap (λ (w : Outcome). engine_memory w m) D.is

    kept_words : words_at queue_words v.count m₁ ≡ raw_ids D.state
    unfolding words_at
    kept_words = ap (λ (x : List ℕ). take v.count (drop queue_words x)) ended ∙ ap (take v.count) (only_words_lem queue_words memory_words (raw_ids D.state) m) ∙ take_at (raw_ids D.state) _ v.count (sym D.counted)

    valid : Valid c a (length m)
    valid = early_none c a (length m) none

    few : queue_words + length (raw_ids D.state) ≤ memory_words
    few = only_room queue_words memory_words (raw_ids D.state) m (omega arith) valid.long (ap length (sym ended) ∙ same)

    pub finish_asks : (memory_words ≤ length m₁) × (v.count ≤ raw_most) × All Cell (words_at queue_words v.count m₁) × (c.min_level ≤ 30) × (0 < c.level_mod)
    finish_asks = (
      omega (arith, same, valid.long),
      omega (arith, D.counted, few),
      subst (All Cell) (sym kept_words) (ran_cells c a (length m) valid inner allowance D.state D.is),
      omega (arith, valid.order, valid.deep),
      valid.«mod».0,
    )

    pub finish_holds : m₁ ≡ only_words queue_words memory_words (words_at queue_words v.count m₁) m₁
    unfolding only_words
    finish_holds = ended ∙ sym (ap (λ (x : List ℕ). only_words queue_words memory_words x m₁) kept_words ∙ ap (λ (x : List ℕ). zeros queue_words ++ (raw_ids D.state ++ (zeros (memory_words - (queue_words + length (raw_ids D.state))) ++ x))) (ap (drop memory_words) ended ∙ only_past queue_words memory_words (raw_ids D.state) m few))

    -- a success, or 10
    pub respond_done : (r : Std.Result Answer Refusal) (m₂ o₂ : List ℕ) → Answered (fitted (length o) (list_of e c (words_at queue_words v.count m₁)) v.steps v.aside) r m₁ m₂ o o₂ → Answered (ended_as e c (length o) (ran_of inner c a allowance)) r m m₂ o o₂
    unfolding ended_as past
    respond_done r m₂ o₂ A =
        let x : ended_as e c (length o) (ran_of inner c a allowance) ≡ fitted (length o) (list_of e c (words_at queue_words v.count m₁)) v.steps v.aside =
        ap (ended_as e c (length o)) D.is ∙ sym (rw (kept_words, D.taken, D.totals)) in
        answered_as x (fitted_front (length o) (list_of e c (words_at queue_words v.count m₁)) v.steps v.aside r m m₁ m₂ o o₂ (ap (drop memory_words) ended ∙ only_past queue_words memory_words (raw_ids D.state) m few) A) refl refl refl
