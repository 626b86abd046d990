-- Private contracts only; nothing here need be believed: what the engine promises is in specs/Coverer.
-- How the working memory and the engine's counts stand for a state of the defined run, and what each part of the engine does in these words: whatever state
-- the memory stands for before, it stands for the defined next one afterwards. A part that works on the cells of the start cell i counts the leaves that are
-- set aside under it and leaves the other totals alone. Of the queue no more is said than that it is `InQueue`, for the engine e.
use Rattle.std.specs.Prelude.{◌≡◌, ◌≢◌, Bool, true, false, List, [], ◌∷◌, map, ℕ, ◌+◌, ◌-◌, ◌*◌, ◌/◌, ◌%◌, ◌^◌, ◌≤◌, ◌<◌, eqb, length, take, drop}
use Rattle.std.specs.Prelude.{Result}
use Rattle.std.specs.Prelude.Result.{Ok, Err}
use Rattle.refusal.specs.declared.Refusal.{Refusal}
use Rattle.cellid.specs.CellId.{low_bit, leaves_of}
use Rattle.order.specs.Order.{All}
use Rattle.totals.specs.declared.Totals.{Totals}
use Rattle.totals.specs.Totals.{total_at, with_total}
use Rattle.run.specs.Run.{queue_most, raw_most, Task, Grown, Child, State, Outcome, refused, going, depth, sum_of, look, expansion_of, set_aside, add_all, start_as, after, raw_ids, queue_words, memory_words, in_edition}
use Rattle.run.specs.Editions.{weight}
use Rattle.run.specs.Masks.{found, cons_if, children_in}
use Rattle.run.specs.Ground.{Fit, Queued}
use Rattle.run.specs.Sixes.{places_most, aside_from}
use Rattle.candidate.specs.Asking.{asked}
use Rattle.records.specs.declared.Rec.{Rec}
use Rattle.records.specs.Records.{cost_r, from_r, record_of}
use Rattle.queue.specs.declared.Engine.{Engine}
use Rattle.queue.specs.Queue.{InQueue}
use Rattle.coverer.specs.declared.Counts.{Counts}
use Rattle.coverer.specs.declared.Tally.{Tally}
use Rattle.coverer.specs.declared.Brood.{Brood}
use Rattle.coverer.specs.declared.Job.{Job}
use Rattle.coverer.specs.declared.Ran.{Ran}

-- what a part of the work on the cells of one start cell comes to, and what a part of the run comes to
abbrev pub Turn : Type 0
Turn = Result Counts Refusal

abbrev pub Stage : Type 0
Stage = Result Tally Refusal

-- the k words from the word a on
unfoldable pub words_at : ℕ → ℕ → List ℕ → List ℕ
words_at a k m = take k (drop a m)

-- the words from a on
unfoldable pub past : ℕ → List ℕ → List ℕ
past a m = drop a m

-- the j-th cell of a brood
abbrev pub child_at : Brood → ℕ → ℕ
child_at b j = b.base + (2 * j + 1) * b.unit

-- whether the place j is in a set
abbrev pub is_in : ℕ → ℕ → Bool
is_in set j = eqb (set / 2 ^ j % 2) 1

-- the child at the place j, if there is one, and the children from the place j on, ascending
unfoldable pub child_if : Brood → ℕ → List Child
child_if b j = cons_if (is_in b.present j) (record { id = child_at b j; ends = is_in b.terminal j }) []

unfoldable pub children_from : Brood → ℕ → List Child
children_from b j = children_in (child_at b) (b.places - j) (b.present / 2 ^ j) (b.terminal / 2 ^ j) j

-- the leaves of a list of children
abbrev pub leaves_in : List Child → ℕ
leaves_in l = sum_of (λ (k : Child). leaves_of k.id) l

-- the brood of a record: its places are n levels down
unfoldable pub brood_of : ℕ → Rec → Brood
brood_of n r = record {
  from = from_r r;
  base = r.id - low_bit r.id;
  unit = low_bit r.id / 2 ^ (2 * n);
  places = 2 ^ (2 * n);
  present = r.present;
  terminal = r.terminal;
}

-- leaves set aside: outer only
unfoldable pub aside_of : Bool → Counts → ℕ → Counts
aside_of true t n = t
aside_of false t n = record { kept = t.kept; queued = t.queued; aside = t.aside + n; steps = t.steps }

abbrev pub grown : ℕ → ℕ → Grown
grown i id = record { from = i; id = id }

-- records as they are listed: each one's id followed by its cost and its start cell's place
unfoldable pub listed : List Rec → List ℕ
listed [] = []
listed (r ∷ l) = r.id ∷ cost_r r ∷ from_r r ∷ listed l

-- a set-aside total of at most n
unfoldable pub AsideUpTo : ℕ → Turn → Type 0
AsideUpTo n (Err r) = Unit
AsideUpTo n (Ok t) = t.aside ≤ n

module _ (T : Task) where
  -- a queued cell's record: the cell, the two sets of its expansion, its cost and its start cell's place
  abbrev pub rec_of : Grown → Rec
  rec_of c = let f = found T (depth T.asked c.id) c.id in record_of (weight T.asked) c.from c.id f.present f.terminal

  -- a record that was queued
  pub record Taken (r : Rec) : Type 0 where
    pub cell : Queued T r.id
    pub place : from_r r < places_most
    pub is : r ≡ rec_of (grown (from_r r) r.id)

  -- the taken cell handed on to its children: what failed is set aside, then the children are added
  unfoldable pub hand_on : Grown → State → Outcome
  hand_on c s = add_all (in_edition T) c.from (expansion_of T c.id).children (set_aside T.asked c.from (expansion_of T c.id).failed s)

  -- a start cell, by what the look at it says
  abbrev pub start_one : Grown → State → Outcome
  start_one c = start_as (in_edition T) (look T c.id) c

-- how far a run is, for work on the cells of the start cell i
abbrev pub counts_at : ℕ → Tally → Counts
counts_at i t = record { kept = t.kept; queued = t.queued; aside = total_at t.aside i; steps = t.steps }

-- what a job's run is set to
abbrev pub task : Job → Task
task j = asked j.asking

-- what the engine answers of a run that is over
abbrev pub ran_of : Tally → Ran
ran_of t = record { count = t.kept; steps = t.steps; aside = t.aside }

-- what a turn of the start cell i comes to for the run, where the totals were x before
unfoldable pub stage_after : Turn → Totals → ℕ → Stage
stage_after (Err r) x i = Err r
stage_after (Ok t) x i = Ok (record { kept = t.kept; queued = t.queued; steps = t.steps; aside = with_total x i t.aside })

module _ (e : Engine) (T : Task) where
  -- in a turn of the start cell i: the memory m and the counts t stand for the state s, where v tells the totals of the other start cells
  pub record Stands (i : ℕ) (v : ℕ → ℕ) (m : List ℕ) (t : Counts) (s : State) : Type 0 where
    pub queue : InQueue e m t.queued (map (rec_of T) s.queue)
    pub raw : words_at queue_words t.kept m ≡ raw_ids s
    pub few : t.queued ≤ queue_most
    pub room : t.kept ≤ raw_most
    pub places : All (λ (c : Grown). c.from < places_most) s.queue
    pub aside : t.aside ≡ aside_from s i
    pub others : (j : ℕ) → i ≢ j → v j ≡ aside_from s j
    pub steps : t.steps ≡ s.steps

  -- in such a turn: the memory m and an answer stand for an outcome
  unfoldable pub Gives : ℕ → (ℕ → ℕ) → List ℕ → Turn → Outcome → Type 0
  Gives i v m (Err r) o = o ≡ refused r
  Gives i v m (Ok t) o = (s : State) × (o ≡ going s) × Stands i v m t s

  -- in a turn of the start cell i, from m and t to m' and r: the defined f; the words past a run's are left alone
  pub record Does (i : ℕ) (f : State → Outcome) (m : List ℕ) (t : Counts) (m' : List ℕ) (r : Turn) : Type 0 where
    pub gives : (v : ℕ → ℕ) (s : State) → Stands i v m t s → Gives i v m' r (f s)
    pub frame : past memory_words m' ≡ past memory_words m

  -- between turns: m and t stand for s, whichever start cell's turn comes
  pub record Holds (m : List ℕ) (t : Tally) (s : State) : Type 0 where
    pub at : (i : ℕ) → Stands i (total_at t.aside) m (counts_at i t) s
    pub six : length t.aside.six ≡ places_most

  -- between turns: the memory m and an answer stand for an outcome
  unfoldable pub Leads : List ℕ → Stage → Outcome → Type 0
  Leads m (Err r) o = o ≡ refused r
  Leads m (Ok t) o = (s : State) × (o ≡ going s) × Holds m t s

  -- from m to m' and r: the outcome o
  pub record Comes (o : Outcome) (m m' : List ℕ) (r : Stage) : Type 0 where
    pub gives : Leads m' r o
    pub frame : past memory_words m' ≡ past memory_words m

  -- m and t stand for the state of the defined run from the start cells l after t's steps
  pub record Reached (l : List ℕ) (m : List ℕ) (t : Tally) : Type 0 where
    pub state : State
    pub is : after (in_edition T) l t.steps ≡ going state
    pub holds : Holds m t state

  -- the same, from some start cells
  abbrev pub Live : List ℕ → Tally → Type 0
  Live m t = (l : List ℕ) × All (Fit T.asked) l × (length l ≤ places_most) × Reached l m t
