-- The promises for the public functions: from "the function answered, and didn't refuse" to demand 3 about the first `count` words of the output. What a function
-- answered, and what stands in the output, is said by its contract (`Answered` of the crate covering).
use Rattle.std.specs.Prelude.{◌≡◌, true, false, List, ℕ, ◌+◌, ◌*◌, ◌^◌, ◌≤◌, ◌<◌, length, take, get_or}
use Rattle.cellid.specs.CellId.{level_of}
use Rattle.order.specs.Order.{All}
use Rattle.cellunion.specs.CellUnion.{covers, Apart}
use Rattle.denorm.specs.Denorm.{OnStep}
use Rattle.region.specs.Region.{Area, list_area, bound_of}
use Rattle.run.specs.declared.RegionCoverer.{RegionCoverer}
use Rattle.fast.specs.Memory.{starts_for, fast_covering_for}
use Rattle.totals.specs.Totals.{no_totals, six_of, total_at}
use Rattle.run.specs.Run.{State, going, raw_ids, aside_total, sum_of, leaves_of}
use Rattle.run.specs.Ground.{Disjoint, grown_from}
use Rattle.run.specs.Sixes.{aside_six, sum_of_six}
use Rattle.coverer.specs.Coverer.{course_of}
use Rattle.covering.specs.declared.Answer.{Answer}
use Rattle.covering.specs.declared.Ending.{Ending}
use Rattle.covering.specs.declared.Kind.{Kind}
use Rattle.covering.specs.Covering.{asked_of, ran_of, list_of}
use Rattle.promises.specs.Promises.{OnLevels, Outer, Inner}

-- every leaf of the first list lies under the second
abbrev pub CoversAll : List ℕ → List ℕ → Type 0
CoversAll l m = (n : ℕ) → covers l n ≡ true → covers m n ≡ true

-- an outer function answered r, with `out` as the output afterwards
pub record OuterDone (e : Ending) (c : RegionCoverer) (a : Area) (allowance : ℕ) (r : Answer) (out : List ℕ) : Type 0 where
  pub state : State
  pub ran : ran_of false c a allowance ≡ going state  -- demand 2's run
  pub taken : r.steps ≡ state.steps
  pub totals : r.aside ≡ aside_six state  -- "the reported set-aside total is theirs", told by start cell
  pub sum : sum_of_six r.aside ≡ aside_total state  -- "Their sum is the old total"
  -- the leaves set aside under the start cell k, and those of the raw cells that grew from it, are its leaves
  pub each : (k : ℕ) → k < length (starts_for c (bound_of a)) → total_at r.aside k + sum_of leaves_of (grown_from k state.raw) ≡ leaves_of (get_or (starts_for c (bound_of a)) k 0)
  pub none : (k : ℕ) → length (starts_for c (bound_of a)) ≤ k → total_at r.aside k ≡ 0  -- "zero where there is no such start cell"
  -- each is at most a face's leaves, and all are at most six faces'; what lies under two start cells counts twice
  pub most : All (λ n. n ≤ 2 ^ 60) (six_of r.aside) × (sum_of_six r.aside ≤ 6 * 2 ^ 60)
  pub counted : r.count ≡ length (take r.count out)  -- the output has so many words
  pub list : take r.count out ≡ list_of e c (raw_ids state)  -- the raw list in the order kept, or the one that is made of it
  pub keeps : Outer (course_of (asked_of c false) a) (starts_for c (bound_of a)) state (take r.count out)
  pub once : c.level_mod ≡ 1 → Disjoint (raw_ids state)  -- no two raw cells overlap; with level_mod above 1 start cells may, and raw cells with them
  pub levels : e ≡ Ending.Covering → OnLevels (asked_of c false) (take r.count out)
  pub covered : (ids : List ℕ) → a ≡ list_area ids → CoversAll ids (take r.count out)  -- "covers every leaf of the list, with nothing asked about the tests"

-- an inner function: the set-aside totals are six zeros
pub record InnerDone (e : Ending) (c : RegionCoverer) (a : Area) (allowance : ℕ) (r : Answer) (out : List ℕ) : Type 0 where
  pub state : State
  pub ran : ran_of true c a allowance ≡ going state
  pub taken : r.steps ≡ state.steps
  pub totals : r.aside ≡ no_totals
  pub counted : r.count ≡ length (take r.count out)
  pub list : take r.count out ≡ list_of e c (raw_ids state)
  pub keeps : Inner (course_of (asked_of c true) a) (starts_for c (bound_of a)) state (take r.count out)
  pub once : c.level_mod ≡ 1 → Disjoint (raw_ids state)
  pub levels : e ≡ Ending.Covering → OnLevels (asked_of c true) (take r.count out)
  pub none_outside : (ids : List ℕ) → a ≡ list_area ids → CoversAll (take r.count out) ids  -- of a list, "the inner answer has no leaf outside it"

-- the quick covering of the region's bound: its leaves are covered, by cells that don't overlap, of levels from min to max in whole steps
pub record FastDone (c : RegionCoverer) (a : Area) (r : Answer) (out : List ℕ) : Type 0 where
  pub taken : r.steps ≡ 0
  pub totals : r.aside ≡ no_totals
  pub counted : r.count ≡ length (take r.count out)
  pub list : take r.count out ≡ fast_covering_for c (bound_of a)
  pub missing : CoversAll (bound_of a) (take r.count out)
  pub apart : Apart (take r.count out)
  pub levels : All (λ id. OnStep c.min_level c.max_level c.level_mod (level_of id)) (take r.count out)

-- what is promised of each kind of answer
unfoldable pub Promised : Kind → RegionCoverer → Area → ℕ → Answer → List ℕ → Type 0
Promised (Kind.Outer e) c a allowance r out = OuterDone e c a allowance r out
Promised (Kind.Inner e) c a allowance r out = InnerDone e c a allowance r out
Promised Kind.Fast c a allowance r out = FastDone c a r out
