-- What a call from C comes to: the request and the region made of its numbers, and the papers' number and values in the places that the caller lent.
use Rattle.std.specs.Prelude.{◌≡◌, ◌<◌, ◌≤◌, ◌↔◌, length, List, ℕ, Float}
use Rattle.std.specs.Prelude as Std
use Rattle.refusal.specs.Refusal.{number_told}
use Rattle.ranges.specs.Ranges as Ranges
use Rattle.refusal.specs.declared.Refusal.{Refusal}
use Rattle.tokens.specs.Tokens as Names
use Rattle.cell.specs.declared.Cap.{Cap}
use Rattle.region.specs.Region.{Area, cap_area}
use Rattle.run.specs.declared.RegionCoverer.{RegionCoverer}
use Rattle.totals.specs.Totals.{six_of}
use Rattle.covering.specs.declared.Answer.{Answer}
use Rattle.orders.specs.declared.Order.{Order}
use Rattle.orders.specs.Orders.{NightOver, night_answer, serve_all}
use Rattle.covering.specs.Covering.{Result, answer_of, values_told, memory_after, output_after}

-- the numbers of a request
abbrev pub region_coverer : ℕ → ℕ → ℕ → ℕ → ℕ → RegionCoverer
region_coverer low top step cells edition = record { min_level = low; max_level = top; level_mod = step; max_cells = cells; edition = edition }

-- "a cap is a centre of three 64-bit floats and a squared chord radius"
abbrev pub cap_of : Float → Float → Float → Float → Cap
cap_of x y z radius = record { center = record { x = x; y = y; z = z }; radius = radius }

abbrev pub cap_given : Float → Float → Float → Float → Area
cap_given x y z radius = cap_area (cap_of x y z radius)

-- an answer's number and values
pub record Told (a : Std.Result Answer Refusal) (number count steps : ℕ) (aside : List ℕ) : Type 0 where
  pub is : number ≡ number_told a
  pub counted : count ≡ (values_told a).count
  pub taken : steps ≡ (values_told a).steps
  pub totals : aside ≡ six_of (values_told a).aside

-- all that a call leaves: what was told, the working memory and the output
pub record Called (R : Result) (number : ℕ) (mem mem' out out' : List ℕ) (count steps : ℕ) (aside : List ℕ) : Type 0 where
  pub told : Told (answer_of R) number count steps aside
  pub memory : mem' ≡ memory_after R mem
  pub output : out' ≡ output_after R out

-- ---- by either engine, or both

-- all that such a call leaves: what any call leaves, whichever engines were asked, and that they agree
pub record CalledBy (R : Result) (number : ℕ) (mem mem' out out' : List ℕ) (count steps : ℕ) (aside : List ℕ) (agree : ℕ) : Type 0 where
  pub called : Called R number mem mem' out out' count steps aside
  pub agreed : agree ≡ 1

-- ---- lists: as pairs and back, and two as one

-- all that such a call leaves: the answer's number, how many words were written, and the output
pub record CalledOf (R : Std.Result (List ℕ) Refusal) (number : ℕ) (out out' : List ℕ) (count : ℕ) : Type 0 where
  pub is : number ≡ number_told (Ranges.list_answer R)
  pub counted : count ≡ Ranges.words_of (Ranges.list_answer R)
  pub output : out' ≡ Ranges.output_after R out

-- ---- tokens

-- an answer's number, how many bytes or ids were written, and the number of the first that is bad
pub record NamesTold (a : Std.Result ℕ Refusal) (number count first : ℕ) : Type 0 where
  pub is : number ≡ number_told a
  pub counted : count ≡ Ranges.words_of a
  pub named : first ≡ Names.first_of a

-- all that such a call leaves
pub record NamesCalled (R : Std.Result (List ℕ) Refusal) (number : ℕ) (out out' : List ℕ) (count first : ℕ) : Type 0 where
  pub told : NamesTold (Names.length_of R) number count first
  pub output : out' ≡ Names.output_after R out

-- ---- a night

-- all that such a call leaves: the number, and what the night leaves
pub record NightCalled (os os' : List Order) (number : ℕ) (mem mem' out out' : List ℕ) : Type 0 where
  pub is : number ≡ number_told (night_answer os)
  pub over : NightOver os os' mem mem' out out' (night_answer os)

-- "13 for more than 256 records, nothing changed": the number then and only then; else 0, and all are served
pub record NightThirteen (os os' : List Order) (number : ℕ) (mem mem' out out' : List ℕ) : Type 0 where
  pub exactly : (number ≡ 13) ↔ (256 < length os)
  pub unchanged : number ≡ 13 → (os' ≡ os) × (mem' ≡ mem) × (out' ≡ out)
  pub served : length os ≤ 256 → (number ≡ 0) × (os' ≡ (serve_all os mem out 0).orders) × (mem' ≡ (serve_all os mem out 0).memory) × (out' ≡ (serve_all os mem out 0).output)
