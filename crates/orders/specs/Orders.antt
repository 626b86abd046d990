-- A night's orders (paper 02, e): what each record, the working memory, the output and the number are afterwards. Quoted lines are the paper's words.
use Rattle.std.specs.Prelude.{◌≡◌, Bool, true, false, List, [], ◌∷◌, ◌++◌, ℕ, ◌+◌, ◌-◌, ltb, length, take, drop, Ok, Err}
use Rattle.std.specs.Prelude as Std
use Rattle.refusal.specs.declared.Refusal.{Refusal}
use Rattle.refusal.specs.Refusal.{number_told}
use Rattle.cell.specs.declared.Cap.{Cap}
use Rattle.region.specs.Region.{Area, cap_area, cell_area}
use Rattle.covering.specs.declared.Answer.{Answer}
use Rattle.covering.specs.declared.Ending.{Ending}
use Rattle.covering.specs.declared.Kind.{Kind}
use Rattle.covering.specs.Covering.{Result, barred, refused, done, result_of, answer_of, values_told, memory_after, output_after}
use Rattle.orders.specs.declared.Order.{Order}

-- ---- one order

-- "its kind (outer, inner or fast)": of an order that says fast, inner says nothing
abbrev pub kind_of : Bool → Bool → Kind
kind_of true inner = Kind.Fast
kind_of false true = Kind.Inner Ending.Covering
kind_of false false = Kind.Outer Ending.Covering

-- "region (cap or cell)": the cell of that id, or the cap
abbrev pub area_for : Bool → ℕ → Cap → Area
area_for true id cap = cell_area id
area_for false id cap = cap_area cap

-- "Each order must answer as if called alone": what it comes to, with so many words of working memory and so much room
unfoldable pub result_for : Order → ℕ → ℕ → Result
result_for o memory room = result_of (kind_of o.fast o.inner) o.coverer (area_for o.cell o.id o.cap) o.allowance memory room

-- "with the room then left in the output", of which `used` places are taken
abbrev pub result_at : Order → List ℕ → List ℕ → ℕ → Result
result_at o mem out used = result_for o (length mem) (length out - used)

-- "with count, steps, set-aside and answer number written into each record and nothing else in it changed"
abbrev pub with_answer : Order → Std.Result Answer Refusal → Order
with_answer o a = record {
  number = number_told a;
  count = (values_told a).count;
  steps = (values_told a).steps;
  aside = (values_told a).aside;
  fast = o.fast;
  inner = o.inner;
  cell = o.cell;
  id = o.id;
  cap = o.cap;
  coverer = o.coverer;
  allowance = o.allowance;
}

-- the list that a result has: "A refused order takes no room"
unfoldable pub list_in : Result → List ℕ
list_in (barred n) = []
list_in (refused n) = []
list_in (done l steps aside) = l

-- "one behind another in one output": behind the places that are taken the output is as the order alone leaves it
unfoldable pub laid_from : ℕ → Result → List ℕ → List ℕ
laid_from used R out = take used out ++ output_after R (drop used out)

-- ---- the night

-- the records, the working memory and the output afterwards
pub record After : Type 0 where
  pub orders : List Order
  pub memory : List ℕ
  pub output : List ℕ

-- records that were served stand before the others
abbrev pub before : List Order → After → After
before os a = record { orders = os ++ a.orders; memory = a.memory; output = a.output }

-- one order after another, where `used` places of the output are taken
unfoldable pub serve_all : List Order → List ℕ → List ℕ → ℕ → After
serve_all [] mem out used = record { orders = []; memory = mem; output = out }
serve_all (o ∷ os) mem out used =
    let R = result_at o mem out used in
    before (with_answer o (answer_of R) ∷ []) (serve_all os (memory_after R mem) (laid_from used R out) (used + length (list_in R)))

-- "13 for more than 256 records, nothing changed, checked before any order"
unfoldable pub night_answer : List Order → Std.Result Unit Refusal
night_answer os = elim (ltb 256 (length os)) [ true ↦ Err Refusal.TooManyOrders | false ↦ Ok tt ]

unfoldable pub night_of : List Order → List ℕ → List ℕ → After
night_of os mem out = elim (ltb 256 (length os)) [ true ↦ record { orders = os; memory = mem; output = out } | false ↦ serve_all os mem out 0 ]

-- what is ensured of a night
pub record NightOver (os os' : List Order) (mem mem' out out' : List ℕ) (r : Std.Result Unit Refusal) : Type 0 where
  pub answer : r ≡ night_answer os
  pub orders : os' ≡ (night_of os mem out).orders
  pub memory : mem' ≡ (night_of os mem out).memory
  pub output : out' ≡ (night_of os mem out).output

-- what is ensured of one order, for the function that serves it
pub record Served (o : Order) (used : ℕ) (r : Std.Result Answer Refusal) (mem mem' out out' : List ℕ) : Type 0 where
  pub answer : r ≡ answer_of (result_at o mem out used)
  pub memory : mem' ≡ memory_after (result_at o mem out used) mem
  pub output : out' ≡ laid_from used (result_at o mem out used) out
