-- What a night that is served leaves, order by order: what paper 02, e, asks, stated about the definitions. Quoted lines are the paper's words.
use Rattle.std.specs.Prelude.{◌≡◌, List, [], ◌∷◌, ◌++◌, ◌↔◌, ℕ, ◌+◌, ◌-◌, ◌≤◌, ◌<◌, length, get_or, take, drop, Ok, Err}
use Rattle.std.specs.Prelude as Std
use Rattle.refusal.specs.declared.Refusal.{Refusal}
use Rattle.totals.specs.Totals.{no_totals}
use Rattle.covering.specs.declared.Answer.{Answer}
use Rattle.covering.specs.Covering.{values_told, Answered}
use Rattle.orders.specs.declared.Order.{Order}
use Rattle.orders.specs.Orders.{result_for, with_answer, list_in, After, serve_all}

-- ---- where each list begins

-- the places that orders take: the counts in their records, together
unfoldable pub places_of : List Order → ℕ
places_of [] = 0
places_of (o ∷ os) = o.count + places_of os

-- ---- one order among the others: `xs` stand before it and `ys` behind it

-- the records, the memory and the output when the orders before it are served
abbrev pub ahead : List Order → List ℕ → List ℕ → After
ahead xs mem out = serve_all xs mem out 0

-- where its list begins: behind the lists of the orders before it
abbrev pub begins : List Order → List ℕ → List ℕ → ℕ
begins xs mem out = places_of (ahead xs mem out).orders

-- the same once it is served too
abbrev pub through : List Order → Order → List ℕ → List ℕ → After
through xs o mem out = ahead (xs ++ (o ∷ [])) mem out

-- "Each order must answer as if called alone with the room then left in the output": its public function, called with the memory as it then is and with what the lists
-- before leave of the output, answers `answer`, and leaves that memory and that part of the output as they are once it is served
pub record Alone (xs : List Order) (o : Order) (ys : List Order) (mem out : List ℕ) : Type 0 where
  pub answer : Std.Result Answer Refusal
  pub called : Answered (result_for o (length mem) (length out - begins xs mem out)) answer (ahead xs mem out).memory (through xs o mem out).memory (drop (begins xs mem out) (ahead xs mem out).output) (drop (begins xs mem out) (through xs o mem out).output)
  pub long : length (ahead xs mem out).memory ≡ length mem  -- the lengths that it is answered for are those of what it is lent
  pub room : length (drop (begins xs mem out) (ahead xs mem out).output) ≡ length out - begins xs mem out
  pub written : (serve_all (xs ++ (o ∷ ys)) mem out 0).orders ≡ (ahead xs mem out).orders ++ (with_answer o answer ∷ (serve_all ys (through xs o mem out).memory (through xs o mem out).output (begins xs mem out + (values_told answer).count)).orders)
  pub next : places_of (through xs o mem out).orders ≡ begins xs mem out + (values_told answer).count  -- "one behind another": the next list begins where this one ends
  pub kept : take (begins xs mem out) (through xs o mem out).output ≡ take (begins xs mem out) (ahead xs mem out).output  -- the lists before it stay
  pub last : take (begins xs mem out + (values_told answer).count) (serve_all (xs ++ (o ∷ ys)) mem out 0).output ≡ take (begins xs mem out + (values_told answer).count) (through xs o mem out).output  -- and so does its own, whatever is behind it

-- "A refused order takes no room and the next one runs": the next is answered (`Alone`) for the room that this one was answered for
pub record NoneTaken (xs : List Order) (o : Order) (mem out : List ℕ) (answer : Std.Result Answer Refusal) : Type 0 where
  pub count : (values_told answer).count ≡ 0
  pub steps : (values_told answer).steps ≡ 0
  pub aside : (values_told answer).aside ≡ no_totals
  pub next : places_of (through xs o mem out).orders ≡ begins xs mem out
  pub output : (through xs o mem out).output ≡ (ahead xs mem out).output

-- the output from where its list begins, when the night is over
abbrev pub part_of : List Order → Order → List Order → List ℕ → List ℕ → List ℕ
part_of xs o ys mem out = drop (begins xs mem out) (serve_all (xs ++ (o ∷ ys)) mem out 0).output

-- its public function, called on that part, would answer the same and leave it as it is
pub record Stands (xs : List Order) (o : Order) (ys : List Order) (mem out : List ℕ) (answer : Std.Result Answer Refusal) : Type 0 where
  pub called : Answered (result_for o (length mem) (length out - begins xs mem out)) answer (ahead xs mem out).memory (through xs o mem out).memory (part_of xs o ys mem out) (part_of xs o ys mem out)
  pub room : length (part_of xs o ys mem out) ≡ length out - begins xs mem out

-- ---- the records

-- what a record asks is as it was
pub record Kept (o o' : Order) : Type 0 where
  pub fast : o'.fast ≡ o.fast
  pub inner : o'.inner ≡ o.inner
  pub cell : o'.cell ≡ o.cell
  pub id : o'.id ≡ o.id
  pub cap : o'.cap ≡ o.cap
  pub coverer : o'.coverer ≡ o.coverer
  pub allowance : o'.allowance ≡ o.allowance

-- "written into each record and nothing else in it changed"; d stands for a record behind the last
pub record OnlyAnswered (os os' : List Order) : Type 0 where
  pub long : length os' ≡ length os
  pub each : (d : Order) (k : ℕ) → Kept (get_or os k d) (get_or os' k d)

-- ---- the night's refusal

-- "13 for more than 256 records, nothing changed": then and only then; else all are served
pub record Thirteen (os os' : List Order) (mem mem' out out' : List ℕ) (r : Std.Result Unit Refusal) : Type 0 where
  pub exactly : (r ≡ Err Refusal.TooManyOrders) ↔ (256 < length os)
  pub unchanged : r ≡ Err Refusal.TooManyOrders → (os' ≡ os) × (mem' ≡ mem) × (out' ≡ out)
  pub served : length os ≤ 256 → (r ≡ Ok tt) × (os' ≡ (serve_all os mem out 0).orders) × (mem' ≡ (serve_all os mem out 0).memory) × (out' ≡ (serve_all os mem out 0).output)

-- ---- the whole output

-- the lists of the orders, each for the room that those before it leave
unfoldable pub lists_of : List Order → ℕ → ℕ → List ℕ
lists_of [] memory room = []
lists_of (o ∷ os) memory room = let l = list_in (result_for o memory room) in l ++ lists_of os memory (room - length l)
