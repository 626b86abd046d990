-- Laws of the definitions: an order takes no more than the room that it is given; one order served; the orders before place i are served and the rest are to come. Assumes nothing.
use Rattle.std.specs.Prelude.{Ok, Err}
use Rattle.std.specs.Prelude as Std
use mathlib.Core.Path.{◌≡◌, refl, ap, ◌∙◌}
use mathlib.Core.List.{List, [], ◌∷◌, ◌++◌, append_assoc, append-nil}
use Prim.Native.Nat.{ℕ, suc, ◌+◌, ◌-◌, ◌≤◌, ◌<◌}
use native.Mathlib.Omega.{arith}
use native.Mathlib.Numerals.{add-one}
use lib.ListN.{length, take, drop, set, get_or, length-append, length-drop, length-set}
use lib.Seq.{take-length, drop-length, drop-cons, take-suc-set, drop-set-lt, length-take-le}
use borrow.Author.Tests.{lt-ltb, le-ltb}
use borrow.Author.Rules.{part_to_end}
use borrow.Rule.Slice.PartMut.{mid_of, put_mid}
use Rattle.refusal.specs.declared.Refusal.{Refusal}
use Rattle.cellunion.proofs.Memory.{past_end}
use Rattle.region.specs.Region.{Area}
use Rattle.covering.specs.declared.Answer.{Answer}
use Rattle.covering.specs.declared.Kind.{Kind}
use Rattle.covering.specs.Covering.{Result, barred, refused, done, result_of, answer_of, values_told, memory_after, output_after, Answered}
use Rattle.covering.proofs.Table.{Sound, result_sound}
use Rattle.orders.specs.declared.Order.{Order}
use Rattle.orders.specs.Orders.{kind_of, area_for, result_for, result_at, with_answer, list_in, laid_from, After, before, serve_all, night_answer, night_of, NightOver, Served}

-- ---- one order

sound_count : (room : ℕ) (R : Result) → Sound room R → (values_told (answer_of R)).count ≤ room
unfolding Sound answer_of
sound_count room (barred n) h = omega arith
sound_count room (refused n) h = omega arith
sound_count room (done l steps aside) h = h

-- the count of an answer is that of its list
pub count_is : (R : Result) → (values_told (answer_of R)).count ≡ length (list_in R)
unfolding answer_of list_in
count_is (barred n) = refl
count_is (refused n) = refl
count_is (done l steps aside) = refl

-- it takes no more than the room that it is given
pub takes_room : (o : Order) (memory room : ℕ) → (values_told (answer_of (result_for o memory room))).count ≤ room
unfolding result_for
takes_room o memory room = sound_count room _ (result_sound (kind_of o.fast o.inner) o.coverer (area_for o.cell o.id o.cap) o.allowance memory room)

-- the output stays as long as it was
output_long : (R : Result) (out : List ℕ) → (values_told (answer_of R)).count ≤ length out → length (output_after R out) ≡ length out
unfolding answer_of output_after
output_long (barred n) out h = refl
output_long (refused n) out h = refl
output_long (done l steps aside) out h = length-append l (drop (length l) out) ∙ omega (arith, length-drop (length l) out)

pub laid_long : (o : Order) (mem out : List ℕ) (used : ℕ) → used ≤ length out → length (laid_from used (result_at o mem out used) out) ≡ length out
unfolding laid_from
laid_long o mem out used h =
    let fits : (values_told (answer_of (result_at o mem out used))).count ≤ length (drop used out) = rw (length-drop used out) (takes_room o (length mem) (length out - used)) in
    omega (arith, length-append (take used out) (output_after (result_at o mem out used) (drop used out)), length-take-le used out h, output_long (result_at o mem out used) (drop used out) fits, length-drop used out)

-- the part of the output from `used` on was lent whole, and is laid back
module _ (o : Order) (used : ℕ) (mem mem' out l : List ℕ) (r : Std.Result Answer Refusal) (k : Kind) (a : Area) (ek : k ≡ kind_of o.fast o.inner) (ea : a ≡ area_for o.cell o.id o.cap) where
  pub served_is : Answered (result_of k o.coverer a o.allowance (length mem) (length (mid_of used (length out - used) out))) r mem mem' (mid_of used (length out - used) out) l
      → Served o used r mem mem' out (put_mid used (length out - used) out l)
  unfolding laid_from result_for
  served_is = rw (ek, ea, part_to_end out used, length-drop used out) (λ A. record {
    answer = A.answer;
    memory = A.memory;
    output = ap (λ (p : List ℕ). take used out ++ p) (past_end out l used ∙ A.output);
  })

-- the order takes as many places as its answer counts
pub serve_one : (o : Order) (os : List Order) (mem out : List ℕ) (used : ℕ) → let R = result_at o mem out used in
    serve_all (o ∷ os) mem out used ≡ before (with_answer o (answer_of R) ∷ []) (serve_all os (memory_after R mem) (laid_from used R out) (used + (values_told (answer_of R)).count))
unfolding serve_all
serve_one o os mem out used = rw (serve_all, count_is)

-- ---- the orders before place i are served, and the rest are to come

-- the rest of the defined night from here is the whole night
pub record Going (night : After) (i used : ℕ) (os : List Order) (mem out : List ℕ) : Type 0 where
  pub same : night ≡ before (take i os) (serve_all (drop i os) mem out used)
  pub room : used ≤ length out

pub going_start : (os : List Order) (mem out : List ℕ) → Going (serve_all os mem out 0) 0 0 os mem out
going_start os mem out = record { same = refl; room = omega arith }

-- d stands for an order where a place has none
module _ (night : After) (i used : ℕ) (os : List Order) (mem out : List ℕ) (d : Order) (r : Std.Result Answer Refusal) (mem' out' : List ℕ) (h : i < length os) (g : Going night i used os mem out)
    (s : Served (get_or os i d) used r mem mem' out out') where
  step_is : before (take i os) (serve_all (drop i os) mem out used)
      ≡ before (take (i + 1) (set os i (with_answer (get_or os i d) r))) (serve_all (drop (i + 1) (set os i (with_answer (get_or os i d) r))) mem' out' (used + (values_told r).count))
  step_is = rw (drop-cons os i d h, add-one i, take-suc-set os i (with_answer (get_or os i d) r) h, drop-set-lt (suc i) os i (with_answer (get_or os i d) r) (omega arith), serve_one, s.answer, s.memory, s.output, append_assoc)

  -- what is taken afterwards fits into the output
  pub room_after : used + (values_told r).count ≤ length out'
  room_after = rw (s.answer, s.output, laid_long (get_or os i d) mem out used g.room) (omega (arith, g.room, takes_room (get_or os i d) (length mem) (length out - used)))

  pub going_more : Going night (i + 1) (used + (values_told r).count) (set os i (with_answer (get_or os i d) r)) mem' out'
  going_more = record { same = g.same ∙ step_is; room = room_after }

-- ---- where the loop stands: of the orders ys the first i are served

pub record Turn (ys : List Order) (ms os : List ℕ) (i used : ℕ) (orders : List Order) (memory output : List ℕ) : Type 0 where
  pub within : i ≤ length ys
  pub long : length orders ≡ length ys
  pub output_long : length output ≡ length os
  pub going : Going (serve_all ys ms os 0) i used orders memory output

pub start : (ys : List Order) (ms os : List ℕ) → Turn ys ms os 0 0 ys ms os
start ys ms os = record { within = omega arith; long = refl; output_long = refl; going = going_start ys ms os }

-- the turn after, once the order at its place was answered with r
module _ {ys : List Order} {ms os : List ℕ} {i used : ℕ} {orders : List Order} {memory output : List ℕ} (t : Turn ys ms os i used orders memory output) (h : i < length ys) (d : Order) (r : Std.Result Answer Refusal) (mem' out' : List ℕ)
    (s : Served (get_or orders i d) used r memory mem' output out') where
  inside : i < length orders
  inside = omega (arith, t.long, h)

  pub fits_after : used + (values_told r).count ≤ length out'
  fits_after = room_after (serve_all ys ms os 0) i used orders memory output d r mem' out' inside t.going s

  pub next : length out' ≡ length output → Turn ys ms os (i + 1) (used + (values_told r).count) (set orders i (with_answer (get_or orders i d) r)) mem' out'
  next f = record {
    within = omega (arith, h);
    long = length-set orders i (with_answer (get_or orders i d) r) ∙ t.long;
    output_long = f ∙ t.output_long;
    going = going_more (serve_all ys ms os 0) i used orders memory output d r mem' out' inside t.going s;
  }

-- ---- the whole night

pub night_refused : (os : List Order) (mem out : List ℕ) → 256 < length os → NightOver os os mem mem out out (Err Refusal.TooManyOrders)
unfolding night_answer night_of
night_refused os mem out h =
    let e = lt-ltb 256 (length os) h in
    record { answer = rw (night_answer, e); orders = rw (night_of, e); memory = rw (night_of, e); output = rw (night_of, e) }

pub night_serves : (os : List Order) (mem out : List ℕ) → length os ≤ 256 → night_of os mem out ≡ serve_all os mem out 0
unfolding night_of
night_serves os mem out h = rw (night_of, le-ltb 256 (length os) h)

pub night_all : (os : List Order) (mem out : List ℕ) → length os ≤ 256 → let a = serve_all os mem out 0 in NightOver os a.orders mem a.memory out a.output (Ok tt)
unfolding night_answer
night_all os mem out h =
    let e = night_serves os mem out h in
    record { answer = rw (night_answer, le-ltb 256 (length os) h); orders = rw e; memory = rw e; output = rw e }

pub ending : {ys : List Order} {ms os : List ℕ} {i used : ℕ} {orders : List Order} {memory output : List ℕ} → Turn ys ms os i used orders memory output → length ys ≤ 256 → length ys ≤ i → NightOver ys orders ms memory os output (Ok tt)
unfolding serve_all
ending {ys} {ms} {os} {i} {used} {orders} {memory} {output} t few over =
    let e : i ≡ length orders = omega (arith, t.long, t.within, over) in
    let d : serve_all ys ms os 0 ≡ record { orders = orders; memory = memory; output = output } = t.going.same ∙ rw (e, take-length orders, drop-length orders, serve_all, append-nil) in
    rw d at (night_all ys ms os few)
