-- What a night leaves, order by order (specs/Nights), from its definitions. Assumes nothing.
use Rattle.std.specs.Prelude.{Err}
use Rattle.std.specs.Prelude as Std
use mathlib.Core.Path.{◌≡◌, refl, sym, ap, ap₂, ◌∙◌}
use mathlib.Core.List.{List, [], ◌∷◌, ◌++◌}
use Prim.Native.Nat.{ℕ, zero, suc, ◌+◌, ◌-◌, ◌≤◌, ◌<◌}
use native.Mathlib.Nat.{add-zero, zero-add, add_assoc, sub-zero}
use native.Mathlib.Omega.{arith}
use lib.Dec.{ltb}
use lib.ListN.{length, take, drop, get_or, length-append, length-drop, take-append-drop}
use lib.Seq.{take_at, drop_at, drop-drop, length-take-le, take-add, append_snoc}
use borrow.Author.Tests.{ltb-true}
use Rattle.refusal.specs.declared.Refusal.{Refusal}
use Rattle.refusal.specs.Refusal.{number_told}
use Rattle.cellunion.specs.Memory.{zeros, laid}
use Rattle.cellunion.proofs.Memory.{laid_nil, length_laid, laid_append, laid_start, length_zeros}
use Rattle.std.specs.Prelude.{Ok, Err}
use Rattle.bars.specs.Bars.{Bar, bar_of}
use Rattle.bars.proofs.Early.{early_none}
use Rattle.region.specs.Region.{Area}
use Rattle.run.specs.declared.RegionCoverer.{RegionCoverer}
use Rattle.run.specs.Run.{memory_words}
use Rattle.run.proofs.Lists.{if_ok}
use Rattle.covering.specs.declared.Answer.{Answer}
use Rattle.covering.specs.Covering.{Result, barred, refused, done, checked, result_of, answer_of, values_told, memory_after, output_after}
use Rattle.covering.proofs.Table.{refusal_values}
use Rattle.orders.specs.declared.Order.{Order}
use Rattle.orders.specs.Orders.{area_for, result_for, result_at, with_answer, list_in, laid_from, After, before, serve_all, night_answer, night_of, NightOver}
use Rattle.orders.specs.Nights.{places_of, ahead, begins, Alone, NoneTaken, Stands, Kept, OnlyAnswered, Thirteen, lists_of}
use Rattle.orders.proofs.Laws.{count_is, takes_room, laid_long, serve_one, night_refused, night_all}

-- ---- orders one behind another

-- where zs stand behind xs, zs are served with what xs leave
abbrev Appended : (xs zs : List Order) (mem out : List ℕ) (used : ℕ) → Type 0
Appended xs zs mem out used = let a = serve_all xs mem out used in serve_all (xs ++ zs) mem out used ≡ before a.orders (serve_all zs a.memory a.output (used + places_of a.orders))

append_more : (o : Order) (xs zs : List Order) (mem out : List ℕ) (used : ℕ) → let R = result_at o mem out used in
    Appended xs zs (memory_after R mem) (laid_from used R out) (used + (values_told (answer_of R)).count) → Appended (o ∷ xs) zs mem out used
unfolding places_of
append_more o xs zs mem out used h =
    rw (serve_one o (xs ++ zs) mem out used, serve_one o xs mem out used) (ap (before (with_answer o (answer_of (result_at o mem out used)) ∷ [])) h ∙ rw add_assoc)

serve_append : (xs zs : List Order) (mem out : List ℕ) (used : ℕ) → Appended xs zs mem out used
unfolding serve_all places_of
serve_append [] zs mem out used = rw add-zero
serve_append (o ∷ xs) zs mem out used = append_more o xs zs mem out used (serve_append xs zs _ _ _)

places_append : (xs ys : List Order) → places_of (xs ++ ys) ≡ places_of xs + places_of ys
unfolding places_of
places_append [] ys = sym (zero-add (places_of ys))
places_append (o ∷ xs) ys = rw (places_append xs ys, add_assoc)

-- ---- one order: its list laid over the output, and the memory as long as it was

laid_is : (R : Result) (used : ℕ) (out : List ℕ) → laid_from used R out ≡ laid used (list_in R) out
unfolding laid_from output_after list_in laid
laid_is (barred n) used out = rw add-zero
laid_is (refused n) used out = rw add-zero
laid_is (done l steps aside) used out = rw drop-drop

zeros_long : (n : ℕ) (mem : List ℕ) → n ≤ length mem → length (laid 0 (zeros n) mem) ≡ length mem
zeros_long n mem h = length_laid (zeros n) mem 0 (omega (arith, length_zeros n))

cleared_long : (R : Result) (mem : List ℕ) → memory_words ≤ length mem → length (memory_after R mem) ≡ length mem
unfolding memory_after
cleared_long (barred n) mem h = refl
cleared_long (refused n) mem h = zeros_long (memory_words - 0) mem h
cleared_long (done l steps aside) mem h = zeros_long (memory_words - 0) mem h

checked_long : (c : RegionCoverer) (a : Area) (mem : List ℕ) (R : Result) (b : Bar) → bar_of c a (length mem) ≡ b → length (memory_after (checked b R) mem) ≡ length mem
unfolding checked memory_after
checked_long c a mem R (Ok u) e = cleared_long R mem (early_none c a (length mem) e).long
checked_long c a mem R (Err r) e = refl

-- fewer words than a run needs are never cleared: such an order is barred
memory_long : (o : Order) (mem : List ℕ) (room : ℕ) → length (memory_after (result_for o (length mem) room) mem) ≡ length mem
unfolding result_for result_of
memory_long o mem room = checked_long o.coverer (area_for o.cell o.id o.cap) mem _ _ refl

-- ---- all orders: their lists, laid over the output one behind another

lists_fit : (os : List Order) (memory room : ℕ) → length (lists_of os memory room) ≤ room
unfolding lists_of
lists_fit [] memory room = omega arith
lists_fit (o ∷ os) memory room =
    let l : List ℕ = list_in (result_for o memory room) in
    simp length-append (omega (arith, takes_room o memory room, count_is (result_for o memory room), lists_fit os memory (room - length l)))

-- a night's end, where the orders were served from the place `used` on and l are their lists
record Laid (a : After) (mem out l : List ℕ) (used : ℕ) : Type 0 where
  memory : length a.memory ≡ length mem
  output : a.output ≡ laid used l out
  places : places_of a.orders ≡ length l

-- an order before the others: l is its list, mem' and out' what it leaves, and t the lists of the others
laid_more : (o : Order) (a : After) (mem mem' out out' l t : List ℕ) (used : ℕ) → length mem' ≡ length mem → out' ≡ laid used l out → o.count ≡ length l → used + length l ≤ length out
    → Laid a mem' out' t (used + o.count) → Laid (before (o ∷ []) a) mem out (l ++ t) used
unfolding places_of
laid_more o a mem mem' out out' l t used em eo en h L = record {
  memory = L.memory ∙ em;
  output = L.output ∙ rw (eo, en) (sym (laid_append l t out used h));
  places = omega (arith, length-append l t, L.places);
}

laid_all : (os : List Order) (mem out : List ℕ) (used : ℕ) → used ≤ length out → Laid (serve_all os mem out used) mem out (lists_of os (length mem) (length out - used)) used
unfolding serve_all places_of lists_of
laid_all [] mem out used h = record { memory = refl; output = sym (laid_nil used out); places = refl }
laid_all (o ∷ os) mem out used h =
    let R = result_at o mem out used in
    let mem' = memory_after R mem in
    let out' = laid_from used R out in
    let m : length mem' ≡ length mem = memory_long o mem (length out - used) in
    let f : used + (values_told (answer_of R)).count ≤ length out = omega (arith, takes_room o (length mem) (length out - used)) in
    let r : length out' - (used + (values_told (answer_of R)).count) ≡ (length out - used) - length (list_in R) = omega (arith, laid_long o mem out used h, count_is R) in
    rw (serve_one o os mem out used)
    (laid_more (with_answer o (answer_of R)) _ mem mem' out out' (list_in R) _ used m (laid_is R used out) (count_is R) (omega (arith, count_is R))
    (rw (ap₂ (lists_of os) m r) at (laid_all os mem' out' (used + (values_told (answer_of R)).count) (omega (arith, laid_long o mem out used h)))))

-- "one behind another in one output": the lists lie end to end from the output's first place on, and what is behind them is as it was
pub end_to_end : (os : List Order) (mem out : List ℕ) → let l = lists_of os (length mem) (length out) in ((serve_all os mem out 0).output ≡ l ++ drop (length l) out) × (places_of (serve_all os mem out 0).orders ≡ length l)
end_to_end os mem out = let L = rw (sub-zero (length out)) at (laid_all os mem out 0 (omega arith)) in (L.output ∙ laid_start (lists_of os (length mem) (length out)) out, L.places)

-- the places that the orders take are places of the output
pub places_fit : (os : List Order) (mem out : List ℕ) → places_of (serve_all os mem out 0).orders ≤ length out
places_fit os mem out = omega (arith, (end_to_end os mem out).1, lists_fit os (length mem) (length out))

-- ---- one order among the others

module _ (xs : List Order) (mem out : List ℕ) where
  -- the memory and the output are as long as they were, and the lists of the orders before it lie in the output
  words : length (ahead xs mem out).memory ≡ length mem
  words = (laid_all xs mem out 0 (omega arith)).memory

  long : length (ahead xs mem out).output ≡ length out
  long = ap length (end_to_end xs mem out).0 ∙ simp (length-append, length-drop) (omega (arith, lists_fit xs (length mem) (length out)))

  fits : begins xs mem out ≤ length (ahead xs mem out).output
  fits = omega (arith, long, places_fit xs mem out)

drop_laid : (at : ℕ) (R : Result) (d : List ℕ) → at ≤ length d → drop at (laid_from at R d) ≡ output_after R (drop at d)
unfolding laid_from
drop_laid at R d h = drop_at (take at d) _ at (length-take-le at d h)

module _ (xs : List Order) (o : Order) (mem out : List ℕ) where
  abbrev its : Result
  its = result_for o (length mem) (length out - begins xs mem out)

  among : (ys : List Order) → serve_all (xs ++ (o ∷ ys)) mem out 0 ≡ before (ahead xs mem out).orders
      (before (with_answer o (answer_of its) ∷ []) (serve_all ys (memory_after its (ahead xs mem out).memory) (laid_from (begins xs mem out) its (ahead xs mem out).output) (begins xs mem out + (values_told (answer_of its)).count)))
  among ys = serve_append xs (o ∷ ys) mem out 0 ∙ rw (zero-add, serve_one, words xs mem out, long xs mem out)

  once : ahead (xs ++ (o ∷ [])) mem out
      ≡ record { orders = (ahead xs mem out).orders ++ (with_answer o (answer_of its) ∷ []); memory = memory_after its (ahead xs mem out).memory; output = laid_from (begins xs mem out) its (ahead xs mem out).output }
  unfolding serve_all
  once = among []

  its_next : begins (xs ++ (o ∷ [])) mem out ≡ begins xs mem out + (values_told (answer_of its)).count
  unfolding places_of
  its_next = rw once (places_append (ahead xs mem out).orders (with_answer o (answer_of its) ∷ []) ∙ rw add-zero)

  its_output : drop (begins xs mem out) (ahead (xs ++ (o ∷ [])) mem out).output ≡ output_after its (drop (begins xs mem out) (ahead xs mem out).output)
  its_output = rw once (drop_laid (begins xs mem out) its (ahead xs mem out).output (fits xs mem out))

-- orders leave the places that are taken when they are served
take_laid : (at : ℕ) (l d : List ℕ) → at ≤ length d → take at (laid at l d) ≡ take at d
unfolding laid
take_laid at l d h = take_at (take at d) _ at (length-take-le at d h)

stays : (xs ys : List Order) (mem out : List ℕ) → take (begins xs mem out) (serve_all (xs ++ ys) mem out 0).output ≡ take (begins xs mem out) (ahead xs mem out).output
stays xs ys mem out =
    let a = ahead xs mem out in
    let h = fits xs mem out in
    rw (serve_append xs ys mem out 0, zero-add, (laid_all ys a.memory a.output (begins xs mem out) h).output) (take_laid (begins xs mem out) _ a.output h)

pub alone : (xs : List Order) (o : Order) (ys : List Order) (mem out : List ℕ) → Alone xs o ys mem out
alone xs o ys mem out = record {
  answer = answer_of (its xs o mem out);
  called = record { answer = refl; memory = ap (λ (a : After). a.memory) (once xs o mem out); output = its_output xs o mem out };
  long = words xs mem out;
  room = rw (length-drop, long xs mem out);
  written = rw (among xs o mem out ys, once xs o mem out);
  next = its_next xs o mem out;
  kept = stays xs (o ∷ []) mem out;
  last = rw (← (its_next xs o mem out), ← (append_snoc xs o ys)) (stays (xs ++ (o ∷ [])) ys mem out);
}

-- what a refusal has by its own public function, it has here
pub refused_takes_none : {xs : List Order} {o : Order} {ys : List Order} {mem out : List ℕ} (A : Alone xs o ys mem out) → 0 < number_told A.answer → NoneTaken xs o mem out A.answer
refused_takes_none {xs} {o} {ys} {mem} {out} A h =
    let at = begins xs mem out in
    let v = refusal_values (its xs o mem out) (drop at (ahead xs mem out).output) (rw A.called.answer at h) in
    let e = ap values_told A.called.answer ∙ v.0 in
    let c : (values_told A.answer).count ≡ 0 = ap (λ (a : Answer). a.count) e in
    record {
      count = c;
      steps = ap (λ (a : Answer). a.steps) e;
      aside = ap (λ (a : Answer). a.aside) e;
      next = omega (arith, A.next);
      output = sym (take-append-drop at _) ∙ ap₂ (λ (x y : List ℕ). x ++ y) A.kept (A.called.output ∙ v.1) ∙ take-append-drop at (ahead xs mem out).output;
    }

-- a list that stands from the place `at` on, with nothing changed before its end, would be laid there again
part : (at c : ℕ) (l : List ℕ) → at ≤ length l → drop at (take (at + c) l) ≡ take c (drop at l)
part at c l h = rw take-add (drop_at (take at l) (take c (drop at l)) at (length-take-le at l h))

stands_in : (R : Result) (at : ℕ) (d d' e : List ℕ) → at ≤ length d' → at ≤ length e → drop at d' ≡ output_after R (drop at d) → take (at + (values_told (answer_of R)).count) e ≡ take (at + (values_told (answer_of R)).count) d'
    → drop at e ≡ output_after R (drop at e)
unfolding answer_of output_after
stands_in (barred n) at d d' e h g f t = refl
stands_in (refused n) at d d' e h g f t = refl
stands_in (done l steps aside) at d d' e h g f t =
    let w : take (length l) (drop at e) ≡ l = sym (part at (length l) e g) ∙ ap (drop at) t ∙ part at (length l) d' h ∙ ap (take (length l)) f ∙ take_at l (drop (length l) (drop at d)) (length l) refl in
    sym (take-append-drop (length l) (drop at e)) ∙ ap (λ (x : List ℕ). x ++ drop (length l) (drop at e)) w

pub stands : {xs : List Order} {o : Order} {ys : List Order} {mem out : List ℕ} (A : Alone xs o ys mem out) → Stands xs o ys mem out A.answer
stands {xs} {o} {ys} {mem} {out} A = record {
  called = record {
    answer = A.called.answer;
    memory = A.called.memory;
    output = stands_in (its xs o mem out) (begins xs mem out) (ahead xs mem out).output (ahead (xs ++ (o ∷ [])) mem out).output (ahead (xs ++ (o ∷ ys)) mem out).output
        (omega (arith, fits xs mem out, long xs mem out, long (xs ++ (o ∷ [])) mem out)) (omega (arith, fits xs mem out, long xs mem out, long (xs ++ (o ∷ ys)) mem out)) A.called.output (rw (← A.called.answer) A.last);
  };
  room = rw (length-drop, long (xs ++ (o ∷ ys)) mem out);
}

-- ---- the records

answered_kept : (o : Order) (a : Std.Result Answer Refusal) → Kept o (with_answer o a)
answered_kept o a = record { fast = refl; inner = refl; cell = refl; id = refl; cap = refl; coverer = refl; allowance = refl }

same_kept : (o : Order) → Kept o o
same_kept o = record { fast = refl; inner = refl; cell = refl; id = refl; cap = refl; coverer = refl; allowance = refl }

pub served_long : (os : List Order) (mem out : List ℕ) (used : ℕ) → length (serve_all os mem out used).orders ≡ length os
unfolding serve_all
served_long [] mem out used = refl
served_long (o ∷ os) mem out used = ap suc (served_long os _ _ _)

served_kept : (os : List Order) (mem out : List ℕ) (used : ℕ) (d : Order) (k : ℕ) → Kept (get_or os k d) (get_or (serve_all os mem out used).orders k d)
unfolding serve_all
served_kept [] mem out used d k = same_kept d
served_kept (o ∷ os) mem out used d zero = answered_kept o _
served_kept (o ∷ os) mem out used d (suc k) = served_kept os _ _ _ d k

pub rest_kept : (os : List Order) (mem out : List ℕ) → OnlyAnswered os (night_of os mem out).orders
unfolding night_of
rest_kept os mem out = if_ok (λ (a : After). OnlyAnswered os a.orders) (ltb 256 (length os)) _ _
    (λ t. record { long = refl; each = λ d k. same_kept (get_or os k d) })
    (λ t. record { long = served_long os mem out 0; each = served_kept os mem out 0 })

-- ---- the contract of a night

-- any two results that it allows are one
pub contract_once : {os os₁ os₂ : List Order} {mem m₁ m₂ out o₁ o₂ : List ℕ} {r r' : Std.Result Unit Refusal} → NightOver os os₁ mem m₁ out o₁ r → NightOver os os₂ mem m₂ out o₂ r'
    → (r ≡ r') × (os₁ ≡ os₂) × (m₁ ≡ m₂) × (o₁ ≡ o₂)
contract_once N M = (N.answer ∙ sym M.answer, N.orders ∙ sym M.orders, N.memory ∙ sym M.memory, N.output ∙ sym M.output)

only_many : (os : List Order) → night_answer os ≡ Err Refusal.TooManyOrders → 256 < length os
unfolding night_answer
only_many os = if_ok (λ (r : Std.Result Unit Refusal). r ≡ Err Refusal.TooManyOrders → 256 < length os) (ltb 256 (length os)) _ _ (λ t e. ltb-true 256 (length os) t) (λ t e. cc)

pub thirteen : {os os' : List Order} {mem mem' out out' : List ℕ} {r : Std.Result Unit Refusal} → NightOver os os' mem mem' out out' r → Thirteen os os' mem mem' out out' r
thirteen {os} {mem = mem} {out = out} N = record {
  exactly = (λ e. only_many os (sym N.answer ∙ e), λ h. (contract_once N (night_refused os mem out h)).0);
  unchanged = λ e. let n = contract_once N (night_refused os mem out (only_many os (sym N.answer ∙ e))) in (n.1, n.2, n.3);
  served = λ h. contract_once N (night_all os mem out h);
}
