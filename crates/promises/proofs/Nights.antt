-- The promises for a night's orders: each that is not refused has, about the output as it stands when the night is over, what its public function has.
use Rattle.std.specs.Prelude.{Result, Ok, Err}
use mathlib.Core.Path.{◌≡◌, refl}
use mathlib.Core.List.{List, [], ◌∷◌, ◌++◌}
use Prim.Native.Nat.{ℕ}
use Rattle.refusal.specs.declared.Refusal.{Refusal}
use Rattle.refusal.specs.Refusal.{number_told}
use Rattle.refusal.proofs.Laws.{number_positive}
use Rattle.covering.specs.declared.Answer.{Answer}
use Rattle.covering.specs.Covering.{values_told}
use Rattle.orders.specs.declared.Order.{Order}
use Rattle.orders.specs.Orders.{kind_of, area_for, result_for}
use Rattle.orders.specs.Nights.{ahead, Alone, part_of}
use Rattle.orders.proofs.Nights.{stands}
use Rattle.promises.specs.Answers.{Promised}
use Rattle.promises.proofs.Answers.{keeps}

pub order_keeps : {xs : List Order} {o : Order} {ys : List Order} {mem out : List ℕ} (A : Alone xs o ys mem out) {r : Answer} → A.answer ≡ Ok r
    → Promised (kind_of o.fast o.inner) o.coverer (area_for o.cell o.id o.cap) o.allowance r (part_of xs o ys mem out)
unfolding result_for
order_keeps {xs} {o} {ys} {mem} {out} A {r} z =
    let S = stands A in
    keeps (kind_of o.fast o.inner) o.coverer (area_for o.cell o.id o.cap) o.allowance r (ahead xs mem out).memory (ahead (xs ++ (o ∷ [])) mem out).memory (part_of xs o ys mem out) (part_of xs o ys mem out)
    (rw (A.long, S.room, ← z) S.called)

told_done : (a : Result Answer Refusal) → number_told a ≡ 0 → a ≡ Ok (values_told a)
told_done (Ok r) z = refl
told_done (Err r) z = absurd (number_positive r z)

-- by the number that the record has
pub order_done : {xs : List Order} {o : Order} {ys : List Order} {mem out : List ℕ} (A : Alone xs o ys mem out) → number_told A.answer ≡ 0
    → Promised (kind_of o.fast o.inner) o.coverer (area_for o.cell o.id o.cap) o.allowance (values_told A.answer) (part_of xs o ys mem out)
order_done A z = order_keeps A (told_done A.answer z)
