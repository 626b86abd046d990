-- The run's equations, one for each way that the code goes.
use mathlib.Core.Path.{◌≡◌, refl}
use mathlib.Core.Bool.{Bool, true, false}
use mathlib.Core.List.{[], ◌∷◌, ◌++◌}
use Prim.Native.Nat.{◌≤◌, ◌<◌}
use lib.ListN.{length}
use borrow.Author.Tests.{lt-ltb, le-ltb}
use Rattle.refusal.specs.declared.Refusal.{Refusal}
use Rattle.order.specs.Order.{insert}
use Rattle.run.specs.Run.{Grown, Outcome, State, add, enqueue, going, is_empty, keep, lifts, refused, set_aside, then, expansion_of, Task, queue_most, raw_most, ◌by◌}

pub then_then : (o : Outcome) (f g : State → Outcome) → then (then o f) g ≡ then o (λ s. then (f s) g)
unfolding then
then_then (refused r) f g = refl
then_then (going s) f g = refl

pub then_cong : (o : Outcome) (f g : State → Outcome) → ((s : State) → f s ≡ g s) → then o f ≡ then o g
unfolding then
then_cong (refused r) f g e = refl
then_cong (going s) f g e = e s

pub then_going : (o : Outcome) → then o (λ s. going s) ≡ o
unfolding then
then_going (refused r) = refl
then_going (going s) = refl

module _ (T : Task) (lt : Grown → Grown → Bool) where
  pub keep_go : (c : Grown) (s : State) → length s.raw < raw_most → keep c s ≡ going (record { raw = s.raw ++ (c ∷ []); queue = s.queue; aside = s.aside; steps = s.steps })
  unfolding keep
  keep_go c s h = rw (lt-ltb (length s.raw) raw_most h, keep)

  pub keep_stop : (c : Grown) (s : State) → raw_most ≤ length s.raw → keep c s ≡ refused Refusal.RawFull
  unfolding keep
  keep_stop c s h = rw (le-ltb (length s.raw) raw_most h, keep)

  pub enqueue_go : (c : Grown) (s : State) → length s.queue < queue_most → enqueue lt c s ≡ going (record { raw = s.raw; queue = insert lt c s.queue; aside = s.aside; steps = s.steps })
  unfolding enqueue
  enqueue_go c s h = rw (lt-ltb (length s.queue) queue_most h, enqueue)

  pub enqueue_stop : (c : Grown) (s : State) → queue_most ≤ length s.queue → enqueue lt c s ≡ refused Refusal.QueueFull
  unfolding enqueue
  enqueue_stop c s h = rw (le-ltb (length s.queue) queue_most h, enqueue)

  pub add_none : (c : Grown) (s : State) → is_empty (expansion_of T c.id).children ≡ true → add (T by lt) c false s ≡ going (set_aside T.asked c.from (expansion_of T c.id).failed s)
  unfolding add
  add_none c s e = rw (e, add)

  pub add_lift : (c : Grown) (s : State) → is_empty (expansion_of T c.id).children ≡ false → lifts T c.id ≡ true → add (T by lt) c false s ≡ keep c s
  unfolding add
  add_lift c s e d = rw (e, d, add)

  pub add_queue : (c : Grown) (s : State) → is_empty (expansion_of T c.id).children ≡ false → lifts T c.id ≡ false → add (T by lt) c false s ≡ enqueue lt c s
  unfolding add
  add_queue c s e d = rw (e, d, add)
