use Rattle.std.proofs.lemmas.Result.{err_from_is_err_and}
use Rattle.std.specs.Prelude.Result.{Ok, Err}
use Rattle.refusal.specs.declared.Refusal.{Refusal}
use Rattle.coverer.specs.Coverer.{course_of}
use Rattle.run.specs.Run.{add_all}
use Rattle.run.specs.Ground.{ChildOk}
use Rattle.run.specs.declared.Request.{Request}
use Prim.Native.Nat.{ℕ, ◌+◌, ◌≤◌, ◌<◌}
use Rattle.candidate.specs.Candidate.{task_of, Asks}
use Rattle.coverer.proofs.Adds.{domain, waiting_one, waiting_next, children_then, children_over}
use Rattle.coverer.proofs.Stands.{goes_start, goes_turn, goes_stop, goes_end}
use Rattle.coverer.specs.Engine.{Turn, AsideUpTo, child_if, children_from, leaves_in, Does}
use Rattle.coverer.specs.declared.Brood.{Brood}
use Rattle.coverer.specs.declared.Counts.{Counts}
use Rattle.queue.specs.declared.Engine.{Engine}
use Rattle.region.specs.Region.{Area}
use mathlib.Core.List.{List}
use mathlib.Core.Path.{◌≡◌, subst}
use native.Mathlib.Omega.{arith}
use Rattle.coverer.proofs.Job.add_children.Invariants.{Inv}
use Rattle.coverer.proofs.Job.add_children.Goals as goal

turn : (e : Engine) (q : Request) (a : Area) (b : Brood) (m₀ : List ℕ) (t₀ : Counts) (m : List ℕ) (t : Counts) (j : ℕ) (m' : List ℕ) (r : Turn) (u : Counts) → Asks q a → j < b.places → r ≡ Ok u
    → Does e (task_of q a) b.from (add_all (course_of q a) b.from (child_if b j)) m t m' r → AsideUpTo (t.aside + leaves_in (child_if b j)) r → Inv e q a b m₀ t₀ m t j → Inv e q a b m₀ t₀ m' u (j + 1)
unfolding AsideUpTo
turn e q a b m₀ t₀ m t j m' r u A j-in er d k I =
    let aside : u.aside ≤ t.aside + leaves_in (child_if b j) = subst (AsideUpTo (t.aside + leaves_in (child_if b j))) er k in
    record {
      waits = waiting_next (ChildOk (task_of q a)) t u b j j-in aside I.waits;
      goes = goes_turn _ _ _ _ _ _ _ m₀ t₀ m t m' u (children_then _ (domain q a A) b j j-in _) (subst (Does e (task_of q a) _ _ m t m') er d) I.goes;
    }

stop : (e : Engine) (q : Request) (a : Area) (b : Brood) (m₀ : List ℕ) (t₀ : Counts) (m : List ℕ) (t : Counts) (j : ℕ) (m' : List ℕ) (r : Turn) (n : Refusal) → Asks q a → j < b.places → r ≡ Err n
    → Does e (task_of q a) b.from (add_all (course_of q a) b.from (child_if b j)) m t m' r → Inv e q a b m₀ t₀ m t j → Does e (task_of q a) b.from (add_all (course_of q a) b.from (children_from b 0)) m₀ t₀ m' (Err n)
stop e q a b m₀ t₀ m t j m' r n A j-in er d I =
    goes_stop _ _ _ _ _ _ _ m₀ t₀ m t m' n (children_then _ (domain q a A) b j j-in _) (subst (Does e (task_of q a) _ _ m t m') er d) I.goes

pub loop-j-init : goal.loop-j-init
loop-j-init c =
    record { waits = record { all = c.requires.all; room = c.requires.aside_fits }; goes = goes_start _ _ _ _ _ _ }

pub add_child-requires : goal.add_child-requires
add_child-requires c =
    let I = c.loop-j.invariant in
    let W = waiting_one (ChildOk _) _ _ _ c.loop-j-test.true I.waits in
    record {
      j_bound = (omega (arith, c.requires.places_bound.0), c.requires.places_bound.1);
      all = W.all;
      aside_fits = W.room;
    }

pub returns-in_err-t : goal.returns-in_err-t
returns-in_err-t c = let p = err_from_is_err_and c.from_residual.result c.from_residual.ensures.1 in rw (p.1, p.2) (stop _ _ _ _ _ _ _ _ _ _ _ _ c.args.self.asking.asks c.loop-j-test.true c.in_err-t.was c.add_child.ensures.does c.loop-j.invariant)

pub loop-j-preserved : goal.loop-j-preserved
loop-j-preserved c = turn _ _ _ _ _ _ _ _ _ _ _ _ c.args.self.asking.asks c.loop-j-test.true c.in_ok-t.was c.add_child.ensures.does c.add_child.ensures.aside_up_to c.loop-j.invariant

pub returns : goal.returns
returns c =
    let I = c.loop-j.invariant in
    goes_end _ _ _ _ _ _ _ _ _ (children_over _ (domain _ _ c.args.self.asking.asks) _ _ (omega arith) _) I.goes
