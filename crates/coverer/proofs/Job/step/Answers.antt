-- `Job::step` meets its contract.
use mathlib.Core.Path.{ap, ◌∙◌}
use Rattle.run.specs.Run.{queue_most, memory_words}
use lib.ListN.{length}
use Prim.Native.Nat.{◌≤◌}
use Rattle.totals.specs.Totals.{total_at}
use Rattle.coverer.proofs.Adds.{domain}
use Rattle.coverer.proofs.Runs.{takes, steps}
use native.Mathlib.Omega.{arith}
use Rattle.coverer.proofs.Job.step.Goals as goal

pub take-r-requires : goal.take-r-requires
take-r-requires c =
    let few : c.args.t.queued ≤ queue_most = (c.requires.live.3.holds.at 0).few in
    omega (arith, c.requires.queued_nonzero.0)

pub get-requires : goal.get-requires
get-requires c =
    let long : memory_words ≤ length c.args.m.now = omega arith in
    let T = takes _ _ (domain _ _ c.args.self.asking.asks) _ _ _ long c.requires.queued_nonzero.0 c.take-r.ensures.value c.requires.live in
    omega (arith, c.from-from.ensures, T.taken.place)

pub use_taken-turn-requires : goal.use_taken-turn-requires
use_taken-turn-requires c =
    let long : memory_words ≤ length c.args.m.now = omega arith in
    let T = takes _ _ (domain _ _ c.args.self.asking.asks) _ _ _ long c.requires.queued_nonzero.0 c.take-r.ensures.value c.requires.live in
    let total = c.get.ensures ∙ ap (total_at c.args.t.aside) c.from-from.ensures in
    record {
      kept_le_raw_most = (T.kept, omega (arith, T.queued));
      taken = T.taken;
      aside_fits = omega (arith, total, T.room);
    }

pub end_turn-requires : goal.end_turn-requires
end_turn-requires c =
    let long : memory_words ≤ length c.args.m.now = omega arith in
    let T = takes _ _ (domain _ _ c.args.self.asking.asks) _ _ _ long c.requires.queued_nonzero.0 c.take-r.ensures.value c.requires.live in
    omega (arith, c.from-from.ensures, T.taken.place)

pub returns : goal.returns
returns c =
    let long : memory_words ≤ length c.args.m.now = omega arith in
    let T = takes _ _ (domain _ _ c.args.self.asking.asks) _ _ _ long c.requires.queued_nonzero.0 c.take-r.ensures.value c.requires.live in
    steps _ _ _ _ _ _ _ _ _ long c.requires.queued_nonzero.0 (c.requires.live.3.holds.at 0).few T.taken.place c.take-r.ensures.value c.take-r.ensures.m_after _ _ c.from-from.ensures c.get.ensures c.use_taken-turn.ensures c.end_turn.ensures
