-- `Job::start` meets its contract.
use mathlib.Core.Path.{◌≡◌, ap, ◌∙◌}
use Rattle.std.specs.Prelude.{Some}
use Rattle.cellid.proofs.Laws.{cell_pos}
use Rattle.candidate.specs.declared.Candidate.{Candidate}
use Rattle.coverer.proofs.Adds.{low_leaves}
use Rattle.coverer.proofs.Runs.{start_kept_ok, start_queued_ok, start_kept, start_queued, start_none}
use native.Mathlib.Omega.{arith}
use Rattle.coverer.proofs.Job.start.Goals.{In-Some-Kept, In-Some-Queued}
use Rattle.coverer.proofs.Job.start.Goals as goal

-- what the candidate is, in the two arms
kept_is : (c : In-Some-Kept) → c.new_candidate-c.result ≡ Some Candidate.Kept
kept_is c = let k = rw c.in-Some-Kept.is at c.in-Some-Kept.field-0-is in c.in-Some-Kept.is ∙ ap Some k

queued_is : (c : In-Some-Queued) → c.new_candidate-c.result ≡ Some Candidate.Queued
queued_is c = let k = rw c.in-Some-Queued.is at c.in-Some-Queued.field-0-is in c.in-Some-Queued.is ∙ ap Some k

pub add_candidate-requires : goal.add_candidate-requires
add_candidate-requires c =
    record {
      from_lt_places_most = c.requires.from_lt_places_most;
      child_ok = start_kept_ok _ _ _ c.new_candidate-c.ensures c.requires.fit (kept_is (goal.at.add_candidate-requires c).In-Some-Kept);
      aside_fits = c.requires.aside_fits;
    }

pub add_candidate-requires-in-Some-Queued : goal.add_candidate-requires-in-Some-Queued
add_candidate-requires-in-Some-Queued c =
    record {
      from_lt_places_most = c.requires.from_lt_places_most;
      child_ok = start_queued_ok _ _ _ c.new_candidate-c.ensures c.requires.fit (queued_is (goal.at.add_candidate-requires-in-Some-Queued c).In-Some-Queued);
      aside_fits = c.requires.aside_fits;
    }

pub lsb-requires : goal.lsb-requires
lsb-requires c = cell_pos _ _ _ c.requires.fit.cell

pub set_aside-requires : goal.set_aside-requires
set_aside-requires c = omega (arith, c.lsb.ensures, low_leaves c.args.id c.requires.fit.cell, c.requires.aside_fits)

pub returns-in-Some-Kept : goal.returns-in-Some-Kept
returns-in-Some-Kept c =
    let d = c.add_candidate in
    start_kept _ _ _ _ _ _ _ c.new_candidate-c.ensures _ _ (kept_is (goal.at.returns-in-Some-Kept c).In-Some-Kept) d.ensures.does

pub returns-in-Some-Queued : goal.returns-in-Some-Queued
returns-in-Some-Queued c =
    let d = c.add_candidate-in-Some-Queued in
    start_queued _ _ _ _ _ _ _ c.new_candidate-c.ensures _ _ (queued_is (goal.at.returns-in-Some-Queued c).In-Some-Queued) d.ensures.does

pub returns-in-None : goal.returns-in-None
returns-in-None c = start_none _ _ _ _ _ _ _ _ _ c.requires.fit c.new_candidate-c.ensures c.in-None.is c.lsb.ensures c.set_aside.ensures
