-- `Job::add_candidate` meets its contract.
use Rattle.cellid.proofs.Laws.{cell_pos}
use Rattle.coverer.proofs.Adds.{domain, low_leaves, queued, expands, add_kept, add_empty, add_lifted, add_queued}
use native.Mathlib.Omega.{arith}
use Rattle.coverer.proofs.Job.add_candidate.Goals as goal

pub returns-then-terminal : goal.returns-then-terminal
returns-then-terminal c =
    let r = add_kept _ _ (domain _ _ c.args.self.asking.asks) _ _ _ _ _ c.requires.child_ok _ _ c.if-terminal.true (c.keep.ensures.does _ _ _) c.keep.ensures.aside_up_to in record { does = r.0; aside_up_to = r.1 }

pub expand-f-requires : goal.expand-f-requires
expand-f-requires c =
    let D = domain _ _ c.args.self.asking.asks in
    record {
      cell = expands _ D _ (queued _ D _ _ c.if-terminal.false c.requires.child_ok);
    }

pub lsb-requires : goal.lsb-requires
lsb-requires c = cell_pos _ _ _ c.requires.child_ok.fit.cell

pub set_aside-requires : goal.set_aside-requires
set_aside-requires c = omega (arith, c.lsb.ensures, low_leaves _ c.requires.child_ok.fit.cell, c.requires.aside_fits)

pub returns-then-f-eq0 : goal.returns-then-f-eq0
returns-then-f-eq0 c =
    let r = add_empty _ _ (domain _ _ c.args.self.asking.asks) _ _ _ _ _ c.requires.child_ok _ _ _ c.if-terminal.false c.expand-f.ensures c.if-f-eq0.true c.lsb.ensures c.set_aside.ensures in record { does = r.0; aside_up_to = r.1 }

pub full_of-full-requires : goal.full_of-full-requires
full_of-full-requires c = c.args.self.asking.asks.few

pub returns-then-lifts : goal.returns-then-lifts
returns-then-lifts c =
    let r = add_lifted _ _ (domain _ _ c.args.self.asking.asks) _ _ _ _ _ c.requires.child_ok _ _ _ _ _ c.if-terminal.false c.expand-f.ensures c.if-f-eq0.false c.full_of-full.ensures.0 c.lifts.ensures c.if-lifts.true
    (c.keep-then-lifts.ensures.does _ _ _) c.keep-then-lifts.ensures.aside_up_to in record { does = r.0; aside_up_to = r.1 }

pub weight_of-weight-requires : goal.weight_of-weight-requires
weight_of-weight-requires c = c.full_of-full.ensures

pub record_of-r-requires : goal.record_of-r-requires
record_of-r-requires c = (c.weight_of-weight.ensures.1, omega (arith, c.requires.from_lt_places_most))

pub returns : goal.returns
returns c =
    let r = add_queued _ _ (domain _ _ c.args.self.asking.asks) _ _ _ _ _ c.requires.child_ok _ _ _ _ _ c.if-terminal.false c.expand-f.ensures c.if-f-eq0.false c.full_of-full.ensures.0 c.lifts.ensures c.if-lifts.false
    c.args.self.asking.asks.some c.requires.from_lt_places_most _ c.weight_of-weight.ensures.0 _ c.record_of-r.ensures c.enqueue.ensures.does c.enqueue.ensures.aside_up_to in record { does = r.0; aside_up_to = r.1 }
