-- `text::value`: the first number over the limit ends it, or all of them are within.
use Rattle.std.proofs.Common.{◌+◌, ◌*◌, ◌<◌, drop, sym, ◌∙◌, arith, ltb-true, ltb-false, lt-ltb, le-ltb}
use Rattle.text.specs.Text.{value_from}
use Rattle.text.proofs.Laws.{value_go, value_end, value_grows}
use Rattle.text.proofs.value.Goals as goal

pub returns-then-is_over-clause-value : goal.returns-then-is_over-clause-value
returns-then-is_over-clause-value c =
    let k = value_go c.args.base c.loop-b.number c.args.s.now c.loop-b.b-index (omega arith) in
    let o : c.args.limit < c.loop-b.number * c.args.base + c.digit-d.result = ltb-true _ _ (sym c.is_over.ensures ∙ c.if-is_over.true) in
    let g = value_grows c.args.base (c.loop-b.number * c.args.base + c.digit-d.result) (drop (c.loop-b.b-index + 1) c.args.s.now) c.requires in
    let w : c.args.limit < value_from c.args.base 0 c.args.s.now = rw (c.loop-b.invariant.whole, k, ← c.digit-d.ensures) (omega arith) in
    rw (lt-ltb _ _ w)

pub loop-b-preserved : goal.loop-b-preserved
loop-b-preserved c = record {
  within = ltb-false _ _ (sym c.is_over.ensures ∙ c.if-is_over.false);
  whole = rw c.digit-d.ensures (c.loop-b.invariant.whole ∙ value_go c.args.base c.loop-b.number c.args.s.now c.loop-b.b-index (omega arith));
}

pub returns-clause-value : goal.returns-clause-value
returns-clause-value c = rw (c.loop-b.invariant.whole, value_end c.args.base c.loop-b.number c.args.s.now c.loop-b.b-index (omega arith), le-ltb _ _ c.loop-b.invariant.within)
