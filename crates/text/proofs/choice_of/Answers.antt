-- `text::choice_of`: no word is left, the next one is it, or another may be.
use Rattle.std.proofs.Common.{rules, sym, ◌∙◌, arith}
use Rattle.text.proofs.Laws.{choice_go, choice_end}
use Rattle.text.proofs.choice_of.Goals as goal

pub returns-in_err-field : goal.returns-in_err-field
returns-in_err-field g c =
    let k = choice_go c.args.choices.now c.args.words.now c.args.word.now c.loop-choice.at c.loop-choice.choice-index c.choice-item.result (omega arith) c.choice-item.is in
    let e = rw (← c.in_err-field.ensures.value) at k in
    search rules

pub returns-then-eq : goal.returns-then-eq
returns-then-eq g c =
    let k = choice_go c.args.choices.now c.args.words.now c.args.word.now c.loop-choice.at c.loop-choice.choice-index c.choice-item.result (omega arith) c.choice-item.is in
    let e = rw (← c.in_ok-field.ensures.value) at k in
    let t = rw (sym c.eq.ensures ∙ c.if-eq.true) at e in
    sym (c.loop-choice.invariant ∙ t)

pub loop-choice-preserved : goal.loop-choice-preserved
loop-choice-preserved g c =
    let k = choice_go c.args.choices.now c.args.words.now c.args.word.now c.loop-choice.at c.loop-choice.choice-index c.choice-item.result (omega arith) c.choice-item.is in
    let e = rw (← c.in_ok-field.ensures.value) at k in
    let t = rw (sym c.eq.ensures ∙ c.if-eq.false) at e in
    c.loop-choice.invariant ∙ t

pub returns : goal.returns
returns g c = sym (c.loop-choice.invariant ∙ choice_end c.args.choices.now c.args.words.now c.args.word.now c.loop-choice.at c.loop-choice.choice-index (omega arith))
