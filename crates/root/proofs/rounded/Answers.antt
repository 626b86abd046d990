-- `root::rounded` meets its contract. Each goal before a return is a bound of `Halves.Step`, and each return one of its two answers. Assumes nothing.
use Rattle.std.proofs.Common.{ℕ, ◌-◌, ◌*◌, ◌/◌, ◌%◌, arith}
use Rattle.root.proofs.Halves.{Step, step, up, mid}
use Rattle.root.proofs.rounded.Goals.{Start}
use Rattle.root.proofs.rounded.Goals as goal

abbrev rest : ℕ → ℕ → ℕ
rest m s = (m - s * s) * 0x400_0000

-- what is known at the start
known : (c : Start) → Step c.args.m c.args.s (rest c.args.m c.args.s / (2 * c.args.s)) (rest c.args.m c.args.s % (2 * c.args.s))
known c = step c.args.m c.args.s c.requires.bound.0 c.requires.bound.1 c.requires.s_bound.0 c.requires.s_bound.1

pub overflow_mul-t-2 : goal.overflow_mul-t-2
overflow_mul-t-2 c = let k = known (goal.at.overflow_mul-t-2 c).Start in omega arith

pub overflow_mul-d : goal.overflow_mul-d
overflow_mul-d c = let k = known (goal.at.overflow_mul-d c).Start in omega arith

pub nonzero_div-g : goal.nonzero_div-g
nonzero_div-g c = let k = known (goal.at.nonzero_div-g c).Start in omega arith

pub overflow_mul-h : goal.overflow_mul-h
overflow_mul-h c = let k = known (goal.at.overflow_mul-h c).Start in omega arith

pub overflow_add-h : goal.overflow_add-h
overflow_add-h c = let k = known (goal.at.overflow_add-h c).Start in omega arith

pub nonzero_rem-a : goal.nonzero_rem-a
nonzero_rem-a c = let k = known (goal.at.nonzero_rem-a c).Start in omega arith

pub overflow_mul-a : goal.overflow_mul-a
overflow_mul-a c = let k = known (goal.at.overflow_mul-a c).Start in omega arith

pub overflow_mul-c : goal.overflow_mul-c
overflow_mul-c c = let k = known (goal.at.overflow_mul-c c).Start in omega arith

pub overflow_add-c : goal.overflow_add-c
overflow_add-c c = let k = known (goal.at.overflow_add-c c).Start in omega arith

pub overflow_add-result : goal.overflow_add-result
overflow_add-result c = let k = known (goal.at.overflow_add-result c).Start in omega arith

pub returns-then-c-h : goal.returns-then-c-h
returns-then-c-h c = let k = known (goal.at.returns-then-c-h c).Start in up _ _ _ _ k.square c.if-c-h.true (omega arith)

pub returns-else-c-h : goal.returns-else-c-h
returns-else-c-h c = let k = known (goal.at.returns-else-c-h c).Start in mid _ _ _ _ k.square c.if-c-h.false k.c_lt
