-- `neighbors::nearer` meets its contract.
use Rattle.std.proofs.Common.{◌*◌, ◌%◌, ◌^◌}
use Rattle.neighbors.specs.Neighbors.{toward_of}
use Rattle.neighbors.proofs.Laws.{Sizes, sizes, bit_set, bit_clear}
use Rattle.neighbors.proofs.nearer.Goals.{Start}
use Rattle.neighbors.proofs.nearer.Goals as goal

known : (c : Start) → Sizes c.args.place (1 * 2 ^ c.args.place % 2 ^ 64) (1 * 2 ^ c.args.place % 2 ^ 64 * 2 ^ 1 % 2 ^ 64)
known c = sizes c.args.place c.requires.place_bound

pub returns-then-i-half-ne0 : goal.returns-then-i-half-ne0
unfolding toward_of
returns-then-i-half-ne0 c =
    let k = known (goal.at.returns-then-i-half-ne0 c).Start in
    rw (c.min.ensures, k.whole, bit_set c.args.i c.args.place (rw k.half at c.if-i-half-ne0.true))

pub returns-else-i-half-ne0 : goal.returns-else-i-half-ne0
unfolding toward_of
returns-else-i-half-ne0 c =
    let k = known (goal.at.returns-else-i-half-ne0 c).Start in
    rw (c.saturating_sub.ensures, k.whole, bit_clear c.args.i c.args.place (rw k.half at c.if-i-half-ne0.false))
