-- common_ancestor_level
use Rattle.std.proofs.Common.{◌≡◌, max, Some, sym, refl, ap, ◌∙◌, ap₂}
use Rattle.cellid.proofs.Laws.{cell_pos}
use Rattle.cellid.proofs.Ancestors.{spread, common_none, common_some}
use Rattle.cellid.proofs.common_ancestor_level.Goals.{After-max-above}
use Rattle.cellid.proofs.common_ancestor_level.Goals as goal

-- the number that the zeros are counted of
spread_is : (c : After-max-above) → c.max-above.result ≡ spread c.args.a c.args.b
spread_is c = c.max-above.ensures ∙ ap₂ max (c.max.ensures ∙ ap₂ max refl c.lsb.ensures) c.lsb-2.ensures

pub lsb-requires : goal.lsb-requires
lsb-requires c = cell_pos _ _ _ c.requires.cell.2

pub lsb-requires-2 : goal.lsb-requires-2
lsb-requires-2 c = cell_pos _ _ _ c.requires.cell_2.2

pub returns-then-above-lt3 : goal.returns-then-above-lt3
returns-then-above-lt3 c =
    sym (common_none _ _ c.requires.cell c.requires.cell_2 (rw (← spread_is (goal.at.returns-then-above-lt3 c).After-max-above) c.if-above-lt3.true))

pub returns-else-above-lt3 : goal.returns-else-above-lt3
returns-else-above-lt3 c =
    let s = spread_is (goal.at.returns-else-above-lt3 c).After-max-above in
    ap Some c.from.ensures ∙ rw s (sym (common_some _ _ c.requires.cell c.requires.cell_2 (rw (← s) c.if-above-lt3.false)))
