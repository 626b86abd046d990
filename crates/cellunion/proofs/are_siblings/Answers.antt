use Rattle.std.proofs.Common.{◌≡◌, false, true≢false, ◌∙◌, sym, eqb-true, eq-eqb}
use Rattle.cellunion.specs.CellUnion.{is_four}
use Rattle.cellunion.proofs.Mask.{no_four, no_like0, no_like1, no_like2, level_test}
use Rattle.cellunion.proofs.are_siblings.Goals.{then-x-mask, else-x-mask, then-y-mask, else-y-mask}
use Rattle.cellunion.proofs.are_siblings.Goals as goal

pub returns-then-x-y-ne0 : goal.returns-then-x-y-ne0
returns-then-x-y-ne0 c = no_four _ _ _ _ c.requires.0 (λ l. c.if-x-y-ne0.true l.xor)

pub returns-then-z-mask : goal.returns-then-z-mask
returns-then-z-mask c = elim c.if-y-mask.branch [
  | then-y-mask w ↦ elim c.if-x-mask.branch [
    | then-x-mask v ↦ level_test _ _ _ _ _ _ c.requires.0 c.sibling_mask-mask.ensures c.level.ensures c.requires.1 c.requires.2 c.requires.3
        v.if-x-mask.true (eqb-true _ _ (sym v.value-is ∙ w.if-y-mask.true)) (eqb-true _ _ (sym w.value-is ∙ c.if-z-mask.true))
    | else-x-mask v ↦ absurd (v.if-x-mask.false (eqb-true _ _ (sym v.value-is ∙ w.if-y-mask.true)))
  ]
  | else-y-mask w ↦ absurd (true≢false (sym c.if-z-mask.true ∙ w.value-is ∙ w.if-y-mask.false))
]

pub returns-else-z-mask : goal.returns-else-z-mask
returns-else-z-mask c =
    let no : false ≡ is_four c.args.x c.args.y c.args.z c.args.c = elim c.if-y-mask.branch [
      | then-y-mask w ↦ no_like2 _ _ _ _ _ c.requires.0 c.sibling_mask-mask.ensures (λ q. true≢false (sym (eq-eqb _ _ q) ∙ sym w.value-is ∙ c.if-z-mask.false))
      | else-y-mask w ↦ elim c.if-x-mask.branch [
        | then-x-mask v ↦ no_like1 _ _ _ _ _ c.requires.0 c.sibling_mask-mask.ensures (λ q. true≢false (sym (eq-eqb _ _ q) ∙ sym v.value-is ∙ w.if-y-mask.false))
        | else-x-mask v ↦ no_like0 _ _ _ _ _ c.requires.0 c.sibling_mask-mask.ensures v.if-x-mask.false
      ]
    ] in c.if-z-mask.false ∙ no
