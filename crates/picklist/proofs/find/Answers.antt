-- `picklist::find`: the ids are cut at the leaf, and the last one before it may end behind it.
use Rattle.std.proofs.Common.{◌≡◌, true, false, inl, inr, rules, arith, ltb}
use Rattle.std.specs.List.Sorted.{IsPartitionPoint}
use Rattle.std.proofs.lemmas.List.Sorted.{IsPartitionPoint-from_clause, IsPartitionedBy-ltb}
use Rattle.picklist.proofs.Laws.{pick_pos, ids_up, found_before, found_at}
use Rattle.picklist.proofs.find.Goals.{After-partition_point-at, else-at-gt0-via-then-at-gt0+else-first-range_max, else-at-gt0-via-else-at-gt0}
use Rattle.picklist.proofs.find.Goals as goal

cut : (c : After-partition_point-at) → IsPartitionPoint (λ y. ltb y c.args.first ≡ true) (λ y. ltb y c.args.first ≡ false) c.args.list.now c.partition_point-at.result
cut c =
    IsPartitionPoint-from_clause (λ y. ltb y c.args.first) _ _ c.partition_point-at.ensures.partitioned
    (IsPartitionedBy-ltb (λ y. y) _ c.args.first (ids_up _ c.requires)) (λ a r q k. search rules)

pub range_max-requires : goal.range_max-requires
range_max-requires c = pick_pos _ c.requires _ (omega (arith, c.partition_point-at.ensures.bound, c.if-at-gt0.true))

pub returns-then-first-range_max : goal.returns-then-first-range_max
returns-then-first-range_max c =
    found_before _ c.requires _ _ c.partition_point-at.ensures.bound (cut (goal.at.returns-then-first-range_max c).After-partition_point-at)
    c.if-at-gt0.true (rw (← c.range_max.ensures) c.if-first-range_max.true)

pub returns-else-at-gt0 : goal.returns-else-at-gt0
returns-else-at-gt0 c =
    found_at _ c.requires _ _ c.partition_point-at.ensures.bound (cut (goal.at.returns-else-at-gt0 c).After-partition_point-at) (elim c.else-at-gt0.branch [
      | else-at-gt0-via-then-at-gt0+else-first-range_max w ↦ inr (rw (← w.range_max.ensures) w.if-first-range_max.false)
      | else-at-gt0-via-else-at-gt0 w ↦ inl w.if-at-gt0.false
    ])
