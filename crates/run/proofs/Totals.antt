-- The set-aside total: what one expansion adds to it, and how large it may get.
use mathlib.Core.Path.{◌≡◌, ◌∙◌, subst}
use mathlib.Core.Bool.{Bool, false}
use mathlib.Core.List.{List, [], ◌∷◌}
use Prim.Native.Nat.{ℕ, zero, suc, ◌+◌, ◌-◌, ◌*◌, ◌%◌, ◌^◌, ◌≤◌, ◌<◌}
use native.Mathlib.Nat.{suc-mul}
use native.Mathlib.Omega.{arith}
use lib.ListN.{length}
use lib.Pow.{pow_mono}
use Rattle.cellid.specs.CellId.{IsCell, child_of, level_of}
use Rattle.cellid.proofs.Laws.{level_cell}
use Rattle.cellid.proofs.Leaves.{child_cell}
use Rattle.order.specs.Order.{All}
use Rattle.run.specs.Run.{Grown, Child, State, Expansion, Look, fails, none, terminal, divide, going, join, four_of, reached, look, expand, after, aside_total, sum_of, leaves_of, Task, min_level, max_level, level_mod, part, ◌by◌, failing}
use Rattle.run.specs.Ground.{Domain, Fit}
use Rattle.order.proofs.OrderLaws.{all_append}
use Rattle.run.proofs.Lists.{if_ok, rel_le, rel_eq}
use Rattle.run.proofs.Ground.{expand_ok}
use Rattle.run.proofs.Leaves.{leaves_add}
use Rattle.run.proofs.Demand3.{sums}
use Rattle.run.proofs.Starts.{sum_placed}

pub leaves_le : (id : ℕ) → leaves_of id ≤ 2 ^ 60
unfolding leaves_of
leaves_le id = pow_mono {i = 2 * (30 - level_of id)} {j = 60} (omega arith)

sum_le : (l : List ℕ) → sum_of leaves_of l ≤ length l * 2 ^ 60
unfolding sum_of
sum_le [] = omega arith
sum_le (x ∷ l) = omega (arith, leaves_le x, sum_le l)

-- queued and set-aside cells have at most a face's leaves for each start cell; what lies under two start cells counts twice
pub leaves_most : (T : Task) (D : Domain T.asked) (lt : Grown → Grown → Bool) (starts : List ℕ) (ok : All (Fit T.asked) starts) (n : ℕ) (s : State)
    → after (T by lt) starts n ≡ going s → sum_of (λ (c : Grown). leaves_of c.id) s.queue + aside_total s ≤ length starts * 2 ^ 60
unfolding aside_total
leaves_most T D lt starts ok n s e =
    let I = sums T D lt starts ok n s e (λ i id. leaves_of id) (λ i id L p c l. leaves_add id L p c l) in
    let r = rel_le T.asked.inner _ _ I.sum in
    omega (arith, sum_placed leaves_of 0 starts, sum_le starts)

module _ (T : Task) where
  -- all children stand at the level asked for
  reached_level : (id : ℕ) (v : Look) (L : ℕ) → level_of id ≡ L → All (λ (k : Child). level_of k.id ≡ L) (reached id v).children
  unfolding reached All
  reached_level id fails L e = tt
  reached_level id none L e = tt
  reached_level id terminal L e = (e, tt)
  reached_level id divide L e = (e, tt)

  pub record AtLevel (M : ℕ) (e : Expansion) : Type 0 where
    pub all : All (λ (k : Child). level_of k.id ≡ M) e.children

  join_level : (M : ℕ) (a b : Expansion) → AtLevel M a → AtLevel M b → AtLevel M (join a b)
  unfolding join
  join_level M a b x y = record { all = all_append _ a.children b.children x.all y.all }

  none_level : (M c : ℕ) → AtLevel M (failing c)
  unfolding All
  none_level M c = record { all = tt }

  four_level : (n id L p : ℕ) → IsCell id L p → L + suc n ≤ 30 → ((k : ℕ) → k < 4 → AtLevel ((L + 1) + n) (part T n (child_of id k))) → AtLevel (L + suc n) (four_of (part T n) id)
  unfolding four_of
  four_level n id L p c h a =
      let e : (L + 1) + n ≡ L + suc n = omega arith in
      let b : (k : ℕ) → k < 4 → AtLevel (L + suc n) (part T n (child_of id k)) = λ k g. subst (λ (m : ℕ). AtLevel m (part T n (child_of id k))) e (a k g) in
      join_level _ _ _ (b 0 (omega arith)) (join_level _ _ _ (b 1 (omega arith)) (join_level _ _ _ (b 2 (omega arith)) (b 3 (omega arith))))

  part_level : (n id L p : ℕ) → IsCell id L p → L + n ≤ 30 → AtLevel (L + n) (part T n id)
  unfolding part
  part_level zero id L p c h = record { all = reached_level id (look T id) (L + 0) (level_cell id L p c ∙ omega arith) }
  part_level (suc n) id L p c h = if_ok (AtLevel (L + suc n)) (T.hits id) _ _
      (λ t. four_level n id L p c h (λ k g. part_level n (child_of id k) (L + 1) (4 * p + k) (child_cell k c (omega arith) g) (omega arith)))
      (λ t. none_level (L + suc n) id)

  pub expand_level : (n id L p : ℕ) → IsCell id L p → L + n ≤ 30 → AtLevel (L + n) (expand T n id)
  unfolding expand
  expand_level zero id L p c h = part_level zero id L p c h
  expand_level (suc n) id L p c h = four_level n id L p c h (λ k g. part_level n (child_of id k) (L + 1) (4 * p + k) (child_cell k c (omega arith) g) (omega arith))

  sum_level : (M : ℕ) (l : List Child) → All (λ (k : Child). level_of k.id ≡ M) l → sum_of (λ (k : Child). leaves_of k.id) l ≡ length l * 2 ^ (2 * (30 - M))
  unfolding sum_of All leaves_of
  sum_level M [] a = omega arith
  sum_level M (k ∷ l) a = rw a.0 (omega (arith, sum_level M l a.1, suc-mul (length l) (2 ^ (2 * (30 - M)))))

  -- outer: the leaves that failed, without looking at the cells that failed
  pub failed_total : Domain T.asked → T.asked.inner ≡ false → (n id L p : ℕ) → IsCell id L p → L + n ≤ max_level T.asked → ((L + n) - min_level T.asked) % level_mod T.asked ≡ 0
      → sum_of leaves_of (expand T n id).failed ≡ leaves_of id - length (expand T n id).children * 2 ^ (2 * (30 - (L + n)))
  failed_total D o n id L p c h m =
      let e = expand T n id in
      let x : sum_of (λ (k : Child). leaves_of k.id) e.children + sum_of leaves_of e.failed ≡ leaves_of id = rel_eq T.asked.inner _ _ o (expand_ok T leaves_of D leaves_add n id L p c h m).sum in
      omega (arith, sum_level (L + n) e.children (expand_level n id L p c (omega (arith, D.deep))).all)
