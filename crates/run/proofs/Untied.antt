-- A run in which no two cells can be tied is the same in both editions, and so is every outer run but those of level_mod 1 with a min_level above 0.
use mathlib.Core.Path.{◌≡◌, refl, sym, ap, ◌∙◌, subst}
use mathlib.Core.Bool.{true, false, true≢false}
use mathlib.Core.Logic.{◌⊎◌, ⊎_elim, by_cases}
use mathlib.Core.List.{List, [], ◌∷◌, map}
use Prim.Native.Nat.{ℕ, ◌*◌, ◌≤◌, ◌<◌}
use native.Mathlib.Omega.{arith}
use native.Mathlib.Decide.{dec_lt}
use lib.ListN.{length}
use lib.Pow.{pow_mono}
use borrow.Author.Tests.{lt-ltb, le-leb, eq-eqb}
use Rattle.cellid.specs.CellId.{level_of}
use Rattle.order.specs.Order.{All, Sorted, insert}
use Rattle.order.proofs.SortLaws.{insert_sorted}
use Rattle.run.specs.Run.{Task, ◌by◌, Grown, min_level, level_mod, expansion_of, depth, full, ending, lifts, by_id, by_level, run}
use Rattle.run.specs.Places.{by_id_alone}
use Rattle.run.proofs.Lists.{if_two, all_insert}
use Rattle.run.proofs.Counts.{expand_short}
use Rattle.run.proofs.Records.{by_id_decides}
use Rattle.run.proofs.Rows.{row_of}
use Rattle.run.proofs.Places.{Waits, bare_of, ids_insert, run_mirrored, id_mirrored}
use Rattle.run.proofs.Ties.{TieOf, editions_agree}

module _ (T : Task) where
  module _ (h : 0 < level_mod T.asked) (untied : (a b : Grown) → Waits T a → Waits T b → TieOf T a b → ⊥) where
    same_less : (a b : Grown) → Waits T a → Waits T b → by_level T a b ≡ by_id T a b
    same_less a b x y = ⊎_elim sym (λ t. absurd (⊎_elim (untied a b x y) (untied b a y x) t)) (editions_agree T h a b x.some y.some)

    same_insert : (c : Grown) (l : List Grown) → Waits T c → All (Waits T) l → insert (by_level T) c l ≡ insert (by_id T) c l
    unfolding insert All
    same_insert c [] w a = refl
    same_insert c (y ∷ l) w a = if_two ◌≡◌ (by_level T y c) (same_less y c a.0 w) (λ t. ap (λ (k : List Grown). y ∷ k) (same_insert c l w a.1)) (λ t. refl)

    -- where no two cells that could be queued are tied, a run is the same in both editions: the number of a refusal, the raw ids, the steps and the set-aside total
    pub editions_same_untied : (starts : List ℕ) (a : ℕ) → row_of (run (T by by_level T) starts a) ≡ row_of (run (T by by_id T) starts a)
    unfolding Sorted All
    editions_same_untied starts a = run_mirrored T (by_id_alone T) (by_level T) (λ l. All (Waits T) l × Sorted (by_id T) l) (tt, tt)
        (λ c l g. (g.0.1, g.1.1))
        (λ c l w g. (all_insert (by_level T) (Waits T) c l w g.0, subst (Sorted (by_id T)) (sym (same_insert c l w g.0)) (insert_sorted (by_id T) (by_id_decides T) c l g.1)))
        (λ c l w g. ids_insert T c l g.1 ∙ ap (map bare_of) (sym (same_insert c l w g.0)))
        starts a ∙ sym (id_mirrored T starts a)

  -- in an outer run a cell with all its children terminal is kept whole, unless it lies below min; and there a cell has four children at most
  full_below : T.asked.inner ≡ false → (id : ℕ) → lifts T id ≡ false → ending (expansion_of T id).children ≡ full T.asked → level_of id < min_level T.asked
  unfolding lifts
  full_below o id s e = by_cases (dec_lt (level_of id) (min_level T.asked))
      (λ l. l)
      (λ l. let u : lifts T id ≡ true = rw (lifts, eq-eqb _ _ e, le-leb (min_level T.asked) (level_of id) (omega arith), o) in absurd (true≢false (sym u ∙ s)))

  four_below : (id : ℕ) → level_of id < min_level T.asked → length (expansion_of T id).children ≤ 4
  unfolding expansion_of depth
  four_below id l = rw (lt-ltb _ _ l, depth) (expand_short T 1 id)

  sixteen : 1 < level_mod T.asked → 16 ≤ full T.asked
  unfolding full
  sixteen h = pow_mono {i = 4} {j = 2 * level_mod T.asked} (omega arith)

  -- so an outer run is the same in both editions, unless level_mod is 1 and min_level isn't 0
  pub outer_same : 0 < level_mod T.asked → T.asked.inner ≡ false → (min_level T.asked ≡ 0) ⊎ (1 < level_mod T.asked) → (starts : List ℕ) (a : ℕ)
      → row_of (run (T by by_level T) starts a) ≡ row_of (run (T by by_id T) starts a)
  outer_same h o k = editions_same_untied h (λ a b x y t.
      let l : level_of a.id < min_level T.asked = full_below o a.id x.split t.terminals in
      ⊎_elim (λ (z : min_level T.asked ≡ 0). omega arith) (λ (d : 1 < level_mod T.asked). omega (arith, four_below a.id l, sixteen d, t.children)) k)
