-- What the look at a cell says, how deep an expansion goes, and a cell by its own level and place.
use mathlib.Core.Path.{◌≡◌, refl, sym, ap, ◌∙◌, subst}
use mathlib.Core.Bool.{Bool, true, false, true≢false}
use Prim.Native.Nat.{ℕ, ◌+◌, ◌≤◌, ◌<◌}
use lib.Dec.{ltb}
use Rattle.cellid.specs.CellId.{IsCell, level_of, place_of}
use Rattle.cellid.proofs.Laws.{level_cell, place_id}
use borrow.Author.Tests.{lt-ltb, le-ltb}
use Rattle.run.specs.Run.{depth, Look, divide, fails, look, none, terminal, Task, min_level, max_level, level_mod}
use Rattle.run.specs.declared.Request.{Request}

-- the look, by the five truths that it depends on: the cell intersects, is below min, is contained, is at the bottom; the run is inner
unfoldable pub look_by : (h lo w bot i : Bool) → Look
look_by h lo w bot i = elim h [
  | false ↦ fails
  | true ↦ elim lo [
    | true ↦ divide
    | false ↦ elim w [
      | true ↦ terminal
      | false ↦ elim bot [
        | true ↦ elim i [ true ↦ none | false ↦ terminal ]
        | false ↦ divide
      ]
    ]
  ]
]

unfoldable pub MeansBy : (h lo w bot i : Bool) → Look → Type 0
MeansBy h lo w bot i fails = h ≡ false
MeansBy h lo w bot i none = i ≡ true
MeansBy h lo w bot i terminal = (h ≡ true) × (lo ≡ false) × (i ≡ true → w ≡ true)
MeansBy h lo w bot i divide = (h ≡ true) × (lo ≡ false → bot ≡ false)

means_by : (h lo w bot i : Bool) → MeansBy h lo w bot i (look_by h lo w bot i)
unfolding MeansBy look_by
means_by false lo w bot i = refl
means_by true true w bot i = (refl, λ e. absurd (true≢false e))
means_by true false true bot i = (refl, refl, λ e. refl)
means_by true false false true true = refl
means_by true false false true false = (refl, refl, λ e. e)
means_by true false false false i = (refl, λ e. refl)

module _ (T : Task) where
  pub look_by_lem : (id : ℕ) → look T id ≡ look_by (T.hits id) (ltb (level_of id) (min_level T.asked)) (T.within id) (ltb (max_level T.asked) (level_of id + level_mod T.asked)) T.asked.inner
  unfolding look look_by
  look_by_lem id = refl

  abbrev pub Means : ℕ → Look → Type 0
  Means id v = MeansBy (T.hits id) (ltb (level_of id) (min_level T.asked)) (T.within id) (ltb (max_level T.asked) (level_of id + level_mod T.asked)) T.asked.inner v

  pub look_means : (id : ℕ) (v : Look) → look T id ≡ v → Means id v
  look_means id v e = subst (Means id) (sym (look_by_lem id) ∙ e) (means_by (T.hits id) (ltb (level_of id) (min_level T.asked)) (T.within id) (ltb (max_level T.asked) (level_of id + level_mod T.asked)) T.asked.inner)

-- ---- how deep an expansion goes

pub depth_low : (q : Request) (id : ℕ) → level_of id < min_level q → depth q id ≡ 1
unfolding depth
depth_low q id l = rw (lt-ltb (level_of id) (min_level q) l, depth)

pub depth_high : (q : Request) (id : ℕ) → min_level q ≤ level_of id → depth q id ≡ level_mod q
unfolding depth
depth_high q id l = rw (le-ltb (level_of id) (min_level q) l, depth)

-- ---- a cell by its own level and place

pub canon : (id L p : ℕ) → IsCell id L p → IsCell id (level_of id) (place_of id)
canon id L p c = rw (level_cell id L p c, ap place_of c.is ∙ place_id L p) c
