-- Laws that people would try: ways to make a list of up to three lists by any number of unions, common parts and differences, and pairs of ways that make the
-- same list (proofs/Algebra). What a way makes depends on a table of eight tests alone, so a law is a row that is computed.
use Rattle.std.specs.Prelude.{Bool, true, false, ◌&&◌, List, [], ◌∷◌, ℕ}
use Rattle.std.specs.Bool.{beq}
use Rattle.cellid.specs.CellId.{six_faces}
use Rattle.sets.specs.Sets.{wants, combined}
use Rattle.sets.specs.declared.Op.{Op}
use Rattle.sets.specs.declared.Op.TheVariants.{Union, Common, Difference}

-- a way to make a list of three: one of them, none, the whole sphere, or what is made of two
pub data Made : Type 0 where
  first : Made
  second : Made
  third : Made
  none : Made
  whole : Made
  by : Op → Made → Made → Made

-- the list that is made
unfoldable pub made_list : List ℕ → List ℕ → List ℕ → Made → List ℕ
made_list a b c first = a
made_list a b c second = b
made_list a b c third = c
made_list a b c none = []
made_list a b c whole = six_faces
made_list a b c (by op s t) = combined op (made_list a b c s) (made_list a b c t)

-- whether it has a leaf, by whether the three have it
unfoldable pub test : Made → Bool → Bool → Bool → Bool
test first x y z = x
test second x y z = y
test third x y z = z
test none x y z = false
test whole x y z = true
test (by op s t) x y z = wants op (test s x y z) (test t x y z)

-- two ways have the same table of eight
unfoldable pub agree : Made → Made → Bool → Bool → Bool
agree s t x y = beq (test s x y true) (test t x y true) && beq (test s x y false) (test t x y false)

unfoldable pub alike : Made → Made → Bool
alike s t = agree s t true true && (agree s t true false && (agree s t false true && agree s t false false))

-- ---- the laws, a row each: two ways to make the same list

abbrev pub laws : List (Made × Made)
laws =
    -- the same list twice
    (by Union first first, first)
    ∷ (by Common first first, first)
    ∷ (by Difference first first, none)
    -- an empty list
    ∷ (by Union first none, first)
    ∷ (by Common first none, none)
    ∷ (by Difference first none, first)
    ∷ (by Difference none first, none)
    -- the whole sphere
    ∷ (by Union first whole, whole)
    ∷ (by Common first whole, first)
    ∷ (by Difference first whole, none)
    ∷ (by Difference whole (by Difference whole first), first)
    -- either way round, and three in any order
    ∷ (by Union first second, by Union second first)
    ∷ (by Common first second, by Common second first)
    ∷ (by Union (by Union first second) third, by Union first (by Union second third))
    ∷ (by Common (by Common first second) third, by Common first (by Common second third))
    -- the difference and the common part are the first list, without overlap
    ∷ (by Union (by Difference first second) (by Common first second), first)
    ∷ (by Common (by Difference first second) second, none)
    ∷ (by Union (by Difference first second) second, by Union first second)
    ∷ (by Difference first (by Common first second), by Difference first second)
    -- one list less two others, part by part
    ∷ (by Difference first (by Union second third), by Difference (by Difference first second) third)
    ∷ (by Common first (by Union second third), by Union (by Common first second) (by Common first third))
    ∷ (by Difference (by Union first second) third, by Union (by Difference first third) (by Difference second third))
    ∷ []

-- all rows have the same table on both sides
unfoldable pub all_alike : List (Made × Made) → Bool
all_alike [] = true
all_alike (r ∷ l) = alike r.0 r.1 && all_alike l
