-- The refusals 1 to 6 (paper 01, "Request numbers") and 14 (paper 02, i): the first that is to be given, if any. Quoted lines are the papers' words.
use Rattle.std.specs.Prelude.{Bool, true, false, ◌&&◌, ℕ, leb, ltb, Result, Ok, Err}
use Rattle.region.specs.Region.{Area, in_domain}
use Rattle.run.specs.declared.RegionCoverer.{RegionCoverer}
use Rattle.run.specs.Run.{memory_words}
use Rattle.refusal.specs.declared.Refusal.{Refusal}

-- a request goes on, or is refused before anything is touched
abbrev pub Bar : Type 0
Bar = Result Unit Refusal

-- one of the numbers from 1 to `most`
abbrev pub is_up_to : ℕ → ℕ → Bool
is_up_to most n = leb 1 n && leb n most

-- of a request's numbers: the first of 1 to 4 that is to be given
abbrev pub numbers_bar : RegionCoverer → Bar
numbers_bar c = elim (ltb 30 c.max_level) [
  | true ↦ Err Refusal.MaxLevel  -- "max_level over 30"
  | false ↦ elim (ltb c.max_level c.min_level) [
    | true ↦ Err Refusal.MinLevel  -- "min_level over max_level"
    | false ↦ elim (is_up_to 3 c.level_mod) [
      | false ↦ Err Refusal.LevelMod  -- "level_mod not 1..3"
      | true ↦ elim (ltb 1000 c.max_cells) [
        | true ↦ Err Refusal.MaxCells  -- "max_cells over 1,000"
        | false ↦ Ok tt
      ]
    ]
  ]
]

-- 14: "unknown edition"; there are two
abbrev pub edition_bar : ℕ → Bar
edition_bar n = elim (is_up_to 2 n) [ true ↦ Ok tt | false ↦ Err Refusal.Edition ]

-- 5: "region outside the domain"
abbrev pub region_bar : Area → Bar
region_bar a = elim (in_domain a) [ true ↦ Ok tt | false ↦ Err Refusal.Region ]

-- 6: "working memory under" the words of a run; paper 02, h: "6 is now given under 5,120"
abbrev pub memory_bar : ℕ → Bar
memory_bar memory = elim (ltb memory memory_words) [ true ↦ Err Refusal.Memory | false ↦ Ok tt ]

-- the first of two bars
abbrev pub first_bar : Bar → Bar → Bar
first_bar (Ok u) b = b
first_bar (Err r) b = Err r

-- "1 to 6 are checked in that order", 14 "after 4 and before 5"
unfoldable pub bar_of : RegionCoverer → Area → ℕ → Bar
bar_of c a memory = first_bar (numbers_bar c) (first_bar (edition_bar c.edition) (first_bar (region_bar a) (memory_bar memory)))
