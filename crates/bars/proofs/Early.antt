-- The refusals 1 to 6 and 14: each is given exactly when the papers say so.
use mathlib.Core.Path.{◌≡◌, subst}
use mathlib.Core.Bool.{true, false, and-eq-true_iff}
use mathlib.Core.Logic.{◌⊎◌, inl, inr, ⊎_elim, ◌↔◌}
use Prim.Native.Nat.{ℕ, zero, suc, ◌≤◌, ◌<◌}
use native.Mathlib.Omega.{arith}
use lib.Dec.{leb, ltb}
use borrow.Author.Tests.{leb-true, leb-false, ltb-true, ltb-false, lt-ltb, le-ltb, le-leb}
use Rattle.cellid.proofs.Laws.{no_true}
use Rattle.region.specs.Region.{Area, in_domain}
use Rattle.run.specs.declared.RegionCoverer.{RegionCoverer}
use Rattle.run.proofs.Lists.{if_ok}
use Rattle.run.specs.Run.{memory_words}
use Rattle.std.specs.Prelude.{Ok, Err}
use Rattle.refusal.specs.Refusal.{number_of}
use Rattle.refusal.specs.declared.Refusal.{Refusal}
use Rattle.refusal.proofs.Laws.{same_refusal}
use Rattle.bars.specs.Bars.{Bar, is_up_to, numbers_bar, edition_bar, region_bar, memory_bar, first_bar, bar_of}

-- "level_mod not 1..3", "unknown edition": a number that is none of those from 1 to `most`, and one that is
abbrev pub Beyond : ℕ → ℕ → Type 0
Beyond most n = (n < 1) ⊎ (most < n)

abbrev pub UpTo : ℕ → ℕ → Type 0
UpTo most n = (0 < n) × (n ≤ most)

up_to_true : (most n : ℕ) → is_up_to most n ≡ true → UpTo most n
up_to_true most n t = let a = (and-eq-true_iff (leb 1 n) (leb n most)).0 t in let x : 1 ≤ n = leb-true _ _ a.0 in let y : n ≤ most = leb-true _ _ a.1 in (omega arith, y)

up_to_false : (most n : ℕ) → is_up_to most n ≡ false → Beyond most n
up_to_false most zero t = inl (omega arith)
up_to_false most (suc n) t = inr (leb-false (suc n) most (rw (le-leb 1 (suc n) (omega arith)) at t))

is_up_to_lem : (most n : ℕ) → UpTo most n → is_up_to most n ≡ true
is_up_to_lem most n h = rw (le-leb 1 n (omega arith), le-leb n most (omega arith))

not_up_to : (most n : ℕ) → Beyond most n → is_up_to most n ≡ false
not_up_to most n h = no_true (is_up_to most n) (λ t. let g = up_to_true most n t in ⊎_elim (λ x. omega arith) (λ x. omega arith) h)

-- the numbers that bar a request
abbrev pub IsBar : ℕ → Type 0
IsBar n = ((0 < n) × (n ≤ 6)) ⊎ (n ≡ 14)

-- each of these numbers stands for one refusal
pub bar_same : (r s : Refusal) → IsBar (number_of r) → number_of r ≡ number_of s → r ≡ s
bar_same r s h e = same_refusal r s (λ q. ⊎_elim (λ b. omega arith) (λ b. omega arith) h) e

-- ---- each bar by its reason

pub edition_bad : (n : ℕ) → Beyond 2 n → edition_bar n ≡ Err Refusal.Edition
edition_bad n h = rw (not_up_to 2 n h, edition_bar)

pub edition_open : (n : ℕ) → UpTo 2 n → edition_bar n ≡ Ok tt
edition_open n h = rw (is_up_to_lem 2 n h, edition_bar)

pub region_open : (a : Area) → in_domain a ≡ true → region_bar a ≡ Ok tt
region_open a h = rw (h, region_bar)

pub region_bad : (a : Area) → in_domain a ≡ false → region_bar a ≡ Err Refusal.Region
region_bad a h = rw (h, region_bar)

pub memory_short : (memory : ℕ) → memory < memory_words → memory_bar memory ≡ Err Refusal.Memory
memory_short memory h = rw (lt-ltb memory memory_words h, memory_bar)

pub memory_open : (memory : ℕ) → memory_words ≤ memory → memory_bar memory ≡ Ok tt
memory_open memory h = rw (le-ltb memory memory_words h, memory_bar)

module _ (c : RegionCoverer) where
  pub numbers_deep : 30 < c.max_level → numbers_bar c ≡ Err Refusal.MaxLevel
  numbers_deep h = rw (lt-ltb 30 c.max_level h, numbers_bar)

  module _ (t : c.max_level ≤ 30) where
    pub numbers_order : c.max_level < c.min_level → numbers_bar c ≡ Err Refusal.MinLevel
    numbers_order h = rw (le-ltb 30 c.max_level t, numbers_bar, lt-ltb c.max_level c.min_level h)

    module _ (l : c.min_level ≤ c.max_level) where
      pub numbers_steps : Beyond 3 c.level_mod → numbers_bar c ≡ Err Refusal.LevelMod
      numbers_steps h = rw (le-ltb 30 c.max_level t, numbers_bar, le-ltb c.max_level c.min_level l, not_up_to 3 c.level_mod h)

      module _ (m : UpTo 3 c.level_mod) where
        pub numbers_cells : 1000 < c.max_cells → numbers_bar c ≡ Err Refusal.MaxCells
        numbers_cells h = rw (le-ltb 30 c.max_level t, numbers_bar, le-ltb c.max_level c.min_level l, is_up_to_lem 3 c.level_mod m, lt-ltb 1000 c.max_cells h)

        pub numbers_open : c.max_cells ≤ 1000 → numbers_bar c ≡ Ok tt
        numbers_open f = rw (le-ltb 30 c.max_level t, numbers_bar, le-ltb c.max_level c.min_level l, is_up_to_lem 3 c.level_mod m, le-ltb 1000 c.max_cells f)

module _ (c : RegionCoverer) (a : Area) (memory : ℕ) where
  abbrev pub Top : Type 0
  Top = c.max_level ≤ 30

  abbrev pub Low : Type 0
  Low = c.min_level ≤ c.max_level

  abbrev pub Few : Type 0
  Few = c.max_cells ≤ 1000

  abbrev pub Known : Type 0
  Known = UpTo 2 c.edition

  -- the numbers, with what each is given for, and what holds where none is
  pub data Early : Bar → Type 0 where
    deep : 30 < c.max_level → Early (Err Refusal.MaxLevel)
    order : Top → c.max_level < c.min_level → Early (Err Refusal.MinLevel)
    steps : Top → Low → Beyond 3 c.level_mod → Early (Err Refusal.LevelMod)
    cells : Top → Low → UpTo 3 c.level_mod → 1000 < c.max_cells → Early (Err Refusal.MaxCells)
    edition : Top → Low → UpTo 3 c.level_mod → Few → Beyond 2 c.edition → Early (Err Refusal.Edition)
    region : Top → Low → UpTo 3 c.level_mod → Few → Known → in_domain a ≡ false → Early (Err Refusal.Region)
    short : Top → Low → UpTo 3 c.level_mod → Few → Known → in_domain a ≡ true → memory < memory_words → Early (Err Refusal.Memory)
    none : Top → Low → UpTo 3 c.level_mod → Few → Known → in_domain a ≡ true → memory_words ≤ memory → Early (Ok tt)

  -- the number that is given is given for its reason
  pub early_is : Early (bar_of c a memory)
  unfolding bar_of
  early_is = if_ok numbers (ltb 30 c.max_level) _ _
      (λ t. deep (ltb-true _ _ t))
      (λ t₁. if_ok numbers (ltb c.max_level c.min_level) _ _
      (λ t. order (ltb-false _ _ t₁) (ltb-true _ _ t))
      (λ t₂. if_ok numbers (is_up_to 3 c.level_mod) _ _
      (λ t₃. if_ok numbers (ltb 1000 c.max_cells) _ _
      (λ t. cells (ltb-false _ _ t₁) (ltb-false _ _ t₂) (up_to_true _ _ t₃) (ltb-true _ _ t))
      (λ t₄. if_ok editions (is_up_to 2 c.edition) _ _
      (λ t₅. if_ok (λ (b : Bar). Early (first_bar b (memory_bar memory))) (in_domain a) _ _
      (λ t₆. if_ok Early (ltb memory memory_words) _ _
      (λ t. short (ltb-false _ _ t₁) (ltb-false _ _ t₂) (up_to_true _ _ t₃) (ltb-false _ _ t₄) (up_to_true _ _ t₅) t₆ (ltb-true _ _ t))
      (λ t. none (ltb-false _ _ t₁) (ltb-false _ _ t₂) (up_to_true _ _ t₃) (ltb-false _ _ t₄) (up_to_true _ _ t₅) t₆ (ltb-false _ _ t)))
      (λ t. region (ltb-false _ _ t₁) (ltb-false _ _ t₂) (up_to_true _ _ t₃) (ltb-false _ _ t₄) (up_to_true _ _ t₅) t))
      (λ t. edition (ltb-false _ _ t₁) (ltb-false _ _ t₂) (up_to_true _ _ t₃) (ltb-false _ _ t₄) (up_to_false _ _ t))))
      (λ t. steps (ltb-false _ _ t₁) (ltb-false _ _ t₂) (up_to_false _ _ t))))
    where
      numbers : Bar → Type 0
      numbers b = Early (first_bar b (first_bar (edition_bar c.edition) (first_bar (region_bar a) (memory_bar memory))))

      editions : Bar → Type 0
      editions b = Early (first_bar b (first_bar (region_bar a) (memory_bar memory)))

  -- and where the reason is there, the number is given
  pub early_given : (b : Bar) → Early b → bar_of c a memory ≡ b
  unfolding bar_of
  early_given b (deep h) = rw (numbers_deep c h)
  early_given b (order t h) = rw (numbers_order c t h)
  early_given b (steps t l h) = rw (numbers_steps c t l h)
  early_given b (cells t l m h) = rw (numbers_cells c t l m h)
  early_given b (edition t l m f h) = rw (numbers_open c t l m f, edition_bad c.edition h)
  early_given b (region t l m f n h) = rw (numbers_open c t l m f, edition_open c.edition n, region_bad a h)
  early_given b (short t l m f n r h) = rw (numbers_open c t l m f, edition_open c.edition n, region_open a r, memory_short memory h)
  early_given b (none t l m f n r h) = rw (numbers_open c t l m f, edition_open c.edition n, region_open a r, memory_open memory h)

  -- each number is given exactly when
  pub exactly_when : (b : Bar) → (bar_of c a memory ≡ b) ↔ Early b
  exactly_when b = (λ e. subst Early e early_is, early_given b)

  -- 1 to 6, 14 and no other
  pub early_low : {r : Refusal} → Early (Err r) → IsBar (number_of r)
  early_low (deep _) = inl (omega arith, omega arith)
  early_low (order _ _) = inl (omega arith, omega arith)
  early_low (steps _ _ _) = inl (omega arith, omega arith)
  early_low (cells _ _ _ _) = inl (omega arith, omega arith)
  early_low (edition _ _ _ _ _) = inr (omega arith)
  early_low (region _ _ _ _ _ _) = inl (omega arith, omega arith)
  early_low (short _ _ _ _ _ _ _) = inl (omega arith, omega arith)

  -- what the functions beneath ask, once none of them is given
  pub record Valid : Type 0 where
    pub deep : Top
    pub order : Low
    pub «mod» : UpTo 3 c.level_mod
    pub few : Few
    pub known : Known
    pub region : in_domain a ≡ true
    pub long : memory_words ≤ memory

  pub early_none : bar_of c a memory ≡ Ok tt → Valid
  early_none e = of (subst Early e early_is)
    where
      of : Early (Ok tt) → Valid
      of (none t l m f n r h) = record { deep = t; order = l; «mod» = m; few = f; known = n; region = r; long = h }
