-- The start cells for a region in the domain and a request in the domain, and where its bound and they stand in memory.
use mathlib.Core.Path.{◌≡◌, sym, ap, ap₂, ◌∙◌}
use mathlib.Core.Bool.{true}
use mathlib.Core.List.{List, ◌++◌}
use Prim.Native.Nat.{ℕ, ◌-◌, ◌≤◌}
use native.Mathlib.Omega.{arith}
use lib.ListN.{length, take, drop, length-append}
use lib.Seq.{take_at, drop_at}
use Rattle.region.specs.Region.{Area, in_domain, bound_of}
use Rattle.region.proofs.Laws.{bound_fits, bound_cells}
use Rattle.cellid.specs.CellId.{Cell}
use Rattle.order.specs.Order.{All}
use Rattle.std.specs.Prelude.{Option}
use Rattle.cellunion.specs.Memory.{zeros, laid, room_for, laid_over}
use Rattle.cellunion.proofs.Memory.{laid_start, length_zeros, zeros_drop}
use Rattle.run.specs.declared.RegionCoverer.{RegionCoverer}
use Rattle.run.specs.Run.{memory_words}
use Rattle.fast.specs.Memory.{NumbersFit, merged_covering_for, fast_covering_for, starts_for, in_place, Cells}
use Rattle.fast.proofs.Turns.{take_in_place}
use Rattle.fast.proofs.StartLaws.{Starting, starts_laws}

module _ (c : RegionCoverer) (a : Area) (d : NumbersFit c) (h : in_domain a ≡ true) where
  pub region_starts : Starting c.min_level c.max_level c.level_mod (bound_of a) (starts_for c (bound_of a))
  region_starts = starts_laws _ _ _ _ (bound_of a) d.some (bound_cells a h)

  pub at_most_six : length (starts_for c (bound_of a)) ≤ 6
  at_most_six = region_starts.few

-- ---- the bound in the memory's first words

pub record Bounded (bound m m₁ : List ℕ) (n : ℕ) : Type 0 where
  pub room : n ≤ length m₁
  pub front : take n m₁ ≡ bound
  pub same : (l : List ℕ) → in_place n l m₁ ≡ in_place (length bound) l m

pub bounded : (a : Area) (m m₁ : List ℕ) (n : ℕ) → in_domain a ≡ true → memory_words ≤ length m → (n ≡ length (bound_of a)) × (m₁ ≡ laid 0 (bound_of a) m) → Bounded (bound_of a) m m₁ n
unfolding in_place
bounded a m m₁ n h g e =
    let bound = bound_of a in
    let f : m₁ ≡ bound ++ drop (length bound) m = e.1 ∙ laid_start bound m in
    let back : drop n m₁ ≡ drop (length bound) m = ap (drop n) f ∙ drop_at bound (drop (length bound) m) n (sym e.0) in
    record {
      room = omega (arith, bound_fits a h, e.0, ap length f, length-append bound (drop (length bound) m));
      front = ap (take n) f ∙ take_at bound (drop (length bound) m) n (sym e.0);
      same = λ l. ap₂ (λ (k : ℕ) (t : List ℕ). l ++ (zeros (k - length l) ++ t)) e.0 back;
    }

module _ (c : RegionCoverer) (bound m m₁ : List ℕ) (n : ℕ) (B : Bounded bound m m₁ n) where
  pub bounded_cells : All Cell bound → Cells n m₁
  bounded_cells C = (B.room, rw B.front C)

  -- what is made of the first words is made of the bound
  pub fast_gives : (r : Option ℕ) (out out' m₂ : List ℕ)
      → (r ≡ room_for (fast_covering_for c (take n m₁)) out) × (out' ≡ laid_over (fast_covering_for c (take n m₁)) out) × (m₂ ≡ in_place n (merged_covering_for c (take n m₁)) m₁)
      → ((r ≡ room_for (fast_covering_for c bound) out) × (out' ≡ laid_over (fast_covering_for c bound) out)) × (m₂ ≡ in_place (length bound) (merged_covering_for c bound) m)
  fast_gives r out out' m₂ h = (
    (h.0 ∙ ap (λ (l : List ℕ). room_for (fast_covering_for c l) out) B.front, h.1 ∙ ap (λ (l : List ℕ). laid_over (fast_covering_for c l) out) B.front),
    h.2 ∙ B.same (merged_covering_for c (take n m₁)) ∙ ap (λ (l : List ℕ). in_place (length bound) (merged_covering_for c l) m) B.front,
  )

-- ---- the start cells, copied out of them

module _ (c : RegionCoverer) (a : Area) (d : NumbersFit c) (h : in_domain a ≡ true) (m m₁ m₂ : List ℕ) (n k : ℕ) (B : Bounded (bound_of a) m m₁ n)
    (e : (k ≡ length (starts_for c (take n m₁))) × (m₂ ≡ in_place n (starts_for c (take n m₁)) m₁)) (words : List ℕ) (z : words ≡ zeros 6) where
  l : List ℕ
  l = starts_for c (bound_of a)

  count : k ≡ length l
  unfolding l
  count = e.0 ∙ ap (λ (x : List ℕ). length (starts_for c x)) B.front

  there : m₂ ≡ in_place n l m₁
  unfolding l
  there = e.1 ∙ ap (λ (x : List ℕ). in_place n (starts_for c x) m₁) B.front

  front : take k m₂ ≡ l
  front = ap (take k) there ∙ take_in_place n k l m₁ (sym count)

  pub six_asks : (k ≤ length m₂) × (k ≤ length words)
  unfolding l in_place
  six_asks = (omega (arith, count, ap length there, length-append l (zeros (n - length l) ++ drop n m₁)), omega (arith, count, at_most_six c a d h, ap length z, length_zeros 6))

  pub starts_give : (ids : List ℕ) → ids ≡ laid 0 (take k m₂) words
      → ((k ≡ length (starts_for c (bound_of a))) × (ids ≡ starts_for c (bound_of a) ++ zeros (6 - length (starts_for c (bound_of a))))) × (m₂ ≡ in_place (length (bound_of a)) (starts_for c (bound_of a)) m)
  unfolding l
  starts_give ids f = (
    (count, f ∙ ap₂ (λ (x y : List ℕ). laid 0 x y) front z ∙ laid_start l (zeros 6) ∙ ap (λ (x : List ℕ). l ++ x) (zeros_drop (length l) 6)),
    there ∙ B.same l,
  )
