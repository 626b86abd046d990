-- What one look makes of a cell in a run; and since the four children of a cell have one level, one rule makes their sets of the two that a look gives.
use mathlib.Core.Path.{◌≡◌, refl, sym, ap, ap₂, ◌∙◌}
use Rattle.std.specs.Prelude.{Option, Some, None}
use mathlib.Core.Bool.{Bool, true, false, not, cond, ◌&&◌, ◌||◌}
use Prim.Native.Nat.{ℕ, ◌+◌, ◌*◌, ◌/◌, ◌^◌, ◌<◌}
use native.Mathlib.Omega.{arith}
use lib.Bits.{bit_and, and_mask}
use lib.Dec.{ltb}
use Rattle.cellid.specs.CellId.{Cell, level_of, child_of, one}
use Rattle.cellid.proofs.Laws.{level_cell, one_le}
use Rattle.cellid.proofs.Leaves.{child_cell}
use Rattle.sight.specs.Sight.{sight_by, sight_of, passes, is_inside, four_bits, four_sights, sights_of}
use Rattle.sight.specs.declared.Sight.{Sight}
use Rattle.sight.specs.declared.Sights.{Sights}
use Rattle.sight.proofs.Laws.{pick_bit, passes_by}
use Rattle.run.specs.declared.Found.{Found}
use Rattle.run.specs.Run.{min_level, max_level, level_mod, Task, Look, fails, none, terminal, divide, look}
use Rattle.run.specs.Masks.{found_at, found, found_part, place_in, up_to}
use Rattle.run.proofs.Looks.{look_by, look_by_lem}
use Rattle.run.proofs.Masks.{part_last, found_four}
use Rattle.candidate.specs.Candidate.{asks_whole, crossing_as, candidate_of}
use Rattle.candidate.specs.declared.Candidate.{Candidate}

-- ---- one cell

-- what the run takes a cell for, by a look that tells as much as it asks, where it takes a crossing one for x
abbrev look_as : Look → Sight → Look
look_as x Sight.Outside = fails
look_as x Sight.Crossing = x
look_as x Sight.Inside = terminal

look_five : (h l w b i : Bool) → look_by h l w b i ≡ look_as (cond l divide (cond b (cond i none terminal) divide)) (sight_by h ((not l && (i || not b)) && w))
unfolding look_by sight_by
look_five false l w b i = refl
look_five true true w b i = refl
look_five true false true true true = refl
look_five true false true true false = refl
look_five true false true false true = refl
look_five true false true false false = refl
look_five true false false true true = refl
look_five true false false true false = refl
look_five true false false false true = refl
look_five true false false false false = refl

look_as_lem : (T : Task) (id : ℕ) → look T id ≡ look_as (crossing_as T.asked (level_of id)) (sight_of T.hits T.within (asks_whole T.asked (level_of id)) id)
unfolding sight_of
look_as_lem T id = look_by_lem T id ∙ look_five (T.hits id) (ltb (level_of id) (min_level T.asked)) (T.within id) (ltb (max_level T.asked) (level_of id + level_mod T.asked)) T.asked.inner

pub seen_as : (T : Task) (id level : ℕ) (whole : Bool) (s : Sight) → level ≡ level_of id → whole ≡ asks_whole T.asked level → s ≡ sight_of T.hits T.within whole id → look_as (crossing_as T.asked level) s ≡ look T id
seen_as T id level whole s el ew es = rw (es, ew, el) (sym (look_as_lem T id))

-- ---- four

abbrev sets : ℕ → ℕ → Found
sets p t = record { present = p; terminal = t }

-- four parts of one place each
join_four : (a b c d : ℕ) → d * 2 ^ (1 * 3) + (c * 2 ^ (1 * 2) + (b * 2 ^ (1 * 1) + (a * 2 ^ (1 * 0) + 0))) ≡ four_bits a b c d
join_four a b c d = omega arith

up_four : (f : ℕ → Found) (id : ℕ) (p t : ℕ → ℕ) → ((k : ℕ) → k < 4 → f (child_of id k) ≡ sets (p k) (t k))
    → up_to f 1 id 4 ≡ sets (four_bits (p 0) (p 1) (p 2) (p 3)) (four_bits (t 0) (t 1) (t 2) (t 3))
unfolding up_to place_in
up_four f id p t e =
    rw (e 0 (omega arith), e 1 (omega arith), e 2 (omega arith), e 3 (omega arith)) (ap₂ sets (join_four (p 0) (p 1) (p 2) (p 3)) (join_four (t 0) (t 1) (t 2) (t 3)))

-- whether a cell is one of the children, and a terminal one, by what a crossing cell of its level is to the run
abbrev is_present : Option Candidate → Sight → Bool
is_present (Some Candidate.Kept) s = passes s
is_present (Some Candidate.Queued) s = passes s
is_present None s = is_inside s

abbrev is_terminal : Option Candidate → Sight → Bool
is_terminal (Some Candidate.Kept) s = passes s
is_terminal (Some Candidate.Queued) s = is_inside s
is_terminal None s = is_inside s

-- a look as sets of one, by the candidate that it makes
look_found : (x : Look) → found_at x ≡ sets (one (is_present (candidate_of x) Sight.Crossing)) (one (is_terminal (candidate_of x) Sight.Crossing))
unfolding found_at one
look_found fails = refl
look_found none = refl
look_found terminal = refl
look_found divide = refl

cell_found : (x : Look) (c : Option Candidate) (s : Sight) → c ≡ candidate_of x → found_at (look_as x s) ≡ sets (one (is_present c s)) (one (is_terminal c s))
unfolding found_at one
cell_found x (Some Candidate.Kept) Sight.Outside e = refl
cell_found x (Some Candidate.Queued) Sight.Outside e = refl
cell_found x None Sight.Outside e = refl
cell_found x c Sight.Crossing e = look_found x ∙ rw (← e)
cell_found x (Some Candidate.Kept) Sight.Inside e = refl
cell_found x (Some Candidate.Queued) Sight.Inside e = refl
cell_found x None Sight.Inside e = refl

-- the sets of the four children
abbrev sets_by : Option Candidate → Sights → Found
sets_by (Some Candidate.Kept) l = sets l.passing l.passing
sets_by (Some Candidate.Queued) l = sets l.passing l.inside
sets_by None l = sets l.inside l.inside

module _ (T : Task) (id : ℕ) (C : Cell id) (deep : level_of id < 30) where
  level_under : (k : ℕ) → k < 4 → level_of (child_of id k) ≡ level_of id + 1
  level_under k g =
      let l : level_of id ≡ C.0 = level_cell id C.0 C.1 C.2 in
      level_cell (child_of id k) (C.0 + 1) (4 * C.1 + k) (child_cell k C.2 (omega arith) g) ∙ sym (ap (λ (n : ℕ). n + 1) l)

  module _ (c : Option Candidate) (e : c ≡ candidate_of (crossing_as T.asked (level_of id + 1))) where
    abbrev sight_below : ℕ → Sight
    sight_below x = sight_of T.hits T.within (asks_whole T.asked (level_of id + 1)) x

    child_found : (k : ℕ) → k < 4 → found_at (look T (child_of id k)) ≡ sets (one (is_present c (sight_below (child_of id k)))) (one (is_terminal c (sight_below (child_of id k))))
    child_found k g = rw (look_as_lem T (child_of id k), level_under k g) (cell_found (crossing_as T.asked (level_of id + 1)) c (sight_below (child_of id k)) e)

    four : found T 1 id
        ≡ sets (four_bits (one (is_present c (sight_below (child_of id 0)))) (one (is_present c (sight_below (child_of id 1)))) (one (is_present c (sight_below (child_of id 2)))) (one (is_present c (sight_below (child_of id 3)))))
        (four_bits (one (is_terminal c (sight_below (child_of id 0)))) (one (is_terminal c (sight_below (child_of id 1)))) (one (is_terminal c (sight_below (child_of id 2)))) (one (is_terminal c (sight_below (child_of id 3)))))
    four = found_four T 0 id ∙ up_four (found_part T 0) id (λ k. one (is_present c (sight_below (child_of id k)))) (λ k. one (is_terminal c (sight_below (child_of id k)))) (λ k g. part_last T (child_of id k) ∙ child_found k g)

    four_found : (l : Sights) → l ≡ sights_of sight_below id → sets_by c l ≡ found T 1 id
    unfolding sights_of four_sights
    four_found l f = rw f (by c ∙ sym four)
      where
        by : (c : Option Candidate) → sets_by c (sights_of sight_below id)
            ≡ sets (four_bits (one (is_present c (sight_below (child_of id 0)))) (one (is_present c (sight_below (child_of id 1)))) (one (is_present c (sight_below (child_of id 2)))) (one (is_present c (sight_below (child_of id 3)))))
            (four_bits (one (is_terminal c (sight_below (child_of id 0)))) (one (is_terminal c (sight_below (child_of id 1)))) (one (is_terminal c (sight_below (child_of id 2)))) (one (is_terminal c (sight_below (child_of id 3)))))
        by (Some Candidate.Kept) = refl
        by (Some Candidate.Queued) = refl
        by None = refl

  pub four_seen : (level : ℕ) (whole : Bool) (c : Option Candidate) (l : Sights) → level ≡ level_of id → c ≡ candidate_of (crossing_as T.asked (level + 1)) → whole ≡ asks_whole T.asked (level + 1)
      → l ≡ sights_of (sight_of T.hits T.within whole) id → sets_by c l ≡ found T 1 id
  unfolding sights_of
  four_seen level whole c l el ec ew es = four_found c (rw (← el) ec) l (rw (← el, ← ew) es)

-- ---- a bit of the set of those that pass

pub bit_yes : (b : Bool) → one b ≡ 1 → b ≡ true
unfolding one
bit_yes true h = refl
bit_yes false h = absurd (omega arith)

pub bit_no : (b : Bool) → (one b ≡ 1 → ⊥) → b ≡ false
unfolding one
bit_no true h = absurd (h refl)
bit_no false h = refl

pub bit_test : (hits within : ℕ → Bool) (whole : Bool) (id k : ℕ) (l : Sights) → k < 4 → l ≡ sights_of (sight_of hits within whole) id → bit_and (l.passing / 2 ^ k) 1 ≡ one (hits (child_of id k))
unfolding sights_of four_sights sight_of
bit_test hits within whole id k l g e =
    rw (and_mask (l.passing / 2 ^ k) 1, e)
    (pick_bit (λ n. one (passes (sight_of hits within whole (child_of id n)))) (λ n. one_le (passes (sight_of hits within whole (child_of id n)))) k g ∙ ap one (passes_by _ _))
