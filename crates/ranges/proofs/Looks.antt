-- One look at pairs: the small tests, and the turns of the loop.
use mathlib.Core.Path.{◌≡◌, refl, sym, ap, ◌∙◌}
use mathlib.Core.Bool.{Bool, true, false, ◌&&◌}
use mathlib.Core.List.{List, [], ◌∷◌}
use Prim.Native.Nat.{ℕ, ◌+◌, ◌*◌, ◌/◌, ◌≤◌, ◌<◌}
use native.Mathlib.Omega.{arith}
use lib.ListN.{length, get_or, drop, length-append}
use Rattle.std.specs.Prelude.{Ok, Err}
use Rattle.refusal.specs.declared.Refusal.{Refusal}
use Rattle.ranges.specs.Ranges.{leaves, follows, pairs_from, is_pairs, tile, cells_of}
use Rattle.ranges.specs.Steps.{looked}
use Rattle.ranges.proofs.Inputs.{follows→, each_cons, each_nil, none_ruled}
use Rattle.ranges.proofs.Tiles.{tiled}
use Rattle.cellid.proofs.Puts.{next_of, none_left, next_two}

-- ---- what one look tells

look_bad : (good : Bool) (l : List ℕ) → good ≡ false → Err Refusal.NotRanges ≡ looked good l
unfolding looked
look_bad good l e = rw (looked, e)

look_good : (good : Bool) (l : List ℕ) (n : ℕ) → good ≡ true → n ≡ length l → Ok n ≡ looked good l
unfolding looked
look_good good l n e q = rw (looked, e) (ap Ok q)

-- ---- the look at pairs

pub record Pairing (ps : List ℕ) (from cells i : ℕ) : Type 0 where
  pub within : i ≤ length ps
  pub same : pairs_from from (drop i ps) ≡ pairs_from 1 ps
  pub count : cells + length (cells_of (drop i ps)) ≡ length (cells_of ps)
  pub low : 2 * cells + 1 ≤ from

rule_cons : (b first last : ℕ) (ps : List ℕ) → pairs_from b (first ∷ last ∷ ps) ≡ (follows b first last && pairs_from (last + 4) ps)
unfolding pairs_from
rule_cons b first last ps = refl

rule_one : (b x : ℕ) → pairs_from b (x ∷ []) ≡ false
unfolding pairs_from
rule_one b x = refl

pair_next : (ps : List ℕ) (from cells i : ℕ) (b : Bool) → Pairing ps from cells i → i + 1 < length ps → b ≡ follows from (get_or ps i 0) (get_or ps (i + 1) 0) → (b && pairs_from (get_or ps (i + 1) 0 + 4) (drop (i + 2) ps)) ≡ pairs_from 1 ps
pair_next ps from cells i b G h e = ap (λ (t : Bool). t && pairs_from (get_or ps (i + 1) 0 + 4) (drop (i + 2) ps)) e ∙ sym (rule_cons from (get_or ps i 0) (get_or ps (i + 1) 0) (drop (i + 2) ps)) ∙ sym (ap (pairs_from from) (next_two ps i h)) ∙ G.same

pub pair_bad : (ps : List ℕ) (from cells i : ℕ) (b : Bool) → Pairing ps from cells i → i + 1 < length ps → b ≡ follows from (get_or ps i 0) (get_or ps (i + 1) 0) → b ≡ false → Err Refusal.NotRanges ≡ looked (is_pairs ps) (cells_of ps)
pair_bad ps from cells i b G h e t = look_bad (is_pairs ps) (cells_of ps) (sym (rw t at (pair_next ps from cells i b G h e)))

-- what a pair that follows asks of the stretch that it is
pub record Stretch (first last : ℕ) : Type 0 where
  pub to : last < 2 * leaves
  pub up : first / 2 ≤ (last + 1) / 2
  pub world : (last + 1) / 2 ≤ leaves

pub pair_fine : (b first last : ℕ) (t : Bool) → t ≡ follows b first last → t ≡ true → Stretch first last
pair_fine b first last t e h = let F = follows→ b first last (sym e ∙ h) in record { to = F.to; up = omega (arith, F.some); world = omega (arith, F.to) }

pub pair_room : (ps : List ℕ) (from cells i more : ℕ) (b : Bool) → Pairing ps from cells i → b ≡ follows from (get_or ps i 0) (get_or ps (i + 1) 0) → b ≡ true → more ≡ length (tile (get_or ps i 0 / 2) ((get_or ps (i + 1) 0 + 1) / 2)) → 2 * (cells + more) + 1 ≤ get_or ps (i + 1) 0 + 4
pair_room ps from cells i more b G e t q =
    let F = follows→ from (get_or ps i 0) (get_or ps (i + 1) 0) (sym e ∙ t) in
    let S = pair_fine from (get_or ps i 0) (get_or ps (i + 1) 0) b e t in
    let T = tiled (get_or ps i 0 / 2) ((get_or ps (i + 1) 0 + 1) / 2) S.up S.world in
    omega (arith, T.short, F.from, F.odd, F.odd', G.low)

pub pair_on : (ps : List ℕ) (from cells i more : ℕ) (b : Bool) → Pairing ps from cells i → i + 1 < length ps → b ≡ follows from (get_or ps i 0) (get_or ps (i + 1) 0) → b ≡ true → more ≡ length (tile (get_or ps i 0 / 2) ((get_or ps (i + 1) 0 + 1) / 2)) → Pairing ps (get_or ps (i + 1) 0 + 4) (cells + more) (i + 2)
pair_on ps from cells i more b G h e t q =
    let s = get_or ps i 0 in
    let w = get_or ps (i + 1) 0 in
    record {
      within = omega arith;
      same = rw t at (pair_next ps from cells i b G h e);
      count = omega (arith, G.count, ap (λ (l : List ℕ). length (cells_of l)) (next_two ps i h), ap length (each_cons tile s w (drop (i + 2) ps)), length-append (tile (s / 2) ((w + 1) / 2)) (cells_of (drop (i + 2) ps)));
      low = pair_room ps from cells i more b G e t q;
    }

pub pairs_whole : (ps : List ℕ) (from cells i : ℕ) → Pairing ps from cells i → i ≡ length ps → Ok cells ≡ looked (is_pairs ps) (cells_of ps)
pairs_whole ps from cells i G h =
    let n = none_left ps i (omega arith) in
    look_good (is_pairs ps) (cells_of ps) cells (sym G.same ∙ ap (pairs_from from) n ∙ none_ruled from) (omega (arith, G.count, ap (λ (l : List ℕ). length (cells_of l)) n, ap length (each_nil tile)))

pub pairs_odd : (ps : List ℕ) (from cells i : ℕ) → Pairing ps from cells i → length ps ≤ i + 1 → (i ≡ length ps → ⊥) → Err Refusal.NotRanges ≡ looked (is_pairs ps) (cells_of ps)
pairs_odd ps from cells i G h e =
    let n = next_of ps i (omega (arith, G.within)) in
    look_bad (is_pairs ps) (cells_of ps) (sym G.same ∙ ap (pairs_from from) (n ∙ ap (λ (s : List ℕ). get_or ps i 0 ∷ s) (none_left ps (i + 1) h)) ∙ rule_one from (get_or ps i 0))
