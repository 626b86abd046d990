-- The counts of the sets are those of the list of children; and how large they can be.
use mathlib.Core.Path.{◌≡◌, refl, sym, ap, ◌∙◌}
use mathlib.Core.Bool.{Bool, true, false, true≢false}
use mathlib.Core.List.{List, [], ◌∷◌, ◌++◌}
use Prim.Native.Nat.{ℕ, zero, suc, ◌+◌, ◌*◌, ◌/◌, ◌%◌, ◌^◌, ◌≤◌, ◌<◌}
use native.Mathlib.Nat.{pow-suc}
use native.Mathlib.Omega.{arith}
use lib.Count.{ones, ones_in, ones_cat, ones_step}
use lib.Arith.{bin_ind}
use lib.Dec.{eqb, ltb}
use lib.Pow.{pow_mono}
use borrow.Author.Tests.{eq-eqb, eqb-true}
use lib.ListN.{length, length-append}
use Rattle.cellid.specs.CellId.{child_of, level_of}
use Rattle.cellid.proofs.Laws.{bool_iff}
use Rattle.run.specs.declared.Found.{Found}
use Rattle.run.specs.Run.{is_empty, Child, Expansion, Look, divide, ending, expand, expansion_of, depth, full, level_mod, min_level, fails, four_of, join, look, none, reached, terminal, Task, part, failing}
use Rattle.run.specs.Masks.{none_found, found, found_part, found_at, place_in, up_to}
use Rattle.run.proofs.Lists.{if_ok}
use Rattle.run.proofs.Masks.{Small, up_small, part_small}

ending_one : (b : Bool) (m n k : ℕ) → m ≡ n + k → elim b [ true ↦ suc m | false ↦ m ] ≡ (elim b as (λ x. ℕ) [ true ↦ suc n | false ↦ n ]) + k
ending_one true m n k e = omega arith
ending_one false m n k e = e

ending_append : (l r : List Child) → ending (l ++ r) ≡ ending l + ending r
unfolding ending
ending_append [] r = omega arith
ending_append (c ∷ l) r = ending_one c.ends (ending (l ++ r)) (ending l) (ending r) (ending_append l r)

pub record Counted (f : Found) (e : Expansion) : Type 0 where
  pub present : ones f.present ≡ length e.children
  pub terminal : ones f.terminal ≡ ending e.children

at_counted : (id : ℕ) (v : Look) → Counted (found_at v) (reached id v)
unfolding found_at reached ending ones ones_in
at_counted id fails = record { present = refl; terminal = refl }
at_counted id none = record { present = refl; terminal = refl }
at_counted id terminal = record { present = refl; terminal = refl }
at_counted id divide = record { present = refl; terminal = refl }

branch_counted : (b : Bool) (f : Found) (e : Expansion) (c : ℕ) → Counted f e
    → Counted (elim b [ true ↦ f | false ↦ none_found ]) (elim b [ true ↦ e | false ↦ failing c ])
unfolding ending ones ones_in
branch_counted true f e c h = h
branch_counted false f e c h = record { present = refl; terminal = refl }

join_length : (a b : Expansion) → length (join a b).children ≡ length a.children + length b.children
unfolding join
join_length a b = length-append a.children b.children

join_ending : (a b : Expansion) → ending (join a b).children ≡ ending a.children + ending b.children
unfolding join
join_ending a b = ending_append a.children b.children

four_length : (e : ℕ → Expansion) (id : ℕ) → length (four_of e id).children
    ≡ length (e (child_of id 0)).children + (length (e (child_of id 1)).children + (length (e (child_of id 2)).children + length (e (child_of id 3)).children))
unfolding four_of
four_length e id = simp join_length

four_ending : (e : ℕ → Expansion) (id : ℕ) → ending (four_of e id).children
    ≡ ending (e (child_of id 0)).children + (ending (e (child_of id 1)).children + (ending (e (child_of id 2)).children + ending (e (child_of id 3)).children))
unfolding four_of
four_ending e id = simp join_ending

module _ (f : ℕ → Found) (w id : ℕ) (s : (k : ℕ) → k < 4 → Small w (f (child_of id k))) where
  up_zero : (ones (up_to f w id 0).present ≡ 0) × (ones (up_to f w id 0).terminal ≡ 0)
  unfolding up_to ones ones_in
  up_zero = (refl, refl)

  up_one : (k : ℕ) → k ≤ 4 → (ones (up_to f w id (suc k)).present ≡ ones (f (child_of id k)).present + ones (up_to f w id k).present)
      × (ones (up_to f w id (suc k)).terminal ≡ ones (f (child_of id k)).terminal + ones (up_to f w id k).terminal)
  unfolding up_to place_in
  up_one k h = let u = up_small f w id s k h in (ones_cat (w * k) (f (child_of id k)).present (up_to f w id k).present u.present, ones_cat (w * k) (f (child_of id k)).terminal (up_to f w id k).terminal u.terminal)

  four_counted : (e : ℕ → Expansion) → ((k : ℕ) → k < 4 → Counted (f (child_of id k)) (e (child_of id k))) → Counted (up_to f w id 4) (four_of e id)
  four_counted e c =
      let c₀ = c 0 (omega arith) in
      let c₁ = c 1 (omega arith) in
      let c₂ = c 2 (omega arith) in
      let c₃ = c 3 (omega arith) in
      let u₀ = up_one 0 (omega arith) in
      let u₁ = up_one 1 (omega arith) in
      let u₂ = up_one 2 (omega arith) in
      let u₃ = up_one 3 (omega arith) in
      record {
        present = omega (arith, up_zero.0, u₀.0, u₁.0, u₂.0, u₃.0, four_length e id);
        terminal = omega (arith, up_zero.1, u₀.1, u₁.1, u₂.1, u₃.1, four_ending e id);
      }

module _ (T : Task) where
  four_parts : (n id : ℕ) → ((c : ℕ) → Counted (found_part T n c) (part T n c)) → Counted (up_to (found_part T n) (2 ^ (2 * n)) id 4) (four_of (part T n) id)
  four_parts n id h = four_counted (found_part T n) (2 ^ (2 * n)) id (λ k g. part_small T n (child_of id k)) (part T n) (λ k g. h (child_of id k))

  part_counted : (n c : ℕ) → Counted (found_part T n c) (part T n c)
  unfolding found_part part
  part_counted zero c = at_counted c (look T c)
  part_counted (suc n) c = branch_counted (T.hits c) (up_to (found_part T n) (2 ^ (2 * n)) c 4) (four_of (part T n) c) c (four_parts n c (part_counted n))

  pub found_counted : (n id : ℕ) → Counted (found T n id) (expand T n id)
  unfolding found expand
  found_counted zero id = part_counted zero id
  found_counted (suc n) id = four_parts n id (part_counted n)

ones_zero : (n : ℕ) → ones n ≡ 0 → n ≡ 0
ones_zero = bin_ind (λ (n : ℕ). ones n ≡ 0 → n ≡ 0) (λ e. refl)
    (λ n ih e. let s : n % 2 + ones (n / 2) ≡ 0 = sym (ones_step n) ∙ e in let h : n / 2 ≡ 0 = ih (omega arith) in omega arith)

empty_length : {A : Type 0} (l : List A) → is_empty l ≡ eqb (length l) 0
unfolding is_empty
empty_length [] = refl
empty_length (x ∷ l) = sym (bool_iff _ _ (λ t. let z : suc (length l) ≡ 0 = eqb-true _ _ t in absurd (omega arith)) (λ t. absurd (true≢false (sym t))))

pub empty_set : (T : Task) (n id : ℕ) → is_empty (expand T n id).children ≡ eqb (found T n id).present 0
unfolding ones ones_in
empty_set T n id =
    let k : ones (found T n id).present ≡ length (expand T n id).children = (found_counted T n id).present in
    empty_length (expand T n id).children ∙ bool_iff _ _
    (λ t. let z : length (expand T n id).children ≡ 0 = eqb-true _ _ t in eq-eqb (found T n id).present 0 (ones_zero (found T n id).present (k ∙ z)))
    (λ t. let z : (found T n id).present ≡ 0 = eqb-true _ _ t in eq-eqb (length (expand T n id).children) 0 (sym k ∙ ap ones z))

-- ---- how many there are at most

-- no more are terminal than there are
pub ending_le : (l : List Child) → ending l ≤ length l
unfolding ending
ending_le [] = omega arith
ending_le (k ∷ l) = if_ok (λ (n : ℕ). n ≤ length (k ∷ l)) k.ends _ _ (λ t. omega (arith, ending_le l)) (λ t. omega (arith, ending_le l))

four_times : (n : ℕ) → 2 ^ (2 * suc n) ≡ 4 * 2 ^ (2 * n)
four_times n = let e : 2 * suc n ≡ suc (suc (2 * n)) = omega arith in rw e (omega (arith, pow-suc 2 (suc (2 * n)), pow-suc 2 (2 * n)))

module _ (T : Task) where
  reached_one : (id : ℕ) (v : Look) → length (reached id v).children ≤ 1
  unfolding reached
  reached_one id fails = omega arith
  reached_one id none = omega arith
  reached_one id terminal = omega arith
  reached_one id divide = omega arith

  four_short : (n id : ℕ) → ((c : ℕ) → length (part T n c).children ≤ 2 ^ (2 * n)) → length (four_of (part T n) id).children ≤ 2 ^ (2 * suc n)
  four_short n id h = omega (arith, four_times n, four_length (part T n) id, h (child_of id 0), h (child_of id 1), h (child_of id 2), h (child_of id 3))

  -- n levels down are at most 4^n cells
  part_short : (n c : ℕ) → length (part T n c).children ≤ 2 ^ (2 * n)
  unfolding part
  part_short zero c = reached_one c (look T c)
  part_short (suc n) c = if_ok (λ (e : Expansion). length e.children ≤ 2 ^ (2 * suc n)) (T.hits c) _ _ (λ t. four_short n c (part_short n)) (λ t. omega arith)

  pub expand_short : (n id : ℕ) → length (expand T n id).children ≤ 2 ^ (2 * n)
  unfolding expand
  expand_short zero id = part_short zero id
  expand_short (suc n) id = four_short n id (part_short n)

  -- a cell has at most 4^level_mod children, and no more terminals
  pub counts_most : 0 < level_mod T.asked → (id : ℕ) → (length (expansion_of T id).children ≤ full T.asked) × (ending (expansion_of T id).children ≤ full T.asked)
  unfolding expansion_of depth full
  counts_most h id =
      let few : length (expansion_of T id).children ≤ 2 ^ (2 * level_mod T.asked) =
      if_ok (λ (n : ℕ). length (expand T n id).children ≤ 2 ^ (2 * level_mod T.asked)) (ltb (level_of id) (min_level T.asked)) 1 (level_mod T.asked)
      (λ t. omega (arith, expand_short 1 id, pow_mono {i = 2 * 1} {j = 2 * level_mod T.asked} (omega arith)))
      (λ t. expand_short (level_mod T.asked) id) in
      (few, omega (arith, few, ending_le (expansion_of T id).children))
