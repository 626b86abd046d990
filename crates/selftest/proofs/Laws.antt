-- A request that is answered twice, the first list moved away in between, is answered as once.
use mathlib.Core.Path.{◌≡◌, refl, sym, ap, ap₂, ◌∙◌}
use mathlib.Core.List.{List, ◌++◌}
use Prim.Native.Nat.{ℕ, ◌≤◌}
use native.Mathlib.Omega.{arith}
use lib.ListN.{length, take, drop, length-take}
use lib.Seq.{take-append_seam, drop-append_seam, length-take-le}
use Rattle.std.specs.Prelude as Std
use Rattle.refusal.specs.declared.Refusal.{Refusal}
use Rattle.cellunion.specs.Memory.{zeros, laid, laid_over}
use Rattle.cellunion.proofs.Memory.{drop_more, laid_nil, laid_start, length_zeros, room_yes}
use Rattle.region.specs.Region.{Area}
use Rattle.run.specs.declared.RegionCoverer.{RegionCoverer}
use Rattle.run.specs.Run.{memory_words}
use Rattle.coverer.proofs.Memory.{cleared_twice}
use Rattle.covering.specs.declared.Answer.{Answer}
use Rattle.covering.specs.declared.Kind.{Kind}
use Rattle.covering.specs.Covering.{Result, barred, refused, done, result_of, answer_of, values_told, memory_after, output_after, Answered}
use Rattle.covering.proofs.Table.{count_fits}

-- ---- the first list, moved away

pub held_laid : (n : ℕ) (o h h' : List ℕ) → n ≤ length h → h' ≡ laid_over (take n o) h → h' ≡ laid 0 (take n o) h
held_laid n o h h' g e = e ∙ (room_yes (take n o) h (omega (arith, length-take n o))).1

-- the words that are held are those that were moved
held_words : (n : ℕ) (o h h' : List ℕ) → n ≤ length o → h' ≡ laid 0 (take n o) h → take n h' ≡ take n o
held_words n o h h' g e =
    let l : length (take n o) ≡ n = length-take-le n o g in
    ap (take n) (e ∙ laid_start (take n o) h) ∙ ap (λ (k : ℕ). take k (take n o ++ drop (length (take n o)) h)) (sym l) ∙ take-append_seam (take n o) (drop (length (take n o)) h)

-- ---- a request answered twice

-- an answer's list stands within its output
pub count_within : {R : Result} {a : Std.Result Answer Refusal} {m m₁ o o₁ : List ℕ} → Answered R a m m₁ o o₁ → (values_told a).count ≤ length o₁
count_within {R} {a} {m} {m₁} {o} A = rw A.output (omega (arith, ap (λ (x : Std.Result Answer Refusal). (values_told x).count) A.answer, count_fits R o))

memory_twice : (R : Result) (m : List ℕ) → memory_after R (memory_after R m) ≡ memory_after R m
unfolding memory_after
memory_twice (barred n) m = refl
memory_twice (refused n) m = cleared_twice memory_words m
memory_twice (done l steps aside) m = cleared_twice memory_words m

-- the first n words of an output cleared: the rest is as it was
cleared_rest : (n k : ℕ) (o : List ℕ) → n ≤ k → drop k (laid 0 (zeros n) o) ≡ drop k o
cleared_rest n k o h = drop_more n k _ o h (ap (drop n) (laid_start (zeros n) o ∙ rw (length_zeros n)) ∙ seam)
  where
    seam : drop n (zeros n ++ drop n o) ≡ drop n o
    seam = ap (λ (j : ℕ). drop j (zeros n ++ drop n o)) (sym (length_zeros n)) ∙ drop-append_seam (zeros n) (drop n o)

nothing_cleared : (n : ℕ) (o : List ℕ) → n ≤ 0 → laid 0 (zeros n) o ≡ o
unfolding zeros
nothing_cleared n o h = let z : n ≡ 0 = omega arith in ap (λ (k : ℕ). laid 0 (zeros k) o) z ∙ laid_nil 0 o

-- the first words of a list that is written again are cleared in between
output_twice : (R : Result) (n : ℕ) (o : List ℕ) → n ≤ (values_told (answer_of R)).count → output_after R (laid 0 (zeros n) (output_after R o)) ≡ output_after R o
unfolding answer_of output_after
output_twice (barred k) n o h = nothing_cleared n o h
output_twice (refused k) n o h = nothing_cleared n o h
output_twice (done l steps aside) n o h = ap (λ (x : List ℕ). l ++ x) (cleared_rest n (length l) (l ++ drop (length l) o) h ∙ drop-append_seam l (drop (length l) o))

module _ (k : Kind) (q : RegionCoverer) (g : Area) (allowance : ℕ) (a b : Std.Result Answer Refusal) (m m₁ m₂ o o₁ o₂ o₃ : List ℕ) (n : ℕ) (em : length m₁ ≡ length m) (eo : length o₂ ≡ length o) (h : n ≤ (values_told a).count)
    (A : Answered (result_of k q g allowance (length m) (length o)) a m m₁ o o₁) (c : o₂ ≡ laid 0 (zeros n) o₁) (B : Answered (result_of k q g allowance (length m₁) (length o₂)) b m₁ m₂ o₂ o₃) where
  abbrev R : Result
  R = result_of k q g allowance (length m) (length o)

  e : result_of k q g allowance (length m₁) (length o₂) ≡ R
  e = ap₂ (result_of k q g allowance) em eo

  answer : b ≡ answer_of R
  answer = B.answer ∙ ap answer_of e

  output : o₃ ≡ output_after R o
  output =
      let few : n ≤ (values_told (answer_of R)).count = omega (arith, ap (λ (x : Std.Result Answer Refusal). (values_told x).count) A.answer) in
      B.output ∙ ap₂ output_after e (c ∙ ap (laid 0 (zeros n)) A.output) ∙ output_twice R n o few

  pub answered_twice : Answered R b m m₂ o o₃
  answered_twice = record { answer = answer; memory = B.memory ∙ ap₂ memory_after e A.memory ∙ memory_twice R m; output = output }

  within : n ≤ length o₁
  within = omega (arith, count_within A)

  -- the two answers are one, and so are the words that are compared
  pub agrees : (k k' : List ℕ) → k' ≡ laid 0 (take n o₁) k → (a ≡ b) × (take n k' ≡ take n o₃)
  agrees k k' e = (A.answer ∙ sym answer, held_words n o₁ k k' within e ∙ ap (take n) (sym (output ∙ sym A.output)))

  -- the second output has the words that are compared
  pub within_second : n ≤ length o₃
  within_second = rw (output ∙ sym A.output) within
