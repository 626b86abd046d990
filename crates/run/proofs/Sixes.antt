-- The set-aside totals by start cell: how each grows, what they come to together and each with the raw cells, and how large they may get.
use mathlib.Core.Path.{◌≡◌, refl, sym, ap, ◌∙◌}
use mathlib.Core.Bool.{Bool, true, false, true≢false}
use mathlib.Core.Logic.{◌≢◌, by_cases}
use mathlib.Core.List.{List, [], ◌∷◌, ◌++◌, map}
use Prim.Native.Nat.{ℕ, zero, suc, ◌+◌, ◌*◌, ◌^◌, ◌≤◌, ◌<◌}
use native.Mathlib.Omega.{arith}
use native.Mathlib.Decide.{dec_lt}
use lib.Dec.{eqb}
use lib.ListN.{length, get_or}
use borrow.Author.Tests.{eq-eqb, ne_eqb}
use Rattle.order.specs.Order.{All}
use Rattle.order.proofs.OrderLaws.{all_weak}
use Rattle.totals.specs.Totals.{totals_by, no_totals, six_of, total_at}
use Rattle.totals.proofs.Laws.{totals_at}
use Rattle.run.specs.Run.{Task, ◌by◌, Grown, State, going, nothing, set_aside, after, run, aside_total, sum_of, leaves_of}
use Rattle.run.specs.declared.Request.{Request}
use Rattle.run.specs.Ground.{Domain, Fit, Aside, all_cells, grown_from}
use Rattle.run.specs.Sixes.{places_most, aside_from, sum_of_six, aside_six}
use Rattle.run.proofs.Lists.{if_ok, sum_append, sum_map, rel_le, rel_eq}
use Rattle.run.proofs.Leaves.{leaves_add}
use Rattle.run.proofs.Starts.{sel, at_start, sum_from, from_le}
use Rattle.run.proofs.Steps.{run_ends, inner_aside}
use Rattle.run.proofs.Demand3.{measure, aside_after}
use Rattle.run.proofs.Totals.{leaves_le}

-- ---- lists of cells, by the start cells that they grew from

from_append : (i : ℕ) (f : ℕ → ℕ) (l r : List Grown) → sum_of f (grown_from i (l ++ r)) ≡ sum_of f (grown_from i l) + sum_of f (grown_from i r)
from_append i f l r = omega (arith, sum_from i f (l ++ r), sum_from i f l, sum_from i f r, sum_append (λ (c : Grown). at_start i f c.from c.id) l r)

by_start : (s : State) (i : ℕ) → sum_of leaves_of (grown_from i (all_cells s)) ≡ sum_of leaves_of (grown_from i s.raw) + (sum_of leaves_of (grown_from i s.queue) + aside_from s i)
unfolding all_cells aside_from
by_start s i = omega (arith, from_append i leaves_of s.raw (s.queue ++ s.aside), from_append i leaves_of s.queue s.aside)

from_none : (i : ℕ) (l : List Grown) → All (λ (c : Grown). c.from ≢ i) l → grown_from i l ≡ []
unfolding grown_from All
from_none i [] a = refl
from_none i (c ∷ l) a = rw (ne_eqb c.from i a.0, grown_from) (from_none i l a.1)

sum_sel : {A : Type 0} (b : Bool) (f : A → ℕ) (l : List A) → sum_of (λ x. sel b (f x)) l ≡ sel b (sum_of f l)
unfolding sum_of sel
sum_sel true f l = refl
sum_sel false f [] = refl
sum_sel false f (x ∷ l) = omega (arith, sum_sel false f l)

-- the sum of what g tells of the places 0 to 5
abbrev sum_six : (ℕ → ℕ) → ℕ
sum_six g = sum_of_six (totals_by g)

-- of the six, one is a cell's own place
six_sel : (j n : ℕ) → j < places_most → sum_six (λ i. sel (eqb j i) n) ≡ n
unfolding sum_of sel
six_sel zero n h = omega arith
six_sel (suc zero) n h = omega arith
six_sel (suc (suc zero)) n h = omega arith
six_sel (suc (suc (suc zero))) n h = omega arith
six_sel (suc (suc (suc (suc zero)))) n h = omega arith
six_sel (suc (suc (suc (suc (suc zero))))) n h = omega arith
six_sel (suc (suc (suc (suc (suc (suc j)))))) n h = absurd (omega arith)

six_from : (f : ℕ → ℕ) (l : List Grown) → All (λ (c : Grown). c.from < places_most) l → sum_six (λ i. sum_of f (grown_from i l)) ≡ sum_of (λ (c : Grown). f c.id) l
unfolding sum_of grown_from All
six_from f [] a = refl
six_from f (c ∷ l) a =
    let e : (i : ℕ) → sum_of f (grown_from i (c ∷ l)) ≡ sel (eqb c.from i) (f c.id) + sum_of f (grown_from i l) =
    λ i. sym (sum_from i f (c ∷ l)) ∙ ap (λ (n : ℕ). sel (eqb c.from i) (f c.id) + n) (sum_from i f l) in
    omega (arith, e 0, e 1, e 2, e 3, e 4, e 5, six_sel c.from (f c.id) a.0, six_from f l a.1)

-- ---- how they grow: only the total of the start cell that the cells grew from

pub aside_nothing : (i : ℕ) → aside_from nothing i ≡ 0
unfolding aside_from grown_from sum_of
aside_nothing i = refl

module _ (q : Request) (o : q.inner ≡ false) (i : ℕ) (l : List ℕ) (s : State) where
  aside_by : (j : ℕ) → aside_from (set_aside q i l s) j ≡ aside_from s j + sel (eqb i j) (sum_of leaves_of l)
  unfolding aside_from set_aside
  aside_by j = if_ok (λ (x : State). sum_of leaves_of (grown_from j x.aside) ≡ sum_of leaves_of (grown_from j s.aside) + sel (eqb i j) (sum_of leaves_of l)) q.inner _ _
      (λ t. absurd (true≢false (sym t ∙ o)))
      (λ t.
      let tag : ℕ → Grown = λ x. record { from = i; id = x } in
      let w : Grown → ℕ = λ c. at_start j leaves_of c.from c.id in
      omega (arith, from_append j leaves_of s.aside (map tag l), sum_from j leaves_of (map tag l), sum_map tag w l, sum_sel (eqb i j) leaves_of l))

  pub aside_grows : aside_from (set_aside q i l s) i ≡ aside_from s i + sum_of leaves_of l
  unfolding sel
  aside_grows = aside_by i ∙ rw (eq-eqb i i refl, sel)

  pub aside_stays : (j : ℕ) → i ≢ j → aside_from (set_aside q i l s) j ≡ aside_from s j
  unfolding sel
  aside_stays j d = aside_by j ∙ rw (ne_eqb i j d, sel) (omega arith)

pub aside_from_least : (s : State) (i : ℕ) → aside_from s i ≤ aside_total s
unfolding aside_from aside_total
aside_from_least s i = from_le i leaves_of s.aside

-- ---- what they come to, after each step

module _ (T : Task) (D : Domain T.asked) (lt : Grown → Grown → Bool) (starts : List ℕ) (ok : All (Fit T.asked) starts) where
  module _ (k : ℕ) (s : State) (e : after (T by lt) starts k ≡ going s) where
    -- "Their sum is the old total"
    pub six_add_up : length starts ≤ places_most → sum_of_six (aside_six s) ≡ aside_total s
    unfolding aside_six aside_from aside_total
    six_add_up few = six_from leaves_of s.aside (all_weak (Aside T starts) _ s.aside (λ c A. omega (arith, A.start.from)) (aside_after T D lt starts ok k s e))

    -- "zero where there is no such start cell"
    pub aside_no_start : (i : ℕ) → length starts ≤ i → aside_from s i ≡ 0
    unfolding aside_from sum_of
    aside_no_start i h = ap (sum_of leaves_of) (from_none i s.aside (all_weak (Aside T starts) _ s.aside (λ c A. omega (arith, A.start.from)) (aside_after T D lt starts ok k s e)))

    -- what is told at a place is the total of the start cell there
    pub six_at : length starts ≤ places_most → (i : ℕ) → total_at (aside_six s) i ≡ aside_from s i
    unfolding aside_six
    six_at few = totals_at (aside_from s) (λ i h. aside_no_start i (omega arith))

    -- each is at most its start cell's leaves
    pub aside_from_le : (i : ℕ) → i < length starts → aside_from s i ≤ leaves_of (get_or starts i 0)
    aside_from_le i h = omega (arith, by_start s i, rel_le T.asked.inner _ _ (measure T D lt starts ok k s e leaves_of leaves_add i h))

    face_most : (i : ℕ) → aside_from s i ≤ 2 ^ 60
    face_most i = by_cases (dec_lt i (length starts))
        (λ h. omega (arith, aside_from_le i h, leaves_le (get_or starts i 0)))
        (λ h. omega (arith, aside_no_start i (omega arith)))

    -- at most a face's leaves each, and six faces' together, since start cells may overlap: all of them, and their sum, fit 64 bits
    pub six_fit : All (λ n. n ≤ 2 ^ 60) (six_of (aside_six s)) × (sum_of_six (aside_six s) ≤ 6 * 2 ^ 60)
    unfolding aside_six All sum_of
    six_fit = (
      (face_most 0, (face_most 1, (face_most 2, (face_most 3, (face_most 4, (face_most 5, tt)))))),
      omega (arith, face_most 0, face_most 1, face_most 2, face_most 3, face_most 4, face_most 5),
    )

  -- of an outer run that ended: the total and the leaves of the raw cells that grew from a start cell are its leaves
  pub aside_and_raw : T.asked.inner ≡ false → (a : ℕ) (s : State) → run (T by lt) starts a ≡ going s → (i : ℕ) → i < length starts
      → aside_from s i + sum_of leaves_of (grown_from i s.raw) ≡ leaves_of (get_or starts i 0)
  unfolding grown_from sum_of
  aside_and_raw o a s done i h =
      let E = run_ends T lt starts a s done in
      let z : sum_of leaves_of (grown_from i s.queue) ≡ 0 = ap (λ (l : List Grown). sum_of leaves_of (grown_from i l)) E.empty in
      omega (arith, by_start s i, rel_eq T.asked.inner _ _ o (measure T D lt starts ok s.steps s E.last leaves_of leaves_add i h))

-- an inner run's totals
pub inner_six : (T : Task) (lt : Grown → Grown → Bool) → T.asked.inner ≡ true → (starts : List ℕ) (k : ℕ) (s : State) → after (T by lt) starts k ≡ going s → aside_six s ≡ no_totals
unfolding aside_six aside_from grown_from sum_of
inner_six T lt inner starts k s e = rw (inner_aside T lt inner starts k s e)
