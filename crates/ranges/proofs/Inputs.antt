-- Lists and pairs as they come: what the tests say, and the stretches of their leaves.
use mathlib.Core.Path.{◌≡◌, refl, sym, ap, ap₂, ◌∙◌, subst}
use mathlib.Core.Logic.{inl, inr, ⊎_elim}
use mathlib.Core.Bool.{Bool, true, false, ◌&&◌, ◌||◌, and-eq-true_iff}
use mathlib.Core.List.{List, [], ◌∷◌, ◌++◌, append-nil}
use Prim.Native.Nat.{ℕ, zero, suc, ◌+◌, ◌-◌, ◌*◌, ◌/◌, ◌%◌, ◌≤◌, ◌<◌}
use native.Mathlib.Omega.{arith}
use lib.Dec.{leb, ltb, eqb}
use borrow.Author.Tests.{ltb-true, ltb-false, lt-ltb, le-ltb, leb-true, le-leb, lt-leb, eqb-true, eqb-false, eq-eqb, ne_eqb}
use Rattle.cellid.specs.CellId.{Cell, first_leaf, last_leaf}
use Rattle.cellid.proofs.Laws.{bool_iff, no_true, true_or}
use Rattle.order.specs.Order.{All}
use Rattle.order.proofs.OrderLaws.{which}
use Rattle.cellunion.specs.CellUnion.{lo, hi, covers, Apart, is_list}
use Rattle.cellunion.proofs.Spans.{span}
use Rattle.cellunion.proofs.Unique.{all_at, covers→}
use Rattle.cellunion.proofs.Counts.{hi_le}
use Rattle.cellunion.proofs.Lists.{is_list_lem, covers_nil, head_in, head_out, apart_from, before_first}
use Rattle.ranges.specs.Ranges.{leaves, pair_before, pairs_of, follows, pairs_from, is_pairs, in_pairs, tile, each_pair, cells_of}
use Rattle.ranges.specs.Stretches.{each, stretches, pair}
use Rattle.ranges.proofs.Tiles.{between, between→, between←, between_none, tile_nil}
use Rattle.ranges.proofs.Stretches.{rest, skip_yes, skip_no, skip_none, rest_end, rest_same, stretches_has}

-- no leaf past the last
pub covers_end : (l : List ℕ) → All Cell l → (n : ℕ) → leaves ≤ n → covers l n ≡ false
covers_end l C n h = no_true (covers l n) (λ t. let k = covers→ l n C t in let r = hi_le (all_at Cell l C k.0 k.1) in omega (arith, k.3))

-- ---- pairs

pub record Follows (b first last : ℕ) : Type 0 where
  pub odd : first % 2 ≡ 1
  pub odd' : last % 2 ≡ 1
  pub from : b ≤ first
  pub some : first ≤ last
  pub to : last < 2 * leaves

pub follows→ : (b first last : ℕ) → follows b first last ≡ true → Follows b first last
unfolding follows
follows→ b first last t =
    let r = (and-eq-true_iff (eqb (first % 2) 1) _).0 t in
    let q = (and-eq-true_iff (eqb (last % 2) 1) _).0 r.1 in
    let p = (and-eq-true_iff (leb b first) _).0 q.1 in
    let o = (and-eq-true_iff (leb first last) (ltb last (2 * leaves))).0 p.1 in
    record { odd = eqb-true _ _ r.0; odd' = eqb-true _ _ q.0; from = leb-true _ _ p.0; some = leb-true _ _ o.0; to = ltb-true _ _ o.1 }

follows← : (b first last : ℕ) → Follows b first last → follows b first last ≡ true
unfolding follows
follows← b first last F = rw (eq-eqb (first % 2) 1 F.odd, eq-eqb (last % 2) 1 F.odd', le-leb b first F.from, le-leb first last F.some, lt-ltb last (2 * leaves) F.to)

-- the stretch of a pair
pair_leaf : (b first last n : ℕ) → Follows b first last → (leb first (2 * n + 1) && leb (2 * n + 1) last) ≡ between (first / 2) ((last + 1) / 2) n
pair_leaf b first last n F = bool_iff (leb first (2 * n + 1) && leb (2 * n + 1) last) (between (first / 2) ((last + 1) / 2) n)
    (λ t. let r = (and-eq-true_iff (leb first (2 * n + 1)) (leb (2 * n + 1) last)).0 t in
    let x : first ≤ 2 * n + 1 = leb-true _ _ r.0 in
    let y : 2 * n + 1 ≤ last = leb-true _ _ r.1 in
    between← (first / 2) ((last + 1) / 2) n (omega arith) (omega arith))
    (λ t. let r = between→ (first / 2) ((last + 1) / 2) n t in
    rw (le-leb first (2 * n + 1) (omega (arith, r.0, F.odd)), le-leb (2 * n + 1) last (omega (arith, r.1, F.odd'))))

-- no leaf before b, none past the last
pairs_before : (b : ℕ) (ps : List ℕ) (n : ℕ) → pairs_from b ps ≡ true → 2 * n + 1 < b → in_pairs ps n ≡ false
unfolding pairs_from in_pairs
pairs_before b [] n t h = refl
pairs_before b (x ∷ []) n t h = refl
pairs_before b (first ∷ last ∷ ps) n t h =
    let r = (and-eq-true_iff (follows b first last) (pairs_from (last + 4) ps)).0 t in
    let F = follows→ b first last r.0 in
    rw (lt-leb first (2 * n + 1) (omega (arith, F.from))) (pairs_before (last + 4) ps n r.1 (omega (arith, F.from, F.some)))

pub pairs_past : (b : ℕ) (ps : List ℕ) (n : ℕ) → pairs_from b ps ≡ true → leaves ≤ n → in_pairs ps n ≡ false
unfolding pairs_from in_pairs
pairs_past b [] n t h = refl
pairs_past b (x ∷ []) n t h = refl
pairs_past b (first ∷ last ∷ ps) n t h =
    let r = (and-eq-true_iff (follows b first last) (pairs_from (last + 4) ps)).0 t in
    let F = follows→ b first last r.0 in
    ap₂ (λ (x y : Bool). x || y) (pair_leaf b first last n F ∙ no_true (between (first / 2) ((last + 1) / 2) n) (λ u. let q = between→ (first / 2) ((last + 1) / 2) n u in omega (arith, q.1, F.to))) (pairs_past (last + 4) ps n r.1 h)

pair_go : (s e : ℕ) → s < e → pair s e ≡ (2 * s + 1) ∷ (2 * e - 1) ∷ []
unfolding pair
pair_go s e h = rw (pair, lt-ltb s e h)

pair_end : (s e : ℕ) → e ≤ s → pair s e ≡ []
unfolding pair
pair_end s e h = rw (pair, le-ltb s e h)

pair_nil : (s : ℕ) → pair s s ≡ []
pair_nil s = pair_end s s (omega arith)

-- ---- what the loops write are the stretches

module _ (out : ℕ → ℕ → List ℕ) (nil : (s : ℕ) → out s s ≡ []) (f : ℕ → Bool) where
  rest_over : (N s n : ℕ) → N ≤ n → rest out f N s n ≡ out s n
  unfolding each
  rest_over N s n h = let z : N - n ≡ 0 = omega arith in rw z

  rest_none : (N s n : ℕ) → ((i : ℕ) → n ≤ i → i < N → f i ≡ false) → rest out f N s n ≡ out s n
  rest_none N s n t = ⊎_elim
      (λ (u : ltb n N ≡ true). skip_no out f nil N s n N (ltb-true _ _ u) (omega arith) t ∙ ap (λ (l : List ℕ). out s n ++ l) (rest_end out f N N ∙ nil N) ∙ append-nil (out s n))
      (λ (u : ltb n N ≡ false). rest_over N s n (ltb-false n N u))
      (which (ltb n N))

  step_no : (N s n : ℕ) → f n ≡ false → rest out f N s n ≡ out s n ++ rest out f N (n + 1) (n + 1)
  step_no N s n t = ⊎_elim
      (λ (u : ltb n N ≡ true). skip_no out f nil N s n (n + 1) (omega arith) (omega (arith, ltb-true n N u)) (λ i a b. let e : i ≡ n = omega arith in ap f e ∙ t))
      (λ (u : ltb n N ≡ false). let h = ltb-false n N u in rest_over N s n h ∙ sym (ap (λ (l : List ℕ). out s n ++ l) (rest_over N (n + 1) (n + 1) (omega arith) ∙ nil (n + 1)) ∙ append-nil (out s n)))
      (which (ltb n N))

-- ---- a list's pairs, joined cell by cell, are these

before_yes : (first last next : ℕ) (ps : List ℕ) → next ≡ last + 2 → pair_before first last (next ∷ ps) ≡ first ∷ ps
unfolding pair_before
before_yes first last next ps e = rw (pair_before, eq-eqb next (last + 2) e)

before_no : (first last next : ℕ) (ps : List ℕ) → (next ≡ last + 2 → ⊥) → pair_before first last (next ∷ ps) ≡ first ∷ last ∷ next ∷ ps
unfolding pair_before
before_no first last next ps e = rw (pair_before, ne_eqb next (last + 2) e)

-- all but the first word, which is the pair's own
unfoldable tail : ℕ → List ℕ → List ℕ
tail last [] = last ∷ []
tail last (next ∷ ps) = elim (eqb next (last + 2)) [ true ↦ ps | false ↦ last ∷ next ∷ ps ]

before_tail : (first last : ℕ) (ps : List ℕ) → pair_before first last ps ≡ first ∷ tail last ps
unfolding pair_before tail
before_tail first last [] = refl
before_tail first last (next ∷ ps) = ⊎_elim (λ (t : eqb next (last + 2) ≡ true). rw (pair_before, tail, t)) (λ (t : eqb next (last + 2) ≡ false). rw (pair_before, tail, t)) (which (eqb next (last + 2)))

-- a pair before pairs that begin with another: joined, or all of both
pub before_joined : (first last next end : ℕ) (ps : List ℕ) → next ≡ last + 2 → pair_before first last (pair_before next end ps) ≡ pair_before first end ps
before_joined first last next end ps e =
    ap (pair_before first last) (before_tail next end ps) ∙ before_yes first last next (tail end ps) e ∙ sym (before_tail first end ps)

pub before_apart : (first last next end : ℕ) (ps : List ℕ) → (next ≡ last + 2 → ⊥) → pair_before first last (pair_before next end ps) ≡ first ∷ last ∷ pair_before next end ps
before_apart first last next end ps e =
    ap (pair_before first last) (before_tail next end ps) ∙ before_no first last next (tail end ps) e ∙ ap (λ (l : List ℕ). first ∷ last ∷ l) (sym (before_tail next end ps))

pub pairs_nil : pairs_of [] ≡ []
unfolding pairs_of
pairs_nil = refl

pub pairs_more : (id : ℕ) (l : List ℕ) → pairs_of (id ∷ l) ≡ pair_before (first_leaf id) (last_leaf id) (pairs_of l)
unfolding pairs_of
pairs_more id l = refl

pub before_nil : (first last : ℕ) → pair_before first last [] ≡ first ∷ last ∷ []
unfolding pair_before
before_nil first last = refl

-- a stretch before cells that come after it
before_is : (l : List ℕ) (s e first last : ℕ) → All Cell l → Apart l → All (λ y. e ≤ lo y) l → s < e → e ≤ leaves → first ≡ 2 * s + 1 → last + 1 ≡ 2 * e → pair_before first last (pairs_of l) ≡ rest pair (covers l) leaves s e
unfolding All Apart
before_is [] s e first last C A F h r f g =
    let y : last ≡ 2 * e - 1 = omega arith in
    ap (pair_before first last) pairs_nil ∙ before_nil first last ∙ ap₂ (λ (a b : ℕ). a ∷ b ∷ []) f y ∙ sym (pair_go s e h) ∙ sym (rest_none pair pair_nil (covers []) leaves s e (λ i a b. covers_nil i))
before_is (x ∷ l) s e first last C A F h r f g =
    let X = span C.0 in
    let top = hi_le C.0 in
    let B = apart_from x l C A in
    let go : (s first : ℕ) → s < hi x → first ≡ 2 * s + 1 → pair_before first (last_leaf x) (pairs_of l) ≡ rest pair (covers (x ∷ l)) leaves s (hi x)
    = λ s first u f. before_is l s (hi x) first (last_leaf x) C.1 A.1 B u top f X.last ∙ rest_same pair (covers l) (covers (x ∷ l)) leaves s (hi x) (λ i a. sym (head_out x l i C.0 (inr a))) in
    let yes : (s : ℕ) → rest pair (covers (x ∷ l)) leaves s (lo x) ≡ rest pair (covers (x ∷ l)) leaves s (hi x)
    = λ s. skip_yes pair (covers (x ∷ l)) leaves s (lo x) (hi x) (omega (arith, X.some)) top (λ i a b. head_in x l i C.0 a b) in
    ap (pair_before first last) (pairs_more x l) ∙ ⊎_elim
    (λ (t : eqb (lo x) e ≡ true).
    let q : lo x ≡ e = eqb-true _ _ t in
    before_joined first last (first_leaf x) (last_leaf x) (pairs_of l) (omega (arith, X.first)) ∙ go s first (omega (arith, X.some)) f ∙ sym (yes s) ∙ ap (rest pair (covers (x ∷ l)) leaves s) q)
    (λ (t : eqb (lo x) e ≡ false).
    let q = eqb-false (lo x) e t in
    let y : last ≡ 2 * e - 1 = omega arith in
    before_apart first last (first_leaf x) (last_leaf x) (pairs_of l) (λ z. q (omega (arith, X.first)))
    ∙ ap₂ (λ (a b : List ℕ). a ++ b) (ap₂ (λ (a b : ℕ). a ∷ b ∷ []) f y ∙ sym (pair_go s e h)) (go (lo x) (first_leaf x) X.some X.first ∙ sym (yes (lo x)))
    ∙ sym (skip_no pair (covers (x ∷ l)) pair_nil leaves s e (lo x) (omega (arith, F.0, q)) (omega (arith, X.some)) (λ i a b. before_first x l i C A b)))
    (which (eqb (lo x) e))

-- a list's pairs are the stretches of its leaves
cells_stretches : (l : List ℕ) → All Cell l → Apart l → pairs_of l ≡ rest pair (covers l) leaves 0 0
unfolding All Apart
cells_stretches [] C A = pairs_nil ∙ sym (rest_none pair pair_nil (covers []) leaves 0 0 (λ i a b. covers_nil i) ∙ pair_nil 0)
cells_stretches (x ∷ l) C A =
    let X = span C.0 in
    let top = hi_le C.0 in
    let B = apart_from x l C A in
    pairs_more x l ∙ before_is l (lo x) (hi x) (first_leaf x) (last_leaf x) C.1 A.1 B X.some top X.first X.last
    ∙ rest_same pair (covers l) (covers (x ∷ l)) leaves (lo x) (hi x) (λ i a. sym (head_out x l i C.0 (inr a)))
    ∙ sym (skip_yes pair (covers (x ∷ l)) leaves (lo x) (lo x) (hi x) (omega (arith, X.some)) top (λ i a b. head_in x l i C.0 a b))
    ∙ sym (skip_none pair (covers (x ∷ l)) pair_nil leaves 0 (lo x) (omega arith) (omega (arith, X.some)) (λ i a b. before_first x l i C A b))

pub list_stretches : (l : List ℕ) → is_list l ≡ true → pairs_of l ≡ stretches pair (covers l)
unfolding stretches
list_stretches l t = let T = (is_list_lem l).0 t in cells_stretches l T.0 T.1

-- ---- pairs one after another

pub each_cons : (out : ℕ → ℕ → List ℕ) (first last : ℕ) (ps : List ℕ) → each_pair out (first ∷ last ∷ ps) ≡ out (first / 2) ((last + 1) / 2) ++ each_pair out ps
unfolding each_pair
each_cons out first last ps = refl

pair_in : (b first last n : ℕ) (ps : List ℕ) → Follows b first last → first / 2 ≤ n → n < (last + 1) / 2 → in_pairs (first ∷ last ∷ ps) n ≡ true
unfolding in_pairs
pair_in b first last n ps F x y = true_or (leb first (2 * n + 1) && leb (2 * n + 1) last) (in_pairs ps n) (inl (pair_leaf b first last n F ∙ between← (first / 2) ((last + 1) / 2) n x y))

pair_out : (b first last n : ℕ) (ps : List ℕ) → Follows b first last → (last + 1) / 2 ≤ n → in_pairs (first ∷ last ∷ ps) n ≡ in_pairs ps n
unfolding in_pairs
pair_out b first last n ps F x = ap (λ (t : Bool). t || in_pairs ps n) (pair_leaf b first last n F ∙ no_true (between (first / 2) ((last + 1) / 2) n) (λ u. let q = between→ (first / 2) ((last + 1) / 2) n u in omega (arith, q.1)))

pub pairs_cons : (b first last : ℕ) (ps : List ℕ) → pairs_from b (first ∷ last ∷ ps) ≡ true → Follows b first last × (pairs_from (last + 4) ps ≡ true)
unfolding pairs_from
pairs_cons b first last ps t = let r = (and-eq-true_iff (follows b first last) (pairs_from (last + 4) ps)).0 t in (follows→ b first last r.0, r.1)

pairs_first : (b first last : ℕ) (ps : List ℕ) → pairs_from b (first ∷ last ∷ ps) ≡ true → pairs_from first (first ∷ last ∷ ps) ≡ true
unfolding pairs_from
pairs_first b first last ps t =
    let r = pairs_cons b first last ps t in
    let F = r.0 in
    rw (follows← first first last (record { odd = F.odd; odd' = F.odd'; from = omega arith; some = F.some; to = F.to })) r.1

pair_none : (b x : ℕ) → pairs_from b (x ∷ []) ≡ true → ⊥
unfolding pairs_from
pair_none b x t = let z : ◌≡◌ {A = ℕ} 0 1 = cc in omega arith

in_none : (n : ℕ) → in_pairs [] n ≡ false
unfolding in_pairs
in_none n = refl

pub each_nil : (out : ℕ → ℕ → List ℕ) → each_pair out [] ≡ []
unfolding each_pair
each_nil out = refl

each_are : (out : ℕ → ℕ → List ℕ) → ((s : ℕ) → out s s ≡ []) → (ps : List ℕ) (p : ℕ) → pairs_from (2 * p + 1) ps ≡ true → rest out (in_pairs ps) leaves p p ≡ each_pair out ps
each_are out nil [] p t = rest_none out nil (in_pairs []) leaves p p (λ i a b. in_none i) ∙ nil p ∙ sym (each_nil out)
each_are out nil (x ∷ []) p t = absurd (pair_none (2 * p + 1) x t)
each_are out nil (first ∷ last ∷ ps) p t =
    let r = pairs_cons (2 * p + 1) first last ps t in
    let F = r.0 in
    let s = first / 2 in
    let e = (last + 1) / 2 in
    let f = in_pairs (first ∷ last ∷ ps) in
    let q : last + 4 ≡ 2 * (e + 1) + 1 = omega (arith, F.odd') in
    let g : pairs_from (2 * (e + 1) + 1) ps ≡ true = subst (λ (b : ℕ). pairs_from b ps ≡ true) q r.1 in
    skip_none out f nil leaves p s (omega (arith, F.from)) (omega (arith, F.some, F.to)) (λ i a b. pairs_before first (first ∷ last ∷ ps) i (pairs_first (2 * p + 1) first last ps t) (omega (arith, F.odd)))
    ∙ skip_yes out f leaves s s e (omega (arith, F.some)) (omega (arith, F.to)) (λ i a b. pair_in (2 * p + 1) first last i ps F a b)
    ∙ step_no out nil f leaves s e (pair_out (2 * p + 1) first last e ps F (omega arith) ∙ pairs_before (last + 4) ps e r.1 (omega arith))
    ∙ ap (λ (l : List ℕ). out s e ++ l) (rest_same out f (in_pairs ps) leaves (e + 1) (e + 1) (λ i a. pair_out (2 * p + 1) first last i ps F (omega arith)) ∙ each_are out nil ps (e + 1) g)
    ∙ sym (each_cons out first last ps)

-- the cells of the pairs
pub each_cells : (ps : List ℕ) → is_pairs ps ≡ true → cells_of ps ≡ stretches tile (in_pairs ps)
unfolding stretches
each_cells ps t = sym (each_are tile tile_nil ps 0 t)

-- ---- pairs of leaves

each_again : (b : ℕ) (ps : List ℕ) → pairs_from b ps ≡ true → each_pair pair ps ≡ ps
each_again b [] t = each_nil pair
each_again b (x ∷ []) t = absurd (pair_none b x t)
each_again b (first ∷ last ∷ ps) t =
    let r = pairs_cons b first last ps t in
    let F = r.0 in
    let x : 2 * (first / 2) + 1 ≡ first = omega (arith, F.odd) in
    let y : 2 * ((last + 1) / 2) - 1 ≡ last = omega (arith, F.odd') in
    each_cons pair first last ps ∙ ap₂ (λ (l m : List ℕ). l ++ m) (pair_go (first / 2) ((last + 1) / 2) (omega (arith, F.some, F.odd, F.odd')) ∙ ap₂ (λ (a b : ℕ). a ∷ b ∷ []) x y) (each_again (last + 4) ps r.1)

pair_has : (s e : ℕ) (l : List ℕ) (n : ℕ) → s ≤ e → in_pairs (pair s e ++ l) n ≡ (between s e n || in_pairs l n)
unfolding in_pairs
pair_has s e l n h = ⊎_elim
    (λ (t : ltb s e ≡ true).
    let g : s < e = ltb-true _ _ t in
    ap (λ (a : List ℕ). in_pairs (a ++ l) n) (pair_go s e g) ∙ ap (λ (b : Bool). b || in_pairs l n) (bool_iff (leb (2 * s + 1) (2 * n + 1) && leb (2 * n + 1) (2 * e - 1)) (between s e n)
    (λ u. let r = (and-eq-true_iff (leb (2 * s + 1) (2 * n + 1)) (leb (2 * n + 1) (2 * e - 1))).0 u in
    let x : 2 * s + 1 ≤ 2 * n + 1 = leb-true _ _ r.0 in let y : 2 * n + 1 ≤ 2 * e - 1 = leb-true _ _ r.1 in between← s e n (omega arith) (omega arith))
    (λ u. let r = between→ s e n u in rw (le-leb (2 * s + 1) (2 * n + 1) (omega (arith, r.0)), le-leb (2 * n + 1) (2 * e - 1) (omega (arith, r.1))))))
    (λ (t : ltb s e ≡ false). let g : e ≤ s = ltb-false _ _ t in ap (λ (a : List ℕ). in_pairs (a ++ l) n) (pair_end s e g) ∙ ap (λ (b : Bool). b || in_pairs l n) (sym (between_none s e n g)))
    (which (ltb s e))

pair_ruled : (b s n : ℕ) (l : List ℕ) → b ≤ 2 * s + 1 → s ≤ n → n ≤ leaves → ((c : ℕ) → c ≤ 2 * n + 3 → pairs_from c l ≡ true) → pairs_from b (pair s n ++ l) ≡ true
unfolding pairs_from
pair_ruled b s n l h g r P = ⊎_elim
    (λ (t : ltb s n ≡ true).
    let u : s < n = ltb-true _ _ t in
    rw (pair_go s n u, follows← b (2 * s + 1) (2 * n - 1) (record { odd = omega arith; odd' = omega arith; from = h; some = omega arith; to = omega arith })) (P (2 * n - 1 + 4) (omega arith)))
    (λ (t : ltb s n ≡ false). let u : n ≤ s = ltb-false _ _ t in rw (pair_end s n u) (P b (omega arith)))
    (which (ltb s n))

pub none_ruled : (b : ℕ) → pairs_from b [] ≡ true
unfolding pairs_from
none_ruled b = refl

each_ruled : (f : ℕ → Bool) (k b s n : ℕ) → b ≤ 2 * s + 1 → s ≤ n → n + k ≤ leaves → pairs_from b (each pair f s n k) ≡ true
unfolding each
each_ruled f zero b s n h g r = subst (λ (l : List ℕ). pairs_from b l ≡ true) (append-nil (pair s n)) (pair_ruled b s n [] h g (omega arith) (λ c q. none_ruled c))
each_ruled f (suc k) b s n h g r = ⊎_elim
    (λ (t : f n ≡ true). rw (each, t) (each_ruled f k b s (n + 1) h (omega arith) (omega arith)))
    (λ (t : f n ≡ false). rw (each, t) (pair_ruled b s n (each pair f (n + 1) (n + 1) k) h g (omega arith) (λ c q. each_ruled f k c (n + 1) (n + 1) (omega arith) (omega arith) (omega arith))))
    (which (f n))

-- THE PAIRS of the leaves that pass f: they keep the rules ..
pub pairs_ruled : (f : ℕ → Bool) → is_pairs (stretches pair f) ≡ true
unfolding stretches
pairs_ruled f = each_ruled f leaves 1 0 0 (omega arith) (omega arith) (omega arith)

-- .. hold exactly these leaves ..
pub pairs_leaves : (f : ℕ → Bool) → ((n : ℕ) → leaves ≤ n → f n ≡ false) → (n : ℕ) → in_pairs (stretches pair f) n ≡ f n
pairs_leaves f z n = stretches_has pair in_pairs (λ s e l n h r. pair_has s e l n h) in_none f z n

-- .. and are the only ones
pub pairs_again : (ps : List ℕ) → is_pairs ps ≡ true → stretches pair (in_pairs ps) ≡ ps
unfolding stretches
pairs_again ps t = each_are pair pair_nil ps 0 t ∙ each_again 1 ps t
