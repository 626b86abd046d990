-- The memory's turns are the stack's turns.
use mathlib.Core.Path.{◌≡◌, refl, sym, ap, ap₂, ◌∙◌, subst}
use mathlib.Core.Logic.{◌⊎◌, inl, inr, ⊎_elim}
use mathlib.Core.Bool.{Bool, true, false}
use mathlib.Core.List.{List, [], ◌∷◌, ◌++◌}
use Prim.Native.Nat.{ℕ, zero, suc, ◌+◌, ◌-◌, ◌*◌, ◌≤◌, ◌<◌}
use native.Mathlib.Omega.{arith}
use native.Mathlib.Numerals.{add-one}
use lib.ListN.{length, get_or, take, drop, set, length-append}
use lib.Seq.{length-take-le, take-suc, take_at, drop_at, drop-set-lt, get_or-set_same, get_or-set_other}
use lib.Dec.{ltb}
use Rattle.cellid.specs.CellId.{Cell, IsCell, holds}
use Rattle.cellid.proofs.Laws.{cell_pos}
use Rattle.cellid.proofs.Leaves.{child_cell}
use Rattle.order.specs.Order.{All, Sorted, sort}
use Rattle.order.proofs.SortLaws.{sort_sorted, length_sort}
use Rattle.order.proofs.LexLaws.{numbers}
use Rattle.cellunion.specs.CellUnion.{lo, hi, Member, is_four, up_one, clear_of, collapse, keep_cell, pass, rev, normalise}
use Rattle.cellunion.specs.Stack.{Down, Stack, AllBefore, top_first, Topped, Next, Gives, PassAsks, PassDone}
use Rattle.cellunion.specs.Memory.{zeros, laid, normalised}
use Rattle.cellunion.proofs.Spans.{span, In, holds_no}
use Rattle.cellunion.proofs.Unique.{all_at, at_all}
use Rattle.cellunion.proofs.Stack.{begun, clear_laws, not_next, keep_laws, stack_nil, tail, four→, rise, collapse_go, collapse_end}
use Rattle.cellunion.proofs.Norm.{ready_on, all_ready, member_sort→}
use Rattle.cellunion.proofs.Memory.{next_word, no_more, drop_more, drop_take_same, length_zeros}

pub top_pop : (k : ℕ) (m : List ℕ) → 0 < k → top_first k m ≡ get_or m (k - 1) 0 ∷ top_first (k - 1) m
unfolding top_first
top_pop zero m h = absurd (omega arith)
top_pop (suc k) m h = let e : suc k - 1 ≡ k = omega arith in rw e

-- ---- what stands inside c

pub clear_go : (c k : ℕ) (m : List ℕ) (b : Bool) → 0 < k → b ≡ holds c (get_or m (k - 1) 0) → b ≡ true → clear_of c (top_first k m) ≡ clear_of c (top_first (k - 1) m)
unfolding clear_of
clear_go c k m b h e t =
    let f : holds c (get_or m (k - 1) 0) ≡ true = sym e ∙ t in
    rw (top_pop k m h, clear_of, f)

pub clear_stop : (c k : ℕ) (m : List ℕ) (b : Bool) → 0 < k → b ≡ holds c (get_or m (k - 1) 0) → b ≡ false → clear_of c (top_first k m) ≡ top_first k m
unfolding clear_of
clear_stop c k m b h e t =
    let f : holds c (get_or m (k - 1) 0) ≡ false = sym e ∙ t in
    rw (top_pop k m h, clear_of, f)

pub clear_end : (c k : ℕ) (m : List ℕ) → k ≤ 0 → clear_of c (top_first k m) ≡ top_first k m
unfolding clear_of top_first
clear_end c k m h = let e : k ≡ 0 = omega arith in rw e

-- ---- c on top

top_three : (k : ℕ) (m : List ℕ) → 3 ≤ k → top_first k m ≡ get_or m (k - 1) 0 ∷ get_or m (k - 2) 0 ∷ get_or m (k - 3) 0 ∷ top_first (k - 3) m
unfolding top_first
top_three zero m h = absurd (omega arith)
top_three (suc zero) m h = absurd (omega arith)
top_three (suc (suc zero)) m h = absurd (omega arith)
top_three (suc (suc (suc k))) m h =
    let e1 : suc (suc (suc k)) - 1 ≡ suc (suc k) = omega arith in
    let e2 : suc (suc (suc k)) - 2 ≡ suc k = omega arith in
    let e3 : suc (suc (suc k)) - 3 ≡ k = omega arith in
    rw (e1, e2, e3)

abbrev pub SiblingsAsk : ℕ → ℕ → ℕ → ℕ → Type 0
SiblingsAsk x y z c = Cell c × (x < y) × (y < z) × (z < c)

asks : (x y z c : ℕ) (s : List ℕ) → Topped (z ∷ y ∷ x ∷ s) c → SiblingsAsk x y z c
unfolding All Down
asks x y z c s T =
    let sc = span T.cell in
    let sz = span T.stack.cells.0 in
    let sy = span T.stack.cells.1.0 in
    let sx = span T.stack.cells.1.1.0 in
    (T.cell, omega (arith, T.stack.down.1.0.0), omega (arith, T.stack.down.0.0), omega (arith, T.under.0))

rises : (x y z c : ℕ) (s : List ℕ) → Topped (z ∷ y ∷ x ∷ s) c → is_four x y z c ≡ true → Topped s (up_one c)
rises x y z c s T e =
    let R = rise x y z c s T.stack T.cell (four→ T.cell e) in
    record { stack = tail (tail (tail T.stack)); cell = R.cell; under = R.under }

pub below_face : (x y z c : ℕ) → Cell c → (b : Bool) → b ≡ is_four x y z c → b ≡ true → (L : ℕ) × (p : ℕ) × IsCell c (L + 1) p
below_face x y z c C b e t =
    let F = four→ {x = x} {y = y} {z = z} C (sym e ∙ t) in
    (F.L, 4 * F.p + 3, subst (λ (w : ℕ). IsCell w (F.L + 1) (4 * F.p + 3)) (sym F.is3) (child_cell 3 F.cell F.small (omega arith)))

pub record Going (m : List ℕ) (k₀ c₀ k c : ℕ) : Type 0 where
  pub within : k ≤ k₀
  pub room : k₀ < length m
  pub topped : Topped (top_first k m) c
  pub same : collapse (top_first k m) c ≡ collapse (top_first k₀ m) c₀

pub siblings_ask : (m : List ℕ) (k₀ c₀ k c : ℕ) → Going m k₀ c₀ k c → 3 ≤ k → SiblingsAsk (get_or m (k - 3) 0) (get_or m (k - 2) 0) (get_or m (k - 1) 0) c
siblings_ask m k₀ c₀ k c G h = asks _ _ _ c (top_first (k - 3) m) (subst (λ (s : List ℕ). Topped s c) (top_three k m h) G.topped)

pub collapse_turn : (m : List ℕ) (k₀ c₀ k c p : ℕ) (b : Bool) → Going m k₀ c₀ k c → 3 ≤ k → b ≡ is_four (get_or m (k - 3) 0) (get_or m (k - 2) 0) (get_or m (k - 1) 0) c → b ≡ true → p ≡ up_one c → Going m k₀ c₀ (k - 3) p
collapse_turn m k₀ c₀ k c p b G h e t q =
    let f : is_four (get_or m (k - 3) 0) (get_or m (k - 2) 0) (get_or m (k - 1) 0) c ≡ true = sym e ∙ t in
    rw q (record {
      within = omega (arith, G.within);
      room = G.room;
      topped = rises _ _ _ c (top_first (k - 3) m) (subst (λ (s : List ℕ). Topped s c) (top_three k m h) G.topped) f;
      same = sym (ap (λ (s : List ℕ). collapse s c) (top_three k m h) ∙ collapse_go _ _ _ c (top_first (k - 3) m) f) ∙ G.same;
    })

pub collapse_stop : (m : List ℕ) (k c : ℕ) (b : Bool) → 3 ≤ k → b ≡ is_four (get_or m (k - 3) 0) (get_or m (k - 2) 0) (get_or m (k - 1) 0) c → b ≡ false → collapse (top_first k m) c ≡ c ∷ top_first k m
collapse_stop m k c b h e t =
    let f : is_four (get_or m (k - 3) 0) (get_or m (k - 2) 0) (get_or m (k - 1) 0) c ≡ false = sym e ∙ t in
    ap (λ (s : List ℕ). collapse s c) (top_three k m h) ∙ collapse_end _ _ _ c (top_first (k - 3) m) f ∙ ap (λ (s : List ℕ). c ∷ s) (sym (top_three k m h))

pub collapse_low : (m : List ℕ) (k c : ℕ) → k < 3 → collapse (top_first k m) c ≡ c ∷ top_first k m
unfolding collapse top_first
collapse_low m zero c h = refl
collapse_low m (suc zero) c h = refl
collapse_low m (suc (suc zero)) c h = refl
collapse_low m (suc (suc (suc k))) c h = absurd (omega arith)

top_set : (k i v : ℕ) (m : List ℕ) → k ≤ i → i < length m → top_first k (set m i v) ≡ top_first k m
unfolding top_first
top_set zero i v m h g = refl
top_set (suc k) i v m h g = ap₂ (λ (x : ℕ) (s : List ℕ). x ∷ s) (get_or-set_other m i k v 0 (omega arith)) (top_set k i v m (omega arith) g)

pub top_push : (k v : ℕ) (m : List ℕ) → k < length m → top_first (k + 1) (set m k v) ≡ v ∷ top_first k m
unfolding top_first
top_push k v m h = rw (add-one k) (ap₂ (λ (x : ℕ) (s : List ℕ). x ∷ s) (get_or-set_same m k v 0 h) (top_set k k v m (omega arith) h))

pub collapse_done : (m : List ℕ) (k₀ c₀ k c : ℕ) → Going m k₀ c₀ k c → collapse (top_first k m) c ≡ c ∷ top_first k m → Gives (collapse (top_first k₀ m) c₀) k₀ m (set m k c) (k + 1)
collapse_done m k₀ c₀ k c G e = record {
  is = top_push k c m (omega (arith, G.within, G.room)) ∙ sym e ∙ G.same;
  within = omega (arith, G.within);
  rest = drop-set-lt (k₀ + 1) m k c (omega (arith, G.within));
}

-- ---- one more cell

abbrev pub HeadFree : List ℕ → ℕ → ℕ → Type 0
HeadFree m k c = (k ≤ 0) ⊎ ((0 < k) × (holds (get_or m (k - 1) 0) c ≡ false))

pub head_pos : (m : List ℕ) (k : ℕ) → All Cell (top_first k m) → 0 < k → 0 < get_or m (k - 1) 0
unfolding All
head_pos m k A h = let C = (subst (λ (s : List ℕ). All Cell s) (top_pop k m h) A).0 in cell_pos _ _ _ C.2

pub keep_skip : (m : List ℕ) (k c : ℕ) (b : Bool) → 0 < k → b ≡ holds (get_or m (k - 1) 0) c → b ≡ true → Gives (keep_cell (top_first k m) c) k m m k
unfolding keep_cell
keep_skip m k c b h e t =
    let f : holds (get_or m (k - 1) 0) c ≡ true = sym e ∙ t in
    record {
      is = let q : keep_cell (top_first k m) c ≡ top_first k m = rw (top_pop k m h, keep_cell, f) in sym q;
      within = omega arith;
      rest = refl;
    }

keep_go : (m : List ℕ) (k c : ℕ) → HeadFree m k c → keep_cell (top_first k m) c ≡ collapse (clear_of c (top_first k m)) c
unfolding keep_cell clear_of collapse top_first
keep_go m k c (inl h) = let e : k ≡ 0 = omega arith in rw e
keep_go m k c (inr h) = rw (top_pop k m h.0, keep_cell, h.1)

not_held : (s : List ℕ) (c : ℕ) → Next s c → (t : ℕ) (r : List ℕ) → s ≡ t ∷ r → holds t c ≡ false → (y : ℕ) → Member y s → In c y → ⊥
unfolding All Down Member
not_held s c N t r e f y m i =
    let S : Stack (t ∷ r) = subst Stack e N.stack in
    let R : All (λ y. 2 * lo y + 1 ≤ c) (t ∷ r) = subst (λ (z : List ℕ). All (λ y. 2 * lo y + 1 ≤ c) z) e N.ready in
    ⊎_elim (λ (q : y ≡ t). holds_no S.cells.0 N.cell f (omega (arith, i.0, ap lo q), omega (arith, i.1, ap hi q)))
    (λ m. not_next t c r N.cell R.0 S.down.0 y m i) (subst (λ (z : List ℕ). Member y z) e m)

none_held : (m : List ℕ) (k c : ℕ) → Next (top_first k m) c → HeadFree m k c → (y : ℕ) → Member y (top_first k m) → In c y → ⊥
unfolding Member top_first
none_held m k c N (inl h) y w i = let e : k ≡ 0 = omega arith in (rw e at w)
none_held m k c N (inr h) y w i = not_held (top_first k m) c N (get_or m (k - 1) 0) (top_first (k - 1) m) (top_pop k m h.0) h.1 y w i

pub keep_topped : (m : List ℕ) (k c j : ℕ) → k < length m → Next (top_first k m) c → HeadFree m k c → j ≤ k → top_first j m ≡ clear_of c (top_first k m) → (j < length m) × Topped (top_first j m) c
keep_topped m k c j h N f l e =
    let A = clear_laws c N.cell (top_first k m) N.stack (begun (top_first k m) c N.cell N.ready) (none_held m k c N f) in
    (omega arith, rw e (record { stack = A.stack; cell = N.cell; under = A.under }))

pub keep_done : (m : List ℕ) (k c j : ℕ) (m' : List ℕ) (r : ℕ) → HeadFree m k c → j ≤ k → top_first j m ≡ clear_of c (top_first k m) → Gives (collapse (top_first j m) c) j m m' r → Gives (keep_cell (top_first k m) c) k m m' r
keep_done m k c j m' r f l e G = record {
  is = G.is ∙ ap (λ (s : List ℕ). collapse s c) e ∙ sym (keep_go m k c f);
  within = omega (arith, G.within);
  rest = drop_more (j + 1) (k + 1) m' m (omega arith) G.rest;
}

-- ---- the pass

-- what is left of the pass, on top of what is kept, is the whole of it
pub record Passing (n : ℕ) (m₀ : List ℕ) (k₀ i₀ : ℕ) (m : List ℕ) (k i : ℕ) : Type 0 where
  pub asks : PassAsks n m k i
  pub len : length m ≡ length m₀
  pub rest : drop n m ≡ drop n m₀
  pub same : pass (top_first k m) (drop i (take n m)) ≡ pass (top_first k₀ m₀) (drop i₀ (take n m₀))

pub pass_next : (n : ℕ) (m : List ℕ) (k i : ℕ) → PassAsks n m k i → i < n → (k < length m) × Next (top_first k m) (get_or m i 0)
unfolding All
pass_next n m k i P h =
    let e = next_word m n i P.room h in (
      omega (arith, P.few, P.room),
      record {
        stack = P.stack;
        cell = (subst (λ (s : List ℕ). All Cell s) e P.cells).0;
        ready = (subst (λ (s : List ℕ). All (AllBefore (top_first k m)) s) e P.ready).0;
      },
    )

pub pass_turn : (n : ℕ) (m₀ : List ℕ) (k₀ i₀ : ℕ) (m : List ℕ) (k i : ℕ) (m' : List ℕ) (r : ℕ) → Passing n m₀ k₀ i₀ m k i → i < n → length m' ≡ length m → Gives (keep_cell (top_first k m) (get_or m i 0)) k m m' r
    → Passing n m₀ k₀ i₀ m' r (i + 1)
unfolding All Sorted pass
pass_turn n m₀ k₀ i₀ m k i m' r G h q K =
    let P = G.asks in
    let s = top_first k m in
    let c = get_or m i 0 in
    let l = drop (i + 1) (take n m) in
    let N = (pass_next n m k i P h).1 in
    let L = keep_laws s c N.stack N.cell N.ready in
    let e : drop i (take n m) ≡ c ∷ l = next_word m n i P.room h in
    let O : Sorted ltb (c ∷ l) = subst (Sorted ltb) e P.sorted in
    let d : drop (i + 1) m' ≡ drop (i + 1) m = drop_more (k + 1) (i + 1) m' m (omega (arith, P.few)) K.rest in
    let w : l ≡ drop (i + 1) (take n m') = sym (drop_take_same n (i + 1) m' m d) in
    record {
      asks = record {
        few = omega (arith, K.within, P.few);
        within = omega arith;
        room = omega (arith, P.room);
        stack = subst Stack (sym K.is) L.stack;
        cells = subst (λ (x : List ℕ). All Cell x) w (subst (λ (x : List ℕ). All Cell x) e P.cells).1;
        sorted = subst (Sorted ltb) w O.1;
        ready = rw (K.is, ← w) (ready_on (keep_cell s c) c l L.low O.0);
      };
      len = q ∙ G.len;
      rest = drop_more (i + 1) n m' m (omega arith) d ∙ G.rest;
      same = ap₂ pass K.is (sym w) ∙ sym (ap (pass s) e) ∙ G.same;
    }

pub rev_top : (k : ℕ) (m : List ℕ) → k ≤ length m → take k m ≡ rev (top_first k m)
unfolding rev top_first
rev_top zero m h = refl
rev_top (suc k) m h = take-suc m k 0 h ∙ ap (λ (s : List ℕ). s ++ (get_or m k 0 ∷ [])) (rev_top k m (omega arith))

pub pass_done : (n : ℕ) (m₀ : List ℕ) (k₀ i₀ : ℕ) (m : List ℕ) (k i : ℕ) → Passing n m₀ k₀ i₀ m k i → n ≤ i → PassDone n m₀ k₀ i₀ m k
unfolding pass
pass_done n m₀ k₀ i₀ m k i G h = record {
  within = omega (arith, G.asks.few, G.asks.within);
  is = rev_top k m (omega (arith, G.asks.few, G.asks.within, G.asks.room)) ∙ ap rev (sym (ap (pass (top_first k m)) (no_more m n i G.asks.room h)) ∙ G.same);
  rest = G.rest;
}

-- what the pass left over is cleared
pub clear_normal : (n : ℕ) (m m' : List ℕ) (k : ℕ) (out : List ℕ) → k ≤ n → n ≤ length m' → take k m' ≡ normalise (take n m) → drop n m' ≡ drop n m → out ≡ laid k (zeros (n - k)) m'
    → (k ≡ length (normalise (take n m))) × (out ≡ normalised n m)
unfolding normalised laid
clear_normal n m m' k out h g f d e =
    let q : k ≡ length (normalise (take n m)) = sym (length-take-le k m' (omega arith)) ∙ ap length f in
    let w : k + length (zeros (n - k)) ≡ n = omega (arith, length_zeros (n - k)) in (
      q,
      e ∙ ap₂ (λ (a b : List ℕ). a ++ (zeros (n - k) ++ b)) f (ap (λ (i : ℕ). drop i m') w ∙ d)
          ∙ ap (λ (i : ℕ). normalise (take n m) ++ (zeros (n - i) ++ drop n m)) q,
    )

-- ---- sort, pass, clear

pub record SortDone (n : ℕ) (m s : List ℕ) : Type 0 where
  pub room : n ≤ length s
  pub front : take n s ≡ sort ltb (take n m)
  pub back : drop n s ≡ drop n m

pub sort_done : (n : ℕ) (m p : List ℕ) → n ≤ length m → p ≡ sort ltb (take n m) → SortDone n m (p ++ drop n m)
sort_done n m p h e =
    let l : length p ≡ n = ap length e ∙ length_sort ltb (take n m) ∙ length-take-le n m h in
    record {
      room = omega (arith, length-append p (drop n m));
      front = take_at p (drop n m) n l ∙ e;
      back = drop_at p (drop n m) n l;
    }

pub pass_asks : (n : ℕ) (m s : List ℕ) → All Cell (take n m) → SortDone n m s → PassAsks n s 0 0
unfolding top_first
pass_asks n m s C S = record {
  few = omega arith;
  within = omega arith;
  room = S.room;
  stack = stack_nil;
  cells = subst (λ (l : List ℕ). All Cell l) (sym S.front) (at_all Cell (sort ltb (take n m)) (λ x k. all_at Cell (take n m) C x (member_sort→ (take n m) x k)));
  sorted = subst (Sorted ltb) (sym S.front) (sort_sorted ltb numbers (take n m));
  ready = all_ready (take n s);
}

pub normalize_done : (n : ℕ) (m s m' : List ℕ) (k : ℕ) (out : List ℕ) → SortDone n m s → length m' ≡ length s → PassDone n s 0 0 m' k → out ≡ laid k (zeros (n - k)) m' → (k ≡ length (normalise (take n m))) × (out ≡ normalised n m)
unfolding normalise top_first
normalize_done n m s m' k out S l P e =
    clear_normal n m m' k out P.within (omega (arith, S.room)) (P.is ∙ ap (λ (l : List ℕ). rev (pass [] l)) S.front) (P.rest ∙ S.back) e
