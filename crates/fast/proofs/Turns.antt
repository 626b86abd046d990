-- The loops over lent memory: what holds at each turn of lifting and merging.
use mathlib.Core.Path.{◌≡◌, refl, sym, ap, ◌∙◌}
use mathlib.Core.Bool.{true}
use mathlib.Core.List.{List, [], ◌∷◌, ◌++◌, append_assoc, map, map-append}
use Prim.Native.Nat.{ℕ, suc, ◌+◌, ◌-◌, ◌≤◌, ◌<◌}
use native.Mathlib.Numerals.{add-one}
use native.Mathlib.Omega.{arith}
use lib.ListN.{length, get_or, set, take, drop, length-append, length-map, length-drop, take-append-drop}
use Rattle.std.proofs.lemmas.List.{append-nil, drop_all}
use lib.Seq.{take_all, length-take-le, take-suc, drop-cons, get_or_at, set_at, take_at, drop_at, get_or-take, take-set-lt, drop-set-lt}
use Rattle.cellid.specs.CellId.{Cell, parent_at, holds}
use Rattle.order.specs.Order.{All}
use Rattle.cellunion.specs.CellUnion.{Normal, normalise}
use Rattle.denorm.specs.Denorm.{denormalise}
use Rattle.cellunion.specs.Memory.{zeros, normalised}
use Rattle.cellunion.proofs.Norm.{normalise_normal, normalise_short}
use Rattle.cellunion.proofs.Memory.{length_zeros, zeros_add}
use Rattle.fast.specs.declared.Best.{Best}
use Rattle.fast.specs.Fast.{best_of, lifted, joined, merged_in, merged, merged_covering, fast_covering}
use Rattle.fast.specs.Memory.{in_place}
use Rattle.fast.proofs.Levels.{pair_small}
use Rattle.fast.proofs.Merging.{Found, best_found, Joined, best_joined, merged_go, merged_laws}
use Rattle.fast.proofs.Laws.{lifted_cells, Covering, merged_covering_lem}

-- ---- each word to its image

lift_word : (f : ℕ → ℕ) (m₀ m : List ℕ) (i : ℕ) → i < length m₀ → m ≡ map f (take i m₀) ++ drop i m₀ → m ≡ map f (take i m₀) ++ get_or m₀ i 0 ∷ drop (i + 1) m₀
lift_word f m₀ m i h e = e ∙ rw (add-one i) (ap (λ (t : List ℕ). map f (take i m₀) ++ t) (drop-cons m₀ i 0 h))

lift_size : (f : ℕ → ℕ) (m₀ : List ℕ) (i : ℕ) → i < length m₀ → length (map f (take i m₀)) ≡ i
lift_size f m₀ i h = length-map (take i m₀) f ∙ length-take-le i m₀ (omega arith)

pub lift_turn : (f : ℕ → ℕ) (m₀ m : List ℕ) (i v : ℕ) → i < length m₀ → m ≡ map f (take i m₀) ++ drop i m₀ → v ≡ f (get_or m i 0) → set m i v ≡ map f (take (i + 1) m₀) ++ drop (i + 1) m₀
lift_turn f m₀ m i v g L e =
    let w = lift_word f m₀ m i g L in
    let x : get_or m i 0 ≡ get_or m₀ i 0 = ap (λ (t : List ℕ). get_or t i 0) w ∙ get_or_at (map f (take i m₀)) (get_or m₀ i 0) (drop (i + 1) m₀) 0 i (lift_size f m₀ i g) in
    ap (λ (t : List ℕ). set t i v) w ∙ set_at (map f (take i m₀)) (get_or m₀ i 0) (drop (i + 1) m₀) v i (lift_size f m₀ i g)
    ∙ ap (λ (y : ℕ). map f (take i m₀) ++ y ∷ drop (i + 1) m₀) (e ∙ ap f x)
    ∙ sym (append_assoc (map f (take i m₀)) (f (get_or m₀ i 0) ∷ []) (drop (i + 1) m₀))
    ∙ ap (λ (t : List ℕ). t ++ drop (i + 1) m₀) (sym (map-append f (take i m₀) (get_or m₀ i 0 ∷ [])) ∙ ap (map f) (sym (take-suc m₀ i 0 g) ∙ ap (λ (k : ℕ). take k m₀) (sym (add-one i))))

pub lift_done : (f : ℕ → ℕ) (m₀ m : List ℕ) (i : ℕ) → length m₀ ≤ i → m ≡ map f (take i m₀) ++ drop i m₀ → m ≡ map f m₀
lift_done f m₀ m i h L = L ∙ rw (take_all i m₀ h, drop_all i m₀ h) (append-nil (map f m₀))

pub lift_none : (f : ℕ → ℕ) (n : ℕ) (m : List ℕ) → map f (take n m) ≡ take n m → m ≡ map f (take n m) ++ drop n m
lift_none f n m e = sym (take-append-drop n m) ∙ ap (λ (l : List ℕ). l ++ drop n m) (sym e)

-- ---- a list in place of the first n words

pub in_place_all : (n : ℕ) (m : List ℕ) → n ≤ length m → m ≡ in_place n (take n m) m
unfolding in_place zeros
in_place_all n m h =
    let e : n - length (take n m) ≡ 0 = omega (arith, length-take-le n m h) in
    sym (take-append-drop n m) ∙ ap (λ (k : ℕ). take n m ++ (zeros k ++ drop n m)) (sym e)

pub length_in_place : (n : ℕ) (l m : List ℕ) → length l ≤ n → n ≤ length m → length (in_place n l m) ≡ length m
unfolding in_place
length_in_place n l m h g = length-append l (zeros (n - length l) ++ drop n m) ∙ rw (length-append (zeros (n - length l)) (drop n m), length_zeros (n - length l), length-drop n m) (omega arith)

-- l' in place of the first k words, where a list of k stands in place of the first n
pub in_place_again : (n k : ℕ) (l l' m₀ m x : List ℕ) → length l ≡ k → k ≤ n → m ≡ in_place n l m₀ → drop k x ≡ drop k m → length l' ≤ k → in_place k l' x ≡ in_place n l' m₀
unfolding in_place
in_place_again n k l l' m₀ m x e h w d s =
    let r = length l' in
    let t : drop k x ≡ zeros (n - k) ++ drop n m₀ = d ∙ ap (drop k) w ∙ drop_at l (zeros (n - length l) ++ drop n m₀) k e ∙ ap (λ (j : ℕ). zeros (n - j) ++ drop n m₀) e in
    let z : (k - r) + (n - k) ≡ n - r = omega arith in
    ap (λ (y : List ℕ). l' ++ (zeros (k - r) ++ y)) t
    ∙ ap (λ (y : List ℕ). l' ++ y) (zeros_add (k - r) (n - k) (drop n m₀) ∙ ap (λ (j : ℕ). zeros j ++ drop n m₀) z)

pub in_place_normalised : (n : ℕ) (m : List ℕ) → normalised n m ≡ in_place n (normalise (take n m)) m
unfolding in_place normalised
in_place_normalised n m = refl

pub take_in_place : (n r : ℕ) (l m : List ℕ) → length l ≡ r → take r (in_place n l m) ≡ l
unfolding in_place
take_in_place n r l m e = take_at l (zeros (n - length l) ++ drop n m) r e

-- the words from n on stay
pub in_place_back : (n : ℕ) (l m : List ℕ) → length l ≤ n → drop n (in_place n l m) ≡ drop n m
unfolding in_place
in_place_back n l m h =
    let e : length (l ++ zeros (n - length l)) ≡ n = simp (length-append, length_zeros) (omega arith) in
    ap (drop n) (sym (append_assoc l (zeros (n - length l)) (drop n m))) ∙ drop_at (l ++ zeros (n - length l)) (drop n m) n e

-- ---- the merge, in memory

module _ (low step cells : ℕ) where
  pub record Going (n : ℕ) (m₀ m : List ℕ) (k : ℕ) : Type 0 where
    pub within : k ≤ n
    pub room : n ≤ length m₀
    pub len : length m ≡ length m₀
    pub normal : Normal (take k m)
    pub whole : m ≡ in_place n (take k m) m₀
    pub fuel : ℕ
    pub enough : k ≤ fuel
    pub rest : merged_in low step cells fuel (take k m) ≡ merged low step cells (take n m₀)

  pub going_start : (n : ℕ) (m₀ : List ℕ) → n ≤ length m₀ → Normal (take n m₀) → Going n m₀ m₀ n
  going_start n m₀ h N = record {
    within = omega arith;
    room = h;
    len = refl;
    normal = N;
    whole = in_place_all n m₀ h;
    fuel = length (take n m₀);
    enough = omega (arith, length-take-le n m₀ h);
    rest = refl;
  }

  pub going_size : (n : ℕ) (m₀ m : List ℕ) (k : ℕ) → Going n m₀ m k → length (take k m) ≡ k
  going_size n m₀ m k G = length-take-le k m (omega (arith, G.within, G.room, G.len))

  -- the whole list is scanned
  pub scanned : (n : ℕ) (m₀ m : List ℕ) (k : ℕ) → Going n m₀ m k → (b : Best) → b ≡ best_of low step (take k m) (k - 1) → b ≡ best_of low step (take k m) (length (take k m) - 1)
  scanned n m₀ m k G b e = e ∙ ap (λ (j : ℕ). best_of low step (take k m) (j - 1)) (sym (going_size n m₀ m k G))

  pub going_done : (n : ℕ) (m₀ m : List ℕ) (k : ℕ) (G : Going n m₀ m k) → merged_in low step cells G.fuel (take k m) ≡ take k m
      → (k ≡ length (merged low step cells (take n m₀))) × (m ≡ in_place n (merged low step cells (take n m₀)) m₀)
  going_done n m₀ m k G e =
      let f : take k m ≡ merged low step cells (take n m₀) = sym e ∙ G.rest in
      (sym (going_size n m₀ m k G) ∙ ap length f, G.whole ∙ ap (λ (l : List ℕ). in_place n l m₀) f)

  -- the best level found does not lie below min
  module _ (n : ℕ) (m₀ m : List ℕ) (k : ℕ) (G : Going n m₀ m k) (b : Best) (e : b ≡ best_of low step (take k m) (length (take k m) - 1)) (g : low < b.depth) where
    deep : low < (best_of low step (take k m) (length (take k m) - 1)).depth
    deep = rw (← e) g

    found : Found low step (take k m) (length (take k m) - 1) b
    found = rw e (best_found low step (take k m) (length (take k m) - 1) (omega (arith, deep)))

    pub turn_place : b.at + 1 < k
    turn_place = omega (arith, found.before, going_size n m₀ m k G)

    pub turn_level : b.depth ≤ 31
    turn_level = rw found.depth (pair_small low step (get_or (take k m) b.at 0) (get_or (take k m) (b.at + 1) 0))

    joins : Joined (take k m) b
    joins = rw e (best_joined low step cells (take k m) G.normal.cells deep)

    module _ (P : ℕ) (is : P ≡ parent_at (get_or m b.at 0) (b.depth - 1)) where
      stored : take k (set m b.at P) ≡ set (take k m) b.at (parent_at (get_or (take k m) b.at 0) (b.depth - 1))
      stored =
          let h = turn_place in
          take-set-lt k m b.at P (omega arith) ∙ ap (set (take k m) b.at) (is ∙ ap (λ (x : ℕ). parent_at x (b.depth - 1)) (sym (get_or-take k m b.at 0 (omega arith))))

      pub turn_wide : Cell P × (holds P (get_or m b.at 0) ≡ true)
      turn_wide =
          let h = turn_place in
          let e = get_or-take k m b.at 0 (omega arith) in
          rw (is, ← e) joins.wide

      normal : normalise (take k (set m b.at P)) ≡ normalise (joined (take k m) b)
      normal = ap normalise stored ∙ joins.written

      shorter : length (normalise (take k (set m b.at P))) < k
      shorter = rw normal (omega (arith, normalise_short (joined (take k m) b) joins.cells, joins.shorter, going_size n m₀ m k G))

      pub going_turn : (r : ℕ) (m' : List ℕ) → cells < k → r ≡ length (normalise (take k (set m b.at P))) → m' ≡ normalised k (set m b.at P) → (r < k) × Going n m₀ m' r
      going_turn r m' c er em =
          let few : r < k = rw er shorter in
          let h : b.at + 1 < k = turn_place in
          let size : length (take k m) ≡ k = going_size n m₀ m k G in
          let new : m' ≡ in_place n (normalise (take k (set m b.at P))) m₀ =
          em ∙ in_place_normalised k (set m b.at P)
          ∙ in_place_again n k (take k m) (normalise (take k (set m b.at P))) m₀ m (set m b.at P) size G.within G.whole (drop-set-lt k m b.at P (omega arith)) (omega (arith, shorter)) in
          let list : take r m' ≡ normalise (joined (take k m) b) = ap (take r) new ∙ take_in_place n r _ m₀ (sym er) ∙ normal in (
            few,
            record {
              within = omega (arith, G.within);
              room = G.room;
              len = ap length new ∙ length_in_place n (normalise (take k (set m b.at P))) m₀ (omega (arith, shorter, G.within)) G.room;
              normal = rw list (normalise_normal (joined (take k m) b) joins.cells);
              whole = new ∙ ap (λ (l : List ℕ). in_place n l m₀) (normal ∙ sym list);
              fuel = G.fuel - 1;
              enough = omega (arith, G.enough);
              rest =
                  let f : G.fuel ≡ suc (G.fuel - 1) = omega (arith, G.enough) in
                  ap (merged_in low step cells (G.fuel - 1)) (list ∙ ap (λ (x : Best). normalise (joined (take k m) x)) e)
                  ∙ sym (merged_go low step cells (G.fuel - 1) (take k m) (omega (arith, size)) deep)
                  ∙ ap (λ (j : ℕ). merged_in low step cells j (take k m)) (sym f) ∙ G.rest;
            },
          )

-- ---- lift, normalise, merge

in_place_same : (n : ℕ) (l m x : List ℕ) → drop n x ≡ drop n m → in_place n l x ≡ in_place n l m
unfolding in_place
in_place_same n l m x e = ap (λ (t : List ℕ). l ++ (zeros (n - length l) ++ t)) e

module _ (low top step cells n : ℕ) (m : List ℕ) (room : n ≤ length m) (C : All Cell (take n m)) (m₁ : List ℕ) (e₁ : m₁ ≡ map (lifted low top step) (take n m) ++ drop n m) where
  size : length (map (lifted low top step) (take n m)) ≡ n
  size = length-map (take n m) (lifted low top step) ∙ length-take-le n m room

  front : take n m₁ ≡ map (lifted low top step) (take n m)
  front = ap (take n) e₁ ∙ take_at (map (lifted low top step) (take n m)) (drop n m) n size

  back : drop n m₁ ≡ drop n m
  back = ap (drop n) e₁ ∙ drop_at (map (lifted low top step) (take n m)) (drop n m) n size

  pub lifted_asks : length m₁ ≡ length m → (n ≤ length m₁) × All Cell (take n m₁)
  lifted_asks h = (omega arith, rw front (lifted_cells low top step (take n m) C))

  module _ (k : ℕ) (m₂ : List ℕ) (ek : k ≡ length (normalise (take n m₁))) (e₂ : m₂ ≡ normalised n m₁) where
    list : List ℕ
    list = normalise (map (lifted low top step) (take n m))

    long : length list ≡ k
    unfolding list
    long = sym (ek ∙ ap (λ (l : List ℕ). length (normalise l)) front)

    each : Normal list
    unfolding list
    each = normalise_normal (map (lifted low top step) (take n m)) (lifted_cells low top step (take n m) C)

    few : k ≤ n
    unfolding list
    few = omega (arith, long, normalise_short (map (lifted low top step) (take n m)) (lifted_cells low top step (take n m) C), size)

    there : m₂ ≡ in_place n list m
    unfolding list
    there = e₂ ∙ in_place_normalised n m₁ ∙ in_place_same n (normalise (take n m₁)) m m₁ back ∙ ap (λ (l : List ℕ). in_place n (normalise l) m) front

    at_front : take k m₂ ≡ list
    at_front = ap (take k) there ∙ take_in_place n k list m long

    pub merge_asks : (k ≤ length m₂) × Normal (take k m₂)
    merge_asks = (omega (arith, ap length there, length_in_place n list m (omega (arith, long, few)) room, few), rw at_front each)

    pub merge_done : (r : ℕ) (m₃ : List ℕ) → r ≡ length (merged low step cells (take k m₂)) → m₃ ≡ in_place k (merged low step cells (take k m₂)) m₂
        → (r ≡ length (merged_covering low top step cells (take n m))) × (m₃ ≡ in_place n (merged_covering low top step cells (take n m)) m)
    unfolding merged_covering list
    merge_done r m₃ er e₃ =
        let M = merged low step cells list in
        let s : length M ≤ k = omega (arith, (merged_laws low step cells (length list) list each.cells).short, long) in
        (er ∙ ap (λ (l : List ℕ). length (merged low step cells l)) at_front, e₃ ∙ ap (λ (l : List ℕ). in_place k (merged low step cells l) m₂) at_front ∙ in_place_again n k list M m m₂ m₂ long few there refl s)

-- ---- the list that is denormalised

module _ (low top step cells n : ℕ) (m : List ℕ) (room : n ≤ length m) (C : All Cell (take n m)) (o : low ≤ top) (k : ℕ) (m' : List ℕ)
    (ek : k ≡ length (merged_covering low top step cells (take n m))) (em : m' ≡ in_place n (merged_covering low top step cells (take n m)) m) where
  covering : Covering low top step (take n m) (merged_covering low top step cells (take n m))
  covering = merged_covering_lem low top step cells (take n m) o C

  pub covering_front : take k m' ≡ merged_covering low top step cells (take n m)
  covering_front = ap (take k) em ∙ take_in_place n k (merged_covering low top step cells (take n m)) m (sym ek)

  pub covering_asks : (k ≤ length m') × All Cell (take k m')
  covering_asks =
      let s : length (merged_covering low top step cells (take n m)) ≤ n = omega (arith, covering.short, length-take-le n m room) in
      (omega (arith, ap length em, length_in_place n (merged_covering low top step cells (take n m)) m s room), rw covering_front covering.normal.cells)

  pub covering_fast : denormalise low step (take k m') ≡ fast_covering low top step cells (take n m)
  unfolding fast_covering
  covering_fast = ap (denormalise low step) covering_front

-- the bound's list in its array
pub bound_front : (n : ℕ) (ids l t : List ℕ) → n ≡ length l → ids ≡ l ++ t → (take n ids ≡ l) × (n ≤ length ids)
bound_front n ids l t e f = (ap (take n) f ∙ take_at l t n (sym e), omega (arith, e, ap length f, length-append l t))
