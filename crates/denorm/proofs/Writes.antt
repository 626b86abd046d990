-- Counting, and writing what the words become: the turns of the loops.
use mathlib.Core.Path.{◌≡◌, refl, sym, ap, ap₂, ◌∙◌, subst}
use mathlib.Core.List.{List, [], ◌∷◌, ◌++◌, append-nil}
use Prim.Native.Nat.{ℕ, zero, suc, ◌+◌, ◌-◌, ◌*◌, ◌%◌, ◌^◌, ◌≤◌, ◌<◌, min, max}
use native.Mathlib.Nat.{add-mul, one-mul, mul_assoc, mod-le}
use native.Mathlib.Omega.{arith}
use lib.ListN.{length, get_or, take, drop, set, length-set, length-drop, drop_of_length-le}
use lib.Seq.{length-take-le}
use lib.Pow.{pow_mono}
use Rattle.cellid.specs.CellId.{Cell, IsCell, id_of, bit_at, place_at, low_bit, level_of, place_of}
use Rattle.cellid.proofs.Laws.{odd_mul, low_cell, level_cell, level_le, place_id, bit_up, cell_lt, one_shl}
use Rattle.order.specs.Order.{All}
use Rattle.denorm.specs.Denorm.{goal, cells_from, below, denormalise, count_of, AsksList}
use Rattle.denorm.proofs.Laws.{room_core, goal_in, length_below, length_denormalise}
use Rattle.std.specs.Prelude.{Bool, true, false, Some, None, leb}
use borrow.Author.Tests.{leb-true, leb-false, le-leb, lt-leb}
use Rattle.cellid.proofs.Puts.{next_of, none_left}
use Rattle.order.proofs.OrderLaws.{all_get}
use Rattle.cellunion.specs.Memory.{laid, room_for, laid_over}
use Rattle.cellunion.proofs.Memory.{laid_nil, laid_cons, length_laid, laid_append, laid_start, put_laid, room_yes, room_no}
use borrow.Rule.Slice.PartMut.{put_mid}

-- ---- the level

pub goal_fits : (L low step m : ℕ) → L ≤ 30 → low ≤ 30 → m ≡ max L low → (low ≤ m) × (m ≤ 30) × ((30 - (m - low)) % step ≤ 30)
goal_fits L low step m h g e = (omega arith, omega arith, omega (arith, mod-le (30 - (m - low)) step))

pub goal_is : (L low step m : ℕ) → m ≡ max L low → min (m + (30 - (m - low)) % step) 30 ≡ goal low step L
unfolding goal
goal_is L low step m e = ap (λ (n : ℕ). min (n + (30 - (n - low)) % step) 30) e ∙ turned _ 30
  where
    turned : (x y : ℕ) → min x y ≡ min y x
    turned x y = omega arith

-- ---- one word

pub word_cell : (l : List ℕ) (i low step : ℕ) → AsksList low step l → i < length l → Cell (get_or l i 0)
word_cell l i low step A h = all_get Cell l 0 i h A.0

abbrev pub many : ℕ → ℕ → ℕ → ℕ
many low step id = 2 ^ (2 * (goal low step (level_of id) - level_of id))

pub record Turn (low step id L g : ℕ) : Type 0 where
  pub lev : L ≤ 30
  pub up : L ≤ g
  pub top : g ≤ 30
  pub val : (1 * 2 ^ (2 * (g - L))) % 2 ^ 64 ≡ many low step id
  pub few : many low step id ≤ 2 ^ 60

pub turn_laws : (low step id L g : ℕ) → L ≡ level_of id → g ≡ goal low step L → Turn low step id L g
turn_laws low step id L g e f =
    let l : L ≤ 30 = omega (arith, level_le id) in
    let r = goal_in low step L l in
    let m : 2 ^ (2 * (g - L)) ≡ many low step id = ap₂ (λ (x y : ℕ). 2 ^ (2 * (x - y))) (f ∙ ap (goal low step) e) e in
    record {
      lev = l;
      up = omega (arith, r.0);
      top = omega (arith, r.1);
      val = one_shl (2 * (g - L)) (omega (arith, r.1)) ∙ m;
      few = subst (λ (x : ℕ). x ≤ 2 ^ 60) m (pow_mono {i = 2 * (g - L)} {j = 60} (omega (arith, r.1)));
    }

pub count_cons : (low step id : ℕ) (l : List ℕ) → count_of low step (id ∷ l) ≡ many low step id + count_of low step l
unfolding count_of
count_cons low step id l = refl

pub count_nil : (low step : ℕ) → count_of low step [] ≡ 0
unfolding count_of
count_nil low step = refl

-- ---- counting: what is left of the room, and what is still to come

pub record Counting (l : List ℕ) (low step room left i : ℕ) : Type 0 where
  pub within : i ≤ length l
  pub same : count_of low step l + left ≡ room + count_of low step (drop i l)

pub count_next : (l : List ℕ) (low step i : ℕ) → i < length l → count_of low step (drop i l) ≡ many low step (get_or l i 0) + count_of low step (drop (i + 1) l)
count_next l low step i h = ap (count_of low step) (next_of l i h) ∙ count_cons low step (get_or l i 0) (drop (i + 1) l)

pub count_turn : (l : List ℕ) (low step room left i w : ℕ) → Counting l low step room left i → i < length l → w ≡ many low step (get_or l i 0) → w ≤ left → Counting l low step room (left - w) (i + 1)
count_turn l low step room left i w G h e g = record { within = omega arith; same = omega (arith, G.same, count_next l low step i h) }

pub count_over : (l : List ℕ) (low step room left i w : ℕ) → Counting l low step room left i → i < length l → w ≡ many low step (get_or l i 0) → left < w → false ≡ leb (count_of low step l) room
count_over l low step room left i w G h e g = sym (lt-leb (count_of low step l) room (omega (arith, G.same, count_next l low step i h)))

pub count_done : (l : List ℕ) (low step room left i : ℕ) → Counting l low step room left i → length l ≤ i → true ≡ leb (count_of low step l) room
count_done l low step room left i G h =
    let s : count_of low step (drop i l) ≡ 0 = ap (count_of low step) (none_left l i h) ∙ count_nil low step in
    sym (le-leb (count_of low step l) room (omega (arith, G.same)))

-- ---- one cell's cells

pub record Spreading (id to : ℕ) (out₀ : List ℕ) (at bit : ℕ) (out : List ℕ) (c left place : ℕ) : Type 0 where
  pub bit_is : bit ≡ bit_at to
  pub deep : to ≤ 30
  pub len : length out ≡ length out₀
  pub fits : place + left ≤ length out
  pub sum : place + left ≡ at + 2 ^ (2 * (to - level_of id))
  pub j : ℕ
  pub is : c ≡ id_of to j
  pub room : j + left ≤ 6 * 2 ^ (2 * to)
  pub same : laid place (cells_from to j left) out ≡ laid at (below to id) out₀

start_core : (p D C : ℕ) → ((2 * p + 1) * (D * C) - D * C) + C ≡ (2 * (p * D) + 1) * C
start_core p D C = omega (arith, odd_mul p (D * C), odd_mul (p * D) C, mul_assoc p D C)

room_at : (P U x to p L : ℕ) → P ≡ p → U ≡ L → x ≡ 2 ^ (2 * (to - U)) → L ≤ to → p < 6 * 2 ^ (2 * L) → P * 2 ^ (2 * (to - U)) + x ≤ 6 * 2 ^ (2 * to)
room_at P U x to p L e f g h r =
    let n : L + (to - L) ≡ to = omega arith in
    rw (g, e, f) (subst (λ (w : ℕ). p * 2 ^ (2 * (to - L)) + 2 ^ (2 * (to - L)) ≤ 6 * 2 ^ (2 * w)) n (room_core p L (to - L) r))

pub spread_start : (id to : ℕ) (out : List ℕ) (at bit low L left : ℕ) → Cell id → level_of id ≤ to → to ≤ 30 → at + 2 ^ (2 * (to - level_of id)) ≤ length out
    → bit ≡ bit_at to → low ≡ low_bit id → L ≡ level_of id → left ≡ (1 * 2 ^ (2 * (to - L))) % 2 ^ 64 → Spreading id to out at bit out ((id - low) + bit) left at
unfolding below id_of
spread_start id to out at bit low L left C h g f eb el eL e =
    let lv : level_of id ≡ C.0 = level_cell id C.0 C.1 C.2 in
    let q : place_of id ≡ C.1 = ap place_of C.2.is ∙ place_id C.0 C.1 in
    let k = to - C.0 in
    let w : left ≡ 2 ^ (2 * (to - level_of id)) = e ∙ one_shl (2 * (to - L)) (omega arith) ∙ ap (λ (n : ℕ). 2 ^ (2 * (to - n))) eL in
    let n : C.0 + k ≡ to = omega arith in
    let up : bit_at C.0 ≡ 2 ^ (2 * k) * bit_at to = bit_up C.0 k (omega arith) ∙ ap (λ (z : ℕ). 2 ^ (2 * k) * bit_at z) n in
    let lb : low ≡ 2 ^ (2 * k) * bit_at to = el ∙ low_cell id C.0 C.1 C.2 ∙ up in
    let ii : id ≡ (2 * C.1 + 1) * (2 ^ (2 * k) * bit_at to) = C.2.is ∙ ap (λ (x : ℕ). (2 * C.1 + 1) * x) up in
    record {
      bit_is = eb;
      deep = g;
      len = refl;
      fits = omega arith;
      sum = omega arith;
      j = place_of id * 2 ^ (2 * (to - level_of id));
      is = ap₂ (λ (x y : ℕ). (x - y) + bit) ii lb ∙ ap (λ (x : ℕ). ((2 * C.1 + 1) * (2 ^ (2 * k) * bit_at to) - 2 ^ (2 * k) * bit_at to) + x) eb ∙ start_core C.1 (2 ^ (2 * k)) (bit_at to)
          ∙ ap₂ (λ (x y : ℕ). (2 * (x * 2 ^ (2 * (to - y))) + 1) * bit_at to) (sym q) (sym lv);
      room = room_at (place_of id) (level_of id) left to C.1 C.0 q lv w (omega arith) C.2.place;
      same = ap (λ (x : ℕ). laid at (cells_from to (place_of id * 2 ^ (2 * (to - level_of id))) x) out) w;
    }

pub spread_word : (id to : ℕ) (out₀ : List ℕ) (at bit : ℕ) (out : List ℕ) (c left place : ℕ) → Spreading id to out₀ at bit out c left place → 0 < left → (c < 12 * 2 ^ 60) × (bit ≤ 2 ^ 60)
spread_word id to out₀ at bit out c left place G h =
    let I : IsCell c to G.j = record { level = G.deep; place = omega (arith, G.room); is = G.is } in
    (cell_lt c to G.j I, omega (arith, G.bit_is, pow_mono {i = place_at to} {j = 60} (omega arith)))

next_core : (j C : ℕ) → (2 * j + 1) * C + 2 * C ≡ (2 * (j + 1) + 1) * C
next_core j C = omega (arith, odd_mul j C, odd_mul (j + 1) C, add-mul j 1 C, one-mul C)

pub spread_turn : (id to : ℕ) (out₀ : List ℕ) (at bit : ℕ) (out : List ℕ) (c left place : ℕ) → Spreading id to out₀ at bit out c left place → 0 < left
    → Spreading id to out₀ at bit (set out place c) (c + (bit * 2) % 2 ^ 64) (left - 1) (place + 1)
unfolding cells_from id_of
spread_turn id to out₀ at bit out c zero place G h = absurd (omega arith)
spread_turn id to out₀ at bit out c (suc left) place G h =
    let r = spread_word id to out₀ at bit out c (suc left) place G h in
    let z : suc left - 1 ≡ left = omega arith in
    let b : (bit * 2) % 2 ^ 64 ≡ 2 * bit_at to = omega (arith, r.1, G.bit_is) in
    rw z (record {
      bit_is = G.bit_is;
      deep = G.deep;
      len = length-set out place c ∙ G.len;
      fits = simp length-set (omega (arith, G.fits));
      sum = omega (arith, G.sum);
      j = G.j + 1;
      is = ap₂ (λ (x y : ℕ). x + y) G.is b ∙ next_core G.j (bit_at to);
      room = omega (arith, G.room);
      same = sym (ap (λ (x : ℕ). laid place (x ∷ cells_from to (G.j + 1) left) out) (sym G.is) ∙ laid_cons place c (cells_from to (G.j + 1) left) out (omega (arith, G.fits))) ∙ G.same;
    })

pub spread_done : (id to : ℕ) (out₀ : List ℕ) (at bit : ℕ) (out : List ℕ) (c left place : ℕ) → Spreading id to out₀ at bit out c left place → left ≤ 0 → (place ≡ at + 2 ^ (2 * (to - level_of id))) × (out ≡ laid at (below to id) out₀)
unfolding cells_from
spread_done id to out₀ at bit out c zero place G h = (omega (arith, G.sum), sym (laid_nil place out) ∙ G.same)
spread_done id to out₀ at bit out c (suc left) place G h = absurd (omega arith)

-- ---- they are written in a part of the output that is as long as they are many

spread_many : (id to at L n : ℕ) → to ≤ 30 → L ≡ level_of id → n ≡ at + (1 * 2 ^ (2 * (to - L))) % 2 ^ 64 - at → n ≡ 2 ^ (2 * (to - level_of id))
spread_many id to at L n h eL e =
    let w : (1 * 2 ^ (2 * (to - L))) % 2 ^ 64 ≡ 2 ^ (2 * (to - level_of id)) = one_shl (2 * (to - L)) (omega arith) ∙ ap (λ (k : ℕ). 2 ^ (2 * (to - k))) eL in
    omega arith

module _ (id to : ℕ) (out : List ℕ) (at bit low L n : ℕ) (g : to ≤ 30) (eL : L ≡ level_of id) (e : n ≡ at + (1 * 2 ^ (2 * (to - L))) % 2 ^ 64 - at) (f : at + 2 ^ (2 * (to - level_of id)) ≤ length out) where
  part_length : length (take n (drop at out)) ≡ n
  part_length = length-take-le n (drop at out) (omega (arith, length-drop at out, spread_many id to at L n g eL e))

  pub spread_begin : Cell id → level_of id ≤ to → bit ≡ bit_at to → low ≡ low_bit id
      → Spreading id to (take n (drop at out)) 0 bit (take n (drop at out)) ((id - low) + bit) (length (take n (drop at out)) - 0) 0
  spread_begin C h eb el =
      let m = spread_many id to at L n g eL e in
      let w : (1 * 2 ^ (2 * (to - L))) % 2 ^ 64 ≡ 2 ^ (2 * (to - level_of id)) = one_shl (2 * (to - L)) (omega arith) ∙ ap (λ (k : ℕ). 2 ^ (2 * (to - k))) eL in
      spread_start id to (take n (drop at out)) 0 bit low L (length (take n (drop at out)) - 0) C h g (omega (arith, part_length)) eb el eL (omega (arith, part_length))

  pub spread_back : (part : List ℕ) (c i : ℕ) → Spreading id to (take n (drop at out)) 0 bit part c (length part - i) i → length part ≤ i
      → (at + (1 * 2 ^ (2 * (to - L))) % 2 ^ 64 ≡ at + 2 ^ (2 * (to - level_of id))) × (put_mid at n out part ≡ laid at (below to id) out)
  spread_back part c i G h =
      let m = spread_many id to at L n g eL e in
      let b : length (below to id) ≡ n = length_below to id ∙ sym m in
      let p = (spread_done id to (take n (drop at out)) 0 bit part c (length part - i) i G (omega arith)).1 in
      let z : part ≡ below to id = p ∙ laid_start (below to id) (take n (drop at out))
      ∙ ap (λ (s : List ℕ). below to id ++ s) (drop_of_length-le (take n (drop at out)) {i = length (below to id)} (omega (arith, part_length))) ∙ append-nil (below to id) in
      (omega (arith, m, e), put_laid out at n part (below to id) z b)

pub spread_next : (id to : ℕ) (part₀ : List ℕ) (bit : ℕ) (part : List ℕ) (c i : ℕ) → Spreading id to part₀ 0 bit part c (length part - i) i → i < length part
    → Spreading id to part₀ 0 bit (set part i c) (c + (bit * 2) % 2 ^ 64) (length (set part i c) - (i + 1)) (i + 1)
spread_next id to part₀ bit part c i G h =
    let e : length (set part i c) - (i + 1) ≡ length part - i - 1 = omega (arith, length-set part i c) in
    rw e (spread_turn id to part₀ 0 bit part c (length part - i) i G (omega arith))

-- ---- the list

pub record Writing (l : List ℕ) (low step : ℕ) (out₀ out : List ℕ) (at i : ℕ) : Type 0 where
  pub asks : AsksList low step l
  pub within : i ≤ length l
  pub len : length out ≡ length out₀
  pub enough : count_of low step l ≤ length out₀
  pub sum : at + count_of low step (drop i l) ≡ count_of low step l
  pub same : laid at (denormalise low step (drop i l)) out ≡ laid 0 (denormalise low step l) out₀

pub write_asks : (l : List ℕ) (low step : ℕ) (out₀ out : List ℕ) (at i L to : ℕ) → Writing l low step out₀ out at i → i < length l → L ≡ level_of (get_or l i 0) → to ≡ goal low step L
    → Cell (get_or l i 0) × (level_of (get_or l i 0) ≤ to) × (to ≤ 30) × (at + 2 ^ (2 * (to - level_of (get_or l i 0))) ≤ length out)
write_asks l low step out₀ out at i L to G h e f =
    let C = word_cell l i low step G.asks h in
    let T = turn_laws low step (get_or l i 0) L to e f in
    let w : 2 ^ (2 * (to - level_of (get_or l i 0))) ≡ many low step (get_or l i 0) = ap (λ (x : ℕ). 2 ^ (2 * (x - level_of (get_or l i 0)))) (f ∙ ap (goal low step) e) in
    (C, omega (arith, T.up), T.top, omega (arith, G.sum, G.enough, G.len, ap (count_of low step) (next_of l i h), count_cons low step (get_or l i 0) (drop (i + 1) l)))

pub write_turn : (l : List ℕ) (low step : ℕ) (out₀ out : List ℕ) (at i L to : ℕ) (out' : List ℕ) (at' : ℕ) → Writing l low step out₀ out at i → i < length l → L ≡ level_of (get_or l i 0) → to ≡ goal low step L
    → at' ≡ at + 2 ^ (2 * (to - level_of (get_or l i 0))) → out' ≡ laid at (below to (get_or l i 0)) out → Writing l low step out₀ out' at' (i + 1)
unfolding denormalise
write_turn l low step out₀ out at i L to out' at' G h e f ea eo =
    let id = get_or l i 0 in
    let A = write_asks l low step out₀ out at i L to G h e f in
    let g : to ≡ goal low step (level_of id) = f ∙ ap (goal low step) e in
    let w : 2 ^ (2 * (to - level_of id)) ≡ many low step id = ap (λ (x : ℕ). 2 ^ (2 * (x - level_of id))) g in
    let lb : length (below to id) ≡ 2 ^ (2 * (to - level_of id)) = length_below to id in
    let q : out' ≡ laid at (below (goal low step (level_of id)) id) out = eo ∙ ap (λ (x : ℕ). laid at (below x id) out) g in
    let ll : at + length (below (goal low step (level_of id)) id) ≡ at' = ap (λ (x : ℕ). at + x) (length_below (goal low step (level_of id)) id ∙ sym w) ∙ sym ea in
    let en : at + length (below (goal low step (level_of id)) id) ≤ length out = omega (arith, A.3) in
    record {
      asks = G.asks;
      within = omega arith;
      len = ap length q ∙ length_laid (below (goal low step (level_of id)) id) out at en ∙ G.len;
      enough = G.enough;
      sum = omega (arith, G.sum, ap (count_of low step) (next_of l i h), count_cons low step id (drop (i + 1) l));
      same = ap₂ (λ (x : ℕ) (s : List ℕ). laid x (denormalise low step (drop (i + 1) l)) s) (sym ll) q
          ∙ sym (laid_append (below (goal low step (level_of id)) id) (denormalise low step (drop (i + 1) l)) out at en)
          ∙ sym (ap (λ (s : List ℕ). laid at (denormalise low step s) out) (next_of l i h)) ∙ G.same;
    }

pub write_done : (l : List ℕ) (low step : ℕ) (out₀ out : List ℕ) (at i : ℕ) → Writing l low step out₀ out at i → length l ≤ i → (at ≡ count_of low step l) × (out ≡ laid 0 (denormalise low step l) out₀)
unfolding denormalise
write_done l low step out₀ out at i G h =
    let z = none_left l i h in
    (omega (arith, G.sum, ap (count_of low step) z, count_nil low step), sym (ap (λ (s : List ℕ). laid at (denormalise low step s) out) z ∙ laid_nil at out) ∙ G.same)

-- ---- count first, then write

pub denormalise_none : (low step : ℕ) (l out : List ℕ) (b : Bool) → b ≡ leb (count_of low step l) (length out) → b ≡ false
    → (None ≡ room_for (denormalise low step l) out) × (out ≡ laid_over (denormalise low step l) out)
denormalise_none low step l out b e t =
    let h : length out < count_of low step l = leb-false _ _ (sym e ∙ t) in
    let s = room_no (denormalise low step l) out (omega (arith, length_denormalise low step l)) in
    (sym s.0, sym s.1)

pub denormalise_done : (low step : ℕ) (l out out' : List ℕ) (w : ℕ) (b : Bool) → b ≡ leb (count_of low step l) (length out) → b ≡ true
    → (w ≡ count_of low step l) × (out' ≡ laid 0 (denormalise low step l) out) → (Some w ≡ room_for (denormalise low step l) out) × (out' ≡ laid_over (denormalise low step l) out)
denormalise_done low step l out out' w b e t d =
    let h : count_of low step l ≤ length out = leb-true _ _ (sym e ∙ t) in
    let n = length_denormalise low step l in
    let s = room_yes (denormalise low step l) out (omega (arith, n)) in
    (sym (s.0 ∙ ap Some (n ∙ sym d.0)), d.1 ∙ sym s.1)
