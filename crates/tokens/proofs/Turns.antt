-- The turns of the loops: looks over ids and over lines, and what both come to.
use mathlib.Core.Path.{◌≡◌, refl, sym, ap, ◌∙◌}
use mathlib.Core.Bool.{Bool, true, false}
use mathlib.Core.List.{List, [], ◌∷◌, ◌++◌}
use Rattle.std.proofs.Common.{Option, Some, None, IsSome, Result, Ok, Err}
use Prim.Native.Nat.{ℕ, suc, ◌+◌, ◌-◌, ◌^◌, ◌≤◌, ◌<◌, min}
use native.Mathlib.Nat.{zero-add}
use native.Mathlib.Numerals.{add-one}
use native.Mathlib.Omega.{arith}
use lib.Dec.{leb}
use lib.ListN.{length, get_or, drop, set, length-append, length-set}
use lib.Seq.{sets, sets-eq}
use borrow.Author.Tests.{leb-true, le-leb, lt-leb}
use Rattle.cellid.specs.CellId.{valid_id}
use Rattle.cellid.proofs.Puts.{next_of, none_left, Put, put_part, put_done}
use Rattle.tokens.specs.declared.Form.{Form}
use Rattle.refusal.specs.declared.Refusal.{Refusal}
use Rattle.tokens.specs.declared.Line.{Line}
use Rattle.tokens.specs.Tokens.{name_of, name_line, lines_of, unended, ids_from, ids_of, first_bad, result_of, write_result, read_result, length_of, output_after, Answered}
use Rattle.tokens.specs.Steps.{Names, FirstLine}
use Rattle.cellid.proofs.Laws.{no_true, valid_fits}

-- ---- one number more

pub bad_go : (k id : ℕ) (l r : List ℕ) → l ≡ id ∷ r → valid_id id ≡ true → first_bad k l ≡ first_bad (k + 1) r
unfolding first_bad
bad_go k id l r e h = ap (first_bad k) e ∙ rw (first_bad, h, add-one k)

pub bad_here : (k id : ℕ) (l r : List ℕ) → l ≡ id ∷ r → valid_id id ≡ false → first_bad k l ≡ Some (k + 1)
unfolding first_bad
bad_here k id l r e h = ap (first_bad k) e ∙ rw (first_bad, h, add-one k)

pub bad_end : (k : ℕ) (l : List ℕ) → l ≡ [] → first_bad k l ≡ None
unfolding first_bad
bad_end k l e = ap (first_bad k) e

-- where none is bad, the first is not
sound_by : (t : Bool) (k id : ℕ) (r : List ℕ) → valid_id id ≡ t → first_bad k (id ∷ r) ≡ None → valid_id id ≡ true
sound_by true k id r e h = e
sound_by false k id r e h = let b : Some (k + 1) ≡ None = sym (bad_here k id (id ∷ r) r refl e) ∙ h in cc

pub sound_first : (k id : ℕ) (l r : List ℕ) → l ≡ id ∷ r → first_bad k l ≡ None → valid_id id ≡ true
sound_first k id l r e h = sound_by (valid_id id) k id r refl (ap (first_bad k) (sym e) ∙ h)

-- the number that stands for a malformed line is no id
pub zero_bad : valid_id 0 ≡ false
zero_bad = no_true _ (λ e. let p = (valid_fits 0 e).0 in omega arith)

-- ---- answers

pub answer_bad : (l : List ℕ) (room : ℕ) (s : Option ℕ) (k : ℕ) → s ≡ Some k → Err (Refusal.Malformed k) ≡ length_of (result_of s l room)
unfolding length_of result_of
answer_bad l room s k e = rw e

pub answer_done : (l : List ℕ) (room : ℕ) (s : Option ℕ) (n : ℕ) → s ≡ None → n ≡ length l → n ≤ room → Ok n ≡ length_of (result_of s l room)
unfolding length_of result_of
answer_done l room s n e f h = rw (e, result_of, le-leb (length l) room (omega arith), f)

pub answer_full : (l : List ℕ) (room : ℕ) (s : Option ℕ) → s ≡ None → room < length l → Err Refusal.NamesTooLong ≡ length_of (result_of s l room)
unfolding length_of result_of
answer_full l room s e h = rw (e, result_of, lt-leb (length l) room h)

-- what an answer tells of what was seen
pub record Fits (s : Option ℕ) (l : List ℕ) (room n : ℕ) : Type 0 where
  pub all : s ≡ None
  pub count : n ≡ length l
  pub within : length l ≤ room

fits_by : (t : Bool) (l : List ℕ) (room n : ℕ) → leb (length l) room ≡ t → Ok n ≡ length_of (elim t [ true ↦ Ok l | false ↦ Err Refusal.NamesTooLong ]) → Fits None l room n
unfolding length_of
fits_by true l room n e h = record { all = refl; count = cc; within = leb-true _ _ e }
fits_by false l room n e h = cc

pub fits : (s : Option ℕ) (l : List ℕ) (room n : ℕ) → Ok n ≡ length_of (result_of s l room) → Fits s l room n
unfolding length_of result_of
fits None l room n h = fits_by (leb (length l) room) l room n refl h
fits (Some k) l room n h = cc

pub answered_done : (s : Option ℕ) (l d : List ℕ) (n r : ℕ) (d' : List ℕ) → Fits s l (length d) n → (r ≡ length l) × (d' ≡ sets d 0 l) → Answered (result_of s l (length d)) (Ok r) d d'
unfolding length_of result_of output_after
answered_done s l d n r d' F w =
    rw (F.all, result_of, le-leb (length l) (length d) F.within) (record { answer = ap Ok w.0; output = w.1 ∙ rw zero-add at (sets-eq l d 0 (omega (arith, F.within))) })

-- what is refused leaves the output
pub answered_bad : (R : Result (List ℕ) Refusal) (e : Refusal) (d : List ℕ) → Err e ≡ length_of R → Answered R (Err e) d d
unfolding length_of output_after
answered_bad (Err (Refusal.Malformed k)) e d h = record { answer = h; output = refl }
answered_bad (Err f) e d h = record { answer = h; output = refl }
answered_bad (Ok l) e d h = cc

-- ---- the lines of ids

pub line_length : (form : Form) (id : ℕ) → length (name_line form id) ≡ length (name_of form id) + 1
unfolding name_line
line_length form id = length-append (name_of form id) (10 ∷ [])

module _ (form : Form) (ids : List ℕ) where
  pub lines_go : (i : ℕ) → i < length ids → lines_of form (drop i ids) ≡ name_line form (get_or ids i 0) ++ lines_of form (drop (i + 1) ids)
  unfolding lines_of
  lines_go i h = rw (next_of ids i h)

  pub lines_end : (i : ℕ) → length ids ≤ i → lines_of form (drop i ids) ≡ []
  unfolding lines_of
  lines_end i h = rw (none_left ids i h)

  lines_length : (i : ℕ) → i < length ids → length (lines_of form (drop i ids)) ≡ length (name_line form (get_or ids i 0)) + length (lines_of form (drop (i + 1) ids))
  lines_length i h = ap length (lines_go i h) ∙ length-append (name_line form (get_or ids i 0)) (lines_of form (drop (i + 1) ids))

  -- what was seen, and what the lines seen and those to come need, as far as a number goes
  pub record Looking (size i : ℕ) : Type 0 where
    pub most : size < 2 ^ 64
    pub same : first_bad i (drop i ids) ≡ first_bad 0 ids
    pub sum : min (size + length (lines_of form (drop i ids))) (2 ^ 64 - 1) ≡ min (length (lines_of form ids)) (2 ^ 64 - 1)

  pub look_start : Looking 0 0
  look_start = record { most = omega arith; same = refl; sum = omega arith }

  module _ (size i : ℕ) (G : Looking size i) where
    pub look_turn : (n s : ℕ) → i < length ids → valid_id (get_or ids i 0) ≡ true → n ≡ length (name_of form (get_or ids i 0)) → s ≡ min (size + (n + 1)) (2 ^ 64 - 1) → Looking s (i + 1)
    look_turn n s h v e f =
        let t = lines_length i h in
        let u = line_length form (get_or ids i 0) in
        record { most = omega arith; same = sym (bad_go i _ (drop i ids) _ (next_of ids i h) v) ∙ G.same; sum = omega (arith, G.sum, G.most) }

    pub look_bad : (room : ℕ) → i < length ids → valid_id (get_or ids i 0) ≡ false → Err (Refusal.Malformed (i + 1)) ≡ length_of (write_result form ids room)
    unfolding write_result
    look_bad room h v = answer_bad (lines_of form ids) room _ (i + 1) (sym G.same ∙ bad_here i _ (drop i ids) _ (next_of ids i h) v)

    module _ (h : length ids ≤ i) where
      all_sound : first_bad 0 ids ≡ None
      all_sound = sym G.same ∙ bad_end i (drop i ids) (none_left ids i h)

      total : min size (2 ^ 64 - 1) ≡ min (length (lines_of form ids)) (2 ^ 64 - 1)
      total = let z : length (lines_of form (drop i ids)) ≡ 0 = ap length (lines_end i h) in omega (arith, G.sum)

      pub look_done : (room : ℕ) → room + 1 < 2 ^ 64 → size ≤ room → Ok size ≡ length_of (write_result form ids room)
      unfolding write_result
      look_done room m r = answer_done (lines_of form ids) room _ size all_sound (omega (arith, total)) r

      pub look_full : (room : ℕ) → room < size → Err Refusal.NamesTooLong ≡ length_of (write_result form ids room)
      unfolding write_result
      look_full room r = answer_full (lines_of form ids) room _ all_sound (omega (arith, total))

  -- one line more is put
  module _ (i at : ℕ) (d d₀ : List ℕ) (h : i < length ids) (P : Put at 0 (lines_of form (drop i ids)) (lines_of form ids) d d₀) where
    pub line_room : length d ≡ length d₀ → length (lines_of form ids) ≤ length d₀ → at + length (name_line form (get_or ids i 0)) ≤ length d
    line_room s r = omega (arith, P.count, lines_length i h)

    pub line_turn : (at' : ℕ) (d' : List ℕ) → at' ≡ at + length (name_line form (get_or ids i 0)) → d' ≡ sets d at (name_line form (get_or ids i 0)) → Put at' 0 (lines_of form (drop (i + 1) ids)) (lines_of form ids) d' d₀
    line_turn at' d' e w = put_part at 0 (name_line form (get_or ids i 0)) _ _ _ d d₀ at' d' P (lines_go i h) e w

-- ---- the ids of lines

module _ (form : Form) (text : List ℕ) where
  pub ids_end : (at : ℕ) → length text ≤ at → ids_of form (drop at text) ≡ []
  unfolding ids_from unended
  ids_end at h = rw (none_left text at h)

  -- what was seen, and how many lines are to come
  pub record Reading (k at : ℕ) : Type 0 where
    pub few : at ≤ length text
    pub short : k ≤ at
    pub same : first_bad k (ids_of form (drop at text)) ≡ first_bad 0 (ids_of form text)
    pub count : k + length (ids_of form (drop at text)) ≡ length (ids_of form text)

  pub read_start : Reading 0 0
  read_start = record { few = omega arith; short = omega arith; same = refl; count = omega arith }

  module _ (k at : ℕ) (G : Reading k at) where
    pub read_turn : (r : Line) → Names form text at r → valid_id r.id ≡ true → Reading (k + 1) r.next
    read_turn r F v =
        let n : length (ids_of form (drop at text)) ≡ suc (length (ids_of form (drop r.next text))) = ap length F.first in
        record {
          few = F.within;
          short = omega (arith, F.after, G.short);
          same = sym (bad_go k r.id _ _ F.first v) ∙ G.same;
          count = omega (arith, G.count);
        }

    pub read_bad : (room id : ℕ) (r : List ℕ) → ids_of form (drop at text) ≡ id ∷ r → valid_id id ≡ false → Err (Refusal.Malformed (k + 1)) ≡ length_of (read_result form text room)
    unfolding read_result
    read_bad room id r e v = answer_bad (ids_of form text) room _ (k + 1) (sym G.same ∙ bad_here k id _ r e v)

    module _ (h : length text ≤ at) where
      read_all : (first_bad 0 (ids_of form text) ≡ None) × (k ≡ length (ids_of form text))
      read_all = (sym G.same ∙ bad_end k _ (ids_end at h), omega (arith, G.count, ap length (ids_end at h)))

      pub read_done : (room : ℕ) → k ≤ room → Ok k ≡ length_of (read_result form text room)
      unfolding read_result
      read_done room r = answer_done (ids_of form text) room _ k read_all.0 read_all.1 r

      pub read_full : (room : ℕ) → room < k → Err Refusal.NamesTooLong ≡ length_of (read_result form text room)
      unfolding read_result
      read_full room r = answer_full (ids_of form text) room _ read_all.0 (omega (arith, read_all.1))

  -- sound lines are put one after another: their ids are to stand in d as in d₀ all would
  pub record Taking (k at : ℕ) (d d₀ : List ℕ) : Type 0 where
    pub few : at ≤ length text
    pub short : k ≤ at
    pub all : first_bad k (ids_of form (drop at text)) ≡ None
    pub put : Put k 0 (ids_of form (drop at text)) (ids_of form text) d d₀
    pub size : length d ≡ length d₀
    pub room : length (ids_of form text) ≤ length d₀

  pub take_start : (d : List ℕ) → first_bad 0 (ids_of form text) ≡ None → length (ids_of form text) ≤ length d → Taking 0 0 d d
  take_start d s r = record { few = omega arith; short = omega arith; all = s; put = record { count = refl; same = refl }; size = refl; room = r }

  module _ (k at : ℕ) (d d₀ : List ℕ) (G : Taking k at d d₀) where
    -- a line follows that is a name
    pub take_some : (o : Option Line) → FirstLine form text at o → IsSome o
    take_some None F = let p = (valid_fits 0 (sound_first k 0 _ _ F.first G.all)).0 in absurd (omega arith)
    take_some (Some r) F = refl

    module _ (r : Line) (F : Names form text at r) where
      take_sound : valid_id r.id ≡ true
      take_sound = sound_first k r.id _ _ F.first G.all

      pub take_room : k < length d
      take_room = omega (arith, G.put.count, ap length F.first, G.size, G.room)

      pub take_turn : Taking (k + 1) r.next (set d k r.id) d₀
      take_turn = record {
        few = F.within;
        short = omega (arith, F.after, G.short);
        all = sym (bad_go k r.id _ _ F.first take_sound) ∙ G.all;
        put = put_part k 0 (r.id ∷ []) (ids_of form (drop r.next text)) _ (ids_of form text) d d₀ (k + 1) (set d k r.id) G.put F.first refl refl;
        size = length-set d k r.id ∙ G.size;
        room = G.room;
      }

    pub take_done : length text ≤ at → (k ≡ length (ids_of form text)) × (d ≡ sets d₀ 0 (ids_of form text))
    take_done h =
        let p = put_done k 0 _ (ids_of form text) d d₀ G.put (ids_end at h) in
        (p.0 ∙ zero-add _, p.1)
