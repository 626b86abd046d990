-- Laws of `specs/Filter.antt`: what was read is written, and what is said of it has room.
use mathlib.Core.Path.{◌≡◌, refl}
use mathlib.Core.Bool.{true, false}
use mathlib.Core.List.{List, ◌++◌}
use Rattle.std.proofs.Common.{Result, Ok, Err, is_ok}
use Prim.Native.Nat.{ℕ, ◌*◌, ◌≤◌, ◌<◌}
use native.Mathlib.Omega.{arith}
use lib.ListN.{length, take, length-append}
use Rattle.text.specs.Ascii.{ascii}
use Rattle.replies.specs.Write.{Wrote, Whole, newline}
use Rattle.replies.proofs.Lengths.{wrote_whole, decimal_length}
use Rattle.tokens.specs.declared.Form.{Form}
use Rattle.refusal.specs.declared.Refusal.{Refusal}
use Rattle.tokens.specs.Tokens.{lines_of, ids_of, write_result, read_result, length_of, output_after, Answered}
use Rattle.tokens.specs.Texts.{Readable, BadLine}
use Rattle.tokens.proofs.Laws.{readable, bad_line, lines_short}
use Rattle.tokens.proofs.Answers.{Due, is_11, is_12, is_0, read_when, write_when, written}
use Rattle.filter.specs.Filter.{onward, turned_result, Turned, malformed_text, over_text, refusal_text, reply_text, length_said, Replied}

-- ---- over the list

-- the list that was read is the one that is written
onward_done : (to : Form) (R : Result (List ℕ) Refusal) (n : ℕ) (ids ids' : List ℕ) (r : Result ℕ Refusal) (page page' : List ℕ) → Answered R (Ok n) ids ids' → Answered (write_result to (take n ids') (length page)) r page page'
    → Answered (onward to (length page) R) r page page'
unfolding onward
onward_done to R n ids ids' r page page' A = let W = written R n ids ids' A in rw (W.is, W.there) (λ B. B)

module _ (from to : Form) (text : List ℕ) (ids ids' page page' : List ℕ) where
  pub turned_done : (n : ℕ) (r : Result ℕ Refusal) → Answered (read_result from text (length ids)) (Ok n) ids ids' → Answered (write_result to (take n ids') (length page)) r page page' → Turned from to text r ids ids' page page'
  unfolding turned_result
  turned_done n r A W = let B = onward_done to _ n ids ids' r page page' A W in record { answer = B.answer; places = A.output; output = B.output }

module _ (from to : Form) (text : List ℕ) (ids ids' page : List ℕ) where
  kept : (R : Result (List ℕ) Refusal) (e : Refusal) → Err e ≡ length_of R → (Err e ≡ length_of (onward to (length page) R)) × (page ≡ output_after (onward to (length page) R) page)
  unfolding onward length_of output_after
  kept (Err f) e h = (h, refl)
  kept (Ok l) e h = let z : ◌≡◌ {A = ℕ} 0 1 = cc in absurd (omega arith)

  pub turned_kept : (e : Refusal) → Answered (read_result from text (length ids)) (Err e) ids ids' → Turned from to text (Err e) ids ids' page page
  unfolding turned_result
  turned_kept e A = let k = kept _ e A.answer in record { answer = k.0; places = A.output; output = k.1 }

-- ---- what a text comes to, where there are seventeen bytes for each place: then only lines can be too many

pub data Outcome (from to : Form) (text : List ℕ) (places : ℕ) : Result (List ℕ) Refusal → Type 0 where
  is_bad : (n : ℕ) → BadLine from text n → Outcome from to text places (Err (Refusal.Malformed n))
  is_over : Readable from text → places < length (ids_of from text) → Outcome from to text places (Err Refusal.NamesTooLong)
  is_turned : Readable from text → length (ids_of from text) ≤ places → Outcome from to text places (Ok (lines_of to (ids_of from text)))

onward_is : (from to : Form) (text : List ℕ) (places room : ℕ) (R : Result (List ℕ) Refusal) → 17 * places ≤ room → Due (ids_of from text) (ids_of from text) places R → Outcome from to text places (onward to room R)
unfolding onward
onward_is from to text places room _ h (is_11 n f) = is_bad n ((bad_line from text n).0 f)
onward_is from to text places room _ h (is_12 a g) = is_over ((readable from text).0 a) g
onward_is from to text places room _ h (is_0 a g) =
    let fits : length (lines_of to (ids_of from text)) ≤ room = omega (arith, lines_short to (ids_of from text)) in
    rw ((write_when to (ids_of from text) room (Ok (lines_of to (ids_of from text)))).1 (is_0 a fits)) (is_turned ((readable from text).0 a) g)

pub turned_is : (from to : Form) (text : List ℕ) (places room : ℕ) → 17 * places ≤ room → Outcome from to text places (turned_result from to text places room)
unfolding turned_result
turned_is from to text places room h = onward_is from to text places room (read_result from text places) h ((read_when from text places (read_result from text places)).0 refl)

-- ---- what is said

malformed_length : (k : ℕ) → length (malformed_text k) ≤ 64
unfolding malformed_text ascii
malformed_length k = simp length-append (omega (arith, decimal_length k))

pub over_length : (most : ℕ) (what : List ℕ) → length what ≤ 20 → length (over_text most what) ≤ 64
unfolding over_text ascii
over_length most what h = simp length-append (omega (arith, decimal_length most))

refusal_length : (places : ℕ) (e : Refusal) → length (refusal_text places e) ≤ 64
unfolding refusal_text ascii
refusal_length places (Refusal.Malformed k) = malformed_length k
refusal_length places _ = over_length places (ascii " lines" ++ newline) (omega arith)

module _ (from to : Form) (text : List ℕ) (ids ids' page page' : List ℕ) where
  replied_ok : (S : Result (List ℕ) Refusal) (n : ℕ) → Ok n ≡ length_of S → page' ≡ output_after S page → (true ≡ is_ok S) × Whole (reply_text (length ids) S) page n page'
  unfolding length_of output_after reply_text
  replied_ok (Ok l) n e o = (refl, record { count = cc; bytes = o })
  replied_ok (Err f) n e o = let z : ◌≡◌ {A = ℕ} 0 1 = cc in absurd (omega arith)

  pub replied_done : (n : ℕ) → Turned from to text (Ok n) ids ids' page page' → Replied from to text (Ok n) ids ids' page page'
  replied_done n T =
      let s = replied_ok _ n T.answer T.output in
      record { good = s.0; wrote = s.1; places = T.places }

  module _ (mid : List ℕ) (r : ℕ) (room : 64 ≤ length page) where
    replied_err : (S : Result (List ℕ) Refusal) (e : Refusal) → Err e ≡ length_of S → mid ≡ output_after S page → Wrote 0 (refusal_text (length ids) e) mid r page' → (false ≡ is_ok S) × Whole (reply_text (length ids) S) page r page'
    unfolding length_of output_after reply_text
    replied_err (Err f) e h o w =
        let g : e ≡ f = cc in
        (refl, wrote_whole (omega (arith, refusal_length (length ids) f)) (rw (g, o) at w))
    replied_err (Ok l) e h o w = let z : ◌≡◌ {A = ℕ} 0 1 = cc in absurd (omega arith)

    pub replied_bad : (e : Refusal) (n : ℕ) → n ≡ length ids → Turned from to text (Err e) ids ids' page mid → Wrote 0 (refusal_text n e) mid r page' → Replied from to text (Err r) ids ids' page page'
    replied_bad e n k T w =
        let s = replied_err _ e T.answer T.output (rw k at w) in
        record { good = s.0; wrote = s.1; places = T.places }

-- what there is to write stands in the page
pub reply_within : (from to : Form) (text : List ℕ) (r : Result ℕ ℕ) (ids ids' page page' : List ℕ) → Replied from to text r ids ids' page page' → length_said r ≤ length page'
reply_within from to text r ids ids' page page' A = rw (A.wrote.bytes, length-append _ _) (omega (arith, A.wrote.count))
