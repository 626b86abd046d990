-- Laws of `specs/Cover.antt`: what is written for each that is found, whole, and where it ends.
use mathlib.Core.Path.{◌≡◌}
use mathlib.Core.List.{List, [], ◌++◌, append-nil}
use Prim.Native.Nat.{ℕ, ◌+◌, ◌-◌, ◌*◌, ◌≤◌}
use native.Mathlib.Omega.{arith}
use lib.ListN.{length, take, drop, length-append, length-drop, drop_of_length-le}
use lib.Seq.{length-take-le, take_all, take_at, drop_at}
use Rattle.text.specs.declared.Fault.{Fault}
use Rattle.input.specs.declared.Span.{Span}
use Rattle.input.specs.Feed.{part_of}
use Rattle.input.specs.declared.Found.{Found}
use Rattle.replies.specs.Write.{Wrote, error_text, end_text}
use Rattle.replies.proofs.Lengths.{wrote_whole, within, error_length, end_length}
use Rattle.lines.specs.Lines.{Replied}
use Rattle.cover.specs.Cover.{text_for, lent_for, memory_for, output_for, Told, ToldAt}

module _ (f : Found) (number answered : ℕ) (buf words mem out page : List ℕ) (r : ℕ) (page' : List ℕ) where
  pub told_line : (words' mem' out' : List ℕ) (s : Span) → f ≡ Found.Line s → Replied number (part_of s buf) words words' mem mem' out out' page r page' → Told f number answered buf words words' mem mem' out out' page r page'
  unfolding text_for lent_for memory_for output_for
  told_line words' mem' out' s e R = record { wrote = rw e R.wrote; lent = rw e R.lent; memory = rw e R.memory; output = rw e R.output }

  module _ (room : 17 * length out + 256 ≤ length page) where
    pub told_long : f ≡ Found.TooLong → Wrote 0 (error_text number Fault.LineTooLong) page r page' → Told f number answered buf words words mem mem out out page r page'
    unfolding text_for lent_for memory_for output_for
    told_long e w = record { wrote = rw e (wrote_whole (omega (arith, error_length number Fault.LineTooLong)) w); lent = rw e; memory = rw e; output = rw e }

    pub told_failed : f ≡ Found.Failed → Wrote 0 (error_text number Fault.ReadFailed) page r page' → Told f number answered buf words words mem mem out out page r page'
    unfolding text_for lent_for memory_for output_for
    told_failed e w = record { wrote = rw e (wrote_whole (omega (arith, error_length number Fault.ReadFailed)) w); lent = rw e; memory = rw e; output = rw e }

    pub told_end : f ≡ Found.End → Wrote 0 (end_text answered) page r page' → Told f number answered buf words words mem mem out out page r page'
    unfolding text_for lent_for memory_for output_for
    told_end e w = record { wrote = rw e (wrote_whole (omega (arith, end_length answered)) w); lent = rw e; memory = rw e; output = rw e }

-- an answer in the part of a page behind its first bytes
module _ (f : Found) (number answered : ℕ) (buf words words' mem mem' out out' : List ℕ) (at : ℕ) (page : List ℕ) (r : ℕ) (part : List ℕ) where
  pub told_at : at ≤ length page → Told f number answered buf words words' mem mem' out out' (take (length page - at) (drop at page)) r part
      → ToldAt f number answered buf words words' mem mem' out out' at page (at + r) (take at page ++ (part ++ drop (length page - at) (drop at page)))
  told_at room T =
      let k : length (drop at page) ≤ length page - at = simp length-drop (omega arith) in
      let n : length (take at page) ≡ at = length-take-le at page room in
      let e : drop (length page - at) (drop at page) ≡ [] = drop_of_length-le (drop at page) k in
      let s : (at + r) - at ≡ r = omega arith in
      rw (e, append-nil part) (record {
        after = omega arith;
        within = rw (length-append (take at page) part, n) (omega (arith, within _ _ _ _ T.wrote));
        kept = take_at (take at page) part at n;
        told = rw (s, drop_at (take at page) part at n) (rw (take_all (length page - at) (drop at page) k) at T);
      })
