-- `replies::put_totals`: to write the rest from here is to write the whole.
use mathlib.Core.List.{List}
use Prim.Native.Nat.{ℕ}
use lib.ListN.{drop}
use Rattle.totals.specs.Totals.{six_of}
use Rattle.replies.specs.Write.{Wrote, numbers_text, totals_text}
use Rattle.replies.proofs.put_totals.Given as goal

abbrev pub invariant-loop-place : goal.invariant-loop-place
invariant-loop-place l = (r : ℕ) (d : List ℕ) → Wrote l.n (numbers_text (drop l.place (six_of l.t))) l.text r d → Wrote l.at (totals_text l.t) l.initial.text r d
