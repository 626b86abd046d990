-- `replies::put_ids`: to write the rest from here is to write the whole.
use mathlib.Core.List.{List}
use Prim.Native.Nat.{ℕ}
use lib.ListN.{drop}
use Rattle.replies.specs.Write.{Wrote, ids_text}
use Rattle.replies.proofs.put_ids.Given as goal

abbrev pub invariant-loop-id : goal.invariant-loop-id
invariant-loop-id l = (r : ℕ) (d : List ℕ) → Wrote l.n (ids_text l.form (drop l.id-index l.ids)) l.text r d → Wrote l.at (ids_text l.form l.ids) l.initial.text r d
