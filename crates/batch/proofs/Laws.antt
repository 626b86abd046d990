-- Laws of `specs/Batch.antt`: the parts of a line that answers are its text, and a page with room for as many ids as the output has places holds it whole.
use mathlib.Core.Path.{◌≡◌}
use mathlib.Core.List.{List}
use Prim.Native.Nat.{ℕ, ◌+◌, ◌-◌, ◌*◌, ◌≤◌}
use native.Mathlib.Omega.{arith}
use native.Mathlib.Decide.{ℕ_discrete}
use mathlib.Core.Logic.{by_cases}
use lib.ListN.{length, take, drop, length-append, length-take, length-drop}
use borrow.Author.Tests.{eq-eqb, ne_eqb}
use Rattle.text.specs.Ascii.{ascii}
use Rattle.tokens.specs.declared.Form.{Form}
use Rattle.replies.specs.Write.{Wrote, Whole, refused_text}
use Rattle.replies.proofs.Lengths.{wrote_whole, decimal_length, refused_length, counted_length, totals_length}
use Rattle.totals.specs.declared.Totals.{Totals}
use Rattle.orders.specs.declared.Order.{Order}
use Rattle.batch.specs.Batch.{done_text, served_text, summary_text, too_many_text}

-- ---- the lines that answer a night

done_length : (form : Form) (begin steps : ℕ) (aside : Totals) (ids : List ℕ) → length (done_text form begin steps aside ids) ≤ 17 * length ids + 192
unfolding done_text ascii
done_length form begin steps aside ids = simp length-append (omega (arith, decimal_length begin, decimal_length steps, totals_length aside, counted_length form ids))

summary_length : (orders refused cells left : ℕ) → length (summary_text orders refused cells left) ≤ 88
unfolding summary_text ascii
summary_length orders refused cells left = simp length-append (omega (arith, decimal_length orders, decimal_length refused, decimal_length cells, decimal_length left))

too_many_length : length too_many_text ≤ 50
unfolding too_many_text ascii
too_many_length = omega arith

module _ (form : Form) (o : Order) (begin : ℕ) (out : List ℕ) where
  done_text_lem : o.number ≡ 0 → served_text form o begin out ≡ done_text form begin o.steps o.aside (take o.count (drop begin out))
  unfolding served_text
  done_text_lem h = rw (served_text, eq-eqb o.number 0 h)

  refused_text_lem : (o.number ≡ 0 → ⊥) → served_text form o begin out ≡ refused_text o.number
  unfolding served_text
  refused_text_lem h = rw (served_text, ne_eqb o.number 0 h)

  served_length : length (served_text form o begin out) ≤ 17 * length out + 256
  served_length = by_cases (ℕ_discrete o.number 0)
      (λ h. rw (done_text_lem h) (omega (arith, length-take o.count (drop begin out), length-drop begin out, done_length form begin o.steps o.aside (take o.count (drop begin out)))))
      (λ h. rw (refused_text_lem h) (omega (arith, refused_length o.number)))

  module _ (page : List ℕ) (r : ℕ) (page' : List ℕ) where
    -- a text of a success or of a refusal is the order's
    pub wrote_done : o.number ≡ 0 → Wrote 0 (done_text form begin o.steps o.aside (take (begin + o.count - begin) (drop begin out))) page r page' → Wrote 0 (served_text form o begin out) page r page'
    wrote_done h w = let e : begin + o.count - begin ≡ o.count = omega arith in rw (done_text_lem h) (rw e at w)

    pub wrote_refused : (o.number ≡ 0 → ⊥) → Wrote 0 (refused_text o.number) page r page' → Wrote 0 (served_text form o begin out) page r page'
    wrote_refused h w = rw (refused_text_lem h) w

    -- a page with room for as many ids as the output has places holds the line of an order whole
    pub served_whole : 17 * length out + 256 ≤ length page → Wrote 0 (served_text form o begin out) page r page' → Whole (served_text form o begin out) page r page'
    served_whole room w = wrote_whole (omega (arith, served_length)) w

-- and one of 128 bytes each of the other two
module _ (page : List ℕ) (r : ℕ) (page' : List ℕ) (room : 128 ≤ length page) where
  pub summary_whole : (orders refused cells left : ℕ) → Wrote 0 (summary_text orders refused cells left) page r page' → Whole (summary_text orders refused cells left) page r page'
  summary_whole orders refused cells left w = wrote_whole (omega (arith, summary_length orders refused cells left)) w

  pub too_many_whole : Wrote 0 too_many_text page r page' → Whole too_many_text page r page'
  too_many_whole w = wrote_whole (omega (arith, too_many_length)) w
