-- The lines of a night: an order, `KIND MIN MAX MOD MAX_CELLS REGION [allow=N] [edition=N]`; the line before the orders, `night [out=N] [mem=N] [tokens=N]`; and the lines that
-- answer a night.
use Rattle.std.specs.Prelude.{Bool, true, false, List, [], ◌∷◌, ◌++◌, ℕ, eqb, take, drop, Option, Some, None, unwrap_or, Result, Ok, Err}
use Rattle.std.specs.Result.{is_ok}
use Rattle.text.specs.Ascii.{ascii}
use Rattle.text.specs.declared.Fault.{Fault}
use Rattle.text.specs.declared.Read.{Read}
use Rattle.text.specs.Text.{and_then, choice_after, end_after, start_of}
use Rattle.tokens.specs.declared.Form.{Form}
use Rattle.replies.specs.Write.{space, newline, decimal_text, counted_text, totals_text, refused_text}
use Rattle.totals.specs.declared.Totals.{Totals}
use Rattle.totals.specs.Totals.{no_totals}
use Rattle.cell.specs.declared.Cap.{Cap}
use Rattle.run.specs.declared.RegionCoverer.{RegionCoverer}
use Rattle.run.specs.Run.{memory_words}
use Rattle.run.specs.Editions.{with_edition}
use Rattle.requests.specs.Line.{coverer_after, cap_of, cap_after, cell_after, form_of, options_after}
use Rattle.requests.specs.Requests.{allowance_of}
use Rattle.orders.specs.declared.Order.{Order}
use Rattle.batch.specs.declared.About.{About}
use Rattle.batch.specs.declared.Flags.{Flags}
use Rattle.batch.specs.declared.Head.{Head}
use Rattle.batch.specs.declared.Named.{Named}
use Rattle.batch.specs.declared.Terms.{Terms}

-- ---- KIND: the outer covering, the inner one or the quick one

abbrev pub kinds : List Flags
kinds = record { fast = false; inner = false } ∷ record { fast = false; inner = true } ∷ record { fast = true; inner = false } ∷ []

unfoldable pub flags_after : List ℕ → ℕ → Result (Read Flags) Fault
flags_after l at = choice_after (ascii "covering interior fast") kinds Fault.UnknownKind l at

-- ---- REGION: `cap X Y Z R` or `cell ID`

unfoldable pub about_named : List ℕ → ℕ → Named → Result (Read About) Fault
about_named l at Named.Cap = and_then (cap_after l at) (λ c. Ok (record { value = About.Cap c.value; after = c.after }))
about_named l at Named.Cell = and_then (cell_after l at) (λ id. Ok (record { value = About.Cell id.value; after = id.after }))

unfoldable pub about_after : List ℕ → ℕ → Result (Read About) Fault
about_after l at = and_then (choice_after (ascii "cap cell") (Named.Cap ∷ Named.Cell ∷ []) Fault.UnknownRegion l at) (λ named. about_named l named.after named.value)

-- whether it is a cell, its id, and the cap; the other's numbers are 0
unfoldable pub about_parts : About → Bool × ℕ × Cap
about_parts (About.Cap c) = (false, 0, c)
about_parts (About.Cell id) = (true, id, cap_of 0 0 0 0)

-- ---- options: those of `requests`, of which a line here has some

-- a fault, if an option was given that the line may not have
abbrev pub lacking : {A : Type 0} → Option A → Result Unit Fault
lacking (Some x) = Err Fault.ExtraField
lacking None = Ok tt

-- the steps that are allowed, and the edition, to the line's end: an order has allow= and edition= alone
unfoldable pub terms_after : List ℕ → ℕ → Result Terms Fault
terms_after l at =
    and_then (options_after l at) (λ o.
    and_then (lacking o.value.out) (λ _.
    and_then (lacking o.value.mem) (λ _.
    and_then (lacking o.value.tokens) (λ _.
    and_then (lacking o.value.engines) (λ _.
    and_then (end_after l o.after) (λ _. Ok (record { allowance = unwrap_or o.value.allowance 4294967295; edition = unwrap_or o.value.edition 1 })))))))

-- ---- an order: one part after another, as a record that was not served yet

-- the record of an order, by its parts
abbrev pub order_with : Flags → RegionCoverer → About → Terms → Order
order_with flags c g a = record {
  number = 0;
  count = 0;
  steps = 0;
  aside = no_totals;
  fast = flags.fast;
  inner = flags.inner;
  cell = (about_parts g).0;
  id = (about_parts g).1;
  cap = (about_parts g).2;
  coverer = with_edition c a.edition;
  allowance = allowance_of a.allowance;
}

unfoldable pub order_of : List ℕ → Result Order Fault
order_of l =
    and_then (start_of l) (λ start.
    and_then (flags_after l start) (λ flags.
    and_then (coverer_after l flags.after) (λ c.
    and_then (about_after l c.after) (λ g.
    and_then (terms_after l g.after) (λ a. Ok (order_with flags.value c.value g.value a))))))

-- ---- the line before the orders

-- the word that it begins with
unfoldable pub word_after : List ℕ → ℕ → Result (Read Unit) Fault
word_after l at = choice_after (ascii "night") (tt ∷ []) Fault.UnknownKind l at

-- the line's first field is that word
unfoldable pub is_head : List ℕ → Bool
is_head l = is_ok (word_after l 0)

-- the places of output, the words of working memory, how ids are written; it has every option but allow=, edition= and engine=
unfoldable pub head_of : List ℕ → Result Head Fault
head_of l =
    and_then (start_of l) (λ start.
    and_then (word_after l start) (λ word.
    and_then (options_after l word.after) (λ o.
    and_then (lacking o.value.allowance) (λ _.
    and_then (lacking o.value.edition) (λ _.
    and_then (lacking o.value.engines) (λ _.
    and_then (end_after l o.after) (λ _. Ok (record { out = unwrap_or o.value.out 65536; mem = unwrap_or o.value.mem memory_words; form = form_of (unwrap_or o.value.tokens 0) }))))))))

-- ---- the lines that answer a night

-- ok BEGIN STEPS ASIDE0 .. ASIDE5 COUNT ID...
unfoldable pub done_text : Form → ℕ → ℕ → Totals → List ℕ → List ℕ
done_text form begin steps aside ids =
    ascii "ok " ++ (decimal_text begin ++ (space ++ (decimal_text steps ++ (totals_text aside ++ (space ++ counted_text form ids)))))

-- of an order that was served, its ids in the output from a place on: as above where its number is 0, else refused NUMBER
unfoldable pub served_text : Form → Order → ℕ → List ℕ → List ℕ
served_text form o begin out = elim (eqb o.number 0) [
  | true ↦ done_text form begin o.steps o.aside (take o.count (drop begin out))
  | false ↦ refused_text o.number
]

-- end ORDERS REFUSED CELLS LEFT
unfoldable pub summary_text : ℕ → ℕ → ℕ → ℕ → List ℕ
summary_text orders refused cells left =
    ascii "end " ++ (decimal_text orders ++ (space ++ (decimal_text refused ++ (space ++ (decimal_text cells ++ (space ++ (decimal_text left ++ newline)))))))

-- the one line that answers a night of more than 256 orders
unfoldable pub too_many_text : List ℕ
too_many_text = ascii "refused 13: more than 256 orders, nothing was run" ++ newline
