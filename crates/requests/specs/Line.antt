-- What a line of `cover` asks, `KIND MIN MAX MOD MAX_CELLS REGION [options]`, part by part: each comes with the place after it, or else with what is wrong.
use Rattle.std.specs.Prelude.{◌≡◌, ℕ, zero, suc, ◌+◌, List, [], ◌∷◌, ◌==◌, length, take, position, slice_index, slice_range, Float, Option, Some, None, unwrap_or, ok_or, Result, Ok, Err, if◌then◌else◌}
use Rattle.std.specs.Float.{binary64}
use Rattle.std.specs.Float.Ieee.{of_bits}
use Rattle.text.specs.Ascii.{ascii}
use Rattle.text.specs.declared.Base.{Base}
use Rattle.text.specs.declared.Fault.{Fault}
use Rattle.text.specs.declared.Read.{Read}
use Rattle.text.specs.Text.{and_then, field_at, choice_of, number_in, number_after, array_after, list_after, words_with, choice_after, end_after, start_of}
use Rattle.point.specs.declared.Point.{Point}
use Rattle.cell.specs.declared.Cap.{Cap}
use Rattle.region.specs.Region.{Area, cap_area, cell_area, list_area}
use Rattle.run.specs.declared.RegionCoverer.{RegionCoverer}
use Rattle.run.specs.Run.{memory_words}
use Rattle.run.specs.Editions.{with_edition}
use Rattle.covering.specs.declared.Ending.{Ending}
use Rattle.covering.specs.declared.Kind.{Kind}
use Rattle.queue.specs.declared.Engine.{Engine}
use Rattle.selftest.specs.declared.Engines.{Engines}
use Rattle.tokens.specs.declared.Form.{Form}
use Rattle.requests.specs.declared.line.Asked.{Asked}
use Rattle.requests.specs.declared.line.Key.{Key}
use Rattle.requests.specs.declared.line.Named.{Named}
use Rattle.requests.specs.declared.line.Options.{Options}
use Rattle.requests.specs.declared.line.Shape.{Shape}

-- ---- KIND: a list of the outer run, the same of the inner run, or the fast covering

abbrev pub kinds : List Kind
kinds =
    Kind.Outer Ending.Covering
    ∷ Kind.Outer Ending.CellUnion
    ∷ Kind.Outer Ending.Raw
    ∷ Kind.Inner Ending.Covering
    ∷ Kind.Inner Ending.CellUnion
    ∷ Kind.Inner Ending.Raw
    ∷ Kind.Fast
    ∷ []

unfoldable pub kind_after : List ℕ → ℕ → Result (Read Kind) Fault
kind_after l at = choice_after (ascii "covering cellunion raw interior icellunion iraw fast") kinds Fault.UnknownKind l at

-- ---- MIN MAX MOD MAX_CELLS, of edition 1: another is an option's to name

abbrev pub coverer_of : List ℕ → RegionCoverer
coverer_of n = record { min_level = slice_index n 0; max_level = slice_index n 1; level_mod = slice_index n 2; max_cells = slice_index n 3; edition = 1 }

unfoldable pub coverer_after : List ℕ → ℕ → Result (Read RegionCoverer) Fault
coverer_after l at = and_then (array_after 4 Base.Ten l at) (λ n. Ok (record { value = coverer_of n.value; after = n.after }))

-- ---- REGION: `cap X Y Z R`, `cell ID` or `list COUNT ID...`

-- "Floats are the 16 hex digits of their bits"
abbrev pub float : ℕ → Float
float b = of_bits binary64 b

abbrev pub point_of : ℕ → ℕ → ℕ → Point
point_of x y z = record { x = float x; y = float y; z = float z }

unfoldable pub cap_of : ℕ → ℕ → ℕ → ℕ → Cap
cap_of x y z r = record { center = point_of x y z; radius = float r }

unfoldable pub cap_after : List ℕ → ℕ → Result (Read Cap) Fault
cap_after l at = and_then (array_after 4 Base.Sixteen l at) (λ n. Ok (record { value = cap_of (slice_index n.value 0) (slice_index n.value 1) (slice_index n.value 2) (slice_index n.value 3); after = n.after }))

abbrev pub cell_after : List ℕ → ℕ → Result (Read ℕ) Fault
cell_after l at = number_after Base.Sixteen 0xffff_ffff_ffff_ffff l at

-- its first word
unfoldable pub named_after : List ℕ → ℕ → Result (Read Named) Fault
named_after l at = choice_after (ascii "cap cell list") (Named.Cap ∷ Named.Cell ∷ Named.List ∷ []) Fault.UnknownRegion l at

-- what follows that word; of a list at most so many ids
unfoldable pub area_named : ℕ → List ℕ → ℕ → Named → Result (Read Area) Fault
area_named most l at Named.Cap = and_then (cap_after l at) (λ c. Ok (record { value = cap_area c.value; after = c.after }))
area_named most l at Named.Cell = and_then (cell_after l at) (λ id. Ok (record { value = cell_area id.value; after = id.after }))
area_named most l at Named.List = let n = list_after most l at in and_then n.after (λ end. Ok (record { value = list_area n.values; after = end }))

unfoldable pub area_after : ℕ → List ℕ → ℕ → Result (Read Area) Fault
area_after most l at = and_then (named_after l at) (λ named. area_named most l named.after named.value)

-- the ids that a list has, from a fault on 0; none of any other region, and where a fault stands before them
unfoldable pub ids_named : ℕ → List ℕ → ℕ → Named → List ℕ
ids_named most l at Named.Cap = []
ids_named most l at Named.Cell = []
ids_named most l at Named.List = (list_after most l at).values

unfoldable pub ids_after : ℕ → List ℕ → ℕ → List ℕ
ids_after most l at = elim (named_after l at) [ Ok named ↦ ids_named most l named.after named.value | Err fault ↦ [] ]

-- ---- options: the allowance, the places of output, the words of working memory, whether ids are written as tokens, the edition, the engines that answer

-- an option that was not given before
abbrev pub once : {A : Type 0} → Option A → Result A Fault → Result (Option A) Fault
once (Some given) r = Err Fault.RepeatedOption
once None r = and_then r (λ x. Ok (Some x))

-- the engines that a word names
unfoldable pub engine_in : List ℕ → Result Engines Fault
engine_in w = ok_or (choice_of (Engines.One Engine.Quick ∷ Engines.One Engine.Plain ∷ Engines.Both ∷ []) (ascii "quick plain both") 0 w) Fault.UnknownEngine

-- one option more, with the bytes after its key: each has a most that it may be, but for the engines' word
unfoldable pub with_option : Key → List ℕ → Options → Result Options Fault
with_option Key.Allow w o = and_then (once o.allowance (number_in Base.Ten 4294967295 w)) (λ x. Ok (record o { allowance = x }))
with_option Key.Out w o = and_then (once o.out (number_in Base.Ten 65536 w)) (λ x. Ok (record o { out = x }))
with_option Key.Mem w o = and_then (once o.mem (number_in Base.Ten 8192 w)) (λ x. Ok (record o { mem = x }))
with_option Key.Tokens w o = and_then (once o.tokens (number_in Base.Ten 1 w)) (λ x. Ok (record o { tokens = x }))
with_option Key.Edition w o = and_then (once o.edition (number_in Base.Ten 4294967295 w)) (λ x. Ok (record o { edition = x }))
with_option Key.Engine w o = and_then (once o.engines (engine_in w)) (λ x. Ok (record o { engines = x }))

abbrev pub keys : List Key
keys = Key.Allow ∷ Key.Out ∷ Key.Mem ∷ Key.Tokens ∷ Key.Edition ∷ Key.Engine ∷ []

-- the option that a field is: a key, which ends before its first = (61), and a value
unfoldable pub option_of : List ℕ → Options → Result Options Fault
option_of w o =
    and_then (ok_or (position (λ b. b == 61) w) Fault.ExtraField) (λ sign.
    and_then (ok_or (choice_of keys (ascii "allow out mem tokens edition engine") 0 (take sign w)) Fault.ExtraField) (λ key.
    with_option key (slice_range w (sign + 1) (length w)) o))

-- so many fields at most
unfoldable pub options_from : ℕ → List ℕ → ℕ → Options → Result (Read Options) Fault
options_from zero l at o = Ok (record { value = o; after = at })
options_from (suc n) l at o = elim (field_at l at) [
  | None ↦ Ok (record { value = o; after = at })
  | Some f ↦ and_then (option_of (slice_range l f.start f.end) o) (options_from n l f.end)
]

abbrev pub no_options : Options
no_options = record { allowance = None; out = None; mem = None; tokens = None; edition = None; engines = None }

-- six options at most; a seventh field is a fault, and which it is is told by its own turn
unfoldable pub options_after : List ℕ → ℕ → Result (Read Options) Fault
options_after l at = options_from 7 l at no_options

-- how ids are written: tokens where 1 is given, else sixteen digits
abbrev pub form_of : ℕ → Form
form_of v = if v == 1 then Form.Token else Form.Digits

-- ---- what a line asks: one part after another

pub record Wish : Type 0 where
  pub kind : Kind
  pub coverer : RegionCoverer
  pub area : Area
  pub allowance : ℕ
  pub out : ℕ
  pub mem : ℕ
  pub form : Form
  pub engines : Engines

abbrev pub wish_with : Kind → RegionCoverer → Area → Options → Wish
wish_with kind c area o = record {
  kind = kind;
  coverer = with_edition c (unwrap_or o.edition 1);
  area = area;
  allowance = unwrap_or o.allowance 4294967295;
  out = unwrap_or o.out 65536;
  mem = unwrap_or o.mem memory_words;
  form = form_of (unwrap_or o.tokens 0);
  engines = unwrap_or o.engines (Engines.One Engine.Quick);
}

-- of a list at most so many ids
unfoldable pub wish_of : ℕ → List ℕ → Result Wish Fault
wish_of most l =
    and_then (start_of l) (λ start.
    and_then (kind_after l start) (λ kind.
    and_then (coverer_after l kind.after) (λ c.
    and_then (area_after most l c.after) (λ g.
    and_then (options_after l g.after) (λ o.
    and_then (end_after l o.after) (λ _. Ok (wish_with kind.value c.value g.value o.value)))))))

-- where its region begins, if nothing is wrong before
unfoldable pub region_at : List ℕ → Result ℕ Fault
region_at l = and_then (start_of l) (λ start. and_then (kind_after l start) (λ kind. and_then (coverer_after l kind.after) (λ c. Ok c.after)))

-- the ids of its list, from a fault on 0: these are read even where a fault stands behind them
unfoldable pub ids_of : ℕ → List ℕ → List ℕ
ids_of most l = elim (region_at l) [ Ok at ↦ ids_after most l at | Err fault ↦ [] ]

-- ---- as the functions have it: a region's shape, with the ids of a list in the first of the words that are lent

unfoldable pub shape_of : Area → Shape
shape_of (cap_area c) = Shape.Cap c
shape_of (cell_area own) = Shape.Cell own
shape_of (list_area ids) = Shape.List (length ids)

-- how many of the words a shape's ids are
abbrev pub held : Shape → ℕ
held (Shape.Cap c) = 0
held (Shape.Cell own) = 0
held (Shape.List n) = n

-- the area of a shape, with the words
abbrev pub area_in : Shape → List ℕ → Area
area_in (Shape.Cap c) words = cap_area c
area_in (Shape.Cell own) words = cell_area own
area_in (Shape.List n) words = list_area (take n words)

-- a region was read, the ids of its list into the words that are lent
pub record ReadShape (most : ℕ) (l : List ℕ) (at : ℕ) (r : Result (Read Shape) Fault) (words words' : List ℕ) : Type 0 where
  pub read : r ≡ and_then (area_after most l at) (λ a. Ok (record { value = shape_of a.value; after = a.after }))
  pub ids : words' ≡ words_with (ids_after most l at) words

-- what is asked, its ids aside
abbrev pub asked_of : Wish → Asked
asked_of w = record {
  kind = w.kind;
  coverer = w.coverer;
  shape = shape_of w.area;
  allowance = w.allowance;
  out = w.out;
  mem = w.mem;
  form = w.form;
  engines = w.engines;
}

-- a request was read, the ids of its list into the words that are lent
pub record ReadAsked (most : ℕ) (l : List ℕ) (r : Result Asked Fault) (words words' : List ℕ) : Type 0 where
  pub read : r ≡ and_then (wish_of most l) (λ w. Ok (asked_of w))
  pub ids : words' ≡ words_with (ids_of most l) words

-- what is asked of this area
abbrev pub asked_with : Asked → Area → Wish
asked_with q area = record {
  kind = q.kind;
  coverer = q.coverer;
  area = area;
  allowance = q.allowance;
  out = q.out;
  mem = q.mem;
  form = q.form;
  engines = q.engines;
}
