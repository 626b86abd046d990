-- What the program `night` hears in its input.
use Rattle.std.specs.Prelude.{Bool, true, false, ◌&&◌, Result, Ok, Err, List, ℕ}
use Rattle.text.specs.declared.Fault.{Fault}
use Rattle.text.specs.Text.{is_silent}
use Rattle.input.specs.declared.Found.{Found}
use Rattle.input.specs.Feed.{part_of}
use Rattle.orders.specs.declared.Order.{Order}
use Rattle.batch.specs.Batch.{is_head, head_of, order_of}
use Rattle.night.specs.declared.Heard.{Heard}

-- the input's end, where the night is served
abbrev pub is_end : Found → Bool
is_end (Found.Line s) = false
is_end Found.TooLong = false
is_end Found.End = true
is_end Found.Failed = false

abbrev pub head_heard : List ℕ → Result Heard Fault
head_heard line = elim (head_of line) [ Ok head ↦ Ok (Heard.Begin head) | Err fault ↦ Err fault ]

abbrev pub order_heard : List ℕ → Result Heard Fault
order_heard line = elim (order_of line) [ Ok order ↦ Ok (Heard.Take order) | Err fault ↦ Err fault ]

-- the line before the orders is the first that is not silent, or there is none
abbrev pub line_heard : List ℕ → Bool → Result Heard Fault
line_heard line first = elim (is_silent line) [
  | true ↦ Ok Heard.Silent
  | false ↦ elim (first && is_head line) [ true ↦ head_heard line | false ↦ order_heard line ]
]

abbrev pub heard_in : Found → Bool → List ℕ → Result Heard Fault
heard_in (Found.Line s) first buf = line_heard (part_of s buf) first
heard_in Found.TooLong first buf = Err Fault.LineTooLong
heard_in Found.End first buf = Ok Heard.Silent
heard_in Found.Failed first buf = Err Fault.ReadFailed
