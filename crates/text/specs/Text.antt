-- Numbers and fields of a line, a list of bytes. What is read comes with the place after it, or else with what is wrong: the first fault from the left.
use Rattle.std.specs.Prelude.{◌≡◌, ℕ, zero, suc, ◌+◌, ◌-◌, ◌*◌, ◌^◌, ◌<◌, ◌≤◌, Bool, true, false, not, ◌&&◌, ◌||◌, List, [], ◌∷◌, ◌++◌, length, drop, replicate, ◌==◌, nat_eq, nat_le, nat_lt, if◌then◌else◌, slice_index, slice_range, Option, Some, None, ok_or, option_and_then, Result, Ok, Err, bytes_eq}
use Rattle.std.specs.Bool.{beq}
use Rattle.std.specs.List.{list_all, prefix_len, position_or_len}
use Rattle.std.specs.Option.{is_some}
use Rattle.std.specs.declared.ops.Range.{Range}
use Rattle.text.specs.declared.Base.{Base}
use Rattle.text.specs.declared.Fault.{Fault}
use Rattle.text.specs.declared.Read.{Read}

-- one step after another, until one finds a fault
abbrev pub and_then : {A B : Type 0} → Result A Fault → (A → Result B Fault) → Result B Fault
and_then (Ok x) f = f x
and_then (Err fault) f = Err fault

-- ---- numbers

-- `0` to `9` and `a` to `f`; 16 for any other byte
unfoldable pub digit_of : ℕ → ℕ
digit_of b = elim (nat_lt b 48) [
  | true ↦ 16
  | false ↦ elim (nat_le b 57) [
    | true ↦ b - 48
    | false ↦ elim (nat_lt b 97) [ true ↦ 16 | false ↦ elim (nat_le b 102) [ true ↦ b - 87 | false ↦ 16 ] ]
  ]
]

-- every byte is a digit of the base
abbrev pub all_digits : ℕ → List ℕ → Bool
all_digits base l = list_all (λ b. nat_lt (digit_of b) base) l

-- the number before, then one digit after another
unfoldable pub value_from : ℕ → ℕ → List ℕ → ℕ
value_from base n [] = n
value_from base n (b ∷ l) = value_from base (n * base + digit_of b) l

-- a number, if it is at most a limit
abbrev pub limited : ℕ → ℕ → Result ℕ Fault
limited limit n = if nat_lt limit n then Err Fault.TooLarge else Ok n

-- what a run of bytes spells in a base, with so many digits and at most a limit
unfoldable pub number_as : ℕ → ℕ → ℕ → ℕ → List ℕ → Result ℕ Fault
number_as base fewest most limit l =
    if nat_eq (length l) 0 || not (all_digits base l) then Err Fault.NotANumber
    else (if nat_lt (length l) fewest then Err Fault.TooFewDigits
    else (if nat_lt most (length l) then Err Fault.TooManyDigits else limited limit (value_from base 0 l)))

-- decimal, one to twenty digits; hexadecimal, sixteen
abbrev pub number_in : Base → ℕ → List ℕ → Result ℕ Fault
number_in Base.Ten limit l = number_as 10 1 20 limit l
number_in Base.Sixteen limit l = number_as 16 16 16 limit l

-- ---- fields

-- a space, a tab or a carriage return
abbrev pub is_blank : ℕ → Bool
is_blank b = b == 32 || (b == 9 || b == 13)

-- how many bytes stand first that are blanks, or that are none
abbrev pub leading : Bool → List ℕ → ℕ
leading blank l = prefix_len (λ b. beq (is_blank b) blank) l

-- how many bytes stand before the first that is a given one, or all of them
abbrev pub until : ℕ → List ℕ → ℕ
until b l = position_or_len (λ x. x == b) l

-- the place of the first byte from a place on that is no blank
unfoldable pub start_at : List ℕ → ℕ → ℕ
start_at l at = at + leading true (drop at l)

-- and that of the first blank from there on
unfoldable pub end_at : List ℕ → ℕ → ℕ
end_at l at = start_at l at + leading false (drop (start_at l at) l)

-- the first field from a place on, if the line has one more: it ends before the next blank
unfoldable pub field_at : List ℕ → ℕ → Option (Range ℕ)
field_at l at = if nat_lt (start_at l at) (end_at l at) then Some (record { start = start_at l at; end = end_at l at }) else None

-- the k-th field from a place on, counted from 0
unfoldable pub field_no : ℕ → List ℕ → ℕ → Option (Range ℕ)
field_no zero l at = field_at l at
field_no (suc k) l at = option_and_then (λ f. field_no k l f.end) (field_at l at)

-- a field's bytes: none where there is no field
abbrev pub bytes_of : List ℕ → Option (Range ℕ) → List ℕ
bytes_of l None = []
bytes_of l (Some f) = slice_range l f.start f.end

-- ---- words

-- what a word stands for: each of some choices for one of some words parted by blanks, in their order
unfoldable pub choice_of : {A : Type 0} → List A → List ℕ → ℕ → List ℕ → Option A
choice_of [] words at w = None
choice_of (x ∷ xs) words at w = option_and_then (λ f. if bytes_eq (slice_range words f.start f.end) w then Some x else choice_of xs words f.end w) (field_at words at)

-- ---- one part of a line after another

-- the bytes from a place on and before another, sixteen at most, are digits that spell a number, and none is a blank
pub record Spells (base : ℕ) (l : List ℕ) (from to n : ℕ) : Type 0 where
  pub order : from ≤ to
  pub within : to ≤ length l
  pub few : to ≤ from + 16
  pub size : n < 16 ^ (to - from)
  pub digits : all_digits base (slice_range l from to) ≡ true
  pub value : value_from base 0 (slice_range l from to) ≡ n
  pub parted : from + leading false (drop from l) ≡ to + leading false (drop to l)

-- and no digit follows them, unless they are sixteen
abbrev pub Stopped : ℕ → List ℕ → ℕ → ℕ → Type 0
Stopped base l from to = to < length l → to < from + 16 → base ≤ digit_of (slice_index l to)

-- what the next field is read as, by a way to read its bytes, and the place after it; a fault where there is none
abbrev pub field_as : {A : Type 0} → (List ℕ → Result A Fault) → List ℕ → ℕ → Result (Read A) Fault
field_as reading l at = and_then (ok_or (field_at l at) Fault.MissingField) (λ f. and_then (reading (slice_range l f.start f.end)) (λ v. Ok (record { value = v; after = f.end })))

-- the number that the next field is, at most a limit
unfoldable pub number_after : Base → ℕ → List ℕ → ℕ → Result (Read ℕ) Fault
number_after base limit l at = field_as (number_in base limit) l at

-- numbers, from a fault on 0, and the place after them, or else that fault
pub record Numbers : Type 0 where
  pub values : List ℕ
  pub after : Result ℕ Fault

-- as many numbers as are asked for, each at most what a u64 holds
unfoldable pub numbers_after : Base → ℕ → List ℕ → ℕ → Numbers
numbers_after base zero l at = record { values = []; after = Ok at }
numbers_after base (suc n) l at = elim (number_after base 0xffff_ffff_ffff_ffff l at) [
  | Err fault ↦ record { values = replicate (suc n) 0; after = Err fault }
  | Ok first ↦
      let rest = numbers_after base n l first.after in
      record { values = first.value ∷ rest.values; after = rest.after }
]

-- so many numbers, each at most what a u64 holds, and the place after them
unfoldable pub array_after : ℕ → Base → List ℕ → ℕ → Result (Read (List ℕ)) Fault
array_after n base l at = let r = numbers_after base n l at in and_then r.after (λ end. Ok (record { value = r.values; after = end }))

-- `COUNT ID...`, with at most so many ids; none where the count is at fault
unfoldable pub list_after : ℕ → List ℕ → ℕ → Numbers
list_after most l at = elim (number_after Base.Ten most l at) [
  | Err fault ↦ record { values = []; after = Err fault }
  | Ok count ↦ numbers_after Base.Sixteen count.value l count.after
]

-- the words that are lent, with a list in the first of them
unfoldable pub words_with : List ℕ → List ℕ → List ℕ
words_with l words = l ++ drop (length l) words

-- a list was read into the words that are lent: how many it has, and the place after it, or else a fault
pub record ReadList (n : Numbers) (r : Result (Read ℕ) Fault) (words words' : List ℕ) : Type 0 where
  pub read : r ≡ and_then n.after (λ at. Ok (record { value = length n.values; after = at }))
  pub lent : words' ≡ words_with n.values words

-- which of some choices the next field stands for; a fault where it is none of their words
unfoldable pub choice_after : {A : Type 0} → List ℕ → List A → Fault → List ℕ → ℕ → Result (Read A) Fault
choice_after words choices fault l at = field_as (λ w. ok_or (choice_of choices words 0 w) fault) l at

-- a fault, if a field stands after a place
abbrev pub end_after : List ℕ → ℕ → Result Unit Fault
end_after l at = if is_some (field_at l at) then Err Fault.ExtraField else Ok tt

-- ---- whole lines

-- ASCII, and not 0
abbrev pub is_plain : ℕ → Bool
is_plain b = nat_lt 0 b && nat_le b 127

abbrev pub all_plain : List ℕ → Bool
all_plain l = list_all is_plain l

-- a line that asks nothing: it has no field or begins with # (35), and all its bytes are plain
unfoldable pub is_silent : List ℕ → Bool
is_silent l = (not (is_some (field_at l 0)) || nat_eq (slice_index l 0) 35) && all_plain l

-- the line's beginning, if all its bytes are plain
abbrev pub start_of : List ℕ → Result ℕ Fault
start_of l = if all_plain l then Ok 0 else Err Fault.BadByte
