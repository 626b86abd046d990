-- Texts by computing: the paper's nine bytes and the empty list, both ways; and texts that break one rule each, with the number of the line.
use mathlib.Core.Path.{◌≡◌, refl}
use mathlib.Core.List.{List, [], ◌∷◌, ◌++◌, map}
use Prim.Native.Nat.{ℕ}
use lib.Count.{count_trailing_zeros}
use Rattle.std.proofs.Common.{Ok}
use Rattle.text.specs.Ascii.{ascii}
use Rattle.text.specs.Text.{digit_of, all_digits, value_from}
use Rattle.cellid.specs.CellId.{valid_id}
use Rattle.tokens.specs.declared.Form.{Form}
use Rattle.tokens.specs.Tokens.{hex_text, digit_before, trim, token_of, name_of, is_name, value_of, named, name_line, lines_of, unended, ids_from, first_bad, result_of, write_result, read_result, length_of, number_of, written_of, first_of}

-- "The list 0x04.., 0x0c.., 0x14.. is the nine bytes `04`, newline, `0c`, newline, `14`, newline"
abbrev three : List ℕ
three = 0x0400000000000000 ∷ 0x0c00000000000000 ∷ 0x1400000000000000 ∷ []

abbrev nine : List ℕ
nine = 48 ∷ 52 ∷ 10 ∷ 48 ∷ 99 ∷ 10 ∷ 49 ∷ 52 ∷ 10 ∷ []

pub nine_bytes : write_result Form.Token three 9 ≡ Ok nine
unfolding write_result result_of first_bad valid_id count_trailing_zeros lines_of name_line name_of token_of hex_text trim digit_before
nine_bytes = refl

pub and_back : read_result Form.Token nine 3 ≡ Ok three
unfolding read_result result_of first_bad valid_id count_trailing_zeros ids_from unended named is_name value_of digit_of value_from
and_back = refl

-- "an empty list is an empty text"
pub none_written : write_result Form.Token [] 0 ≡ Ok []
unfolding write_result result_of first_bad lines_of
none_written = refl

pub none_read : read_result Form.Token [] 0 ≡ Ok []
unfolding read_result result_of first_bad ids_from unended
none_read = refl

-- ---- rules broken: a text and the number of its first malformed line

abbrev ended : List ℕ → List ℕ → List ℕ
ended s r = s ++ (10 ∷ r)

abbrev cases : List (List ℕ × ℕ)
cases =
    (ascii "04", 1)  -- the last newline is missing
    ∷ (ended (ascii "04") (ascii "0c"), 2)
    ∷ (ended [] [], 1)  -- an empty line
    ∷ (ended (ascii "04") (ended [] (ended (ascii "14") [])), 2)
    ∷ (ended (ascii "04") (ended (ascii "0C") []), 2)  -- a capital
    ∷ (ended (ascii " 04") [], 1)  -- a blank
    ∷ (ended (ascii "04 ") [], 1)
    ∷ (48 ∷ 52 ∷ 13 ∷ 10 ∷ [], 1)  -- a carriage return
    ∷ (ended (ascii "040") [], 1)  -- the last digit is 0
    ∷ (ended (ascii "00000000000000001") [], 1)  -- seventeen digits
    ∷ (ended (ascii "04") (ended (ascii "g4") []), 2)  -- no digit
    ∷ (ended (ascii "04") (ended (ascii "2") []), 2)  -- no cell: its lowest bit stands at place 61
    ∷ (ended (ascii "d") [], 1)  -- no cell: face 6
    ∷ []

pub cases_refused : map (λ (c : List ℕ × ℕ). first_of (length_of (read_result Form.Token c.0 9))) cases ≡ map (λ (c : List ℕ × ℕ). c.1) cases
unfolding ascii read_result result_of first_bad valid_id count_trailing_zeros ids_from unended named is_name value_of digit_of value_from length_of
cases_refused = refl

-- ---- an answer's number, what was written, and the number of the first that is bad: done, no room, and an invalid id before no room

abbrev values : List ℕ → ℕ → List ℕ
values ids room = let a = length_of (write_result Form.Token ids room) in number_of a ∷ written_of a ∷ first_of a ∷ []

pub values_given : (values three 9 ≡ 0 ∷ 9 ∷ 0 ∷ []) × (values three 8 ≡ 12 ∷ 0 ∷ 0 ∷ []) × (values (0x0400000000000000 ∷ 0 ∷ []) 0 ≡ 11 ∷ 0 ∷ 2 ∷ [])
unfolding write_result result_of first_bad valid_id count_trailing_zeros lines_of name_line name_of token_of hex_text trim digit_before length_of
values_given = (refl, refl, refl)
