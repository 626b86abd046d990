-- The papers' refusals by their numbers. Quoted words are the papers'.
use Rattle.std.specs.Prelude.{ℕ, Result, Ok, Err}
use Rattle.refusal.specs.declared.Refusal.{Refusal}

abbrev pub number_of : Refusal → ℕ
number_of Refusal.MaxLevel = 1  -- "max_level over 30"
number_of Refusal.MinLevel = 2  -- "min_level over max_level"
number_of Refusal.LevelMod = 3  -- "level_mod not 1..3"
number_of Refusal.MaxCells = 4  -- "max_cells over 1,000"
number_of Refusal.Region = 5  -- "region outside the domain"
number_of Refusal.Memory = 6  -- "working memory under" the words of a run
number_of Refusal.QueueFull = 7  -- the queue would hold one more than it can
number_of Refusal.RawFull = 8  -- one more raw cell would be kept than there is room for
number_of Refusal.Allowance = 9  -- the allowance is used up and the queue isn't empty
number_of Refusal.ListTooLong = 10  -- "the finished list is longer than the output"
number_of (Refusal.Malformed k) = 11  -- of tokens: the first malformed line, or the first id that is no cell, by its number from 1
number_of Refusal.NamesTooLong = 12  -- of tokens: the list or the text is longer than its buffer
number_of Refusal.TooManyOrders = 13  -- more orders than a night may have
number_of Refusal.Edition = 14  -- "unknown edition"
number_of Refusal.FirstList = 15  -- of two lists: the first is no pick list
number_of Refusal.SecondList = 16  -- the second is none
number_of Refusal.SetTooLong = 17  -- their answer is longer than the output
number_of Refusal.NotRanges = 25  -- "input outside these rules"
number_of Refusal.RangesTooLong = 26  -- "answer longer than the output"

-- the number that is told of an answer: "0" for a success, else that of the refusal
abbrev pub number_told : {A : Type 0} → Result A Refusal → ℕ
number_told (Ok a) = 0
number_told (Err r) = number_of r
