-- The answers of the calls for tests, as numbers.
use Rattle.std.specs.Prelude.{ℕ, ◌/◌, ◌%◌, ◌≡◌, List, [], ◌∷◌, length, map, take, Result, Ok, Err}
use Rattle.reader.specs.declared.Refusal.{Refusal}
use Rattle.reader.specs.declared.tokens.Span.{Span}
use Rattle.reader.specs.Tokens.{Tokens, count_of, max_tokens}
use Rattle.reader.specs.Promises.Tokens.{starts_of, lengths_of}
use Rattle.reader.specs.Check.{Checked, ok, malformed, too_deep}
use Rattle.reader.specs.Reading as Reading
use Rattle.reader.specs.Reading.{Read, refused, sheet, read}

-- A field's end, or a refusal's number and place.
abbrev pub end_numbers : Checked → List ℕ
end_numbers (ok at) = 0 ∷ at ∷ []
end_numbers (malformed place) = 3 ∷ place ∷ []
end_numbers (too_deep place) = 4 ∷ place ∷ []

-- The same of the code's answer.
abbrev pub ended : Result ℕ Refusal → List ℕ
ended (Ok at) = 0 ∷ at ∷ []
ended (Err why) = Reading.number_of why ∷ Reading.place_of why ∷ []

-- Number, place, how many tokens there are, where the list of declarations starts.
abbrev pub read_numbers : Read → List ℕ
read_numbers (refused number place) = number ∷ place ∷ 0 ∷ 0 ∷ []
read_numbers (sheet tokens tree) = 0 ∷ 0 ∷ count_of tokens ∷ tree ∷ []

-- A token's start and its length, by the number 65,536 × start + length.
abbrev pub start_of : ℕ → ℕ
start_of number = number / 65536

abbrev pub length_of : ℕ → ℕ
length_of number = number % 65536

-- The first entries of the tables of kinds and of such numbers.
abbrev pub first_of : ℕ → List ℕ → List ℕ → Tokens
first_of count kinds spans =
    record { kinds = take count kinds; starts = map start_of (take count spans); lengths = map length_of (take count spans) }

-- As many of them as there are tokens.
abbrev pub table_in : Tokens → List ℕ → List ℕ → Tokens
table_in ts kinds spans = first_of (count_of ts) kinds spans

-- The tokens of a sheet stand first in the tables.
abbrev pub Tabled : Read → List ℕ → List ℕ → Type 0
Tabled (refused number place) kinds spans = Unit {0}
Tabled (sheet tokens tree) kinds spans = table_in tokens kinds spans ≡ tokens

-- Contract: the first n numbers of a table are those of the first n spans.
pub record Packs (spans : List Span) (n : ℕ) (table : List ℕ) : Type 0 where
  pub long : length table ≡ max_tokens
  pub starts : map start_of (take n table) ≡ starts_of (take n spans)
  pub lengths : map length_of (take n table) ≡ lengths_of (take n spans)

-- Contract: refusals 1 to 4, or the tokens.
pub record ReadOut (text rec answer kinds spans : List ℕ) : Type 0 where
  pub numbers : answer ≡ read_numbers (read text rec)
  pub tables : Tabled (read text rec) kinds spans
