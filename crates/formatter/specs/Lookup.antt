-- The lookups: 1 to 4, then 9, then 8; number, place, answer and final output for every input.
use Rattle.std.specs.Prelude.{ℕ, List, true, false, length, ltb, Option, None, Some, Result, Ok, Err}
use Rattle.reader.specs.Tokens.{Tokens}
use Rattle.reader.specs.Reading.{refused, sheet, read}
use Rattle.reader.specs.Reading as Reading
use Rattle.comments.specs.Above as Above
use Rattle.comments.specs.Above.{found_above}
use Rattle.formatter.specs.declared.LookupError.{LookupError}
use Rattle.formatter.specs.declared.LookupError.TheVariants.{Refused, NoToken}

-- What a lookup gives: number, place, the comment's token number or the length of the doc text; and the token number of the keyword that
-- `comment_above` passed, none where it passed none, found no comment or is declined, and for a doc text.
pub record Looked : Type 0 where
  pub number : ℕ
  pub place : ℕ
  pub answer : Option ℕ
  pub keyword : Option ℕ

-- An answer without a keyword.
abbrev pub looked : ℕ → ℕ → Option ℕ → Looked
looked number place a = record { number = number; place = place; answer = a; keyword = None }

-- The tokens of a sheet that passes 1 to 4 and has a token of this number; or the refusal.
pub data Asked : Type 0 where
  declined : Looked → Asked
  asked : Tokens → Asked

unfoldable pub ask : List ℕ → List ℕ → ℕ → Asked
ask text rec token =
    elim (read text rec) [
      | refused number place ↦ declined (looked number place None)
      | sheet tokens tree ↦ elim (ltb token (length tokens.kinds)) [ true ↦ asked tokens | false ↦ declined (looked 9 0 None) ]
    ]

-- What the search found.
unfoldable pub told : Option Above.Found → Looked
told None = looked 0 0 None
told (Some f) = record { number = 0; place = 0; answer = Some f.comment; keyword = f.keyword }

-- `comment_above` of a token.
unfoldable pub lookup : List ℕ → List ℕ → ℕ → Looked
lookup text rec token =
    elim (ask text rec token) [ declined l ↦ l | asked tokens ↦ told (found_above tokens.kinds token) ]

-- The number of the documents for each error.
abbrev pub number_of : LookupError → ℕ
number_of (Refused why) = Reading.number_of why
number_of NoToken = 9

-- The place of each error.
abbrev pub place_of : LookupError → ℕ
place_of (Refused why) = Reading.place_of why
place_of NoToken = 0

-- What an answer of `comment_above` stands for.
abbrev pub looked_of : Result (Option Above.Found) LookupError → Looked
looked_of (Ok found) = told found
looked_of (Err why) = looked (number_of why) (place_of why) None
