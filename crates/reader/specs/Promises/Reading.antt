-- What the code's answer and tokens stand for.
use Rattle.std.specs.Prelude.{ℕ, ◌≤◌, ◌≡◌, List, length, Bool, ⊤, Result, Ok, Err}
use Rattle.text.specs.Utf8.{boundary}
use Rattle.reader.specs.declared.Refusal.{Refusal}
use Rattle.reader.specs.Tokens.{Tokens}
use Rattle.reader.specs.Reading.{Read, refused, sheet, max_text, max_record, read_record, read, number_of, place_of}

-- What an answer says with the tokens: a sheet, with the offset of the list of declarations; or refused, with number and place.
abbrev pub read_in : Result ℕ Refusal → Tokens → Read
read_in (Ok tree) ts = sheet ts tree
read_in (Err why) ts = refused (number_of why) (place_of why)

-- What an answer says of the lengths and the text: all is decided by the record; or refused, with number and place.
abbrev pub text_reads : List ℕ → List ℕ → Result ⊤ Refusal → Type 0
text_reads text rec (Ok done) =
    (length text ≤ max_text) × (length rec ≤ max_record) × (read text rec ≡ read_record rec (boundary text) (length text))
text_reads text rec (Err why) = read text rec ≡ refused (number_of why) (place_of why)

-- Contract: refusals 1 and 2.
pub record TextReads (text rec : List ℕ) (r : Result ⊤ Refusal) : Type 0 where
  pub is : text_reads text rec r

-- Contract: refusals 3 and 4.
pub record RecordReads (boundary : ℕ → Bool) (size : ℕ) (rec : List ℕ) (ts : Tokens) (r : Result ℕ Refusal) : Type 0 where
  pub is : read_in r ts ≡ read_record rec boundary size

-- Contract: refusals 1 to 4.
pub record Reads (text rec : List ℕ) (ts : Tokens) (r : Result ℕ Refusal) : Type 0 where
  pub is : read_in r ts ≡ read text rec
