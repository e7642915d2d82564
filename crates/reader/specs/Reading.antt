-- Refusals 1 to 4 of a text and a record, in this order, or what they are read as.
use Rattle.std.specs.Prelude.{ℕ, List, Bool, true, false, ◌&&◌, length, leb, None, Some}
use Rattle.text.specs.Utf8.{first_broken, boundary}
use Rattle.reader.specs.Tokens.{Tokens, count_of, tiled, untiled, tokens}
use Rattle.reader.specs.Check.{ok, malformed, too_deep, tree_check}
use Rattle.reader.specs.declared.Refusal.{Refusal}
use Rattle.reader.specs.declared.Refusal.TheVariants.{TooLong, NotUtf8, Malformed, TooDeep}

abbrev pub max_text : ℕ
max_text = 32768

abbrev pub max_record : ℕ
max_record = 65536

-- A sheet that is refused, with 01's number and place; or its tokens and the offset in the record of the list of declarations.
pub data Read : Type 0 where
  refused : ℕ → ℕ → Read
  sheet : Tokens → ℕ → Read

module _ (rec : List ℕ) where
  -- 3 and 4: of both the earlier command's is told.
  unfoldable pub read_tree : Tokens → ℕ → Read
  read_tree ts at =
      elim (tree_check rec (count_of ts) at)
      [ ok end ↦ sheet ts at | malformed place ↦ refused 3 place | too_deep place ↦ refused 4 place ]

  -- Over the test for an offset of the text that is not inside a character, and the length of the text.
  unfoldable pub read_record : (ℕ → Bool) → ℕ → Read
  read_record boundary size = elim (tokens boundary size rec) [ tiled ts at ↦ read_tree ts at | untiled place ↦ refused 3 place ]

module _ (text : List ℕ) (rec : List ℕ) where
  unfoldable pub read_text : Read
  read_text = elim (first_broken text) [ None ↦ read_record rec (boundary text) (length text) | Some place ↦ refused 2 place ]

  unfoldable pub read : Read
  read = elim (leb (length text) max_text && leb (length rec) max_record) [ true ↦ read_text | false ↦ refused 1 0 ]

-- The number of the documents for each refusal.
abbrev pub number_of : Refusal → ℕ
number_of TooLong = 1
number_of (NotUtf8 at) = 2
number_of (Malformed at) = 3
number_of (TooDeep at) = 4

-- The place of each refusal.
abbrev pub place_of : Refusal → ℕ
place_of TooLong = 0
place_of (NotUtf8 at) = at
place_of (Malformed at) = at
place_of (TooDeep at) = at
