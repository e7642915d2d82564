-- The tokens of a record: they come first and tile the text in order.
use Rattle.std.specs.Prelude.{ℕ, zero, suc, ◌+◌, List, [], ◌∷◌, Bool, true, false, ◌&&◌, length, get_or, take, drop, leb, eqb}
use Rattle.reader.specs.Commands.{u16, command}

-- The tokens by number: kinds, offsets in the text, lengths.
pub record Tokens : Type 0 where
  pub kinds : List ℕ
  pub starts : List ℕ
  pub lengths : List ℕ

-- How many there are.
abbrev pub count_of : Tokens → ℕ
count_of ts = length ts.starts

abbrev pub no_tokens : Tokens
no_tokens = record { kinds = []; starts = []; lengths = [] }

-- The tokens, with one more in front.
abbrev pub token∷ : ℕ → ℕ → ℕ → Tokens → Tokens
token∷ kind start len ts = record { kinds = kind ∷ ts.kinds; starts = start ∷ ts.starts; lengths = len ∷ ts.lengths }

-- The text of a token by number.
unfoldable pub text_of : List ℕ → Tokens → ℕ → List ℕ
text_of text ts k = take (get_or ts.lengths k 0) (drop (get_or ts.starts k 0) text)

-- Kinds are 0 to 20: other, block comment, the nineteen keywords of `comment_above`.
abbrev pub last_kind : ℕ
last_kind = 20

abbrev pub max_tokens : ℕ
max_tokens = 4096

-- The tokens and the offset in the record where they end; or the offset of the first command that is malformed.
pub data Tiling : Type 0 where
  tiled : Tokens → ℕ → Tiling
  untiled : ℕ → Tiling

-- Over the length of the text and the record.
module _ (size : ℕ) (rec : List ℕ) where
  -- After the last token: the text is tiled to its end, or the place is where the tokens end.
  unfoldable pub end_tokens : ℕ → ℕ → Tiling
  end_tokens start at = elim (eqb start size) [ true ↦ tiled no_tokens at | false ↦ untiled at ]

  unfoldable pub with_token : ℕ → ℕ → Tiling → Tiling
  with_token start at (tiled ts end) = tiled (token∷ (get_or rec (at + 1) 0) start (u16 rec (at + 2)) ts) end
  with_token start at (untiled place) = untiled place

-- Over the test for an offset of the text that is not inside a character, the length of the text and the record.
module _ (boundary : ℕ → Bool) (size : ℕ) (rec : List ℕ) where
  -- 0x05 kind(u8) length(u16) at the offset: a token that starts at the text's offset start.
  -- Its kind is known, its length at least 1, and it does not reach past the text's end. It does not end inside a character; so none starts
  -- inside one, the first starting at 0 and each other where the one before it ends.
  unfoldable pub is_token : ℕ → ℕ → Bool
  is_token start at =
      command rec 0x05 4 at
      && leb (get_or rec (at + 1) 0) last_kind
      && leb 1 (u16 rec (at + 2))
      && leb (start + u16 rec (at + 2)) size
      && boundary (start + u16 rec (at + 2))

  -- At most n more tokens, the next at the text's offset start; their commands from the record's offset at.
  unfoldable pub tokens_from : ℕ → ℕ → ℕ → Tiling
  tokens_from zero start at = elim (eqb (get_or rec at 0) 0x05) [ true ↦ untiled at | false ↦ end_tokens size rec start at ]
  tokens_from (suc n) start at =
      elim (eqb (get_or rec at 0) 0x05) [
        | true ↦ elim (is_token start at)
            [ true ↦ with_token size rec start at (tokens_from n (start + u16 rec (at + 2)) (at + 4)) | false ↦ untiled at ]
        | false ↦ end_tokens size rec start at
      ]

  unfoldable pub tokens : Tiling
  tokens = tokens_from max_tokens 0 0
