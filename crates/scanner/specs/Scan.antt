-- Document 02, Ticket 2: from a text to its tokens, and the call that writes them as commands of a record.
use Rattle.std.specs.Prelude.{ℕ, zero, suc, ◌/◌, ◌%◌, List, [], ◌∷◌, ◌++◌, true, false, length, take, leb, eqb, None, Some}
use Rattle.text.specs.Utf8.{first_broken}
use Rattle.text.specs.Output.{Plain, plain, Reply, declined, fitted_plain}
use Rattle.reader.specs.Tokens.{Tokens, no_tokens, token∷, max_tokens}
use Rattle.reader.specs.Reading.{max_text}
use Rattle.scanner.specs.Lexical.{longest, kind_of}

-- The tokens of a text; or the refusal's number and place.
pub data Scanned : Type 0 where
  refused : ℕ → ℕ → Scanned
  tokens : Tokens → Scanned

-- The number of a byte that begins no token: 10 a comment without an end, 11 a double quote that begins no string constant, 12 another.
unfoldable pub number_at : ℕ → ℕ
number_at b = elim (eqb b 40) [ true ↦ 10 | false ↦ elim (eqb b 34) [ true ↦ 11 | false ↦ 12 ] ]

-- One more token in front.
unfoldable pub before : ℕ → ℕ → ℕ → Scanned → Scanned
before kind start len (refused number place) = refused number place
before kind start len (tokens ts) = tokens (token∷ kind start len ts)

-- What is left of a text, from the offset `at` on. Its first `inside` bytes belong to the token before; behind them the longest token
-- is taken, with the kind of its text.
unfoldable pub scan_from : ℕ → ℕ → List ℕ → Scanned
scan_from inside at [] = tokens no_tokens
scan_from (suc inside) at (b ∷ rest) = scan_from inside (suc at) rest
scan_from zero at (b ∷ rest) =
    elim (longest (b ∷ rest)) [
      | zero ↦ refused (number_at b) at
      | suc n ↦ before (kind_of (take (suc n) (b ∷ rest))) at (suc n) (scan_from n (suc at) rest)
    ]

-- 10, 11 or 12, the first in the text; or its tokens.
unfoldable pub scan_text : List ℕ → Scanned
scan_text text = scan_from 0 0 text

-- 1 where there are more than 4,096 tokens, told only of a text that is not refused.
unfoldable pub limited : Scanned → Scanned
limited (refused number place) = refused number place
limited (tokens ts) = elim (leb (length ts.kinds) max_tokens) [ true ↦ tokens ts | false ↦ refused 1 0 ]

-- 1 and 2, then 10 to 12, then 1 for the tokens.
unfoldable pub read : List ℕ → Scanned
read text =
    elim (leb (length text) max_text) [
      | true ↦ elim (first_broken text) [ None ↦ limited (scan_text text) | Some place ↦ refused 2 place ]
      | false ↦ refused 1 0
    ]

-- 0x05 kind(u8) length(u16, little-endian): a token.
unfoldable pub command : ℕ → ℕ → List ℕ
command kind len = 0x05 ∷ kind ∷ len % 256 ∷ len / 256 ∷ []

-- The commands of tokens, of their kinds and lengths.
unfoldable pub commands : List ℕ → List ℕ → List ℕ
commands [] lengths = []
commands (kind ∷ kinds) [] = []
commands (kind ∷ kinds) (len ∷ lengths) = command kind len ++ commands kinds lengths

-- The call: the tokens' commands at the output's start, 8 told last.
unfoldable pub scan : List ℕ → List ℕ → Reply Plain
scan text out =
    elim (read text) [
      | refused number place ↦ declined (plain number place) out
      | tokens ts ↦ fitted_plain (commands ts.kinds ts.lengths) out
    ]
