-- Document 02, Ticket 2: which list of tokens is a text's, said without scanning it.
use Rattle.std.specs.Prelude.{ℕ, ◌+◌, ◌≤◌, ◌<◌, ◌≡◌, List, [], ◌∷◌, ◌++◌, true, false, length, get_or, take, drop}
use Rattle.reader.specs.Tokens.{Tokens, no_tokens, token∷}
use Rattle.scanner.specs.Lexical.{token_of, kind_of}
use Rattle.scanner.specs.Scan.{number_at}

-- The pieces of a text, joined.
unfoldable pub joined : List (List ℕ) → List ℕ
joined [] = []
joined (piece ∷ more) = piece ++ joined more

-- The first n bytes of what is left of a text are a token there, and no longer prefix is one. A token is not empty.
pub record Longest (rest : List ℕ) (n : ℕ) : Type 0 where
  pub some : 0 < n
  pub token : token_of rest n ≡ true
  pub greatest : (m : ℕ) → n < m → m ≤ length rest → token_of rest m ≡ false

-- Each piece is the longest token where it stands.
unfoldable pub AllLongest : List (List ℕ) → Type 0
AllLongest [] = Unit {0}
AllLongest (piece ∷ more) = Longest (piece ++ joined more) (length piece) × AllLongest more

-- The tokens that pieces are, the first at an offset: the kind is that of the piece's text.
unfoldable pub tokens_of : ℕ → List (List ℕ) → Tokens
tokens_of at [] = no_tokens
tokens_of at (piece ∷ more) = token∷ (kind_of piece) at (length piece) (tokens_of (at + length piece) more)

-- The list of tokens of a text.
pub record ListOf (text : List ℕ) (ts : Tokens) : Type 0 where
  pub pieces : List (List ℕ)
  pub joins : joined pieces ≡ text
  pub longest : AllLongest pieces
  pub are : ts ≡ tokens_of 0 pieces

-- What 10, 11 and 12 say of a text: no prefix of what is left at the place is a token, the number is that of the byte there, and the
-- part before it has a list of tokens.
pub record Stops (text : List ℕ) (number place : ℕ) : Type 0 where
  pub before : Tokens
  pub list : ListOf (take place text) before
  pub within : place < length text
  pub none : (n : ℕ) → 0 < n → n ≤ length (drop place text) → token_of (drop place text) n ≡ false
  pub byte : number ≡ number_at (get_or text place 0)
