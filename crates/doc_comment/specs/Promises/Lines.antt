-- What the functions of the code say of a comment's lines.
use Rattle.std.specs.Prelude.{ℕ, zero, suc, ◌+◌, ◌-◌, ◌≤◌, ◌<◌, ◌≡◌, List, [], ◌∷◌, ◌++◌, length, get_or, drop, set, reverse}
use Rattle.text.specs.Bytes.{bytes}
use Rattle.doc_comment.specs.Doc.{lines_from, starred, joined, closed, doc_text}

-- A byte is not in the text.
abbrev pub Lacks : ℕ → List ℕ → Type 0
Lacks b s = (k : ℕ) → k < length s → get_or s k 0 ≡ b → ⊥

-- The first b of a text stands behind n bytes.
pub record IsFirst (b : ℕ) (s : List ℕ) (n : ℕ) : Type 0 where
  pub within : n < length s
  pub here : get_or s n 0 ≡ b
  pub before : (k : ℕ) → k < n → get_or s k 0 ≡ b → ⊥

-- The first line of a text, and the text behind it.
pub record Cuts (s first rest : List ℕ) : Type 0 where
  pub line : lines_from [] s ≡ first ∷ lines_from [] rest
  pub room : length first + length rest ≤ length s
  pub less : length rest < length s

-- A line is dropped.
abbrev pub Drops : List ℕ → Type 0
Drops line = (more : List (List ℕ)) → starred (line ∷ more) ≡ starred more

-- What stands of a line.
pub record Stands (line text : List ℕ) : Type 0 where
  pub row : (more : List (List ℕ)) → starred (line ∷ more) ≡ text ∷ starred more
  pub less : length text < length line

-- The lines that stand of a text.
unfoldable pub kept : List ℕ → List (List ℕ)
kept text = starred (lines_from [] text)

-- The first of them, and the text behind its line.
pub record FirstKept (comment first rest : List ℕ) : Type 0 where
  pub line : kept comment ≡ first ∷ kept rest
  pub room : length first + length rest < length comment

-- How many bytes lines take, each with a line feed behind it.
unfoldable pub size : List (List ℕ) → ℕ
size [] = 0
size (line ∷ more) = length line + 1 + size more

-- The last line is `)`, and the lines before it take m bytes.
pub record Closes (lines : List (List ℕ)) (m : ℕ) : Type 0 where
  pub between : List (List ℕ)
  pub last : lines ≡ between ++ (bytes ")" ∷ [])
  pub takes : size between ≡ m

-- The last line is not `)`.
abbrev pub IsOpen : List (List ℕ) → Type 0
IsOpen lines = (m : ℕ) → Closes lines m → ⊥

-- The lines between are in the output's first bytes, joined by line feeds.
pub record Joins (lines : List (List ℕ)) (m : ℕ) (out out' : List ℕ) : Type 0 where
  pub closes : Closes lines m
  pub written : out' ≡ joined closes.between ++ drop (m - 1) out

-- The doc text of a comment is that of these lines, of which those before the last take m bytes.
pub record Holds (comment lines : List ℕ) (m : ℕ) : Type 0 where
  pub closes : Closes (kept lines) m
  pub text : doc_text comment ≡ closed (reverse (kept lines))

-- The output with a line feed before an offset, where that is not the start.
unfoldable pub fed : List ℕ → ℕ → List ℕ
fed out zero = out
fed out (suc t) = set out t 10
