-- The program: from the bytes of standard input to the bytes printed.
use Rattle.std.specs.Prelude.{ℕ, zero, suc, ◌+◌, ◌*◌, ◌/◌, ◌%◌, List, [], ◌∷◌, ◌++◌, true, false, length, take, drop, replicate, leb, ltb, eqb}
use Rattle.reader.specs.Commands.{u16}
use Rattle.layout.specs.Events.{formatted}
use Rattle.formatter.specs.Verdict.{Verdict, Judged, declined, accepted, judge, get, no_measures, verdict}

-- The decimal digits of a number that has at most this many.
unfoldable pub digits : ℕ → ℕ → List ℕ
digits zero n = []
digits (suc k) n = elim (ltb n 10) [ true ↦ (48 + n) ∷ [] | false ↦ digits k (n / 10) ++ (48 + n % 10) ∷ [] ]

unfoldable pub decimal : ℕ → List ℕ
decimal n = digits (suc n) n

-- Number, place, deepest, letters, units in decimal, one space between, then a line feed.
unfoldable pub line : Verdict → List ℕ
line v =
    decimal v.number
    ++ 32 ∷ decimal v.place
    ++ 32 ∷ decimal v.measures.deepest
    ++ 32 ∷ decimal v.measures.letters
    ++ 32 ∷ decimal v.measures.units
    ++ 10 ∷ []

-- The length of the output buffer.
abbrev pub room : ℕ
room = 65536

-- The formatted text of a sheet.
unfoldable pub text_of : ℕ → Judged → List ℕ
text_of tab (declined v) = []
text_of tab (accepted p es) = formatted p tab es

-- The line of formatting's verdict.
unfoldable pub line_of : ℕ → List ℕ → List ℕ → List ℕ
line_of tab text rec = line (get text rec tab (replicate room 0)).verdict

-- The line, then the formatted text if formatting accepts.
unfoldable pub printed : ℕ → List ℕ → List ℕ → List ℕ
printed tab text rec =
    line_of tab text rec
    ++ elim (eqb (get text rec tab (replicate room 0)).verdict.number 0) [ true ↦ text_of tab (judge text rec) | false ↦ [] ]

-- The first bytes of the input: tab size (u32, little-endian) and text length (u16).
abbrev pub head_length : ℕ
head_length = 6

unfoldable pub tab_size : List ℕ → ℕ
tab_size input = u16 input 0 + 65536 * u16 input 2

unfoldable pub text_length : List ℕ → ℕ
text_length input = u16 input 4

-- What follows the head: the text, then the record.
unfoldable pub format_input : ℕ → ℕ → List ℕ → List ℕ
format_input tab n rest = printed tab (take n rest) (drop n rest)

-- Input shorter than it says prints `1 0 0 0 0`; past the limits `get` gives number 1, which prints the same line.
unfoldable pub program : List ℕ → List ℕ
program input =
    elim (leb (head_length + text_length input) (length input))
    [ true ↦ format_input (tab_size input) (text_length input) (drop head_length input) | false ↦ line (verdict 1 0 no_measures) ]
