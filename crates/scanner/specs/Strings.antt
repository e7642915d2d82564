-- The Definition of Standard ML, 2.2: string and character constants. The alphabet has 256 characters; 32 to 126 are printable.
use Rattle.std.specs.Prelude.{ℕ, zero, suc, ◌+◌, ◌-◌, ◌*◌, List, [], ◌∷◌, Bool, true, false, leb, eqb, Option, None, Some}
use Rattle.text.specs.Bytes.{bytes, between, is_space, is_digit}
use Rattle.scanner.specs.Parts.{behind, is_one_of}
use Rattle.scanner.specs.Constants.{is_hex_digit}

-- Where in a string constant a byte stands.
pub data Place : Type 0 where
  between_characters : Place
  -- behind `\`
  escape : Place
  -- behind `\^`
  control : Place
  -- in `\ddd` or `\uxxxx`: the base, how many digits are to come, the value of those before
  number : ℕ → ℕ → ℕ → Place
  -- in the formatting characters of a gap
  gap : Place
  -- behind the closing quote
  closed : Place

-- What a byte does at its place.
pub data Step : Type 0 where
  wrong : Step
  to : Place → Step
  -- a character ends with it
  character : Step

-- A digit of base 10 or 16.
unfoldable pub is_digit_of : ℕ → ℕ → Bool
is_digit_of base b = elim (eqb base 10) [ true ↦ is_digit b | false ↦ is_hex_digit b ]

unfoldable pub value_of_digit : ℕ → ℕ
value_of_digit b = elim (leb b 57) [ true ↦ b - 48 | false ↦ elim (leb b 70) [ true ↦ b - 55 | false ↦ b - 87 ] ]

-- Behind a digit: how many digits are to come.
unfoldable pub number_ends : ℕ → ℕ → ℕ → Step
number_ends base zero value = character
number_ends base (suc left) value = to (number base (suc left) value)

-- A digit, with this many to come behind it. No value is over 255.
unfoldable pub digit : ℕ → ℕ → ℕ → ℕ → Step
digit base left value b =
    elim (is_digit_of base b) [
      | true ↦ elim (leb (value * base + value_of_digit b) 255) [ true ↦ number_ends base left (value * base + value_of_digit b) | false ↦ wrong ]
      | false ↦ wrong
    ]

-- Behind `\`: one of `a b t n v f r " \`, or `^` and a byte of 64 to 95, or three decimal digits, or `u` and four hexadecimal digits, or
-- one or more formatting characters and `\`, which denote nothing.
unfoldable pub escaped : ℕ → Step
escaped b =
    elim (is_one_of (bytes "abtnvfr\"\\") b) [
      | true ↦ character
      | false ↦ elim (eqb b 94) [
        | true ↦ to control
        | false ↦ elim (is_digit b) [
          | true ↦ digit 10 2 0 b
          | false ↦ elim (eqb b 117) [ true ↦ to (number 16 4 0) | false ↦ elim (is_space b) [ true ↦ to gap | false ↦ wrong ] ]
        ]
      ]
    ]

unfoldable pub next : Place → ℕ → Step
next between_characters b =
    elim (eqb b 34) [
      | true ↦ to closed
      | false ↦ elim (eqb b 92) [ true ↦ to escape | false ↦ elim (between 32 126 b) [ true ↦ character | false ↦ wrong ] ]
    ]
next escape b = escaped b
next control b = elim (between 64 95 b) [ true ↦ character | false ↦ wrong ]
next (number base left value) b = digit base (left - 1) value b
next gap b = elim (is_space b) [ true ↦ to gap | false ↦ elim (eqb b 92) [ true ↦ to between_characters | false ↦ wrong ] ]
next closed b = wrong

unfoldable pub is_closed : Place → Bool
is_closed between_characters = false
is_closed escape = false
is_closed control = false
is_closed (number base left value) = false
is_closed gap = false
is_closed closed = true

-- How many characters the text denotes from a place on; none where it ends elsewhere than behind the closing quote.
unfoldable pub characters : Place → List ℕ → Option ℕ
characters place [] = elim (is_closed place) [ true ↦ Some 0 | false ↦ None ]
characters place (b ∷ t) =
    elim (next place b) [
      | wrong ↦ None
      | to after ↦ characters after t
      | character ↦ elim (characters between_characters t) [ None ↦ None | Some n ↦ Some (suc n) ]
    ]

-- A quote, printable characters and escapes, a quote.
unfoldable pub is_string : List ℕ → Bool
is_string t = behind (bytes "\"") (λ r. elim (characters between_characters r) [ None ↦ false | Some n ↦ true ]) t

-- `#` and a string constant that denotes one character.
unfoldable pub is_character : List ℕ → Bool
is_character t = behind (bytes "#\"") (λ r. elim (characters between_characters r) [ None ↦ false | Some n ↦ eqb n 1 ]) t
