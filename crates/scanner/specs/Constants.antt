-- The Definition of Standard ML, 2.2: integer, word and real constants.
use Rattle.std.specs.Prelude.{ℕ, List, [], ◌∷◌, Bool, true, false, ◌||◌, eqb}
use Rattle.text.specs.Bytes.{bytes, between, is_digit}
use Rattle.scanner.specs.Parts.{is_empty, one_or_more, behind, is_one_of}

-- `0` to `9`, `a` to `f`, `A` to `F`.
unfoldable pub is_hex_digit : ℕ → Bool
is_hex_digit b = is_digit b || between 97 102 b || between 65 70 b

-- The text without the negation symbol `~`, where it starts with one.
unfoldable pub unsigned : List ℕ → List ℕ
unsigned [] = []
unsigned (b ∷ t) = elim (eqb b 126) [ true ↦ t | false ↦ b ∷ t ]

-- An optional `~`, then one or more decimal digits.
unfoldable pub is_decimal : List ℕ → Bool
is_decimal t = one_or_more is_digit (unsigned t)

-- In decimal notation; or an optional `~`, then `0x` and one or more hexadecimal digits.
unfoldable pub is_integer : List ℕ → Bool
is_integer t = is_decimal t || behind (bytes "0x") (one_or_more is_hex_digit) (unsigned t)

-- `0w` and one or more decimal digits, or `0wx` and one or more hexadecimal digits.
unfoldable pub is_word : List ℕ → Bool
is_word t = behind (bytes "0w") (one_or_more is_digit) t || behind (bytes "0wx") (one_or_more is_hex_digit) t

-- One or more decimal digits, and what stands behind them passes.
unfoldable pub digits_then : (List ℕ → Bool) → List ℕ → Bool
digits_then passes [] = false
digits_then passes (b ∷ t) = elim (is_digit b) [ true ↦ passes t || digits_then passes t | false ↦ false ]

-- `E` or `e`, then an integer in decimal notation.
unfoldable pub is_exponent : List ℕ → Bool
is_exponent [] = false
is_exponent (b ∷ t) = elim (is_one_of (bytes "Ee") b) [ true ↦ is_decimal t | false ↦ false ]

-- A point, then one or more decimal digits, then an exponent or nothing.
unfoldable pub is_fraction : List ℕ → Bool
is_fraction t = behind (bytes ".") (digits_then (λ r. is_empty r || is_exponent r)) t

-- An integer in decimal notation, then a point with digits, or an exponent, or both in this order.
unfoldable pub is_real : List ℕ → Bool
is_real t = digits_then (λ r. is_fraction r || is_exponent r) (unsigned t)
