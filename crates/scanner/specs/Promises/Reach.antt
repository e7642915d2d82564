-- What contracts of functions below a token cite: the longest part at a text's start that a recognizer takes, and runs of bytes.
use Rattle.std.specs.Prelude.{ℕ, zero, suc, ◌+◌, ◌≡◌, List, [], ◌∷◌, Bool, true, false, ◌||◌, eqb, Option, None, Some}
use Rattle.text.specs.Bytes.{bytes, between, same_bytes, is_digit}
use Rattle.scanner.specs.Parts.{one_or_more, behind}
use Rattle.scanner.specs.Constants.{is_hex_digit, digits_then, is_fraction, is_exponent}

-- A length, some bytes more.
unfoldable pub longer : ℕ → Option ℕ → Option ℕ
longer k None = None
longer k (Some n) = Some (k + n)

-- The length of the longest part at the start that passes.
unfoldable pub reach : (List ℕ → Bool) → List ℕ → Option ℕ
reach passes [] = elim (passes []) [ true ↦ Some 0 | false ↦ None ]
reach passes (b ∷ t) =
    elim (reach (λ u. passes (b ∷ u)) t) [ Some n ↦ Some (suc n) | None ↦ elim (passes []) [ true ↦ Some 0 | false ↦ None ] ]

-- A length, 0 for none.
unfoldable pub taken : Option ℕ → ℕ
taken None = 0
taken (Some n) = n

-- A length, none for 0.
unfoldable pub positive : ℕ → Option ℕ
positive zero = None
positive (suc n) = Some (suc n)

-- How many bytes at the start pass the test.
unfoldable pub run : (ℕ → Bool) → List ℕ → ℕ
run test [] = 0
run test (b ∷ t) = elim (test b) [ true ↦ suc (run test t) | false ↦ 0 ]

-- The bytes that stand for themselves in a string constant: printable, no quote and no backslash.
unfoldable pub is_plain : ℕ → Bool
is_plain b = elim (eqb b 34 || eqb b 92) [ true ↦ false | false ↦ between 32 126 b ]

-- Each call at a byte answers as the test does.
abbrev pub Decides : (ℕ → Bool → Type 0) → (ℕ → Bool) → Type 0
Decides post test = (b : ℕ) (r : Bool) → post b r → r ≡ test b

-- A hexadecimal integer, and any integer or real constant, without a negation symbol.
unfoldable pub is_hexadecimal : List ℕ → Bool
is_hexadecimal t = behind (bytes "0x") (one_or_more is_hex_digit) t

unfoldable pub is_magnitude : List ℕ → Bool
is_magnitude t = one_or_more is_digit t || is_hexadecimal t || digits_then (λ r. is_fraction r || is_exponent r) t

-- The kind where the text is the word, else the other.
unfoldable pub kind_if : List ℕ → List ℕ → ℕ → ℕ → ℕ
kind_if t word kind other = elim (same_bytes t word) [ true ↦ kind | false ↦ other ]
