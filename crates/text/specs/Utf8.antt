-- Document 02, Ticket 5: "Text shall be well-formed UTF-8, as the Rust takes it." Characters, by The Unicode Standard, chapter 3.
use Rattle.std.specs.Prelude.{ℕ, zero, suc, ◌+◌, ◌/◌, ◌%◌, List, [], ◌∷◌, ◌++◌, Bool, true, false, not, ◌&&◌, ◌||◌, leb, length, drop, Option, None, Some}

-- A range, both ends included.
pub record Range : Type 0 where
  pub first : ℕ
  pub last : ℕ

infix 80 ◌‥◌
abbrev pub ◌‥◌ : ℕ → ℕ → Range
first ‥ last = record { first = first; last = last }

unfoldable pub is_in : Range → ℕ → Bool
is_in r n = leb r.first n && leb n r.last

-- D76: a Unicode scalar value is a code point that is no surrogate.
unfoldable pub is_scalar : ℕ → Bool
is_scalar c = is_in (0x0 ‥ 0xD7FF) c || is_in (0xE000 ‥ 0x10FFFF) c

-- D92 and table 3-6: the bytes of a scalar value, six bits in each byte behind the first.
unfoldable pub encode : ℕ → List ℕ
encode c =
    elim (leb c 0x7F) [
      | true ↦ c ∷ []
      | false ↦ elim (leb c 0x7FF) [
        | true ↦ (0xC0 + c / 64) ∷ (0x80 + c % 64) ∷ []
        | false ↦ elim (leb c 0xFFFF) [
          | true ↦ (0xE0 + c / 4096) ∷ (0x80 + c / 64 % 64) ∷ (0x80 + c % 64) ∷ []
          | false ↦ (0xF0 + c / 262144) ∷ (0x80 + c / 4096 % 64) ∷ (0x80 + c / 64 % 64) ∷ (0x80 + c % 64) ∷ []
        ]
      ]
    ]

-- The bytes of scalar values, joined.
unfoldable pub encoded : List ℕ → List ℕ
encoded [] = []
encoded (c ∷ cs) = encode c ++ encoded cs

-- The bytes behind the first of a character.
abbrev pub continuation : Range
continuation = 0x80 ‥ 0xBF

-- Table 3-7: the well-formed byte sequences, each row the ranges of its bytes.
unfoldable pub well_formed : List (List Range)
well_formed =
    (0x00 ‥ 0x7F ∷ [])
    ∷ (0xC2 ‥ 0xDF ∷ 0x80 ‥ 0xBF ∷ [])
    ∷ (0xE0 ‥ 0xE0 ∷ 0xA0 ‥ 0xBF ∷ 0x80 ‥ 0xBF ∷ [])
    ∷ (0xE1 ‥ 0xEC ∷ 0x80 ‥ 0xBF ∷ 0x80 ‥ 0xBF ∷ [])
    ∷ (0xED ‥ 0xED ∷ 0x80 ‥ 0x9F ∷ 0x80 ‥ 0xBF ∷ [])
    ∷ (0xEE ‥ 0xEF ∷ 0x80 ‥ 0xBF ∷ 0x80 ‥ 0xBF ∷ [])
    ∷ (0xF0 ‥ 0xF0 ∷ 0x90 ‥ 0xBF ∷ 0x80 ‥ 0xBF ∷ 0x80 ‥ 0xBF ∷ [])
    ∷ (0xF1 ‥ 0xF3 ∷ 0x80 ‥ 0xBF ∷ 0x80 ‥ 0xBF ∷ 0x80 ‥ 0xBF ∷ [])
    ∷ (0xF4 ‥ 0xF4 ∷ 0x80 ‥ 0x8F ∷ 0x80 ‥ 0xBF ∷ 0x80 ‥ 0xBF ∷ [])
    ∷ []

-- The text starts with bytes in these ranges.
unfoldable pub fits : List Range → List ℕ → Bool
fits [] t = true
fits (r ∷ rs) [] = false
fits (r ∷ rs) (b ∷ t) = is_in r b && fits rs t

-- The length of the first of these rows that the text starts with, else 0.
unfoldable pub width_in : List (List Range) → List ℕ → ℕ
width_in [] t = 0
width_in (row ∷ rows) t = elim (fits row t) [ true ↦ length row | false ↦ width_in rows t ]

-- How many bytes the character has that a text starts with; 0 where it starts with none.
unfoldable pub char_at : List ℕ → ℕ
char_at t = width_in well_formed t

-- What is left of a text, from the offset `at` on. Its first `inside` bytes belong to the character before.
unfoldable pub broken_from : ℕ → ℕ → List ℕ → Option ℕ
broken_from inside at [] = None
broken_from (suc inside) at (b ∷ t) = broken_from inside (suc at) t
broken_from zero at (b ∷ t) = elim (char_at (b ∷ t)) [ zero ↦ Some at | suc n ↦ broken_from n (suc at) t ]

-- Number 2: the offset of "the first byte of the broken character", `valid_up_to` of the Rust; none where the text is well-formed.
unfoldable pub first_broken : List ℕ → Option ℕ
first_broken text = broken_from 0 0 text

-- The text starts with a byte that is not the first of a character.
unfoldable pub is_inside : List ℕ → Bool
is_inside [] = false
is_inside (b ∷ t) = is_in continuation b

-- An offset of a text that is not inside a character, `is_char_boundary` of the Rust.
unfoldable pub boundary : List ℕ → ℕ → Bool
boundary text i = not (is_inside (drop i text))
