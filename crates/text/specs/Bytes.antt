-- Document 01, module 1: bytes. A run of bytes is a list of numbers below 256.
use Rattle.std.specs.Prelude.{ℕ, zero, suc, List, [], ◌∷◌, map, reverse, Bool, true, false, ◌&&◌, ◌||◌, leb, eqb, length}
use Prim.Native.Char.{code}
use Prim.Native.String.{String}
use Rattle.text.specs.Utf8.{encode}

-- The bytes of a quoted text.
unfoldable pub bytes : String → List ℕ
bytes String.[] = []
bytes (String.◌∷◌ c s) = code c ∷ bytes s

-- lo ≤ b ≤ hi.
unfoldable pub between : ℕ → ℕ → ℕ → Bool
between lo hi b = leb lo b && leb b hi

-- White space in ASCII: bytes 9 to 13 and 32.
unfoldable pub is_space : ℕ → Bool
is_space b = between 9 13 b || eqb b 32

-- ASCII letters: `A` to `Z`, `a` to `z`.
unfoldable pub is_letter : ℕ → Bool
is_letter b = between 65 90 b || between 97 122 b

-- ASCII digits: `0` to `9`.
unfoldable pub is_digit : ℕ → Bool
is_digit b = between 48 57 b

-- Document 02, Ticket 3: an entry of the table says of a byte that it is a letter, `a`, a digit, `9`, or neither, `-`.
abbrev pub letter_entry : ℕ
letter_entry = 97

abbrev pub digit_entry : ℕ
digit_entry = 57

abbrev pub other_entry : ℕ
other_entry = 45

unfoldable pub class_of : ℕ → ℕ
class_of b =
    elim (is_letter b) [ true ↦ letter_entry | false ↦ elim (is_digit b) [ true ↦ digit_entry | false ↦ other_entry ] ]

-- The classes of the n bytes from b on.
unfoldable pub classes_from : ℕ → ℕ → List ℕ
classes_from b zero = []
classes_from b (suc n) = class_of b ∷ classes_from (suc b) n

-- The table: the class of each byte.
unfoldable pub class_table : List ℕ
class_table = classes_from 0 256

-- Document 02, Ticket 5: "Trim strips the characters with Unicode's White_Space property", 25 code points.
unfoldable pub white_space_codes : List ℕ
white_space_codes =
    0x9 ∷ 0xA ∷ 0xB ∷ 0xC ∷ 0xD ∷ 0x20 ∷ 0x85 ∷ 0xA0 ∷ 0x1680 ∷ 0x2000 ∷ 0x2001 ∷ 0x2002 ∷ 0x2003 ∷ 0x2004 ∷ 0x2005 ∷ 0x2006 ∷ 0x2007
    ∷ 0x2008 ∷ 0x2009 ∷ 0x200A ∷ 0x2028 ∷ 0x2029 ∷ 0x202F ∷ 0x205F ∷ 0x3000 ∷ []

unfoldable pub white_space : List (List ℕ)
white_space = map encode white_space_codes

-- The text starts with this word.
unfoldable pub starts_with : List ℕ → List ℕ → Bool
starts_with [] t = true
starts_with (c ∷ w) [] = false
starts_with (c ∷ w) (b ∷ t) = eqb b c && starts_with w t

-- The length of the first of these words that the text starts with, else 0.
unfoldable pub leading : List (List ℕ) → List ℕ → ℕ
leading [] t = 0
leading (w ∷ ws) t = elim (starts_with w t) [ true ↦ length w | false ↦ leading ws t ]

-- The text without the words that it starts with, one behind the other. Its first `inside` bytes belong to the word before.
unfoldable pub strip_from : List (List ℕ) → ℕ → List ℕ → List ℕ
strip_from words inside [] = []
strip_from words (suc inside) (b ∷ t) = strip_from words inside t
strip_from words zero (b ∷ t) = elim (leading words (b ∷ t)) [ zero ↦ b ∷ t | suc n ↦ strip_from words n t ]

unfoldable pub strip : List (List ℕ) → List ℕ → List ℕ
strip words t = strip_from words 0 t

-- The text without the white space that it starts with.
unfoldable pub trim_start : List ℕ → List ℕ
trim_start t = strip white_space t

-- The text without the white space that it ends with: read backwards, it starts with the white space read backwards.
unfoldable pub trim_end : List ℕ → List ℕ
trim_end t = reverse (strip (map reverse white_space) (reverse t))

-- `str::trim`: white space is stripped at both ends.
unfoldable pub trim : List ℕ → List ℕ
trim t = trim_end (trim_start t)

-- Whether two runs of bytes are equal.
unfoldable pub same_bytes : List ℕ → List ℕ → Bool
same_bytes [] [] = true
same_bytes [] (c ∷ cs) = false
same_bytes (b ∷ bs) [] = false
same_bytes (b ∷ bs) (c ∷ cs) = eqb b c && same_bytes bs cs

-- Whether the first byte of a text passes a test; a text without bytes does not.
unfoldable pub first_is : (ℕ → Bool) → List ℕ → Bool
first_is test [] = false
first_is test (b ∷ bs) = test b
