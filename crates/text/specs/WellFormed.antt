-- Document 02, Ticket 5: what the definitions come to, said of characters.
use Rattle.std.specs.Prelude.{ℕ, suc, ◌<◌, ◌≡◌, List, [], ◌∷◌, ◌++◌, reverse, Bool, true, false, ◌||◌, leb, eqb, length, get_or, Option, None, Some}
use Rattle.text.specs.Utf8.{is_scalar, encoded}
use Rattle.text.specs.Bytes.{is_space, white_space_codes}

unfoldable pub All : (ℕ → Type 0) → List ℕ → Type 0
All P [] = Unit {0}
All P (c ∷ cs) = P c × All P cs

abbrev pub Scalar : ℕ → Type 0
Scalar c = is_scalar c ≡ true

-- The text is a list of encoded scalar values, joined.
pub record Encodes (text : List ℕ) : Type 0 where
  pub codes : List ℕ
  pub scalar : All Scalar codes
  pub is : text ≡ encoded codes

-- An offset of the text of these characters at which one of them starts, or behind the last.
pub record Between (codes : List ℕ) (i : ℕ) : Type 0 where
  pub before : List ℕ
  pub behind : List ℕ
  pub joins : codes ≡ before ++ behind
  pub at : length (encoded before) ≡ i

-- A list without the members that it starts with and that pass a test.
unfoldable pub drop_while : (ℕ → Bool) → List ℕ → List ℕ
drop_while test [] = []
drop_while test (c ∷ cs) = elim (test c) [ true ↦ drop_while test cs | false ↦ c ∷ cs ]

-- The same at both ends.
unfoldable pub drop_ends : (ℕ → Bool) → List ℕ → List ℕ
drop_ends test cs = reverse (drop_while test (reverse (drop_while test cs)))

unfoldable pub is_one_of : List ℕ → ℕ → Bool
is_one_of [] c = false
is_one_of (d ∷ ds) c = eqb c d || is_one_of ds c

-- Characters with the property White_Space.
unfoldable pub is_white_space : ℕ → Bool
is_white_space c = is_one_of white_space_codes c

-- Every byte is below 128.
abbrev pub Ascii : List ℕ → Type 0
Ascii text = (i : ℕ) → i < length text → get_or text i 0 < 128

-- Number 2 before Ticket 5: the offset of the first byte of 128 or more; i is the offset of the first byte of the list.
unfoldable pub first_not_ascii : ℕ → List ℕ → Option ℕ
first_not_ascii i [] = None
first_not_ascii i (b ∷ bs) = elim (leb 128 b) [ true ↦ Some i | false ↦ first_not_ascii (suc i) bs ]

-- Trim before Ticket 5, document 01's: "Trim strips 9 to 13 and 32 at both ends."
unfoldable pub trim_ascii : List ℕ → List ℕ
trim_ascii t = drop_ends is_space t
