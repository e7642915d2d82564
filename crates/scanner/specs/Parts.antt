-- What the texts of tokens are made of: runs of bytes, and a word in front.
use Rattle.std.specs.Prelude.{ℕ, List, [], ◌∷◌, Bool, true, false, ◌||◌, eqb}
use Prim.Native.String.{String}
use Rattle.text.specs.Bytes.{bytes, same_bytes}

unfoldable pub is_empty : List ℕ → Bool
is_empty [] = true
is_empty (b ∷ t) = false

-- Every byte passes the test.
unfoldable pub every : (ℕ → Bool) → List ℕ → Bool
every test [] = true
every test (b ∷ t) = elim (test b) [ true ↦ every test t | false ↦ false ]

-- One byte or more, and every one passes the test.
unfoldable pub one_or_more : (ℕ → Bool) → List ℕ → Bool
one_or_more test [] = false
one_or_more test (b ∷ t) = elim (test b) [ true ↦ every test t | false ↦ false ]

-- The text starts with a word, and what stands behind the word passes.
unfoldable pub behind : List ℕ → (List ℕ → Bool) → List ℕ → Bool
behind [] passes t = passes t
behind (c ∷ word) passes [] = false
behind (c ∷ word) passes (b ∷ t) = elim (eqb b c) [ true ↦ behind word passes t | false ↦ false ]

-- The byte is one of these.
unfoldable pub is_one_of : List ℕ → ℕ → Bool
is_one_of [] b = false
is_one_of (c ∷ cs) b = eqb b c || is_one_of cs b

-- The text is one of these words.
unfoldable pub is_among : List String → List ℕ → Bool
is_among [] t = false
is_among (w ∷ ws) t = same_bytes t (bytes w) || is_among ws t
