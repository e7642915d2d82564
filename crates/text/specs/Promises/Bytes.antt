-- Contracts of tests for white space.
use Rattle.std.specs.Prelude.{ℕ, List, [], ◌∷◌, Bool, false, ◌||◌}
use Rattle.text.specs.Bytes.{same_bytes}

-- Whether a text is one of these words.
unfoldable pub is_among : List (List ℕ) → List ℕ → Bool
is_among [] t = false
is_among (w ∷ ws) t = same_bytes t w || is_among ws t
