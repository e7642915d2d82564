-- Contracts of the tests for well-formed UTF-8.
use Rattle.std.specs.Prelude.{ℕ, ◌-◌, ◌≤◌, ◌<◌, ◌≡◌, List, map, length, get_or}
use Rattle.text.specs.Utf8.{Range, ◌‥◌}

-- A row of table 3-7, as pairs of a first and a last byte.
abbrev pub ranges : List (ℕ × ℕ) → List Range
ranges row = map (λ r. r.0 ‥ r.1) row

-- Contract: a byte d of 0x80 to 0xBF stands behind a, b and c exactly where one of them asks for it.
pub record Asked (a b c d : ℕ) : Type 0 where
  pub fourth : 0xF0 ≤ a → (0x80 ≤ d) × (d ≤ 0xBF)
  pub third : 0xE0 ≤ b → (0x80 ≤ d) × (d ≤ 0xBF)
  pub second : 0xC0 ≤ c → (0x80 ≤ d) × (d ≤ 0xBF)
  pub none_asks : a < 0xF0 → b < 0xE0 → c < 0xC0 → 0x80 ≤ d → 0xC0 ≤ d

-- Contract: what is known of a byte d behind a, b and c in a text that is whole.
pub record Follows (a b c d : ℕ) : Type 0 where
  pub asked : Asked a b c d
  pub overlong_two : 0xC0 ≤ d → 0xC2 ≤ d
  pub overlong_three : c ≡ 0xE0 → 0x80 ≤ d → 0xA0 ≤ d
  pub surrogate : c ≡ 0xED → d ≤ 0x9F
  pub overlong_four : c ≡ 0xF0 → 0x80 ≤ d → 0x90 ≤ d

-- Contract: every byte behind three others.
abbrev pub AllFollow : List ℕ → Type 0
AllFollow s = (i : ℕ) → 3 ≤ i → i < length s → Follows (get_or s (i - 3) 0) (get_or s (i - 2) 0) (get_or s (i - 1) 0) (get_or s i 0)
