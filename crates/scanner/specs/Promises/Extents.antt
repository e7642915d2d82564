-- What contracts of the functions over string constants cite.
use Rattle.std.specs.Prelude.{ℕ, ◌+◌, ◌≤◌, ◌≡◌, true, false, List, [], ◌∷◌, length, drop, Option, None, Some}
use Rattle.scanner.specs.Strings.{Place, between_characters, wrong, to, character, next, is_closed}
use Rattle.scanner.specs.declared.strings.Quoted.{Quoted}

-- A string constant from a place on: the bytes to its end and the characters that they denote.
pub data Extent : Type 0 where
  ends : ℕ → ℕ → Extent
  endless : Extent

unfoldable pub further : ℕ → ℕ → Extent → Extent
further bytes count (ends b c) = ends (bytes + b) (count + c)
further bytes count endless = endless

unfoldable pub extent : Place → List ℕ → Extent
extent place [] = elim (is_closed place) [ true ↦ ends 0 0 | false ↦ endless ]
extent place (b ∷ s) =
    elim (is_closed place) [
      | true ↦ ends 0 0
      | false ↦ elim (next place b) [
        | wrong ↦ endless
        | to after ↦ further 1 0 (extent after s)
        | character ↦ further 1 1 (extent between_characters s)
      ]
    ]

-- An answer that ends at an offset.
abbrev pub ends_at : ℕ → ℕ → Option Quoted
ends_at end count = Some (record { end = end; count = count })

-- The end and the characters that an answer gives.
unfoldable pub extent_of : Option Quoted → Extent
extent_of (Some q) = ends q.end q.count
extent_of None = endless

-- An answer that ends between two characters, and what stands from there on.
unfoldable pub on_from : List ℕ → Option Quoted → Extent
on_from s (Some q) = further q.end q.count (extent between_characters (drop q.end s))
on_from s None = endless

-- A character takes a byte or more.
unfoldable pub Inside : List ℕ → ℕ → Option Quoted → Type 0
Inside s at (Some q) = (at + q.count ≤ q.end) × (at + 1 ≤ q.end) × (q.end ≤ length s)
Inside s at None = Unit {0}

-- From a place at an offset the answer leads to the next place between two characters.
pub record Goes (s : List ℕ) (place : Place) (at : ℕ) (r : Option Quoted) : Type 0 where
  pub is : further at 0 (extent place (drop at s)) ≡ on_from s r
  pub inside : Inside s at r
