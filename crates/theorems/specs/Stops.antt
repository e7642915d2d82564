-- What stands in the record where 13 and 14 point (document 02, Ticket 4).
use Rattle.std.specs.Prelude.{ℕ, ◌+◌, ◌<◌, ◌≡◌, List, ◌⊎◌, length, get_or}
use Rattle.agreement.specs.Agreement.{EmptyPath}

-- The record has this byte at the offset.
pub record Has (rec : List ℕ) (at b : ℕ) : Type 0 where
  pub within : at < length rec
  pub is : get_or rec at 0 ≡ b

-- 13: an absent part, or the list of a path without names, of which AppExp takes the first.
abbrev pub MissingAt : List ℕ → ℕ → Type 0
MissingAt rec place =
    Has rec place 0x00 ⊎ (Has rec place 0x02 × Has rec (place + 1) 0x00 × Has rec (place + 2) 0x00 × EmptyPath rec place)

-- 14: the command of an import.
abbrev pub ImportAt : List ℕ → ℕ → Type 0
ImportAt rec place = Has rec place 0x23
