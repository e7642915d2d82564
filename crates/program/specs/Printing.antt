-- What the program does to its output.
use Rattle.std.specs.Prelude.{ℕ, ◌≤◌, ◌≡◌, List, ◌++◌, length, take, drop}

-- Contract: the bytes are the output's first r, and the rest is as it was. That r is their length follows from the rest, and stands
-- here so that a caller's proof finds it.
pub record Prints (new out out' : List ℕ) (r : ℕ) : Type 0 where
  pub within : r ≤ length out'
  pub long : r ≡ length (take r out')
  pub is : out' ≡ new ++ drop r out
