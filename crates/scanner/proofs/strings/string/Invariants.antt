-- `string` meets its contract. The invariant: the string from `from` on is the one from `at` on, with the characters before it. Assumes nothing.
use Prim.Native.Nat.{◌-◌, ◌≤◌}
use mathlib.Core.Path.{◌≡◌}
use lib.ListN.{length, drop}
use Rattle.scanner.specs.Strings.{between_characters}
use Rattle.scanner.specs.Promises.Extents.{further, extent}
use Rattle.scanner.proofs.strings.string.Given as goal

abbrev pub invariant-loop-at : goal.invariant-loop-at
invariant-loop-at l = (further l.from 0 (extent between_characters (drop l.from l.s)) ≡ further l.at l.total (extent between_characters (drop l.at l.s))) × (l.total ≤ l.at)

abbrev pub decreases-loop-at : goal.decreases-loop-at
decreases-loop-at l = length l.s - l.at
