-- `text::first_broken_char` meets its contract. The invariant: what the scan finds from the start is what it finds from `i`. Assumes nothing.
use Prim.Native.Nat.{◌≤◌, ◌-◌}
use mathlib.Core.Path.{◌≡◌}
use lib.ListN.{length, drop}
use Rattle.text.specs.Utf8.{broken_from, first_broken}
use Rattle.text.proofs.first_broken_char.Given as goal

abbrev pub invariant-loop-i : goal.invariant-loop-i
invariant-loop-i l = (l.i ≤ length l.s) × (first_broken l.s ≡ broken_from 0 l.i (drop l.i l.s))

abbrev pub decreases-loop-i : goal.decreases-loop-i
decreases-loop-i l = length l.s - l.i
