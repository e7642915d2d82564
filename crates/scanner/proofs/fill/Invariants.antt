-- `fill` meets its contract. The invariant: the list holds the tokens up to `at`, if they fit. Assumes nothing.
use Prim.Native.Nat.{◌-◌}
use lib.ListN.{length}
use Rattle.scanner.proofs.FillLaws.{Filled}
use Rattle.scanner.proofs.fill.Given as goal

abbrev pub invariant-loop-at : goal.invariant-loop-at
invariant-loop-at l = Filled l.text l.tokens l.fit l.at

abbrev pub decreases-loop-at : goal.decreases-loop-at
decreases-loop-at l = length l.text - l.at
