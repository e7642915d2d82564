-- `comment_end` meets its contract. The invariant: the comment ends where what is left at `at` closes `depth` comments. Assumes nothing.
use Prim.Native.Nat.{◌+◌, ◌-◌, ◌≤◌}
use mathlib.Core.Path.{◌≡◌}
use lib.ListN.{length, drop}
use Rattle.scanner.specs.Lexical.{closes}
use Rattle.scanner.specs.Promises.Reach.{longer, reach}
use Rattle.scanner.proofs.lexical.comment_end.Given as goal

abbrev pub invariant-loop-at : goal.invariant-loop-at
invariant-loop-at l = (l.last + 1 ≡ length l.s) × (longer l.from (reach (λ t. closes t 1) (drop l.from l.s)) ≡ longer l.at (reach (λ t. closes t l.depth) (drop l.at l.s))) × (1 ≤ l.depth) × (l.depth ≤ l.at + 1)

abbrev pub decreases-loop-at : goal.decreases-loop-at
decreases-loop-at l = l.last - l.at
