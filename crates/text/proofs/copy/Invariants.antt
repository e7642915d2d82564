-- `text::copy` meets its contract. The invariant: the first `j` bytes are copied. Assumes nothing.
use Prim.Native.Nat.{◌≤◌}
use mathlib.Core.Path.{◌≡◌}
use lib.ListN.{length}
use lib.Seq.{paste}
use Rattle.text.proofs.copy.Given as goal

abbrev pub invariant-loop-j : goal.invariant-loop-j
invariant-loop-j l = (l.j ≤ length l.piece) × (l.out ≡ paste l.initial.out l.at l.piece l.j) × (length l.out ≡ length l.initial.out)
