-- `comments::whole` meets its contract. The invariant: x has the bits from the eight at `b` up, and is shifted as the eight below them are put under them. Assumes nothing.
use Prim.Native.Nat.{◌+◌, ◌-◌, ◌*◌, ◌≤◌}
use mathlib.Core.Path.{◌≡◌}
use Rattle.comments.specs.Set.{is_comment, bits}
use Rattle.comments.proofs.whole.Given as goal

abbrev pub invariant-loop-b : goal.invariant-loop-b
invariant-loop-b l = (l.b ≤ 8) × (l.x ≡ bits (is_comment l.kinds) (l.k + 8 * l.b) (64 - 8 * l.b))
