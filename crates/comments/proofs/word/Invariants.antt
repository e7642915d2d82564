-- `comments::word` meets its contract. The invariant: x has the bits from `b` up, and is shifted as each lower one is put under them. Assumes nothing.
use Prim.Native.Nat.{◌+◌, ◌-◌, ◌≤◌}
use mathlib.Core.Path.{◌≡◌}
use Rattle.comments.specs.Set.{is_comment, bits}
use Rattle.comments.proofs.word.Given as goal

abbrev pub invariant-loop-b : goal.invariant-loop-b
invariant-loop-b l = (l.b ≤ 64) × (l.x ≡ bits (is_comment l.kinds) (l.k + l.b) (64 - l.b))
