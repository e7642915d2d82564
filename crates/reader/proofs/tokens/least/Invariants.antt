-- No length that was passed is below the least so far.
use Prim.Native.Nat.{ℕ, ◌≤◌, ◌<◌}
use lib.ListN.{get_or}
use Rattle.reader.specs.declared.tokens.Span.{Span}
use Rattle.reader.proofs.tokens.least.Given as goal

abbrev pub invariant-loop-span : goal.invariant-loop-span
invariant-loop-span l = (k : ℕ) (d : Span) → k < l.span-index → l.least ≤ (get_or l.spans k d).len
