-- `doc_comment::next_line` meets its contract. The invariant: the lines before `rest` are dropped. Assumes nothing.
use Prim.Native.Nat.{◌≤◌}
use mathlib.Core.Path.{◌≡◌}
use lib.ListN.{length}
use Rattle.doc_comment.specs.Promises.Lines.{kept}
use Rattle.doc_comment.proofs.next_line.Given as goal

abbrev pub invariant-loop-line : goal.invariant-loop-line
invariant-loop-line l = (length l.rest ≤ length l.comment) × (kept l.comment ≡ kept l.rest)

abbrev pub decreases-loop-line : goal.decreases-loop-line
decreases-loop-line l = length l.rest
