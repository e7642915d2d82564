-- `doc_comment::measure` meets its contract. The invariant: the lines before `rest` were read, and the last of them is kept apart. Assumes nothing.
use lib.ListN.{length}
use Rattle.doc_comment.proofs.Text.{Seen}
use Rattle.doc_comment.proofs.measure.Given as goal

abbrev pub invariant-loop-line : goal.invariant-loop-line
invariant-loop-line l = Seen l.comment l.rest l.last l.total l.between

abbrev pub decreases-loop-line : goal.decreases-loop-line
decreases-loop-line l = length l.rest
