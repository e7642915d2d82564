use Rattle.text.specs.Bytes.{bytes}
use Rattle.doc_comment.proofs.Text.{seen_none, seen_more, seen-then}
use Rattle.doc_comment.proofs.measure.Goals as goal

pub loop-line-init : goal.loop-line-init
loop-line-init c = seen_none _

pub loop-line-preserved : goal.loop-line-preserved
loop-line-preserved c = seen_more c.loop-line.invariant c.in-Some.ensures

pub returns : goal.returns
unfolding bytes
returns c = rw c.then_some.ensures (seen-then c.loop-line.invariant c.in_default.ensures _ c.is_just.ensures)
