-- `doc_comment::body` meets its contract: the first line that stands, and the last. Assumes nothing.
use mathlib.Core.Path.{sym, ◌∙◌}
use Rattle.text.specs.Bytes.{bytes}
use Rattle.doc_comment.proofs.Text.{body-empty, body-plain, body-open, body-holds}
use Rattle.doc_comment.proofs.body.Goals as goal

pub returns-in_err-line : goal.returns-in_err-line
returns-in_err-line c = rw c.from_residual.ensures (body-empty _ c.in_err-line.ensures)

pub returns-then-not-is_just : goal.returns-then-not-is_just
unfolding bytes
returns-then-not-is_just c = body-plain _ c.in_ok-line.ensures (sym c.is_just.ensures ∙ c.if-not-is_just.true)

pub returns-in_err-measure : goal.returns-in_err-measure
unfolding bytes
returns-in_err-measure c =
    rw c.from_residual-in_err-measure.ensures (body-open _ c.in_ok-line.ensures (sym c.is_just.ensures ∙ c.if-not-is_just.false) c.in_err-measure.ensures)

pub returns : goal.returns
unfolding bytes
returns c = body-holds _ c.in_ok-line.ensures (sym c.is_just.ensures ∙ c.if-not-is_just.false) c.in_ok-measure.ensures
