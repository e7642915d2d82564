use native.Mathlib.Omega.{arith}
use mathlib.Core.Path.{◌∙◌, ap}
use Rattle.doc_comment.specs.Promises.Lines.{kept}
use Rattle.doc_comment.proofs.Scan.{line-dropped, line_kept, first-from, kept-nil}
use Rattle.doc_comment.proofs.next_line.Goals as goal

pub returns-in-Some-kept_of : goal.returns-in-Some-kept_of
returns-in-Some-kept_of c = first-from c.loop-line.invariant.1 c.loop-line.invariant.0 (line_kept c.in-Some.ensures c.in-Some-kept_of.ensures)

pub loop-line-preserved : goal.loop-line-preserved
loop-line-preserved c =
    (omega (arith, c.loop-line.invariant.0, c.in-Some.ensures.less), c.loop-line.invariant.1 ∙ line-dropped c.in-Some.ensures c.in_default-kept_of.ensures)

pub returns : goal.returns
returns c = c.loop-line.invariant.1 ∙ ap kept c.in_default.ensures ∙ kept-nil
