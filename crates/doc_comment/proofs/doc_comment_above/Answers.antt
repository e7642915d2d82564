use Rattle.std.proofs.lemmas.Result.{err_from_is_err_and}
use Rattle.doc_comment.specs.Doc.{doc_said}
use Rattle.doc_comment.proofs.Lookup.{doc-declined, doc-nothing, doc-found}
use Rattle.doc_comment.proofs.doc_comment_above.Goals as goal

pub returns-in_err-ask : goal.returns-in_err-ask
returns-in_err-ask c =
    let p = err_from_is_err_and c.from_residual.result c.from_residual.ensures.1 in
    rw (p.1, p.2) (doc-declined (rw c.in_err-ask.was at c.ask.ensures))

pub returns-in_default : goal.returns-in_default
returns-in_default c = doc-nothing (rw c.in_ok-ask.was at c.ask.ensures) (rw c.kinds.ensures.0 at c.comment_above.ensures) c.in_default.is

pub returns-in_err-doc_text : goal.returns-in_err-doc_text
unfolding doc_said
returns-in_err-doc_text c =
    let p = err_from_is_err_and c.from_residual-in_err-doc_text.result c.from_residual-in_err-doc_text.ensures.1 in
    rw (p.1, p.2)
    (doc-found (rw c.in_ok-ask.was at c.ask.ensures) (rw c.kinds.ensures.0 at c.comment_above.ensures) c.args.out.now c.in-Some.is
    (rw (c.in_err-doc_text.was, c.text_of.ensures) at c.doc_text.ensures))

pub returns : goal.returns
unfolding doc_said
returns c =
    doc-found (rw c.in_ok-ask.was at c.ask.ensures) (rw c.kinds.ensures.0 at c.comment_above.ensures) c.args.out.now c.in-Some.is
    (rw (c.in_ok-doc_text.was, c.text_of.ensures) at c.doc_text.ensures)
