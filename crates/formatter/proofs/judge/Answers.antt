use mathlib.Core.Path.{sym, subst}
use Rattle.std.proofs.lemmas.Result.{err_from_is_err_and}
use Rattle.formatter.proofs.JudgeLaws.{weighs_on, judges-unread, judges-untiled, sheet-limits, judges-weighed, judges-accepted}
use Rattle.formatter.specs.Promises.Judging.{Limits}
use Rattle.formatter.proofs.judge.Goals as goal

pub returns-in_err-check_text : goal.returns-in_err-check_text
returns-in_err-check_text c =
    let p = err_from_is_err_and c.from_residual.result c.from_residual.ensures.1 in
    rw (p.1, p.2) (judges-unread (rw c.in_err-check_text.was at c.check_text.ensures) c.new.ensures)

pub returns-in_err-tree : goal.returns-in_err-tree
returns-in_err-tree c =
    let p = err_from_is_err_and c.from_residual-in_err-tree.result c.from_residual-in_err-tree.ensures.1 in
    rw (p.1, p.2) (judges-untiled (rw c.in_ok-check_text.was at c.check_text.ensures) (rw c.in_err-tree.was at c.read_tokens.ensures) c.new.ensures)

pub weigh-requires-clause-limits : goal.weigh-requires-clause-limits
weigh-requires-clause-limits c =
    subst Limits (sym c.page_of.ensures) (sheet-limits (rw c.in_ok-check_text.was at c.check_text.ensures) (rw c.in_ok-tree.was at c.read_tokens.ensures))

pub returns-in_err-measures : goal.returns-in_err-measures
returns-in_err-measures c =
    let p = err_from_is_err_and c.from_residual-in_err-measures.result c.from_residual-in_err-measures.ensures.1 in
    rw (p.1, p.2) (judges-weighed (rw c.in_ok-check_text.was at c.check_text.ensures) (rw c.in_ok-tree.was at c.read_tokens.ensures) (weighs_on c.page_of.ensures (rw c.in_err-measures.was at c.weigh.ensures)))

pub returns : goal.returns
returns c =
    judges-accepted (rw c.in_ok-check_text.was at c.check_text.ensures) (rw c.in_ok-tree.was at c.read_tokens.ensures) (weighs_on c.page_of.ensures (rw c.in_ok-measures.was at c.weigh.ensures))
