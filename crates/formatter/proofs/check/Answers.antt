use Rattle.std.proofs.lemmas.Result.{err_from_is_err_and}
use Rattle.formatter.proofs.JudgeLaws.{check-accepts, check-refuses}
use Rattle.formatter.proofs.check.Goals as goal

pub returns-in_err-judged : goal.returns-in_err-judged
returns-in_err-judged c =
    let p = err_from_is_err_and c.from_residual.result c.from_residual.ensures.1 in
    rw (p.1, p.2) (check-refuses (rw c.in_err-judged.was at c.judge.ensures))

pub returns : goal.returns
returns c = check-accepts (rw c.in_ok-judged.was at c.judge.ensures)
