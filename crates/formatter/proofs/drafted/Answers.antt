use Rattle.std.proofs.lemmas.Result.{err_from_is_err_and}
use Rattle.formatter.proofs.JudgeLaws.{puts_on, get-puts, get-refuses}
use Rattle.formatter.proofs.drafted.Goals as goal

pub returns-in_err-judged : goal.returns-in_err-judged
returns-in_err-judged g c =
    let p = err_from_is_err_and c.from_residual.result c.from_residual.ensures.1 in
    rw (p.1, p.2) (get-refuses (rw c.in_err-judged.was at c.judge.ensures) _)

pub returns : goal.returns
returns g c = get-puts (rw c.in_ok-judged.was at c.judge.ensures) (puts_on c.page_of.ensures c.put.ensures)
