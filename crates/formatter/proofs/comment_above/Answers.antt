use Rattle.std.proofs.lemmas.Result.{err_from_is_err_and}
use Rattle.formatter.proofs.LookupLaws.{lookup-declined, lookup-told}
use Rattle.formatter.proofs.comment_above.Goals as goal

pub returns-in_err-ask : goal.returns-in_err-ask
returns-in_err-ask c =
    let p = err_from_is_err_and c.from_residual.result c.from_residual.ensures.1 in
    rw (p.1, p.2) (lookup-declined (rw c.in_err-ask.was at c.ask.ensures))

pub returns : goal.returns
returns c = lookup-told (rw c.in_ok-ask.was at c.ask.ensures) (rw (← c.kinds.ensures.0) c.comment_above.ensures)
