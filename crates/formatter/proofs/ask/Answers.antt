use Rattle.std.proofs.lemmas.Result.{err_from_is_err_and}
use Rattle.formatter.proofs.LookupLaws.{ask-tokens, ask-past, ask-refused}
use Rattle.formatter.proofs.ask.Goals as goal

pub returns-in_err-check : goal.returns-in_err-check
returns-in_err-check c =
    let p = err_from_is_err_and c.from_residual.result c.from_residual.ensures.1 in
    rw (p.1, p.2) (ask-refused (rw c.in_err-check.was at c.check.ensures))

pub returns-then-token-count : goal.returns-then-token-count
returns-then-token-count c = ask-tokens (rw c.in_ok-check.was at c.check.ensures) (rw c.count.ensures.2 c.if-token-count.true)

pub returns-else-token-count : goal.returns-else-token-count
returns-else-token-count c = ask-past (rw c.in_ok-check.was at c.check.ensures) (rw c.count.ensures.2 c.if-token-count.false)
