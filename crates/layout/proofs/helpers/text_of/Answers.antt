use Rattle.layout.proofs.Steps.{text_is, text_not}
use Rattle.layout.proofs.helpers.text_of.Goals as goal

pub returns-in_err-k : goal.returns-in_err-k
returns-in_err-k c = text_not c.token_no.ensures c.in_err-k.was c.from_residual.ensures.1

pub returns : goal.returns
returns c = text_is c.token_no.ensures c.in_ok-k.was c.token.ensures
