-- `quoted` meets its contract. Assumes nothing.
use mathlib.Core.Path.{◌∙◌}
use Rattle.scanner.proofs.TokenLaws.{quote-endless, quote-ends}
use Rattle.scanner.proofs.lexical.quoted.Goals as goal

pub returns-in_err-string : goal.returns-in_err-string
returns-in_err-string c = c.from_residual.ensures ∙ quote-endless c.args.rest.now c.requires _ c.string.ensures c.in_err-string.was

pub returns : goal.returns
returns c = quote-ends c.args.rest.now c.requires _ c.string.ensures _ c.in_ok-string.was
