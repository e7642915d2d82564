use Rattle.layout.specs.Helpers as Helpers
use Rattle.text.specs.Bytes.{bytes}
use Rattle.layout.proofs.Steps.{group_is, group_not}
use Rattle.layout.proofs.helpers.path.Goals as goal

pub returns-in_err-s : goal.returns-in_err-s
unfolding Helpers.path
returns-in_err-s c = group_not c.group.ensures c.in_err-s.was c.from_residual.ensures.1

pub returns : goal.returns
unfolding Helpers.path bytes
returns c = group_is c.group.ensures c.in_ok-s.was (c.sep.ensures _ _ _ (cc) (λ o i a r o' i' e. e))
