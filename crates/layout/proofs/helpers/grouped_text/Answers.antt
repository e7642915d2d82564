use Rattle.layout.proofs.Steps.{group_is, group_not}
use Rattle.layout.proofs.helpers.grouped_text.Goals as goal

pub returns-in_err-s : goal.returns-in_err-s
returns-in_err-s c = group_not c.group.ensures c.in_err-s.was c.from_residual.ensures.1

pub returns : goal.returns
returns c = group_is c.group.ensures c.in_ok-s.was c.text_of.ensures
