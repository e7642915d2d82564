use Rattle.layout.proofs.Steps.{present_there, present_gone, present_not, last_skip}
use Rattle.layout.proofs.helpers.op_kw.Goals as goal

pub returns-in_err-there : goal.returns-in_err-there
returns-in_err-there c = present_not c.present.ensures c.in_err-there.was c.from_residual.ensures.1

pub returns-then-there : goal.returns-then-there
returns-then-there c = present_there c.present.ensures c.in_ok-there.was c.if-there.true c.op.ensures

pub returns-else-there : goal.returns-else-there
returns-else-there c = present_gone c.present.ensures c.in_ok-there.was c.if-there.false last_skip
