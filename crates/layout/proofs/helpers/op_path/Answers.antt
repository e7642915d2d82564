use Rattle.layout.specs.Helpers as Helpers
use Rattle.layout.proofs.Steps.{then_done, then_stop}
use Rattle.layout.proofs.helpers.op_path.Goals as goal

pub returns-in_err-s : goal.returns-in_err-s
unfolding Helpers.op_path
returns-in_err-s c = then_stop c.op_kw.ensures c.in_err-s.was c.from_residual.ensures.1

pub returns : goal.returns
unfolding Helpers.op_path
returns c = then_done c.op_kw.ensures c.in_ok-s.was c.path.ensures
