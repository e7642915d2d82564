use Rattle.layout.proofs.Steps.{list_is, list_not}
use Rattle.layout.proofs.items.joined.Goals as goal

pub returns-in_err-n : goal.returns-in_err-n
returns-in_err-n g c keep u w hu hw = list_not c.list.ensures c.in_err-n.was c.from_residual.ensures.1

pub returns : goal.returns
returns g c keep u w hu hw = list_is c.list.ensures c.in_ok-n.was (c.items.ensures keep _ u w hu hw)
