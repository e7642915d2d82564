use Rattle.layout.proofs.Steps.{sure_skip}
use Rattle.layout.proofs.items.fn.for_each.nothing.Goals as goal

pub returns : goal.returns
returns c = sure_skip
