use Rattle.layout.specs.Layout.{formed}
use Rattle.layout.specs.Helpers as Helpers
use Rattle.layout.proofs.Steps.{sure_in}
use Rattle.layout.proofs.helpers.deepen.Goals as goal

pub returns : goal.returns
unfolding Helpers.deepen
returns c o = sure_in c.indented.ensures (λ deep. formed deep.depth) (c.formed.ensures o)
