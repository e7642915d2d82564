use Rattle.layout.specs.Helpers as Helpers
use Rattle.layout.proofs.Steps.{sure_then, sure_in}
use Rattle.layout.proofs.helpers.indent_deeper.Goals as goal

pub returns : goal.returns
unfolding Helpers.indent_deeper
returns c = sure_then (c.deepen.ensures _) (sure_in c.indented.ensures Helpers.indent c.indent.ensures)
