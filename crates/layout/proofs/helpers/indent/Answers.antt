use Rattle.layout.specs.Helpers as Helpers
use Rattle.layout.proofs.helpers.indent.Goals as goal

pub returns : goal.returns
unfolding Helpers.indent
returns c = c.indent.ensures
