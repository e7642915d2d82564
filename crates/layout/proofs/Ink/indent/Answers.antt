use Rattle.layout.proofs.Steps.{sure_indent}
use Rattle.layout.proofs.Ink.indent.Goals as goal

pub returns : goal.returns
returns c = sure_indent c.args.self.now c.width.ensures (search) (search) c.space.ensures
