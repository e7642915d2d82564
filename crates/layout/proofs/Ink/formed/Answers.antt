use Rattle.layout.proofs.Steps.{sure_formed}
use Rattle.layout.proofs.Ink.formed.Goals as goal

pub returns : goal.returns
returns c o = sure_formed c.args.self.now c.max-self.ensures
