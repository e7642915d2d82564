use Rattle.layout.proofs.Steps.{then_word}
use Rattle.layout.specs.Exp as Exp
use Rattle.text.specs.Bytes.{bytes}
use Rattle.leaves.proofs.selector_exp.Goals as goal

pub returns : goal.returns
unfolding Exp.exp bytes
returns c = then_word c.put.ensures (cc) c.text_of.ensures
