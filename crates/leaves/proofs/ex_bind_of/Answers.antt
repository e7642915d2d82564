use Rattle.layout.proofs.Steps.{then_word}
use Rattle.layout.specs.DecOne as DecOne
use Rattle.text.specs.Bytes.{bytes}
use Rattle.leaves.proofs.ex_bind_of.Goals as goal

pub returns : goal.returns
unfolding DecOne.ex_bind_of bytes
returns c = then_word c.put.ensures (cc) c.get_ty.ensures
