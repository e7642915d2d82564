use Rattle.layout.proofs.Steps.{then_word}
use Rattle.layout.specs.DecOne as DecOne
use Rattle.text.specs.Bytes.{bytes}
use Rattle.leaves.proofs.open_dec.Goals as goal

pub returns : goal.returns
unfolding DecOne.dec_one bytes
returns c = then_word c.put.ensures (cc) (c.sep.ensures _ _ _ (cc) (λ o i a r o' i' e. e))
