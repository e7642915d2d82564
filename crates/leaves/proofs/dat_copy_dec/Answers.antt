use Rattle.layout.proofs.Steps.{then_done, then_stop, then_word}
use Rattle.layout.specs.DecOne as DecOne
use Rattle.text.specs.Bytes.{bytes}
use Rattle.leaves.proofs.dat_copy_dec.Goals as goal

pub returns-in_err-s1 : goal.returns-in_err-s1
unfolding DecOne.dec_one bytes
returns-in_err-s1 c = then_word c.put.ensures (cc) (then_stop c.text_of.ensures c.in_err-s1.was c.from_residual.ensures.1)

pub returns : goal.returns
unfolding DecOne.dec_one bytes
returns c = then_word c.put.ensures (cc) (then_done c.text_of.ensures c.in_ok-s1.was (then_word c.put-2.ensures (cc) c.path.ensures))
