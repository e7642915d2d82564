use Rattle.layout.proofs.Steps.{then_done, then_stop, then_word}
use Rattle.layout.specs.DecOne as DecOne
use Rattle.text.specs.Bytes.{bytes}
use Rattle.leaves.proofs.dat_dec.Goals as goal

pub returns-in_err-s1 : goal.returns-in_err-s1
unfolding DecOne.dec_one bytes
returns-in_err-s1 c = then_word c.put.ensures (cc) (then_stop c.dat_binds.ensures c.in_err-s1.was c.from_residual.ensures.1)

pub returns : goal.returns
unfolding DecOne.dec_one bytes
returns c = then_word c.put.ensures (cc) (then_done c.dat_binds.ensures c.in_ok-s1.was c.with_type.ensures)
