use Rattle.layout.proofs.Steps.{then_done, then_stop, then_word}
use Rattle.leaves.proofs.infix_dec.Goals as goal

pub returns-in_err-s1 : goal.returns-in_err-s1
returns-in_err-s1 c u e = then_word c.put.ensures e (then_stop c.int_lit.ensures c.in_err-s1.was c.from_residual.ensures.1)

pub returns : goal.returns
returns c u e = then_word c.put.ensures e (then_done c.int_lit.ensures c.in_ok-s1.was c.names_space.ensures)
