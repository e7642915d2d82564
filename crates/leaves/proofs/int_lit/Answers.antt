use Rattle.layout.proofs.Steps.{last_word, maybe_past, maybe_there, then_done, then_stop}
use Rattle.layout.specs.DecOne as DecOne
use Rattle.text.specs.Bytes.{bytes}
use Rattle.leaves.proofs.int_lit.Goals as goal

pub returns-in-Some : goal.returns-in-Some
unfolding DecOne.int_lit
returns-in-Some c = maybe_past c.absent.ensures c.in-Some.is

pub returns-in_err-s1 : goal.returns-in_err-s1
unfolding DecOne.int_lit
returns-in_err-s1 c = maybe_there c.absent.ensures c.in_default.is (then_stop c.text_of.ensures c.in_err-s1.was c.from_residual.ensures.1)

pub returns : goal.returns
unfolding DecOne.int_lit bytes
returns c = maybe_there c.absent.ensures c.in_default.is (then_done c.text_of.ensures c.in_ok-s1.was (last_word c.put.ensures (cc)))
