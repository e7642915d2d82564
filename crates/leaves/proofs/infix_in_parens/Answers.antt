use Rattle.layout.proofs.Steps.{last_word, then_done, then_stop, then_word}
use Rattle.text.specs.Bytes.{bytes}
use Rattle.leaves.proofs.infix_in_parens.Goals as goal

pub returns-in_err-s1 : goal.returns-in_err-s1
unfolding bytes
returns-in_err-s1 c = then_word c.put.ensures (cc) (then_stop c.infix_pats.ensures c.in_err-s1.was c.from_residual.ensures.1)

pub returns : goal.returns
unfolding bytes
returns c = then_word c.put.ensures (cc) (then_done c.infix_pats.ensures c.in_ok-s1.was (last_word c.put-2.ensures (cc)))
