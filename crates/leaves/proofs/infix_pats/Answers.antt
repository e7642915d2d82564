use Rattle.layout.proofs.Steps.{then_done, then_stop, then_word}
use Rattle.layout.specs.DecOne as DecOne
use Rattle.text.specs.Bytes.{bytes}
use Rattle.leaves.proofs.infix_pats.Goals as goal

pub returns-in_err-s1 : goal.returns-in_err-s1
unfolding DecOne.infix_head
returns-in_err-s1 c = then_stop c.get_pat.ensures c.in_err-s1.was c.from_residual.ensures.1

pub returns-in_err-s2 : goal.returns-in_err-s2
unfolding DecOne.infix_head bytes
returns-in_err-s2 c =
    then_done c.get_pat.ensures c.in_ok-s1.was
    (then_word c.put.ensures (cc) (then_stop c.text_of.ensures c.in_err-s2.was c.from_residual-in_err-s2.ensures.1))

pub returns : goal.returns
unfolding DecOne.infix_head bytes
returns c =
    then_done c.get_pat.ensures c.in_ok-s1.was
    (then_word c.put.ensures (cc) (then_done c.text_of.ensures c.in_ok-s2.was (then_word c.put-2.ensures (cc) c.get_pat-2.ensures)))
