use Rattle.layout.proofs.Steps.{group_is, group_not, then_both, then_word}
use Rattle.layout.specs.DecOne as DecOne
use Rattle.layout.specs.GetDec as GetDec
use Rattle.text.specs.Bytes.{bytes}
use Rattle.leaves.proofs.sharing_tail.Goals as goal

pub returns-in_err-s1 : goal.returns-in_err-s1
unfolding GetDec.sharing_tail
returns-in_err-s1 c = group_not c.group.ensures c.in_err-s1.was c.from_residual.ensures.1

pub returns : goal.returns
unfolding GetDec.sharing_tail DecOne.comment_line bytes
returns c =
    group_is c.group.ensures c.in_ok-s1.was
    (then_both c.line.ensures (then_word c.put.ensures (cc) (c.sep.ensures _ _ _ (cc) (λ o i a r o' i' e. e))))
