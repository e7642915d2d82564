use Rattle.text.specs.Bytes.{bytes}
use Rattle.layout.specs.Exp as Exp
use Rattle.layout.proofs.Steps.{present_there, present_gone, present_not, last_sure, last_skip, sure_when, sure_unless, sure_word}
use Rattle.leaves.proofs.item_semi.Goals as goal
use Rattle.leaves.proofs.item_semi.Goals.{else-there-via-then-there+else-write, else-there-via-else-there}

pub returns-in_err-there : goal.returns-in_err-there
unfolding Exp.item_semi
returns-in_err-there c = present_not c.present.ensures c.in_err-there.was c.from_residual.ensures.1

pub returns-then-write : goal.returns-then-write
unfolding Exp.item_semi bytes
returns-then-write c =
    present_there c.present.ensures c.in_ok-there.was c.if-there.true (last_sure (sure_when c.if-write.true (sure_word c.put.ensures (cc))))

pub returns-else-there : goal.returns-else-there
unfolding Exp.item_semi
returns-else-there c =
    elim c.else-there.branch [
      | else-there-via-then-there+else-write w ↦
          present_there c.present.ensures c.in_ok-there.was w.if-there.true (last_sure (sure_unless _ w.if-write.false))
      | else-there-via-else-there w ↦ present_gone c.present.ensures c.in_ok-there.was w.if-there.false last_skip
    ]
