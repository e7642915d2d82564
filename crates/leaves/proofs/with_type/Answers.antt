use Rattle.layout.proofs.Steps.{group_is, group_not, maybe_past, maybe_there, then_both, then_word}
use Rattle.layout.specs.DecOne as DecOne
use Rattle.text.specs.Bytes.{bytes}
use Rattle.leaves.proofs.with_type.Goals as goal

pub returns-in-Some : goal.returns-in-Some
unfolding DecOne.with_type
returns-in-Some c = maybe_past c.absent.ensures c.in-Some.is

pub returns-in_err-s1 : goal.returns-in_err-s1
unfolding DecOne.with_type
returns-in_err-s1 c = maybe_there c.absent.ensures c.in_default.is (group_not c.group.ensures c.in_err-s1.was c.from_residual.ensures.1)

pub returns : goal.returns
unfolding DecOne.with_type DecOne.comment_line bytes
returns c =
    maybe_there c.absent.ensures c.in_default.is
    (group_is c.group.ensures c.in_ok-s1.was (then_both c.line.ensures (then_word c.put.ensures (cc) c.ty_binds.ensures)))
