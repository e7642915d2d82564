use Rattle.layout.proofs.Steps.{group_is, group_not, maybe_past, maybe_there, then_done, then_stop, then_word}
use Rattle.layout.specs.DecOne as DecOne
use Rattle.text.specs.Bytes.{bytes}
use Rattle.leaves.proofs.ty_bind.Goals as goal

pub returns-in_err-s1 : goal.returns-in_err-s1
unfolding DecOne.ty_bind
returns-in_err-s1 c = group_not c.group.ensures c.in_err-s1.was c.from_residual.ensures.1

pub returns-in_err-s2 : goal.returns-in_err-s2
unfolding DecOne.ty_bind
returns-in_err-s2 c =
    group_is c.group.ensures c.in_ok-s1.was (then_stop c.ty_var_seq.ensures c.in_err-s2.was c.from_residual-in_err-s2.ensures.1)

pub returns-in_err-s3 : goal.returns-in_err-s3
unfolding DecOne.ty_bind
returns-in_err-s3 c =
    group_is c.group.ensures c.in_ok-s1.was
    (then_done c.ty_var_seq.ensures c.in_ok-s2.was (then_stop c.text_of.ensures c.in_err-s3.was c.from_residual-in_err-s3.ensures.1))

pub returns-in-Some : goal.returns-in-Some
unfolding DecOne.ty_bind
returns-in-Some c =
    group_is c.group.ensures c.in_ok-s1.was
    (then_done c.ty_var_seq.ensures c.in_ok-s2.was (then_done c.text_of.ensures c.in_ok-s3.was (maybe_past c.absent.ensures c.in-Some.is)))

pub returns-in_err-s5 : goal.returns-in_err-s5
unfolding DecOne.ty_bind
returns-in_err-s5 c =
    group_is c.group.ensures c.in_ok-s1.was
    (then_done c.ty_var_seq.ensures c.in_ok-s2.was
    (then_done c.text_of.ensures c.in_ok-s3.was
    (maybe_there c.absent.ensures c.in_default.is (group_not c.group-2.ensures c.in_err-s5.was c.from_residual-in_err-s5.ensures.1))))

pub returns : goal.returns
unfolding DecOne.ty_bind bytes
returns c =
    group_is c.group.ensures c.in_ok-s1.was
    (then_done c.ty_var_seq.ensures c.in_ok-s2.was
    (then_done c.text_of.ensures c.in_ok-s3.was
    (maybe_there c.absent.ensures c.in_default.is
    (group_is c.group-2.ensures c.in_ok-s5.was (then_word c.put.ensures (cc) c.get_ty.ensures)))))
