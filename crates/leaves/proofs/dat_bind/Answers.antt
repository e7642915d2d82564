use Rattle.layout.proofs.Steps.{group_is, group_not, list_is, list_not, then_done, then_stop}
use Rattle.layout.specs.DecOne as DecOne
use Rattle.leaves.proofs.dat_bind.Goals as goal

pub returns-in_err-s1 : goal.returns-in_err-s1
unfolding DecOne.dat_bind
returns-in_err-s1 c = group_not c.group.ensures c.in_err-s1.was c.from_residual.ensures.1

pub returns-in_err-s2 : goal.returns-in_err-s2
unfolding DecOne.dat_bind
returns-in_err-s2 c =
    group_is c.group.ensures c.in_ok-s1.was (then_stop c.ty_var_seq.ensures c.in_err-s2.was c.from_residual-in_err-s2.ensures.1)

pub returns-in_err-s3 : goal.returns-in_err-s3
unfolding DecOne.dat_bind
returns-in_err-s3 c =
    group_is c.group.ensures c.in_ok-s1.was
    (then_done c.ty_var_seq.ensures c.in_ok-s2.was (then_stop c.text_of.ensures c.in_err-s3.was c.from_residual-in_err-s3.ensures.1))

pub returns-in_err-s4 : goal.returns-in_err-s4
unfolding DecOne.dat_bind
returns-in_err-s4 c =
    group_is c.group.ensures c.in_ok-s1.was
    (then_done c.ty_var_seq.ensures c.in_ok-s2.was
    (then_done c.text_of.ensures c.in_ok-s3.was (group_not c.group-2.ensures c.in_err-s4.was c.from_residual-in_err-s4.ensures.1)))

pub returns-in_err-n : goal.returns-in_err-n
unfolding DecOne.dat_bind
returns-in_err-n c =
    group_is c.group.ensures c.in_ok-s1.was
    (then_done c.ty_var_seq.ensures c.in_ok-s2.was
    (then_done c.text_of.ensures c.in_ok-s3.was
    (group_is c.group-2.ensures c.in_ok-s4.was (list_not c.list.ensures c.in_err-n.was c.from_residual-in_err-n.ensures.1))))

pub returns : goal.returns
unfolding DecOne.dat_bind
returns c =
    group_is c.group.ensures c.in_ok-s1.was
    (then_done c.ty_var_seq.ensures c.in_ok-s2.was
    (then_done c.text_of.ensures c.in_ok-s3.was
    (group_is c.group-2.ensures c.in_ok-s4.was (list_is c.list.ensures c.in_ok-n.was c.con_binds.ensures))))
