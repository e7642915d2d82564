use Rattle.layout.specs.Helpers as Helpers
use Rattle.text.specs.Bytes.{bytes}
use Rattle.layout.proofs.Steps.{group_is, group_not, then_done, then_stop, last_word}
use Rattle.layout.proofs.helpers.ty_var_seq_there.Goals as goal

pub returns-in_err-s : goal.returns-in_err-s
unfolding Helpers.ty_var_seq_there
returns-in_err-s c = group_not c.group.ensures c.in_err-s.was c.from_residual.ensures.1

pub returns-in_err-s-2 : goal.returns-in_err-s-2
unfolding Helpers.ty_var_seq_there
returns-in_err-s-2 c =
    group_is c.group.ensures c.in_ok-s.was (then_stop c.ty_vars_in_parens.ensures c.in_err-s-2.was c.from_residual-in_err-s-2.ensures.1)

pub returns : goal.returns
unfolding Helpers.ty_var_seq_there bytes
returns c =
    group_is c.group.ensures c.in_ok-s.was (then_done c.ty_vars_in_parens.ensures c.in_ok-s-2.was (last_word c.put.ensures (cc)))
