use Rattle.layout.specs.Helpers as Helpers
use Rattle.text.specs.Bytes.{bytes}
use Rattle.layout.proofs.Steps.{present_there, present_gone, present_not, then_word, then_done, then_stop, last_word}
use Rattle.layout.proofs.helpers.ty_vars_in_parens.Goals as goal

pub returns-in_err-there : goal.returns-in_err-there
unfolding Helpers.in_parens
returns-in_err-there c = present_not c.present.ensures c.in_err-there.was c.from_residual.ensures.1

pub returns-then-not-there : goal.returns-then-not-there
unfolding Helpers.in_parens
returns-then-not-there c = present_gone c.present.ensures c.in_ok-there.was c.if-not-there.true c.ty_vars.ensures

pub returns-in_err-s : goal.returns-in_err-s
unfolding Helpers.in_parens bytes
returns-in_err-s c =
    present_there c.present.ensures c.in_ok-there.was c.if-not-there.false
    (then_word c.put.ensures (cc) (then_stop c.ty_vars-2.ensures c.in_err-s.was c.from_residual-in_err-s.ensures.1))

pub returns : goal.returns
unfolding Helpers.in_parens bytes
returns c =
    present_there c.present.ensures c.in_ok-there.was c.if-not-there.false
    (then_word c.put.ensures (cc) (then_done c.ty_vars-2.ensures c.in_ok-s.was (last_word c.put-2.ensures (cc))))
