use Rattle.layout.specs.Helpers as Helpers
use Rattle.layout.proofs.Steps.{present_there, present_gone, present_not, last_word, last_skip}
use Rattle.layout.proofs.helpers.word_if.Goals as goal

pub returns-in_err-there : goal.returns-in_err-there
unfolding Helpers.word_if
returns-in_err-there c u e = present_not c.present.ensures c.in_err-there.was c.from_residual.ensures.1

pub returns-then-there : goal.returns-then-there
unfolding Helpers.word_if
returns-then-there c u e = present_there c.present.ensures c.in_ok-there.was c.if-there.true (last_word c.put.ensures e)

pub returns-else-there : goal.returns-else-there
unfolding Helpers.word_if
returns-else-there c u e = present_gone c.present.ensures c.in_ok-there.was c.if-there.false last_skip
