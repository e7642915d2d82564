use Rattle.text.specs.Bytes.{bytes}
use Rattle.layout.specs.Helpers as Helpers
use Rattle.layout.proofs.Steps.{then_word, last_word, name_yes, name_no, name_not}
use Rattle.layout.proofs.helpers.op.Goals as goal

pub returns-in_err-group : goal.returns-in_err-group
unfolding Helpers.op
returns-in_err-group c = name_not c.group.ensures c.in_err-group.was c.from_residual.ensures.1

pub returns-then-alphanumeric_name : goal.returns-then-alphanumeric_name
unfolding Helpers.op bytes
returns-then-alphanumeric_name c =
    name_yes c.group.ensures c.in_ok-group.was c.alphanumeric_name.ensures c.if-alphanumeric_name.true
    (then_word c.put.ensures (cc) (last_word c.put-then-alphanumeric_name.ensures (cc)))

pub returns-else-alphanumeric_name : goal.returns-else-alphanumeric_name
unfolding Helpers.op bytes
returns-else-alphanumeric_name c =
    name_no c.group.ensures c.in_ok-group.was c.alphanumeric_name.ensures c.if-alphanumeric_name.false (last_word c.put.ensures (cc))
