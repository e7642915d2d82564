use Rattle.text.specs.Bytes.{bytes}
use Rattle.layout.proofs.Steps.{sure_when, sure_unless, sure_word}
use Rattle.layout.proofs.helpers.blank.Goals as goal

pub returns-then-cfg : goal.returns-then-cfg
unfolding bytes
returns-then-cfg c = sure_when c.if-cfg.true (sure_word c.put.ensures (cc))

pub returns-else-cfg : goal.returns-else-cfg
returns-else-cfg c = sure_unless _ c.if-cfg.false
