use Rattle.text.specs.Bytes.{bytes}
use Rattle.layout.specs.DecOne.{comment_line}
use Rattle.layout.proofs.Steps.{sure_then, sure_word}
use Rattle.layout.proofs.helpers.line.Goals as goal

pub returns : goal.returns
unfolding comment_line bytes
returns c = sure_then (sure_word c.put.ensures (cc)) c.indent.ensures
