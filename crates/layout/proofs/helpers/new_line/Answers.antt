use Rattle.text.specs.Bytes.{bytes}
use Rattle.layout.specs.Helpers as Helpers
use Rattle.layout.proofs.Steps.{sure_then, sure_word}
use Rattle.layout.proofs.helpers.new_line.Goals as goal

pub returns : goal.returns
unfolding Helpers.new_line bytes
returns c u e = sure_then (sure_word c.put.ensures (cc)) (sure_then c.blank.ensures (sure_then c.indent.ensures (sure_word c.put-2.ensures e)))
