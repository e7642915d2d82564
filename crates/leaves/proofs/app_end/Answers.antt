use Rattle.text.specs.Bytes.{bytes}
use Rattle.layout.proofs.Steps.{sure_then, sure_when, sure_unless, sure_word}
use Rattle.leaves.proofs.app_end.Goals as goal
use Rattle.leaves.proofs.app_end.Goals.{then-needs, else-needs}

pub returns : goal.returns
unfolding bytes
returns c =
    sure_then
    (elim c.if-needs.branch [
      | then-needs w ↦ rw (w.ink-is, w.out-is) (sure_when w.if-needs.true w.indent.ensures)
      | else-needs w ↦ rw (w.ink-is, w.out-is) (sure_unless _ w.if-needs.false)
    ])
    (sure_word c.put.ensures (cc))
