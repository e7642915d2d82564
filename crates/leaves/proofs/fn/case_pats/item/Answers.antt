use Rattle.layout.proofs.Steps.{then_word}
use Rattle.text.specs.Bytes.{bytes}
use Rattle.leaves.proofs.fn.case_pats.item.Goals as goal

pub returns : goal.returns
unfolding bytes
returns c = then_word c.put.ensures (cc) c.get_pat.ensures
