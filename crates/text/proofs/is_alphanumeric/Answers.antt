-- `text::is_alphanumeric` meets its contract, by the class of the byte. Assumes nothing.
use Rattle.text.proofs.Laws.{class_other}
use Rattle.text.proofs.is_alphanumeric.Goals as goal

pub returns : goal.returns
returns c = rw c.class_of.ensures (class_other c.args.b)
