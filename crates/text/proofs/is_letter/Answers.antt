-- `text::is_letter` meets its contract, by the class of the byte. Assumes nothing.
use Rattle.text.proofs.Laws.{class_letter}
use Rattle.text.proofs.is_letter.Goals as goal

pub returns : goal.returns
returns c = rw c.class_of.ensures (class_letter c.args.b)
