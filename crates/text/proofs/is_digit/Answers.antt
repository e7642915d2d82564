-- `text::is_digit` meets its contract, by the class of the byte. Assumes nothing.
use Rattle.text.proofs.Laws.{class_digit}
use Rattle.text.proofs.is_digit.Goals as goal

pub returns : goal.returns
returns c = rw c.class_of.ensures (class_digit c.args.b)
