-- `text::classes` meets its contract, by the rule of the table. Assumes nothing.
use Rattle.text.specs.Bytes.{bytes}
use Rattle.text.proofs.Laws.{table_is}
use Rattle.text.proofs.classes.Goals as goal

pub returns : goal.returns
unfolding bytes
returns c = table_is
