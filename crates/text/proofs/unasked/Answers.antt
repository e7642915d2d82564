-- `text::unasked` meets its contract. Assumes nothing.
use Rattle.text.proofs.WholeLaws.{asked_is}
use Rattle.text.proofs.unasked.Goals as goal

pub returns : goal.returns
returns c = asked_is c.args.a c.args.b c.args.c c.args.d c.asked.ensures c.in_range.result c.in_range.ensures
