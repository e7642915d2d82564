use mathlib.Core.Path.{◌∙◌}
use Rattle.text.proofs.Laws.{same-is}
use Rattle.text.proofs.same.Goals as goal

pub returns : goal.returns
returns c = c.eq.ensures ∙ same-is c.args.a.now c.args.b.now
