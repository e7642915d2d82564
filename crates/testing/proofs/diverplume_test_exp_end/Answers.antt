use mathlib.Core.Path.{◌∙◌}
use Rattle.testing.proofs.Laws.{ended-is}
use Rattle.testing.proofs.diverplume_test_exp_end.Goals as goal

pub returns : goal.returns
returns c = c.end_numbers.ensures ∙ ended-is _ c.exp_end.ensures.is
