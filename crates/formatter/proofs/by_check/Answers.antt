use mathlib.Core.Path.{sym, ◌∙◌}
use Rattle.formatter.proofs.JudgeLaws.{passes, check-ok, check-err}
use Rattle.formatter.proofs.by_check.Goals as goal

pub stop-requires : goal.stop-requires
stop-requires c = c.requires.is _ (passes _ (sym c.in-Ok.is ∙ rw c.count.ensures at c.tree_end.ensures.is))

pub returns-in-Ok : goal.returns-in-Ok
returns-in-Ok c = check-ok _ c.stop.ensures (sym c.in-Ok.is ∙ rw c.count.ensures at c.tree_end.ensures.is)

pub returns-in-Err : goal.returns-in-Err
returns-in-Err c = check-err _ _ (sym c.in-Err.is ∙ rw c.count.ensures at c.tree_end.ensures.is)
