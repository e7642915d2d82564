use mathlib.Core.Path.{refl}
use Rattle.layout.proofs.Steps.{above_skip, above_none, above_some}
use Rattle.layout.proofs.helpers.comment_above.Goals as goal

pub returns-in_default : goal.returns-in_default
returns-in_default c = above_skip c.in_default.is

pub returns-in_default-comment_above : goal.returns-in_default-comment_above
returns-in_default-comment_above c = above_none c.in-Some.is refl c.comment_above.ensures c.in_default-comment_above.is

pub returns : goal.returns
returns c = above_some c.in-Some.is refl c.comment_above.ensures c.in-Some-comment_above.is c.comment.ensures c.line.ensures
