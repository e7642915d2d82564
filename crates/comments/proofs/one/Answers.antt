-- `comments::one` meets its contract. Assumes nothing.
use native.Mathlib.Omega.{arith}
use Rattle.comments.proofs.Eights.{one_set, one-unset}
use Rattle.comments.proofs.one.Goals as goal

pub returns-then-kinds-k-eq1 : goal.returns-then-kinds-k-eq1
returns-then-kinds-k-eq1 c = (one_set _ _ c.if-kinds-k-eq1.true, omega arith)

pub returns : goal.returns
returns c = (one-unset _ _ c.if-kinds-k-eq1.false, omega arith)
