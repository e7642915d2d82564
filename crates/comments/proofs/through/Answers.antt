-- `comments::through` meets its contract: the tokens past the last are neither comments nor keywords. Assumes nothing.
use native.Mathlib.Omega.{arith}
use Rattle.comments.proofs.Search.{up_to}
use Rattle.comments.proofs.through.Goals as goal

pub returns : goal.returns
returns c = up_to _ _ _ (omega arith)
