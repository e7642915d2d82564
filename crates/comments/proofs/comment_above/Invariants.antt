-- `comments::comment_above` meets its contract. The invariant: the search from the first token is the search over the first `k`
-- tokens behind which this keyword was passed. Assumes nothing.
use mathlib.Core.Path.{◌≡◌}
use Rattle.comments.specs.Above.{above, found_above}
use Rattle.comments.proofs.comment_above.Given as goal

abbrev pub invariant-loop-k : goal.invariant-loop-k
invariant-loop-k l = found_above l.kinds l.first ≡ above l.kinds l.keyword l.k
