-- `text::trimmed_end` meets its contract. The invariant: what was passed is white space, which trimming the end strips. Assumes nothing.
use mathlib.Core.Path.{◌≡◌}
use mathlib.Core.List.{map, reverse}
use lib.ListN.{length}
use Rattle.text.specs.Bytes.{white_space, strip, trim_end}
use Rattle.text.proofs.trimmed_end.Given as goal

abbrev pub invariant-loop-rest : goal.invariant-loop-rest
invariant-loop-rest l = trim_end l.s ≡ reverse (strip (map reverse white_space) (reverse l.rest))

abbrev pub decreases-loop-rest : goal.decreases-loop-rest
decreases-loop-rest l = length l.rest
