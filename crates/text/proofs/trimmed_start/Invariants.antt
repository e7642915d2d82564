-- `text::trimmed_start` meets its contract. The invariant: what was passed is white space, which trimming the start strips. Assumes nothing.
use mathlib.Core.Path.{◌≡◌}
use lib.ListN.{length}
use Rattle.text.specs.Bytes.{white_space, strip, trim_start}
use Rattle.text.proofs.trimmed_start.Given as goal

abbrev pub invariant-loop-rest : goal.invariant-loop-rest
invariant-loop-rest l = trim_start l.s ≡ strip white_space l.rest

abbrev pub decreases-loop-rest : goal.decreases-loop-rest
decreases-loop-rest l = length l.rest
