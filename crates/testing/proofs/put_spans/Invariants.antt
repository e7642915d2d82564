-- So many spans are copied.
use Rattle.testing.specs.Numbers.{Packs}
use Rattle.testing.proofs.put_spans.Given as goal

abbrev pub invariant-loop-k : goal.invariant-loop-k
invariant-loop-k l = Packs l.spans l.k l.table
