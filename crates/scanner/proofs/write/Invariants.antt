-- `write` meets its contract. The invariant: the commands of the tokens so far are written. Assumes nothing.
use lib.ListN.{length}
use Rattle.scanner.proofs.WriteLaws.{Wrote}
use Rattle.scanner.proofs.write.Given as goal

abbrev pub invariant-loop-k : goal.invariant-loop-k
invariant-loop-k l = Wrote l.tokens.kinds l.tokens.lengths l.initial.out (length l.yielded) l.out
