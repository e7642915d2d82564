use Prim.Native.Nat.{◌-◌}
use Rattle.text.specs.Utf8.{boundary}
use Rattle.reader.specs.Tokens.{count_of}
use Rattle.reader.proofs.TokenLaws.{Filled}
use Rattle.reader.proofs.tokens.fill.Given as goal

abbrev pub invariant-loop-kind : goal.invariant-loop-kind
invariant-loop-kind l = Filled (boundary l.text) l.size l.rec l.tokens l.start l.at

abbrev pub decreases-loop-kind : goal.decreases-loop-kind
decreases-loop-kind l = 4096 - count_of l.tokens
