use native.Mathlib.Omega.{arith}
use mathlib.Core.Path.{◌∙◌}
use Rattle.reader.proofs.RowLaws.{laid_tiles}
use Rattle.reader.proofs.tokens.read_tokens.Goals as goal

pub returns-then-fit : goal.returns-then-fit
returns-then-fit c =
    rw c.count-end.ensures.0
    (laid_tiles c.lay_row-sum.ensures (c.fit.ensures c.if-fit.true) c.if-sum-size.true (omega (arith, c.ranges.size))
    (λ e. c.if-byte_at-ne5.true (c.byte_at.ensures ∙ (rw (← c.count-end.ensures.0) at e))))
