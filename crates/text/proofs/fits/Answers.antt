-- `text::fits` meets its contract: range by range. Assumes nothing.
use native.Mathlib.Omega.{arith}
use mathlib.Core.Path.{sym, ◌∙◌}
use Rattle.text.proofs.Utf8Laws.{row_short, row_end, row_in, row_out}
use Rattle.text.proofs.fits.Goals as goal

pub returns-then-s : goal.returns-then-s
returns-then-s g c = row_short _ _ (omega (arith, c.told-row))

pub returns-then-not-in_range : goal.returns-then-not-in_range
returns-then-not-in_range g c = sym (c.loop-i.invariant ∙ row_out c.args.row.now c.args.s.now c.loop-i.i (omega (arith, c.told-row)) (omega arith) c.in_range.ensures c.if-not-in_range.true)

pub loop-i-preserved : goal.loop-i-preserved
loop-i-preserved g c = c.loop-i.invariant ∙ row_in c.args.row.now c.args.s.now c.loop-i.i (omega (arith, c.told-row)) (omega arith) c.in_range.ensures c.if-not-in_range.false

pub returns : goal.returns
returns g c = sym (c.loop-i.invariant ∙ row_end c.args.row.now c.args.s.now c.loop-i.i (omega (arith, c.told-row)))
