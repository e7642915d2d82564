-- `gap` meets its contract. Assumes nothing.
use native.Mathlib.Omega.{arith}
use mathlib.Core.Path.{sym, ◌∙◌}
use Rattle.scanner.proofs.ReachLaws.{first-inside}
use Rattle.scanner.proofs.StringLaws.{gap-shut, gap-open}
use Rattle.scanner.proofs.strings.gap.Goals as goal

pub overflow_add-result : goal.overflow_add-result
overflow_add-result c = omega (arith, first-inside _ c.args.s.now c.spaces-at.result (sym c.stands.ensures ∙ c.if-not-stands.false))

pub returns : goal.returns
returns c = let a = c.args in gap-shut a.s.now a.from c.spaces-at.result c.spaces-at.ensures (sym c.stands.ensures ∙ c.if-not-stands.false)

pub returns-then-not-stands : goal.returns-then-not-stands
returns-then-not-stands c = let a = c.args in gap-open a.s.now a.from c.spaces-at.result c.spaces-at.ensures (sym c.stands.ensures ∙ c.if-not-stands.true)
