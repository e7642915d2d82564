-- `u16_at` meets its contract.
use Rattle.text.proofs.AtLaws.{u16-past}
use Rattle.text.specs.At.{u16}
use Rattle.text.proofs.at.u16_at.Goals as goal

pub returns-then-at-s : goal.returns-then-at-s
unfolding u16
returns-then-at-s c = simp (c.two.ensures.value, c.byte_at-then-at-s.ensures, c.byte_at.ensures)

pub returns : goal.returns
returns c = u16-past c.args.s.now c.args.at c.if-at-s.false
