-- `text::is_space` meets its contract, from what `in_range` ensures. Assumes nothing.
use mathlib.Core.Path.{refl}
use Rattle.text.specs.Bytes.{is_space}
use Rattle.text.proofs.Laws.{or_true, or_false}
use Rattle.text.proofs.is_space.Goals as goal

pub returns-then-in_range : goal.returns-then-in_range
unfolding is_space
returns-then-in_range c = or_true _ c.in_range.ensures c.if-in_range.true

pub returns-else-in_range : goal.returns-else-in_range
unfolding is_space
returns-else-in_range c = or_false c.in_range.ensures c.if-in_range.false refl
