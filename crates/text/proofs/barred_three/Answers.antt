-- `text::barred_three` meets its contract. Assumes nothing.
use borrow.Author.Tests.{eqb-false}
use mathlib.Core.Path.{sym, ◌∙◌}
use Rattle.text.proofs.WholeLaws.{inside, outside}
use Rattle.text.proofs.barred_three.Goals as goal

pub returns-then-in_range : goal.returns-then-in_range
returns-then-in_range c = λ z. ((λ g. absurd (eqb-false _ _ z g)), λ g. (inside 0x80 0x9F _ (sym c.in_range.ensures ∙ c.if-in_range.true)).1)

pub returns-else-in_range : goal.returns-else-in_range
returns-else-in_range c = λ z. ((λ g. outside 0x80 0x9F _ (sym c.in_range.ensures ∙ c.if-in_range.false)), λ g. absurd (eqb-false _ _ z g))
