-- `text::is_space_pair` meets its contract. Assumes nothing.
use mathlib.Core.Path.{sym, ◌∙◌}
use borrow.Author.Tests.{eq-eqb, ne_eqb}
use Rattle.text.proofs.SpaceLaws.{pair-c2, pair-other}
use Rattle.text.proofs.is_space_pair.Goals as goal

pub returns-then-b-eq133 : goal.returns-then-b-eq133
returns-then-b-eq133 c = rw c.if-a-eq194.true (sym (pair-c2 _ ∙ rw (eq-eqb _ 0x85 c.if-b-eq133.true)))

pub returns-else-b-eq133 : goal.returns-else-b-eq133
returns-else-b-eq133 c = rw c.if-a-eq194.true (sym (pair-c2 _ ∙ rw (ne_eqb _ 0x85 c.if-b-eq133.false)))

pub returns-else-a-eq194 : goal.returns-else-a-eq194
returns-else-a-eq194 c = ne_eqb _ 0xC2 c.if-a-eq194.false ∙ sym (pair-other _ _ c.if-a-eq194.false)
