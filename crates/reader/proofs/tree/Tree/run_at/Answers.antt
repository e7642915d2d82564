-- `run_at` meets its contract.
use mathlib.Core.Path.{sym, ◌∙◌}
use Rattle.reader.proofs.FieldLaws.{list_none, list_some, field_absent, field_item}
use Rattle.reader.proofs.tree.Tree.run_at.Goals as goal

pub returns-in_err-list_at : goal.returns-in_err-list_at
returns-in_err-list_at c = rw c.from_residual.ensures (list_none c.if-code-ge-LIST.true (sym c.list_at.ensures ∙ c.in_err-list_at.was))

pub returns-then-code-ge-LIST : goal.returns-then-code-ge-LIST
returns-then-code-ge-LIST c = list_some c.if-code-ge-LIST.true (sym c.list_at.ensures ∙ c.in_ok-list_at.was)

pub returns-then-absent_at : goal.returns-then-absent_at
returns-then-absent_at c = field_absent c.if-code-ge-LIST.false (sym c.absent_at.ensures ∙ c.if-absent_at.true)

pub returns : goal.returns
returns c = field_item c.if-code-ge-LIST.false (sym c.absent_at.ensures ∙ c.if-absent_at.false)
