-- `text::is_space_behind_80` meets its contract. Assumes nothing.
use native.Mathlib.Omega.{arith}
use mathlib.Core.Path.{refl, sym, ◌∙◌}
use mathlib.Core.Bool.{false≢true}
use Rattle.text.proofs.Laws.{or_true, or_false}
use Rattle.text.proofs.SpaceLaws.{behind-80}
use Rattle.text.proofs.is_space_behind_80.Goals as goal
use Rattle.text.proofs.is_space_behind_80.Goals.{then-in_range, else-in_range}

pub returns-then-in_range-2 : goal.returns-then-in_range-2
returns-then-in_range-2 c =
    (elim c.if-in_range.branch [
      | then-in_range w ↦ w.value-is ∙ or_true _ c.in_range.ensures w.if-in_range.true
      | else-in_range w ↦ or_false c.in_range.ensures w.if-in_range.false (or_true _ (w.value-is ∙ w.in_range-else-in_range.ensures) c.if-in_range-2.true)
    ])
    ∙ behind-80 _ (omega arith)

pub returns-else-in_range-2 : goal.returns-else-in_range-2
returns-else-in_range-2 c =
    (elim c.if-in_range.branch [
      | then-in_range w ↦ absurd (false≢true (sym c.if-in_range-2.false ∙ w.value-is ∙ w.if-in_range.true))
      | else-in_range w ↦ or_false c.in_range.ensures w.if-in_range.false (or_false (w.value-is ∙ w.in_range-else-in_range.ensures) c.if-in_range-2.false refl)
    ])
    ∙ behind-80 _ (omega arith)
