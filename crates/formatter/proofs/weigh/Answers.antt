use native.Mathlib.Omega.{arith}
use mathlib.Core.Path.{sym, ◌∙◌}
use borrow.Author.Tests.{eqb-true, eqb-false}
use Rattle.comments.proofs.Words.{count_none, none-count}
use Rattle.formatter.proofs.JudgeLaws.{ends-elsewhere, behind, weigh-other, weigh-comments, weigh-accepts}
use Rattle.formatter.proofs.weigh.Goals as goal
use Rattle.formatter.proofs.weigh.Goals.{in_default-via-in-Ok+else-end-page, in_default-via-in_default}

pub by_check-requires : goal.by_check-requires
by_check-requires c =
    elim c.in_default.branch [
      | in_default-via-in-Ok+else-end-page w ↦ rw (w.walked-is ∙ sym w.in-Ok.is) (behind c.walk-walked.ensures)
      | in_default-via-in_default w ↦ rw w.walked-is (behind c.walk-walked.ensures)
    ]

pub returns-in_default : goal.returns-in_default
returns-in_default c =
    elim c.in_default.branch [
      | in_default-via-in-Ok+else-end-page w ↦ weigh-other c.walk-walked.ensures (ends-elsewhere w.in-Ok.is w.if-end-page.false) (rw (w.walked-is ∙ sym w.in-Ok.is) at c.by_check.ensures) c.requires.none_left
      | in_default-via-in_default w ↦ weigh-other c.walk-walked.ensures (w.in_default.not-Ok _) (rw w.walked-is at c.by_check.ensures) c.requires.none_left
    ]

pub returns-then-is_empty : goal.returns-then-is_empty
returns-then-is_empty c =
    let none_left = count_none _ _ _ (eqb-true _ 0 (sym c.is_empty.ensures ∙ c.if-is_empty.true)) in
    weigh-accepts c.walk-walked.ensures (omega (arith, c.ranges.tab)) c.requires.limits c.all.ensures (rw c.if-end-page.true at c.in-Ok.is) (omega arith) c.letters.ensures c.walk-walked.auto.out none_left

pub unreachable-requires : goal.unreachable-requires
unreachable-requires c =
    eqb-false _ 0 (sym c.is_empty.ensures ∙ c.if-is_empty.false) (none-count _ _ _ (sym c.first.ensures ∙ c.in_default-first.is))

pub returns : goal.returns
returns c =
    weigh-comments c.walk-walked.ensures (omega (arith, c.ranges.tab)) c.requires.limits c.all.ensures (rw c.if-end-page.true at c.in-Ok.is) (sym c.first.ensures ∙ c.in-Some.is) c.span.ensures.0
