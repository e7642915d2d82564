use native.Mathlib.Omega.{arith}
use mathlib.Core.Path.{sym, ◌∙◌}
use borrow.Author.Tests.{leb-true}
use Rattle.text.proofs.Laws.{never}
use Rattle.reader.proofs.RowLaws.{fits_are}
use Rattle.reader.proofs.tokens.fit.Goals as goal
use Rattle.reader.proofs.tokens.fit.Goals.{then-greatest-le-LAST_KIND, else-greatest-le-LAST_KIND, then-least-ge1, else-least-ge1}

pub returns-then-is_boundary : goal.returns-then-is_boundary
returns-then-is_boundary c =
    let spans = c.spans-then-is_boundary in
    elim c.if-least-ge1.branch [
      | then-least-ge1 w ↦ elim c.if-greatest-le-LAST_KIND.branch [
        | then-greatest-le-LAST_KIND v ↦ λ e.
            fits_are c.kinds.ensures.0 c.greatest.ensures v.if-greatest-le-LAST_KIND.true
            v.spans.result.now v.spans.ensures.1 v.least.ensures (leb-true 1 _ (sym v.value-is ∙ w.if-least-ge1.true))
            (sym w.is_boundary.ensures ∙ sym w.value-is ∙ c.if-is_boundary.true)
            spans.result.now spans.ensures.0 (c.none_inside.ensures e)
        | else-greatest-le-LAST_KIND v ↦ absurd (omega (arith, v.if-greatest-le-LAST_KIND.false, leb-true _ 20 (sym v.value-is ∙ w.if-least-ge1.true)))
      ]
      | else-least-ge1 w ↦ λ e. never (cc)
    ]
