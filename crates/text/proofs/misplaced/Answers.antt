-- `text::misplaced` meets its contract: it is false only where each part is. Assumes nothing.
use native.Mathlib.Omega.{arith}
use borrow.Author.Tests.{eq-eqb}
use mathlib.Core.Path.{sym, ◌∙◌}
use Rattle.text.proofs.WholeLaws.{outside, neither, not_both}
use Rattle.text.proofs.misplaced.Goals as goal

pub returns : goal.returns
returns c = λ z.
    let p = neither _ _ z in
    let q = neither _ _ p.0 in
    let r = neither _ _ q.0 in
    let barred = c.barred_three.ensures q.1 in
    record {
      asked = c.unasked.ensures r.0;
      overlong_two = λ g. let h = outside 0xC0 0xC1 c.args.d (sym c.in_range.ensures ∙ r.1) g in omega (arith, h);
      overlong_three = barred.0;
      surrogate = barred.1;
      overlong_four = λ g l. let h = outside 0x80 0x8F c.args.d (sym c.in_range-2.ensures ∙ not_both _ _ p.1 (eq-eqb _ _ g)) l in omega (arith, h);
    }
