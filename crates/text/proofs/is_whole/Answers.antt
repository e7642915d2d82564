-- `text::is_whole` meets its contract: the first and the last bytes, and each behind three others. Assumes nothing.
use mathlib.Core.Path.{sym}
use lib.Seq.{length-take-le}
use Rattle.text.proofs.WholeLaws.{none_asked, follows-whole, first-narrow}
use Rattle.text.proofs.is_whole.Goals as goal

pub slice_bounds-greatest-end : goal.slice_bounds-greatest-end
slice_bounds-greatest-end c = sym (length-take-le 3 c.args.s.now c.if-n-lt3.false)

pub returns : goal.returns
returns c = λ e.
    let last = none_asked _ _ _ 0 c.asked.ensures c.if-asked.false in
    follows-whole c.args.s.now c.requires (c.all_follow.ensures e) last.2 last.1 last.0 c.if-n-lt3.false (first-narrow c.args.s.now _ c.if-n-lt3.false c.greatest.ensures c.if-greatest-ge128.false)
