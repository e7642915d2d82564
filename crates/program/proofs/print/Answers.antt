-- `program::print` meets its contract. Assumes nothing.
use Rattle.std.proofs.Common.{arith, ◌+◌, ◌*◌, sym, length-take-le}
use Rattle.program.proofs.PrintingLaws.{shown-declined, shown-accepted, puts-both}
use Rattle.program.proofs.print.Goals as goal

pub returns-in_default : goal.returns-in_default
returns-in_default c = rw (shown-declined c.args.tab c.args.page.now c.in_default.is) c.put_line-n.ensures.puts

pub overflow_mul-len : goal.overflow_mul-len
overflow_mul-len c = rw c.from.ensures (omega (arith, c.requires.text_within _ c.in-Ok.is))

pub overflow_add-len : goal.overflow_add-len
overflow_add-len c = rw c.from.ensures (omega (arith, c.requires.text_within _ c.in-Ok.is))

pub slice_bounds-put-end : goal.slice_bounds-put-end
slice_bounds-put-end c =
    rw c.from.ensures (sym (length-take-le (c.in-Ok.measures.letters + c.args.tab * c.in-Ok.measures.units) c.args.page.now (c.requires.text_within _ c.in-Ok.is)))

pub returns : goal.returns
returns c =
    rw (shown-accepted c.args.tab c.args.page.now c.in-Ok.is)
    (puts-both c.put_line-n.ensures.puts (rw c.from.ensures at c.put.ensures) (omega arith))
