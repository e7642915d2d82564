-- `program::put_number` meets its contract. Assumes nothing.
use Rattle.std.proofs.Common.{arith}
use Rattle.program.proofs.PrintingLaws.{decimal-is, puts-both}
use Rattle.program.proofs.put_number.Goals as goal

pub returns-clause-puts : goal.returns-clause-puts
returns-clause-puts c =
    rw (decimal-is c.args.n (omega arith), ← c.format.ensures.text, ← c.as_bytes.ensures.value)
    (puts-both c.put-next.ensures c.put.ensures (omega (arith, c.requires)))
