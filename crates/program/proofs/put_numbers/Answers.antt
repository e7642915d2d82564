-- `program::put_numbers` meets its contract. Assumes nothing.
use native.Mathlib.Omega.{arith}
use Rattle.program.proofs.PrintingLaws.{puts-both, line-parts}
use Rattle.program.proofs.put_numbers.Goals as goal

pub returns : goal.returns
returns c =
    let a = c.put_number-a.ensures in
    let b = c.put_number-b.ensures in
    let d = c.put_number-c.ensures in
    let e = c.put_number-d.ensures in
    let f = c.put_number.ensures in
    record {
      puts = rw line-parts
          (puts-both
          (puts-both (puts-both (puts-both a.puts b.puts (omega arith)) d.puts (omega arith)) e.puts (omega arith))
          f.puts
          (omega arith));
      short = omega (arith, a.upper_bound, b.upper_bound, d.upper_bound, e.upper_bound, f.upper_bound);
    }
