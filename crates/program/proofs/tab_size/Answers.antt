-- `program::tab_size` meets its contract. Assumes nothing.
use Rattle.std.proofs.Common.{arith}
use Rattle.text.specs.At.{u16}
use Rattle.program.specs.Program.{tab_size}
use Rattle.program.proofs.tab_size.Goals as goal

pub returns : goal.returns
unfolding tab_size u16
returns c = omega (arith, c.from_le_bytes.ensures)
