-- `program::text_length` meets its contract. Assumes nothing.
use Rattle.std.proofs.Common.{arith}
use Rattle.text.specs.At.{u16}
use Rattle.program.specs.Program.{text_length}
use Rattle.program.proofs.text_length.Goals as goal

pub returns : goal.returns
unfolding text_length u16
returns c = omega (arith, c.from_le_bytes.ensures)
