-- `text::class_of` meets its contract, by the rule of the table. Assumes nothing.
use native.Mathlib.Omega.{arith}
use Rattle.text.specs.Bytes.{bytes}
use Rattle.text.proofs.Laws.{class_at}
use Rattle.text.proofs.class_of.Goals as goal

pub returns : goal.returns
unfolding bytes
returns c = class_at c.args.b (omega arith)
