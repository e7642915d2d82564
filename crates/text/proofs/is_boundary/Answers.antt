-- `text::is_boundary` meets its contract. Assumes nothing.
use native.Mathlib.Omega.{arith}
use mathlib.Core.Path.{ap, ◌∙◌}
use Rattle.text.specs.Bytes.{between}
use Rattle.text.proofs.Utf8Laws.{boundary_end, boundary_at}
use Rattle.text.proofs.is_boundary.Goals as goal

pub returns-in-Some : goal.returns-in-Some
returns-in-Some c = let k = c.in-Some.ensures.lookup in boundary_at _ _ k.3.0 (c.in_range.ensures ∙ ap (between 0x80 0xBF) (k.4 (omega arith) 0))

pub returns-in-None : goal.returns-in-None
returns-in-None c = boundary_end _ _ c.in-None.ensures.lookup.3
