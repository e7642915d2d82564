-- `text::trim` meets its contract: first the start, then the end. Assumes nothing.
use mathlib.Core.Path.{ap, ◌∙◌}
use Rattle.text.specs.Bytes.{trim_end, trim}
use Rattle.text.proofs.trim.Goals as goal

pub returns : goal.returns
unfolding trim
returns c = c.trimmed_end.ensures ∙ ap trim_end c.trimmed_start.ensures
