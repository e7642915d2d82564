use mathlib.Core.Path.{◌∙◌}
use Rattle.testing.proofs.Laws.{tabled}
use Rattle.testing.proofs.put_tokens.Goals as goal

pub returns : goal.returns
returns c =
    tabled _ (c.count.ensures.2 ∙ c.count.ensures.0) c.spans.ensures.2 c.spans.ensures.0 c.spans.ensures.1
    (c.copy_from_slice.ensures.after ∙ c.kinds.ensures.0) c.put_spans.ensures
