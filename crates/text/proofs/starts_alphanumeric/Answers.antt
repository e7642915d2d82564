-- `text::starts_alphanumeric` meets its contract, from what `is_alphanumeric` ensures of the first byte. Assumes nothing.
use native.Mathlib.Omega.{arith}
use mathlib.Core.Path.{sym, ◌∙◌}
use Rattle.text.proofs.Laws.{first-none, first-at}
use Rattle.text.proofs.starts_alphanumeric.Goals as goal

pub returns-in-empty : goal.returns-in-empty
returns-in-empty c = sym (first-none _ _ (omega arith))

pub returns-in-len1-up : goal.returns-in-len1-up
returns-in-len1-up c = c.is_alphanumeric.ensures ∙ sym (first-at _ _ (λ e. omega (arith, e)))
