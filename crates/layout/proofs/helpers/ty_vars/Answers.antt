use Rattle.layout.specs.Helpers as Helpers
use Rattle.text.specs.Bytes.{bytes}
use Rattle.layout.proofs.helpers.ty_vars.Goals as goal

pub returns : goal.returns
unfolding Helpers.ty_vars bytes
returns c = c.sep.ensures _ _ _ (cc) (λ o i a r o' i' e. e)
