use Rattle.layout.specs.Layout.{word}
use Rattle.layout.specs.Helpers.{sep}
use Rattle.layout.proofs.Steps.{sure_word}
use Rattle.layout.proofs.items.sep.Goals as goal

pub returns : goal.returns
unfolding sep
returns g c keep u w hu hw = c.joined.ensures keep (word u) w (λ o i o' i' e. sure_word e hu) hw
