use Rattle.layout.specs.Layout.{skip}
use Rattle.layout.proofs.Steps.{each_items}
use Rattle.layout.proofs.items.for_each.Goals as goal

pub returns : goal.returns
returns g c keep w hw = each_items _ w (c.joined.ensures keep skip w (λ o i o' i' e. e) hw)
