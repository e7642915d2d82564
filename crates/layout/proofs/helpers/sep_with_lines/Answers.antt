use Rattle.layout.specs.Helpers as Helpers
use Rattle.layout.proofs.helpers.sep_with_lines.Goals as goal

pub returns : goal.returns
unfolding Helpers.sep_with_lines
returns g c keep u w hu hw = c.joined.ensures keep (Helpers.new_line _ u) w (λ o i o' i' e. e u hu) hw
