-- `walk` does what `get_dec` of the list of declarations says.
use Rattle.layout.specs.Walk.{top}
use Rattle.walk.proofs.walk.Goals as goal

pub returns : goal.returns
unfolding top
returns c = c.get_dec.ensures
