use Rattle.layout.specs.Helpers as Helpers
use Rattle.layout.proofs.Steps.{maybe_past, maybe_there}
use Rattle.layout.proofs.helpers.ty_var_seq.Goals as goal

pub returns-in-Some : goal.returns-in-Some
unfolding Helpers.ty_var_seq
returns-in-Some c = maybe_past c.absent.ensures c.in-Some.is

pub returns : goal.returns
unfolding Helpers.ty_var_seq
returns c = maybe_there c.absent.ensures c.in_default.is c.ty_var_seq_there.ensures
