use Rattle.text.specs.Bytes.{bytes}
use Rattle.layout.specs.Ty as Ty
use Rattle.layout.proofs.Steps.{group_is, group_not, then_word}
use Rattle.types.proofs.ty_annotation_there.Goals as goal

pub returns-in_err-s1 : goal.returns-in_err-s1
unfolding Ty.ty_annotation_there
returns-in_err-s1 c = group_not c.group.ensures c.in_err-s1.was c.from_residual.ensures.1

pub returns : goal.returns
unfolding Ty.ty_annotation_there bytes
returns c = group_is c.group.ensures c.in_ok-s1.was (then_word c.put.ensures (cc) c.get_ty.ensures)
