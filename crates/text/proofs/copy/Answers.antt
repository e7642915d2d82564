use native.Mathlib.Omega.{arith}
use mathlib.Core.Path.{◌∙◌}
use lib.ListN.{length-set}
use Rattle.text.proofs.Laws.{copied_more}
use Rattle.text.proofs.copy.Goals as goal

pub loop-j-preserved : goal.loop-j-preserved
loop-j-preserved c = let at = c in (omega arith, copied_more at.args.out.now at.loop-j.out at.args.piece.now at.args.at at.loop-j.j at.loop-j.invariant.1 (omega (arith, at.requires)) c.loop-j-test.true, length-set at.loop-j.out _ _ ∙ at.loop-j.invariant.2)
