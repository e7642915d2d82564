use Rattle.std.proofs.Common.{◌∷◌, [], refl, arith}
use Rattle.layout.specs.Walk.{walks}
use Rattle.layout.specs.DecOne as DecOne
use Rattle.layout.proofs.Knot.{at_key, beyond}
use Rattle.leaves.proofs.case_head_of.Goals as goal

pub returns-in-0 : goal.returns-in-0
unfolding DecOne.case_head
returns-in-0 c = at_key (DecOne.case_head (walks c.args.cfg.nesting)) c.in-0.is c.prefix_head.ensures

pub returns-in-1 : goal.returns-in-1
unfolding DecOne.case_head
returns-in-1 c = at_key (DecOne.case_head (walks c.args.cfg.nesting)) c.in-1.is c.infix_head.ensures

pub returns-in_default : goal.returns-in_default
unfolding DecOne.case_head
returns-in_default c =
    let ws = walks c.args.cfg.nesting in
    beyond (DecOne.PrefixFunBindCaseHead ws ∷ DecOne.InfixFunBindCaseHead ws ∷ []) refl (omega arith)
