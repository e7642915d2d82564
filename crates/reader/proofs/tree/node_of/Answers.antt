-- `node_of` meets its contract.
use mathlib.Core.Path.{refl, ap, sym}
use native.Mathlib.Omega.{arith}
use Rattle.reader.proofs.TreeLaws.{stands_same, stands_choice}
use Rattle.reader.proofs.GrammarLaws.{within, group_row, token_code}
use Rattle.reader.specs.Fields.{forms, PatRowInner, FunBindCaseHead, ExBindInner, FunctorArg, AppStrExpArg}
use Rattle.reader.specs.Promises.Grammar.{node, nodes, groups, held, up_to, rows, inside}
use Rattle.reader.proofs.tree.node_of.Goals as goal

pub returns-in-1-to-34 : goal.returns-in-1-to-34
unfolding rows forms held up_to inside groups
returns-in-1-to-34 c = stands_same _ _ (sym (group_row c.args.code (λ z. omega arith) (omega arith)))

pub returns-in-41 : goal.returns-in-41
unfolding node nodes groups held up_to rows forms inside
returns-in-41 c = stands_choice _ _ _ (ap node (sym c.in-41.is)) (within _ (held PatRowInner) refl refl)

pub returns-in-42 : goal.returns-in-42
unfolding node nodes groups held up_to rows forms inside
returns-in-42 c = stands_choice _ _ _ (ap node (sym c.in-42.is)) (within _ (held FunBindCaseHead) refl refl)

pub returns-in-43 : goal.returns-in-43
unfolding node nodes groups held up_to rows forms inside
returns-in-43 c = stands_choice _ _ _ (ap node (sym c.in-43.is)) (within _ (held ExBindInner) refl refl)

pub returns-in-44 : goal.returns-in-44
unfolding node nodes groups held up_to rows forms inside
returns-in-44 c = stands_choice _ _ _ (ap node (sym c.in-44.is)) (within _ (held FunctorArg) refl refl)

pub returns-in-45 : goal.returns-in-45
unfolding node nodes groups held up_to rows forms inside
returns-in-45 c = stands_choice _ _ _ (ap node (sym c.in-45.is)) (within _ (held AppStrExpArg) refl refl)

pub returns-in_default-2 : goal.returns-in_default-2
unfolding nodes groups
returns-in_default-2 c = stands_same _ _ (sym (token_code c.args.code (omega arith)))
