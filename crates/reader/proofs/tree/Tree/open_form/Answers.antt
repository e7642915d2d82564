-- `open_form` meets its contract.
use Prim.Native.Nat.{ℕ, ◌+◌}
use mathlib.Core.Path.{◌≡◌, ap, sym, ◌∙◌}
use lib.ListN.{get_or}
use Rattle.std.specs.Prelude.{Some}
use native.Mathlib.Omega.{arith}
use Rattle.reader.proofs.GrammarLaws.{form_row, row_small}
use Rattle.reader.proofs.CommandLaws.{form-number, facts-width, facts-row}
use Rattle.reader.proofs.TreeLaws.{form_opens}
use Rattle.reader.specs.Fields.{none}
use Rattle.reader.specs.Commands.{form_at}
use Rattle.reader.specs.Promises.Grammar.{rows}
use Rattle.reader.specs.Promises.Commands.{family_of}
use Rattle.reader.proofs.tree.Tree.open_form.Goals as goal

pub overflow_add-facts : goal.overflow_add-facts
overflow_add-facts c =
    let family = family_of c.args.family in
    let n = c.in-Some.n in
    omega (arith, facts-row family c.facts_of-facts.ensures, row_small family n (form-number _ _ family n (sym c.form_at.ensures ∙ c.in-Some.is)))

pub returns : goal.returns
returns c =
    let family = family_of c.args.family in
    let n = c.in-Some.n in
    let e : form_at c.args.self.rec.now family c.args.at ≡ Some n = sym c.form_at.ensures ∙ c.in-Some.is in
    form_opens _ _ _ n family e (sym c.operand_fits.ensures ∙ c.if-not-operand_fits.false) c.if-self-eq0.false (facts-width family c.facts_of-facts.ensures)
    (c.codes_of.ensures
    ∙ ap (λ (k : ℕ). get_or rows (k + n) none) (facts-row family c.facts_of-facts.ensures)
    ∙ form_row family n (form-number _ _ family n e))
