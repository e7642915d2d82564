-- `negation` meets its contract. Assumes nothing.
use native.Mathlib.Omega.{arith}
use mathlib.Core.Path.{sym, ap, ◌∙◌}
use lib.ListN.{length}
use Rattle.scanner.specs.Lexical.{is_symbol}
use Rattle.scanner.specs.Promises.Reach.{is_magnitude}
use Rattle.scanner.proofs.ReachLaws.{reach-within, found-behind}
use Rattle.scanner.proofs.TokenLaws.{tilde-symbol, tilde-number}
use Rattle.scanner.proofs.lexical.negation.Goals as goal

pub slice_bounds-magnitude-count : goal.slice_bounds-magnitude-count
slice_bounds-magnitude-count c = omega (arith, ap length c.requires)

pub overflow_add-result : goal.overflow_add-result
overflow_add-result c = omega (arith, ap length c.requires, reach-within is_magnitude _ c.magnitude.ensures c.in-Some.is)

pub returns-in-Some-clause-is : goal.returns-in-Some-clause-is
returns-in-Some-clause-is c = sym (tilde-number c.args.rest.now c.requires (found-behind is_magnitude c.args.rest.now 1 c.magnitude.ensures c.in-Some.is))

pub returns-clause-is : goal.returns-clause-is
returns-clause-is c =
    c.run.ensures is_symbol (λ b r e. e)
    ∙ sym (tilde-symbol c.args.rest.now c.requires (found-behind is_magnitude c.args.rest.now 1 c.magnitude.ensures c.in_default.is))

pub returns-clause-some : goal.returns-clause-some
returns-clause-some c = omega (arith, c.run.ensures is_symbol (λ b r e. e))
