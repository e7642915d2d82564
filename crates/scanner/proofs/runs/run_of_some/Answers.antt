-- `run_of_some` meets its contract. Assumes nothing.
use Rattle.std.proofs.Common.{ap, sym, ◌∙◌, rules}
use Rattle.scanner.specs.Promises.Reach.{positive}
use Rattle.scanner.proofs.ReachLaws.{reach-more, positive-some}
use Rattle.scanner.proofs.runs.run_of_some.Goals as goal

pub returns-in-0-clause-counts : goal.returns-in-0-clause-counts
unfolding positive
returns-in-0-clause-counts g c = λ test d. sym (reach-more test c.args.s.now ∙ ap positive (sym (c.run_length.ensures.counts test d) ∙ c.in-0.is))

pub returns-in_default-clause-counts : goal.returns-in_default-clause-counts
returns-in_default-clause-counts g c = λ test d. sym (reach-more test c.args.s.now ∙ ap positive (sym (c.run_length.ensures.counts test d)) ∙ positive-some c.run_length.result (search rules))
