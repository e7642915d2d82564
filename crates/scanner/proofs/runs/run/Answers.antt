-- `run` meets its contract. Assumes nothing.
use native.Mathlib.Omega.{arith}
use mathlib.Core.Path.{ap, ◌∙◌}
use Prim.Native.Nat.{ℕ, ◌+◌}
use lib.ListN.{length-drop}
use Rattle.text.proofs.Laws.{take_rest}
use Rattle.scanner.specs.Promises.Reach.{run}
use Rattle.scanner.proofs.ReachLaws.{run_end}
use Rattle.scanner.proofs.runs.run.Goals as goal

pub returns-then-s-from : goal.returns-then-s-from
returns-then-s-from g c = λ test d. omega (arith, run_end test c.args.s.now c.args.from c.if-s-from.true)

pub overflow_add-result : goal.overflow_add-result
overflow_add-result g c = omega (arith, c.run_length.ensures.within, length-drop c.args.from c.args.s.now, c.if-s-from.false)

pub returns : goal.returns
returns g c = λ test d. ap (λ (n : ℕ). c.args.from + n) (c.run_length.ensures.counts test d ∙ ap (run test) (take_rest c.args.s.now c.args.from))
