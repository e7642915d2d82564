-- `formatter::scaled` meets its contract.
use native.Mathlib.Omega.{arith}
use mathlib.Core.Path.{ap}
use Prim.Native.Nat.{◌*◌}
use Rattle.formatter.proofs.JudgeLaws.{scaled_bound}
use Rattle.formatter.proofs.scaled.Goals as goal

pub overflow_mul-result : goal.overflow_mul-result
overflow_mul-result c = omega (arith, scaled_bound c.args.n c.from.result c.requires (omega (arith, c.from.ensures, c.ranges)))

pub returns : goal.returns
returns c = (ap (λ t. c.args.n * t) c.from.ensures, scaled_bound c.args.n c.from.result c.requires (omega (arith, c.from.ensures, c.ranges)))
