use native.Mathlib.Omega.{arith}
use Prim.Native.Nat.{◌+◌}
use Rattle.reader.specs.Commands.{u16}
use Rattle.reader.proofs.tokens.next_token.Goals as goal

pub overflow_add-end : goal.overflow_add-end
unfolding u16
overflow_add-end c = omega (arith, c.u16_at-len.ensures, c.type_inv.rec (c.args.at + 2), c.type_inv.rec (c.args.at + 2 + 1))
