use Prim.Native.Nat.{◌+◌, ◌-◌, ◌*◌}
use mathlib.Core.Path.{◌≡◌}
use native.Mathlib.Omega.{arith}
use mathlib.Core.Path.{refl}
use Rattle.comments.specs.Set.{is_comment, bits}
use Rattle.comments.proofs.Words.{made_all, bits_below}
use Rattle.comments.proofs.Eights.{eights-fit, eights-more}
use Rattle.comments.proofs.whole.Goals as goal

pub loop-b-init : goal.loop-b-init
unfolding bits
loop-b-init c = (omega arith, refl)

pub overflow_mul-x : goal.overflow_mul-x
overflow_mul-x c = let at = c.loop-b in omega (arith, eights-fit _ _ (8 * at.b) at.x (omega arith) (omega (arith, at.invariant.0)) at.invariant.1)

pub overflow_add-x : goal.overflow_add-x
overflow_add-x c = let at = c.loop-b in omega (arith, eights-fit _ _ (8 * at.b) at.x (omega arith) (omega (arith, at.invariant.0)) at.invariant.1, bits_below (is_comment c.args.kinds.now) 8 (c.args.k + 8 * (at.b - 1)), c.eight.ensures)

pub loop-b-preserved : goal.loop-b-preserved
loop-b-preserved c =
    let at = c.loop-b in
    let next : 8 * at.b - 8 ≡ 8 * (at.b - 1) = omega arith in
    (omega arith, rw next at (eights-more _ _ (8 * at.b) at.x (omega arith) (omega (arith, at.invariant.0)) at.invariant.1 c.eight.result (rw next c.eight.ensures)))

pub returns : goal.returns
returns c = made_all _ _ (8 * c.loop-b.b) _ (omega (arith, c.loop-b-test.false)) c.loop-b.invariant.1
