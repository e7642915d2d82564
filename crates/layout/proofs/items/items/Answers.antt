use Rattle.std.proofs.Common.{arith, sym}
use Rattle.layout.specs.Helpers.{items}
use Rattle.layout.proofs.Steps.{items_from, first_item, later_item, no_item, regroup, then_stop, then_done, then_sure}
use Rattle.layout.proofs.items.items.Goals as goal
use Rattle.layout.proofs.items.items.Goals.{then-i-gt0, else-i-gt0}

pub loop-i-init : goal.loop-i-init
unfolding items items_from
loop-i-init g c keep p u w hu hw r i o h = h

pub returns-in_err-s : goal.returns-in_err-s
returns-in_err-s g c keep p u w hu hw =
    c.loop-i.invariant keep p u w hu hw _ _ _
    (elim c.if-i-gt0.branch [
      | then-i-gt0 b ↦ later_item w _ b.if-i-gt0.true c.loop-i-test.true
          (regroup (then_sure (rw (b.out-is, b.ink-is) (hu _ _ _ _ b.joint.ensures)) (then_stop (hw _ _ _ _ _ _ c.item.ensures) c.in_err-s.was c.from_residual.ensures.1)))
      | else-i-gt0 b ↦ first_item w _ b.if-i-gt0.false c.loop-i-test.true
          (rw (sym b.out-is, sym b.ink-is) (then_stop (hw _ _ _ _ _ _ c.item.ensures) c.in_err-s.was c.from_residual.ensures.1))
    ])

pub loop-i-preserved : goal.loop-i-preserved
loop-i-preserved g c keep p u w hu hw r i o h =
    c.loop-i.invariant keep p u w hu hw _ _ _
    (elim c.if-i-gt0.branch [
      | then-i-gt0 b ↦ later_item w _ b.if-i-gt0.true c.loop-i-test.true
          (regroup (then_sure (rw (b.out-is, b.ink-is) (hu _ _ _ _ b.joint.ensures)) (then_done (hw _ _ _ _ _ _ c.item.ensures) c.in_ok-s.was h)))
      | else-i-gt0 b ↦ first_item w _ b.if-i-gt0.false c.loop-i-test.true
          (rw (sym b.out-is, sym b.ink-is) (then_done (hw _ _ _ _ _ _ c.item.ensures) c.in_ok-s.was h))
    ])

pub returns : goal.returns
returns g c keep p u w hu hw = c.loop-i.invariant keep p u w hu hw _ _ _ (no_item w _ (omega (arith, c.loop-i-test.false)))
