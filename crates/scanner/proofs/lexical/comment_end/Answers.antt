use native.Mathlib.Omega.{arith}
use mathlib.Core.Path.{refl, sym, ◌∙◌}
use Rattle.scanner.proofs.CommentLaws.{comment_empty, comment-over, comment-opens, comment-closes, comment-shut, comment-star, comment-bracket, comment-plain}
use Rattle.scanner.proofs.lexical.comment_end.Goals as goal

pub returns-then-s-eq0 : goal.returns-then-s-eq0
returns-then-s-eq0 c = comment_empty _ _ c.if-s-eq0.true

pub loop-at-init : goal.loop-at-init
loop-at-init c = (omega arith, refl, omega arith, omega arith)

pub bounds-s-at : goal.bounds-s-at
bounds-s-at c = omega (arith, c.loop-at.invariant.0)

pub bounds-s-at-then-b-eq42 : goal.bounds-s-at-then-b-eq42
bounds-s-at-then-b-eq42 c = omega (arith, c.loop-at.invariant.0)

pub overflow_add-at-then-s-at-eq41 : goal.overflow_add-at-then-s-at-eq41
overflow_add-at-then-s-at-eq41 c = omega (arith, c.loop-at.invariant.0)

pub overflow_sub-depth : goal.overflow_sub-depth
overflow_sub-depth c = omega (arith, c.loop-at.invariant.2)

pub returns-then-depth-eq0 : goal.returns-then-depth-eq0
returns-then-depth-eq0 c = let l = c.loop-at in comment-shut _ l.at l.depth _ l.invariant.0 l.invariant.2 c.loop-at-test.true c.if-b-eq42.true c.if-s-at-eq41.true c.if-depth-eq0.true ∙ sym l.invariant.1

pub loop-at-preserved-else-depth-eq0 : goal.loop-at-preserved-else-depth-eq0
loop-at-preserved-else-depth-eq0 c = let l = c.loop-at in (l.invariant.0, l.invariant.1 ∙ comment-closes _ l.at l.depth _ l.invariant.0 l.invariant.2 c.loop-at-test.true c.if-b-eq42.true c.if-s-at-eq41.true, omega (arith, c.if-depth-eq0.false), omega (arith, l.invariant.3))

pub loop-at-preserved-else-s-at-eq41 : goal.loop-at-preserved-else-s-at-eq41
loop-at-preserved-else-s-at-eq41 c = let l = c.loop-at in (l.invariant.0, l.invariant.1 ∙ comment-star _ l.at l.depth _ l.invariant.0 l.invariant.2 c.loop-at-test.true c.if-b-eq42.true c.if-s-at-eq41.false, l.invariant.2, omega (arith, l.invariant.3))

pub bounds-s-at-then-b-eq40 : goal.bounds-s-at-then-b-eq40
bounds-s-at-then-b-eq40 c = omega (arith, c.loop-at.invariant.0)

pub overflow_add-at-then-s-at-eq42 : goal.overflow_add-at-then-s-at-eq42
overflow_add-at-then-s-at-eq42 c = omega (arith, c.loop-at.invariant.0)

pub overflow_add-depth : goal.overflow_add-depth
overflow_add-depth c = omega (arith, c.loop-at.invariant.0, c.loop-at.invariant.3)

pub loop-at-preserved-then-s-at-eq42 : goal.loop-at-preserved-then-s-at-eq42
loop-at-preserved-then-s-at-eq42 c = let l = c.loop-at in (l.invariant.0, l.invariant.1 ∙ comment-opens _ l.at l.depth _ l.invariant.0 l.invariant.2 c.loop-at-test.true c.if-b-eq40.true c.if-s-at-eq42.true, omega arith, omega (arith, l.invariant.3))

pub loop-at-preserved-else-s-at-eq42 : goal.loop-at-preserved-else-s-at-eq42
loop-at-preserved-else-s-at-eq42 c = let l = c.loop-at in (l.invariant.0, l.invariant.1 ∙ comment-bracket _ l.at l.depth _ l.invariant.0 l.invariant.2 c.loop-at-test.true c.if-b-eq42.false c.if-b-eq40.true c.if-s-at-eq42.false, l.invariant.2, omega (arith, l.invariant.3))

pub loop-at-preserved : goal.loop-at-preserved
loop-at-preserved c = let l = c.loop-at in (l.invariant.0, l.invariant.1 ∙ comment-plain _ l.at l.depth _ l.invariant.0 l.invariant.2 c.loop-at-test.true c.if-b-eq42.false c.if-b-eq40.false, l.invariant.2, omega (arith, l.invariant.3))

pub returns : goal.returns
returns c = let l = c.loop-at in sym (l.invariant.1 ∙ comment-over _ l.at l.depth _ l.invariant.0 l.invariant.2 c.loop-at-test.false)
