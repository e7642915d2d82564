use native.Mathlib.Omega.{arith}
use mathlib.Core.Path.{refl, sym, ◌∙◌}
use Rattle.text.specs.Utf8.{first_broken}
use Rattle.text.proofs.Utf8Laws.{char-here, char-ends, broken-none, broken-at, broken-more}
use borrow.Author.Rules.{rules}
use Rattle.text.proofs.first_broken_char.Goals as goal

pub loop-i-init : goal.loop-i-init
unfolding first_broken
loop-i-init c = (search rules, refl)

pub returns-then-n-eq0 : goal.returns-then-n-eq0
returns-then-n-eq0 c = sym (c.loop-i.invariant.1 ∙ broken-at _ _ c.loop-i-test.true (sym (char-here c.args.s.now c.loop-i.i c.char_width-n.ensures) ∙ c.if-n-eq0.true))

pub overflow_add-i : goal.overflow_add-i
overflow_add-i c = omega (arith, char-ends c.args.s.now _ c.loop-i.invariant.0 (char-here c.args.s.now c.loop-i.i c.char_width-n.ensures))

pub loop-i-smaller : goal.loop-i-smaller
loop-i-smaller c = omega (arith, c.if-n-eq0.false, char-ends c.args.s.now _ c.loop-i.invariant.0 (char-here c.args.s.now c.loop-i.i c.char_width-n.ensures))

pub loop-i-preserved : goal.loop-i-preserved
loop-i-preserved c = (char-ends c.args.s.now _ c.loop-i.invariant.0 (char-here c.args.s.now c.loop-i.i c.char_width-n.ensures), c.loop-i.invariant.1 ∙ broken-more _ _ c.loop-i-test.true _ (char-here c.args.s.now c.loop-i.i c.char_width-n.ensures) c.if-n-eq0.false)

pub returns : goal.returns
returns c = sym (c.loop-i.invariant.1 ∙ broken-none _ _ c.loop-i-test.false)
