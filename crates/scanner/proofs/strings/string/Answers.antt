use native.Mathlib.Omega.{arith}
use mathlib.Core.Path.{refl, sym, ap, ◌∙◌}
use lib.ListN.{get_or}
use Rattle.scanner.specs.Strings.{between_characters, escape}
use Rattle.scanner.specs.Promises.Reach.{is_plain}
use Rattle.scanner.specs.Promises.Extents.{extent_of, Inside}
use Rattle.scanner.proofs.ReachLaws.{run_inside}
use Rattle.scanner.proofs.StringLaws.{goes_to, between-escape, open-between, string-quote, string-end, string-plain, string-other, string-endless, string-more, string-inside}
use Rattle.scanner.proofs.strings.string.Goals as goal

pub loop-at-init : goal.loop-at-init
loop-at-init c = (refl, omega arith)

pub returns-then-b-eq34 : goal.returns-then-b-eq34
unfolding extent_of
returns-then-b-eq34 c = let l = c.loop-at in sym (l.invariant.0 ∙ string-quote c.args.s.now l.at l.total c.loop-at-test.true c.if-b-eq34.true)

pub returns-in_err-end : goal.returns-in_err-end
unfolding extent_of
returns-in_err-end c = let a = c.args in let l = c.loop-at in ap extent_of c.from_residual.ensures ∙ sym (l.invariant.0 ∙ string-endless a.s.now l.at l.total _ (goes_to a.s.now l.at between_characters open-between c.loop-at-test.true escape (between-escape (get_or a.s.now l.at 0) c.if-b-eq92.true) c.escape.ensures) c.in_err-end.was)

pub overflow_add-total : goal.overflow_add-total
unfolding Inside
overflow_add-total c = let a = c.args in let l = c.loop-at in omega (arith, l.invariant.1, string-inside a.s.now l.at l.total _ (goes_to a.s.now l.at between_characters open-between c.loop-at-test.true escape (between-escape (get_or a.s.now l.at 0) c.if-b-eq92.true) c.escape.ensures) _ c.in_ok-end.was)

pub loop-at-smaller-then-b-eq92 : goal.loop-at-smaller-then-b-eq92
unfolding Inside
loop-at-smaller-then-b-eq92 c = let a = c.args in let l = c.loop-at in omega (arith, string-inside a.s.now l.at l.total _ (goes_to a.s.now l.at between_characters open-between c.loop-at-test.true escape (between-escape (get_or a.s.now l.at 0) c.if-b-eq92.true) c.escape.ensures) _ c.in_ok-end.was)

pub loop-at-preserved-then-b-eq92 : goal.loop-at-preserved-then-b-eq92
unfolding Inside
loop-at-preserved-then-b-eq92 c = let a = c.args in let l = c.loop-at in let g = (goes_to a.s.now l.at between_characters open-between c.loop-at-test.true escape (between-escape (get_or a.s.now l.at 0) c.if-b-eq92.true) c.escape.ensures) in (l.invariant.0 ∙ string-more a.s.now l.at l.total _ g _ c.in_ok-end.was, omega (arith, l.invariant.1, string-inside a.s.now l.at l.total _ g _ c.in_ok-end.was))

pub returns-then-end-at : goal.returns-then-end-at
unfolding extent_of
returns-then-end-at c = let l = c.loop-at in sym (l.invariant.0 ∙ string-other c.args.s.now l.at l.total c.loop-at-test.true c.if-b-eq34.false c.if-b-eq92.false (sym c.if-end-at.true ∙ (c.run-end.ensures is_plain (λ b r e. e))))

pub overflow_sub-total : goal.overflow_sub-total
overflow_sub-total c = omega (arith, (c.run-end.ensures is_plain (λ b r e. e)))

pub overflow_add-total-in-loop-at : goal.overflow_add-total-in-loop-at
overflow_add-total-in-loop-at c = let l = c.loop-at in omega (arith, l.invariant.1, (c.run-end.ensures is_plain (λ b r e. e)), run_inside is_plain c.args.s.now l.at (omega (arith, c.loop-at-test.true)))

pub loop-at-smaller : goal.loop-at-smaller
loop-at-smaller c = omega (arith, (c.run-end.ensures is_plain (λ b r e. e)), c.if-end-at.false, c.loop-at-test.true)

pub loop-at-preserved : goal.loop-at-preserved
loop-at-preserved c = let l = c.loop-at in (l.invariant.0 ∙ string-plain c.args.s.now l.at l.total c.run-end.result (c.run-end.ensures is_plain (λ b r e. e)), omega (arith, l.invariant.1, (c.run-end.ensures is_plain (λ b r e. e))))

pub returns : goal.returns
unfolding extent_of
returns c = let l = c.loop-at in sym (l.invariant.0 ∙ string-end c.args.s.now l.at l.total c.loop-at-test.false)
