use Prim.Native.Nat.{◌-◌}
use native.Mathlib.Omega.{arith}
use mathlib.Core.Path.{sym, ◌∙◌}
use Rattle.comments.specs.Above.{found_above}
use Rattle.comments.proofs.Search.{at-comment, at_first, at_second, at_other, at-start}
use Rattle.comments.proofs.comment_above.Goals as goal

pub loop-k-init : goal.loop-k-init
unfolding found_above
loop-k-init c = c.through-k.ensures

pub returns-then-is_comment : goal.returns-then-is_comment
returns-then-is_comment c = let at = c.loop-k in sym (at.invariant ∙ at-comment _ at.k (at.k - 1) (omega arith) _ (sym c.is_comment.ensures ∙ c.if-is_comment.true))

pub returns-then-is_some : goal.returns-then-is_some
returns-then-is_some c = let at = c.loop-k in sym (at.invariant ∙ at_second _ at.k (at.k - 1) (omega arith) _ (sym c.is_comment.ensures ∙ c.if-is_comment.false) (sym c.is_keyword.ensures ∙ c.if-is_keyword.true) (sym c.is_some.ensures ∙ c.if-is_some.true))

pub loop-k-preserved-then-is_keyword : goal.loop-k-preserved-then-is_keyword
loop-k-preserved-then-is_keyword c = let at = c.loop-k in at.invariant ∙ at_first _ at.k (at.k - 1) (omega arith) _ (sym c.is_comment.ensures ∙ c.if-is_comment.false) (sym c.is_keyword.ensures ∙ c.if-is_keyword.true) (sym c.is_some.ensures ∙ c.if-is_some.false)

pub loop-k-preserved : goal.loop-k-preserved
loop-k-preserved c = let at = c.loop-k in at.invariant ∙ at_other _ at.k (at.k - 1) (omega arith) _ (sym c.is_comment.ensures ∙ c.if-is_comment.false) (sym c.is_keyword.ensures ∙ c.if-is_keyword.false)

pub returns : goal.returns
returns c = sym (c.loop-k.invariant ∙ at-start _ _ _ c.loop-k-test.false)
