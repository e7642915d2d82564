use Prim.Native.Nat.{◌-◌}
use native.Mathlib.Omega.{arith}
use mathlib.Core.Path.{refl, sym, ◌∙◌}
use Rattle.comments.specs.Set.{is_comment, bits}
use Rattle.comments.proofs.Words.{bits-empty, made-fits, made_one, made-zero, made_all}
use Rattle.comments.proofs.Search.{no-comment}
use borrow.Author.Rules.{rules}
use Rattle.comments.proofs.word.Goals as goal

pub returns-then-kinds-k : goal.returns-then-kinds-k
returns-then-kinds-k c =
    let kinds = c.args.kinds.now in
    bits-empty (is_comment kinds) 64 c.args.k (λ i l. no-comment kinds i (omega (arith, c.if-kinds-k.true)))

pub whole-requires : goal.whole-requires
whole-requires c = omega (arith, c.if-kinds-k-ge64.true)

pub returns-then-kinds-k-ge64 : goal.returns-then-kinds-k-ge64
returns-then-kinds-k-ge64 c = c.whole.ensures

pub loop-b-init : goal.loop-b-init
unfolding bits
loop-b-init c = (search rules, refl)

pub overflow_mul-x : goal.overflow_mul-x
overflow_mul-x c = let at = c.loop-b in omega (arith, made-fits _ _ at.b (at.b - 1) at.x (omega arith) at.invariant.0 at.invariant.1)

pub overflow_add-x : goal.overflow_add-x
overflow_add-x c = let at = c.loop-b in omega (arith, made-fits _ _ at.b (at.b - 1) at.x (omega arith) at.invariant.0 at.invariant.1)

pub loop-b-preserved-then-is_comment : goal.loop-b-preserved-then-is_comment
loop-b-preserved-then-is_comment c = let at = c.loop-b in (omega arith, made_one _ _ at.b (at.b - 1) at.x (omega arith) at.invariant.0 at.invariant.1 (sym c.is_comment.ensures ∙ c.if-is_comment.true))

pub loop-b-preserved : goal.loop-b-preserved
loop-b-preserved c = let at = c.loop-b in (omega arith, made-zero _ _ at.b (at.b - 1) at.x (omega arith) at.invariant.0 at.invariant.1 (sym c.is_comment.ensures ∙ c.if-is_comment.false))

pub returns : goal.returns
returns c = made_all _ _ _ _ c.loop-b-test.false c.loop-b.invariant.1
