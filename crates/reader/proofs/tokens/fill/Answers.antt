use native.Mathlib.Omega.{arith}
use mathlib.Core.Path.{sym, ap, ◌∙◌}
use Rattle.std.specs.Prelude.{Ok}
use Rattle.std.proofs.lemmas.Result.{err_from_is_err_and}
use Rattle.reader.proofs.TokenLaws.{filled_none, filled_more, filled_full, filled_err, filled_end, filled_short, is_within, is_whole}
use Rattle.reader.proofs.tokens.fill.Goals as goal

pub loop-kind-init : goal.loop-kind-init
loop-kind-init c = rw c.clear.ensures (filled_none _ _ _)

pub returns-in_err-kind : goal.returns-in_err-kind
returns-in_err-kind c =
    let p = err_from_is_err_and c.from_residual.result c.from_residual.ensures.1 in
    rw (p.1, p.2) (filled_err c.loop-kind.invariant (sym c.in_err-kind.was ∙ c.next_token.ensures))

pub returns-then-count-eq-MAX_TOKENS : goal.returns-then-count-eq-MAX_TOKENS
returns-then-count-eq-MAX_TOKENS c =
    filled_full c.loop-kind.invariant (ap Ok (sym c.in-Some.is) ∙ sym c.in_ok-kind.was ∙ c.next_token.ensures) (omega arith)

pub overflow_add-start : goal.overflow_add-start
overflow_add-start c = omega (arith, c.ranges.size, is_within _ _ _ _ _ (ap Ok (sym c.in-Some.is) ∙ sym c.in_ok-kind.was ∙ c.next_token.ensures))

pub overflow_add-at : goal.overflow_add-at
overflow_add-at c = omega (arith, is_whole _ _ _ _ _ (ap Ok (sym c.in-Some.is) ∙ sym c.in_ok-kind.was ∙ c.next_token.ensures))

pub loop-kind-preserved : goal.loop-kind-preserved
loop-kind-preserved c =
    let more = filled_more c.loop-kind.invariant (ap Ok (sym c.in-Some.is) ∙ sym c.in_ok-kind.was ∙ c.next_token.ensures) (omega arith) in
    rw (← c.push.ensures.0, ← c.push.ensures.1, ← c.push.ensures.2) at more

pub returns-then-start-size : goal.returns-then-start-size
returns-then-start-size c =
    filled_short c.loop-kind.invariant (ap Ok (sym c.in_default.is) ∙ sym c.in_ok-kind.was ∙ c.next_token.ensures) c.if-start-size.true

pub returns : goal.returns
returns c = filled_end c.loop-kind.invariant (ap Ok (sym c.in_default.is) ∙ sym c.in_ok-kind.was ∙ c.next_token.ensures) c.if-start-size.false
