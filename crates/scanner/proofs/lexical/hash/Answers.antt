-- `hash` meets its contract. Assumes nothing.
use native.Mathlib.Omega.{arith}
use mathlib.Core.Path.{sym, ◌∙◌}
use Rattle.scanner.specs.Lexical.{is_symbol}
use Rattle.scanner.proofs.TokenLaws.{hash-symbol, hash-endless, hash-one, hash-other, hash-some}
use Rattle.scanner.proofs.lexical.hash.Goals as goal

pub returns-then-not-stands-clause-is : goal.returns-then-not-stands-clause-is
returns-then-not-stands-clause-is c = c.run.ensures is_symbol (λ b r e. e) ∙ sym (hash-symbol c.args.rest.now c.requires (sym c.stands.ensures ∙ c.if-not-stands.true))

pub returns-in_default-clause-is : goal.returns-in_default-clause-is
returns-in_default-clause-is c = hash-endless c.args.rest.now c.requires (sym c.stands.ensures ∙ c.if-not-stands.false) _ c.string.ensures c.in_default.is

pub returns-then-string-eq1-clause-is : goal.returns-then-string-eq1-clause-is
returns-then-string-eq1-clause-is c = hash-one c.args.rest.now c.requires (sym c.stands.ensures ∙ c.if-not-stands.false) _ c.string.ensures _ c.in-Some.is c.if-string-eq1.true

pub returns-clause-is : goal.returns-clause-is
returns-clause-is c = hash-other c.args.rest.now c.requires (sym c.stands.ensures ∙ c.if-not-stands.false) _ c.string.ensures _ c.in-Some.is c.if-string-eq1.false

pub returns-then-not-stands-clause-some : goal.returns-then-not-stands-clause-some
returns-then-not-stands-clause-some c = omega (arith, c.run.ensures is_symbol (λ b r e. e))

pub returns-then-string-eq1-clause-some : goal.returns-then-string-eq1-clause-some
returns-then-string-eq1-clause-some c =
    let h = sym c.stands.ensures ∙ c.if-not-stands.false in
    omega (
      arith,
      hash-one c.args.rest.now c.requires h _ c.string.ensures _ c.in-Some.is c.if-string-eq1.true,
      hash-some c.args.rest.now c.requires h,
    )
