-- `other` meets its contract. Assumes nothing.
use Prim.Native.Nat.{ℕ}
use native.Mathlib.Omega.{arith}
use mathlib.Core.Path.{sym, ap, ◌∙◌}
use mathlib.Core.List.{◌∷◌}
use lib.ListN.{drop}
use borrow.Author.Tests.{ne_eqb}
use Rattle.scanner.specs.Lexical.{is_symbol}
use Rattle.scanner.specs.Promises.Reach.{positive}
use Rattle.scanner.proofs.ReachLaws.{some_of}
use Rattle.scanner.proofs.TokenLaws.{longest-symbol, longest-lone, longest-none, lone-other, no-mark, no_name}
use borrow.Author.Rules.{rules}
use Rattle.scanner.proofs.lexical.other.Goals as goal

pub quoted-requires : goal.quoted-requires
quoted-requires c = c.requires.rest_value ∙ ap (λ (x : ℕ). x ∷ drop 1 c.args.rest.now) c.in-34.is

pub hash-requires : goal.hash-requires
hash-requires c = c.requires.rest_value ∙ ap (λ (x : ℕ). x ∷ drop 1 c.args.rest.now) c.in-35.is

pub bracket-requires : goal.bracket-requires
bracket-requires c = c.requires.rest_value ∙ ap (λ (x : ℕ). x ∷ drop 1 c.args.rest.now) c.in-40.is

pub dots-requires : goal.dots-requires
dots-requires c = c.requires.rest_value ∙ ap (λ (x : ℕ). x ∷ drop 1 c.args.rest.now) c.in-46.is

pub negation-requires : goal.negation-requires
negation-requires c = c.requires.rest_value ∙ ap (λ (x : ℕ). x ∷ drop 1 c.args.rest.now) c.in-126.is

pub returns-in_default : goal.returns-in_default
returns-in_default c =
    let a = c.args in
    let e = c.run.ensures is_symbol (λ b r e. e) in
    some_of
    (e ∙ sym (longest-symbol a.rest.now a.b c.requires.rest_value (omega arith) (sym c.is_symbol.ensures ∙ c.if-is_symbol.true) (ne_eqb a.b 35 (λ e. omega arith)) (ne_eqb a.b 126 (λ e. omega arith))))
    (omega (arith, e))

pub returns-in_default-2 : goal.returns-in_default-2
unfolding positive
returns-in_default-2 c =
    let a = c.args in
    sym (ap positive (longest-none a.rest.now a.b c.requires.rest_value c.requires.b_value.0 (no_name a.b c.requires.b_value.1 c.requires.b_value.2) c.requires.b_value.3 (sym c.is_symbol.ensures ∙ c.if-is_symbol.false) (no-mark a.b (λ e. omega arith) (λ e. omega arith) (λ e. omega arith) (search rules)) (ne_eqb a.b 40 (λ e. omega arith))))

pub returns-in-34 : goal.returns-in-34
returns-in-34 c = c.quoted.ensures

pub returns-in-35 : goal.returns-in-35
returns-in-35 c = some_of c.hash.ensures.is c.hash.ensures.some

pub returns-in-40 : goal.returns-in-40
returns-in-40 c = c.bracket.ensures

pub returns-in-46 : goal.returns-in-46
returns-in-46 c = some_of c.dots.ensures.is c.dots.ensures.some

pub returns-in-126 : goal.returns-in-126
returns-in-126 c = some_of c.negation.ensures.is c.negation.ensures.some

pub returns-in-41 : goal.returns-in-41
unfolding positive
returns-in-41 c = let a = c.args in sym (ap positive (longest-lone a.rest.now a.b c.requires.rest_value c.in-41.is (lone-other a.b c.in-41.is)))
