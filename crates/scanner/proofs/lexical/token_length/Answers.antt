-- `token_length` meets its contract, by the first byte. Assumes nothing.
use native.Mathlib.Omega.{arith}
use mathlib.Core.Path.{sym, ap, ◌∙◌}
use mathlib.Core.List.{List}
use Prim.Native.Nat.{ℕ}
use lib.ListN.{get_or}
use Rattle.scanner.specs.Lexical.{is_alphanumeric_byte}
use Rattle.scanner.proofs.ReachLaws.{some_of}
use Rattle.scanner.proofs.TokenLaws.{start, longest-empty, longest-space, longest-name, name-letter, name-prime}
use Rattle.scanner.proofs.lexical.token_length.Goals as goal

pub returns-in_err-b : goal.returns-in_err-b
returns-in_err-b c = c.from_residual.ensures ∙ longest-empty c.args.rest.now c.in_err-b.ensures.value

pub returns-then-is_letter : goal.returns-then-is_letter
returns-then-is_letter c =
    let s = start c.args.rest.now c.in_ok-b.ensures.value in
    let e = c.run.ensures is_alphanumeric_byte (λ b r e. e) in
    some_of
    (e ∙ sym (longest-name c.args.rest.now c.in_ok-b.field-0.now s (omega (arith, c.type_inv.rest 0, ap (λ (l : List ℕ). get_or l 0 0) s)) (name-letter c.in_ok-b.field-0.now (sym c.is_letter.ensures ∙ c.if-is_letter.true))))
    (omega (arith, e))

pub returns-then-b-eq39 : goal.returns-then-b-eq39
returns-then-b-eq39 c =
    let s = start c.args.rest.now c.in_ok-b.ensures.value in
    let e = c.run-then-b-eq39.ensures is_alphanumeric_byte (λ b r e. e) in
    some_of
    (e ∙ sym (longest-name c.args.rest.now c.in_ok-b.field-0.now s (omega (arith, c.type_inv.rest 0, ap (λ (l : List ℕ). get_or l 0 0) s)) (name-prime c.in_ok-b.field-0.now c.if-b-eq39.true)))
    (omega (arith, e))

pub number-requires : goal.number-requires
number-requires c = record { rest_value = start c.args.rest.now c.in_ok-b.ensures.value; b_value = sym c.is_digit.ensures ∙ c.if-is_digit.true }

pub returns-then-is_space : goal.returns-then-is_space
returns-then-is_space c =
    let s = start c.args.rest.now c.in_ok-b.ensures.value in
    some_of
    (c.spaces.ensures ∙ sym (longest-space c.args.rest.now c.in_ok-b.field-0.now s (omega (arith, c.type_inv.rest 0, ap (λ (l : List ℕ). get_or l 0 0) s)) (sym c.is_space.ensures ∙ c.if-is_space.true)))
    (omega (arith, c.spaces.ensures))

pub other-requires : goal.other-requires
other-requires c =
    record {
      rest_value = start c.args.rest.now c.in_ok-b.ensures.value;
      b_value = (sym c.is_space.ensures ∙ c.if-is_space.false, sym c.is_letter.ensures ∙ c.if-is_letter.false, c.if-b-eq39.false, sym c.is_digit.ensures ∙ c.if-is_digit.false);
    }
