-- `decimal` meets its contract. Assumes nothing.
use native.Mathlib.Omega.{arith}
use mathlib.Core.Path.{sym, ◌∙◌}
use Rattle.scanner.proofs.StringLaws.{digits-short, decimal-first, decimal-second, decimal-third, decimal-over, decimal-read}
use Rattle.scanner.proofs.strings.decimal.Goals as goal

pub returns-then-s-at-lt3 : goal.returns-then-s-at-lt3
returns-then-s-at-lt3 c = digits-short c.args.s.now c.args.at 10 3 (omega arith) c.requires c.if-s-at-lt3.true

pub returns-then-not-is_digit : goal.returns-then-not-is_digit
returns-then-not-is_digit c = decimal-first c.args.s.now c.args.at (omega (arith, c.requires, c.if-s-at-lt3.false)) (sym c.is_digit.ensures ∙ c.if-not-is_digit.true)

pub returns-then-not-is_digit-2 : goal.returns-then-not-is_digit-2
returns-then-not-is_digit-2 c = decimal-second c.args.s.now c.args.at (omega (arith, c.requires, c.if-s-at-lt3.false)) (sym c.is_digit-2.ensures ∙ c.if-not-is_digit-2.true)

pub returns-then-not-is_digit-3 : goal.returns-then-not-is_digit-3
returns-then-not-is_digit-3 c = decimal-third c.args.s.now c.args.at (omega (arith, c.requires, c.if-s-at-lt3.false)) (sym c.is_digit-3.ensures ∙ c.if-not-is_digit-3.true)

pub returns-then-a-b-gt255 : goal.returns-then-a-b-gt255
returns-then-a-b-gt255 c = decimal-over c.args.s.now c.args.at (omega (arith, c.requires, c.if-s-at-lt3.false)) (sym c.is_digit.ensures ∙ c.if-not-is_digit.false) (sym c.is_digit-2.ensures ∙ c.if-not-is_digit-2.false) (sym c.is_digit-3.ensures ∙ c.if-not-is_digit-3.false) c.if-a-b-gt255.true

pub returns : goal.returns
returns c = decimal-read c.args.s.now c.args.at (omega (arith, c.requires, c.if-s-at-lt3.false)) (sym c.is_digit.ensures ∙ c.if-not-is_digit.false) (sym c.is_digit-2.ensures ∙ c.if-not-is_digit-2.false) (sym c.is_digit-3.ensures ∙ c.if-not-is_digit-3.false) c.if-a-b-gt255.false
