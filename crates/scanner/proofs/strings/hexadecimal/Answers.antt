-- `hexadecimal` meets its contract. Assumes nothing.
use Prim.Native.Nat.{◌+◌}
use native.Mathlib.Omega.{arith}
use mathlib.Core.Path.{sym, ◌∙◌}
use Rattle.scanner.proofs.StringLaws.{digits-short, hex-first, hex-second, hex-third, hex-fourth, hex-read}
use Rattle.scanner.proofs.strings.hexadecimal.Goals as goal

pub returns-then-s-at-lt4 : goal.returns-then-s-at-lt4
returns-then-s-at-lt4 c = digits-short c.args.s.now c.args.at 16 4 (omega arith) c.requires c.if-s-at-lt4.true

pub returns-then-s-at-ne48 : goal.returns-then-s-at-ne48
returns-then-s-at-ne48 c = hex-first c.args.s.now c.args.at (omega (arith, c.requires, c.if-s-at-lt4.false)) (omega (arith, c.type_inv.s c.args.at)) c.if-s-at-ne48.true

pub returns-then-s-at-ne48-2 : goal.returns-then-s-at-ne48-2
returns-then-s-at-ne48-2 c = hex-second c.args.s.now c.args.at (omega (arith, c.requires, c.if-s-at-lt4.false)) (omega (arith, c.type_inv.s (c.args.at + 1))) c.if-s-at-ne48-2.true

pub returns-then-not-is_hex_digit : goal.returns-then-not-is_hex_digit
returns-then-not-is_hex_digit c = hex-third c.args.s.now c.args.at (omega (arith, c.requires, c.if-s-at-lt4.false)) (sym c.is_hex_digit.ensures ∙ c.if-not-is_hex_digit.true)

pub returns-then-not-is_hex_digit-2 : goal.returns-then-not-is_hex_digit-2
returns-then-not-is_hex_digit-2 c = hex-fourth c.args.s.now c.args.at (omega (arith, c.requires, c.if-s-at-lt4.false)) (sym c.is_hex_digit-2.ensures ∙ c.if-not-is_hex_digit-2.true)

pub returns : goal.returns
returns c = hex-read c.args.s.now c.args.at (omega (arith, c.requires, c.if-s-at-lt4.false)) c.if-s-at-ne48.false c.if-s-at-ne48-2.false (omega (arith, c.type_inv.s (c.args.at + 2))) (sym c.is_hex_digit.ensures ∙ c.if-not-is_hex_digit.false) (omega (arith, c.type_inv.s (c.args.at + 3))) (sym c.is_hex_digit-2.ensures ∙ c.if-not-is_hex_digit-2.false)
