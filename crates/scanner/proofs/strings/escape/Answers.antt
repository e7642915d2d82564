-- `escape` meets its contract. Assumes nothing.
use native.Mathlib.Omega.{arith}
use mathlib.Core.Path.{sym, ◌∙◌}
use lib.ListN.{get_or}
use Rattle.scanner.specs.Strings.{escape, control, number, gap}
use Rattle.scanner.proofs.StringLaws.{goes_end, goes-wrong, goes-character, goes_to, goes-as, escaped-plain, escaped-control, escaped-digit, escaped-u, escaped-space, escaped-wrong, open_escape, open_number}
use Rattle.scanner.proofs.strings.escape.Goals as goal

pub returns-then-s-at : goal.returns-then-s-at
returns-then-s-at c = let a = c.args in goes_end a.s.now a.at escape open_escape c.if-s-at.true

pub returns-then-is_space : goal.returns-then-is_space
returns-then-is_space c = let a = c.args in goes_to a.s.now a.at escape open_escape c.if-s-at.false gap (escaped-space (get_or a.s.now a.at 0) (omega (arith, c.type_inv.s a.at)) (sym c.is_space.ensures ∙ c.if-is_space.true)) c.gap.ensures

pub returns-then-is_plain_escape : goal.returns-then-is_plain_escape
returns-then-is_plain_escape c = let a = c.args in goes-character a.s.now a.at escape open_escape c.if-s-at.false (escaped-plain (get_or a.s.now a.at 0) (sym c.is_plain_escape.ensures ∙ c.if-is_plain_escape.true))

pub returns-then-b-eq94 : goal.returns-then-b-eq94
returns-then-b-eq94 c = let a = c.args in goes_to a.s.now a.at escape open_escape c.if-s-at.false control (escaped-control (get_or a.s.now a.at 0) c.if-b-eq94.true) c.control.ensures

pub hexadecimal-requires : goal.hexadecimal-requires
hexadecimal-requires c = omega (arith, c.if-s-at.false)

pub returns-then-b-eq117 : goal.returns-then-b-eq117
returns-then-b-eq117 c = let a = c.args in goes_to a.s.now a.at escape open_escape c.if-s-at.false (number 16 4 0) (escaped-u (get_or a.s.now a.at 0) c.if-b-eq117.true) c.hexadecimal.ensures

pub decimal-requires : goal.decimal-requires
decimal-requires c = omega (arith, c.if-s-at.false)

pub returns-then-is_digit : goal.returns-then-is_digit
returns-then-is_digit c = let a = c.args in goes-as a.s.now a.at escape open_escape c.if-s-at.false (number 10 3 0) (open_number 10 3 0) (escaped-digit (get_or a.s.now a.at 0) (sym c.is_plain_escape.ensures ∙ c.if-is_plain_escape.false) c.if-b-eq94.false (sym c.is_digit.ensures ∙ c.if-is_digit.true)) c.decimal.ensures

pub returns : goal.returns
returns c = let a = c.args in goes-wrong a.s.now a.at escape open_escape c.if-s-at.false (escaped-wrong (get_or a.s.now a.at 0) (sym c.is_plain_escape.ensures ∙ c.if-is_plain_escape.false) c.if-b-eq94.false (sym c.is_digit.ensures ∙ c.if-is_digit.false) c.if-b-eq117.false (sym c.is_space.ensures ∙ c.if-is_space.false))
