-- `text::space_at_start` meets its contract: the first bytes, one by one. Assumes nothing.
use native.Mathlib.Omega.{arith}
use mathlib.Core.Path.{sym, ◌∙◌}
use Rattle.text.specs.Utf8.{encode}
use Rattle.text.specs.Bytes.{white_space_codes, white_space}
use Rattle.text.proofs.SpaceLaws.{forwards, past, lead-one, lead-one-end, lead-two, lead-two-end, lead-three, lead-none, first_byte, first-last, first_two, two-last, first_three}
use Rattle.text.proofs.space_at_start.Goals as goal

pub returns-in-len1-up : goal.returns-in-len1-up
unfolding white_space white_space_codes encode
returns-in-len1-up c = sym (lead-one forwards _ _ (first_byte c.args.s.now 0 (omega arith)) (omega (arith, c.type_inv.s 0)) (sym c.is_space.ensures ∙ c.if-is_space.true))

pub returns-in-len2-up : goal.returns-in-len2-up
unfolding white_space white_space_codes encode
returns-in-len2-up c = sym (lead-two forwards _ (omega (arith, c.type_inv.s 0)) (sym c.is_space.ensures ∙ c.if-is_space.false) _ _ (first_two c.args.s.now 0 (omega arith)) (sym c.is_space_pair.ensures ∙ c.if-is_space_pair.true))

pub returns-in-len3-up : goal.returns-in-len3-up
unfolding white_space white_space_codes encode
returns-in-len3-up c = sym (lead-three forwards _ (omega (arith, c.type_inv.s 0)) (sym c.is_space.ensures ∙ c.if-is_space.false) _ (sym c.is_space_pair.ensures ∙ c.if-is_space_pair.false) _ _ (first_three c.args.s.now 0 (omega arith)) (sym c.is_space_triple.ensures ∙ c.if-is_space_triple.true))

pub returns-in_default : goal.returns-in_default
returns-in_default c = past c.args.s.now 0 (omega arith)

pub returns-in_default-2 : goal.returns-in_default-2
unfolding white_space white_space_codes encode
returns-in_default-2 c = sym (lead-one-end forwards _ (omega (arith, c.type_inv.s 0)) (sym c.is_space.ensures ∙ c.if-is_space.false) (first-last c.args.s.now 0 (omega arith) (omega arith)))

pub returns-in_default-3 : goal.returns-in_default-3
unfolding white_space white_space_codes encode
returns-in_default-3 c = sym (lead-two-end forwards _ (omega (arith, c.type_inv.s 0)) (sym c.is_space.ensures ∙ c.if-is_space.false) _ (sym c.is_space_pair.ensures ∙ c.if-is_space_pair.false) (two-last c.args.s.now 0 (omega arith) (omega arith)))

pub returns-in_default-4 : goal.returns-in_default-4
unfolding white_space white_space_codes encode
returns-in_default-4 c = sym (lead-none forwards _ (omega (arith, c.type_inv.s 0)) (sym c.is_space.ensures ∙ c.if-is_space.false) _ (sym c.is_space_pair.ensures ∙ c.if-is_space_pair.false) _ _ (first_three c.args.s.now 0 (omega arith)) (sym c.is_space_triple.ensures ∙ c.if-is_space_triple.false))
