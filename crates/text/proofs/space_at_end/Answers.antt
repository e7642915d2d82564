-- `text::space_at_end` meets its contract: the last bytes, one by one. Assumes nothing.
use native.Mathlib.Omega.{arith}
use mathlib.Core.Path.{sym, ◌∙◌}
use Prim.Native.Nat.{◌-◌}
use lib.ListN.{length}
use Rattle.text.specs.Utf8.{encode}
use Rattle.text.specs.Bytes.{white_space_codes, white_space}
use Rattle.text.proofs.SpaceLaws.{backwards, nothing_before, whole, lead-one, lead-one-end, lead-two, lead-two-end, lead-three, lead-none, last_one, last-alone, last-two, last-pair, last-three}
use Rattle.text.proofs.space_at_end.Goals as goal

pub returns-in-len1-up : goal.returns-in-len1-up
unfolding white_space white_space_codes encode
returns-in-len1-up c = sym (lead-one backwards _ _ (whole c.args.s.now ∙ last_one c.args.s.now (length c.args.s.now) (omega arith) (omega arith)) (omega (arith, c.type_inv.s (length c.args.s.now - 1))) (sym c.is_space.ensures ∙ c.if-is_space.true))

pub returns-in-len2-up : goal.returns-in-len2-up
unfolding white_space white_space_codes encode
returns-in-len2-up c = sym (lead-two backwards _ (omega (arith, c.type_inv.s (length c.args.s.now - 1))) (sym c.is_space.ensures ∙ c.if-is_space.false) _ _ (whole c.args.s.now ∙ last-two c.args.s.now (length c.args.s.now) (omega arith) (omega arith)) (sym c.is_space_pair.ensures ∙ c.if-is_space_pair.true))

pub returns-in-len3-up : goal.returns-in-len3-up
unfolding white_space white_space_codes encode
returns-in-len3-up c = sym (lead-three backwards _ (omega (arith, c.type_inv.s (length c.args.s.now - 1))) (sym c.is_space.ensures ∙ c.if-is_space.false) _ (sym c.is_space_pair.ensures ∙ c.if-is_space_pair.false) _ _ (whole c.args.s.now ∙ last-three c.args.s.now (length c.args.s.now) (omega arith) (omega arith)) (sym c.is_space_triple.ensures ∙ c.if-is_space_triple.true))

pub returns-in_default : goal.returns-in_default
returns-in_default c = nothing_before c.args.s.now (omega arith)

pub returns-in_default-2 : goal.returns-in_default-2
unfolding white_space white_space_codes encode
returns-in_default-2 c = sym (lead-one-end backwards _ (omega (arith, c.type_inv.s (length c.args.s.now - 1))) (sym c.is_space.ensures ∙ c.if-is_space.false) (whole c.args.s.now ∙ last-alone c.args.s.now (length c.args.s.now) (omega arith) (omega arith) (omega arith)))

pub returns-in_default-3 : goal.returns-in_default-3
unfolding white_space white_space_codes encode
returns-in_default-3 c = sym (lead-two-end backwards _ (omega (arith, c.type_inv.s (length c.args.s.now - 1))) (sym c.is_space.ensures ∙ c.if-is_space.false) _ (sym c.is_space_pair.ensures ∙ c.if-is_space_pair.false) (whole c.args.s.now ∙ last-pair c.args.s.now (length c.args.s.now) (omega arith) (omega arith) (omega arith)))

pub returns-in_default-4 : goal.returns-in_default-4
unfolding white_space white_space_codes encode
returns-in_default-4 c = sym (lead-none backwards _ (omega (arith, c.type_inv.s (length c.args.s.now - 1))) (sym c.is_space.ensures ∙ c.if-is_space.false) _ (sym c.is_space_pair.ensures ∙ c.if-is_space_pair.false) _ _ (whole c.args.s.now ∙ last-three c.args.s.now (length c.args.s.now) (omega arith) (omega arith)) (sym c.is_space_triple.ensures ∙ c.if-is_space_triple.false))
