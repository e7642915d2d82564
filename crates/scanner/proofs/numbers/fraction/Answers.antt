-- `fraction` meets its contract. Assumes nothing.
use native.Mathlib.Omega.{arith}
use mathlib.Core.Path.{sym, ap, ◌∙◌}
use Prim.Native.Nat.{ℕ, ◌+◌, ◌-◌}
use Rattle.std.specs.Prelude.{Some}
use Rattle.text.specs.Bytes.{is_digit}
use Rattle.scanner.specs.Parts.{one_or_more}
use Rattle.scanner.specs.Constants.{is_exponent}
use Rattle.scanner.proofs.ReachLaws.{reach-within, taken-behind, behind-within}
use lib.ListN.{length, take, drop}
use Rattle.text.proofs.Laws.{take_rest}
use Rattle.scanner.proofs.NumberLaws.{fraction-some, one_there}
use Rattle.scanner.proofs.numbers.fraction.Goals as goal

pub overflow_add-result-2 : goal.overflow_add-result-2
overflow_add-result-2 c =
    let n = reach-within (one_or_more is_digit) _ c.digits.ensures.counts c.in_ok-n.was in
    omega (arith, behind-within is_exponent (take (length c.args.s.now - 1) (drop 1 c.args.s.now)) c.in_ok-n.n c.exponent.ensures c.unwrap_or.ensures n, c.in-46.len_at_least)

pub returns : goal.returns
returns c =
    ap (λ (k : ℕ). Some (1 + c.in_ok-n.n + k)) (taken-behind is_exponent (take (length c.args.s.now - 1) (drop 1 c.args.s.now)) c.in_ok-n.n c.exponent.ensures c.unwrap_or.ensures)
    ∙ sym (fraction-some c.args.s.now (one_there c.args.s.now c.in-46.len_at_least search) (take_rest c.args.s.now 1) (sym c.digits.ensures.counts ∙ c.in_ok-n.was))
