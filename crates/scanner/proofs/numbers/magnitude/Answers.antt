-- `magnitude` meets its contract. Assumes nothing.
use mathlib.Core.Path.{sym, ap, ◌∙◌}
use Prim.Native.Nat.{ℕ, ◌+◌}
use lib.ListN.{drop}
use Rattle.std.specs.Prelude.{Some}
use Rattle.scanner.specs.Constants.{is_fraction, is_exponent}
use Rattle.scanner.proofs.ReachLaws.{found-behind, taken-behind}
use Rattle.scanner.proofs.NumberLaws.{magnitude-tail, tail_other}
use Rattle.scanner.proofs.numbers.magnitude.Goals as goal

pub returns : goal.returns
returns c =
    let s = c.args.s.now in
    ap (λ (k : ℕ). Some (c.in_ok-n.n + k)) (taken-behind is_exponent s c.in_ok-n.n c.exponent.ensures c.unwrap_or.ensures)
    ∙ sym (magnitude-tail s (sym c.hexadecimal.ensures ∙ c.in_default.is) (sym c.digits.ensures.counts ∙ c.in_ok-n.was)
    (tail_other (drop c.in_ok-n.n s) (found-behind is_fraction s c.in_ok-n.n c.fraction.ensures c.in_default-fraction.is)))
