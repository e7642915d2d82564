-- `is_exponent_symbol` meets its contract. Assumes nothing.
use native.Mathlib.Omega.{arith}
use mathlib.Core.Path.{refl, sym}
use mathlib.Core.Bool.{false}
use mathlib.Core.List.{[], ◌∷◌}
use borrow.Author.Rules.{rules}
use Rattle.text.specs.Bytes.{bytes}
use Rattle.scanner.specs.Parts.{every, is_one_of}
use Rattle.text.proofs.Computed.{all_below, same}
use Rattle.scanner.proofs.Bytes.{decides, between-keys, by-range, among_keys}
use Rattle.scanner.proofs.numbers.is_exponent_symbol.Goals as goal

pub returns-in-69 : goal.returns-in-69
unfolding is_one_of bytes every
returns-in-69 c = sym (among_keys (69 ∷ 101 ∷ []) (is_one_of (bytes "Ee")) _ refl c.in-69.is)

pub returns-in_default : goal.returns-in_default
unfolding all_below same decides between-keys is_one_of bytes every
returns-in_default c = by-range (69 ∷ 101 ∷ []) 0 256 (is_one_of (bytes "Ee")) false refl c.args.b (omega arith) (omega arith) (omega arith) (search rules)
