-- `is_hex_digit` meets its contract, by computation over the bytes that are no digits. Assumes nothing.
use native.Mathlib.Omega.{arith}
use Prim.Native.Nat.{ℕ}
use mathlib.Core.Path.{◌≡◌, refl, sym, ◌∙◌}
use mathlib.Core.Bool.{true, false, or-false}
use mathlib.Core.List.{[]}
use Rattle.text.specs.Bytes.{between, is_digit}
use Rattle.scanner.specs.Constants.{is_hex_digit}
use Rattle.text.proofs.Computed.{all_below, same}
use Rattle.scanner.proofs.Bytes.{decides, between-keys, by-range, under, over}
use Rattle.scanner.proofs.runs.is_hex_digit.Goals as goal
use Rattle.scanner.proofs.runs.is_hex_digit.Goals.{in_default-via-then-b-lt65, in_default-via-else-b-lt65+else-b-lt71+then-b-lt97, in_default-via-else-b-lt65+else-b-lt71+else-b-lt97+else-b-lt103}

-- A byte that is none of these letters.
no_letter : (b : ℕ) → between 65 70 b ≡ false → between 97 102 b ≡ false → is_digit b ≡ is_hex_digit b
unfolding is_hex_digit
no_letter b e f = rw (e, f) (sym (or-false _ ∙ or-false _))

pub returns-in-65-to-70 : goal.returns-in-65-to-70
unfolding all_below same decides between-keys is_hex_digit is_digit between
returns-in-65-to-70 c = by-range [] 65 71 is_hex_digit true refl c.args.b (omega arith) (omega arith) (omega arith) (λ e. e)

pub returns-in-65-to-70-2 : goal.returns-in-65-to-70-2
unfolding all_below same decides between-keys is_hex_digit is_digit between
returns-in-65-to-70-2 c = by-range [] 97 103 is_hex_digit true refl c.args.b (omega arith) (omega arith) (omega arith) (λ e. e)

pub returns-in_default : goal.returns-in_default
returns-in_default c =
    elim c.in_default.branch [
      | in_default-via-then-b-lt65 w ↦ c.is_digit.ensures ∙ no_letter c.args.b (under 65 70 _ (omega arith)) (under 97 102 _ (omega arith))
      | in_default-via-else-b-lt65+else-b-lt71+then-b-lt97 w ↦ c.is_digit.ensures ∙ no_letter c.args.b (over 65 70 _ (omega arith) (omega arith)) (under 97 102 _ (omega arith))
      | in_default-via-else-b-lt65+else-b-lt71+else-b-lt97+else-b-lt103 w ↦ c.is_digit.ensures ∙ no_letter c.args.b (over 65 70 _ (omega arith) (omega arith)) (over 97 102 _ (omega arith) (omega arith))
    ]
