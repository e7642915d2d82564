-- `is_plain_escape` meets its contract, by computation over all bytes. Assumes nothing.
use Prim.Native.Nat.{ℕ}
use borrow.Author.Rules.{rules}
use native.Mathlib.Omega.{arith}
use mathlib.Core.Path.{refl, sym}
use mathlib.Core.Bool.{Bool, true, false}
use mathlib.Core.List.{List, [], ◌∷◌}
use Rattle.text.specs.Bytes.{bytes}
use Rattle.scanner.specs.Parts.{every, is_one_of}
use Rattle.text.proofs.Computed.{all_below, same}
use Rattle.scanner.proofs.Bytes.{decides, between-keys, by-range, among_keys}
use Rattle.scanner.proofs.strings.is_plain_escape.Goals as goal

abbrev keys : List ℕ
keys = 34 ∷ 92 ∷ 102 ∷ 110 ∷ 114 ∷ 116 ∷ 118 ∷ []

abbrev plain : ℕ → Bool
plain b = is_one_of (bytes "abtnvfr\"\\") b

pub returns-in_default : goal.returns-in_default
unfolding all_below same decides between-keys is_one_of bytes every
returns-in_default c = by-range keys 0 97 plain false refl c.args.b (omega arith) (omega arith) (omega arith) (search rules)

pub returns-in_default-2 : goal.returns-in_default-2
unfolding all_below same decides between-keys is_one_of bytes every
returns-in_default-2 c = by-range keys 99 256 plain false refl c.args.b (omega arith) (omega arith) (omega arith) (search rules)

pub returns-in-34 : goal.returns-in-34
unfolding all_below same decides between-keys is_one_of bytes every
returns-in-34 c = sym (among_keys keys plain _ refl c.in-34.is)

pub returns-in-34-2 : goal.returns-in-34-2
unfolding all_below same decides between-keys is_one_of bytes every
returns-in-34-2 c = by-range keys 97 99 plain true refl c.args.b (omega arith) (omega arith) (omega arith) (search rules)
