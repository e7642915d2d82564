-- `is_symbol` meets its contract, by computation over all 256 entries. Assumes nothing.
use Prim.Native.Nat.{ℕ, ◌<◌}
use native.Mathlib.Omega.{arith}
use mathlib.Core.Path.{◌≡◌, refl}
use mathlib.Core.List.{List}
use lib.Dec.{eqb}
use lib.ListN.{get_or}
use Rattle.text.specs.Bytes.{bytes}
use Rattle.scanner.specs.Parts.{is_one_of}
use Rattle.scanner.specs.Lexical.{is_symbol}
use Rattle.text.proofs.Computed.{all_below, below, same, same_is}
use Rattle.scanner.proofs.runs.is_symbol.Goals as goal

abbrev symbols : List ℕ
symbols = bytes "---------------------------------*-****---**-*-*----------*-*****---------------------------*-*-*---------------------------*-*---------------------------------------------------------------------------------------------------------------------------------"

tells : (b : ℕ) → b < 256 → eqb (get_or symbols b 0) 42 ≡ is_symbol b
unfolding all_below same is_symbol is_one_of bytes
tells b l = same_is _ _ (below 256 (λ b. same (eqb (get_or symbols b 0) 42) (is_symbol b)) refl b l)

pub returns : goal.returns
unfolding all_below same is_symbol is_one_of bytes
returns c = tells c.args.b (omega arith)
