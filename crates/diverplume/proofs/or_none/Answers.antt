use mathlib.Core.Path.{◌≡◌}
use borrow.Author.Rules.{rules}
use Prim.Native.Nat.{ℕ}
use Rattle.std.specs.Prelude.{Option, None, Some, MatchOption}
use Rattle.diverplume.specs.Numbers.{or_none}
use Rattle.diverplume.proofs.or_none.Goals as goal

-- A number, or what stands for none.
number-is : {r : ℕ} {Is : ℕ → Type 0} (o : Option ℕ) → ((k : ℕ) → Is k → r ≡ k) → MatchOption o (r ≡ 0xFFFF_FFFF_FFFF_FFFF) Is → r ≡ or_none o
number-is None f h = h
number-is (Some k) f h = f k h

pub returns : goal.returns
returns c = number-is c.args.found (λ k h. search rules) c.map_or.ensures
