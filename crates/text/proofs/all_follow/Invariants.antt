-- `text::all_follow` meets its contract. The invariant: where nothing was wrong so far, the bytes that were passed follow. Assumes nothing.
use Prim.Native.Nat.{ℕ, ◌-◌, ◌≤◌, ◌<◌}
use mathlib.Core.Bool.{false}
use mathlib.Core.Path.{◌≡◌}
use lib.ListN.{get_or}
use Rattle.text.specs.Promises.Utf8.{Follows}
use Rattle.text.proofs.all_follow.Given as goal

abbrev pub invariant-loop-i : goal.invariant-loop-i
invariant-loop-i l = l.wrong ≡ false → (k : ℕ) → 3 ≤ k → k < l.i → Follows (get_or l.s (k - 3) 0) (get_or l.s (k - 2) 0) (get_or l.s (k - 1) 0) (get_or l.s k 0)
