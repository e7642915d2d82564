-- `comments::Set::all` meets its contract. The invariant: each word before `w` has the bits of its tokens. Assumes nothing.
use Prim.Native.Nat.{ℕ, ◌*◌, ◌<◌}
use mathlib.Core.Path.{◌≡◌}
use lib.ListN.{length, get_or}
use Rattle.comments.specs.Set.{is_comment, bits}
use Rattle.comments.proofs.Set.all.Given as goal

abbrev pub invariant-loop-w : goal.invariant-loop-w
invariant-loop-w l = (length l.words ≡ 64) × ((j : ℕ) → j < l.w → get_or l.words j 0 ≡ bits (is_comment l.kinds) (64 * j) 64)
