-- Laws of what stands at an offset: bytes past the end.
use Prim.Native.Nat.{ℕ, ◌+◌, ◌≤◌}
use mathlib.Core.Path.{◌≡◌}
use mathlib.Core.List.{List}
use native.Mathlib.Omega.{arith}
use lib.ListN.{length, get_or-eq_default}
use Rattle.text.specs.At.{u16}

-- The bytes past the end count 0.
pub u16-past : (s : List ℕ) (at : ℕ) → length s ≤ at → 0 ≡ u16 s at
unfolding u16
u16-past s at h =
    let k : length s ≤ at + 1 = omega arith in
    rw (get_or-eq_default s 0 {n = at} h, get_or-eq_default s 0 {n = at + 1} k)
