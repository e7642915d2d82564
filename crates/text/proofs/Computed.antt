-- Tests of bytes that are decided by computation over all of them. Assumes nothing.
use Prim.Native.Nat.{ℕ, zero, suc, ◌<◌}
use native.Mathlib.Omega.{arith}
use mathlib.Core.Path.{◌≡◌, refl, sym}
use mathlib.Core.Bool.{Bool, true, false, not, ◌&&◌, false≢true}
use lib.Dec.{eqb}
use borrow.Author.Tests.{eqb-true, eqb-false}

pub and_left : (a b : Bool) → (a && b) ≡ true → a ≡ true
and_left true b h = refl
and_left false b h = absurd (false≢true h)

pub and_right : (a b : Bool) → (a && b) ≡ true → b ≡ true
and_right true b h = h
and_right false b h = absurd (false≢true h)

-- A test of every number below n.
unfoldable pub all_below : ℕ → (ℕ → Bool) → Bool
all_below zero test = true
all_below (suc n) test = test n && all_below n test

pub below : (n : ℕ) (test : ℕ → Bool) → all_below n test ≡ true → (b : ℕ) → b < n → test b ≡ true
unfolding all_below
below zero test h b l = absurd (omega arith)
below (suc n) test h b l = go (eqb b n) refl (below n test (and_right (test n) (all_below n test) h) b)
  where
    go : (t : Bool) → eqb b n ≡ t → (b < n → test b ≡ true) → test b ≡ true
    go true e ih = rw (eqb-true b n e) (and_left (test n) (all_below n test) h)
    go false e ih = let d = eqb-false b n e in ih (omega arith)

unfoldable pub same : Bool → Bool → Bool
same true b = b
same false b = not b

pub same_is : (a b : Bool) → same a b ≡ true → a ≡ b
unfolding same
same_is true b h = sym h
same_is false true h = absurd (false≢true h)
same_is false false h = refl

-- Two tests that answer alike on every number below n.
pub agree : (n : ℕ) (f g : ℕ → Bool) → all_below n (λ b. same (f b) (g b)) ≡ true → (b : ℕ) → b < n → f b ≡ g b
agree n f g h b l = same_is (f b) (g b) (below n (λ b. same (f b) (g b)) h b l)
