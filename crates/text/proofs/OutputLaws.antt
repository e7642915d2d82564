-- Laws of the definitions in specs/Output.antt: what is fitted into an output is accepted or declined. Assumes nothing.
use Prim.Native.Nat.{ℕ, ◌≤◌, ◌<◌}
use mathlib.Core.Path.{◌≡◌, refl}
use mathlib.Core.List.{List}
use mathlib.Core.Bool.{Bool, true, false}
use lib.ListN.{length}
use lib.Dec.{leb}
use borrow.Author.Tests.{le-leb, lt-leb, leb-true, leb-false}
use Rattle.text.specs.Output.{Reply, declined, accepted, fitted}

module _ {Verdict : Type 0} (v no_room : Verdict) (bytes out : List ℕ) where
  pub fitted-room : length bytes ≤ length out → fitted v no_room bytes out ≡ accepted v bytes out
  unfolding fitted
  fitted-room h = rw (fitted, le-leb (length bytes) (length out) h)

  pub fitted_short : length out < length bytes → fitted v no_room bytes out ≡ declined no_room out
  unfolding fitted
  fitted_short h = rw (fitted, lt-leb (length bytes) (length out) h)

  -- By cases.
  pub fitted-cases : (P : Reply Verdict → Type 0) → P (accepted v bytes out) → P (declined no_room out) → P (fitted v no_room bytes out)
  fitted-cases P room short = go (leb (length bytes) (length out)) refl
    where
      go : (t : Bool) → leb (length bytes) (length out) ≡ t → P (fitted v no_room bytes out)
      go true e = rw (fitted-room (leb-true (length bytes) (length out) e)) room
      go false e = rw (fitted_short (leb-false (length bytes) (length out) e)) short
