-- `text::fits` meets its contract. The invariant: the bytes fit where what follows `i` fits the ranges from `i` on. Assumes nothing.
use mathlib.Core.Path.{◌≡◌}
use lib.ListN.{drop}
use Rattle.text.specs.Utf8.{fits}
use Rattle.text.specs.Promises.Utf8.{ranges}
use Rattle.text.proofs.fits.Given as goal

abbrev pub invariant-loop-i : goal.invariant-loop-i
invariant-loop-i g l = fits (ranges l.row) l.s ≡ fits (ranges (drop l.i l.row)) (drop l.i l.s)
