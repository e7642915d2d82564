use Rattle.std.proofs.Common.{◌≡◌, drop}
use Rattle.layout.specs.Meaning.{needs_newline}
use Rattle.layout.proofs.looks.body_exp_needs_newline.Given as goal

-- What is left of the record decides.
abbrev pub invariant-loop-i : goal.invariant-loop-i
invariant-loop-i l = needs_newline (drop l.i l.page.rec.now) ≡ needs_newline (drop l.at l.page.rec.now)
