use mathlib.Core.Path.{ap, ◌∙◌}
use Rattle.scanner.specs.Answers.{reply_of}
use Rattle.diverplume.specs.Numbers.{reply_numbers}
use Rattle.diverplume.proofs.diverplume_scan.Goals as goal

pub returns : goal.returns
unfolding reply_of
returns c = record { numbers = c.scan_numbers.ensures ∙ ap reply_numbers c.scan.ensures; written = ap (λ r. r.out) c.scan.ensures }
