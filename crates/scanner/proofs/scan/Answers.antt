-- `scan` meets its contract. Assumes nothing.
use native.Mathlib.Omega.{arith}
use mathlib.Core.Path.{◌∙◌}
use Rattle.scanner.proofs.CallLaws.{scan-fails, scan-short, scan-written}
use Rattle.scanner.proofs.scan.Goals as goal

pub returns-in_err-read_text : goal.returns-in_err-read_text
returns-in_err-read_text c = scan-fails c.args.text.now _ c.read_text.ensures _ c.from_residual.result c.in_err-read_text.was c.from_residual.ensures.1

pub returns-then-out-size : goal.returns-then-out-size
returns-then-out-size c =
    let n = c.count-size.ensures in
    scan-short c.args.text.now _ c.read_text.ensures c.in_ok-read_text.was (n.2 ∙ n.0) (n.3 ∙ n.0) _ (omega (arith, n.0))

pub returns : goal.returns
returns c =
    let n = c.count-size.ensures in
    rw n.0
    (scan-written c.args.text.now _ c.read_text.ensures c.in_ok-read_text.was (n.2 ∙ n.0) (n.3 ∙ n.0) _ (omega (arith, n.0)) c.write.ensures)
