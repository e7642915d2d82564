-- `doc_comment::cut_line` meets its contract: the line feed is the first, and the byte before it is or is not a carriage return. Assumes nothing.
use Prim.Native.Nat.{◌+◌, ◌≤◌}
use mathlib.Core.Path.{◌≡◌}
use Rattle.std.proofs.lemmas.Grind.{common_steps}
use native.Mathlib.Omega.{arith}
use lib.ListN.{length, drop_of_length-le}
use Rattle.text.proofs.Laws.{take_rest}
use Rattle.doc_comment.proofs.Scan.{cut-last, cut-return, cut-plain}
use Rattle.doc_comment.proofs.cut_line.Goals.{else-n-gt0-via-then-n-gt0+else-s-n-eq13, else-n-gt0-via-else-n-gt0}
use Rattle.doc_comment.proofs.cut_line.Goals as goal

pub returns-in_default : goal.returns-in_default
returns-in_default c =
    let s = c.args.s.now in
    let some : length s ≡ 0 → ⊥ = grind (arith, common_steps) in
    let end : length s ≤ length s = omega arith in
    rw (take_rest s (length s), drop_of_length-le s end) (cut-last s some c.in_default.ensures)

pub returns-then-s-n-eq13 : goal.returns-then-s-n-eq13
returns-then-s-n-eq13 c =
    let s = c.args.s.now in
    rw (take_rest s (c.in-Some.n + 1)) (cut-return s c.in-Some.n c.in-Some.ensures c.if-n-gt0.true c.if-s-n-eq13.true)

pub returns : goal.returns
returns c =
    let s = c.args.s.now in
    rw (take_rest s (c.in-Some.n + 1))
    (cut-plain s c.in-Some.n c.in-Some.ensures
    (elim c.else-n-gt0.branch [
      | else-n-gt0-via-then-n-gt0+else-s-n-eq13 w ↦ λ l. w.if-s-n-eq13.false
      | else-n-gt0-via-else-n-gt0 w ↦ λ l. absurd (omega (arith, w.if-n-gt0.false))
    ]))
