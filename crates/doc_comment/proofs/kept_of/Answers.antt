-- `doc_comment::kept_of` meets its contract: what follows the first asterisk starts with a space or does not. Assumes nothing.
use Prim.Native.Nat.{◌+◌, ◌-◌, ◌<◌}
use mathlib.Core.Path.{◌≡◌}
use mathlib.Core.Bool.{true}
use lib.ListN.{length, take, drop}
use Rattle.std.proofs.lemmas.Grind.{common_steps}
use native.Mathlib.Omega.{arith}
use Rattle.text.proofs.Laws.{take_rest}
use Rattle.doc_comment.proofs.Scan.{dropped, stands-space, stands-plain}
use Rattle.doc_comment.proofs.kept_of.Goals.{else-not-is_empty-via-then-not-is_empty+else-rest-eq32, else-not-is_empty-via-else-not-is_empty}
use Rattle.doc_comment.proofs.kept_of.Goals as goal

pub returns-in_err-n : goal.returns-in_err-n
returns-in_err-n c =
    let line = c.args.line.now in
    rw c.from_residual.ensures (dropped line c.in_err-n.ensures)

pub returns-then-rest-eq32 : goal.returns-then-rest-eq32
returns-then-rest-eq32 c =
    let line = c.args.line.now in
    let rest = take (length line - (c.in_ok-n.n + 1)) (drop (c.in_ok-n.n + 1) line) in
    let some : 0 < length rest = grind (arith, common_steps) in
    rw (take_rest rest 1) (stands-space line c.in_ok-n.n c.in_ok-n.ensures rest (take_rest line (c.in_ok-n.n + 1)) some c.if-rest-eq32.true)

pub returns : goal.returns
returns c =
    let line = c.args.line.now in
    let rest = take (length line - (c.in_ok-n.n + 1)) (drop (c.in_ok-n.n + 1) line) in
    let none : (c.is_empty.result ≡ true) → 0 < length rest → ⊥ = grind (arith, common_steps) in
    stands-plain line c.in_ok-n.n c.in_ok-n.ensures rest (take_rest line (c.in_ok-n.n + 1))
    (elim c.else-not-is_empty.branch [
      | else-not-is_empty-via-then-not-is_empty+else-rest-eq32 w ↦ λ l. w.if-rest-eq32.false
      | else-not-is_empty-via-else-not-is_empty w ↦ λ l. absurd (none w.if-not-is_empty.false l)
    ])
