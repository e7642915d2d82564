-- `doc_comment::write` meets its contract. The invariant: the lines before `rest` are written, and take `t` bytes. Assumes nothing.
use Prim.Native.Nat.{◌-◌}
use Rattle.doc_comment.proofs.Text.{Writing}
use Rattle.doc_comment.proofs.write.Given as goal

abbrev pub invariant-loop-t : goal.invariant-loop-t
invariant-loop-t l = Writing l.comment l.m l.initial.out l.rest l.t l.out

abbrev pub decreases-loop-t : goal.decreases-loop-t
decreases-loop-t l = l.m - l.t
