-- `doc_comment::doc_text` meets its contract: the lines between, or the output is too short for them. Assumes nothing.
use native.Mathlib.Omega.{arith}
use Rattle.doc_comment.proofs.Text.{said-none, said-short, said-found}
use Rattle.doc_comment.proofs.doc_text.Goals as goal

pub returns-in_default : goal.returns-in_default
returns-in_default c = said-none _ _ c.in_default.ensures

pub write-requires : goal.write-requires
write-requires c = record { closes = c.in-Some.ensures.closes; m_in_bounds = omega arith }

pub returns-then-out-n : goal.returns-then-out-n
returns-then-out-n c = said-short _ _ c.in-Some.ensures c.saturating_sub-n.result (omega arith) _ c.if-out-n.true

pub returns : goal.returns
returns c = said-found _ _ c.in-Some.ensures c.saturating_sub-n.result (omega arith) c.write.ensures c.if-out-n.false
