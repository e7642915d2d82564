-- `doc_comment::feed` meets its contract. Assumes nothing.
use Rattle.doc_comment.proofs.Text.{fed-start, fed-later}
use Rattle.doc_comment.proofs.feed.Goals as goal

pub returns-then-t-gt0 : goal.returns-then-t-gt0
returns-then-t-gt0 c = fed-later _ _ c.if-t-gt0.true

pub returns-else-t-gt0 : goal.returns-else-t-gt0
returns-else-t-gt0 c = fed-start _ _ c.if-t-gt0.false
