-- `comments::cleared` meets its contract. Assumes nothing.
use Rattle.comments.proofs.Words.{cleared-is}
use Rattle.comments.proofs.cleared.Goals as goal

pub returns : goal.returns
returns c = cleared-is _ _ c.ranges.x.fits c.requires
