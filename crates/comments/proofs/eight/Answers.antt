-- `comments::eight` meets its contract. Assumes nothing.
use Rattle.comments.proofs.Eights.{eight_is}
use Rattle.comments.proofs.eight.Goals as goal

pub returns : goal.returns
returns c = eight_is _ _ _ _ _ _ _ _ _ _ c.one-a.ensures.0 c.one-b.ensures.0 c.one-c.ensures.0 c.one-d.ensures.0 c.one-e.ensures.0 c.one-f.ensures.0 c.one-g.ensures.0 c.one-h.ensures.0
