use Rattle.layout.proofs.Steps.{put_comment}
use Rattle.layout.proofs.Ink.comment.Goals as goal

pub returns : goal.returns
returns c a = put_comment _ _ c.args.self.now c.strike.ensures c.text_of.ensures c.trim.ensures c.write.ensures
