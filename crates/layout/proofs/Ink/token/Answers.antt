use Rattle.layout.proofs.Steps.{put_token}
use Rattle.layout.proofs.Ink.token.Goals as goal

pub returns : goal.returns
returns c a = put_token _ _ c.text_of.ensures c.write.ensures
