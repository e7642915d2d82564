use native.Mathlib.Omega.{arith}
use mathlib.Core.Path.{◌∙◌}
use Rattle.doc_comment.proofs.Text.{writing_none, writing-some, writing-room, writing_more, writing-all}
use Rattle.doc_comment.proofs.write.Goals as goal

pub loop-t-init : goal.loop-t-init
loop-t-init c = writing_none _ c.requires.closes

pub returns-in_default : goal.returns-in_default
returns-in_default c = absurd (writing-some c.loop-t.invariant c.in_default.ensures)

pub copy-requires : goal.copy-requires
copy-requires c = omega (arith, writing-room c.loop-t.invariant c.loop-t-test.true c.in-Some.ensures c.requires.m_in_bounds, c.feed.auto.out)

pub loop-t-preserved : goal.loop-t-preserved
loop-t-preserved c = writing_more c.loop-t.invariant c.loop-t-test.true c.in-Some.ensures c.requires.m_in_bounds c.feed.ensures c.copy.ensures (c.copy.auto.out ∙ c.feed.auto.out)

pub returns : goal.returns
returns c = writing-all c.loop-t.invariant c.loop-t-test.false
