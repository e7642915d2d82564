use Rattle.text.specs.Bytes.{bytes}
use Rattle.layout.specs.Exp as Exp
use Rattle.layout.proofs.HeadLaws.{operated_pipe, operated_gap}
use Rattle.layout.proofs.Steps.{sure_then, sure_word}
use Rattle.leaves.proofs.infix_operator.Goals as goal

pub returns-then-is_pipe : goal.returns-then-is_pipe
unfolding Exp.pipe bytes
returns-then-is_pipe c =
    operated_pipe c.is_pipe.ensures c.if-is_pipe.true
    (sure_then (sure_word c.put.ensures (cc)) (sure_then c.indent_deeper.ensures (sure_word c.put-then-is_pipe.ensures (cc))))

pub returns : goal.returns
unfolding bytes
returns c =
    operated_gap c.is_pipe.ensures c.if-is_pipe.false (sure_word c.put-2.ensures (cc)) c.token.ensures (sure_word c.put-3.ensures (cc))
