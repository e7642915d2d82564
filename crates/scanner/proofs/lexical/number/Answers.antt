-- `number` meets its contract. Assumes nothing.
use Rattle.std.proofs.Common.{rules, arith}
use Rattle.scanner.proofs.TokenLaws.{number-either}
use Rattle.scanner.proofs.lexical.number.Goals as goal

pub returns : goal.returns
returns c =
    let a = c.args in
    number-either a.rest.now a.b c.requires.rest_value (omega arith) c.requires.b_value _ c.word.ensures c.or_else.ensures (λ k. search rules)
