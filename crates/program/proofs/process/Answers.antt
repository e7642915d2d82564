-- `program::process` meets its contract. Assumes nothing.
use Rattle.std.proofs.Common.{arith, ℕ, take, drop, ap, ◌∙◌}
use Rattle.program.specs.Program.{room}
use Rattle.program.proofs.PrintingLaws.{puts_prints}
use Rattle.program.proofs.InputLaws.{to_the_end, Split, short-prints, answer-prints, answer-within}
use Rattle.std.proofs.lemmas.List.{length-replicate}
use Rattle.program.proofs.process.Goals as goal

pub returns-then-input-n : goal.returns-then-input-n
returns-then-input-n c = rw (short-prints c.args.input.now (omega arith)) (puts_prints c.put_line.ensures.puts)

pub print-requires-clause-text_within : goal.print-requires-clause-text_within
print-requires-clause-text_within c =
    answer-within _ _ _ c.get-answer.result c.get-answer.new.left.words c.get-answer.new.out c.get-answer.ensures (c.get-answer.auto.out ∙ length-replicate {A = ℕ} room 0)

pub returns : goal.returns
returns c =
    let rest = to_the_end 6 c.args.input.now in
    let split : Split c.args.input.now c.tab_size-tab.result c.text_length-n.result c.split_at.result.0.now c.split_at.result.1.now =
    record {
      tabs = c.tab_size-tab.ensures;
      size = c.text_length-n.ensures;
      front = c.split_at.ensures.front ∙ ap (take c.text_length-n.result) rest;
      back = c.split_at.ensures.back ∙ ap (drop c.text_length-n.result) rest;
      whole = c.if-input-n.false;
    } in
    rw (answer-prints _ _ _ c.get-answer.result c.get-answer.new.left.words c.get-answer.new.out c.get-answer.ensures split) at (puts_prints c.print.ensures)
