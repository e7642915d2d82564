use native.Mathlib.Omega.{arith}
use Prim.Native.Nat.{◌*◌, ◌<◌}
use mathlib.Core.Path.{◌≡◌, sym, ◌∙◌}
use mathlib.Core.List.{◌++◌}
use lib.ListN.{length, get_or, drop, length-set}
use Rattle.std.specs.Iterator.Adapters.{take_source, take_count}
use Rattle.std.specs.Slice.Iter.{chunks_exact_rest, chunks_exact_size}
use Rattle.reader.proofs.SpanLaws.{tokens_more, counts_starts}
use Rattle.reader.proofs.RowLaws.{laid_none, laid_chunk, chunk_rest}
use Rattle.reader.proofs.tokens.lay_row.Goals as goal

pub loop-command-init : goal.loop-command-init
loop-command-init c =
    let most : take_count c.into_iter-command-iterator.result ≡ 4096 = cc in
    let size : chunks_exact_size (take_source c.into_iter-command-iterator.result) ≡ 4 = cc in
    record {
      laid = laid_none _;
      kinds = c.tokens.told;
      spans = c.tokens.invariant.1;
      small = omega arith;
      few = omega (arith, most);
      rest = cc;
      size = size;
      can = omega (arith, size);
      ends = tt;
    }

pub loop-command-preserved : goal.loop-command-preserved
loop-command-preserved c =
    let at = c.loop-command in
    let was = at.invariant in
    let steps = rw c.in-Some.is at c.next.ensures.steps in
    let rest : drop (4 * at.count) c.args.rec.now ≡ c.in-Some.command.now ++ chunks_exact_rest (take_source c.next.new.self) = sym was.rest ∙ steps.0.1.0 in
    let four : length c.in-Some.command.now ≡ 4 = steps.0.1.1 ∙ was.size in
    let tag : get_or c.in-Some.command.now 0 0 ≡ 5 = omega arith in
    let below : at.count < 4096 = omega (arith, steps.1) in
    record {
      laid = rw (tokens_more at.tokens-inside.kinds at.tokens-inside.spans at.count _ _ was.kinds was.spans below)
          (laid_chunk c.args.rec.now at.count _ _ rest four was.laid
          (counts_starts at.count at.tokens-inside.kinds at.tokens-inside.spans was.spans (omega arith)) below tag c.two-len.ensures.value);
      kinds = length-set at.tokens-inside.kinds _ _ ∙ was.kinds;
      spans = length-set at.tokens-inside.spans _ _ ∙ was.spans;
      small = omega arith;
      few = omega (arith, steps.1);
      rest = chunk_rest c.args.rec.now at.count _ _ rest four;
      size = steps.0.0 ∙ was.size;
      can = omega (arith, steps.0.0, was.size);
      ends = tt;
    }
