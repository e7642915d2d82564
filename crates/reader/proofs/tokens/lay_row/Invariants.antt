-- The commands before `count` are laid out; the iterator has those from there on.
use mathlib.Core.Path.{◌≡◌}
use lib.ListN.{length, drop}
use Prim.Native.Nat.{◌+◌, ◌*◌, ◌≤◌}
use Rattle.std.specs.Iterator.Adapters.{take_source, take_count}
use Rattle.std.specs.Slice.Iter.{chunks_exact_rest, chunks_exact_size}
use Rattle.reader.specs.Promises.Tokens.{tokens_in, Laid}
use Rattle.reader.proofs.tokens.lay_row.Given as goal

abbrev pub invariant-loop-command : goal.invariant-loop-command
invariant-loop-command l =
    record {
      laid : Laid l.rec (tokens_in l.count l.tokens-inside.kinds l.tokens-inside.spans) l.sum;
      kinds : length l.tokens-inside.kinds ≡ 4096;
      spans : length l.tokens-inside.spans ≡ 4096;
      small : l.sum ≤ 65535 * l.count;
      few : l.count + take_count l.command-iterator ≡ 4096;
      rest : chunks_exact_rest (take_source l.command-iterator) ≡ drop (4 * l.count) l.rec;
      size : chunks_exact_size (take_source l.command-iterator) ≡ 4;
      can : (goal.iterator-loop-command).can_next l.command-iterator;
      ends : (goal.iterator-loop-command).is_finite l.command-iterator;
    }
