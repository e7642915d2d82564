use mathlib.Core.Path.{sym, ◌∙◌}
use Rattle.std.proofs.lemmas.Result.{err_from_is_err_and}
use Rattle.reader.proofs.ReadingLaws.{record_untiled, record_ok, record_err}
use Rattle.reader.proofs.read_record.Goals as goal

pub returns-in_err-tree : goal.returns-in_err-tree
returns-in_err-tree c =
    let p = err_from_is_err_and c.from_residual.result c.from_residual.ensures.1 in
    rw (p.1, p.2) (record_untiled (rw c.in_err-tree.was at c.read_tokens.ensures))

pub returns-in_err-tree_end : goal.returns-in_err-tree_end
returns-in_err-tree_end c =
    let p = err_from_is_err_and c.from_residual-in_err-tree_end.result c.from_residual-in_err-tree_end.ensures.1 in
    rw (p.1, p.2) (record_err (rw c.in_ok-tree.was at c.read_tokens.ensures) (sym c.in_err-tree_end.was ∙ (rw c.count.ensures.0 at c.tree_end.ensures.is)))

pub returns : goal.returns
returns c = record_ok (rw c.in_ok-tree.was at c.read_tokens.ensures) (sym c.in_ok-tree_end.was ∙ (rw c.count.ensures.0 at c.tree_end.ensures.is))
