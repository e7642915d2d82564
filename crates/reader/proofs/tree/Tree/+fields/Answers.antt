use Rattle.std.proofs.lemmas.Result.{err_from_is_err_and}
use Rattle.reader.proofs.FieldLaws.{run_nodes, row_stops, row_goes, list_goes}
use Rattle.reader.proofs.tree.Tree.+fields.Goals as goal

pub fields-returns-in_err-next : goal.fields-returns-in_err-next
fields-returns-in_err-next t c =
    let p = err_from_is_err_and c.from_residual-in_err-next.result c.from_residual-in_err-next.ensures.1 in
    rw (p.1, p.2)
    (row_stops c.loop-rest.invariant c.loop-rest-test.true (run_nodes c.run_at.ensures c.in_ok-run.ensures.ok_part c.in_err-next.ensures))

pub fields-loop-rest-preserved : goal.fields-loop-rest-preserved
fields-loop-rest-preserved t c = row_goes c.loop-rest.invariant c.loop-rest-test.true (run_nodes c.run_at.ensures c.in_ok-run.ensures.ok_part c.in_ok-next.ensures)

pub items-loop-preserved : goal.items-loop-preserved
items-loop-preserved t c = list_goes c.loop.invariant c.loop-test.true c.in_ok-next.ensures
