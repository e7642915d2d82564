-- The functions of a cycle of calls end.
use Prim.Native.Nat.{◌+◌, ◌*◌}
use Rattle.patterns.proofs.+patterns.Given as goal

abbrev pub decreases-as_pat : goal.decreases-as_pat
decreases-as_pat l = 16 * l.cfg.nesting + 1

abbrev pub decreases-as_tail : goal.decreases-as_tail
decreases-as_tail l = 16 * l.cfg.nesting + 2

abbrev pub decreases-as_tail_there : goal.decreases-as_tail_there
decreases-as_tail_there l = 16 * l.cfg.nesting + 1

abbrev pub decreases-con_arg : goal.decreases-con_arg
decreases-con_arg l = 16 * l.cfg.nesting + 2

abbrev pub decreases-con_arg_there : goal.decreases-con_arg_there
decreases-con_arg_there l = 16 * l.cfg.nesting + 1

abbrev pub decreases-con_pat : goal.decreases-con_pat
decreases-con_pat l = 16 * l.cfg.nesting + 3

abbrev pub decreases-get_pat : goal.decreases-get_pat
decreases-get_pat l = 16 * l.cfg.nesting + 0

abbrev pub decreases-infix_pat : goal.decreases-infix_pat
decreases-infix_pat l = 16 * l.cfg.nesting + 1

abbrev pub decreases-lab_and_pat : goal.decreases-lab_and_pat
decreases-lab_and_pat l = 16 * l.cfg.nesting + 1

abbrev pub decreases-lab_pat : goal.decreases-lab_pat
decreases-lab_pat l = 16 * l.cfg.nesting + 3

abbrev pub decreases-list_pat : goal.decreases-list_pat
decreases-list_pat l = 16 * l.cfg.nesting + 3

abbrev pub decreases-or_pat : goal.decreases-or_pat
decreases-or_pat l = 16 * l.cfg.nesting + 1

abbrev pub decreases-paren_pat : goal.decreases-paren_pat
decreases-paren_pat l = 16 * l.cfg.nesting + 1

abbrev pub decreases-pat_args : goal.decreases-pat_args
decreases-pat_args l = 16 * l.cfg.nesting + 2

abbrev pub decreases-pat_args-item : goal.decreases-pat_args-item
decreases-pat_args-item l = 16 * l.cfg.nesting + 1

abbrev pub decreases-record_pat : goal.decreases-record_pat
decreases-record_pat l = 16 * l.cfg.nesting + 8

abbrev pub decreases-row : goal.decreases-row
decreases-row l = 16 * l.cfg.nesting + 5

abbrev pub decreases-row_inner : goal.decreases-row_inner
decreases-row_inner l = 16 * l.cfg.nesting + 4

abbrev pub decreases-rows : goal.decreases-rows
decreases-rows l = 16 * l.cfg.nesting + 7

abbrev pub decreases-rows-item : goal.decreases-rows-item
decreases-rows-item l = 16 * l.cfg.nesting + 6

abbrev pub decreases-tuple_pat : goal.decreases-tuple_pat
decreases-tuple_pat l = 16 * l.cfg.nesting + 3

abbrev pub decreases-typed_pat : goal.decreases-typed_pat
decreases-typed_pat l = 16 * l.cfg.nesting + 1

abbrev pub decreases-vector_args : goal.decreases-vector_args
decreases-vector_args l = 16 * l.cfg.nesting + 3

abbrev pub decreases-vector_pat : goal.decreases-vector_pat
decreases-vector_pat l = 16 * l.cfg.nesting + 4
