-- The functions of a cycle of calls end.
use Prim.Native.Nat.{◌+◌, ◌*◌}
use Rattle.types.proofs.+types.Given as goal

abbrev pub decreases-con_ty : goal.decreases-con_ty
decreases-con_ty l = 16 * l.cfg.nesting + 5

abbrev pub decreases-fn_ty : goal.decreases-fn_ty
decreases-fn_ty l = 16 * l.cfg.nesting + 1

abbrev pub decreases-get_ty : goal.decreases-get_ty
decreases-get_ty l = 16 * l.cfg.nesting + 0

abbrev pub decreases-one_arg_con_ty : goal.decreases-one_arg_con_ty
decreases-one_arg_con_ty l = 16 * l.cfg.nesting + 1

abbrev pub decreases-paren_ty : goal.decreases-paren_ty
decreases-paren_ty l = 16 * l.cfg.nesting + 1

abbrev pub decreases-record_ty : goal.decreases-record_ty
decreases-record_ty l = 16 * l.cfg.nesting + 4

abbrev pub decreases-star_ty : goal.decreases-star_ty
decreases-star_ty l = 16 * l.cfg.nesting + 1

abbrev pub decreases-star_tys : goal.decreases-star_tys
decreases-star_tys l = 16 * l.cfg.nesting + 3

abbrev pub decreases-star_tys-item : goal.decreases-star_tys-item
decreases-star_tys-item l = 16 * l.cfg.nesting + 2

abbrev pub decreases-tuple_ty : goal.decreases-tuple_ty
decreases-tuple_ty l = 16 * l.cfg.nesting + 4

abbrev pub decreases-ty_args : goal.decreases-ty_args
decreases-ty_args l = 16 * l.cfg.nesting + 2

abbrev pub decreases-ty_args-item : goal.decreases-ty_args-item
decreases-ty_args-item l = 16 * l.cfg.nesting + 1

abbrev pub decreases-ty_row : goal.decreases-ty_row
decreases-ty_row l = 16 * l.cfg.nesting + 1

abbrev pub decreases-ty_rows : goal.decreases-ty_rows
decreases-ty_rows l = 16 * l.cfg.nesting + 3

abbrev pub decreases-ty_rows-item : goal.decreases-ty_rows-item
decreases-ty_rows-item l = 16 * l.cfg.nesting + 2

abbrev pub decreases-ty_seq : goal.decreases-ty_seq
decreases-ty_seq l = 16 * l.cfg.nesting + 4

abbrev pub decreases-ty_seq_there : goal.decreases-ty_seq_there
decreases-ty_seq_there l = 16 * l.cfg.nesting + 3
