-- The functions of a cycle of calls end; what the loops know.
use mathlib.Core.Bool.{false}
use mathlib.Core.List.{List}
use Prim.Native.Nat.{ℕ, ◌+◌, ◌-◌, ◌*◌, ◌≤◌}
use Rattle.std.specs.Prelude.{Result}
use Rattle.layout.specs.declared.Ink.{Ink}
use Rattle.layout.specs.declared.Stop.{Stop}
use Rattle.layout.specs.Exp.{exp_semi_more}
use Rattle.layout.specs.StrExp.{app_args}
use Rattle.layout.specs.Walk.{walks}
use Rattle.layout.specs.Promises.Lent.{page_in}
use Rattle.layout.specs.Promises.State.{cfg_of, run_of, Walked}
use Rattle.walk.proofs.+walk.Given as goal

abbrev pub decreases-abstype_dec : goal.decreases-abstype_dec
decreases-abstype_dec l = 16 * l.cfg.nesting + 7

abbrev pub decreases-ascription : goal.decreases-ascription
decreases-ascription l = 16 * l.cfg.nesting + 2

abbrev pub decreases-ascription_str_exp : goal.decreases-ascription_str_exp
decreases-ascription_str_exp l = 16 * l.cfg.nesting + 2

abbrev pub decreases-app_exp : goal.decreases-app_exp
decreases-app_exp l = 16 * l.cfg.nesting + 1

abbrev pub decreases-exp_args : goal.decreases-exp_args
decreases-exp_args l = 16 * l.cfg.nesting + 2

abbrev pub decreases-exp_args-item : goal.decreases-exp_args-item
decreases-exp_args-item l = 16 * l.cfg.nesting + 1

abbrev pub decreases-get_matcher_arm : goal.decreases-get_matcher_arm
decreases-get_matcher_arm l = 16 * l.cfg.nesting + 2

abbrev pub decreases-bracketed_exps : goal.decreases-bracketed_exps
decreases-bracketed_exps l = 16 * l.cfg.nesting + 3

abbrev pub decreases-case_exp : goal.decreases-case_exp
decreases-case_exp l = 16 * l.cfg.nesting + 6

abbrev pub decreases-functor_bind : goal.decreases-functor_bind
decreases-functor_bind l = 16 * l.cfg.nesting + 9

abbrev pub decreases-functor_dec : goal.decreases-functor_dec
decreases-functor_dec l = 16 * l.cfg.nesting + 11

abbrev pub decreases-functor_dec-item : goal.decreases-functor_dec-item
decreases-functor_dec-item l = 16 * l.cfg.nesting + 10

abbrev pub decreases-dec_arg : goal.decreases-dec_arg
decreases-dec_arg l = 16 * l.cfg.nesting + 5

abbrev pub decreases-dec : goal.decreases-dec
decreases-dec l = 16 * l.cfg.nesting + 4

abbrev pub decreases-deeper_exp : goal.decreases-deeper_exp
decreases-deeper_exp l = 16 * l.cfg.nesting + 1

abbrev pub decreases-get_dec : goal.decreases-get_dec
decreases-get_dec l = 16 * l.cfg.nesting + 6

abbrev pub decreases-get_dec-item : goal.decreases-get_dec-item
decreases-get_dec-item l = 16 * l.cfg.nesting + 5

abbrev pub decreases-joined_exps : goal.decreases-joined_exps
decreases-joined_exps l = 16 * l.cfg.nesting + 1

abbrev pub decreases-get_exp : goal.decreases-get_exp
decreases-get_exp l = 16 * l.cfg.nesting + 0

abbrev pub decreases-functor_arg : goal.decreases-functor_arg
decreases-functor_arg l = 16 * l.cfg.nesting + 6

abbrev pub decreases-fun_bind : goal.decreases-fun_bind
decreases-fun_bind l = 16 * l.cfg.nesting + 5

abbrev pub decreases-fun_bind-item : goal.decreases-fun_bind-item
decreases-fun_bind-item l = 16 * l.cfg.nesting + 4

abbrev pub decreases-fun_bind_case : goal.decreases-fun_bind_case
decreases-fun_bind_case l = 16 * l.cfg.nesting + 3

abbrev pub decreases-fun_dec : goal.decreases-fun_dec
decreases-fun_dec l = 16 * l.cfg.nesting + 7

abbrev pub decreases-fun_dec-item : goal.decreases-fun_dec-item
decreases-fun_dec-item l = 16 * l.cfg.nesting + 6

abbrev pub decreases-fn_exp : goal.decreases-fn_exp
decreases-fn_exp l = 16 * l.cfg.nesting + 4

abbrev pub decreases-fn_exp-item : goal.decreases-fn_exp-item
decreases-fn_exp-item l = 16 * l.cfg.nesting + 3

abbrev pub decreases-functor_args : goal.decreases-functor_args
decreases-functor_args l = 16 * l.cfg.nesting + 8

abbrev pub decreases-functor_args-item : goal.decreases-functor_args-item
decreases-functor_args-item l = 16 * l.cfg.nesting + 7

abbrev pub decreases-infix_exp : goal.decreases-infix_exp
decreases-infix_exp l = 16 * l.cfg.nesting + 1

abbrev pub decreases-signature_dec : goal.decreases-signature_dec
decreases-signature_dec l = 16 * l.cfg.nesting + 3

abbrev pub decreases-signature_dec-item : goal.decreases-signature_dec-item
decreases-signature_dec-item l = 16 * l.cfg.nesting + 2

abbrev pub decreases-handle_exp : goal.decreases-handle_exp
decreases-handle_exp l = 16 * l.cfg.nesting + 5

abbrev pub decreases-include_dec : goal.decreases-include_dec
decreases-include_dec l = 16 * l.cfg.nesting + 2

abbrev pub decreases-include_dec-item : goal.decreases-include_dec-item
decreases-include_dec-item l = 16 * l.cfg.nesting + 1

abbrev pub decreases-if_exp : goal.decreases-if_exp
decreases-if_exp l = 16 * l.cfg.nesting + 1

abbrev pub decreases-exp_semi_item : goal.decreases-exp_semi_item
decreases-exp_semi_item l = 16 * l.cfg.nesting + 1

abbrev pub decreases-local_decs : goal.decreases-local_decs
decreases-local_decs l = 16 * l.cfg.nesting + 7

abbrev pub decreases-local_dec : goal.decreases-local_dec
decreases-local_dec l = 16 * l.cfg.nesting + 8

abbrev pub decreases-let_exp : goal.decreases-let_exp
decreases-let_exp l = 16 * l.cfg.nesting + 7

abbrev pub decreases-get_matcher_across_lines : goal.decreases-get_matcher_across_lines
decreases-get_matcher_across_lines l = 16 * l.cfg.nesting + 4

abbrev pub decreases-get_matcher_across_lines-item : goal.decreases-get_matcher_across_lines-item
decreases-get_matcher_across_lines-item l = 16 * l.cfg.nesting + 3

abbrev pub decreases-exp_semi_more : goal.decreases-exp_semi_more
decreases-exp_semi_more l = 16 * l.cfg.nesting + 2

abbrev pub decreases-named_sig_exp : goal.decreases-named_sig_exp
decreases-named_sig_exp l = 16 * l.cfg.nesting + 1

abbrev pub decreases-dec_by_number : goal.decreases-dec_by_number
decreases-dec_by_number l = 16 * l.cfg.nesting + 12

abbrev pub decreases-get_dec_one : goal.decreases-get_dec_one
decreases-get_dec_one l = 16 * l.cfg.nesting + 0

abbrev pub decreases-paren_exp : goal.decreases-paren_exp
decreases-paren_exp l = 16 * l.cfg.nesting + 1

abbrev pub decreases-prefixed_exp : goal.decreases-prefixed_exp
decreases-prefixed_exp l = 16 * l.cfg.nesting + 1

abbrev pub decreases-eq_body : goal.decreases-eq_body
decreases-eq_body l = 16 * l.cfg.nesting + 2

abbrev pub decreases-dec_in_seqs : goal.decreases-dec_in_seqs
decreases-dec_in_seqs l = 16 * l.cfg.nesting + 3

abbrev pub decreases-dec_in_seqs-item : goal.decreases-dec_in_seqs-item
decreases-dec_in_seqs-item l = 16 * l.cfg.nesting + 2

abbrev pub decreases-record_exp : goal.decreases-record_exp
decreases-record_exp l = 16 * l.cfg.nesting + 4

abbrev pub decreases-exp_row : goal.decreases-exp_row
decreases-exp_row l = 16 * l.cfg.nesting + 1

abbrev pub decreases-exp_rows : goal.decreases-exp_rows
decreases-exp_rows l = 16 * l.cfg.nesting + 3

abbrev pub decreases-exp_rows-item : goal.decreases-exp_rows-item
decreases-exp_rows-item l = 16 * l.cfg.nesting + 2

abbrev pub decreases-app_arg : goal.decreases-app_arg
decreases-app_arg l = 16 * l.cfg.nesting + 6

abbrev pub decreases-str_bind : goal.decreases-str_bind
decreases-str_bind l = 16 * l.cfg.nesting + 3

abbrev pub decreases-structure_dec : goal.decreases-structure_dec
decreases-structure_dec l = 16 * l.cfg.nesting + 5

abbrev pub decreases-structure_dec-item : goal.decreases-structure_dec-item
decreases-structure_dec-item l = 16 * l.cfg.nesting + 4

abbrev pub decreases-seq_exp : goal.decreases-seq_exp
decreases-seq_exp l = 16 * l.cfg.nesting + 4

abbrev pub decreases-sig_sig_exp : goal.decreases-sig_sig_exp
decreases-sig_sig_exp l = 16 * l.cfg.nesting + 7

abbrev pub decreases-get_sig_exp : goal.decreases-get_sig_exp
decreases-get_sig_exp l = 16 * l.cfg.nesting + 0

abbrev pub decreases-let_str_exp : goal.decreases-let_str_exp
decreases-let_str_exp l = 16 * l.cfg.nesting + 7

abbrev pub decreases-exp_semi_seq : goal.decreases-exp_semi_seq
decreases-exp_semi_seq l = 16 * l.cfg.nesting + 3

abbrev pub decreases-app_str_exp : goal.decreases-app_str_exp
decreases-app_str_exp l = 16 * l.cfg.nesting + 7

abbrev pub decreases-dec_in_seq : goal.decreases-dec_in_seq
decreases-dec_in_seq l = 16 * l.cfg.nesting + 1

abbrev pub decreases-struct_str_exp : goal.decreases-struct_str_exp
decreases-struct_str_exp l = 16 * l.cfg.nesting + 7

abbrev pub decreases-get_str_exp : goal.decreases-get_str_exp
decreases-get_str_exp l = 16 * l.cfg.nesting + 0

abbrev pub decreases-ascription_tail : goal.decreases-ascription_tail
decreases-ascription_tail l = 16 * l.cfg.nesting + 1

abbrev pub decreases-typed_exp : goal.decreases-typed_exp
decreases-typed_exp l = 16 * l.cfg.nesting + 1

abbrev pub decreases-val_bind : goal.decreases-val_bind
decreases-val_bind l = 16 * l.cfg.nesting + 3

abbrev pub decreases-val_dec : goal.decreases-val_dec
decreases-val_dec l = 16 * l.cfg.nesting + 5

abbrev pub decreases-val_dec-item : goal.decreases-val_dec-item
decreases-val_dec-item l = 16 * l.cfg.nesting + 4

abbrev pub decreases-vector_exp : goal.decreases-vector_exp
decreases-vector_exp l = 16 * l.cfg.nesting + 3

abbrev pub decreases-while_exp : goal.decreases-while_exp
decreases-while_exp l = 16 * l.cfg.nesting + 2

abbrev pub decreases-where_sig_exp : goal.decreases-where_sig_exp
decreases-where_sig_exp l = 16 * l.cfg.nesting + 1

abbrev pub decreases-where_type_sig_exp : goal.decreases-where_type_sig_exp
decreases-where_type_sig_exp l = 16 * l.cfg.nesting + 1

abbrev pub decreases-ex_bind : goal.decreases-ex_bind
decreases-ex_bind l = 16 * l.cfg.nesting + 3

abbrev pub decreases-ex_dec : goal.decreases-ex_dec
decreases-ex_dec l = 16 * l.cfg.nesting + 5

abbrev pub decreases-ex_dec-item : goal.decreases-ex_dec-item
decreases-ex_dec-item l = 16 * l.cfg.nesting + 4

abbrev pub decreases-ex_bind_inner : goal.decreases-ex_bind_inner
decreases-ex_bind_inner l = 16 * l.cfg.nesting + 2

-- What is left to run leads on from what was to run.
abbrev pub invariant-exp_semi_more-loop-left : goal.invariant-exp_semi_more-loop-left
invariant-exp_semi_more-loop-left l =
    (l.left ≤ l.n)
    × ((r : Result ℕ Stop) (i : Ink) (o : List ℕ)
    → Walked false (page_in l.page) (exp_semi_more (walks l.cfg.nesting) (cfg_of l.cfg) l.allow l.left) (run_of l.s l.ink l.out) r i o
    → Walked false (page_in l.page) (exp_semi_more (walks l.cfg.nesting) (cfg_of l.cfg) l.allow l.n) (run_of l.initial.s l.initial.ink l.initial.out) r i o)

abbrev pub invariant-app_str_exp-loop-i : goal.invariant-app_str_exp-loop-i
invariant-app_str_exp-loop-i l =
    (r : Result ℕ Stop) (i : Ink) (o : List ℕ)
    → Walked false (page_in l.page) (app_args (walks l.cfg.nesting) (cfg_of l.cfg) l.needs (l.n - l.i)) (run_of l.s l.ink l.out) r i o
    → Walked false (page_in l.page) (app_args (walks l.cfg.nesting) (cfg_of l.cfg) false (l.n - 0)) (run_of l.initial.s l.initial.ink l.initial.out) r i o
