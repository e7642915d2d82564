-- The walk over patterns does what its layouts say.
use mathlib.Core.Path.{refl}
use Rattle.std.proofs.Common.{arith, [], ◌∷◌, ◌-◌}
use Rattle.text.specs.Bytes.{bytes}
use Rattle.layout.proofs.Steps.{choice_is, choice_not, form_is, form_not, group_is, group_not, last_word, maybe_past, maybe_there, then_done, then_stop, then_word}
use Rattle.layout.proofs.Knot as Knot
use Rattle.layout.proofs.Knot.{at_key, beyond, form_beyond, form_key, form_none, form_some}
use Rattle.layout.specs.Pat as Pat
use Rattle.layout.specs.Walk.{walks}
use Rattle.patterns.proofs.+patterns.Goals as goal

pub con_arg_there-returns : goal.con_arg_there-returns
unfolding Pat.con_arg_there bytes
con_arg_there-returns t c = then_word c.put.ensures (cc) c.get_pat.ensures

pub con_arg-returns-in-Some : goal.con_arg-returns-in-Some
unfolding Pat.con_arg
con_arg-returns-in-Some t c = maybe_past c.absent.ensures c.in-Some.is

pub con_arg-returns : goal.con_arg-returns
unfolding Pat.con_arg
con_arg-returns t c = maybe_there c.absent.ensures c.in_default.is c.con_arg_there.ensures

pub con_pat-returns-in_err-s1 : goal.con_pat-returns-in_err-s1
unfolding Pat.pat
con_pat-returns-in_err-s1 t c = then_stop c.op_path.ensures c.in_err-s1.was c.from_residual.ensures.1

pub con_pat-returns : goal.con_pat-returns
unfolding Pat.pat
con_pat-returns t c = then_done c.op_path.ensures c.in_ok-s1.was c.con_arg.ensures

pub lab_and_pat-returns-in_err-s1 : goal.lab_and_pat-returns-in_err-s1
unfolding Pat.LabAndPatPatRow
lab_and_pat-returns-in_err-s1 t c = then_stop c.text_of.ensures c.in_err-s1.was c.from_residual.ensures.1

pub lab_and_pat-returns : goal.lab_and_pat-returns
unfolding Pat.LabAndPatPatRow bytes
lab_and_pat-returns t c = then_done c.text_of.ensures c.in_ok-s1.was (then_word c.put.ensures (cc) c.get_pat.ensures)

pub as_tail_there-returns-in_err-s1 : goal.as_tail_there-returns-in_err-s1
unfolding Pat.as_tail_there
as_tail_there-returns-in_err-s1 t c = group_not c.group.ensures c.in_err-s1.was c.from_residual.ensures.1

pub as_tail_there-returns : goal.as_tail_there-returns
unfolding Pat.as_tail_there bytes
as_tail_there-returns t c = group_is c.group.ensures c.in_ok-s1.was (then_word c.put.ensures (cc) c.get_pat.ensures)

pub as_tail-returns-in-Some : goal.as_tail-returns-in-Some
unfolding Pat.as_tail
as_tail-returns-in-Some t c = maybe_past c.absent.ensures c.in-Some.is

pub as_tail-returns : goal.as_tail-returns
unfolding Pat.as_tail
as_tail-returns t c = maybe_there c.absent.ensures c.in_default.is c.as_tail_there.ensures

pub lab_pat-returns-in_err-s1 : goal.lab_pat-returns-in_err-s1
unfolding Pat.LabPatRow
lab_pat-returns-in_err-s1 t c = then_stop c.text_of.ensures c.in_err-s1.was c.from_residual.ensures.1

pub lab_pat-returns-in_err-s2 : goal.lab_pat-returns-in_err-s2
unfolding Pat.LabPatRow
lab_pat-returns-in_err-s2 t c = then_done c.text_of.ensures c.in_ok-s1.was (then_stop c.ty_annotation.ensures c.in_err-s2.was c.from_residual-in_err-s2.ensures.1)

pub lab_pat-returns : goal.lab_pat-returns
unfolding Pat.LabPatRow
lab_pat-returns t c = then_done c.text_of.ensures c.in_ok-s1.was (then_done c.ty_annotation.ensures c.in_ok-s2.was c.as_tail.ensures)

pub row_inner-returns-in-0 : goal.row_inner-returns-in-0
unfolding Pat.pat_row_inner Pat.RestPatRow bytes
row_inner-returns-in-0 t c = at_key (Pat.pat_row_inner (walks c.args.cfg.nesting)) c.in-0.is (last_word c.put.ensures (cc))

pub row_inner-returns-in-1 : goal.row_inner-returns-in-1
unfolding Pat.pat_row_inner
row_inner-returns-in-1 t c = at_key (Pat.pat_row_inner (walks c.args.cfg.nesting)) c.in-1.is c.lab_and_pat.ensures

pub row_inner-returns-in-2 : goal.row_inner-returns-in-2
unfolding Pat.pat_row_inner
row_inner-returns-in-2 t c = at_key (Pat.pat_row_inner (walks c.args.cfg.nesting)) c.in-2.is c.lab_pat.ensures

pub row_inner-returns-in_default : goal.row_inner-returns-in_default
unfolding Pat.pat_row_inner
row_inner-returns-in_default t c = let ws = walks c.args.cfg.nesting in beyond (Pat.RestPatRow ws ∷ Pat.LabAndPatPatRow ws ∷ Pat.LabPatRow ws ∷ []) refl (omega (arith, c.in_default))

pub row-returns-in_err-s1 : goal.row-returns-in_err-s1
unfolding Pat.pat_row
row-returns-in_err-s1 t c = group_not c.group.ensures c.in_err-s1.was c.from_residual.ensures.1

pub row-returns-in_err-k : goal.row-returns-in_err-k
unfolding Pat.pat_row
row-returns-in_err-k t c = group_is c.group.ensures c.in_ok-s1.was (choice_not c.choice.ensures c.in_err-k.was c.from_residual-in_err-k.ensures.1)

pub row-returns : goal.row-returns
unfolding Pat.pat_row
row-returns t c = group_is c.group.ensures c.in_ok-s1.was (choice_is c.choice.ensures c.in_ok-k.was c.row_inner.ensures)

pub rows-returns : goal.rows-returns
unfolding Pat.pat_rows bytes
rows-returns t c = c.sep.ensures _ _ _ (cc) (λ o i a r o' i' e. e)

pub record_pat-returns-in_err-s1 : goal.record_pat-returns-in_err-s1
unfolding Pat.pat bytes
record_pat-returns-in_err-s1 t c = then_word c.put.ensures (cc) (then_stop c.rows.ensures c.in_err-s1.was c.from_residual.ensures.1)

pub record_pat-returns : goal.record_pat-returns
unfolding Pat.pat bytes
record_pat-returns t c = then_word c.put.ensures (cc) (then_done c.rows.ensures c.in_ok-s1.was (last_word c.put-2.ensures (cc)))

pub paren_pat-returns-in_err-s1 : goal.paren_pat-returns-in_err-s1
unfolding Pat.pat bytes
paren_pat-returns-in_err-s1 t c = then_word c.put.ensures (cc) (then_stop c.get_pat.ensures c.in_err-s1.was c.from_residual.ensures.1)

pub paren_pat-returns : goal.paren_pat-returns
unfolding Pat.pat bytes
paren_pat-returns t c = then_word c.put.ensures (cc) (then_done c.get_pat.ensures c.in_ok-s1.was (last_word c.put-2.ensures (cc)))

pub pat_args-item-returns-in_err-s : goal.pat_args-item-returns-in_err-s
pat_args-item-returns-in_err-s t c = group_not c.group.ensures c.in_err-s.was c.from_residual.ensures.1

pub pat_args-item-returns : goal.pat_args-item-returns
pat_args-item-returns t c = group_is c.group.ensures c.in_ok-s.was c.get_pat.ensures

pub pat_args-returns : goal.pat_args-returns
unfolding Pat.pat_args bytes
pat_args-returns t c = c.sep.ensures _ _ _ (cc) (λ o i a r o' i' e. e)

pub tuple_pat-returns-in_err-s1 : goal.tuple_pat-returns-in_err-s1
unfolding Pat.pat bytes
tuple_pat-returns-in_err-s1 t c = then_word c.put.ensures (cc) (then_stop c.pat_args.ensures c.in_err-s1.was c.from_residual.ensures.1)

pub tuple_pat-returns : goal.tuple_pat-returns
unfolding Pat.pat bytes
tuple_pat-returns t c = then_word c.put.ensures (cc) (then_done c.pat_args.ensures c.in_ok-s1.was (last_word c.put-2.ensures (cc)))

pub list_pat-returns-in_err-s1 : goal.list_pat-returns-in_err-s1
unfolding Pat.pat bytes
list_pat-returns-in_err-s1 t c = then_word c.put.ensures (cc) (then_stop c.pat_args.ensures c.in_err-s1.was c.from_residual.ensures.1)

pub list_pat-returns : goal.list_pat-returns
unfolding Pat.pat bytes
list_pat-returns t c = then_word c.put.ensures (cc) (then_done c.pat_args.ensures c.in_ok-s1.was (last_word c.put-2.ensures (cc)))

pub vector_args-returns-in_err-s1 : goal.vector_args-returns-in_err-s1
vector_args-returns-in_err-s1 t c = group_not c.group.ensures c.in_err-s1.was c.from_residual.ensures.1

pub vector_args-returns : goal.vector_args-returns
vector_args-returns t c = group_is c.group.ensures c.in_ok-s1.was c.pat_args.ensures

pub vector_pat-returns-in_err-s1 : goal.vector_pat-returns-in_err-s1
unfolding Pat.pat bytes
vector_pat-returns-in_err-s1 t c = then_word c.put.ensures (cc) (then_stop c.vector_args.ensures c.in_err-s1.was c.from_residual.ensures.1)

pub vector_pat-returns : goal.vector_pat-returns
unfolding Pat.pat bytes
vector_pat-returns t c = then_word c.put.ensures (cc) (then_done c.vector_args.ensures c.in_ok-s1.was (last_word c.put-2.ensures (cc)))

pub infix_pat-returns-in_err-s1 : goal.infix_pat-returns-in_err-s1
unfolding Pat.pat
infix_pat-returns-in_err-s1 t c = then_stop c.get_pat.ensures c.in_err-s1.was c.from_residual.ensures.1

pub infix_pat-returns-in_err-s2 : goal.infix_pat-returns-in_err-s2
unfolding Pat.pat bytes
infix_pat-returns-in_err-s2 t c = then_done c.get_pat.ensures c.in_ok-s1.was (then_word c.put.ensures (cc) (then_stop c.text_of.ensures c.in_err-s2.was c.from_residual-in_err-s2.ensures.1))

pub infix_pat-returns : goal.infix_pat-returns
unfolding Pat.pat bytes
infix_pat-returns t c = then_done c.get_pat.ensures c.in_ok-s1.was (then_word c.put.ensures (cc) (then_done c.text_of.ensures c.in_ok-s2.was (then_word c.put-2.ensures (cc) c.get_pat-2.ensures)))

pub typed_pat-returns-in_err-s1 : goal.typed_pat-returns-in_err-s1
unfolding Pat.pat
typed_pat-returns-in_err-s1 t c = then_stop c.get_pat.ensures c.in_err-s1.was c.from_residual.ensures.1

pub typed_pat-returns : goal.typed_pat-returns
unfolding Pat.pat bytes
typed_pat-returns t c = then_done c.get_pat.ensures c.in_ok-s1.was (then_word c.put.ensures (cc) c.get_ty.ensures)

pub as_pat-returns-in_err-s1 : goal.as_pat-returns-in_err-s1
unfolding Pat.pat
as_pat-returns-in_err-s1 t c = then_stop c.get_pat.ensures c.in_err-s1.was c.from_residual.ensures.1

pub as_pat-returns-in_err-s2 : goal.as_pat-returns-in_err-s2
unfolding Pat.pat bytes
as_pat-returns-in_err-s2 t c = then_done c.get_pat.ensures c.in_ok-s1.was (then_word c.put.ensures (cc) (group_not c.group.ensures c.in_err-s2.was c.from_residual-in_err-s2.ensures.1))

pub as_pat-returns : goal.as_pat-returns
unfolding Pat.pat bytes
as_pat-returns t c = then_done c.get_pat.ensures c.in_ok-s1.was (then_word c.put.ensures (cc) (group_is c.group.ensures c.in_ok-s2.was c.get_pat-2.ensures))

pub or_pat-returns-in_err-s1 : goal.or_pat-returns-in_err-s1
unfolding Pat.pat
or_pat-returns-in_err-s1 t c = then_stop c.get_pat.ensures c.in_err-s1.was c.from_residual.ensures.1

pub or_pat-returns : goal.or_pat-returns
unfolding Pat.pat bytes
or_pat-returns t c = then_done c.get_pat.ensures c.in_ok-s1.was (then_word c.put.ensures (cc) c.get_pat-2.ensures)

pub get_pat-returns-then-cfg-eq0 : goal.get_pat-returns-then-cfg-eq0
get_pat-returns-then-cfg-eq0 t c = form_none Knot.pat c.if-cfg-eq0.true

pub get_pat-returns-in_err-k : goal.get_pat-returns-in_err-k
get_pat-returns-in_err-k t c = form_some Knot.pat c.if-cfg-eq0.false (form_not c.form.ensures c.in_err-k.was c.from_residual.ensures.1)

pub get_pat-returns-in-0 : goal.get_pat-returns-in-0
unfolding Pat.pats Pat.pat bytes
get_pat-returns-in-0 t c = form_key Knot.pat c.if-cfg-eq0.false c.form.ensures c.in_ok-k.was c.in-0.is (last_word c.put.ensures (cc))

pub get_pat-returns-in-1 : goal.get_pat-returns-in-1
unfolding Pat.pats Pat.pat
get_pat-returns-in-1 t c = form_key Knot.pat c.if-cfg-eq0.false c.form.ensures c.in_ok-k.was c.in-1.is c.text_of.ensures

pub get_pat-returns-in-2 : goal.get_pat-returns-in-2
unfolding Pat.pats Pat.pat
get_pat-returns-in-2 t c = form_key Knot.pat c.if-cfg-eq0.false c.form.ensures c.in_ok-k.was c.in-2.is c.con_pat.ensures

pub get_pat-returns-in-3 : goal.get_pat-returns-in-3
unfolding Pat.pats Pat.pat
get_pat-returns-in-3 t c = form_key Knot.pat c.if-cfg-eq0.false c.form.ensures c.in_ok-k.was c.in-3.is c.record_pat.ensures

pub get_pat-returns-in-4 : goal.get_pat-returns-in-4
unfolding Pat.pats Pat.pat
get_pat-returns-in-4 t c = form_key Knot.pat c.if-cfg-eq0.false c.form.ensures c.in_ok-k.was c.in-4.is c.paren_pat.ensures

pub get_pat-returns-in-5 : goal.get_pat-returns-in-5
unfolding Pat.pats Pat.pat
get_pat-returns-in-5 t c = form_key Knot.pat c.if-cfg-eq0.false c.form.ensures c.in_ok-k.was c.in-5.is c.tuple_pat.ensures

pub get_pat-returns-in-6 : goal.get_pat-returns-in-6
unfolding Pat.pats Pat.pat
get_pat-returns-in-6 t c = form_key Knot.pat c.if-cfg-eq0.false c.form.ensures c.in_ok-k.was c.in-6.is c.list_pat.ensures

pub get_pat-returns-in-7 : goal.get_pat-returns-in-7
unfolding Pat.pats Pat.pat
get_pat-returns-in-7 t c = form_key Knot.pat c.if-cfg-eq0.false c.form.ensures c.in_ok-k.was c.in-7.is c.vector_pat.ensures

pub get_pat-returns-in-8 : goal.get_pat-returns-in-8
unfolding Pat.pats Pat.pat
get_pat-returns-in-8 t c = form_key Knot.pat c.if-cfg-eq0.false c.form.ensures c.in_ok-k.was c.in-8.is c.infix_pat.ensures

pub get_pat-returns-in-9 : goal.get_pat-returns-in-9
unfolding Pat.pats Pat.pat
get_pat-returns-in-9 t c = form_key Knot.pat c.if-cfg-eq0.false c.form.ensures c.in_ok-k.was c.in-9.is c.typed_pat.ensures

pub get_pat-returns-in-10 : goal.get_pat-returns-in-10
unfolding Pat.pats Pat.pat
get_pat-returns-in-10 t c = form_key Knot.pat c.if-cfg-eq0.false c.form.ensures c.in_ok-k.was c.in-10.is c.as_pat.ensures

pub get_pat-returns-in-11 : goal.get_pat-returns-in-11
unfolding Pat.pats Pat.pat
get_pat-returns-in-11 t c = form_key Knot.pat c.if-cfg-eq0.false c.form.ensures c.in_ok-k.was c.in-11.is c.or_pat.ensures

pub get_pat-returns-in_default : goal.get_pat-returns-in_default
unfolding Pat.pats Pat.pat
get_pat-returns-in_default t c = form_beyond Knot.pat c.if-cfg-eq0.false c.form.ensures c.in_ok-k.was refl (omega (arith, c.in_default))
