-- The walk over types does what its layouts say.
use mathlib.Core.Path.{refl}
use Rattle.std.proofs.Common.{arith, ◌-◌}
use Rattle.text.specs.Bytes.{bytes}
use Rattle.layout.proofs.Steps.{form_is, form_not, group_is, group_not, last_word, maybe_past, maybe_there, then_done, then_stop, then_word}
use Rattle.layout.proofs.Dropping.{dropped_by}
use Rattle.layout.proofs.Knot as Knot
use Rattle.layout.proofs.Knot.{form_beyond, form_key, form_none, form_some}
use Rattle.layout.specs.Ty as Ty
use Rattle.layout.specs.Walk.{walks}
use Rattle.types.proofs.+types.Goals as goal

pub ty_row-returns-in_err-s1 : goal.ty_row-returns-in_err-s1
unfolding Ty.ty_row
ty_row-returns-in_err-s1 t c = group_not c.group.ensures c.in_err-s1.was c.from_residual.ensures.1

pub ty_row-returns-in_err-s2 : goal.ty_row-returns-in_err-s2
unfolding Ty.ty_row
ty_row-returns-in_err-s2 t c = group_is c.group.ensures c.in_ok-s1.was (then_stop c.text_of.ensures c.in_err-s2.was c.from_residual-in_err-s2.ensures.1)

pub ty_row-returns : goal.ty_row-returns
unfolding Ty.ty_row bytes
ty_row-returns t c = group_is c.group.ensures c.in_ok-s1.was (then_done c.text_of.ensures c.in_ok-s2.was (then_word c.put.ensures (cc) c.get_ty.ensures))

pub ty_rows-returns : goal.ty_rows-returns
unfolding Ty.ty_rows bytes
ty_rows-returns t c = c.sep.ensures _ _ _ (cc) (λ o i a r o' i' e. e)

pub record_ty-returns-in_err-s1 : goal.record_ty-returns-in_err-s1
unfolding Ty.ty bytes
record_ty-returns-in_err-s1 t c = then_word c.put.ensures (cc) (then_stop c.ty_rows.ensures c.in_err-s1.was c.from_residual.ensures.1)

pub record_ty-returns : goal.record_ty-returns
unfolding Ty.ty bytes
record_ty-returns t c = then_word c.put.ensures (cc) (then_done c.ty_rows.ensures c.in_ok-s1.was (last_word c.put-2.ensures (cc)))

pub ty_args-item-returns-in_err-s : goal.ty_args-item-returns-in_err-s
ty_args-item-returns-in_err-s t c = group_not c.group.ensures c.in_err-s.was c.from_residual.ensures.1

pub ty_args-item-returns : goal.ty_args-item-returns
ty_args-item-returns t c = group_is c.group.ensures c.in_ok-s.was c.get_ty.ensures

pub ty_args-returns : goal.ty_args-returns
unfolding Ty.ty_args bytes
ty_args-returns t c = c.sep.ensures _ _ _ (cc) (λ o i a r o' i' e. e)

pub ty_seq_there-returns-in_err-s1 : goal.ty_seq_there-returns-in_err-s1
unfolding Ty.ty_seq_there
ty_seq_there-returns-in_err-s1 t c = group_not c.group.ensures c.in_err-s1.was c.from_residual.ensures.1

pub ty_seq_there-returns-in_err-s2 : goal.ty_seq_there-returns-in_err-s2
unfolding Ty.ty_seq_there bytes
ty_seq_there-returns-in_err-s2 t c = group_is c.group.ensures c.in_ok-s1.was (then_word c.put.ensures (cc) (then_stop c.ty_args.ensures c.in_err-s2.was c.from_residual-in_err-s2.ensures.1))

pub ty_seq_there-returns : goal.ty_seq_there-returns
unfolding Ty.ty_seq_there bytes
ty_seq_there-returns t c = group_is c.group.ensures c.in_ok-s1.was (then_word c.put.ensures (cc) (then_done c.ty_args.ensures c.in_ok-s2.was (last_word c.put-2.ensures (cc))))

pub con_ty-returns-in_err-s1 : goal.con_ty-returns-in_err-s1
unfolding Ty.ty
con_ty-returns-in_err-s1 t c = then_stop c.ty_seq.ensures c.in_err-s1.was c.from_residual.ensures.1

pub con_ty-returns : goal.con_ty-returns
unfolding Ty.ty
con_ty-returns t c = then_done c.ty_seq.ensures c.in_ok-s1.was c.path.ensures

pub one_arg_con_ty-returns-in_err-s1 : goal.one_arg_con_ty-returns-in_err-s1
unfolding Ty.ty
one_arg_con_ty-returns-in_err-s1 t c = then_stop c.get_ty.ensures c.in_err-s1.was c.from_residual.ensures.1

pub one_arg_con_ty-returns : goal.one_arg_con_ty-returns
unfolding Ty.ty bytes
one_arg_con_ty-returns t c = then_done c.get_ty.ensures c.in_ok-s1.was (then_word c.put.ensures (cc) c.path.ensures)

pub star_ty-returns-in_err-s1 : goal.star_ty-returns-in_err-s1
unfolding Ty.star_ty
star_ty-returns-in_err-s1 t c = group_not c.group.ensures c.in_err-s1.was c.from_residual.ensures.1

pub star_ty-returns : goal.star_ty-returns
unfolding Ty.star_ty bytes
star_ty-returns t c = group_is c.group.ensures c.in_ok-s1.was (then_word c.put.ensures (cc) c.get_ty.ensures)

pub star_tys-returns : goal.star_tys-returns
unfolding Ty.star_tys
star_tys-returns t c = c.for_each.ensures _ _ (λ o i a r o' i' e. e)

pub tuple_ty-returns-in_err-s1 : goal.tuple_ty-returns-in_err-s1
unfolding Ty.ty
tuple_ty-returns-in_err-s1 t c = then_stop (dropped_by c.args.cfg.nesting c.get_ty-first.ensures c.onwards.ensures) c.in_err-s1.was c.from_residual.ensures.1

pub tuple_ty-returns : goal.tuple_ty-returns
unfolding Ty.ty
tuple_ty-returns t c = then_done (dropped_by c.args.cfg.nesting c.get_ty-first.ensures c.onwards.ensures) c.in_ok-s1.was c.star_tys.ensures

pub fn_ty-returns-in_err-s1 : goal.fn_ty-returns-in_err-s1
unfolding Ty.ty
fn_ty-returns-in_err-s1 t c = then_stop c.get_ty.ensures c.in_err-s1.was c.from_residual.ensures.1

pub fn_ty-returns : goal.fn_ty-returns
unfolding Ty.ty bytes
fn_ty-returns t c = then_done c.get_ty.ensures c.in_ok-s1.was (then_word c.put.ensures (cc) c.get_ty-2.ensures)

pub paren_ty-returns-in_err-s1 : goal.paren_ty-returns-in_err-s1
unfolding Ty.ty bytes
paren_ty-returns-in_err-s1 t c = then_word c.put.ensures (cc) (then_stop c.get_ty.ensures c.in_err-s1.was c.from_residual.ensures.1)

pub paren_ty-returns : goal.paren_ty-returns
unfolding Ty.ty bytes
paren_ty-returns t c = then_word c.put.ensures (cc) (then_done c.get_ty.ensures c.in_ok-s1.was (last_word c.put-2.ensures (cc)))

pub ty_seq-returns-in-Some : goal.ty_seq-returns-in-Some
unfolding Ty.ty_seq
ty_seq-returns-in-Some t c = maybe_past c.absent.ensures c.in-Some.is

pub ty_seq-returns : goal.ty_seq-returns
unfolding Ty.ty_seq
ty_seq-returns t c = maybe_there c.absent.ensures c.in_default.is c.ty_seq_there.ensures

pub get_ty-returns-then-cfg-eq0 : goal.get_ty-returns-then-cfg-eq0
get_ty-returns-then-cfg-eq0 t c = form_none Knot.ty c.if-cfg-eq0.true

pub get_ty-returns-in_err-k : goal.get_ty-returns-in_err-k
get_ty-returns-in_err-k t c = form_some Knot.ty c.if-cfg-eq0.false (form_not c.form.ensures c.in_err-k.was c.from_residual.ensures.1)

pub get_ty-returns-in-0 : goal.get_ty-returns-in-0
unfolding Ty.tys Ty.ty bytes
get_ty-returns-in-0 t c = form_key Knot.ty c.if-cfg-eq0.false c.form.ensures c.in_ok-k.was c.in-0.is (last_word c.put.ensures (cc))

pub get_ty-returns-in-1 : goal.get_ty-returns-in-1
unfolding Ty.tys Ty.ty bytes
get_ty-returns-in-1 t c = form_key Knot.ty c.if-cfg-eq0.false c.form.ensures c.in_ok-k.was c.in-1.is (last_word c.put-in-1.ensures (cc))

pub get_ty-returns-in-2 : goal.get_ty-returns-in-2
unfolding Ty.tys Ty.ty
get_ty-returns-in-2 t c = form_key Knot.ty c.if-cfg-eq0.false c.form.ensures c.in_ok-k.was c.in-2.is c.text_of.ensures

pub get_ty-returns-in-3 : goal.get_ty-returns-in-3
unfolding Ty.tys Ty.ty
get_ty-returns-in-3 t c = form_key Knot.ty c.if-cfg-eq0.false c.form.ensures c.in_ok-k.was c.in-3.is c.record_ty.ensures

pub get_ty-returns-in-4 : goal.get_ty-returns-in-4
unfolding Ty.tys Ty.ty
get_ty-returns-in-4 t c = form_key Knot.ty c.if-cfg-eq0.false c.form.ensures c.in_ok-k.was c.in-4.is c.con_ty.ensures

pub get_ty-returns-in-5 : goal.get_ty-returns-in-5
unfolding Ty.tys Ty.ty
get_ty-returns-in-5 t c = form_key Knot.ty c.if-cfg-eq0.false c.form.ensures c.in_ok-k.was c.in-5.is c.one_arg_con_ty.ensures

pub get_ty-returns-in-6 : goal.get_ty-returns-in-6
unfolding Ty.tys Ty.ty
get_ty-returns-in-6 t c = form_key Knot.ty c.if-cfg-eq0.false c.form.ensures c.in_ok-k.was c.in-6.is c.tuple_ty.ensures

pub get_ty-returns-in-7 : goal.get_ty-returns-in-7
unfolding Ty.tys Ty.ty
get_ty-returns-in-7 t c = form_key Knot.ty c.if-cfg-eq0.false c.form.ensures c.in_ok-k.was c.in-7.is c.fn_ty.ensures

pub get_ty-returns-in-8 : goal.get_ty-returns-in-8
unfolding Ty.tys Ty.ty
get_ty-returns-in-8 t c = form_key Knot.ty c.if-cfg-eq0.false c.form.ensures c.in_ok-k.was c.in-8.is c.paren_ty.ensures

pub get_ty-returns-in_default : goal.get_ty-returns-in_default
unfolding Ty.tys Ty.ty
get_ty-returns-in_default t c = form_beyond Knot.ty c.if-cfg-eq0.false c.form.ensures c.in_ok-k.was refl (omega (arith, c.in_default))
