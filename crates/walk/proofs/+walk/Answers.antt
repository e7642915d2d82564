-- The walk does what its layouts say.
use mathlib.Core.Path.{refl, ◌∙◌}
use mathlib.Core.Bool.{true, false}
use mathlib.Core.List.{[], ◌∷◌}
use lib.ListN.{get_or}
use native.Mathlib.Omega.{arith}
use Rattle.text.specs.Bytes.{bytes}
use Rattle.layout.specs.Layout as Layout
use Rattle.layout.specs.Helpers as Helpers
use Rattle.layout.specs.Walk.{walks}
use Rattle.layout.specs.Promises.State.{cfg_of}
use Rattle.layout.specs.Exp as Exp
use Rattle.layout.specs.GetDec as GetDec
use Rattle.layout.specs.DecOne as DecOne
use Rattle.layout.specs.StrExp as StrExp
use Rattle.layout.specs.SigExp as SigExp
use Rattle.layout.proofs.Steps.{plain, along, sure_in, then_done, then_stop, then_sure, then_both, then_word, then_handed, last_stop, last_done, last_word, last_sure, last_import, list_is, list_not, choice_is, choice_not, form_not, group_is, group_not, maybe_past, maybe_there, look_yes, look_no, look_not}
use Rattle.layout.proofs.Knot as Knot
use Rattle.layout.proofs.Knot.{at_key, beyond, form_none, form_some, form_key, form_beyond}
use Rattle.layout.proofs.DecLaws.{declaration_is, declaration_not}
use Rattle.layout.proofs.HeadLaws.{application_is, application_not, application_stop, operator_is, operator_stop, operator_not}
use Rattle.agreement.proofs.Knot.{heads_seen}
use Rattle.walk.proofs.Laws.{semi_more, semi_none, semi_first, semi_zero, args_all, args_needs, args_more, args_none}
use Rattle.walk.proofs.+walk.Goals as goal

pub exp_row-returns-in_err-s1 : goal.exp_row-returns-in_err-s1
unfolding Exp.exp_row Exp.eq_exp bytes
exp_row-returns-in_err-s1 t c = group_not c.group.ensures c.in_err-s1.was c.from_residual.ensures.1

pub exp_row-returns-in_err-s2 : goal.exp_row-returns-in_err-s2
unfolding Exp.exp_row Exp.eq_exp bytes
exp_row-returns-in_err-s2 t c = group_is c.group.ensures c.in_ok-s1.was (then_stop (plain c.text_of.ensures) c.in_err-s2.was c.from_residual-in_err-s2.ensures.1)

pub exp_row-returns-in-Some : goal.exp_row-returns-in-Some
unfolding Exp.exp_row Exp.eq_exp bytes
exp_row-returns-in-Some t c = group_is c.group.ensures c.in_ok-s1.was (then_done (plain c.text_of.ensures) c.in_ok-s2.was (maybe_past c.absent.ensures c.in-Some.is))

pub exp_row-returns-in_err-s4 : goal.exp_row-returns-in_err-s4
unfolding Exp.exp_row Exp.eq_exp bytes
exp_row-returns-in_err-s4 t c = group_is c.group.ensures c.in_ok-s1.was (then_done (plain c.text_of.ensures) c.in_ok-s2.was (maybe_there c.absent.ensures c.in_default.is (group_not c.group-2.ensures c.in_err-s4.was c.from_residual-in_err-s4.ensures.1)))

pub exp_row-returns : goal.exp_row-returns
unfolding Exp.exp_row Exp.eq_exp bytes
exp_row-returns t c = group_is c.group.ensures c.in_ok-s1.was (then_done (plain c.text_of.ensures) c.in_ok-s2.was (maybe_there c.absent.ensures c.in_default.is (group_is c.group-2.ensures c.in_ok-s4.was (then_word c.put.ensures (cc) c.get_exp.ensures))))

pub exp_rows-returns : goal.exp_rows-returns
unfolding Exp.exp_rows bytes
exp_rows-returns t c = c.sep.ensures _ _ _ (cc) (λ o i a r o' i' e. e)

pub record_exp-returns-in_err-s1 : goal.record_exp-returns-in_err-s1
unfolding Exp.exp bytes
record_exp-returns-in_err-s1 t c = then_word c.put.ensures (cc) (then_stop c.exp_rows.ensures c.in_err-s1.was c.from_residual.ensures.1)

pub record_exp-returns : goal.record_exp-returns
unfolding Exp.exp bytes
record_exp-returns t c = then_word c.put.ensures (cc) (then_done c.exp_rows.ensures c.in_ok-s1.was (last_word c.put-2.ensures (cc)))

pub paren_exp-returns-in_err-s1 : goal.paren_exp-returns-in_err-s1
unfolding Exp.exp bytes
paren_exp-returns-in_err-s1 t c = then_word c.put.ensures (cc) (then_stop c.get_exp.ensures c.in_err-s1.was c.from_residual.ensures.1)

pub paren_exp-returns : goal.paren_exp-returns
unfolding Exp.exp bytes
paren_exp-returns t c = then_word c.put.ensures (cc) (then_done c.get_exp.ensures c.in_ok-s1.was (last_word c.put-2.ensures (cc)))

pub exp_args-item-returns-in_err-s : goal.exp_args-item-returns-in_err-s
exp_args-item-returns-in_err-s t c = group_not c.group.ensures c.in_err-s.was c.from_residual.ensures.1

pub exp_args-item-returns : goal.exp_args-item-returns
unfolding bytes
exp_args-item-returns t c = group_is c.group.ensures c.in_ok-s.was c.get_exp.ensures

pub exp_args-returns : goal.exp_args-returns
unfolding Exp.exp_args bytes
exp_args-returns t c = c.sep.ensures _ _ _ (cc) (λ o i a r o' i' e. e)

pub bracketed_exps-returns-in_err-s1 : goal.bracketed_exps-returns-in_err-s1
unfolding bytes
bracketed_exps-returns-in_err-s1 t c u e u2 e2 = then_word c.put.ensures e (then_stop c.exp_args.ensures c.in_err-s1.was c.from_residual.ensures.1)

pub bracketed_exps-returns : goal.bracketed_exps-returns
unfolding bytes
bracketed_exps-returns t c u e u2 e2 = then_word c.put.ensures e (then_done c.exp_args.ensures c.in_ok-s1.was (last_word c.put-2.ensures e2))

pub vector_exp-returns-in_err-s1 : goal.vector_exp-returns-in_err-s1
unfolding Exp.exp bytes
vector_exp-returns-in_err-s1 t c = then_word c.put.ensures (cc) (then_handed (group_not c.group.ensures c.in_err-s1.was c.from_residual.ensures.1) c.from_residual.ensures.0)

pub vector_exp-returns-in_err-s2 : goal.vector_exp-returns-in_err-s2
unfolding Exp.exp bytes
vector_exp-returns-in_err-s2 t c = then_word c.put.ensures (cc) (then_handed (group_is c.group.ensures c.in_ok-s1.was (last_stop c.exp_args.ensures c.in_err-s2.was c.from_residual-in_err-s2.ensures.1)) c.from_residual-in_err-s2.ensures.0)

pub vector_exp-returns : goal.vector_exp-returns
unfolding Exp.exp bytes
vector_exp-returns t c = then_word c.put.ensures (cc) (then_done (group_is c.group.ensures c.in_ok-s1.was c.exp_args.ensures) c.in_ok-s2.was (last_word c.put-2.ensures (cc)))

pub exp_semi_item-returns-in_err-s1 : goal.exp_semi_item-returns-in_err-s1
unfolding Exp.exp_semi_item bytes
exp_semi_item-returns-in_err-s1 t c = group_not c.group.ensures c.in_err-s1.was c.from_residual.ensures.1

pub exp_semi_item-returns-in_err-s2 : goal.exp_semi_item-returns-in_err-s2
unfolding Exp.exp_semi_item bytes
exp_semi_item-returns-in_err-s2 t c = group_is c.group.ensures c.in_ok-s1.was (then_stop c.get_exp.ensures c.in_err-s2.was c.from_residual-in_err-s2.ensures.1)

pub exp_semi_item-returns : goal.exp_semi_item-returns
unfolding Exp.exp_semi_item bytes
exp_semi_item-returns t c = group_is c.group.ensures c.in_ok-s1.was (then_done c.get_exp.ensures c.in_ok-s2.was (plain c.item_semi.ensures))

pub seq_exp-returns-in_err-s1 : goal.seq_exp-returns-in_err-s1
unfolding Exp.exp Helpers.indent_deeper bytes
seq_exp-returns-in_err-s1 t c = then_word c.put.ensures (cc) (then_both c.indent_deeper.ensures (then_stop (along c.indented-new.ensures (λ ws c. Exp.exp_semi_seq ws c false) c.exp_semi_seq.ensures) c.in_err-s1.was c.from_residual.ensures.1))

pub seq_exp-returns : goal.seq_exp-returns
unfolding Exp.exp Helpers.indent_deeper DecOne.comment_line bytes
seq_exp-returns t c = then_word c.put.ensures (cc) (then_both c.indent_deeper.ensures (then_done (along c.indented-new.ensures (λ ws c. Exp.exp_semi_seq ws c false) c.exp_semi_seq.ensures) c.in_ok-s1.was (then_both c.line.ensures (last_word c.put-2.ensures (cc)))))

pub let_exp-returns-in_err-s1 : goal.let_exp-returns-in_err-s1
unfolding Exp.exp Helpers.in_end Helpers.indent_deeper bytes
let_exp-returns-in_err-s1 t c = then_word c.put.ensures (cc) (then_word c.put-2.ensures (cc) (then_both c.indent_deeper.ensures (then_stop (along c.indented-new.ensures (GetDec.get_dec) c.get_dec.ensures) c.in_err-s1.was c.from_residual.ensures.1)))

pub let_exp-returns-in_err-s2 : goal.let_exp-returns-in_err-s2
unfolding Exp.exp Helpers.in_end Helpers.indent_deeper DecOne.comment_line bytes
let_exp-returns-in_err-s2 t c = then_word c.put.ensures (cc) (then_word c.put-2.ensures (cc) (then_both c.indent_deeper.ensures (then_done (along c.indented-new.ensures (GetDec.get_dec) c.get_dec.ensures) c.in_ok-s1.was (then_both c.line.ensures (then_word c.put-3.ensures (cc) (then_sure (sure_in c.indented-new.ensures (λ c. Helpers.indent c) c.indent.ensures) (then_stop (along c.indented-new.ensures (λ ws c. Exp.exp_semi_seq ws c true) c.exp_semi_seq.ensures) c.in_err-s2.was c.from_residual-in_err-s2.ensures.1)))))))

pub let_exp-returns : goal.let_exp-returns
unfolding Exp.exp Helpers.in_end Helpers.indent_deeper DecOne.comment_line bytes
let_exp-returns t c = then_word c.put.ensures (cc) (then_word c.put-2.ensures (cc) (then_both c.indent_deeper.ensures (then_done (along c.indented-new.ensures (GetDec.get_dec) c.get_dec.ensures) c.in_ok-s1.was (then_both c.line.ensures (then_word c.put-3.ensures (cc) (then_sure (sure_in c.indented-new.ensures (λ c. Helpers.indent c) c.indent.ensures) (then_done (along c.indented-new.ensures (λ ws c. Exp.exp_semi_seq ws c true) c.exp_semi_seq.ensures) c.in_ok-s2.was (then_both c.line-2.ensures (last_word c.put-4.ensures (cc))))))))))

pub typed_exp-returns-in_err-s1 : goal.typed_exp-returns-in_err-s1
unfolding Exp.exp bytes
typed_exp-returns-in_err-s1 t c = then_stop c.get_exp.ensures c.in_err-s1.was c.from_residual.ensures.1

pub typed_exp-returns : goal.typed_exp-returns
unfolding Exp.exp bytes
typed_exp-returns t c = then_done c.get_exp.ensures c.in_ok-s1.was (then_word c.put.ensures (cc) (plain c.get_ty.ensures))

pub joined_exps-returns-in_err-s1 : goal.joined_exps-returns-in_err-s1
unfolding bytes
joined_exps-returns-in_err-s1 t c u e = then_stop c.get_exp.ensures c.in_err-s1.was c.from_residual.ensures.1

pub joined_exps-returns : goal.joined_exps-returns
unfolding bytes
joined_exps-returns t c u e = then_done c.get_exp.ensures c.in_ok-s1.was (then_word c.put.ensures e c.get_exp-2.ensures)

pub while_exp-returns : goal.while_exp-returns
unfolding Exp.exp bytes
while_exp-returns t c = then_word c.put.ensures (cc) (c.joined_exps.ensures _ (cc))

pub handle_exp-returns-in_err-s1 : goal.handle_exp-returns-in_err-s1
unfolding bytes
handle_exp-returns-in_err-s1 t c u e = then_stop c.get_exp.ensures c.in_err-s1.was c.from_residual.ensures.1

pub handle_exp-returns : goal.handle_exp-returns
unfolding bytes
handle_exp-returns t c u e = then_done c.get_exp.ensures c.in_ok-s1.was (then_word c.put.ensures e c.get_matcher_across_lines.ensures)

pub case_exp-returns : goal.case_exp-returns
unfolding Exp.exp bytes
case_exp-returns t c = then_word c.put.ensures (cc) (c.handle_exp.ensures _ (cc))

pub prefixed_exp-returns : goal.prefixed_exp-returns
unfolding bytes
prefixed_exp-returns t c u e = then_word c.put.ensures e c.get_exp.ensures

pub if_exp-returns-in_err-s1 : goal.if_exp-returns-in_err-s1
unfolding Exp.exp Exp.if_no bytes
if_exp-returns-in_err-s1 t c = then_word c.put.ensures (cc) (then_stop c.get_exp.ensures c.in_err-s1.was c.from_residual.ensures.1)

pub if_exp-returns-in_err-s2 : goal.if_exp-returns-in_err-s2
unfolding Exp.exp Exp.if_no Helpers.indent_deeper bytes
if_exp-returns-in_err-s2 t c = then_word c.put.ensures (cc) (then_done c.get_exp.ensures c.in_ok-s1.was (then_word c.put-2.ensures (cc) (then_both c.indent_deeper.ensures (then_stop (along c.indented-new.ensures (λ ws c. ws.get_exp c) c.get_exp-2.ensures) c.in_err-s2.was c.from_residual-in_err-s2.ensures.1))))

pub if_exp-returns-in_err-form : goal.if_exp-returns-in_err-form
unfolding Exp.exp Exp.if_no Helpers.indent_deeper DecOne.comment_line bytes
if_exp-returns-in_err-form t c = then_word c.put.ensures (cc) (then_done c.get_exp.ensures c.in_ok-s1.was (then_word c.put-2.ensures (cc) (then_both c.indent_deeper.ensures (then_done (along c.indented-new.ensures (λ ws c. ws.get_exp c) c.get_exp-2.ensures) c.in_ok-s2.was (then_both c.line.ensures (then_word c.put-3.ensures (cc) (look_not c.form.ensures c.in_err-form.was c.from_residual-in_err-form.ensures.1)))))))

pub if_exp-returns-then-is_if_exp : goal.if_exp-returns-then-is_if_exp
unfolding Exp.exp Exp.if_no Helpers.indent_deeper DecOne.comment_line bytes
if_exp-returns-then-is_if_exp t c = then_word c.put.ensures (cc) (then_done c.get_exp.ensures c.in_ok-s1.was (then_word c.put-2.ensures (cc) (then_both c.indent_deeper.ensures (then_done (along c.indented-new.ensures (λ ws c. ws.get_exp c) c.get_exp-2.ensures) c.in_ok-s2.was (then_both c.line.ensures (then_word c.put-3.ensures (cc) (look_yes c.form.ensures c.in_ok-form.was c.is_if_exp.ensures c.if-is_if_exp.true (then_word c.put-then-is_if_exp.ensures (cc) c.get_exp-then-is_if_exp.ensures))))))))

pub if_exp-returns : goal.if_exp-returns
unfolding Exp.exp Exp.if_no Helpers.indent_deeper DecOne.comment_line bytes
if_exp-returns t c = then_word c.put.ensures (cc) (then_done c.get_exp.ensures c.in_ok-s1.was (then_word c.put-2.ensures (cc) (then_both c.indent_deeper.ensures (then_done (along c.indented-new.ensures (λ ws c. ws.get_exp c) c.get_exp-2.ensures) c.in_ok-s2.was (then_both c.line.ensures (then_word c.put-3.ensures (cc) (look_no c.form.ensures c.in_ok-form.was c.is_if_exp.ensures c.if-is_if_exp.false (then_both (sure_in c.indented-new.ensures (λ c. DecOne.comment_line c) c.line-2.ensures) ((along c.indented-new.ensures (λ ws c. ws.get_exp c) c.get_exp-3.ensures))))))))))

pub get_matcher_across_lines-returns-in-Some : goal.get_matcher_across_lines-returns-in-Some
unfolding Exp.get_matcher_across_lines Exp.arms_on_lines bytes
get_matcher_across_lines-returns-in-Some t c = maybe_past c.absent.ensures c.in-Some.is

pub get_matcher_across_lines-returns-in_err-s1 : goal.get_matcher_across_lines-returns-in_err-s1
unfolding Exp.get_matcher_across_lines Exp.arms_on_lines bytes
get_matcher_across_lines-returns-in_err-s1 t c = maybe_there c.absent.ensures c.in_default.is (group_not c.group.ensures c.in_err-s1.was c.from_residual.ensures.1)

pub get_matcher_across_lines-returns : goal.get_matcher_across_lines-returns
unfolding Exp.get_matcher_across_lines Exp.arms_on_lines bytes
get_matcher_across_lines-returns t c = maybe_there c.absent.ensures c.in_default.is (group_is c.group.ensures c.in_ok-s1.was (then_sure c.indent_deeper.ensures (c.sep_with_lines.ensures _ _ _ (cc) (λ o i a r o' i' e. e))))

pub get_matcher_arm-returns-in_err-s1 : goal.get_matcher_arm-returns-in_err-s1
unfolding Exp.get_matcher_arm Exp.get_body_exp_level Exp.indented_levels bytes
get_matcher_arm-returns-in_err-s1 t c = group_not c.group.ensures c.in_err-s1.was c.from_residual.ensures.1

pub get_matcher_arm-returns-in_err-s2 : goal.get_matcher_arm-returns-in_err-s2
unfolding Exp.get_matcher_arm Exp.get_body_exp_level Exp.indented_levels bytes
get_matcher_arm-returns-in_err-s2 t c = group_is c.group.ensures c.in_ok-s1.was (then_stop (plain c.get_pat.ensures) c.in_err-s2.was c.from_residual-in_err-s2.ensures.1)

pub get_matcher_arm-returns-in_err-form : goal.get_matcher_arm-returns-in_err-form
unfolding Exp.get_matcher_arm Exp.get_body_exp_level Exp.indented_levels bytes
get_matcher_arm-returns-in_err-form t c = group_is c.group.ensures c.in_ok-s1.was (then_done (plain c.get_pat.ensures) c.in_ok-s2.was (then_word c.put.ensures (cc) (look_not c.form.ensures c.in_err-form.was c.from_residual-in_err-form.ensures.1)))

pub get_matcher_arm-returns-then-body_exp_needs_newline : goal.get_matcher_arm-returns-then-body_exp_needs_newline
unfolding Exp.get_matcher_arm Exp.get_body_exp_level Exp.indented_levels bytes
get_matcher_arm-returns-then-body_exp_needs_newline t c = group_is c.group.ensures c.in_ok-s1.was (then_done (plain c.get_pat.ensures) c.in_ok-s2.was (then_word c.put.ensures (cc) (look_yes c.form.ensures c.in_ok-form.was c.body_exp_needs_newline.ensures c.if-body_exp_needs_newline.true (then_word c.put-then-body_exp_needs_newline.ensures (cc) (then_sure (c.deepen.ensures _) (along c.indented-new.ensures (λ ws d. Exp.indented_levels ws d 1) c.deeper_exp.ensures))))))

pub get_matcher_arm-returns : goal.get_matcher_arm-returns
unfolding Exp.get_matcher_arm Exp.get_body_exp_level Exp.indented_levels bytes
get_matcher_arm-returns t c = group_is c.group.ensures c.in_ok-s1.was (then_done (plain c.get_pat.ensures) c.in_ok-s2.was (then_word c.put.ensures (cc) (look_no c.form.ensures c.in_ok-form.was c.body_exp_needs_newline.ensures c.if-body_exp_needs_newline.false (then_word c.put-2.ensures (cc) c.get_exp.ensures))))

pub deeper_exp-returns : goal.deeper_exp-returns
unfolding Exp.indented_levels Helpers.indent_deeper bytes
deeper_exp-returns t c = then_both c.indent_deeper.ensures ((along c.indented-new.ensures (λ ws c. ws.get_exp c) c.get_exp.ensures))

pub eq_body-returns-in-Some : goal.eq_body-returns-in-Some
unfolding Exp.eq_body Exp.get_body_exp Exp.get_body_exp_level Exp.indented_levels bytes
eq_body-returns-in-Some t c = maybe_past c.absent.ensures c.in-Some.is

pub eq_body-returns-in_err-s1 : goal.eq_body-returns-in_err-s1
unfolding Exp.eq_body Exp.get_body_exp Exp.get_body_exp_level Exp.indented_levels bytes
eq_body-returns-in_err-s1 t c = maybe_there c.absent.ensures c.in_default.is (group_not c.group.ensures c.in_err-s1.was c.from_residual.ensures.1)

pub eq_body-returns-in_err-form : goal.eq_body-returns-in_err-form
unfolding Exp.eq_body Exp.get_body_exp Exp.get_body_exp_level Exp.indented_levels bytes
eq_body-returns-in_err-form t c = maybe_there c.absent.ensures c.in_default.is (group_is c.group.ensures c.in_ok-s1.was (then_word c.put.ensures (cc) (look_not c.form.ensures c.in_err-form.was c.from_residual-in_err-form.ensures.1)))

pub eq_body-returns-then-body_exp_needs_newline : goal.eq_body-returns-then-body_exp_needs_newline
unfolding Exp.eq_body Exp.get_body_exp Exp.get_body_exp_level Exp.indented_levels bytes
eq_body-returns-then-body_exp_needs_newline t c = maybe_there c.absent.ensures c.in_default.is (group_is c.group.ensures c.in_ok-s1.was (then_word c.put.ensures (cc) (look_yes c.form.ensures c.in_ok-form.was c.body_exp_needs_newline.ensures c.if-body_exp_needs_newline.true (then_word c.put-then-body_exp_needs_newline.ensures (cc) c.deeper_exp.ensures))))

pub eq_body-returns : goal.eq_body-returns
unfolding Exp.eq_body Exp.get_body_exp Exp.get_body_exp_level Exp.indented_levels bytes
eq_body-returns t c = maybe_there c.absent.ensures c.in_default.is (group_is c.group.ensures c.in_ok-s1.was (then_word c.put.ensures (cc) (look_no c.form.ensures c.in_ok-form.was c.body_exp_needs_newline.ensures c.if-body_exp_needs_newline.false (then_word c.put-2.ensures (cc) c.get_exp.ensures))))

pub fn_exp-returns-in_err-s1 : goal.fn_exp-returns-in_err-s1
unfolding Exp.exp Exp.fn_arms bytes
fn_exp-returns-in_err-s1 t c = then_word c.put.ensures (cc) (group_not c.group.ensures c.in_err-s1.was c.from_residual.ensures.1)

pub fn_exp-returns : goal.fn_exp-returns
unfolding Exp.exp Exp.fn_arms bytes
fn_exp-returns t c = then_word c.put.ensures (cc) (group_is c.group.ensures c.in_ok-s1.was (c.sep.ensures _ _ _ (cc) (λ o i a r o' i' e. e)))

pub get_dec-item-returns-in_err-s : goal.get_dec-item-returns-in_err-s
get_dec-item-returns-in_err-s t c = group_not c.group.ensures c.in_err-s.was c.from_residual.ensures.1

pub get_dec-item-returns : goal.get_dec-item-returns
unfolding bytes
get_dec-item-returns t c = group_is c.group.ensures c.in_ok-s.was c.dec.ensures

pub get_dec-returns : goal.get_dec-returns
unfolding GetDec.get_dec bytes
get_dec-returns t c = c.sep_with_lines.ensures _ _ _ (cc) (λ o i a r o' i' e. e)

pub dec-returns-in_err-s1 : goal.dec-returns-in_err-s1
unfolding GetDec.dec Helpers.semicolon
dec-returns-in_err-s1 t c = then_handed (group_not c.group.ensures c.in_err-s1.was c.from_residual.ensures.1) c.from_residual.ensures.0

pub dec-returns-in_err-s2 : goal.dec-returns-in_err-s2
unfolding GetDec.dec Helpers.semicolon
dec-returns-in_err-s2 t c = then_handed (group_is c.group.ensures c.in_ok-s1.was (then_stop c.dec_in_seqs.ensures c.in_err-s2.was c.from_residual-in_err-s2.ensures.1)) c.from_residual-in_err-s2.ensures.0

pub dec-returns-in_err-s3 : goal.dec-returns-in_err-s3
unfolding GetDec.dec Helpers.semicolon
dec-returns-in_err-s3 t c = then_handed (group_is c.group.ensures c.in_ok-s1.was (then_done c.dec_in_seqs.ensures c.in_ok-s2.was (last_stop (plain c.sharing_tails.ensures) c.in_err-s3.was c.from_residual-in_err-s3.ensures.1))) c.from_residual-in_err-s3.ensures.0

pub dec-returns : goal.dec-returns
unfolding GetDec.dec Helpers.semicolon bytes
dec-returns t c = then_done (group_is c.group.ensures c.in_ok-s1.was (then_done c.dec_in_seqs.ensures c.in_ok-s2.was (plain c.sharing_tails.ensures))) c.in_ok-s3.was (plain (c.word_if.ensures _ (cc)))

pub dec_in_seqs-returns : goal.dec_in_seqs-returns
unfolding GetDec.dec_in_seqs bytes
dec_in_seqs-returns t c = c.sep_with_lines.ensures _ _ _ (cc) (λ o i a r o' i' e. e)

pub dec_in_seq-returns-in_err-s1 : goal.dec_in_seq-returns-in_err-s1
unfolding GetDec.dec_in_seq Helpers.with_extra_blank Helpers.semicolon bytes
dec_in_seq-returns-in_err-s1 t c = group_not c.group.ensures c.in_err-s1.was c.from_residual.ensures.1

pub dec_in_seq-returns-in_err-s2 : goal.dec_in_seq-returns-in_err-s2
unfolding GetDec.dec_in_seq Helpers.with_extra_blank Helpers.semicolon bytes
dec_in_seq-returns-in_err-s2 t c = group_is c.group.ensures c.in_ok-s1.was (then_stop c.get_dec_one.ensures c.in_err-s2.was c.from_residual-in_err-s2.ensures.1)

pub dec_in_seq-returns : goal.dec_in_seq-returns
unfolding GetDec.dec_in_seq Helpers.with_extra_blank Helpers.semicolon bytes
dec_in_seq-returns t c = group_is c.group.ensures c.in_ok-s1.was (then_done c.get_dec_one.ensures c.in_ok-s2.was (plain (c.word_if.ensures _ (cc))))

pub val_dec-returns : goal.val_dec-returns
unfolding DecOne.dec_one DecOne.val_binds bytes
val_dec-returns t c = then_word c.put.ensures (cc) (c.sep_with_lines.ensures _ _ _ (cc) (λ o i a r o' i' e. e))

pub val_bind-returns-in_err-s1 : goal.val_bind-returns-in_err-s1
unfolding DecOne.val_bind bytes
val_bind-returns-in_err-s1 t c = group_not c.group.ensures c.in_err-s1.was c.from_residual.ensures.1

pub val_bind-returns-in_err-s2 : goal.val_bind-returns-in_err-s2
unfolding DecOne.val_bind bytes
val_bind-returns-in_err-s2 t c = group_is c.group.ensures c.in_ok-s1.was (then_stop (plain (c.word_if.ensures _ (cc))) c.in_err-s2.was c.from_residual-in_err-s2.ensures.1)

pub val_bind-returns-in_err-s3 : goal.val_bind-returns-in_err-s3
unfolding DecOne.val_bind bytes
val_bind-returns-in_err-s3 t c = group_is c.group.ensures c.in_ok-s1.was (then_done (plain (c.word_if.ensures _ (cc))) c.in_ok-s2.was (then_stop (plain c.get_pat.ensures) c.in_err-s3.was c.from_residual-in_err-s3.ensures.1))

pub val_bind-returns : goal.val_bind-returns
unfolding DecOne.val_bind bytes
val_bind-returns t c = group_is c.group.ensures c.in_ok-s1.was (then_done (plain (c.word_if.ensures _ (cc))) c.in_ok-s2.was (then_done (plain c.get_pat.ensures) c.in_ok-s3.was c.eq_body.ensures))

pub fun_dec-returns-in_err-s1 : goal.fun_dec-returns-in_err-s1
unfolding DecOne.dec_one bytes
fun_dec-returns-in_err-s1 t c = then_word c.put.ensures (cc) (then_stop (plain c.ty_var_seq.ensures) c.in_err-s1.was c.from_residual.ensures.1)

pub fun_dec-returns : goal.fun_dec-returns
unfolding DecOne.dec_one bytes
fun_dec-returns t c = then_word c.put.ensures (cc) (then_done (plain c.ty_var_seq.ensures) c.in_ok-s1.was (c.sep_with_lines.ensures _ _ _ (cc) (λ o i a r o' i' e. e)))

pub fun_bind-returns-in_err-s1 : goal.fun_bind-returns-in_err-s1
unfolding DecOne.fun_bind bytes
fun_bind-returns-in_err-s1 t c = group_not c.group.ensures c.in_err-s1.was c.from_residual.ensures.1

pub fun_bind-returns : goal.fun_bind-returns
unfolding DecOne.fun_bind bytes
fun_bind-returns t c = group_is c.group.ensures c.in_ok-s1.was (then_sure (c.deepen.ensures _) (along c.indented.ensures (λ ws d. Helpers.sep_with_lines d "| " (DecOne.fun_bind_case (walks c.args.cfg.nesting) (cfg_of c.args.cfg))) (c.sep_with_lines.ensures _ _ _ (cc) (λ o i a r o' i' e. e))))

pub fun_bind_case-returns-in_err-s1 : goal.fun_bind_case-returns-in_err-s1
unfolding DecOne.fun_bind_case bytes
fun_bind_case-returns-in_err-s1 t c = group_not c.group.ensures c.in_err-s1.was c.from_residual.ensures.1

pub fun_bind_case-returns-in_err-s2 : goal.fun_bind_case-returns-in_err-s2
unfolding DecOne.fun_bind_case bytes
fun_bind_case-returns-in_err-s2 t c = group_is c.group.ensures c.in_ok-s1.was (then_stop (plain c.case_head.ensures) c.in_err-s2.was c.from_residual-in_err-s2.ensures.1)

pub fun_bind_case-returns-in_err-s3 : goal.fun_bind_case-returns-in_err-s3
unfolding DecOne.fun_bind_case bytes
fun_bind_case-returns-in_err-s3 t c = group_is c.group.ensures c.in_ok-s1.was (then_done (plain c.case_head.ensures) c.in_ok-s2.was (then_stop (plain c.case_pats.ensures) c.in_err-s3.was c.from_residual-in_err-s3.ensures.1))

pub fun_bind_case-returns-in_err-s4 : goal.fun_bind_case-returns-in_err-s4
unfolding DecOne.fun_bind_case bytes
fun_bind_case-returns-in_err-s4 t c = group_is c.group.ensures c.in_ok-s1.was (then_done (plain c.case_head.ensures) c.in_ok-s2.was (then_done (plain c.case_pats.ensures) c.in_ok-s3.was (then_stop (plain c.ty_annotation.ensures) c.in_err-s4.was c.from_residual-in_err-s4.ensures.1)))

pub fun_bind_case-returns : goal.fun_bind_case-returns
unfolding DecOne.fun_bind_case bytes
fun_bind_case-returns t c = group_is c.group.ensures c.in_ok-s1.was (then_done (plain c.case_head.ensures) c.in_ok-s2.was (then_done (plain c.case_pats.ensures) c.in_ok-s3.was (then_done (plain c.ty_annotation.ensures) c.in_ok-s4.was c.eq_body.ensures)))

pub abstype_dec-returns-in_err-s1 : goal.abstype_dec-returns-in_err-s1
unfolding DecOne.dec_one bytes
abstype_dec-returns-in_err-s1 t c = then_word c.put.ensures (cc) (then_stop (plain c.dat_binds.ensures) c.in_err-s1.was c.from_residual.ensures.1)

pub abstype_dec-returns-in_err-s2 : goal.abstype_dec-returns-in_err-s2
unfolding DecOne.dec_one bytes
abstype_dec-returns-in_err-s2 t c = then_word c.put.ensures (cc) (then_done (plain c.dat_binds.ensures) c.in_ok-s1.was (then_stop (plain c.with_type.ensures) c.in_err-s2.was c.from_residual-in_err-s2.ensures.1))

pub abstype_dec-returns-in_err-s3 : goal.abstype_dec-returns-in_err-s3
unfolding DecOne.dec_one bytes
abstype_dec-returns-in_err-s3 t c = then_word c.put.ensures (cc) (then_done (plain c.dat_binds.ensures) c.in_ok-s1.was (then_done (plain c.with_type.ensures) c.in_ok-s2.was (then_word c.put-2.ensures (cc) (then_stop c.get_dec.ensures c.in_err-s3.was c.from_residual-in_err-s3.ensures.1))))

pub abstype_dec-returns : goal.abstype_dec-returns
unfolding DecOne.dec_one bytes
abstype_dec-returns t c = then_word c.put.ensures (cc) (then_done (plain c.dat_binds.ensures) c.in_ok-s1.was (then_done (plain c.with_type.ensures) c.in_ok-s2.was (then_word c.put-2.ensures (cc) (then_done c.get_dec.ensures c.in_ok-s3.was (last_word c.put-3.ensures (cc))))))

pub ex_dec-returns : goal.ex_dec-returns
unfolding DecOne.dec_one bytes
ex_dec-returns t c = then_word c.put.ensures (cc) (c.sep_with_lines.ensures _ _ _ (cc) (λ o i a r o' i' e. e))

pub ex_bind-returns-in_err-s1 : goal.ex_bind-returns-in_err-s1
unfolding DecOne.ex_bind bytes
ex_bind-returns-in_err-s1 t c = group_not c.group.ensures c.in_err-s1.was c.from_residual.ensures.1

pub ex_bind-returns-in_err-s2 : goal.ex_bind-returns-in_err-s2
unfolding DecOne.ex_bind bytes
ex_bind-returns-in_err-s2 t c = group_is c.group.ensures c.in_ok-s1.was (then_stop (plain c.text_of.ensures) c.in_err-s2.was c.from_residual-in_err-s2.ensures.1)

pub ex_bind-returns-in-Some : goal.ex_bind-returns-in-Some
unfolding DecOne.ex_bind bytes
ex_bind-returns-in-Some t c = group_is c.group.ensures c.in_ok-s1.was (then_done (plain c.text_of.ensures) c.in_ok-s2.was (maybe_past c.absent.ensures c.in-Some.is))

pub ex_bind-returns-in_err-k : goal.ex_bind-returns-in_err-k
unfolding DecOne.ex_bind bytes
ex_bind-returns-in_err-k t c = group_is c.group.ensures c.in_ok-s1.was (then_done (plain c.text_of.ensures) c.in_ok-s2.was (maybe_there c.absent.ensures c.in_default.is (choice_not c.choice.ensures c.in_err-k.was c.from_residual-in_err-k.ensures.1)))

pub ex_bind-returns : goal.ex_bind-returns
unfolding DecOne.ex_bind bytes
ex_bind-returns t c = group_is c.group.ensures c.in_ok-s1.was (then_done (plain c.text_of.ensures) c.in_ok-s2.was (maybe_there c.absent.ensures c.in_default.is (choice_is c.choice.ensures c.in_ok-k.was c.ex_bind_inner.ensures)))

pub local_dec-returns-in_err-s1 : goal.local_dec-returns-in_err-s1
unfolding DecOne.dec_one Helpers.in_end Helpers.indent_deeper bytes
local_dec-returns-in_err-s1 t c = then_word c.put.ensures (cc) (then_word c.put-2.ensures (cc) (then_both c.indent_deeper.ensures (then_stop (along c.indented-new.ensures (DecOne.local_decs) c.local_decs.ensures) c.in_err-s1.was c.from_residual.ensures.1)))

pub local_dec-returns-in_err-s2 : goal.local_dec-returns-in_err-s2
unfolding DecOne.dec_one Helpers.in_end Helpers.indent_deeper DecOne.comment_line bytes
local_dec-returns-in_err-s2 t c = then_word c.put.ensures (cc) (then_word c.put-2.ensures (cc) (then_both c.indent_deeper.ensures (then_done (along c.indented-new.ensures (DecOne.local_decs) c.local_decs.ensures) c.in_ok-s1.was (then_both c.line.ensures (then_word c.put-3.ensures (cc) (then_sure (sure_in c.indented-new.ensures (λ c. Helpers.indent c) c.indent.ensures) (then_stop (along c.indented-new.ensures (DecOne.local_decs) c.local_decs-2.ensures) c.in_err-s2.was c.from_residual-in_err-s2.ensures.1)))))))

pub local_dec-returns : goal.local_dec-returns
unfolding DecOne.dec_one Helpers.in_end Helpers.indent_deeper DecOne.comment_line bytes
local_dec-returns t c = then_word c.put.ensures (cc) (then_word c.put-2.ensures (cc) (then_both c.indent_deeper.ensures (then_done (along c.indented-new.ensures (DecOne.local_decs) c.local_decs.ensures) c.in_ok-s1.was (then_both c.line.ensures (then_word c.put-3.ensures (cc) (then_sure (sure_in c.indented-new.ensures (λ c. Helpers.indent c) c.indent.ensures) (then_done (along c.indented-new.ensures (DecOne.local_decs) c.local_decs-2.ensures) c.in_ok-s2.was (then_both c.line-2.ensures (last_word c.put-4.ensures (cc))))))))))

pub local_decs-returns-in-Some : goal.local_decs-returns-in-Some
unfolding DecOne.local_decs bytes
local_decs-returns-in-Some t c = maybe_past c.absent.ensures c.in-Some.is

pub local_decs-returns-in_err-s1 : goal.local_decs-returns-in_err-s1
unfolding DecOne.local_decs bytes
local_decs-returns-in_err-s1 t c = maybe_there c.absent.ensures c.in_default.is (group_not c.group.ensures c.in_err-s1.was c.from_residual.ensures.1)

pub local_decs-returns : goal.local_decs-returns
unfolding DecOne.local_decs bytes
local_decs-returns t c = maybe_there c.absent.ensures c.in_default.is (group_is c.group.ensures c.in_ok-s1.was c.get_dec.ensures)

pub structure_dec-returns : goal.structure_dec-returns
unfolding DecOne.dec_one bytes
structure_dec-returns t c = then_word c.put.ensures (cc) (c.sep_with_lines.ensures _ _ _ (cc) (λ o i a r o' i' e. e))

pub str_bind-returns-in_err-s1 : goal.str_bind-returns-in_err-s1
unfolding DecOne.str_bind bytes
str_bind-returns-in_err-s1 t c = group_not c.group.ensures c.in_err-s1.was c.from_residual.ensures.1

pub str_bind-returns-in_err-s2 : goal.str_bind-returns-in_err-s2
unfolding DecOne.str_bind bytes
str_bind-returns-in_err-s2 t c = group_is c.group.ensures c.in_ok-s1.was (then_stop (plain c.text_of.ensures) c.in_err-s2.was c.from_residual-in_err-s2.ensures.1)

pub str_bind-returns-in_err-s3 : goal.str_bind-returns-in_err-s3
unfolding DecOne.str_bind bytes
str_bind-returns-in_err-s3 t c = group_is c.group.ensures c.in_ok-s1.was (then_done (plain c.text_of.ensures) c.in_ok-s2.was (then_stop c.ascription.ensures c.in_err-s3.was c.from_residual-in_err-s3.ensures.1))

pub str_bind-returns-in-Some : goal.str_bind-returns-in-Some
unfolding DecOne.str_bind bytes
str_bind-returns-in-Some t c = group_is c.group.ensures c.in_ok-s1.was (then_done (plain c.text_of.ensures) c.in_ok-s2.was (then_done c.ascription.ensures c.in_ok-s3.was (maybe_past c.absent.ensures c.in-Some.is)))

pub str_bind-returns-in_err-s5 : goal.str_bind-returns-in_err-s5
unfolding DecOne.str_bind bytes
str_bind-returns-in_err-s5 t c = group_is c.group.ensures c.in_ok-s1.was (then_done (plain c.text_of.ensures) c.in_ok-s2.was (then_done c.ascription.ensures c.in_ok-s3.was (maybe_there c.absent.ensures c.in_default.is (group_not c.group-2.ensures c.in_err-s5.was c.from_residual-in_err-s5.ensures.1))))

pub str_bind-returns : goal.str_bind-returns
unfolding DecOne.str_bind bytes
str_bind-returns t c = group_is c.group.ensures c.in_ok-s1.was (then_done (plain c.text_of.ensures) c.in_ok-s2.was (then_done c.ascription.ensures c.in_ok-s3.was (maybe_there c.absent.ensures c.in_default.is (group_is c.group-2.ensures c.in_ok-s5.was (then_word c.put.ensures (cc) c.get_str_exp.ensures)))))

pub signature_dec-item-returns-in_err-s : goal.signature_dec-item-returns-in_err-s
signature_dec-item-returns-in_err-s t c = group_not c.group.ensures c.in_err-s.was c.from_residual.ensures.1

pub signature_dec-item-returns : goal.signature_dec-item-returns
unfolding bytes
signature_dec-item-returns t c = group_is c.group.ensures c.in_ok-s.was (c.named_sig_exp.ensures _ (cc))

pub signature_dec-returns : goal.signature_dec-returns
unfolding DecOne.dec_one DecOne.sig_bind bytes
signature_dec-returns t c = then_word c.put.ensures (cc) (c.sep_with_lines.ensures _ _ _ (cc) (λ o i a r o' i' e. e))

pub named_sig_exp-returns-in_err-s1 : goal.named_sig_exp-returns-in_err-s1
unfolding bytes
named_sig_exp-returns-in_err-s1 t c u e = then_stop (plain c.text_of.ensures) c.in_err-s1.was c.from_residual.ensures.1

pub named_sig_exp-returns : goal.named_sig_exp-returns
unfolding bytes
named_sig_exp-returns t c u e = then_done (plain c.text_of.ensures) c.in_ok-s1.was (then_word c.put.ensures e c.get_sig_exp.ensures)

pub functor_dec-returns : goal.functor_dec-returns
unfolding DecOne.dec_one bytes
functor_dec-returns t c = then_word c.put.ensures (cc) (c.sep_with_lines.ensures _ _ _ (cc) (λ o i a r o' i' e. e))

pub functor_bind-returns-in_err-s1 : goal.functor_bind-returns-in_err-s1
unfolding DecOne.functor_bind bytes
functor_bind-returns-in_err-s1 t c = group_not c.group.ensures c.in_err-s1.was c.from_residual.ensures.1

pub functor_bind-returns-in_err-s2 : goal.functor_bind-returns-in_err-s2
unfolding DecOne.functor_bind bytes
functor_bind-returns-in_err-s2 t c = group_is c.group.ensures c.in_ok-s1.was (then_stop (plain c.text_of.ensures) c.in_err-s2.was c.from_residual-in_err-s2.ensures.1)

pub functor_bind-returns-in_err-s3 : goal.functor_bind-returns-in_err-s3
unfolding DecOne.functor_bind bytes
functor_bind-returns-in_err-s3 t c = group_is c.group.ensures c.in_ok-s1.was (then_done (plain c.text_of.ensures) c.in_ok-s2.was (then_word c.put.ensures (cc) (then_stop c.functor_args.ensures c.in_err-s3.was c.from_residual-in_err-s3.ensures.1)))

pub functor_bind-returns-in_err-s4 : goal.functor_bind-returns-in_err-s4
unfolding DecOne.functor_bind bytes
functor_bind-returns-in_err-s4 t c = group_is c.group.ensures c.in_ok-s1.was (then_done (plain c.text_of.ensures) c.in_ok-s2.was (then_word c.put.ensures (cc) (then_done c.functor_args.ensures c.in_ok-s3.was (then_word c.put-2.ensures (cc) (then_stop c.ascription.ensures c.in_err-s4.was c.from_residual-in_err-s4.ensures.1)))))

pub functor_bind-returns : goal.functor_bind-returns
unfolding DecOne.functor_bind bytes
functor_bind-returns t c = group_is c.group.ensures c.in_ok-s1.was (then_done (plain c.text_of.ensures) c.in_ok-s2.was (then_word c.put.ensures (cc) (then_done c.functor_args.ensures c.in_ok-s3.was (then_word c.put-2.ensures (cc) (then_done c.ascription.ensures c.in_ok-s4.was (then_word c.put-3.ensures (cc) c.get_str_exp.ensures))))))

pub functor_args-item-returns-in_err-k : goal.functor_args-item-returns-in_err-k
functor_args-item-returns-in_err-k t c = choice_not c.choice.ensures c.in_err-k.was c.from_residual.ensures.1

pub functor_args-item-returns : goal.functor_args-item-returns
unfolding bytes
functor_args-item-returns t c = choice_is c.choice.ensures c.in_ok-k.was c.functor_arg.ensures

pub functor_args-returns : goal.functor_args-returns
unfolding DecOne.functor_args bytes
functor_args-returns t c = c.for_each.ensures _ _ (λ o i a r o' i' e. e)

pub include_dec-returns : goal.include_dec-returns
unfolding DecOne.dec_one bytes
include_dec-returns t c = then_word c.put.ensures (cc) (c.sep.ensures _ _ _ (cc) (λ o i a r o' i' e. e))

pub dec_arg-returns-in_err-s1 : goal.dec_arg-returns-in_err-s1
unfolding GetDec.dec_arg Helpers.indent_deeper bytes
dec_arg-returns-in_err-s1 t c = then_word c.put.ensures (cc) (then_both c.indent_deeper.ensures (then_stop (along c.indented-new.ensures (GetDec.dec) c.dec.ensures) c.in_err-s1.was c.from_residual.ensures.1))

pub dec_arg-returns : goal.dec_arg-returns
unfolding GetDec.dec_arg Helpers.indent_deeper bytes
dec_arg-returns t c = then_word c.put.ensures (cc) (then_both c.indent_deeper.ensures (then_done (along c.indented-new.ensures (GetDec.dec) c.dec.ensures) c.in_ok-s1.was (last_word c.put-2.ensures (cc))))

pub ascription_str_exp-returns-in_err-s1 : goal.ascription_str_exp-returns-in_err-s1
unfolding StrExp.str_exp bytes
ascription_str_exp-returns-in_err-s1 t c = then_stop c.get_str_exp.ensures c.in_err-s1.was c.from_residual.ensures.1

pub ascription_str_exp-returns : goal.ascription_str_exp-returns
unfolding StrExp.str_exp bytes
ascription_str_exp-returns t c = then_done c.get_str_exp.ensures c.in_ok-s1.was c.ascription_tail.ensures

pub ascription_tail-returns-in_err-s1 : goal.ascription_tail-returns-in_err-s1
unfolding SigExp.ascription_tail bytes
ascription_tail-returns-in_err-s1 t c = group_not c.group.ensures c.in_err-s1.was c.from_residual.ensures.1

pub ascription_tail-returns-in_err-s2 : goal.ascription_tail-returns-in_err-s2
unfolding SigExp.ascription_tail bytes
ascription_tail-returns-in_err-s2 t c = group_is c.group.ensures c.in_ok-s1.was (then_word c.put.ensures (cc) (then_stop (plain c.text_of.ensures) c.in_err-s2.was c.from_residual-in_err-s2.ensures.1))

pub ascription_tail-returns : goal.ascription_tail-returns
unfolding SigExp.ascription_tail bytes
ascription_tail-returns t c = group_is c.group.ensures c.in_ok-s1.was (then_word c.put.ensures (cc) (then_done (plain c.text_of.ensures) c.in_ok-s2.was (then_word c.put-2.ensures (cc) c.get_sig_exp.ensures)))

pub ascription-returns-in-Some : goal.ascription-returns-in-Some
unfolding bytes
ascription-returns-in-Some t c = maybe_past c.absent.ensures c.in-Some.is

pub ascription-returns : goal.ascription-returns
unfolding bytes
ascription-returns t c = maybe_there c.absent.ensures c.in_default.is c.ascription_tail.ensures

pub app_str_exp-returns-in_err-s1 : goal.app_str_exp-returns-in_err-s1
unfolding StrExp.str_exp
app_str_exp-returns-in_err-s1 t c = then_stop (plain c.text_of.ensures) c.in_err-s1.was c.from_residual.ensures.1

pub let_str_exp-returns-in_err-s1 : goal.let_str_exp-returns-in_err-s1
unfolding StrExp.str_exp Helpers.in_end Helpers.indent_deeper bytes
let_str_exp-returns-in_err-s1 t c = then_word c.put.ensures (cc) (then_word c.put-2.ensures (cc) (then_both c.indent_deeper.ensures (then_stop (along c.indented-new.ensures (GetDec.get_dec) c.get_dec.ensures) c.in_err-s1.was c.from_residual.ensures.1)))

pub let_str_exp-returns-in_err-s2 : goal.let_str_exp-returns-in_err-s2
unfolding StrExp.str_exp Helpers.in_end Helpers.indent_deeper DecOne.comment_line bytes
let_str_exp-returns-in_err-s2 t c = then_word c.put.ensures (cc) (then_word c.put-2.ensures (cc) (then_both c.indent_deeper.ensures (then_done (along c.indented-new.ensures (GetDec.get_dec) c.get_dec.ensures) c.in_ok-s1.was (then_both c.line.ensures (then_word c.put-3.ensures (cc) (then_sure (sure_in c.indented-new.ensures (λ c. Helpers.indent c) c.indent.ensures) (then_stop (along c.indented-new.ensures (λ ws c. ws.get_str_exp c) c.get_str_exp.ensures) c.in_err-s2.was c.from_residual-in_err-s2.ensures.1)))))))

pub let_str_exp-returns : goal.let_str_exp-returns
unfolding StrExp.str_exp Helpers.in_end Helpers.indent_deeper DecOne.comment_line bytes
let_str_exp-returns t c = then_word c.put.ensures (cc) (then_word c.put-2.ensures (cc) (then_both c.indent_deeper.ensures (then_done (along c.indented-new.ensures (GetDec.get_dec) c.get_dec.ensures) c.in_ok-s1.was (then_both c.line.ensures (then_word c.put-3.ensures (cc) (then_sure (sure_in c.indented-new.ensures (λ c. Helpers.indent c) c.indent.ensures) (then_done (along c.indented-new.ensures (λ ws c. ws.get_str_exp c) c.get_str_exp.ensures) c.in_ok-s2.was (then_both c.line-2.ensures (last_word c.put-4.ensures (cc))))))))))

pub sig_sig_exp-returns-in_err-s1 : goal.sig_sig_exp-returns-in_err-s1
unfolding SigExp.sig_exp Helpers.indent_deeper bytes
sig_sig_exp-returns-in_err-s1 t c = then_word c.put.ensures (cc) (then_both c.indent_deeper.ensures (then_stop (along c.indented-new.ensures (GetDec.get_dec) c.get_dec.ensures) c.in_err-s1.was c.from_residual.ensures.1))

pub sig_sig_exp-returns : goal.sig_sig_exp-returns
unfolding SigExp.sig_exp Helpers.indent_deeper DecOne.comment_line bytes
sig_sig_exp-returns t c = then_word c.put.ensures (cc) (then_both c.indent_deeper.ensures (then_done (along c.indented-new.ensures (GetDec.get_dec) c.get_dec.ensures) c.in_ok-s1.was (then_both c.line.ensures (last_word c.put-2.ensures (cc)))))

pub where_type_sig_exp-returns-in_err-s1 : goal.where_type_sig_exp-returns-in_err-s1
unfolding SigExp.sig_exp bytes
where_type_sig_exp-returns-in_err-s1 t c = then_stop c.get_sig_exp.ensures c.in_err-s1.was c.from_residual.ensures.1

pub where_type_sig_exp-returns-in_err-s2 : goal.where_type_sig_exp-returns-in_err-s2
unfolding SigExp.sig_exp bytes
where_type_sig_exp-returns-in_err-s2 t c = then_done c.get_sig_exp.ensures c.in_ok-s1.was (then_word c.put.ensures (cc) (then_stop (plain c.ty_var_seq.ensures) c.in_err-s2.was c.from_residual-in_err-s2.ensures.1))

pub where_type_sig_exp-returns-in_err-s3 : goal.where_type_sig_exp-returns-in_err-s3
unfolding SigExp.sig_exp bytes
where_type_sig_exp-returns-in_err-s3 t c = then_done c.get_sig_exp.ensures c.in_ok-s1.was (then_word c.put.ensures (cc) (then_done (plain c.ty_var_seq.ensures) c.in_ok-s2.was (then_stop (plain c.path.ensures) c.in_err-s3.was c.from_residual-in_err-s3.ensures.1)))

pub where_type_sig_exp-returns : goal.where_type_sig_exp-returns
unfolding SigExp.sig_exp bytes
where_type_sig_exp-returns t c = then_done c.get_sig_exp.ensures c.in_ok-s1.was (then_word c.put.ensures (cc) (then_done (plain c.ty_var_seq.ensures) c.in_ok-s2.was (then_done (plain c.path.ensures) c.in_ok-s3.was (then_word c.put-2.ensures (cc) (plain c.get_ty.ensures)))))

pub where_sig_exp-returns-in_err-s1 : goal.where_sig_exp-returns-in_err-s1
unfolding SigExp.sig_exp bytes
where_sig_exp-returns-in_err-s1 t c = then_stop c.get_sig_exp.ensures c.in_err-s1.was c.from_residual.ensures.1

pub where_sig_exp-returns-in_err-s2 : goal.where_sig_exp-returns-in_err-s2
unfolding SigExp.sig_exp bytes
where_sig_exp-returns-in_err-s2 t c = then_done c.get_sig_exp.ensures c.in_ok-s1.was (then_word c.put.ensures (cc) (then_stop (plain c.path.ensures) c.in_err-s2.was c.from_residual-in_err-s2.ensures.1))

pub where_sig_exp-returns : goal.where_sig_exp-returns
unfolding SigExp.sig_exp bytes
where_sig_exp-returns t c = then_done c.get_sig_exp.ensures c.in_ok-s1.was (then_word c.put.ensures (cc) (then_done (plain c.path.ensures) c.in_ok-s2.was (then_word c.put-2.ensures (cc) (plain c.path-2.ensures))))

pub infix_exp-returns-in_err-k : goal.infix_exp-returns-in_err-k
unfolding Exp.exp
infix_exp-returns-in_err-k t c = operator_not c.token_no.ensures c.in_err-k.was c.from_residual.ensures.1

pub infix_exp-returns-in_err-s2 : goal.infix_exp-returns-in_err-s2
unfolding Exp.exp
infix_exp-returns-in_err-s2 t c = operator_stop c.token_no.ensures c.in_ok-k.was c.get_exp.ensures c.in_err-s2.was c.from_residual-in_err-s2.ensures.1

pub infix_exp-returns : goal.infix_exp-returns
unfolding Exp.exp
infix_exp-returns t c = operator_is c.token_no.ensures c.in_ok-k.was c.get_exp.ensures c.in_ok-s2.was c.infix_operator.ensures c.get_exp-2.ensures

pub exp_semi_seq-returns-in_err-n : goal.exp_semi_seq-returns-in_err-n
unfolding Exp.exp_semi_seq
exp_semi_seq-returns-in_err-n t c = list_not c.list.ensures c.in_err-n.was c.from_residual.ensures.1

pub exp_semi_seq-returns-then-n-eq0 : goal.exp_semi_seq-returns-then-n-eq0
unfolding Exp.exp_semi_seq
exp_semi_seq-returns-then-n-eq0 t c = list_is c.list.ensures c.in_ok-n.was (semi_zero _ _ _ c.if-n-eq0.true)

pub exp_semi_seq-returns-in_err-s2 : goal.exp_semi_seq-returns-in_err-s2
unfolding Exp.exp_semi_seq
exp_semi_seq-returns-in_err-s2 t c = list_is c.list.ensures c.in_ok-n.was (semi_first _ _ _ c.if-n-eq0.false (then_stop c.exp_semi_item.ensures c.in_err-s2.was c.from_residual-in_err-s2.ensures.1))

pub exp_semi_seq-returns : goal.exp_semi_seq-returns
unfolding Exp.exp_semi_seq
exp_semi_seq-returns t c = list_is c.list.ensures c.in_ok-n.was (semi_first _ _ _ c.if-n-eq0.false (then_done c.exp_semi_item.ensures c.in_ok-s2.was c.exp_semi_more.ensures))

pub app_exp-returns-in-Err : goal.app_exp-returns-in-Err
unfolding Exp.exp
app_exp-returns-in-Err t c = application_stop c.get_exp.ensures c.in-Err.is c.asked_first.ensures

pub app_exp-returns-in_err-func : goal.app_exp-returns-in_err-func
unfolding Exp.exp
app_exp-returns-in_err-func t c = application_not (c.heads_behind.ensures ∙ heads_seen c.args.cfg.nesting _ (omega (arith, c.requires)) c.get_exp.ensures c.in-Ok.is) c.in_err-func.was c.from_residual.ensures.1

pub app_exp-returns : goal.app_exp-returns
unfolding Exp.exp
app_exp-returns t c = application_is (c.heads_behind.ensures ∙ heads_seen c.args.cfg.nesting _ (omega (arith, c.requires)) c.get_exp.ensures c.in-Ok.is) c.in_ok-func.was c.func_is_bang-bang.ensures c.arg_is_symbolic-symbolic.ensures (then_done c.get_exp.ensures c.in-Ok.is (then_sure c.app_space.ensures c.get_exp-2.ensures))

pub get_exp-returns-then-cfg-eq0 : goal.get_exp-returns-then-cfg-eq0
get_exp-returns-then-cfg-eq0 t c = form_none (Knot.exp _) c.if-cfg-eq0.true

pub get_exp-returns-in_err-k : goal.get_exp-returns-in_err-k
get_exp-returns-in_err-k t c = form_some (Knot.exp _) c.if-cfg-eq0.false (form_not c.form.ensures c.in_err-k.was c.from_residual.ensures.1)

pub get_exp-returns-in-0 : goal.get_exp-returns-in-0
unfolding Exp.exps Exp.exp bytes
get_exp-returns-in-0 t c = form_key (Knot.exp _) c.if-cfg-eq0.false c.form.ensures c.in_ok-k.was c.in-0.is (last_word c.put.ensures (cc))

pub get_exp-returns-in-1 : goal.get_exp-returns-in-1
unfolding Exp.exps Exp.exp bytes
get_exp-returns-in-1 t c = form_key (Knot.exp _) c.if-cfg-eq0.false c.form.ensures c.in_ok-k.was c.in-1.is (last_word c.put-in-1.ensures (cc))

pub get_exp-returns-in-2 : goal.get_exp-returns-in-2
unfolding Exp.exps Exp.exp bytes
get_exp-returns-in-2 t c = form_key (Knot.exp _) c.if-cfg-eq0.false c.form.ensures c.in_ok-k.was c.in-2.is (last_word c.put-in-2.ensures (cc))

pub get_exp-returns-in-3 : goal.get_exp-returns-in-3
unfolding Exp.exps Exp.exp bytes
get_exp-returns-in-3 t c = form_key (Knot.exp _) c.if-cfg-eq0.false c.form.ensures c.in_ok-k.was c.in-3.is (last_word c.put-in-3.ensures (cc))

pub get_exp-returns-in-4 : goal.get_exp-returns-in-4
unfolding Exp.exps Exp.exp
get_exp-returns-in-4 t c = form_key (Knot.exp _) c.if-cfg-eq0.false c.form.ensures c.in_ok-k.was c.in-4.is (plain c.text_of.ensures)

pub get_exp-returns-in-5 : goal.get_exp-returns-in-5
unfolding Exp.exps Exp.exp
get_exp-returns-in-5 t c = form_key (Knot.exp _) c.if-cfg-eq0.false c.form.ensures c.in_ok-k.was c.in-5.is (plain c.op_path.ensures)

pub get_exp-returns-in-6 : goal.get_exp-returns-in-6
unfolding Exp.exps Exp.exp
get_exp-returns-in-6 t c = form_key (Knot.exp _) c.if-cfg-eq0.false c.form.ensures c.in_ok-k.was c.in-6.is c.record_exp.ensures

pub get_exp-returns-in-7 : goal.get_exp-returns-in-7
unfolding Exp.exps Exp.exp
get_exp-returns-in-7 t c = form_key (Knot.exp _) c.if-cfg-eq0.false c.form.ensures c.in_ok-k.was c.in-7.is (plain c.selector_exp.ensures)

pub get_exp-returns-in-8 : goal.get_exp-returns-in-8
unfolding Exp.exps Exp.exp
get_exp-returns-in-8 t c = form_key (Knot.exp _) c.if-cfg-eq0.false c.form.ensures c.in_ok-k.was c.in-8.is c.paren_exp.ensures

pub get_exp-returns-in-9 : goal.get_exp-returns-in-9
unfolding Exp.exps Exp.exp bytes
get_exp-returns-in-9 t c = form_key (Knot.exp _) c.if-cfg-eq0.false c.form.ensures c.in_ok-k.was c.in-9.is (c.bracketed_exps.ensures _ (cc) _ (cc))

pub get_exp-returns-in-10 : goal.get_exp-returns-in-10
unfolding Exp.exps Exp.exp bytes
get_exp-returns-in-10 t c = form_key (Knot.exp _) c.if-cfg-eq0.false c.form.ensures c.in_ok-k.was c.in-10.is (c.bracketed_exps-in-10.ensures _ (cc) _ (cc))

pub get_exp-returns-in-11 : goal.get_exp-returns-in-11
unfolding Exp.exps Exp.exp
get_exp-returns-in-11 t c = form_key (Knot.exp _) c.if-cfg-eq0.false c.form.ensures c.in_ok-k.was c.in-11.is c.vector_exp.ensures

pub get_exp-returns-in-12 : goal.get_exp-returns-in-12
unfolding Exp.exps Exp.exp
get_exp-returns-in-12 t c = form_key (Knot.exp _) c.if-cfg-eq0.false c.form.ensures c.in_ok-k.was c.in-12.is c.seq_exp.ensures

pub get_exp-returns-in-13 : goal.get_exp-returns-in-13
unfolding Exp.exps Exp.exp
get_exp-returns-in-13 t c = form_key (Knot.exp _) c.if-cfg-eq0.false c.form.ensures c.in_ok-k.was c.in-13.is c.let_exp.ensures

pub get_exp-returns-in-14 : goal.get_exp-returns-in-14
unfolding Exp.exps Exp.exp
get_exp-returns-in-14 t c = form_key (Knot.exp _) c.if-cfg-eq0.false c.form.ensures c.in_ok-k.was c.in-14.is c.app_exp.ensures

pub get_exp-returns-in-15 : goal.get_exp-returns-in-15
unfolding Exp.exps Exp.exp
get_exp-returns-in-15 t c = form_key (Knot.exp _) c.if-cfg-eq0.false c.form.ensures c.in_ok-k.was c.in-15.is c.infix_exp.ensures

pub get_exp-returns-in-16 : goal.get_exp-returns-in-16
unfolding Exp.exps Exp.exp
get_exp-returns-in-16 t c = form_key (Knot.exp _) c.if-cfg-eq0.false c.form.ensures c.in_ok-k.was c.in-16.is c.typed_exp.ensures

pub get_exp-returns-in-17 : goal.get_exp-returns-in-17
unfolding Exp.exps Exp.exp bytes
get_exp-returns-in-17 t c = form_key (Knot.exp _) c.if-cfg-eq0.false c.form.ensures c.in_ok-k.was c.in-17.is (c.joined_exps.ensures _ (cc))

pub get_exp-returns-in-18 : goal.get_exp-returns-in-18
unfolding Exp.exps Exp.exp bytes
get_exp-returns-in-18 t c = form_key (Knot.exp _) c.if-cfg-eq0.false c.form.ensures c.in_ok-k.was c.in-18.is (c.joined_exps-in-18.ensures _ (cc))

pub get_exp-returns-in-19 : goal.get_exp-returns-in-19
unfolding Exp.exps Exp.exp bytes
get_exp-returns-in-19 t c = form_key (Knot.exp _) c.if-cfg-eq0.false c.form.ensures c.in_ok-k.was c.in-19.is (c.handle_exp.ensures _ (cc))

pub get_exp-returns-in-20 : goal.get_exp-returns-in-20
unfolding Exp.exps Exp.exp bytes
get_exp-returns-in-20 t c = form_key (Knot.exp _) c.if-cfg-eq0.false c.form.ensures c.in_ok-k.was c.in-20.is (c.prefixed_exp.ensures _ (cc))

pub get_exp-returns-in-21 : goal.get_exp-returns-in-21
unfolding Exp.exps Exp.exp
get_exp-returns-in-21 t c = form_key (Knot.exp _) c.if-cfg-eq0.false c.form.ensures c.in_ok-k.was c.in-21.is c.if_exp.ensures

pub get_exp-returns-in-22 : goal.get_exp-returns-in-22
unfolding Exp.exps Exp.exp
get_exp-returns-in-22 t c = form_key (Knot.exp _) c.if-cfg-eq0.false c.form.ensures c.in_ok-k.was c.in-22.is c.while_exp.ensures

pub get_exp-returns-in-23 : goal.get_exp-returns-in-23
unfolding Exp.exps Exp.exp
get_exp-returns-in-23 t c = form_key (Knot.exp _) c.if-cfg-eq0.false c.form.ensures c.in_ok-k.was c.in-23.is c.case_exp.ensures

pub get_exp-returns-in-24 : goal.get_exp-returns-in-24
unfolding Exp.exps Exp.exp
get_exp-returns-in-24 t c = form_key (Knot.exp _) c.if-cfg-eq0.false c.form.ensures c.in_ok-k.was c.in-24.is c.fn_exp.ensures

pub get_exp-returns-in_default : goal.get_exp-returns-in_default
unfolding Exp.exps
get_exp-returns-in_default t c = form_beyond (Knot.exp _) c.if-cfg-eq0.false c.form.ensures c.in_ok-k.was refl (omega (arith, c.in_default))

pub get_str_exp-returns-then-cfg-eq0 : goal.get_str_exp-returns-then-cfg-eq0
get_str_exp-returns-then-cfg-eq0 t c = form_none (Knot.str_exp _) c.if-cfg-eq0.true

pub get_str_exp-returns-in_err-k : goal.get_str_exp-returns-in_err-k
get_str_exp-returns-in_err-k t c = form_some (Knot.str_exp _) c.if-cfg-eq0.false (form_not c.form.ensures c.in_err-k.was c.from_residual.ensures.1)

pub get_str_exp-returns-in-0 : goal.get_str_exp-returns-in-0
unfolding StrExp.str_exps StrExp.str_exp
get_str_exp-returns-in-0 t c = form_key (Knot.str_exp _) c.if-cfg-eq0.false c.form.ensures c.in_ok-k.was c.in-0.is c.struct_str_exp.ensures

pub get_str_exp-returns-in-1 : goal.get_str_exp-returns-in-1
unfolding StrExp.str_exps StrExp.str_exp
get_str_exp-returns-in-1 t c = form_key (Knot.str_exp _) c.if-cfg-eq0.false c.form.ensures c.in_ok-k.was c.in-1.is (plain c.path.ensures)

pub get_str_exp-returns-in-2 : goal.get_str_exp-returns-in-2
unfolding StrExp.str_exps StrExp.str_exp
get_str_exp-returns-in-2 t c = form_key (Knot.str_exp _) c.if-cfg-eq0.false c.form.ensures c.in_ok-k.was c.in-2.is c.ascription_str_exp.ensures

pub get_str_exp-returns-in-3 : goal.get_str_exp-returns-in-3
unfolding StrExp.str_exps StrExp.str_exp
get_str_exp-returns-in-3 t c = form_key (Knot.str_exp _) c.if-cfg-eq0.false c.form.ensures c.in_ok-k.was c.in-3.is c.app_str_exp.ensures

pub get_str_exp-returns-in-4 : goal.get_str_exp-returns-in-4
unfolding StrExp.str_exps StrExp.str_exp
get_str_exp-returns-in-4 t c = form_key (Knot.str_exp _) c.if-cfg-eq0.false c.form.ensures c.in_ok-k.was c.in-4.is c.let_str_exp.ensures

pub get_str_exp-returns-in_default : goal.get_str_exp-returns-in_default
unfolding StrExp.str_exps
get_str_exp-returns-in_default t c = form_beyond (Knot.str_exp _) c.if-cfg-eq0.false c.form.ensures c.in_ok-k.was refl (omega (arith, c.in_default))

pub get_sig_exp-returns-then-cfg-eq0 : goal.get_sig_exp-returns-then-cfg-eq0
get_sig_exp-returns-then-cfg-eq0 t c = form_none (Knot.sig_exp _) c.if-cfg-eq0.true

pub get_sig_exp-returns-in_err-k : goal.get_sig_exp-returns-in_err-k
get_sig_exp-returns-in_err-k t c = form_some (Knot.sig_exp _) c.if-cfg-eq0.false (form_not c.form.ensures c.in_err-k.was c.from_residual.ensures.1)

pub get_sig_exp-returns-in-0 : goal.get_sig_exp-returns-in-0
unfolding SigExp.sig_exps SigExp.sig_exp
get_sig_exp-returns-in-0 t c = form_key (Knot.sig_exp _) c.if-cfg-eq0.false c.form.ensures c.in_ok-k.was c.in-0.is c.sig_sig_exp.ensures

pub get_sig_exp-returns-in-1 : goal.get_sig_exp-returns-in-1
unfolding SigExp.sig_exps SigExp.sig_exp
get_sig_exp-returns-in-1 t c = form_key (Knot.sig_exp _) c.if-cfg-eq0.false c.form.ensures c.in_ok-k.was c.in-1.is (plain c.text_of.ensures)

pub get_sig_exp-returns-in-2 : goal.get_sig_exp-returns-in-2
unfolding SigExp.sig_exps SigExp.sig_exp
get_sig_exp-returns-in-2 t c = form_key (Knot.sig_exp _) c.if-cfg-eq0.false c.form.ensures c.in_ok-k.was c.in-2.is c.where_type_sig_exp.ensures

pub get_sig_exp-returns-in-3 : goal.get_sig_exp-returns-in-3
unfolding SigExp.sig_exps SigExp.sig_exp
get_sig_exp-returns-in-3 t c = form_key (Knot.sig_exp _) c.if-cfg-eq0.false c.form.ensures c.in_ok-k.was c.in-3.is c.where_sig_exp.ensures

pub get_sig_exp-returns-in_default : goal.get_sig_exp-returns-in_default
unfolding SigExp.sig_exps
get_sig_exp-returns-in_default t c = form_beyond (Knot.sig_exp _) c.if-cfg-eq0.false c.form.ensures c.in_ok-k.was refl (omega (arith, c.in_default))

pub get_dec_one-returns-then-cfg-eq0 : goal.get_dec_one-returns-then-cfg-eq0
get_dec_one-returns-then-cfg-eq0 t c = form_none (Knot.dec_one _) c.if-cfg-eq0.true

pub get_dec_one-returns-in_err-found : goal.get_dec_one-returns-in_err-found
get_dec_one-returns-in_err-found t c = form_some (Knot.dec_one _) c.if-cfg-eq0.false (declaration_not c.declared.ensures c.in_err-found.was c.from_residual.ensures.1)

pub get_dec_one-returns : goal.get_dec_one-returns
get_dec_one-returns t c = form_some (Knot.dec_one _) c.if-cfg-eq0.false (declaration_is c.declared.ensures c.in_ok-found.was c.comment_above.ensures c.dec_by_number.ensures)

pub dec_by_number-returns-in-0 : goal.dec_by_number-returns-in-0
unfolding DecOne.decs DecOne.dec_one bytes
dec_by_number-returns-in-0 t c = at_key (λ k. get_or (DecOne.decs (walks c.args.cfg.nesting) (cfg_of c.args.cfg)) k Layout.halt) c.in-0.is (last_word c.put.ensures (cc))

pub dec_by_number-returns-in-1 : goal.dec_by_number-returns-in-1
unfolding DecOne.decs DecOne.dec_one
dec_by_number-returns-in-1 t c = at_key (λ k. get_or (DecOne.decs (walks c.args.cfg.nesting) (cfg_of c.args.cfg)) k Layout.halt) c.in-1.is c.val_dec.ensures

pub dec_by_number-returns-in-2 : goal.dec_by_number-returns-in-2
unfolding DecOne.decs DecOne.dec_one
dec_by_number-returns-in-2 t c = at_key (λ k. get_or (DecOne.decs (walks c.args.cfg.nesting) (cfg_of c.args.cfg)) k Layout.halt) c.in-2.is c.fun_dec.ensures

pub dec_by_number-returns-in-3 : goal.dec_by_number-returns-in-3
unfolding DecOne.decs DecOne.dec_one
dec_by_number-returns-in-3 t c = at_key (λ k. get_or (DecOne.decs (walks c.args.cfg.nesting) (cfg_of c.args.cfg)) k Layout.halt) c.in-3.is (plain c.ty_dec.ensures)

pub dec_by_number-returns-in-4 : goal.dec_by_number-returns-in-4
unfolding DecOne.decs DecOne.dec_one
dec_by_number-returns-in-4 t c = at_key (λ k. get_or (DecOne.decs (walks c.args.cfg.nesting) (cfg_of c.args.cfg)) k Layout.halt) c.in-4.is (plain c.dat_dec.ensures)

pub dec_by_number-returns-in-5 : goal.dec_by_number-returns-in-5
unfolding DecOne.decs DecOne.dec_one
dec_by_number-returns-in-5 t c = at_key (λ k. get_or (DecOne.decs (walks c.args.cfg.nesting) (cfg_of c.args.cfg)) k Layout.halt) c.in-5.is (plain c.dat_copy_dec.ensures)

pub dec_by_number-returns-in-6 : goal.dec_by_number-returns-in-6
unfolding DecOne.decs DecOne.dec_one
dec_by_number-returns-in-6 t c = at_key (λ k. get_or (DecOne.decs (walks c.args.cfg.nesting) (cfg_of c.args.cfg)) k Layout.halt) c.in-6.is c.abstype_dec.ensures

pub dec_by_number-returns-in-7 : goal.dec_by_number-returns-in-7
unfolding DecOne.decs DecOne.dec_one
dec_by_number-returns-in-7 t c = at_key (λ k. get_or (DecOne.decs (walks c.args.cfg.nesting) (cfg_of c.args.cfg)) k Layout.halt) c.in-7.is c.ex_dec.ensures

pub dec_by_number-returns-in-8 : goal.dec_by_number-returns-in-8
unfolding DecOne.decs DecOne.dec_one
dec_by_number-returns-in-8 t c = at_key (λ k. get_or (DecOne.decs (walks c.args.cfg.nesting) (cfg_of c.args.cfg)) k Layout.halt) c.in-8.is (plain c.open_dec.ensures)

pub dec_by_number-returns-in-9 : goal.dec_by_number-returns-in-9
unfolding DecOne.decs DecOne.dec_one bytes
dec_by_number-returns-in-9 t c = at_key (λ k. get_or (DecOne.decs (walks c.args.cfg.nesting) (cfg_of c.args.cfg)) k Layout.halt) c.in-9.is (plain (c.infix_dec.ensures _ (cc)))

pub dec_by_number-returns-in-10 : goal.dec_by_number-returns-in-10
unfolding DecOne.decs DecOne.dec_one bytes
dec_by_number-returns-in-10 t c = at_key (λ k. get_or (DecOne.decs (walks c.args.cfg.nesting) (cfg_of c.args.cfg)) k Layout.halt) c.in-10.is (plain (c.infix_dec-in-10.ensures _ (cc)))

pub dec_by_number-returns-in-11 : goal.dec_by_number-returns-in-11
unfolding DecOne.decs DecOne.dec_one
dec_by_number-returns-in-11 t c = at_key (λ k. get_or (DecOne.decs (walks c.args.cfg.nesting) (cfg_of c.args.cfg)) k Layout.halt) c.in-11.is (plain c.nonfix_dec.ensures)

pub dec_by_number-returns-in-12 : goal.dec_by_number-returns-in-12
unfolding DecOne.decs DecOne.dec_one bytes
dec_by_number-returns-in-12 t c = at_key (λ k. get_or (DecOne.decs (walks c.args.cfg.nesting) (cfg_of c.args.cfg)) k Layout.halt) c.in-12.is (c.prefixed_exp.ensures _ (cc))

pub dec_by_number-returns-in-13 : goal.dec_by_number-returns-in-13
unfolding DecOne.decs DecOne.dec_one
dec_by_number-returns-in-13 t c = at_key (λ k. get_or (DecOne.decs (walks c.args.cfg.nesting) (cfg_of c.args.cfg)) k Layout.halt) c.in-13.is c.local_dec.ensures

pub dec_by_number-returns-in-14 : goal.dec_by_number-returns-in-14
unfolding DecOne.decs DecOne.dec_one
dec_by_number-returns-in-14 t c = at_key (λ k. get_or (DecOne.decs (walks c.args.cfg.nesting) (cfg_of c.args.cfg)) k Layout.halt) c.in-14.is c.structure_dec.ensures

pub dec_by_number-returns-in-15 : goal.dec_by_number-returns-in-15
unfolding DecOne.decs DecOne.dec_one
dec_by_number-returns-in-15 t c = at_key (λ k. get_or (DecOne.decs (walks c.args.cfg.nesting) (cfg_of c.args.cfg)) k Layout.halt) c.in-15.is c.signature_dec.ensures

pub dec_by_number-returns-in-16 : goal.dec_by_number-returns-in-16
unfolding DecOne.decs DecOne.dec_one
dec_by_number-returns-in-16 t c = at_key (λ k. get_or (DecOne.decs (walks c.args.cfg.nesting) (cfg_of c.args.cfg)) k Layout.halt) c.in-16.is c.functor_dec.ensures

pub dec_by_number-returns-in-17 : goal.dec_by_number-returns-in-17
unfolding DecOne.decs DecOne.dec_one
dec_by_number-returns-in-17 t c = at_key (λ k. get_or (DecOne.decs (walks c.args.cfg.nesting) (cfg_of c.args.cfg)) k Layout.halt) c.in-17.is c.get_exp.ensures

pub dec_by_number-returns-in-18 : goal.dec_by_number-returns-in-18
unfolding DecOne.decs DecOne.dec_one
dec_by_number-returns-in-18 t c = at_key (λ k. get_or (DecOne.decs (walks c.args.cfg.nesting) (cfg_of c.args.cfg)) k Layout.halt) c.in-18.is c.include_dec.ensures

pub dec_by_number-returns-in-19 : goal.dec_by_number-returns-in-19
unfolding DecOne.decs DecOne.dec_one
dec_by_number-returns-in-19 t c = at_key (λ k. get_or (DecOne.decs (walks c.args.cfg.nesting) (cfg_of c.args.cfg)) k Layout.halt) c.in-19.is last_import

pub dec_by_number-returns-in_default : goal.dec_by_number-returns-in_default
unfolding DecOne.decs
dec_by_number-returns-in_default t c = beyond (DecOne.decs (walks c.args.cfg.nesting) (cfg_of c.args.cfg)) {n = c.args.which} refl (omega (arith, c.in_default))

pub ex_bind_inner-returns-in-0 : goal.ex_bind_inner-returns-in-0
unfolding DecOne.ex_bind_inner bytes
ex_bind_inner-returns-in-0 t c = at_key (DecOne.ex_bind_inner (walks c.args.cfg.nesting) (cfg_of c.args.cfg)) c.in-0.is (plain c.ex_bind_of.ensures)

pub ex_bind_inner-returns-in-1 : goal.ex_bind_inner-returns-in-1
unfolding DecOne.ex_bind_inner bytes
ex_bind_inner-returns-in-1 t c = at_key (DecOne.ex_bind_inner (walks c.args.cfg.nesting) (cfg_of c.args.cfg)) c.in-1.is (c.prefixed_exp.ensures _ (cc))

pub ex_bind_inner-returns-in_default : goal.ex_bind_inner-returns-in_default
unfolding DecOne.ex_bind_inner
ex_bind_inner-returns-in_default t c = beyond (DecOne.ex_bind_of (walks c.args.cfg.nesting) ∷ (Layout.◌⨾◌ (Layout.word " = ") ((walks c.args.cfg.nesting).get_exp (cfg_of c.args.cfg))) ∷ []) refl (omega (arith, c.in_default))

pub functor_arg-returns-in-0 : goal.functor_arg-returns-in-0
unfolding DecOne.functor_arg bytes
functor_arg-returns-in-0 t c = at_key (DecOne.functor_arg (walks c.args.cfg.nesting) (cfg_of c.args.cfg)) c.in-0.is (c.named_sig_exp.ensures _ (cc))

pub functor_arg-returns-in-1 : goal.functor_arg-returns-in-1
unfolding DecOne.functor_arg bytes
functor_arg-returns-in-1 t c = at_key (DecOne.functor_arg (walks c.args.cfg.nesting) (cfg_of c.args.cfg)) c.in-1.is c.dec_arg.ensures

pub functor_arg-returns-in_default : goal.functor_arg-returns-in_default
unfolding DecOne.functor_arg
functor_arg-returns-in_default t c = beyond ((Layout.◌⨾◌ Layout.text (Layout.◌⨾◌ (Layout.word " : ") ((walks c.args.cfg.nesting).get_sig_exp (cfg_of c.args.cfg)))) ∷ GetDec.dec_arg (walks c.args.cfg.nesting) (cfg_of c.args.cfg) ∷ []) refl (omega (arith, c.in_default))

pub app_arg-returns-in-0 : goal.app_arg-returns-in-0
unfolding StrExp.app_arg bytes
app_arg-returns-in-0 t c = at_key (StrExp.app_arg (walks c.args.cfg.nesting) (cfg_of c.args.cfg)) c.in-0.is c.get_str_exp.ensures

pub app_arg-returns-in-1 : goal.app_arg-returns-in-1
unfolding StrExp.app_arg bytes
app_arg-returns-in-1 t c = at_key (StrExp.app_arg (walks c.args.cfg.nesting) (cfg_of c.args.cfg)) c.in-1.is c.dec_arg.ensures

pub app_arg-returns-in_default : goal.app_arg-returns-in_default
unfolding StrExp.app_arg
app_arg-returns-in_default t c = beyond ((walks c.args.cfg.nesting).get_str_exp (cfg_of c.args.cfg) ∷ GetDec.dec_arg (walks c.args.cfg.nesting) (cfg_of c.args.cfg) ∷ []) refl (omega (arith, c.in_default))

pub struct_str_exp-returns-in_err-s1 : goal.struct_str_exp-returns-in_err-s1
unfolding StrExp.str_exp Helpers.indent_deeper Helpers.with_extra_blank DecOne.comment_line bytes
struct_str_exp-returns-in_err-s1 t c = then_word c.put.ensures (cc) (then_both c.indent_deeper.ensures (then_stop (along c.indented-new.ensures (λ ws d. GetDec.get_dec ws d) c.get_dec.ensures) c.in_err-s1.was c.from_residual.ensures.1))

pub struct_str_exp-returns : goal.struct_str_exp-returns
unfolding StrExp.str_exp Helpers.indent_deeper Helpers.with_extra_blank DecOne.comment_line bytes
struct_str_exp-returns t c = then_word c.put.ensures (cc) (then_both c.indent_deeper.ensures (then_done (along c.indented-new.ensures (λ ws d. GetDec.get_dec ws d) c.get_dec.ensures) c.in_ok-s1.was (then_both c.line.ensures (last_word c.put-2.ensures (cc)))))

pub app_str_exp-returns-in_err-n : goal.app_str_exp-returns-in_err-n
unfolding StrExp.str_exp bytes
app_str_exp-returns-in_err-n t c = then_done (plain c.text_of.ensures) c.in_ok-s1.was (then_word c.put.ensures (cc) (list_not c.list.ensures c.in_err-n.was c.from_residual-in_err-n.ensures.1))

pub app_str_exp-loop-i-init : goal.app_str_exp-loop-i-init
app_str_exp-loop-i-init t c = λ r i o h. h

pub app_str_exp-returns-in_err-k : goal.app_str_exp-returns-in_err-k
unfolding StrExp.str_exp bytes
app_str_exp-returns-in_err-k t c = then_done (plain c.text_of.ensures) c.in_ok-s1.was (then_word c.put.ensures (cc) (list_is c.list.ensures c.in_ok-n.was (args_all _ _ _ (c.loop-i.invariant _ _ _ (args_more _ _ _ c.loop-i-test.true (choice_not c.choice.ensures c.in_err-k.was c.from_residual-in_err-k.ensures.1))))))

pub app_str_exp-returns-in_err-s : goal.app_str_exp-returns-in_err-s
unfolding StrExp.str_exp bytes
app_str_exp-returns-in_err-s t c = then_done (plain c.text_of.ensures) c.in_ok-s1.was (then_word c.put.ensures (cc) (list_is c.list.ensures c.in_ok-n.was (args_all _ _ _ (c.loop-i.invariant _ _ _ (args_more _ _ _ c.loop-i-test.true (choice_is c.choice.ensures c.in_ok-k.was (then_stop c.app_arg.ensures c.in_err-s.was c.from_residual-in_err-s.ensures.1)))))))

pub app_str_exp-loop-i-preserved : goal.app_str_exp-loop-i-preserved
app_str_exp-loop-i-preserved t c = λ r i o h. c.loop-i.invariant _ _ _ (args_more _ _ _ c.loop-i-test.true (choice_is c.choice.ensures c.in_ok-k.was (then_done c.app_arg.ensures c.in_ok-s.was (args_needs _ _ _ c.later_needs-needs.ensures h))))

pub app_str_exp-returns : goal.app_str_exp-returns
unfolding StrExp.str_exp bytes
app_str_exp-returns t c = then_done (plain c.text_of.ensures) c.in_ok-s1.was (then_word c.put.ensures (cc) (list_is c.list.ensures c.in_ok-n.was (args_all _ _ _ (c.loop-i.invariant _ _ _ (args_none _ _ _ c.loop-i-test.false (last_sure c.app_end.ensures))))))

pub exp_semi_more-loop-left-init : goal.exp_semi_more-loop-left-init
exp_semi_more-loop-left-init t c = (omega arith, λ r i o h. h)

pub exp_semi_more-returns-in_err-s : goal.exp_semi_more-returns-in_err-s
unfolding bytes
exp_semi_more-returns-in_err-s t c = c.loop-left.invariant.1 _ _ _ (semi_more _ _ _ (omega (arith, c.loop-left-test.true)) c.last_semi.ensures (then_word c.put.ensures (cc) (then_sure c.indent.ensures (then_stop c.exp_semi_item.ensures c.in_err-s.was c.from_residual.ensures.1))))

pub exp_semi_more-loop-left-preserved : goal.exp_semi_more-loop-left-preserved
unfolding bytes
exp_semi_more-loop-left-preserved t c = (omega (arith, c.loop-left.invariant.0), λ r i o h. c.loop-left.invariant.1 _ _ _ (semi_more _ _ _ (omega (arith, c.loop-left-test.true)) c.last_semi.ensures (then_word c.put.ensures (cc) (then_sure c.indent.ensures (then_done c.exp_semi_item.ensures c.in_ok-s.was h)))))

pub exp_semi_more-returns : goal.exp_semi_more-returns
exp_semi_more-returns t c = c.loop-left.invariant.1 _ _ _ (semi_none _ _ _ c.loop-left-test.false)
