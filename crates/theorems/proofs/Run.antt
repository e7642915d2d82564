-- `unfolding run` opens every definition of specs/, so that a theorem about a sheet is closed by computation.
-- Written by tools/unfold.py.
use Rattle.text.specs.Utf8 as Utf8
use Rattle.text.specs.Bytes as Bytes
use Rattle.text.specs.Output as Output
use Rattle.text.specs.WellFormed as WellFormed
use Rattle.text.specs.At as At
use Rattle.reader.specs.Forms as Forms
use Rattle.reader.specs.Fields as Fields
use Rattle.reader.specs.Commands as Commands
use Rattle.reader.specs.Tokens as Tokens
use Rattle.reader.specs.Check as Check
use Rattle.reader.specs.Reading as Reading
use Rattle.comments.specs.Set as Set
use Rattle.comments.specs.Above as Above
use Rattle.layout.specs.Meaning as Meaning
use Rattle.layout.specs.Helpers as Helpers
use Rattle.layout.specs.GetDec as GetDec
use Rattle.layout.specs.Ty as Ty
use Rattle.layout.specs.Pat as Pat
use Rattle.layout.specs.Exp as Exp
use Rattle.layout.specs.SigExp as SigExp
use Rattle.layout.specs.StrExp as StrExp
use Rattle.layout.specs.DecOne as DecOne
use Rattle.layout.specs.Walk as Walk
use Rattle.layout.specs.Events as Events
use Rattle.agreement.specs.Unbounded as Unbounded
use Rattle.formatter.specs.Verdict as Verdict
use Rattle.formatter.specs.Lookup as Lookup
use Rattle.program.specs.Program as Program
use Rattle.theorems.specs.Demands as Demands

unfoldable pub run_utf8 : Unit {0}
unfolding Utf8.is_in Utf8.is_scalar Utf8.encode Utf8.encoded Utf8.well_formed Utf8.fits Utf8.width_in Utf8.char_at Utf8.broken_from Utf8.first_broken Utf8.is_inside Utf8.boundary
run_utf8 = tt

unfoldable pub run_bytes : Unit {0}
unfolding Bytes.bytes Bytes.between Bytes.is_space Bytes.is_letter Bytes.is_digit Bytes.class_of Bytes.classes_from Bytes.class_table Bytes.white_space_codes Bytes.white_space Bytes.starts_with Bytes.leading Bytes.strip_from Bytes.strip Bytes.trim_start Bytes.trim_end Bytes.trim Bytes.same_bytes Bytes.first_is
run_bytes = tt

unfoldable pub run_output : Unit {0}
unfolding Output.fitted
run_output = tt

unfoldable pub run_well_formed : Unit {0}
unfolding WellFormed.All WellFormed.drop_while WellFormed.drop_ends WellFormed.is_one_of WellFormed.is_white_space WellFormed.first_not_ascii WellFormed.trim_ascii
run_well_formed = tt

unfoldable pub run_at : Unit {0}
unfolding At.u16
run_at = tt

unfoldable pub run_forms : Unit {0}
unfolding Forms.dec_number Forms.exp_number
run_forms = tt

unfoldable pub run_fields : Unit {0}
unfolding Fields.forms Fields.first_form
run_fields = tt

unfoldable pub run_commands : Unit {0}
unfolding Commands.form_width Commands.command Commands.absent_at Commands.token_at Commands.list_at Commands.group_at Commands.choice_at Commands.form_at Commands.first_token Commands.declaration_at
run_commands = tt

unfoldable pub run_tokens : Unit {0}
unfolding Tokens.text_of Tokens.end_tokens Tokens.with_token Tokens.is_token Tokens.tokens_from Tokens.tokens
run_tokens = tt

unfoldable pub run_check : Unit {0}
unfolding Check.and_then Check.items Check.operand_fits Check.token_fits Check.or_absent Check.fields Check.form_fits Check.form_check Check.tree_check Check.field_end
run_check = tt

unfoldable pub run_reading : Unit {0}
unfolding Reading.read_tree Reading.read_record Reading.read_text Reading.read
run_reading = tt

unfoldable pub run_set : Unit {0}
unfolding Set.is_comment Set.bit Set.clear Set.holds Set.bits Set.words_from Set.words_of Set.without Set.count Set.first
run_set = tt

unfoldable pub run_above : Unit {0}
unfolding Above.is_keyword Above.above Above.found_above Above.comment_in Above.comment_above
run_above = tt

unfoldable pub run_meaning : Unit {0}
unfolding Meaning.after Meaning.bind Meaning.commented Meaning.or_stop Meaning.token_text Meaning.passes Meaning.is_command Meaning.on_new_line Meaning.needs_newline Meaning.sees Meaning.dot_name Meaning.list_name Meaning.path_name Meaning.op_path_name Meaning.both_seen Meaning.head_of Meaning.heads_from Meaning.heads_at Meaning.func_is_bang Meaning.arg_is_symbolic Meaning.name_passes Meaning.above_first Meaning.operated Meaning.onwards Meaning.outcome
run_meaning = tt

unfoldable pub run_helpers : Unit {0}
unfolding Helpers.with_extra_blank Helpers.deepen Helpers.indent Helpers.indent_deeper Helpers.when Helpers.times Helpers.items Helpers.for_each Helpers.sep Helpers.new_line Helpers.sep_with_lines Helpers.in_end Helpers.path Helpers.op Helpers.op_path Helpers.ty_vars Helpers.in_parens Helpers.ty_var_seq_there Helpers.ty_var_seq Helpers.word_if Helpers.semicolon
run_helpers = tt

unfoldable pub run_get_dec : Unit {0}
unfolding GetDec.dec_in_seq GetDec.sharing_tail GetDec.sharing_tails GetDec.dec_in_seqs GetDec.dec GetDec.get_dec GetDec.dec_arg
run_get_dec = tt

unfoldable pub run_ty : Unit {0}
unfolding Ty.ty_row Ty.ty_rows Ty.ty_args Ty.ty_seq_there Ty.ty_seq Ty.star_ty Ty.star_tys Ty.ty Ty.tys Ty.ty_annotation_there Ty.ty_annotation
run_ty = tt

unfoldable pub run_pat : Unit {0}
unfolding Pat.con_arg_there Pat.con_arg Pat.RestPatRow Pat.LabAndPatPatRow Pat.as_tail_there Pat.as_tail Pat.LabPatRow Pat.pat_row_inner Pat.pat_row Pat.pat_rows Pat.pat_args Pat.pat Pat.pats
run_pat = tt

unfoldable pub run_exp : Unit {0}
unfolding Exp.item_semi Exp.app_space Exp.pipe Exp.indented_levels Exp.get_body_exp_level Exp.get_body_exp Exp.eq_body Exp.get_matcher_arm Exp.arms_on_lines Exp.get_matcher_across_lines Exp.exp_args Exp.exp_semi_item Exp.exp_semi_more Exp.exp_semi_items Exp.exp_semi_seq Exp.eq_exp Exp.exp_row Exp.exp_rows Exp.if_no Exp.fn_arms Exp.exp Exp.exps
run_exp = tt

unfoldable pub run_sig_exp : Unit {0}
unfolding SigExp.ascription_tail SigExp.sig_exp SigExp.sig_exps
run_sig_exp = tt

unfoldable pub run_str_exp : Unit {0}
unfolding StrExp.app_arg StrExp.app_args StrExp.str_exp StrExp.str_exps
run_str_exp = tt

unfoldable pub run_dec_one : Unit {0}
unfolding DecOne.comment_line DecOne.ty_bind DecOne.ty_binds DecOne.with_type DecOne.con_bind DecOne.con_binds DecOne.dat_bind DecOne.dat_binds DecOne.val_bind DecOne.val_binds DecOne.PrefixFunBindCaseHead DecOne.infix_head DecOne.InfixFunBindCaseHead DecOne.case_head DecOne.case_pats DecOne.fun_bind_case DecOne.fun_bind DecOne.ex_bind_of DecOne.ex_bind_inner DecOne.ex_bind DecOne.int_lit DecOne.names_space DecOne.local_decs DecOne.str_bind DecOne.sig_bind DecOne.functor_arg DecOne.functor_args DecOne.functor_bind DecOne.dec_one DecOne.decs
run_dec_one = tt

unfoldable pub run_walk : Unit {0}
unfolding Walk.walks Walk.top Walk.walk
run_walk = tt

unfoldable pub run_events : Unit {0}
unfolding Events.sum_of Events.formed_depth Events.deepest Events.indent_depth Events.units Events.letters_of Events.trimmed Events.letters Events.spelt Events.formatted Events.writes_comment Events.written Events.is_left
run_events = tt

unfoldable pub run_unbounded : Unit {0}
unfolding Unbounded.onwards Unbounded.outcome Unbounded.walk
run_unbounded = tt

unfoldable pub run_verdict : Unit {0}
unfolding Verdict.measures_of Verdict.comments Verdict.stop_verdict Verdict.walked Verdict.judge Verdict.check Verdict.put Verdict.format Verdict.get
run_verdict = tt

unfoldable pub run_lookup : Unit {0}
unfolding Lookup.ask Lookup.told Lookup.lookup
run_lookup = tt

unfoldable pub run_program : Unit {0}
unfolding Program.digits Program.decimal Program.line Program.text_of Program.line_of Program.printed Program.tab_size Program.text_length Program.format_input Program.program
run_program = tt

unfoldable pub run_demands : Unit {0}
unfolding Demands.without_spaces
run_demands = tt

unfoldable pub run : Unit {0}
unfolding run_utf8 run_bytes run_output run_well_formed run_at run_forms run_fields run_commands run_tokens run_check run_reading run_set run_above run_meaning run_helpers run_get_dec run_ty run_pat run_exp run_sig_exp run_str_exp run_dec_one run_walk run_events run_unbounded run_verdict run_lookup run_program run_demands
run = tt
