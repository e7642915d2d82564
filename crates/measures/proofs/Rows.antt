-- What each arm of the walk pays, with the 16 credits that the command of its form leaves it.
-- Written by `python3 tools/credits.py` from the layouts in crates/layout/specs.
use native.Mathlib.Omega.{arith}
use mathlib.Core.Path.{refl}
use mathlib.Core.Bool.{true}
use Prim.Native.Nat.{ℕ, ◌+◌, ◌≤◌}
use Rattle.text.specs.Bytes.{bytes}
use Rattle.layout.specs.Meaning.{Page}
use Rattle.layout.specs.Helpers.{Cfg, Walkers}
use Rattle.measures.proofs.Paying.{Rows, Short, arm, ◌then◌, ◌▹◌, no_more}
use Rattle.measures.proofs.Arms.{Walks}
use Rattle.layout.specs.Helpers.{with_extra_blank, deeper, indent_deeper, in_parens}
use Rattle.layout.specs.Ty.{ty_row, ty_rows, ty_args, ty_seq_there, ty_seq, star_ty, star_tys, ty, tys, ty_annotation_there, ty_annotation}
use Rattle.layout.specs.Pat.{con_arg_there, con_arg, RestPatRow, LabAndPatPatRow, as_tail_there, as_tail, LabPatRow, pat_row_inner, pat_row, pat_rows, pat_args, pat, pats}
use Rattle.layout.specs.Exp.{app_space, pipe, indented_levels, get_body_exp_level, get_body_exp, eq_body, get_matcher_arm, arms_on_lines, get_matcher_across_lines, exp_args, eq_exp, exp_row, exp_rows, if_no, fn_arms, exp, exps}
use Rattle.layout.specs.SigExp.{ascription_tail, sig_exp, sig_exps}
use Rattle.layout.specs.StrExp.{str_exp, str_exps}
use Rattle.layout.specs.DecOne.{ty_bind, ty_binds, with_type, dat_bind, dat_binds, val_bind, val_binds, PrefixFunBindCaseHead, infix_head, InfixFunBindCaseHead, case_head, case_pats, fun_bind_case, fun_bind, ex_bind_of, ex_bind_inner, ex_bind, int_lit, names_space, local_decs, str_bind, sig_bind, functor_arg, functor_args, functor_bind, dec_one, decs}
use Rattle.measures.proofs.Paying.{imports, fixed, texts, groups, choices, lists, maybes, presents, looks, applications, operators, whens}
use Rattle.measures.proofs.Helpers.{deepened, at-depth, each, seps, lines, in-ends, words-if, paths, op-paths, ty-var-seqs}
use Rattle.measures.proofs.Sequences.{get-decs, dec-args}
use Rattle.measures.proofs.Irregular.{semi-seqs, con-bindings, app-arguments}

module _ {p : Page} (short : Short p) {top : ℕ} {ws : Walkers} (go : Walks p top ws) (low : top ≤ 400) where
  pub ty-arms : Rows p 16 0 (tys ws)
  unfolding tys ty ty_rows ty_row ty_seq ty_seq_there ty_args star_tys star_ty bytes
  ty-arms =
      arm refl (fixed refl)  -- HoleTy
      ▹ arm refl (fixed refl)  -- WildcardTy
      ▹ arm refl (texts short)  -- TyVarTy
      ▹ arm refl (fixed refl then seps (fixed refl) refl (groups (texts short then fixed refl then go.ty)) then fixed refl)  -- RecordTy
      ▹ arm refl (maybes (groups (fixed refl then seps (fixed refl) refl (groups go.ty) then fixed refl)) then paths short)  -- ConTy
      ▹ arm refl (go.ty then fixed refl then paths short)  -- OneArgConTy
      ▹ arm refl (go.dropped-ty then each refl (groups (fixed refl then go.ty)))  -- TupleTy
      ▹ arm refl (go.ty then fixed refl then go.ty)  -- FnTy
      ▹ arm refl (fixed refl then go.ty then fixed refl)  -- ParenTy
      ▹ no_more

  pub pat-arms : Rows p 16 0 (pats ws)
  unfolding pats pat con_arg con_arg_there pat_rows pat_row pat_row_inner RestPatRow LabAndPatPatRow LabPatRow ty_annotation ty_annotation_there as_tail as_tail_there pat_args bytes
  pat-arms =
      arm refl (fixed refl)  -- WildcardPat
      ▹ arm refl (texts short)  -- SConPat
      ▹ arm refl (op-paths short then maybes (fixed refl then go.pat))  -- ConPat
      ▹ arm refl (fixed refl then seps (fixed refl) refl (groups (choices (λ which. (arm refl (fixed refl) ▹ arm refl (texts short then fixed refl
      then go.pat) ▹ arm refl (texts short then maybes (groups (fixed refl then go.ty)) then maybes (groups (fixed refl then go.pat)))
      ▹ no_more).at which))) then fixed refl)  -- RecordPat
      ▹ arm refl (fixed refl then go.pat then fixed refl)  -- ParenPat
      ▹ arm refl (fixed refl then seps (fixed refl) refl (groups go.pat) then fixed refl)  -- TuplePat
      ▹ arm refl (fixed refl then seps (fixed refl) refl (groups go.pat) then fixed refl)  -- ListPat
      ▹ arm refl (fixed refl then groups (seps (fixed refl) refl (groups go.pat)) then fixed refl)  -- VectorPat
      ▹ arm refl (go.pat then fixed refl then texts short then fixed refl then go.pat)  -- InfixPat
      ▹ arm refl (go.pat then fixed refl then go.ty)  -- TypedPat
      ▹ arm refl (go.pat then fixed refl then groups go.pat)  -- AsPat
      ▹ arm refl (go.pat then fixed refl then go.pat)  -- OrPat
      ▹ no_more

  -- An arm goes at most two deeper.
  module _ (c : Cfg) (h : c.depth + 2 ≤ top) where
    pub exp-arms : Rows p 16 0 (exps ws c)
    unfolding exps exp exp_rows exp_row eq_exp exp_args app_space pipe indent_deeper get_matcher_across_lines arms_on_lines get_matcher_arm get_body_exp_level indented_levels if_no fn_arms bytes
    exp-arms =
        arm refl (fixed refl)  -- HoleExp
        ▹ arm refl (fixed refl)  -- WildcardExp
        ▹ arm refl (fixed refl)  -- OpAndalsoExp
        ▹ arm refl (fixed refl)  -- OpOrelseExp
        ▹ arm refl (texts short)  -- SConExp
        ▹ arm refl (op-paths short)  -- PathExp
        ▹ arm refl (fixed refl then seps (fixed refl) refl (groups (texts short then maybes (groups (fixed refl then go.exp c (omega arith)))))
        then fixed refl)  -- RecordExp
        ▹ arm refl (fixed refl then texts short)  -- SelectorExp
        ▹ arm refl (fixed refl then go.exp c (omega arith) then fixed refl)  -- ParenExp
        ▹ arm refl (fixed refl then seps (fixed refl) refl (groups (go.exp c (omega arith))) then fixed refl)  -- TupleExp
        ▹ arm refl (fixed refl then seps (fixed refl) refl (groups (go.exp c (omega arith))) then fixed refl)  -- ListExp
        ▹ arm refl (fixed refl then groups (seps (fixed refl) refl (groups (go.exp c (omega arith)))) then fixed refl)  -- VectorExp
        ▹ arm refl (fixed refl then deepened c (omega arith) then at-depth (deeper c) (omega arith) then semi-seqs go low (deeper c) (omega arith) _
        then fixed refl then at-depth c (omega arith) then fixed refl)  -- SeqExp
        ▹ arm refl (in-ends c (omega arith) _ _ (fixed refl) (get-decs short go low (deeper c) (omega arith)) (semi-seqs go low (deeper c) (omega arith) _))  -- LetExp
        ▹ arm refl (applications (λ bang symbolic. go.exp c (omega arith) then whens (fixed refl) _ then go.exp c (omega arith)))  -- AppExp
        ▹ arm refl (operators short (go.exp c (omega arith)) (fixed refl then (deepened c (omega arith) then at-depth (deeper c) (omega arith))
        then fixed refl) (fixed refl) then go.exp c (omega arith))  -- InfixExp
        ▹ arm refl (go.exp c (omega arith) then fixed refl then go.ty)  -- TypedExp
        ▹ arm refl (go.exp c (omega arith) then fixed refl then go.exp c (omega arith))  -- AndalsoExp
        ▹ arm refl (go.exp c (omega arith) then fixed refl then go.exp c (omega arith))  -- OrelseExp
        ▹ arm refl (go.exp c (omega arith) then fixed refl then maybes (groups ((deepened c (omega arith) then at-depth (deeper c) (omega arith))
        then lines c (omega arith) (fixed refl) refl (groups (go.pat then fixed refl then looks (fixed refl then deepened c (omega arith)
        then deepened (deeper c) (omega arith) then at-depth (deeper (deeper c)) (omega arith)
        then go.exp (deeper (deeper c)) (omega arith)) (fixed refl then go.exp c (omega arith)))))))  -- HandleExp
        ▹ arm refl (fixed refl then go.exp c (omega arith))  -- RaiseExp
        ▹ arm refl (fixed refl then go.exp c (omega arith) then fixed refl then deepened c (omega arith) then at-depth (deeper c) (omega arith)
        then go.exp (deeper c) (omega arith) then fixed refl then at-depth c (omega arith) then fixed refl then looks (fixed refl
        then go.exp c (omega arith)) (fixed refl then at-depth (deeper c) (omega arith) then go.exp (deeper c) (omega arith)))  -- IfExp
        ▹ arm refl (fixed refl then go.exp c (omega arith) then fixed refl then go.exp c (omega arith))  -- WhileExp
        ▹ arm refl (fixed refl then go.exp c (omega arith) then fixed refl then maybes (groups ((deepened c (omega arith)
        then at-depth (deeper c) (omega arith)) then lines c (omega arith) (fixed refl) refl (groups (go.pat then fixed refl then looks (fixed refl
        then deepened c (omega arith) then deepened (deeper c) (omega arith) then at-depth (deeper (deeper c)) (omega arith)
        then go.exp (deeper (deeper c)) (omega arith)) (fixed refl then go.exp c (omega arith)))))))  -- CaseExp
        ▹ arm refl (fixed refl then groups (seps (fixed refl) refl (groups (go.pat then fixed refl then looks (fixed refl
        then deepened c (omega arith) then deepened (deeper c) (omega arith) then at-depth (deeper (deeper c)) (omega arith)
        then go.exp (deeper (deeper c)) (omega arith)) (fixed refl then go.exp c (omega arith))))))  -- FnExp
        ▹ no_more

    pub sig-arms : Rows p 16 0 (sig_exps ws c)
    unfolding sig_exps sig_exp bytes
    sig-arms =
        arm refl (fixed refl then deepened c (omega arith) then at-depth (deeper c) (omega arith) then get-decs short go low (deeper c) (omega arith)
        then fixed refl then at-depth c (omega arith) then fixed refl)  -- SigSigExp
        ▹ arm refl (texts short)  -- NameSigExp
        ▹ arm refl (go.sig_exp c (omega arith) then fixed refl then ty-var-seqs short then paths short then fixed refl then go.ty)  -- WhereTypeSigExp
        ▹ arm refl (go.sig_exp c (omega arith) then fixed refl then paths short then fixed refl then paths short)  -- WhereSigExp
        ▹ no_more

    pub str-arms : Rows p 16 0 (str_exps ws c)
    unfolding str_exps str_exp with_extra_blank ascription_tail bytes
    str-arms =
        arm refl (fixed refl then deepened c (omega arith) then at-depth (deeper c) (omega arith)
        then get-decs short go low (with_extra_blank true (deeper c)) (omega arith) then fixed refl then at-depth c (omega arith) then fixed refl)  -- StructStrExp
        ▹ arm refl (paths short)  -- PathStrExp
        ▹ arm refl (go.str_exp c (omega arith) then groups (fixed refl then texts short then fixed refl then go.sig_exp c (omega arith)))  -- AscriptionStrExp
        ▹ arm refl (texts short then fixed refl then lists (λ n. app-arguments short go low c (omega arith) _ _))  -- AppStrExp
        ▹ arm refl (in-ends c (omega arith) _ _ (fixed refl) (get-decs short go low (deeper c) (omega arith)) (go.str_exp (deeper c) (omega arith)))  -- LetStrExp
        ▹ no_more

    pub dec-arms : Rows p 16 0 (decs ws c)
    unfolding decs dec_one val_binds val_bind eq_body get_body_exp get_body_exp_level indented_levels fun_bind fun_bind_case case_head PrefixFunBindCaseHead InfixFunBindCaseHead in_parens infix_head case_pats ty_annotation ty_annotation_there ty_binds ty_bind dat_binds dat_bind with_type ex_bind ex_bind_inner ex_bind_of int_lit names_space local_decs str_bind ascription_tail sig_bind functor_bind functor_args functor_arg bytes
    dec-arms =
        arm refl (fixed refl)  -- HoleDec
        ▹ arm refl (fixed refl then lines c (omega arith) (fixed refl) refl (groups (words-if (fixed refl) then go.pat
        then maybes (groups (fixed refl then looks (fixed refl then deepened c (omega arith) then at-depth (deeper c) (omega arith)
        then go.exp (deeper c) (omega arith)) (fixed refl then go.exp c (omega arith)))))))  -- ValDec
        ▹ arm refl (fixed refl then ty-var-seqs short then lines c (omega arith) (fixed refl) refl (groups (deepened c (omega arith)
        then lines (deeper c) (omega arith) (fixed refl) refl (groups (choices (λ which. (arm refl (words-if (fixed refl) then texts short)
        ▹ arm refl (presents (fixed refl then (go.pat then fixed refl then texts short then fixed refl then go.pat) then fixed refl) (go.pat
        then fixed refl then texts short then fixed refl then go.pat)) ▹ no_more).at which) then each refl (fixed refl then go.pat)
        then maybes (groups (fixed refl then go.ty)) then maybes (groups (fixed refl then looks (fixed refl then deepened c (omega arith)
        then at-depth (deeper c) (omega arith) then go.exp (deeper c) (omega arith)) (fixed refl then go.exp c (omega arith)))))))))  -- FunDec
        ▹ arm refl (texts short then fixed refl then lines c (omega arith) (fixed refl) refl (groups (ty-var-seqs short then texts short
        then maybes (groups (fixed refl then go.ty)))))  -- TyDec
        ▹ arm refl (fixed refl then lines c (omega arith) (fixed refl) refl (groups (ty-var-seqs short then texts short then groups (lists
        (λ n. con-bindings short go low c (omega arith) _)))) then maybes (groups (fixed refl then at-depth c (omega arith) then fixed refl
        then lines c (omega arith) (fixed refl) refl (groups (ty-var-seqs short then texts short then maybes (groups (fixed refl then go.ty)))))))  -- DatDec
        ▹ arm refl (fixed refl then texts short then fixed refl then paths short)  -- DatCopyDec
        ▹ arm refl (fixed refl then lines c (omega arith) (fixed refl) refl (groups (ty-var-seqs short then texts short then groups (lists
        (λ n. con-bindings short go low c (omega arith) _)))) then maybes (groups (fixed refl then at-depth c (omega arith) then fixed refl
        then lines c (omega arith) (fixed refl) refl (groups (ty-var-seqs short then texts short then maybes (groups (fixed refl then go.ty))))))
        then fixed refl then get-decs short go low c (omega arith) then fixed refl)  -- AbstypeDec
        ▹ arm refl (fixed refl then lines c (omega arith) (fixed refl) refl (groups (texts short then maybes (choices (λ which. (arm refl (fixed refl
        then go.ty) ▹ arm refl (fixed refl then go.exp c (omega arith)) ▹ no_more).at which)))))  -- ExDec
        ▹ arm refl (fixed refl then seps (fixed refl) refl (paths short))  -- OpenDec
        ▹ arm refl (fixed refl then maybes (texts short then fixed refl) then seps (fixed refl) refl (texts short))  -- InfixDec
        ▹ arm refl (fixed refl then maybes (texts short then fixed refl) then seps (fixed refl) refl (texts short))  -- InfixrDec
        ▹ arm refl (fixed refl then seps (fixed refl) refl (texts short))  -- NonfixDec
        ▹ arm refl (fixed refl then go.exp c (omega arith))  -- DoDec
        ▹ arm refl (in-ends c (omega arith) _ _ (fixed refl) (maybes (groups (get-decs short go low (deeper c) (omega arith)))) (maybes (groups (get-decs short go low (deeper c) (omega arith)))))  -- LocalDec
        ▹ arm refl (fixed refl then lines c (omega arith) (fixed refl) refl (groups (texts short then maybes (groups (fixed refl then texts short
        then fixed refl then go.sig_exp c (omega arith))) then maybes (groups (fixed refl then go.str_exp c (omega arith))))))  -- StructureDec
        ▹ arm refl (fixed refl then lines c (omega arith) (fixed refl) refl (groups (texts short then fixed refl then go.sig_exp c (omega arith))))  -- SignatureDec
        ▹ arm refl (fixed refl then lines c (omega arith) (fixed refl) refl (groups (texts short then fixed refl then each refl (choices
        (λ which. (arm refl (texts short then fixed refl then go.sig_exp c (omega arith)) ▹ arm refl (dec-args short go low c (omega arith))
        ▹ no_more).at which)) then fixed refl then maybes (groups (fixed refl then texts short then fixed refl then go.sig_exp c (omega arith)))
        then fixed refl then go.str_exp c (omega arith))))  -- FunctorDec
        ▹ arm refl (go.exp c (omega arith))  -- ExpDec
        ▹ arm refl (fixed refl then seps (fixed refl) refl (go.sig_exp c (omega arith)))  -- IncludeDec
        ▹ arm refl imports  -- EsImportDec
        ▹ no_more
