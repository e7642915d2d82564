-- Each arm of the walk keeps step with the check of its fields.
-- Written by `python3 tools/credits.py` from the layouts in crates/layout/specs.
use mathlib.Core.Path.{◌≡◌, refl, sym}
use mathlib.Core.Bool.{true}
use Prim.Native.Nat.{ℕ, ◌≤◌}
use Rattle.reader.specs.Fields.{DecOne, StrExp, SigExp, Exp, Pat, Ty, forms}
use Rattle.layout.specs.Meaning.{Page}
use Rattle.layout.specs.Helpers.{Cfg, Walkers}
use Rattle.agreement.proofs.Layouts.{Pairs, before, behind, both, regrouped, pick, ◌▹◌, no_more}
use Rattle.agreement.proofs.Helpers.{Walks}
use Rattle.reader.specs.Forms.{EsImportDec, dec_number}
use Rattle.layout.specs.Helpers.{with_extra_blank, deeper, indent_deeper, in_end, in_parens}
use Rattle.layout.specs.Ty.{ty_row, ty_rows, ty_args, ty_seq_there, ty_seq, star_ty, star_tys, ty, tys, ty_annotation_there, ty_annotation}
use Rattle.layout.specs.Pat.{con_arg_there, con_arg, RestPatRow, LabAndPatPatRow, as_tail_there, as_tail, LabPatRow, pat_row_inner, pat_row, pat_rows, pat_args, pat, pats}
use Rattle.layout.specs.Exp.{app_space, pipe, indented_levels, get_body_exp_level, get_body_exp, eq_body, get_matcher_arm, arms_on_lines, get_matcher_across_lines, exp_args, eq_exp, exp_row, exp_rows, if_no, fn_arms, exp, exps}
use Rattle.layout.specs.SigExp.{ascription_tail, sig_exp, sig_exps}
use Rattle.layout.specs.StrExp.{str_exp, str_exps}
use Rattle.layout.specs.DecOne.{ty_bind, ty_binds, with_type, dat_bind, dat_binds, val_bind, val_binds, PrefixFunBindCaseHead, infix_head, InfixFunBindCaseHead, case_head, case_pats, fun_bind_case, fun_bind, ex_bind_of, ex_bind_inner, ex_bind, int_lit, names_space, local_decs, str_bind, sig_bind, functor_arg, functor_args, functor_bind, dec_one, decs}
use Rattle.agreement.proofs.Layouts.{fixed, texts, groups, choices, lists, maybes, presents, operators, whens, each, seps, lines}
use Rattle.agreement.proofs.Looks.{applications, looks}
use Rattle.agreement.proofs.Helpers.{deepened, at-depth, paths, op-paths, ty-var-seqs, words-if, get-decs, dec-args, semi-seqs, con-bindings, app-arguments}

-- For the arm of the number n.
module _ {p : Page} {d : ℕ} (low : d ≤ 200) {ws : Walkers} (go : Walks p d ws) (n : ℕ) where
  pub ty-pairs : Pairs p d n 0 (forms Ty) (tys ws)
  unfolding tys ty ty_rows ty_row ty_seq ty_seq_there ty_args star_tys star_ty forms dec_number
  ty-pairs =
      (λ h. fixed)  -- HoleTy
      ▹ (λ h. fixed)  -- WildcardTy
      ▹ (λ h. texts)  -- TyVarTy
      ▹ (λ h. before fixed (behind (seps (groups (both texts (before fixed go.ty))) _) fixed))  -- RecordTy
      ▹ (λ h. both (maybes refl (groups (before fixed (behind (seps (groups go.ty) _) fixed)))) paths)  -- ConTy
      ▹ (λ h. both go.ty (before fixed paths))  -- OneArgConTy
      ▹ (λ h. both go.dropped-ty (each (groups (before fixed go.ty))))  -- TupleTy
      ▹ (λ h. both go.ty (before fixed go.ty))  -- FnTy
      ▹ (λ h. before fixed (behind go.ty fixed))  -- ParenTy
      ▹ no_more

  pub pat-pairs : Pairs p d n 0 (forms Pat) (pats ws)
  unfolding pats pat con_arg con_arg_there pat_rows pat_row pat_row_inner RestPatRow LabAndPatPatRow LabPatRow ty_annotation ty_annotation_there as_tail as_tail_there pat_args forms dec_number
  pat-pairs =
      (λ h. fixed)  -- WildcardPat
      ▹ (λ h. texts)  -- SConPat
      ▹ (λ h. regrouped (both op-paths (maybes refl (before fixed go.pat))))  -- ConPat
      ▹ (λ h. before fixed (behind (seps (groups (choices (λ which. pick which ((λ h. fixed) ▹ (λ h. both texts (before fixed go.pat)) ▹
      (λ h. both texts (both (maybes refl (groups (before fixed go.ty))) (maybes refl (groups (before fixed go.pat))))) ▹ no_more)))) _) fixed))  -- RecordPat
      ▹ (λ h. before fixed (behind go.pat fixed))  -- ParenPat
      ▹ (λ h. before fixed (behind (seps (groups go.pat) _) fixed))  -- TuplePat
      ▹ (λ h. before fixed (behind (seps (groups go.pat) _) fixed))  -- ListPat
      ▹ (λ h. before fixed (behind (groups (seps (groups go.pat) _)) fixed))  -- VectorPat
      ▹ (λ h. both go.pat (before fixed (both texts (before fixed go.pat))))  -- InfixPat
      ▹ (λ h. both go.pat (before fixed go.ty))  -- TypedPat
      ▹ (λ h. both go.pat (before fixed (groups go.pat)))  -- AsPat
      ▹ (λ h. both go.pat (before fixed go.pat))  -- OrPat
      ▹ no_more

  module _ (c : Cfg) where
    pub exp-pairs : Pairs p d n 0 (forms Exp) (exps ws c)
    unfolding exps exp exp_rows exp_row eq_exp exp_args in_end app_space pipe indent_deeper get_matcher_across_lines arms_on_lines get_matcher_arm get_body_exp_level indented_levels if_no fn_arms forms dec_number
    exp-pairs =
        (λ h. fixed)  -- HoleExp
        ▹ (λ h. fixed)  -- WildcardExp
        ▹ (λ h. fixed)  -- OpAndalsoExp
        ▹ (λ h. fixed)  -- OpOrelseExp
        ▹ (λ h. texts)  -- SConExp
        ▹ (λ h. op-paths)  -- PathExp
        ▹ (λ h. before fixed (behind (seps (groups (both texts (maybes refl (groups (before fixed (go.exp c)))))) _) fixed))  -- RecordExp
        ▹ (λ h. before fixed texts)  -- SelectorExp
        ▹ (λ h. before fixed (behind (go.exp c) fixed))  -- ParenExp
        ▹ (λ h. before fixed (behind (seps (groups (go.exp c)) _) fixed))  -- TupleExp
        ▹ (λ h. before fixed (behind (seps (groups (go.exp c)) _) fixed))  -- ListExp
        ▹ (λ h. before fixed (behind (groups (seps (groups (go.exp c)) _)) fixed))  -- VectorExp
        ▹
        (λ h. before fixed (before (deepened c) (before (at-depth (deeper c)) (behind (semi-seqs go (deeper c) _) (before fixed (before (at-depth c) fixed))))))  -- SeqExp
        ▹
        (λ h. before fixed (before fixed (before (deepened c) (before (at-depth (deeper c)) (both (get-decs go (deeper c)) (before fixed (before (at-depth c) (before fixed (before (at-depth (deeper c)) (behind (semi-seqs go (deeper c) _) (before fixed (before (at-depth c) fixed))))))))))))  -- LetExp
        ▹ (λ h. applications low (λ bang symbolic. both (go.exp c) (before (whens fixed _) (go.exp c))))  -- AppExp
        ▹ (λ h. regrouped (both (operators (go.exp c) (before fixed (before (before (deepened c) (at-depth (deeper c))) fixed)) fixed) (go.exp c)))  -- InfixExp
        ▹ (λ h. both (go.exp c) (before fixed go.ty))  -- TypedExp
        ▹ (λ h. both (go.exp c) (before fixed (go.exp c)))  -- AndalsoExp
        ▹ (λ h. both (go.exp c) (before fixed (go.exp c)))  -- OrelseExp
        ▹
        (λ h. both (go.exp c) (before fixed (maybes refl (groups (before (before (deepened c) (at-depth (deeper c))) (lines (groups (both go.pat (before fixed (looks (before fixed (before (deepened c) (before (deepened (deeper c)) (before (at-depth (deeper (deeper c))) (go.exp (deeper (deeper c))))))) (before fixed (go.exp c)))))) c _))))))  -- HandleExp
        ▹ (λ h. before fixed (go.exp c))  -- RaiseExp
        ▹
        (λ h. before fixed (both (go.exp c) (before fixed (before (deepened c) (before (at-depth (deeper c)) (both (go.exp (deeper c)) (before fixed (before (at-depth c) (before fixed (looks (before fixed (go.exp c)) (before fixed (before (at-depth (deeper c)) (go.exp (deeper c))))))))))))))  -- IfExp
        ▹ (λ h. before fixed (both (go.exp c) (before fixed (go.exp c))))  -- WhileExp
        ▹
        (λ h. before fixed (both (go.exp c) (before fixed (maybes refl (groups (before (before (deepened c) (at-depth (deeper c))) (lines (groups (both go.pat (before fixed (looks (before fixed (before (deepened c) (before (deepened (deeper c)) (before (at-depth (deeper (deeper c))) (go.exp (deeper (deeper c))))))) (before fixed (go.exp c)))))) c _)))))))  -- CaseExp
        ▹
        (λ h. before fixed (groups (seps (groups (both go.pat (before fixed (looks (before fixed (before (deepened c) (before (deepened (deeper c)) (before (at-depth (deeper (deeper c))) (go.exp (deeper (deeper c))))))) (before fixed (go.exp c)))))) _)))  -- FnExp
        ▹ no_more

    pub sig-pairs : Pairs p d n 0 (forms SigExp) (sig_exps ws c)
    unfolding sig_exps sig_exp forms dec_number
    sig-pairs =
        (λ h. before fixed (before (deepened c) (before (at-depth (deeper c)) (behind (get-decs go (deeper c)) (before fixed (before (at-depth c) fixed))))))  -- SigSigExp
        ▹ (λ h. texts)  -- NameSigExp
        ▹ (λ h. both (go.sig_exp c) (before fixed (both ty-var-seqs (both paths (before fixed go.ty)))))  -- WhereTypeSigExp
        ▹ (λ h. both (go.sig_exp c) (before fixed (both paths (before fixed paths))))  -- WhereSigExp
        ▹ no_more

    pub str-pairs : Pairs p d n 0 (forms StrExp) (str_exps ws c)
    unfolding str_exps str_exp with_extra_blank ascription_tail in_end forms dec_number
    str-pairs =
        (λ h. before fixed (before (deepened c) (before (at-depth (deeper c)) (behind (get-decs go (with_extra_blank true (deeper c))) (before fixed (before (at-depth c) fixed))))))  -- StructStrExp
        ▹ (λ h. paths)  -- PathStrExp
        ▹ (λ h. both (go.str_exp c) (groups (before fixed (both texts (before fixed (go.sig_exp c))))))  -- AscriptionStrExp
        ▹ (λ h. both texts (before fixed (lists (λ n. app-arguments go c _ _))))  -- AppStrExp
        ▹
        (λ h. before fixed (before fixed (before (deepened c) (before (at-depth (deeper c)) (both (get-decs go (deeper c)) (before fixed (before (at-depth c) (before fixed (before (at-depth (deeper c)) (behind (go.str_exp (deeper c)) (before fixed (before (at-depth c) fixed))))))))))))  -- LetStrExp
        ▹ no_more

    -- But for an import.
    pub dec-pairs : (n ≡ dec_number EsImportDec → ⊥) → Pairs p d n 0 (forms DecOne) (decs ws c)
    unfolding decs dec_one val_binds val_bind eq_body get_body_exp get_body_exp_level indented_levels fun_bind fun_bind_case case_head PrefixFunBindCaseHead InfixFunBindCaseHead in_parens infix_head case_pats ty_annotation ty_annotation_there ty_binds ty_bind dat_binds dat_bind with_type ex_bind ex_bind_inner ex_bind_of int_lit names_space in_end local_decs str_bind ascription_tail sig_bind functor_bind functor_args functor_arg forms dec_number
    dec-pairs other =
        (λ h. fixed)  -- HoleDec
        ▹
        (λ h. before fixed (lines (groups (both (words-if _) (both go.pat (maybes refl (groups (before fixed (looks (before fixed (before (deepened c) (before (at-depth (deeper c)) (go.exp (deeper c))))) (before fixed (go.exp c))))))))) c _))  -- ValDec
        ▹ (λ h. before fixed (both ty-var-seqs (lines (groups (before (deepened c) (lines (groups (both (choices
        (λ which. pick which ((λ h. both (words-if _) texts) ▹
        (λ h. presents (before fixed (behind (both go.pat (before fixed (both texts (before fixed go.pat)))) fixed)) (both go.pat (before fixed (both texts (before fixed go.pat)))))
        ▹ no_more))) (both (each (before fixed go.pat)) (both (maybes refl (groups (before fixed go.ty))) (maybes refl (groups (before fixed (looks (before fixed (before (deepened c) (before (at-depth (deeper c)) (go.exp (deeper c))))) (before fixed (go.exp c)))))))))) (deeper c) _))) c _)))  -- FunDec
        ▹ (λ h. both texts (before fixed (lines (groups (both ty-var-seqs (both texts (maybes refl (groups (before fixed go.ty)))))) c _)))  -- TyDec
        ▹ (λ h. before fixed (both (lines (groups (both ty-var-seqs (both texts (groups (lists
        (λ n. con-bindings go c _)))))) c _) (maybes refl (groups (before fixed (before (at-depth c) (before fixed (lines (groups (both ty-var-seqs (both texts (maybes refl (groups (before fixed go.ty)))))) c _))))))))  -- DatDec
        ▹ (λ h. before fixed (both texts (before fixed paths)))  -- DatCopyDec
        ▹ (λ h. before fixed (both (lines (groups (both ty-var-seqs (both texts (groups (lists
        (λ n. con-bindings go c _)))))) c _) (both (maybes refl (groups (before fixed (before (at-depth c) (before fixed (lines (groups (both ty-var-seqs (both texts (maybes refl (groups (before fixed go.ty)))))) c _)))))) (before fixed (behind (get-decs go c) fixed)))))  -- AbstypeDec
        ▹ (λ h. before fixed (lines (groups (both texts (maybes refl (choices (λ which. pick which ((λ h. before fixed go.ty) ▹
        (λ h. before fixed (go.exp c)) ▹ no_more)))))) c _))  -- ExDec
        ▹ (λ h. before fixed (seps paths _))  -- OpenDec
        ▹ (λ h. before fixed (both (maybes refl (behind texts fixed)) (seps texts _)))  -- InfixDec
        ▹ (λ h. before fixed (both (maybes refl (behind texts fixed)) (seps texts _)))  -- InfixrDec
        ▹ (λ h. before fixed (seps texts _))  -- NonfixDec
        ▹ (λ h. before fixed (go.exp c))  -- DoDec
        ▹
        (λ h. before fixed (before fixed (before (deepened c) (before (at-depth (deeper c)) (both (maybes refl (groups (get-decs go (deeper c)))) (before fixed (before (at-depth c) (before fixed (before (at-depth (deeper c)) (behind (maybes refl (groups (get-decs go (deeper c)))) (before fixed (before (at-depth c) fixed))))))))))))  -- LocalDec
        ▹
        (λ h. before fixed (lines (groups (both texts (both (maybes refl (groups (before fixed (both texts (before fixed (go.sig_exp c)))))) (maybes refl (groups (before fixed (go.str_exp c))))))) c _))  -- StructureDec
        ▹ (λ h. before fixed (lines (groups (both texts (before fixed (go.sig_exp c)))) c _))  -- SignatureDec
        ▹ (λ h. before fixed (lines (groups (both texts (before fixed (both (each (choices
        (λ which. pick which ((λ h. both texts (before fixed (go.sig_exp c))) ▹ (λ h. dec-args go c)
        ▹ no_more)))) (before fixed (both (maybes refl (groups (before fixed (both texts (before fixed (go.sig_exp c)))))) (before fixed (go.str_exp c)))))))) c _))  -- FunctorDec
        ▹ (λ h. go.exp c)  -- ExpDec
        ▹ (λ h. before fixed (seps (go.sig_exp c) _))  -- IncludeDec
        ▹ (λ h. absurd (other (sym h)))  -- EsImportDec
        ▹ no_more
