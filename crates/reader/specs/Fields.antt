-- The fields of every form, group and choice: the accessors that the arm or helper of 000 calls, in the order first named there, each once.
-- A definition here has the name of the type in 000, and the comment beside a field the accessor's.
use Rattle.std.specs.Prelude.{ℕ, List, [], ◌∷◌, map, length, get_or}
use Rattle.reader.specs.Forms.{DecForm, dec_forms, HoleDec, ValDec, FunDec, TyDec, DatDec, DatCopyDec, AbstypeDec, ExDec, OpenDec, InfixDec, InfixrDec, NonfixDec, DoDec, LocalDec, StructureDec, SignatureDec, FunctorDec, ExpDec, IncludeDec, EsImportDec}
use Rattle.reader.specs.Forms.{StrExpForm, str_exp_forms, StructStrExp, PathStrExp, AscriptionStrExp, AppStrExp, LetStrExp}
use Rattle.reader.specs.Forms.{SigExpForm, sig_exp_forms, SigSigExp, NameSigExp, WhereTypeSigExp, WhereSigExp}
use Rattle.reader.specs.Forms.{ExpForm, exp_forms, HoleExp, WildcardExp, OpAndalsoExp, OpOrelseExp, SConExp, PathExp, RecordExp, SelectorExp, ParenExp, TupleExp, ListExp, VectorExp, SeqExp, LetExp, AppExp, InfixExp, TypedExp, AndalsoExp, OrelseExp, HandleExp, RaiseExp, IfExp, WhileExp, CaseExp, FnExp}
use Rattle.reader.specs.Forms.{PatForm, pat_forms, WildcardPat, SConPat, ConPat, RecordPat, ParenPat, TuplePat, ListPat, VectorPat, InfixPat, TypedPat, AsPat, OrPat}
use Rattle.reader.specs.Forms.{TyForm, ty_forms, HoleTy, WildcardTy, TyVarTy, RecordTy, ConTy, OneArgConTy, TupleTy, FnTy, ParenTy}

-- Enums of 000 with a match of many arms: their cases are forms.
pub data Family : Type 0 where
  DecOne StrExp SigExp Exp Pat Ty : Family

infixr 30 ◌▸◌
-- Fields in order. A field other than a list may be absent, an item of a list never.
pub data Fields : Type 0 where
  none : Fields
  ◌▸◌ : Fields → Fields → Fields
  token : Fields
  list : Fields → Fields
  group : Fields → Fields
  choice : ℕ → (ℕ → Fields) → Fields
  form : Family → Fields

-- A choice between nodes, numbered from 0; the fields of each.
abbrev one_of : List Fields → Fields
one_of fs = choice (length fs) (λ which. get_or fs which none)

-- ---- groups and choices, those without declarations and structures first
abbrev pub Path : Fields
Path = group (list (group token))  -- name_star_eq_dots: name_star_eq

abbrev pub TyVarSeq : Fields
TyVarSeq = group (token  -- l_round
    ▸ list (group token))  -- ty_var_args: ty_var

abbrev pub TyAnnotation : Fields
TyAnnotation = group (form Ty)

abbrev pub OfTy : Fields
OfTy = group (form Ty)

abbrev pub TyRow : Fields
TyRow = group (token ▸ form Ty)  -- lab, ty

abbrev pub TySeq : Fields
TySeq = group (list (group (form Ty)))  -- ty_args: ty

abbrev pub StarTy : Fields
StarTy = group (form Ty)

abbrev pub TyBind : Fields
TyBind = group (TyVarSeq ▸ token ▸ group (form Ty))  -- ty_var_seq, name, eq_ty

abbrev pub WithType : Fields
WithType = group (list TyBind)

abbrev pub ConBind : Fields
ConBind = group (token ▸ OfTy)  -- name_star_eq, of_ty

abbrev pub DatBind : Fields
DatBind = group (TyVarSeq ▸ token  -- ty_var_seq, name
    ▸ group (list ConBind))  -- eq_con_binds: con_binds

abbrev pub AsPatTail : Fields
AsPatTail = group (form Pat)

abbrev pub PatRowInner : Fields
PatRowInner = one_of
    (none  -- RestPatRow
    ∷ (token ▸ form Pat)  -- LabAndPatPatRow: lab, pat
    ∷ (token ▸ TyAnnotation ▸ AsPatTail)  -- LabPatRow: name_star_eq, ty_annotation, as_pat_tail
    ∷ [])

abbrev pub PatRow : Fields
PatRow = group PatRowInner

abbrev pub PatArg : Fields
PatArg = group (form Pat)

abbrev pub EqExp : Fields
EqExp = group (form Exp)

abbrev pub ExpRow : Fields
ExpRow = group (token ▸ EqExp)  -- lab, eq_exp

abbrev pub ExpArg : Fields
ExpArg = group (form Exp)

abbrev pub ExpInSeq : Fields
ExpInSeq = group (form Exp ▸ token)  -- exp, semicolon

abbrev pub Arm : Fields
Arm = group (form Pat ▸ form Exp)  -- pat, exp

abbrev pub Matcher : Fields
Matcher = group (list Arm)

abbrev pub ValBind : Fields
ValBind = group (token ▸ form Pat ▸ EqExp)  -- rec_kw, pat, eq_exp

abbrev pub FunBindCaseHead : Fields
FunBindCaseHead = one_of
    ((token ▸ token)  -- PrefixFunBindCaseHead: op_kw, name_star_eq
    ∷ (token ▸ form Pat ▸ token ▸ form Pat)  -- InfixFunBindCaseHead: l_round, lhs, name_star_eq, rhs
    ∷ [])

abbrev pub FunBindCase : Fields
FunBindCase = group (FunBindCaseHead  -- fun_bind_case_head
    ▸ list (form Pat) ▸ TyAnnotation ▸ EqExp)  -- pats, ty_annotation, eq_exp

abbrev pub FunBind : Fields
FunBind = group (list FunBindCase)

abbrev pub ExBindInner : Fields
ExBindInner = one_of
    (form Ty  -- OfTy: ty
    ∷ form Exp  -- EqExp: exp
    ∷ [])

abbrev pub ExBind : Fields
ExBind = group (token ▸ ExBindInner)  -- name_star_eq, ex_bind_inner

abbrev pub AscriptionTail : Fields
AscriptionTail = group (token ▸ form SigExp)  -- ascription, sig_exp

abbrev pub StrBind : Fields
StrBind = group (token ▸ AscriptionTail  -- name, ascription_tail
    ▸ group (form StrExp))  -- eq_str_exp: str_exp

abbrev pub SigBind : Fields
SigBind = group (token ▸ form SigExp)  -- name, sig_exp

-- ---- declarations in sequence
abbrev pub PathEq : Fields
PathEq = group Path

abbrev pub SharingTail : Fields
SharingTail = group (list PathEq)

abbrev pub DecInSeq : Fields
DecInSeq = group (form DecOne ▸ token)  -- dec_one, semicolon

abbrev pub DecWithTail : Fields
DecWithTail = group (list DecInSeq ▸ list SharingTail)

-- The fields of a Dec, in a group or in a choice.
abbrev pub DecFields : Fields
DecFields = DecWithTail ▸ token  -- dec_with_tail, semicolon

abbrev pub Dec : Fields
Dec = group DecFields

abbrev pub FunctorArg : Fields
FunctorArg = one_of
    ((token ▸ form SigExp)  -- FunctorArgNameSigExp: name, sig_exp
    ∷ DecFields
    ∷ [])

abbrev pub FunctorBind : Fields
FunctorBind = group (token ▸ list FunctorArg  -- functor_name, functor_args
    ▸ AscriptionTail ▸ form StrExp)  -- ascription_tail, body

abbrev pub AppStrExpArg : Fields
AppStrExpArg = one_of
    (form StrExp  -- AppStrExpArgStrExp: str_exp
    ∷ DecFields
    ∷ [])

-- ---- the fields of each form
abbrev dec_fields : DecForm → Fields
dec_fields HoleDec = none
dec_fields ValDec = list ValBind  -- val_binds
dec_fields FunDec = TyVarSeq ▸ list FunBind  -- ty_var_seq, fun_binds
dec_fields TyDec = token ▸ list TyBind  -- ty_head, ty_binds
dec_fields DatDec = list DatBind ▸ WithType  -- dat_binds, with_type
dec_fields DatCopyDec = token ▸ Path  -- name, path
dec_fields AbstypeDec = list DatBind ▸ WithType ▸ list Dec  -- dat_binds, with_type, decs
dec_fields ExDec = list ExBind  -- ex_binds
dec_fields OpenDec = list Path  -- paths
dec_fields InfixDec = token ▸ list token  -- int_lit, name_star_eqs
dec_fields InfixrDec = token ▸ list token  -- int_lit, name_star_eqs
dec_fields NonfixDec = list token  -- name_star_eqs
dec_fields DoDec = form Exp  -- exp
dec_fields LocalDec = group (list Dec) ▸ group (list Dec)  -- local_dec_hd, local_dec_tl (decs of each)
dec_fields StructureDec = list StrBind  -- str_binds
dec_fields SignatureDec = list SigBind  -- sig_binds
dec_fields FunctorDec = list FunctorBind  -- functor_binds
dec_fields ExpDec = form Exp  -- exp
dec_fields IncludeDec = list (form SigExp)  -- sig_exps
dec_fields EsImportDec = none

abbrev str_exp_fields : StrExpForm → Fields
str_exp_fields StructStrExp = list Dec  -- decs
str_exp_fields PathStrExp = Path  -- path
str_exp_fields AscriptionStrExp = form StrExp ▸ AscriptionTail  -- str_exp, ascription_tail
str_exp_fields AppStrExp = token ▸ list AppStrExpArg  -- name, app_str_exp_args
str_exp_fields LetStrExp = list Dec ▸ form StrExp  -- decs, str_exp

abbrev sig_exp_fields : SigExpForm → Fields
sig_exp_fields SigSigExp = list Dec  -- decs
sig_exp_fields NameSigExp = token  -- name
sig_exp_fields WhereTypeSigExp = form SigExp ▸ TyVarSeq ▸ Path ▸ form Ty  -- sig_exp, ty_var_seq, path, ty
sig_exp_fields WhereSigExp = form SigExp ▸ Path ▸ Path  -- sig_exp, lhs, rhs

abbrev exp_fields : ExpForm → Fields
exp_fields HoleExp = none
exp_fields WildcardExp = none
exp_fields OpAndalsoExp = none
exp_fields OpOrelseExp = none
exp_fields SConExp = token  -- s_con
exp_fields PathExp = token ▸ Path  -- op_kw, path
exp_fields RecordExp = list ExpRow  -- exp_rows
exp_fields SelectorExp = token  -- lab
exp_fields ParenExp = form Exp  -- exp
exp_fields TupleExp = list ExpArg  -- exp_args
exp_fields ListExp = list ExpArg  -- exp_args
exp_fields VectorExp = group (list ExpArg)  -- list_exp (exp_args)
exp_fields SeqExp = list ExpInSeq  -- exps_in_seq
exp_fields LetExp = list Dec ▸ list ExpInSeq  -- decs, exps_in_seq
exp_fields AppExp = form Exp ▸ form Exp  -- func, arg
exp_fields InfixExp = token ▸ form Exp ▸ form Exp  -- name_star_eq, lhs, rhs
exp_fields TypedExp = form Exp ▸ form Ty  -- exp, ty
exp_fields AndalsoExp = form Exp ▸ form Exp  -- lhs, rhs
exp_fields OrelseExp = form Exp ▸ form Exp  -- lhs, rhs
exp_fields HandleExp = form Exp ▸ Matcher  -- exp, matcher
exp_fields RaiseExp = form Exp  -- exp
exp_fields IfExp = form Exp ▸ form Exp ▸ form Exp  -- cond, yes, no
exp_fields WhileExp = form Exp ▸ form Exp  -- cond, body
exp_fields CaseExp = form Exp ▸ Matcher  -- exp, matcher
exp_fields FnExp = Matcher  -- matcher

abbrev pat_fields : PatForm → Fields
pat_fields WildcardPat = none
pat_fields SConPat = token  -- s_con
pat_fields ConPat = token ▸ Path ▸ form Pat  -- op_kw, path, pat
pat_fields RecordPat = list PatRow  -- pat_rows
pat_fields ParenPat = form Pat  -- pat
pat_fields TuplePat = list PatArg  -- pat_args
pat_fields ListPat = list PatArg  -- pat_args
pat_fields VectorPat = group (list PatArg)  -- list_pat (pat_args)
pat_fields InfixPat = form Pat ▸ token ▸ form Pat  -- lhs, name_star_eq, rhs
pat_fields TypedPat = form Pat ▸ form Ty  -- pat, ty
pat_fields AsPat = form Pat ▸ AsPatTail  -- pat, as_pat_tail
pat_fields OrPat = form Pat ▸ form Pat  -- lhs, rhs

abbrev ty_fields : TyForm → Fields
ty_fields HoleTy = none
ty_fields WildcardTy = none
ty_fields TyVarTy = token  -- ty_var
ty_fields RecordTy = list TyRow  -- ty_rows
ty_fields ConTy = TySeq ▸ Path  -- ty_seq, path
ty_fields OneArgConTy = form Ty ▸ Path  -- ty, path
ty_fields TupleTy = form Ty ▸ list StarTy  -- ty, star_tys
ty_fields FnTy = form Ty ▸ form Ty  -- param, res
ty_fields ParenTy = form Ty  -- ty

-- The fields of a family's forms, by number from 0.
unfoldable pub forms : Family → List Fields
forms DecOne = map dec_fields dec_forms
forms StrExp = map str_exp_fields str_exp_forms
forms SigExp = map sig_exp_fields sig_exp_forms
forms Exp = map exp_fields exp_forms
forms Pat = map pat_fields pat_forms
forms Ty = map ty_fields ty_forms

-- The command of a family's first form; the others follow it in order.
unfoldable pub first_form : Family → ℕ
first_form DecOne = 0x10
first_form StrExp = 0x28
first_form SigExp = 0x30
first_form Exp = 0x40
first_form Pat = 0x60
first_form Ty = 0x70
