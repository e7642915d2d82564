-- The forms of the six families, by 000's names, in the order of the match arms in 000.
use Rattle.std.specs.Prelude.{ℕ, List, [], ◌∷◌}

-- Declarations.
pub data DecForm : Type 0 where
  HoleDec ValDec FunDec TyDec DatDec DatCopyDec AbstypeDec ExDec OpenDec InfixDec InfixrDec NonfixDec DoDec LocalDec : DecForm
  StructureDec SignatureDec FunctorDec ExpDec IncludeDec EsImportDec : DecForm

abbrev pub dec_forms : List DecForm
dec_forms =
    HoleDec ∷ ValDec ∷ FunDec ∷ TyDec ∷ DatDec ∷ DatCopyDec
    ∷ AbstypeDec ∷ ExDec ∷ OpenDec ∷ InfixDec ∷ InfixrDec ∷ NonfixDec
    ∷ DoDec ∷ LocalDec ∷ StructureDec ∷ SignatureDec ∷ FunctorDec ∷ ExpDec
    ∷ IncludeDec ∷ EsImportDec
    ∷ []

-- Structure expressions.
pub data StrExpForm : Type 0 where
  StructStrExp PathStrExp AscriptionStrExp AppStrExp LetStrExp : StrExpForm

abbrev pub str_exp_forms : List StrExpForm
str_exp_forms =
    StructStrExp ∷ PathStrExp ∷ AscriptionStrExp ∷ AppStrExp ∷ LetStrExp
    ∷ []

-- Signature expressions.
pub data SigExpForm : Type 0 where
  SigSigExp NameSigExp WhereTypeSigExp WhereSigExp : SigExpForm

abbrev pub sig_exp_forms : List SigExpForm
sig_exp_forms =
    SigSigExp ∷ NameSigExp ∷ WhereTypeSigExp ∷ WhereSigExp
    ∷ []

-- Expressions.
pub data ExpForm : Type 0 where
  HoleExp WildcardExp OpAndalsoExp OpOrelseExp SConExp PathExp RecordExp SelectorExp ParenExp TupleExp ListExp : ExpForm
  VectorExp SeqExp LetExp AppExp InfixExp TypedExp AndalsoExp OrelseExp HandleExp RaiseExp IfExp WhileExp CaseExp : ExpForm
  FnExp : ExpForm

abbrev pub exp_forms : List ExpForm
exp_forms =
    HoleExp ∷ WildcardExp ∷ OpAndalsoExp ∷ OpOrelseExp ∷ SConExp ∷ PathExp
    ∷ RecordExp ∷ SelectorExp ∷ ParenExp ∷ TupleExp ∷ ListExp ∷ VectorExp
    ∷ SeqExp ∷ LetExp ∷ AppExp ∷ InfixExp ∷ TypedExp ∷ AndalsoExp
    ∷ OrelseExp ∷ HandleExp ∷ RaiseExp ∷ IfExp ∷ WhileExp ∷ CaseExp
    ∷ FnExp
    ∷ []

-- Patterns.
pub data PatForm : Type 0 where
  WildcardPat SConPat ConPat RecordPat ParenPat TuplePat ListPat VectorPat InfixPat TypedPat AsPat OrPat : PatForm

abbrev pub pat_forms : List PatForm
pat_forms =
    WildcardPat ∷ SConPat ∷ ConPat ∷ RecordPat ∷ ParenPat ∷ TuplePat
    ∷ ListPat ∷ VectorPat ∷ InfixPat ∷ TypedPat ∷ AsPat ∷ OrPat
    ∷ []

-- Types.
pub data TyForm : Type 0 where
  HoleTy WildcardTy TyVarTy RecordTy ConTy OneArgConTy TupleTy FnTy ParenTy : TyForm

abbrev pub ty_forms : List TyForm
ty_forms =
    HoleTy ∷ WildcardTy ∷ TyVarTy ∷ RecordTy ∷ ConTy ∷ OneArgConTy
    ∷ TupleTy ∷ FnTy ∷ ParenTy
    ∷ []

-- The number of each, from 0. proofs/Forms says that the numbers are the places in the list above.
unfoldable pub dec_number : DecForm → ℕ
dec_number HoleDec = 0
dec_number ValDec = 1
dec_number FunDec = 2
dec_number TyDec = 3
dec_number DatDec = 4
dec_number DatCopyDec = 5
dec_number AbstypeDec = 6
dec_number ExDec = 7
dec_number OpenDec = 8
dec_number InfixDec = 9
dec_number InfixrDec = 10
dec_number NonfixDec = 11
dec_number DoDec = 12
dec_number LocalDec = 13
dec_number StructureDec = 14
dec_number SignatureDec = 15
dec_number FunctorDec = 16
dec_number ExpDec = 17
dec_number IncludeDec = 18
dec_number EsImportDec = 19

-- The number of each, from 0. proofs/Forms says that the numbers are the places in the list above.
unfoldable pub exp_number : ExpForm → ℕ
exp_number HoleExp = 0
exp_number WildcardExp = 1
exp_number OpAndalsoExp = 2
exp_number OpOrelseExp = 3
exp_number SConExp = 4
exp_number PathExp = 5
exp_number RecordExp = 6
exp_number SelectorExp = 7
exp_number ParenExp = 8
exp_number TupleExp = 9
exp_number ListExp = 10
exp_number VectorExp = 11
exp_number SeqExp = 12
exp_number LetExp = 13
exp_number AppExp = 14
exp_number InfixExp = 15
exp_number TypedExp = 16
exp_number AndalsoExp = 17
exp_number OrelseExp = 18
exp_number HandleExp = 19
exp_number RaiseExp = 20
exp_number IfExp = 21
exp_number WhileExp = 22
exp_number CaseExp = 23
exp_number FnExp = 24
