-- The table by which the code reads the fields of a node: a row of codes for each form, each alternative of a choice, each group.
use Rattle.std.specs.Prelude.{ℕ, zero, suc, ◌-◌, ◌/◌, ◌%◌, List, [], ◌∷◌, ◌++◌, map, true, false, length, get_or, eqb, ltb}
use Rattle.reader.specs.Fields.{Family, Fields, ◌▸◌, token, list, group, choice, form, DecOne, StrExp, SigExp, Exp, Pat, Ty, forms}
use Rattle.reader.specs.Fields.{Path, TyVarSeq, TyRow, TySeq, TyBind, WithType, ConBind, DatBind, PatRow, PatArg, ExpRow, ExpArg, ExpInSeq, Arm, Matcher, ValBind, FunBindCase, FunBind, ExBind, SigBind, StrBind, PathEq, SharingTail, DecInSeq, DecWithTail, Dec, FunctorBind}
use Rattle.reader.specs.Fields.{PatRowInner, FunBindCaseHead, ExBindInner, FunctorArg, AppStrExpArg}

-- Groups, by code from 1.
unfoldable pub groups : List Fields
groups =
    (group token) ∷ (group (form Ty)) ∷ (group (form Pat)) ∷ (group (form Exp)) ∷ (group (form StrExp)) ∷
    Path ∷ TyVarSeq ∷ TyRow ∷ TySeq ∷ TyBind ∷ WithType ∷ ConBind ∷ (group (list ConBind)) ∷ DatBind ∷
    PatRow ∷ (group (list PatArg)) ∷ ExpRow ∷ (group (list ExpArg)) ∷ ExpInSeq ∷ Arm ∷ Matcher ∷ ValBind ∷
    FunBindCase ∷ FunBind ∷ ExBind ∷ SigBind ∷ StrBind ∷ PathEq ∷ SharingTail ∷ DecInSeq ∷ DecWithTail ∷
    Dec ∷ (group (list Dec)) ∷ FunctorBind ∷ []

-- Nodes, by code from 0.
unfoldable pub nodes : List Fields
nodes =
    token ∷ groups
    ++ form DecOne ∷ form StrExp ∷ form SigExp ∷ form Exp ∷ form Pat ∷ form Ty
    ∷ PatRowInner ∷ FunBindCaseHead ∷ ExBindInner ∷ FunctorArg ∷ AppStrExpArg ∷ []

-- The node of a code below 128; what is left over is a token.
unfoldable pub node : ℕ → Fields
node code = get_or nodes code token

-- The field of a code: from 128 on a list.
unfoldable pub field_of : ℕ → Fields
field_of code = elim (ltb code 128) [ true ↦ node code | false ↦ list (node (code - 128)) ]

-- The fields of a number: its codes are its digits at base 256, at most n, the first lowest.
unfoldable pub digits : ℕ → ℕ → Fields
digits zero codes = Fields.none
digits (suc n) codes =
    elim (eqb codes 0) [
      | true ↦ Fields.none
      | false ↦ elim (eqb (codes / 256) 0)
          [ true ↦ field_of (codes % 256) | false ↦ field_of (codes % 256) ▸ digits n (codes / 256) ]
    ]

abbrev pub fields_of : ℕ → Fields
fields_of codes = digits 4 codes

-- The fields inside a group.
unfoldable pub inside : Fields → Fields
inside Fields.none = Fields.none
inside (f ▸ g) = Fields.none
inside token = Fields.none
inside (list f) = Fields.none
inside (group f) = f
inside (choice n f) = Fields.none
inside (form family) = Fields.none

-- The first n of a sequence.
unfoldable pub up_to : ℕ → (ℕ → Fields) → List Fields
up_to zero f = []
up_to (suc n) f = up_to n f ++ f n ∷ []

-- The fields of each node that a choice can hold.
unfoldable pub held : Fields → List Fields
held Fields.none = []
held (f ▸ g) = []
held token = []
held (list f) = []
held (group f) = []
held (choice n f) = up_to n f
held (form family) = []

-- What each row stands for.
unfoldable pub rows : List Fields
rows =
    forms DecOne ++ forms StrExp ++ forms SigExp ++ forms Exp ++ forms Pat ++ forms Ty
    ++ held PatRowInner ++ held FunBindCaseHead ++ held ExBindInner ++ held FunctorArg ++ held AppStrExpArg
    ++ map inside groups

-- The row of a family's first form.
unfoldable pub first_row : Family → ℕ
first_row DecOne = 0
first_row StrExp = length (forms DecOne)
first_row SigExp = length (forms DecOne ++ forms StrExp)
first_row Exp = length (forms DecOne ++ forms StrExp ++ forms SigExp)
first_row Pat = length (forms DecOne ++ forms StrExp ++ forms SigExp ++ forms Exp)
first_row Ty = length (forms DecOne ++ forms StrExp ++ forms SigExp ++ forms Exp ++ forms Pat)
