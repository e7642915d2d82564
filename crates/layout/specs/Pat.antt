-- `get_pat` of 000: a layout for each arm, over the walks one form deeper.
use Rattle.std.specs.Prelude.{ℕ, List, [], ◌∷◌, map, slice_index_or}
use Rattle.reader.specs.Forms.{PatForm, pat_forms, WildcardPat, SConPat, ConPat, RecordPat, ParenPat}
use Rattle.reader.specs.Forms.{TuplePat, ListPat, VectorPat, InfixPat, TypedPat, AsPat, OrPat}
use Rattle.layout.specs.Layout.{Layout, ◌⨾◌, word, text, group, choice, maybe, halt}
use Rattle.layout.specs.Helpers.{Walkers, op_path, sep}
use Rattle.layout.specs.Ty.{ty_annotation}

module _ (ws : Walkers) where
  open ws use {get_ty, get_pat}

  unfoldable pub con_arg_there : Layout
  con_arg_there = word " " ⨾ get_pat

  unfoldable pub con_arg : Layout
  con_arg = maybe con_arg_there

  unfoldable pub RestPatRow : Layout
  RestPatRow = word "..."

  unfoldable pub LabAndPatPatRow : Layout
  LabAndPatPatRow = text ⨾ word " = " ⨾ get_pat

  unfoldable pub as_tail_there : Layout
  as_tail_there = group (word " as " ⨾ get_pat)

  unfoldable pub as_tail : Layout
  as_tail = maybe as_tail_there

  unfoldable pub LabPatRow : Layout
  LabPatRow = text ⨾ ty_annotation ws ⨾ as_tail

  unfoldable pub pat_row_inner : ℕ → Layout
  pat_row_inner which = slice_index_or (RestPatRow ∷ LabAndPatPatRow ∷ LabPatRow ∷ []) which halt

  unfoldable pub pat_row : Layout
  pat_row = group (choice pat_row_inner)

  unfoldable pub pat_rows : Layout
  pat_rows = sep ", " pat_row

  unfoldable pub pat_args : Layout
  pat_args = sep ", " (group get_pat)

  -- The arm of each form.
  unfoldable pub pat : PatForm → Layout
  pat WildcardPat = word "_"
  pat SConPat = text
  pat ConPat = op_path ⨾ con_arg
  pat RecordPat = word "{ " ⨾ pat_rows ⨾ word " }"
  pat ParenPat = word "(" ⨾ get_pat ⨾ word ")"
  pat TuplePat = word "(" ⨾ pat_args ⨾ word ")"
  pat ListPat = word "[" ⨾ pat_args ⨾ word "]"
  pat VectorPat = word "#[" ⨾ group pat_args ⨾ word "]"
  pat InfixPat = get_pat ⨾ word " " ⨾ text ⨾ word " " ⨾ get_pat
  pat TypedPat = get_pat ⨾ word " : " ⨾ get_ty
  pat AsPat = get_pat ⨾ word " as " ⨾ group get_pat
  pat OrPat = get_pat ⨾ word " | " ⨾ get_pat

  -- The arms in order.
  unfoldable pub pats : List Layout
  pats = map pat pat_forms
