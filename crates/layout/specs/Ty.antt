-- `get_ty` of 000: a layout for each arm, over the walks one form deeper.
use Rattle.std.specs.Prelude.{List, map}
use Rattle.reader.specs.Forms.{TyForm, ty_forms, HoleTy, WildcardTy, TyVarTy, RecordTy, ConTy, OneArgConTy, TupleTy, FnTy, ParenTy}
use Rattle.layout.specs.Layout.{Layout, ◌⨾◌, word, text, group, maybe, dropped}
use Rattle.layout.specs.Helpers.{Walkers, path, sep, for_each}

module _ (ws : Walkers) where
  open ws use {nesting, get_ty}

  unfoldable pub ty_row : Layout
  ty_row = group (text ⨾ word " : " ⨾ get_ty)

  unfoldable pub ty_rows : Layout
  ty_rows = sep ", " ty_row

  unfoldable pub ty_args : Layout
  ty_args = sep ", " (group get_ty)

  unfoldable pub ty_seq_there : Layout
  ty_seq_there = group (word "(" ⨾ ty_args ⨾ word ") ")

  unfoldable pub ty_seq : Layout
  ty_seq = maybe ty_seq_there

  unfoldable pub star_ty : Layout
  star_ty = group (word " * " ⨾ get_ty)

  unfoldable pub star_tys : Layout
  star_tys = for_each star_ty

  -- The arm of each form.
  unfoldable pub ty : TyForm → Layout
  ty HoleTy = word "..."
  ty WildcardTy = word "_"
  ty TyVarTy = text
  ty RecordTy = word "{ " ⨾ ty_rows ⨾ word " }"
  ty ConTy = ty_seq ⨾ path
  ty OneArgConTy = get_ty ⨾ word " " ⨾ path
  -- The first call of `get_ty` drops its result.
  ty TupleTy = dropped nesting get_ty ⨾ star_tys
  ty FnTy = get_ty ⨾ word " -> " ⨾ get_ty
  ty ParenTy = word "(" ⨾ get_ty ⨾ word ")"

  -- The arms in order.
  unfoldable pub tys : List Layout
  tys = map ty ty_forms

  -- ---- helpers of other families that walk into a type
  unfoldable pub ty_annotation_there : Layout
  ty_annotation_there = group (word " : " ⨾ get_ty)

  unfoldable pub ty_annotation : Layout
  ty_annotation = maybe ty_annotation_there
