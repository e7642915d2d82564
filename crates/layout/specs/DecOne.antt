-- `get_dec_one` of 000: a layout for each arm, over the walks one form deeper.
use Rattle.std.specs.Prelude.{ℕ, true, false, List, [], ◌∷◌, map, nat_lt, slice_index_or}
use Rattle.reader.specs.Forms.{DecForm, dec_forms, HoleDec, ValDec, FunDec, TyDec, DatDec, DatCopyDec}
use Rattle.reader.specs.Forms.{AbstypeDec, ExDec, OpenDec, InfixDec, InfixrDec, NonfixDec, DoDec, LocalDec}
use Rattle.reader.specs.Forms.{StructureDec, SignatureDec, FunctorDec, ExpDec, IncludeDec, EsImportDec}
use Rattle.layout.specs.Layout.{Layout, ◌⨾◌, word, text, group, choice, list, maybe, halt, import}
use Rattle.layout.specs.Helpers.{Cfg, Walkers, deeper, deepen, indent, indent_deeper, items, for_each, sep, new_line, sep_with_lines}
use Rattle.layout.specs.Helpers.{in_end, path, in_parens, ty_var_seq, word_if}
use Rattle.layout.specs.Ty.{ty_annotation}
use Rattle.layout.specs.Exp.{eq_body}
use Rattle.layout.specs.SigExp.{ascription_tail}
use Rattle.layout.specs.GetDec.{get_dec, dec_arg}

-- Behind the comment above a declaration, which stands on a line of its own.
unfoldable pub comment_line : Cfg → Layout
comment_line c = word "\n" ⨾ indent c

module _ (ws : Walkers) where
  open ws use {get_ty, get_pat, get_exp, get_str_exp, get_sig_exp}

  -- ---- helpers
  unfoldable pub ty_bind : Layout
  ty_bind = group (ty_var_seq ⨾ text ⨾ maybe (group (word " = " ⨾ get_ty)))

  unfoldable pub ty_binds : Cfg → Layout
  ty_binds c = sep_with_lines c "and " ty_bind

  unfoldable pub with_type : Cfg → Layout
  with_type c = maybe (group (word "\n" ⨾ indent c ⨾ word "withtype " ⨾ ty_binds c))

  unfoldable pub con_bind : Layout
  con_bind = group (text ⨾ maybe (group (word " of " ⨾ get_ty)))

  -- Over one constructor: a line each, the first one deeper, the others with their bars at the depth of the declaration.
  unfoldable pub con_binds : Cfg → ℕ → Layout
  con_binds c n =
      elim (nat_lt 1 n) [
        | true ↦ word " =\n" ⨾ indent_deeper c ⨾ items n con_bind (new_line c "| " ⨾ con_bind)
        | false ↦ word " = " ⨾ items n con_bind (word " | " ⨾ con_bind)
      ]

  unfoldable pub dat_bind : Cfg → Layout
  dat_bind c = group (ty_var_seq ⨾ text ⨾ group (list (con_binds c)))

  unfoldable pub dat_binds : Cfg → Layout
  dat_binds c = sep_with_lines c "and " (dat_bind c)

  -- ---- arms
  unfoldable pub val_bind : Cfg → Layout
  val_bind c =
      group
      (word_if "rec "
      ⨾ get_pat
      ⨾ eq_body ws c)

  unfoldable pub val_binds : Cfg → Layout
  val_binds c = sep_with_lines c "and " (val_bind c)

  unfoldable pub PrefixFunBindCaseHead : Layout
  PrefixFunBindCaseHead = word_if "op " ⨾ text

  -- `lhs`, the name and `rhs`.
  unfoldable pub infix_head : Layout
  infix_head = get_pat ⨾ word " " ⨾ text ⨾ word " " ⨾ get_pat

  unfoldable pub InfixFunBindCaseHead : Layout
  InfixFunBindCaseHead = in_parens infix_head

  unfoldable pub case_head : ℕ → Layout
  case_head which = slice_index_or (PrefixFunBindCaseHead ∷ InfixFunBindCaseHead ∷ []) which halt

  -- The patterns of a case, with a space before each.
  unfoldable pub case_pats : Layout
  case_pats = for_each (word " " ⨾ get_pat)

  unfoldable pub fun_bind_case : Cfg → Layout
  fun_bind_case c =
      group
      (choice case_head
      ⨾ case_pats
      ⨾ ty_annotation ws
      ⨾ eq_body ws c)

  -- Bars stand one deeper than the declaration, bodies are laid out from its own depth.
  unfoldable pub fun_bind : Cfg → Layout
  fun_bind c = group (deepen c ⨾ sep_with_lines (deeper c) "| " (fun_bind_case c))

  unfoldable pub ex_bind_of : Layout
  ex_bind_of = word " of " ⨾ get_ty

  unfoldable pub ex_bind_inner : Cfg → ℕ → Layout
  ex_bind_inner c which = slice_index_or (ex_bind_of ∷ (word " = " ⨾ get_exp c) ∷ []) which halt

  unfoldable pub ex_bind : Cfg → Layout
  ex_bind c = group (text ⨾ maybe (choice (ex_bind_inner c)))

  -- `int_lit`, where there is one.
  unfoldable pub int_lit : Layout
  int_lit = maybe (text ⨾ word " ")

  unfoldable pub names_space : Layout
  names_space = sep " " text

  -- `local_dec_hd` or `local_dec_tl`: absent, it has no declarations.
  unfoldable pub local_decs : Cfg → Layout
  local_decs c = maybe (group (get_dec ws c))

  unfoldable pub str_bind : Cfg → Layout
  str_bind c = group (text ⨾ maybe (ascription_tail ws c) ⨾ maybe (group (word " = " ⨾ get_str_exp c)))

  unfoldable pub sig_bind : Cfg → Layout
  sig_bind c = group (text ⨾ word " = " ⨾ get_sig_exp c)

  unfoldable pub functor_arg : Cfg → ℕ → Layout
  functor_arg c which = slice_index_or ((text ⨾ word " : " ⨾ get_sig_exp c) ∷ dec_arg ws c ∷ []) which halt

  unfoldable pub functor_args : Cfg → Layout
  functor_args c = for_each (choice (functor_arg c))

  unfoldable pub functor_bind : Cfg → Layout
  functor_bind c =
      group
      (text
      ⨾ word " ("
      ⨾ functor_args c
      ⨾ word ")"
      ⨾ maybe (ascription_tail ws c)
      ⨾ word " = "
      ⨾ get_str_exp c)

  -- The arm of each form.
  unfoldable pub dec_one : Cfg → DecForm → Layout
  dec_one c HoleDec = word "..."
  dec_one c ValDec = word "val " ⨾ val_binds c
  dec_one c FunDec = word "fun " ⨾ ty_var_seq ⨾ sep_with_lines c "and " (fun_bind c)
  dec_one c TyDec = text ⨾ word " " ⨾ ty_binds c
  dec_one c DatDec = word "datatype " ⨾ dat_binds c ⨾ with_type c
  dec_one c DatCopyDec = word "datatype " ⨾ text ⨾ word " = datatype " ⨾ path
  dec_one c AbstypeDec =
      word "abstype "
      ⨾ dat_binds c
      ⨾ with_type c
      ⨾ word " with "
      ⨾ get_dec ws c
      ⨾ word " end"
  dec_one c ExDec = word "exception " ⨾ sep_with_lines c "and " (ex_bind c)
  dec_one c OpenDec = word "open " ⨾ sep " " path
  dec_one c InfixDec = word "infix " ⨾ int_lit ⨾ names_space
  dec_one c InfixrDec = word "infixr " ⨾ int_lit ⨾ names_space
  dec_one c NonfixDec = word "nonfix " ⨾ names_space
  dec_one c DoDec = word "do " ⨾ get_exp c
  dec_one c LocalDec = in_end c "local" local_decs local_decs
  dec_one c StructureDec = word "structure " ⨾ sep_with_lines c "and " (str_bind c)
  dec_one c SignatureDec = word "signature " ⨾ sep_with_lines c "and " (sig_bind c)
  dec_one c FunctorDec = word "functor " ⨾ sep_with_lines c "and " (functor_bind c)
  dec_one c ExpDec = get_exp c
  dec_one c IncludeDec = word "include " ⨾ sep " " (get_sig_exp c)
  dec_one c EsImportDec = import

  -- The arms in order.
  unfoldable pub decs : Cfg → List Layout
  decs c = map (dec_one c) dec_forms
