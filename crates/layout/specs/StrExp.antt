-- `get_str_exp` of 000: a layout for each arm, over the walks one form deeper.
use Rattle.std.specs.Prelude.{ℕ, zero, suc, Bool, true, false, ◌||◌, List, [], ◌∷◌, map, ◌==◌, slice_index_or}
use Rattle.reader.specs.Forms.{StrExpForm, str_exp_forms, StructStrExp, PathStrExp, AscriptionStrExp, AppStrExp, LetStrExp}
use Rattle.layout.specs.Layout.{Layout, ◌⨾◌, word, text, choice, list, halt}
use Rattle.layout.specs.Helpers.{Cfg, Walkers, with_extra_blank, deeper, deepen, indent, when, path, in_end}
use Rattle.layout.specs.SigExp.{ascription_tail}
use Rattle.layout.specs.GetDec.{get_dec, dec_arg}

module _ (ws : Walkers) where
  open ws use {get_str_exp}

  unfoldable pub app_arg : Cfg → ℕ → Layout
  app_arg c which = slice_index_or (get_str_exp c ∷ dec_arg ws c ∷ []) which halt

  -- The last n arguments and the closing parenthesis, which is indented where an argument was a Dec.
  unfoldable pub app_args : Cfg → Bool → ℕ → Layout
  app_args c needs-end-indent zero = when needs-end-indent (indent c) ⨾ word ")"
  app_args c needs-end-indent (suc n) =
      choice λ which. app_arg c which ⨾ app_args c (needs-end-indent || which == 1) n

  -- The arm of each form.
  unfoldable pub str_exp : Cfg → StrExpForm → Layout
  str_exp c StructStrExp =
      word "struct\n"
      ⨾ deepen c
      ⨾ indent (deeper c)
      ⨾ get_dec ws (with_extra_blank true (deeper c))
      ⨾ word "\n"
      ⨾ indent c
      ⨾ word "end"
  str_exp c PathStrExp = path
  str_exp c AscriptionStrExp = get_str_exp c ⨾ ascription_tail ws c
  str_exp c AppStrExp = text ⨾ word " (" ⨾ list (app_args c false)
  str_exp c LetStrExp = in_end c "let" (get_dec ws) get_str_exp

  -- The arms in order.
  unfoldable pub str_exps : Cfg → List Layout
  str_exps c = map (str_exp c) str_exp_forms
