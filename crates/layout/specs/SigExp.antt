-- `get_sig_exp` of 000: a layout for each arm, over the walks one form deeper.
use Rattle.std.specs.Prelude.{List, map}
use Rattle.reader.specs.Forms.{SigExpForm, sig_exp_forms, SigSigExp, NameSigExp, WhereTypeSigExp, WhereSigExp}
use Rattle.layout.specs.Layout.{Layout, ◌⨾◌, word, text, group}
use Rattle.layout.specs.Helpers.{Cfg, Walkers, deeper, deepen, indent, path, ty_var_seq}
use Rattle.layout.specs.GetDec.{get_dec}

module _ (ws : Walkers) where
  open ws use {get_ty, get_sig_exp}

  unfoldable pub ascription_tail : Cfg → Layout
  ascription_tail c = group (word " " ⨾ text ⨾ word " " ⨾ get_sig_exp c)

  -- The arm of each form.
  unfoldable pub sig_exp : Cfg → SigExpForm → Layout
  sig_exp c SigSigExp =
      word "sig\n"
      ⨾ deepen c
      ⨾ indent (deeper c)
      ⨾ get_dec ws (deeper c)
      ⨾ word "\n"
      ⨾ indent c
      ⨾ word "end"
  sig_exp c NameSigExp = text
  sig_exp c WhereTypeSigExp = get_sig_exp c ⨾ word " where type " ⨾ ty_var_seq ⨾ path ⨾ word " = " ⨾ get_ty
  sig_exp c WhereSigExp = get_sig_exp c ⨾ word " where " ⨾ path ⨾ word " = " ⨾ path

  -- The arms in order.
  unfoldable pub sig_exps : Cfg → List Layout
  sig_exps c = map (sig_exp c) sig_exp_forms
