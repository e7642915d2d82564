-- `get_exp` of 000: a layout for each arm, over the walks one form deeper.
use Rattle.std.specs.Prelude.{ℕ, zero, suc, Bool, true, false, not, ◌&&◌, ◌||◌, List, map, ◌==◌}
use Rattle.reader.specs.Forms.{ExpForm, exp_forms, HoleExp, WildcardExp, OpAndalsoExp, OpOrelseExp, SConExp, PathExp, RecordExp}
use Rattle.reader.specs.Forms.{SelectorExp, ParenExp, TupleExp, ListExp, VectorExp, SeqExp, LetExp, AppExp, InfixExp, TypedExp}
use Rattle.reader.specs.Forms.{AndalsoExp, OrelseExp, HandleExp, RaiseExp, IfExp, WhileExp, CaseExp, FnExp}
use Rattle.layout.specs.Layout.{Layout, is_if_exp, body_exp_needs_newline, skip, ◌⨾◌, word, text, group, list, maybe, present}
use Rattle.layout.specs.Layout.{look, application, operator}
use Rattle.layout.specs.Helpers.{Cfg, Walkers, deeper, deepen, indent, indent_deeper, when, op_path, sep, sep_with_lines, in_end}
use Rattle.layout.specs.GetDec.{get_dec}

-- The semicolon of an item, where it is there and written.
unfoldable pub item_semi : Bool → Layout
item_semi write-semi = present (when write-semi (word ";")) skip

-- What AppExp writes between its expressions.
unfoldable pub app_space : Bool → Bool → Layout
app_space bang symbolic = when (not bang || symbolic) (word " ")

-- What InfixExp writes in place of the operator `|>`.
unfoldable pub pipe : Cfg → Layout
pipe c = word "\n" ⨾ indent_deeper c ⨾ word "|> "

module _ (ws : Walkers) where
  open ws use {get_ty, get_pat, get_exp}

  -- ---- helpers
  -- `for _ in 0..level { cfg = cfg.indented(); }`, and the expression on its line.
  unfoldable pub indented_levels : Cfg → ℕ → Layout
  indented_levels c zero = indent c ⨾ get_exp c
  indented_levels c (suc level) = deepen c ⨾ indented_levels (deeper c) level

  unfoldable pub get_body_exp_level : Cfg → ℕ → Layout
  get_body_exp_level c level = look body_exp_needs_newline (word "\n" ⨾ indented_levels c level) (word " " ⨾ get_exp c)

  unfoldable pub get_body_exp : Cfg → Layout
  get_body_exp c = get_body_exp_level c 1

  -- `eq_exp` of a binding: ` =` and the body.
  unfoldable pub eq_body : Cfg → Layout
  eq_body c = maybe (group (word " =" ⨾ get_body_exp c))

  unfoldable pub get_matcher_arm : Cfg → Layout
  get_matcher_arm c = group (get_pat ⨾ word " =>" ⨾ get_body_exp_level c 2)

  unfoldable pub arms_on_lines : Cfg → Layout
  arms_on_lines c = sep_with_lines c "| " (get_matcher_arm c)

  -- No matcher is allowed.
  unfoldable pub get_matcher_across_lines : Cfg → Layout
  get_matcher_across_lines c = maybe (group (indent_deeper c ⨾ arms_on_lines c))

  unfoldable pub exp_args : Cfg → Layout
  exp_args c = sep ", " (group (get_exp c))

  -- An item of a sequence, with its semicolon where that is written.
  unfoldable pub exp_semi_item : Cfg → Bool → Layout
  exp_semi_item c write-semi = group (get_exp c ⨾ item_semi write-semi)

  -- The last n items of a sequence, the first not among them. The last one's semicolon is written where that is allowed.
  unfoldable pub exp_semi_more : Cfg → Bool → ℕ → Layout
  exp_semi_more c allow-last-semi zero = skip
  exp_semi_more c allow-last-semi (suc n) =
      word ";\n" ⨾ indent c ⨾ exp_semi_item c (allow-last-semi && n == 0) ⨾ exp_semi_more c allow-last-semi n

  -- The first item's semicolon is never written.
  unfoldable pub exp_semi_items : Cfg → Bool → ℕ → Layout
  exp_semi_items c allow-last-semi zero = skip
  exp_semi_items c allow-last-semi (suc n) = exp_semi_item c false ⨾ exp_semi_more c allow-last-semi n

  unfoldable pub exp_semi_seq : Cfg → Bool → Layout
  exp_semi_seq c allow-last-semi = list (λ n. exp_semi_items c allow-last-semi n)

  -- ---- arms
  -- `eq_exp` of a row.
  unfoldable pub eq_exp : Cfg → Layout
  eq_exp c = maybe (group (word " = " ⨾ get_exp c))

  unfoldable pub exp_row : Cfg → Layout
  exp_row c = group (text ⨾ eq_exp c)

  unfoldable pub exp_rows : Cfg → Layout
  exp_rows c = sep ", " (exp_row c)

  -- After `else`: another `if` stays on the line.
  unfoldable pub if_no : Cfg → Layout
  if_no c = look is_if_exp (word " " ⨾ get_exp c) (word "\n" ⨾ indent (deeper c) ⨾ get_exp (deeper c))

  unfoldable pub fn_arms : Cfg → Layout
  fn_arms c = sep " | " (get_matcher_arm c)

  -- The arm of each form.
  unfoldable pub exp : Cfg → ExpForm → Layout
  exp c HoleExp = word "..."
  exp c WildcardExp = word "_"
  exp c OpAndalsoExp = word "op andalso"
  exp c OpOrelseExp = word "op orelse"
  exp c SConExp = text
  exp c PathExp = op_path
  exp c RecordExp = word "{ " ⨾ exp_rows c ⨾ word " }"
  exp c SelectorExp = word "#" ⨾ text
  exp c ParenExp = word "(" ⨾ get_exp c ⨾ word ")"
  exp c TupleExp = word "(" ⨾ exp_args c ⨾ word ")"
  exp c ListExp = word "[" ⨾ exp_args c ⨾ word "]"
  exp c VectorExp = word "#[" ⨾ group (exp_args c) ⨾ word "]"
  exp c SeqExp =
      word "(\n"
      ⨾ deepen c
      ⨾ indent (deeper c)
      ⨾ exp_semi_seq (deeper c) false
      ⨾ word "\n"
      ⨾ indent c
      ⨾ word ")"
  exp c LetExp = in_end c "let" (get_dec ws) (λ new. exp_semi_seq new true)
  exp c AppExp = application λ bang symbolic. get_exp c ⨾ app_space bang symbolic ⨾ get_exp c
  exp c InfixExp = operator (get_exp c) (pipe c) (word " ") ⨾ get_exp c
  exp c TypedExp = get_exp c ⨾ word " : " ⨾ get_ty
  exp c AndalsoExp = get_exp c ⨾ word " andalso " ⨾ get_exp c
  exp c OrelseExp = get_exp c ⨾ word " orelse " ⨾ get_exp c
  exp c HandleExp = get_exp c ⨾ word " handle\n" ⨾ get_matcher_across_lines c
  exp c RaiseExp = word "raise " ⨾ get_exp c
  exp c IfExp =
      word "if "
      ⨾ get_exp c
      ⨾ word " then\n"
      ⨾ deepen c
      ⨾ indent (deeper c)
      ⨾ get_exp (deeper c)
      ⨾ word "\n"
      ⨾ indent c
      ⨾ word "else"
      ⨾ if_no c
  exp c WhileExp = word "while " ⨾ get_exp c ⨾ word " do " ⨾ get_exp c
  exp c CaseExp = word "case " ⨾ get_exp c ⨾ word " of\n" ⨾ get_matcher_across_lines c
  exp c FnExp = word "fn " ⨾ group (fn_arms c)

  -- The arms in order.
  unfoldable pub exps : Cfg → List Layout
  exps c = map (exp c) exp_forms
