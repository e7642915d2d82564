-- 000's configuration, and its helpers that serve more than one family. A helper has 000's name.
use Rattle.std.specs.Prelude.{ℕ, zero, suc, ◌+◌, Bool, true, false}
use Prim.Native.String.{String}
use Rattle.layout.specs.Layout.{Layout, is_alphanumeric, skip, ◌⨾◌, word, output_indent, formed, text, group}
use Rattle.layout.specs.Layout.{list, maybe, present, first_name}

-- `Cfg`, with the depth in place of the indent's width: a depth × tab size spaces.
pub record Cfg : Type 0 where
  pub depth : ℕ
  pub extra_blank : Bool

-- The walks of the forms one deeper, by 000's names, and how many forms may stand inside one another there.
pub record Walkers : Type 0 where
  pub nesting : ℕ
  pub get_ty : Layout
  pub get_pat : Layout
  pub get_exp : Cfg → Layout
  pub get_str_exp : Cfg → Layout
  pub get_sig_exp : Cfg → Layout
  pub get_dec_one : Cfg → Layout

unfoldable pub with_extra_blank : Bool → Cfg → Cfg
with_extra_blank b c = record { depth = c.depth; extra_blank = b }

-- The configuration one deeper.
abbrev pub deeper : Cfg → Cfg
deeper c = record { depth = c.depth + 1; extra_blank = c.extra_blank }

-- `let new = cfg.indented()`: the depth of `deeper c` is formed.
unfoldable pub deepen : Cfg → Layout
deepen c = formed (deeper c).depth

-- `cfg.output_indent(st)`.
unfoldable pub indent : Cfg → Layout
indent c = output_indent c.depth

-- `cfg.indented().output_indent(st)`.
unfoldable pub indent_deeper : Cfg → Layout
indent_deeper c = deepen c ⨾ indent (deeper c)

-- `if b { .. }`.
unfoldable pub when : Bool → Layout → Layout
when b w = elim b [ true ↦ w | false ↦ skip ]

-- n times.
unfoldable pub times : ℕ → Layout → Layout
times zero w = skip
times (suc n) w = w ⨾ times n w

-- n items: the first, and each later one by a layout of its own.
unfoldable pub items : ℕ → Layout → Layout → Layout
items zero first more = skip
items (suc n) first more = first ⨾ times n more

-- `for x in .. { .. }`.
unfoldable pub for_each : Layout → Layout
for_each item = list (λ n. times n item)

unfoldable pub sep : String → Layout → Layout
sep s item = list (λ n. items n item (word s ⨾ item))

-- Before an item of `sep_with_lines` that is not the first.
unfoldable pub new_line : Cfg → String → Layout
new_line c s = word "\n" ⨾ when c.extra_blank (word "\n") ⨾ indent c ⨾ word s

unfoldable pub sep_with_lines : Cfg → String → Layout → Layout
sep_with_lines c s item = list (λ n. items n item (new_line c s ⨾ item))

unfoldable pub in_end : Cfg → String → (Cfg → Layout) → (Cfg → Layout) → Layout
in_end c kw f1 f2 =
    word kw
    ⨾ word "\n"
    ⨾ deepen c
    ⨾ indent (deeper c)
    ⨾ f1 (deeper c)
    ⨾ word "\n"
    ⨾ indent c
    ⨾ word "in\n"
    ⨾ indent (deeper c)
    ⨾ f2 (deeper c)
    ⨾ word "\n"
    ⨾ indent c
    ⨾ word "end"

-- `name_star_eq_dots`, with a dot between.
unfoldable pub path : Layout
path = group (sep "." (group text))

-- `op`, with a space where the first name of the path behind it starts with a letter or a digit.
unfoldable pub op : Layout
op = first_name is_alphanumeric (word "op" ⨾ word " ") (word "op")

-- The fields `op_kw` and `path`.
unfoldable pub op_path : Layout
op_path = present op skip ⨾ path

-- The variables of a sequence, with a comma between.
unfoldable pub ty_vars : Layout
ty_vars = sep ", " (group text)

-- In parentheses where the token at the cursor is there.
unfoldable pub in_parens : Layout → Layout
in_parens w = present (word "(" ⨾ w ⨾ word ")") w

unfoldable pub ty_var_seq_there : Layout
ty_var_seq_there = group (in_parens ty_vars ⨾ word " ")

unfoldable pub ty_var_seq : Layout
ty_var_seq = maybe ty_var_seq_there

-- `if x().is_some() { st.write(w); }`.
unfoldable pub word_if : String → Layout
word_if w = present (word w) skip

-- `if dec.semicolon().is_some() { st.write(";"); }`.
unfoldable pub semicolon : Layout
semicolon = word_if ";"
