-- What a layout means: from an offset in the record (the cursor) to a list of events and the next offset, or a stop.
use Rattle.std.specs.Prelude.{ℕ, ◌+◌, Bool, true, false, not, ◌&&◌, ◌||◌, List, [], ◌∷◌, ◌++◌, drop, ◌==◌, slice_index, Option, None, Some}
use Prim.Native.String.{String}
use Rattle.text.specs.Bytes.{bytes, is_letter, is_digit, same_bytes, first_is}
use Rattle.reader.specs.Forms.{ExpForm, PathExp, ParenExp, SeqExp, LetExp, HandleExp, IfExp, WhileExp, CaseExp, exp_number}
use Rattle.reader.specs.Fields.{DecOne, Exp, Ty, first_form}
use Rattle.reader.specs.Fields as Fields
use Rattle.reader.specs.Commands.{absent_at, token_at, list_at, group_at, choice_at, form_at, form_width, first_token}
use Rattle.reader.specs.Tokens.{Tokens, count_of, text_of}
use Rattle.reader.specs.Check.{ok, malformed, too_deep, token_fits, form_fits, end_within, field_end}
use Rattle.comments.specs.Above.{comment_above}
use Rattle.layout.specs.Layout.{Layout, Look, is_if_exp, body_exp_needs_newline, Test, is_bang, is_pipe, is_alphabetic, is_alphanumeric}
use Rattle.layout.specs.Layout.{skip, ◌⨾◌, word, output_indent, formed, text, group, choice, form, list, maybe, present}
use Rattle.layout.specs.Layout.{look, first_name, application, operator, declaration, dropped, halt, import}

-- What the walk does, without tab size or text: tokens and comments stand by number, indents by depth.
pub data Event : Type 0 where
  Word : String → Event
  Token : ℕ → Event
  Comment : ℕ → Event
  -- a depth that `indented` forms, written or not
  Formed : ℕ → Event
  -- an indent written
  Indent : ℕ → Event

-- Why a walk stops: the record offset of the part that is absent, or the one behind an import's command.
pub data Stop : Type 0 where
  absent : ℕ → Stop
  imported : ℕ → Stop

-- Where a walk ends: at an offset, or at a stop; in both cases with what it did before.
pub data Outcome : Type 0 where
  done : ℕ → List Event → Outcome
  stopped : Stop → List Event → Outcome

unfoldable pub after : List Event → Outcome → Outcome
after es (done at fs) = done at (es ++ fs)
after es (stopped why fs) = stopped why (es ++ fs)

unfoldable pub bind : Outcome → (ℕ → Outcome) → Outcome
bind (done at es) k = after es (k at)
bind (stopped why es) k = stopped why es

-- A comment and what is behind it, where there is one.
unfoldable pub commented : Option ℕ → (ℕ → Outcome) → ℕ → Outcome
commented (Some k) line at = after (Comment k ∷ []) (line at)
commented None line at = done at []

-- A field that 000 takes with `?`: what is read at the offset, or a stop there.
unfoldable pub or_stop : Option ℕ → ℕ → (ℕ → Outcome) → Outcome
or_stop (Some n) at k = k n
or_stop None at k = stopped (absent at) []

-- What every layout reads: the text, the record, its tokens.
pub record Page : Type 0 where
  pub text : List ℕ
  pub rec : List ℕ
  pub tokens : Tokens

unfoldable pub token_text : Page → ℕ → List ℕ
token_text p k = text_of p.text p.tokens k

unfoldable pub passes : Page → Test → ℕ → Bool
passes p is_bang k = same_bytes (token_text p k) (bytes "!")
passes p is_pipe k = same_bytes (token_text p k) (bytes "|>")
passes p is_alphabetic k = first_is is_letter (token_text p k)
passes p is_alphanumeric k = first_is (λ b. is_letter b || is_digit b) (token_text p k)

-- Whether a byte is the command of an expression.
unfoldable pub is_command : ExpForm → ℕ → Bool
is_command f b = b == first_form Exp + exp_number f

-- The expressions whose body stands on a new line.
unfoldable pub on_new_line : ℕ → Bool
on_new_line b =
    is_command SeqExp b || is_command LetExp b || is_command HandleExp b || is_command IfExp b || is_command WhileExp b || is_command CaseExp b

-- `body_exp_needs_newline` of the form whose command is first in these bytes: it looks through ParenExp.
unfoldable pub needs_newline : List ℕ → Bool
needs_newline [] = false
needs_newline (b ∷ bs) = elim (is_command ParenExp b) [ true ↦ needs_newline bs | false ↦ on_new_line b ]

unfoldable pub sees : Page → Look → ℕ → Bool
sees p is_if_exp at = is_command IfExp (slice_index p.rec at)
sees p body_exp_needs_newline at = needs_newline (drop at p.rec)

-- The first name of the path at an offset, with the number of names; or the offset of the part that is not there.
pub data Name : Type 0 where
  name : ℕ → ℕ → Name
  no_name : ℕ → Name

-- What AppExp sees of an expression: the first name of a PathExp and the number of its names, or any other form.
pub data Head : Type 0 where
  path_exp : ℕ → ℕ → Head
  other_exp : Head

-- What AppExp sees of its two expressions, or the offset of the first part that is not there.
pub data Heads : Type 0 where
  both : Head → Head → Heads
  missing : ℕ → Heads

module _ (rec : List ℕ) where
  -- The name in the first of n groups.
  unfoldable pub dot_name : ℕ → ℕ → Name
  dot_name n at =
      elim (group_at rec at)
      [ true ↦ elim (token_at rec (at + 1)) [ Some k ↦ name k n | None ↦ no_name (at + 1) ] | false ↦ no_name at ]

  -- A path without names counts as absent at its list.
  unfoldable pub list_name : ℕ → Name
  list_name at =
      elim (list_at rec at)
      [ Some n ↦ elim (n == 0) [ true ↦ no_name at | false ↦ dot_name n (at + 3) ] | None ↦ no_name at ]

  unfoldable pub path_name : ℕ → Name
  path_name at = elim (group_at rec at) [ true ↦ list_name (at + 1) | false ↦ no_name at ]

  -- The name of the PathExp whose fields stand at the offset: `op_kw`, which plays no part, and the path.
  unfoldable pub op_path_name : ℕ → Name
  op_path_name at =
      elim (token_at rec at)
      [ Some k ↦ path_name (at + 3) | None ↦ elim (absent_at rec at) [ true ↦ path_name (at + 1) | false ↦ no_name at ] ]

-- What is seen of one expression, or the offset of the first part that is not there.
pub data Seen : Type 0 where
  seen : Head → Seen
  unseen : ℕ → Seen

-- Of two expressions, the first one's parts come first.
unfoldable pub both_seen : Seen → Seen → Heads
both_seen (unseen place) a = missing place
both_seen (seen f) (unseen place) = missing place
both_seen (seen f) (seen a) = both f a

module _ (rec : List ℕ) where
  -- The expression of a form's number, whose fields stand at the offset.
  unfoldable pub head_of : ℕ → ℕ → Seen
  head_of n fields =
      elim (n == exp_number PathExp)
      [ true ↦ elim (op_path_name rec fields) [ name t m ↦ seen (path_exp t m) | no_name place ↦ unseen place ] | false ↦ seen other_exp ]

  -- The second expression stands at `arg`. It is there before names are looked for.
  unfoldable pub heads_from : ℕ → ℕ → ℕ → Heads
  heads_from n func arg =
      elim (form_at rec Exp arg) [ Some m ↦ both_seen (head_of n (func + 1)) (head_of m (arg + 1)) | None ↦ missing arg ]

-- `func` stands at the offset and `arg` behind it.
unfoldable pub heads_at : List ℕ → ℕ → ℕ → Heads
heads_at rec count func =
    elim (form_at rec Exp func) [
      | Some n ↦ elim (field_end rec count (Fields.form Exp) func)
          [ ok arg ↦ heads_from rec n func arg | malformed place ↦ missing place | too_deep place ↦ missing place ]
      | None ↦ missing func
    ]

module _ (p : Page) where
  abbrev count : ℕ
  count = count_of p.tokens

  -- `func_is_bang`: one name, and it is `!`.
  unfoldable pub func_is_bang : Head → Bool
  func_is_bang other_exp = false
  func_is_bang (path_exp fst names) = passes p is_bang fst && names == 1

  -- `arg_is_symbolic`: its first name does not start with a letter.
  unfoldable pub arg_is_symbolic : Head → Bool
  arg_is_symbolic other_exp = false
  arg_is_symbolic (path_exp fst names) = not (passes p is_alphabetic fst)

  -- Whether the first name of the path at an offset is there and passes a test.
  unfoldable pub name_passes : Test → ℕ → Bool
  name_passes t at = elim (path_name p.rec at) [ name k n ↦ passes p t k | no_name place ↦ false ]

  -- The comment above a declaration's first token, where it has one.
  unfoldable pub above_first : Option ℕ → Option ℕ
  above_first (Some first) = comment_above p.tokens.kinds first
  above_first None = None

  -- An operator that was kept: in place of `|>` what `pipe` says, any other between two gaps.
  unfoldable pub operated : ℕ → (ℕ → Outcome) → (ℕ → Outcome) → ℕ → Outcome
  operated k pipe gap at =
      elim (passes p is_pipe k) [ true ↦ pipe at | false ↦ bind (gap at) (λ next. after (Token k ∷ []) (gap next)) ]

  -- A type that stopped: what it did stays, and the walk goes on behind the whole of it. The type itself is there.
  -- As many forms may stand inside one another in it as the walk has left.
  unfoldable pub onwards : ℕ → ℕ → Outcome → Outcome
  onwards nesting at (done next es) = done next es
  onwards nesting at (stopped why es) =
      elim (form_at p.rec Ty at) [
        | Some n ↦ elim (end_within p.rec count nesting (Fields.form Ty) at)
            [ ok next ↦ done next es | malformed place ↦ stopped (absent place) es | too_deep place ↦ stopped (absent place) es ]
        | None ↦ stopped why es
      ]

  unfoldable pub outcome : Layout → ℕ → Outcome
  outcome skip at = done at []
  outcome (v ⨾ w) at = bind (outcome v at) (λ next. outcome w next)
  outcome (word w) at = done at (Word w ∷ [])
  outcome (output_indent depth) at = done at (Indent depth ∷ [])
  outcome (formed depth) at = done at (Formed depth ∷ [])
  outcome text at = or_stop (token_fits p.rec count at) at (λ k. done (at + 3) (Token k ∷ []))
  outcome (group w) at = elim (group_at p.rec at) [ true ↦ outcome w (at + 1) | false ↦ stopped (absent at) [] ]
  outcome (choice k) at = or_stop (choice_at p.rec at) at (λ n. outcome (k n) (at + 2))
  outcome (form family k) at = or_stop (form_at p.rec family at) at (λ n. outcome (k n) (at + form_width family))
  outcome (list k) at = or_stop (list_at p.rec at) at (λ n. outcome (k n) (at + 3))
  outcome (maybe w) at = elim (absent_at p.rec at) [ true ↦ done (at + 1) [] | false ↦ outcome w at ]
  outcome (present v w) at =
      elim (token_fits p.rec count at) [
        | Some k ↦ outcome v (at + 3)
        | None ↦ elim (absent_at p.rec at) [ true ↦ outcome w (at + 1) | false ↦ stopped (absent at) [] ]
      ]
  outcome (look l v w) at =
      or_stop (form_at p.rec Exp at) at (λ n. elim (sees p l at) [ true ↦ outcome v at | false ↦ outcome w at ])
  outcome (first_name t v w) at =
      elim (group_at p.rec at) [
        | true ↦ elim (name_passes t at) [ true ↦ outcome v at | false ↦ outcome w at ]
        | false ↦ stopped (absent at) []
      ]
  outcome (application k) at =
      elim (heads_at p.rec count at)
      [ both f a ↦ outcome (k (func_is_bang f) (arg_is_symbolic a)) at | missing place ↦ stopped (absent place) [] ]
  outcome (operator lhs pipe gap) at =
      or_stop (token_fits p.rec count at) at
      (λ k. bind (outcome lhs (at + 3)) (operated k (λ next. outcome pipe next) (λ next. outcome gap next)))
  outcome (declaration line arm) at =
      or_stop (form_fits p.rec count DecOne at) at
      (λ n. bind (commented (above_first (first_token p.rec at)) (λ next. outcome line next) (at + form_width DecOne))
      (λ next. outcome (arm n) next))
  outcome (dropped nesting w) at = onwards nesting at (outcome w at)
  outcome halt at = stopped (absent at) []
  outcome import at = stopped (imported at) []
