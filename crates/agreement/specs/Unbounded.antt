-- The meaning of a layout without the bounds that the check sets: a token and a declaration's first token may have any number, and in
-- a dropped type 200 forms may stand inside one another wherever it stands. All else is as in Meaning.
use Rattle.std.specs.Prelude.{ℕ, ◌+◌, [], ◌∷◌, true, false, None, Some}
use Rattle.reader.specs.Fields.{DecOne, Exp, Ty}
use Rattle.reader.specs.Fields as Fields
use Rattle.reader.specs.Commands.{absent_at, token_at, list_at, group_at, choice_at, form_at, form_width, first_token}
use Rattle.reader.specs.Tokens.{count_of}
use Rattle.reader.specs.Check.{ok, malformed, too_deep, max_forms, field_end}
use Rattle.layout.specs.Layout.{Layout, skip, ◌⨾◌, word, output_indent, formed, text, group, choice, form, list, maybe, present}
use Rattle.layout.specs.Layout.{look, first_name, application, operator, declaration, dropped, halt, import}
use Rattle.layout.specs.Meaning.{Page, Word, Token, Formed, Indent, Outcome, done, stopped, absent, imported, bind, commented, or_stop, sees}
use Rattle.layout.specs.Meaning.{name_passes, both, missing, heads_at, func_is_bang, arg_is_symbolic, above_first, operated}
use Rattle.layout.specs.GetDec.{get_dec}
use Rattle.layout.specs.Walk.{walks, top}

module _ (p : Page) where
  abbrev count : ℕ
  count = count_of p.tokens

  unfoldable pub onwards : ℕ → Outcome → Outcome
  onwards at (done next es) = done next es
  onwards at (stopped why es) =
      elim (form_at p.rec Ty at) [
        | Some n ↦ elim (field_end p.rec count (Fields.form Ty) at)
            [ ok next ↦ done next es | malformed place ↦ stopped (absent place) es | too_deep place ↦ stopped (absent place) es ]
        | None ↦ stopped why es
      ]

  unfoldable pub outcome : Layout → ℕ → Outcome
  outcome text at = or_stop (token_at p.rec at) at (λ k. done (at + 3) (Token k ∷ []))
  outcome (present v w) at =
      elim (token_at p.rec at) [
        | Some k ↦ outcome v (at + 3)
        | None ↦ elim (absent_at p.rec at) [ true ↦ outcome w (at + 1) | false ↦ stopped (absent at) [] ]
      ]
  outcome (operator lhs pipe gap) at =
      or_stop (token_at p.rec at) at
      (λ k. bind (outcome lhs (at + 3)) (operated p k (λ next. outcome pipe next) (λ next. outcome gap next)))
  outcome (declaration line arm) at =
      or_stop (form_at p.rec DecOne at) at
      (λ n. bind (commented (above_first p (first_token p.rec at)) (λ next. outcome line next) (at + form_width DecOne))
      (λ next. outcome (arm n) next))
  outcome (dropped left w) at = onwards at (outcome w at)
  outcome skip at = done at []
  outcome (v ⨾ w) at = bind (outcome v at) (λ next. outcome w next)
  outcome (word w) at = done at (Word w ∷ [])
  outcome (output_indent depth) at = done at (Indent depth ∷ [])
  outcome (formed depth) at = done at (Formed depth ∷ [])
  outcome (group w) at = elim (group_at p.rec at) [ true ↦ outcome w (at + 1) | false ↦ stopped (absent at) [] ]
  outcome (choice k) at = or_stop (choice_at p.rec at) at (λ n. outcome (k n) (at + 2))
  outcome (form family k) at = or_stop (form_at p.rec family at) at (λ n. outcome (k n) (at + form_width family))
  outcome (list k) at = or_stop (list_at p.rec at) at (λ n. outcome (k n) (at + 3))
  outcome (maybe w) at = elim (absent_at p.rec at) [ true ↦ done (at + 1) [] | false ↦ outcome w at ]
  outcome (look l v w) at =
      or_stop (form_at p.rec Exp at) at (λ n. elim (sees p l at) [ true ↦ outcome v at | false ↦ outcome w at ])
  outcome (first_name t v w) at =
      elim (group_at p.rec at) [
        | true ↦ elim (name_passes p t at) [ true ↦ outcome v at | false ↦ outcome w at ]
        | false ↦ stopped (absent at) []
      ]
  outcome (application k) at =
      elim (heads_at p.rec count at)
      [ both f a ↦ outcome (k (func_is_bang p f) (arg_is_symbolic p a)) at | missing place ↦ stopped (absent place) [] ]
  outcome halt at = stopped (absent at) []
  outcome import at = stopped (imported at) []

unfoldable pub walk : Page → ℕ → Outcome
walk p tree = outcome p (get_dec (walks max_forms) top) tree
