-- The record check behind the tokens: one forward pass that tells the first command that is malformed, or the 201st form inside.
use Rattle.std.specs.Prelude.{ℕ, zero, suc, ◌+◌, List, Bool, true, false, ◌&&◌, ◌||◌, length, get_or, ltb, eqb, Option, None, Some}
use Rattle.reader.specs.Fields.{Family, DecOne, StrExp, SigExp, Exp, Pat, Ty, Fields, ◌▸◌, token, list, group, choice, form, Dec, forms}
use Rattle.reader.specs.Commands.{u16, absent_at, token_at, list_at, group_at, choice_at, form_at, form_width, no_token}

-- What a check says: where the next field stands, or a refusal with its place.
pub data Checked : Type 0 where
  ok : ℕ → Checked
  malformed : ℕ → Checked
  too_deep : ℕ → Checked

-- A check, and where it passes another from there.
unfoldable pub and_then : Checked → (ℕ → Checked) → Checked
and_then (ok at) k = k at
and_then (malformed place) k = malformed place
and_then (too_deep place) k = too_deep place

-- n items.
unfoldable pub items : ℕ → (ℕ → Checked) → ℕ → Checked
items zero item at = ok at
items (suc n) item at = and_then (item at) (λ next. items n item next)

-- 200 forms inside one another.
abbrev pub max_forms : ℕ
max_forms = 200

module _ (rec : List ℕ) (count : ℕ) where
  -- The operand of a declaration: a token's number, or none.
  unfoldable pub operand_fits : Family → ℕ → Bool
  operand_fits DecOne at = ltb (u16 rec (at + 1)) count || eqb (u16 rec (at + 1)) no_token
  operand_fits StrExp at = true
  operand_fits SigExp at = true
  operand_fits Exp at = true
  operand_fits Pat at = true
  operand_fits Ty at = true

  -- The command of a token fits: its number is below the count.
  unfoldable pub token_fits : ℕ → Option ℕ
  token_fits at = elim (token_at rec at) [ None ↦ None | Some k ↦ elim (ltb k count) [ true ↦ Some k | false ↦ None ] ]

  -- What may be absent where it may be absent, else the check of what is there.
  unfoldable pub or_absent : Bool → ℕ → Checked → Checked
  or_absent may at there = elim (may && absent_at rec at) [ true ↦ ok (at + 1) | false ↦ there ]

  -- Fields from an offset on, `inner` checking a form; `may` says whether a field other than a list may be absent. An item may not.
  module _ (inner : Family → ℕ → Checked) where
    unfoldable pub fields : Bool → Fields → ℕ → Checked
    fields may Fields.none at = ok at
    fields may (f ▸ g) at = and_then (fields may f at) (λ next. fields may g next)
    fields may token at = or_absent may at (elim (token_fits at) [ None ↦ malformed at | Some k ↦ ok (at + 3) ])
    fields may (list f) at =
        elim (list_at rec at) [ None ↦ malformed at | Some n ↦ items n (λ next. fields false f next) (at + 3) ]
    fields may (group f) at =
        or_absent may at (elim (group_at rec at) [ true ↦ fields true f (at + 1) | false ↦ malformed at ])
    fields may (choice n f) at =
        or_absent may at
        (elim (choice_at rec at)
        [ None ↦ malformed at | Some which ↦ elim (ltb which n) [ true ↦ fields true (f which) (at + 2) | false ↦ malformed at ] ])
    fields may (form family) at = or_absent may at (inner family at)

  -- The command of a form fits: it is of the family, and its operand is in range.
  unfoldable pub form_fits : Family → ℕ → Option ℕ
  form_fits family at =
      elim (form_at rec family at)
      [ None ↦ None | Some n ↦ elim (operand_fits family at) [ true ↦ Some n | false ↦ None ] ]

  -- A form with its fields, where at most this many more may stand inside one another. At one command malformation comes before depth.
  unfoldable pub form_check : ℕ → Family → ℕ → Checked
  form_check zero family at = elim (form_fits family at) [ None ↦ malformed at | Some n ↦ too_deep at ]
  form_check (suc depth) family at =
      elim (form_fits family at) [
        | None ↦ malformed at
        | Some n ↦ fields (λ f next. form_check depth f next) true (get_or (forms family) n Fields.none) (at + form_width family)
      ]

  -- The end of a field, where at most this many more forms may stand inside one another.
  abbrev pub end_within : ℕ → Fields → ℕ → Checked
  end_within nesting f at = fields (form_check nesting) true f at

  -- The list `root.decs()`, then nothing: the place of bytes left over is that of the first.
  unfoldable pub tree_check : ℕ → Checked
  tree_check at =
      and_then (end_within max_forms (list Dec) at)
      (λ end. elim (eqb end (length rec)) [ true ↦ ok end | false ↦ malformed end ])

  -- The end of a field, read by itself: what it says depends on the field's own bytes and the count alone.
  unfoldable pub field_end : Fields → ℕ → Checked
  field_end f at = end_within max_forms f at
