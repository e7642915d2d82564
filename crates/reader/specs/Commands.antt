-- Commands of a record, each read at an offset. Operands of two bytes are little-endian.
use Rattle.std.specs.Prelude.{ℕ, ◌+◌, ◌-◌, List, Bool, true, false, ◌&&◌, length, get_or, leb, ltb, eqb, Option, None, Some}
use Rattle.reader.specs.Fields.{Family, DecOne, StrExp, SigExp, Exp, Pat, Ty, forms, first_form}
-- An operand of two bytes.
unfoldable pub use Rattle.text.specs.At.{u16}

-- How many bytes a form's command has: a declaration's has one operand, the first token.
unfoldable pub form_width : Family → ℕ
form_width DecOne = 3
form_width StrExp = 1
form_width SigExp = 1
form_width Exp = 1
form_width Pat = 1
form_width Ty = 1

module _ (rec : List ℕ) where
  -- The command `tag`, `width` bytes with its operands, stands whole at the offset.
  unfoldable pub command : ℕ → ℕ → ℕ → Bool
  command tag width at = leb (at + width) (length rec) && eqb (get_or rec at 0) tag

  -- 0x00: absent.
  unfoldable pub absent_at : ℕ → Bool
  absent_at at = command 0x00 1 at

  -- 0x01 number(u16): a token.
  unfoldable pub token_at : ℕ → Option ℕ
  token_at at = elim (command 0x01 3 at) [ true ↦ Some (u16 rec (at + 1)) | false ↦ None ]

  -- 0x02 count(u16): a list.
  unfoldable pub list_at : ℕ → Option ℕ
  list_at at = elim (command 0x02 3 at) [ true ↦ Some (u16 rec (at + 1)) | false ↦ None ]

  -- 0x03: a group.
  unfoldable pub group_at : ℕ → Bool
  group_at at = command 0x03 1 at

  -- 0x04 which(u8): a choice.
  unfoldable pub choice_at : ℕ → Option ℕ
  choice_at at = elim (command 0x04 2 at) [ true ↦ Some (get_or rec (at + 1) 0) | false ↦ None ]

  -- A form of the family: its number, from 0.
  unfoldable pub form_at : Family → ℕ → Option ℕ
  form_at family at =
      elim (leb (at + form_width family) (length rec)
      && leb (first_form family) (get_or rec at 0)
      && ltb (get_or rec at 0) (first_form family + length (forms family)))
      [ true ↦ Some (get_or rec at 0 - first_form family) | false ↦ None ]

-- The operand of a declaration that has no first token.
abbrev pub no_token : ℕ
no_token = 0xFFFF

-- The operand of the declaration at the offset: its first token.
unfoldable pub first_token : List ℕ → ℕ → Option ℕ
first_token rec at = elim (eqb (u16 rec (at + 1)) no_token) [ true ↦ None | false ↦ Some (u16 rec (at + 1)) ]

-- The command of a declaration: the number of its form, its first token, the place of its fields.
unfoldable pub declaration_at : List ℕ → ℕ → Option (ℕ × Option ℕ × ℕ)
declaration_at rec at =
    elim (form_at rec DecOne at) [ None ↦ None | Some n ↦ Some (n, first_token rec at, at + form_width DecOne) ]
