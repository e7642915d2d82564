-- What the code's names and answers stand for when it reads a command.
use Rattle.std.specs.Prelude.{ℕ, ◌+◌, List, true, false, length, Option, None, Some}
use Rattle.reader.specs.declared.commands.Family as Code
use Rattle.reader.specs.declared.commands.Family.TheVariants as Case
use Rattle.reader.specs.declared.commands.Facts.{Facts}
use Rattle.reader.specs.declared.commands.Declaration.{Declaration}
use Rattle.reader.specs.Fields.{Family, DecOne, StrExp, SigExp, Exp, Pat, Ty, forms, first_form}
use Rattle.reader.specs.Promises.Grammar.{first_row}
use Rattle.reader.specs.Commands.{form_width, u16, command}

-- The family that the code names.
abbrev pub family_of : Code.Family → Family
family_of Case.DecOne = DecOne
family_of Case.StrExp = StrExp
family_of Case.SigExp = SigExp
family_of Case.Exp = Exp
family_of Case.Pat = Pat
family_of Case.Ty = Ty

-- What the forms of a family have in common.
unfoldable pub facts_of : Family → Facts
facts_of family =
    record { first = first_form family; count = length (forms family); width = form_width family; row = first_row family }

-- The operand of the command `tag`, which has one of two bytes.
unfoldable pub operand_at : ℕ → List ℕ → ℕ → Option ℕ
operand_at tag rec at = elim (command rec tag 3 at) [ true ↦ Some (u16 rec (at + 1)) | false ↦ None ]

-- What an answer says of a declaration's command: the number of its form, its first token, the place of its fields.
unfoldable pub declaration_in : Option Declaration → Option (ℕ × Option ℕ × ℕ)
declaration_in (Some d) = Some (d.number, d.first, d.next)
declaration_in None = None
