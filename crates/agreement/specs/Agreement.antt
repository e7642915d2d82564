-- What it means that the walk over fields of the record agrees with their check.
use Rattle.std.specs.Prelude.{ℕ, ◌+◌, ◌≡◌, List, true, ◌⊎◌, Some}
use Rattle.reader.specs.Fields.{DecOne, Exp}
use Rattle.reader.specs.Forms.{PathExp, exp_number, EsImportDec, dec_number}
use Rattle.reader.specs.Commands.{absent_at, list_at, form_at, form_width}
use Rattle.reader.specs.Check.{Checked, ok}
use Rattle.layout.specs.Meaning.{Page, Outcome, done, stopped, Stop, absent, imported, no_name, op_path_name}

-- The path of a PathExp has no names; its list stands at the place. Of all layouts only AppExp's takes a name with `?`.
abbrev pub EmptyPath : List ℕ → ℕ → Type 0
EmptyPath rec place =
    (at : ℕ) × (form_at rec Exp at ≡ Some (exp_number PathExp)) × (op_path_name rec (at + 1) ≡ no_name place) × (list_at rec place ≡ Some 0)

-- Where a walk may stop on fields that pass: at an absent field, at AppExp's empty path, behind an import's command.
abbrev pub Proper : Page → Stop → Type 0
Proper p (absent place) = (absent_at p.rec place ≡ true) ⊎ EmptyPath p.rec place
Proper p (imported place) = (at : ℕ) × (at + form_width DecOne ≡ place) × (form_at p.rec DecOne at ≡ Some (dec_number EsImportDec))

-- What the check says of fields, against where the walk over them ends. A walk that ends has passed the check, to the same offset.
-- One that stops on fields that pass stops where a walk may.
abbrev pub Agree : Page → Checked → Outcome → Type 0
Agree p c (done next es) = c ≡ ok next
Agree p c (stopped why es) = (end : ℕ) → c ≡ ok end → Proper p why

-- A walk ends at an offset, or stops where a walk may.
abbrev pub EndsAt : Page → ℕ → Outcome → Type 0
EndsAt p end (done next es) = next ≡ end
EndsAt p end (stopped why es) = Proper p why
