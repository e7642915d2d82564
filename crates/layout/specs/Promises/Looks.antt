-- What the answers to questions about the record stand for: names, and what AppExp sees of its expressions.
use Rattle.std.specs.Prelude.{ℕ, ◌+◌, List, Option, None, Some, Result, Ok, Err}
use Rattle.reader.specs.Fields.{Exp}
use Rattle.reader.specs.Commands.{form_at}
use Rattle.layout.specs.declared.Stop.{Stop}
use Rattle.layout.specs.declared.Stop.TheVariants.{Absent}
use Rattle.layout.specs.declared.names.Name as Code
use Rattle.layout.specs.Meaning as Meaning
use Rattle.layout.specs.Meaning.{Name, name, no_name, Head, path_exp, other_exp, Seen, seen, unseen, Heads, both, missing}

-- The first name of a path and how many it has, or the part that is absent.
unfoldable pub named : Name → Result Code.Name Stop
named (name k n) = Ok (record { token = k; names = n })
named (no_name place) = Err (Absent place)

abbrev pub dot_name_of : List ℕ → ℕ → ℕ → Result Code.Name Stop
dot_name_of rec n at = named (Meaning.dot_name rec n at)

abbrev pub list_name_of : List ℕ → ℕ → Result Code.Name Stop
list_name_of rec at = named (Meaning.list_name rec at)

abbrev pub name_of : List ℕ → ℕ → Result Code.Name Stop
name_of rec at = named (Meaning.path_name rec at)

abbrev pub op_name_of : List ℕ → ℕ → Result Code.Name Stop
op_name_of rec at = named (Meaning.op_path_name rec at)

-- What is seen of an expression, by the name of one that is a path.
unfoldable pub seen_as : Option Code.Name → Head
seen_as (Some n) = path_exp n.token n.names
seen_as None = other_exp

-- The name of an expression that is a path, or none.
unfoldable pub head : Head → Option Code.Name
head (path_exp k n) = Some (record { token = k; names = n })
head other_exp = None

unfoldable pub seen_of : Seen → Result (Option Code.Name) Stop
seen_of (seen h) = Ok (head h)
seen_of (unseen place) = Err (Absent place)

unfoldable pub heads_of : Heads → Result (Option Code.Name × Option Code.Name) Stop
heads_of (both f a) = Ok (head f, head a)
heads_of (missing place) = Err (Absent place)

abbrev pub head_of : List ℕ → ℕ → ℕ → Result (Option Code.Name) Stop
head_of rec n fields = seen_of (Meaning.head_of rec n fields)

-- What AppExp sees of its expressions; the first one's fields and the second one stand at these offsets.
unfoldable pub heads_from : List ℕ → ℕ → ℕ → ℕ → Result (Option Code.Name × Option Code.Name) Stop
heads_from rec n fields arg =
    heads_of
    (elim (form_at rec Exp arg)
    [ Some m ↦ Meaning.both_seen (Meaning.head_of rec n fields) (Meaning.head_of rec m (arg + 1)) | None ↦ missing arg ])

-- The first stands at an offset, where its walk ended at another.
unfoldable pub seen_behind : List ℕ → ℕ → ℕ → Heads
seen_behind rec func arg =
    elim (form_at rec Exp func) [ Some n ↦ Meaning.heads_from rec n func arg | None ↦ missing func ]

abbrev pub heads_behind : List ℕ → ℕ → ℕ → Result (Option Code.Name × Option Code.Name) Stop
heads_behind rec func arg = heads_of (seen_behind rec func arg)

abbrev pub heads_at : List ℕ → ℕ → ℕ → Result (Option Code.Name × Option Code.Name) Stop
heads_at rec count func = heads_of (Meaning.heads_at rec count func)

-- Where AppExp goes on whose first expression gave an answer: what it asks for before it walks into that goes first.
unfoldable pub asked_first : List ℕ → ℕ → ℕ → Result ℕ Stop → Result ℕ Stop
asked_first rec count func answer = elim (heads_at rec count func) [ Ok heads ↦ answer | Err why ↦ Err why ]
