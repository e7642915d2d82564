-- Document 01, module 6, and document 02, Ticket 4: the verdicts of `check` and `get` and the final output, for every input.
use Rattle.std.specs.Prelude.{ℕ, ◌-◌, ◌*◌, List, ◌++◌, true, false, length, get_or, drop, replicate, leb, None, Some}
use Rattle.reader.specs.Fields.{DecOne}
use Rattle.reader.specs.Commands.{form_width}
use Rattle.std.specs.Prelude as Std
use Rattle.reader.specs.Reading.{refused, sheet, read}
use Rattle.reader.specs.Reading as Reading
use Rattle.comments.specs.Set.{words_of, first}
use Rattle.layout.specs.Meaning.{Page, Event, Stop, absent, imported, done, stopped}
use Rattle.layout.specs.Walk.{walk}
use Rattle.layout.specs.Events.{deepest, letters, units, formatted, is_left}
use Rattle.layout.specs.declared.Stop.TheVariants.{Absent, Import}
use Rattle.formatter.specs.declared.Measures.{Measures}
use Rattle.formatter.specs.declared.FormatError.{FormatError}
use Rattle.formatter.specs.declared.FormatError.TheVariants.{Refused, Stopped, CommentsLeft, IndentTooWide, OutputTooShort}

-- A verdict (document 01): number, place, measures, and the words of the set of comments left.
pub record Verdict : Type 0 where
  pub number : ℕ
  pub place : ℕ
  pub measures : Measures
  pub left : List ℕ

abbrev pub no_measures : Measures
no_measures = record { deepest = 0; letters = 0; units = 0 }

abbrev pub empty_set : List ℕ
empty_set = replicate 64 0

-- A verdict whose set is empty.
abbrev pub verdict : ℕ → ℕ → Measures → Verdict
verdict number place m = record { number = number; place = place; measures = m; left = empty_set }

unfoldable pub measures_of : Page → List Event → Measures
measures_of p es = record { deepest = deepest es; letters = letters p es; units = units es }

-- What the sheet alone decides: a refusal, or the page and the events of the walk over it.
pub data Judged : Type 0 where
  declined : Verdict → Judged
  accepted : Page → List Event → Judged

-- 6, where comments are left: the place is the text offset of the first.
unfoldable pub comments : Page → List Event → Judged
comments p es =
    elim (first (is_left p.tokens.kinds es) 0 (length p.tokens.kinds)) [
      | Some k ↦ declined
          (record { number = 6; place = get_or p.tokens.starts k 0; measures = no_measures; left = words_of (is_left p.tokens.kinds es) })
      | None ↦ accepted p es
    ]

-- 13 at the part that is absent; 14 at the import's command, behind which the walk stops.
unfoldable pub stop_verdict : Stop → Verdict
stop_verdict (absent place) = verdict 13 place no_measures
stop_verdict (imported next) = verdict 14 (next - form_width DecOne) no_measures

-- 13 and 14, then 6.
unfoldable pub walked : Page → ℕ → Judged
walked p tree = elim (walk p tree) [ done end es ↦ comments p es | stopped why es ↦ declined (stop_verdict why) ]

-- 1 to 4, then 13, 14 and 6.
unfoldable pub judge : List ℕ → List ℕ → Judged
judge text rec =
    elim (read text rec) [
      | refused number place ↦ declined (verdict number place no_measures)
      | sheet tokens tree ↦ walked (record { text = text; rec = rec; tokens = tokens }) tree
    ]

-- The check has no output.
unfoldable pub check : List ℕ → List ℕ → Verdict
check text rec = elim (judge text rec) [ declined v ↦ v | accepted p es ↦ verdict 0 0 (measures_of p es) ]

-- A verdict and the final output.
pub record Result : Type 0 where
  pub verdict : Verdict
  pub out : List ℕ

abbrev result : Verdict → List ℕ → Result
result v out = record { verdict = v; out = out }

abbrev pub max_width : ℕ
max_width = 4_294_967_295

-- 8, or the formatted text in the output's first bytes and the rest unchanged.
unfoldable pub put : Measures → List ℕ → List ℕ → Result
put m text out =
    elim (leb (length text) (length out))
    [ true ↦ result (verdict 0 0 m) (text ++ drop (length text) out) | false ↦ result (verdict 8 0 m) out ]

-- 7, then 8.
unfoldable pub format : ℕ → Page → List Event → List ℕ → Result
format tab p es out =
    elim (leb (deepest es * tab) max_width)
    [ true ↦ put (measures_of p es) (formatted p tab es) out | false ↦ result (verdict 7 0 (measures_of p es)) out ]

-- Formatting at a tab size.
unfoldable pub get : List ℕ → List ℕ → ℕ → List ℕ → Result
get text rec tab out = elim (judge text rec) [ declined v ↦ result v out | accepted p es ↦ format tab p es out ]

-- The number of the documents for each error.
abbrev pub number_of : FormatError → ℕ
number_of (Refused why) = Reading.number_of why
number_of (Stopped (Absent at)) = 13
number_of (Stopped (Import at)) = 14
number_of (CommentsLeft at) = 6
number_of (IndentTooWide m) = 7
number_of (OutputTooShort m) = 8

-- The place of each error.
abbrev pub place_of : FormatError → ℕ
place_of (Refused why) = Reading.place_of why
place_of (Stopped (Absent at)) = at
place_of (Stopped (Import at)) = at
place_of (CommentsLeft at) = at
place_of (IndentTooWide m) = 0
place_of (OutputTooShort m) = 0

-- The measures that an error gives.
abbrev pub given_measures : FormatError → Measures
given_measures (Refused why) = no_measures
given_measures (Stopped why) = no_measures
given_measures (CommentsLeft at) = no_measures
given_measures (IndentTooWide m) = m
given_measures (OutputTooShort m) = m

-- The verdict that an answer and the words beside it stand for.
abbrev pub verdict_of : Std.Result Measures FormatError → List ℕ → Verdict
verdict_of (Std.Ok m) words = record { number = 0; place = 0; measures = m; left = words }
verdict_of (Std.Err why) words =
    record { number = number_of why; place = place_of why; measures = given_measures why; left = words }
