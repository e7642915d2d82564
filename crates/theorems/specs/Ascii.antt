-- `check`, `get` and `comment_above` before document 02's Ticket 5, when a text was ASCII: refusals 1 to 4 by `read_ascii`, comments trimmed by
-- `trim_ascii`. All else is as in Verdict and Lookup.
use Rattle.std.specs.Prelude.{ℕ, ◌*◌, List, [], ◌∷◌, ◌++◌, true, false, length, replicate, leb, ltb, None}
use Rattle.text.specs.Bytes.{bytes}
use Rattle.text.specs.WellFormed.{trim_ascii}
use Rattle.reader.specs.Reading.{refused, sheet}
use Rattle.reader.specs.Ascii.{read_ascii}
use Rattle.comments.specs.Above.{found_above}
use Rattle.layout.specs.Meaning.{Page, Event, Word, Token, Comment, Formed, Indent, token_text}
use Rattle.layout.specs.Events.{sum_of, letters_of, deepest, units}
use Rattle.formatter.specs.declared.Measures.{Measures}
use Rattle.formatter.specs.Verdict.{Verdict, verdict, no_measures, Judged, declined, accepted, walked, Result, max_width, put}
use Rattle.formatter.specs.Lookup.{Looked, looked, Asked, asked, told}
use Rattle.formatter.specs.Lookup as Lookup

unfoldable pub trimmed_ascii : Page → ℕ → List ℕ
trimmed_ascii p k = trim_ascii (token_text p k)

unfoldable pub letters_ascii : Page → List Event → ℕ
letters_ascii p es = sum_of (letters_of (λ k. length (token_text p k)) (λ k. length (trimmed_ascii p k))) es

unfoldable pub spelt_ascii : Page → ℕ → Event → List ℕ
spelt_ascii p tab (Word w) = bytes w
spelt_ascii p tab (Token k) = token_text p k
spelt_ascii p tab (Comment k) = trimmed_ascii p k
spelt_ascii p tab (Formed depth) = []
spelt_ascii p tab (Indent depth) = replicate (depth * tab) 32

unfoldable pub formatted_ascii : Page → ℕ → List Event → List ℕ
formatted_ascii p tab [] = []
formatted_ascii p tab (e ∷ es) = spelt_ascii p tab e ++ formatted_ascii p tab es

unfoldable pub measures_ascii : Page → List Event → Measures
measures_ascii p es = record { deepest = deepest es; letters = letters_ascii p es; units = units es }

unfoldable pub judge_ascii : List ℕ → List ℕ → Judged
judge_ascii text rec =
    elim (read_ascii text rec) [
      | refused number place ↦ declined (verdict number place no_measures)
      | sheet tokens tree ↦ walked (record { text = text; rec = rec; tokens = tokens }) tree
    ]

unfoldable pub check_ascii : List ℕ → List ℕ → Verdict
check_ascii text rec = elim (judge_ascii text rec) [ declined v ↦ v | accepted p es ↦ verdict 0 0 (measures_ascii p es) ]

unfoldable pub format_ascii : ℕ → Page → List Event → List ℕ → Result
format_ascii tab p es out =
    elim (leb (deepest es * tab) max_width) [
      | true ↦ put (measures_ascii p es) (formatted_ascii p tab es) out
      | false ↦ record { verdict = verdict 7 0 (measures_ascii p es); out = out }
    ]

unfoldable pub get_ascii : List ℕ → List ℕ → ℕ → List ℕ → Result
get_ascii text rec tab out =
    elim (judge_ascii text rec) [ declined v ↦ record { verdict = v; out = out } | accepted p es ↦ format_ascii tab p es out ]

unfoldable pub ask_ascii : List ℕ → List ℕ → ℕ → Asked
ask_ascii text rec token =
    elim (read_ascii text rec) [
      | refused number place ↦ Lookup.declined (looked number place None)
      | sheet tokens tree ↦ elim (ltb token (length tokens.kinds)) [ true ↦ asked tokens | false ↦ Lookup.declined (looked 9 0 None) ]
    ]

unfoldable pub lookup_ascii : List ℕ → List ℕ → ℕ → Looked
lookup_ascii text rec token =
    elim (ask_ascii text rec token) [ Lookup.declined l ↦ l | asked tokens ↦ told (found_above tokens.kinds token) ]
