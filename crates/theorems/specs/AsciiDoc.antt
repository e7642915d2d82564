-- `doc_comment_above` before document 02's Ticket 5, when a text was ASCII: refusals by `ask_ascii`. All else is as in Doc.
use Rattle.std.specs.Prelude.{ℕ, List, None, Some}
use Rattle.reader.specs.Tokens.{text_of}
use Rattle.comments.specs.Above.{comment_above}
use Rattle.formatter.specs.Lookup.{looked, declined, asked}
use Rattle.theorems.specs.Ascii.{ask_ascii}
use Rattle.doc_comment.specs.Doc.{Doc, doc_of}

unfoldable pub doc_lookup_ascii : List ℕ → List ℕ → ℕ → List ℕ → Doc
doc_lookup_ascii text rec token out =
    elim (ask_ascii text rec token) [
      | declined l ↦ record { answer = l; out = out }
      | asked tokens ↦ elim (comment_above tokens.kinds token) [
        | None ↦ record { answer = looked 0 0 None; out = out }
        | Some k ↦ doc_of (text_of text tokens k) out
      ]
    ]
