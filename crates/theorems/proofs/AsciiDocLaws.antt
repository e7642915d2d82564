-- Document 02, Ticket 5: on ASCII texts `doc_comment_above` answers what it did. Assumes nothing.
use Prim.Native.Nat.{ℕ}
use mathlib.Core.Path.{◌≡◌, ap}
use mathlib.Core.List.{List}
use Rattle.std.specs.Prelude.{None, Some}
use Rattle.text.specs.WellFormed.{Ascii}
use Rattle.reader.specs.Tokens.{text_of}
use Rattle.comments.specs.Above.{comment_above}
use Rattle.formatter.specs.Lookup.{Asked, looked, declined, asked}
use Rattle.theorems.proofs.AsciiLaws.{ask-ascii}
use Rattle.doc_comment.specs.Doc.{Doc, doc_of, doc_lookup}
use Rattle.theorems.specs.AsciiDoc.{doc_lookup_ascii}

-- Number, place, answer and final output.
pub doc-lookup_ascii : (text rec : List ℕ) → Ascii text → (token : ℕ) (out : List ℕ) → doc_lookup text rec token out ≡ doc_lookup_ascii text rec token out
unfolding doc_lookup doc_lookup_ascii
doc-lookup_ascii text rec h token out =
    ap (λ (a : Asked). elim a as (λ z. Doc) [
      | declined l ↦ record { answer = l; out = out }
      | asked tokens ↦ elim (comment_above tokens.kinds token) as (λ z. Doc) [
        | None ↦ record { answer = looked 0 0 None; out = out }
        | Some k ↦ doc_of (text_of text tokens k) out
      ]
    ])
    (ask-ascii text rec h token)
