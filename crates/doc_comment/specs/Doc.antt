-- `doc_comment_above` of 001: the doc text of the comment above a token.
use Rattle.std.specs.Prelude.{ℕ, List, [], ◌∷◌, ◌++◌, reverse, true, false, length, drop, leb, eqb, Option, None, Some, Result, Ok, Err}
use Rattle.text.specs.Bytes.{bytes, same_bytes}
use Rattle.reader.specs.Tokens.{text_of}
use Rattle.comments.specs.Above.{comment_above}
use Rattle.formatter.specs.Lookup as Lookup
use Rattle.formatter.specs.Lookup.{Looked, looked, declined, asked, ask}
use Rattle.doc_comment.specs.declared.OutputTooShort.{OutputTooShort}
use Rattle.doc_comment.specs.declared.DocError.{DocError}
use Rattle.doc_comment.specs.declared.DocError.TheVariants as Why

-- A line, read backwards, without the carriage return at its end.
unfoldable pub without_return : List ℕ → List ℕ
without_return [] = []
without_return (b ∷ bs) = elim (eqb b 13) [ true ↦ bs | false ↦ b ∷ bs ]

-- The text cut after each line feed, which a line loses, and one carriage return right before that.
-- `line` is what was read of the current line, backwards.
unfoldable pub lines_from : List ℕ → List ℕ → List (List ℕ)
lines_from [] [] = []
lines_from (b ∷ line) [] = reverse (b ∷ line) ∷ []
lines_from line (b ∷ bs) =
    elim (eqb b 10) [ true ↦ reverse (without_return line) ∷ lines_from [] bs | false ↦ lines_from (b ∷ line) bs ]

-- What follows the first asterisk of a line.
unfoldable pub after_asterisk : List ℕ → Option (List ℕ)
after_asterisk [] = None
after_asterisk (b ∷ bs) = elim (eqb b 42) [ true ↦ Some bs | false ↦ after_asterisk bs ]

-- A line less one leading space.
unfoldable pub without_space : List ℕ → List ℕ
without_space [] = []
without_space (b ∷ bs) = elim (eqb b 32) [ true ↦ bs | false ↦ b ∷ bs ]

-- Lines without an asterisk are dropped; of the others stands what follows it, less one leading space.
unfoldable pub starred : List (List ℕ) → List (List ℕ)
starred [] = []
starred (line ∷ more) = elim (after_asterisk line) [ None ↦ starred more | Some rest ↦ without_space rest ∷ starred more ]

-- Lines joined by line feeds.
unfoldable pub joined : List (List ℕ) → List ℕ
joined [] = []
joined (line ∷ []) = line
joined (line ∷ next ∷ more) = line ++ 10 ∷ joined (next ∷ more)

-- The lines before the last, where that is `)`; `back` has them in reverse.
unfoldable pub closed : List (List ℕ) → Option (List ℕ)
closed [] = None
closed (last ∷ back) = elim (same_bytes last (bytes ")")) [ true ↦ Some (joined (reverse back)) | false ↦ None ]

-- At least two lines are left, the first is `!` and the last `)`: those between.
unfoldable pub opened : List (List ℕ) → Option (List ℕ)
opened [] = None
opened (line ∷ more) = elim (same_bytes line (bytes "!")) [ true ↦ closed (reverse more) | false ↦ None ]

-- The doc text of a comment's untrimmed text.
unfoldable pub doc_text : List ℕ → Option (List ℕ)
doc_text comment = opened (starred (lines_from [] comment))

-- The lookup's answer and the final output.
pub record Doc : Type 0 where
  pub answer : Looked
  pub out : List ℕ

abbrev doc : Looked → List ℕ → Doc
doc l out = record { answer = l; out = out }

-- 8, or the doc text in the output's first bytes and the rest unchanged.
unfoldable pub put : List ℕ → List ℕ → Doc
put text out =
    elim (leb (length text) (length out))
    [ true ↦ doc (looked 0 0 (Some (length text))) (text ++ drop (length text) out) | false ↦ doc (looked 8 0 None) out ]

-- The doc text of a comment in the output's first bytes; finding none, the output is unchanged.
unfoldable pub doc_of : List ℕ → List ℕ → Doc
doc_of comment out = elim (doc_text comment) [ None ↦ doc (looked 0 0 None) out | Some found ↦ put found out ]

-- What an answer of `doc_text` and the final output stand for.
unfoldable pub doc_said : Result (Option ℕ) OutputTooShort → List ℕ → Doc
doc_said (Ok answer) out = doc (looked 0 0 answer) out
doc_said (Err e) out = doc (looked 8 0 None) out

-- `doc_comment_above` of a token.
unfoldable pub doc_lookup : List ℕ → List ℕ → ℕ → List ℕ → Doc
doc_lookup text rec token out =
    elim (ask text rec token) [
      | declined l ↦ doc l out
      | asked tokens ↦ elim (comment_above tokens.kinds token) [
        | None ↦ doc (looked 0 0 None) out
        | Some k ↦ doc_of (text_of text tokens k) out
      ]
    ]

-- The number of the documents for each error.
abbrev pub number_of : DocError → ℕ
number_of (Why.Lookup why) = Lookup.number_of why
number_of Why.OutputTooShort = 8

-- The place of each error.
abbrev pub place_of : DocError → ℕ
place_of (Why.Lookup why) = Lookup.place_of why
place_of Why.OutputTooShort = 0

-- What an answer of `doc_comment_above` stands for; with the final output.
abbrev pub looked_of : Result (Option ℕ) DocError → Looked
looked_of (Ok answer) = looked 0 0 answer
looked_of (Err why) = looked (number_of why) (place_of why) None

abbrev pub doc_looked : Result (Option ℕ) DocError → List ℕ → Doc
doc_looked r out = doc (looked_of r) out
