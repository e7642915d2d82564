-- The answers of the exported calls, as numbers.
use Rattle.std.specs.Prelude.{ℕ, ◌≡◌, List, [], ◌∷◌, Option, None, Some}
use Rattle.text.specs.Output.{Plain, Reply}
use Rattle.scanner.specs.Scan.{scan}
use Rattle.formatter.specs.Lookup.{Looked}
use Rattle.formatter.specs.Verdict.{Verdict, get}
use Rattle.doc_comment.specs.Doc.{doc_lookup}

-- None is the largest u64.
abbrev pub or_none : Option ℕ → ℕ
or_none None = 0xFFFF_FFFF_FFFF_FFFF
or_none (Some k) = k

-- Number, place, the token numbers of the comment and of the keyword that was passed.
abbrev pub comment_numbers : Looked → List ℕ
comment_numbers l = l.number ∷ l.place ∷ or_none l.answer ∷ or_none l.keyword ∷ []

-- Number, place, and the length of the doc text.
abbrev pub doc_numbers : Looked → List ℕ
doc_numbers l = l.number ∷ l.place ∷ or_none l.answer ∷ []

-- Number, place, deepest, letters, units, then the words of the set of comments left.
abbrev pub verdict_numbers : Verdict → List ℕ
verdict_numbers v = v.number ∷ v.place ∷ v.measures.deepest ∷ v.measures.letters ∷ v.measures.units ∷ v.left

-- Number, place, and the bytes written.
abbrev pub reply_numbers : Reply Plain → List ℕ
reply_numbers r = r.verdict.number ∷ r.verdict.place ∷ r.written ∷ []

-- Contract: the doc lookup's answer and the final output.
pub record DocOut (text rec : List ℕ) (token : ℕ) (out out' answer : List ℕ) : Type 0 where
  pub numbers : answer ≡ doc_numbers (doc_lookup text rec token out).answer
  pub written : out' ≡ (doc_lookup text rec token out).out

-- Contract: the verdict of formatting and the final output.
pub record GetOut (text rec : List ℕ) (tab : ℕ) (out out' answer : List ℕ) : Type 0 where
  pub numbers : answer ≡ verdict_numbers (get text rec tab out).verdict
  pub written : out' ≡ (get text rec tab out).out

-- Contract: the scanner's reply and the final output.
pub record ScanOut (text out out' answer : List ℕ) : Type 0 where
  pub numbers : answer ≡ reply_numbers (scan text out)
  pub written : out' ≡ (scan text out).out
