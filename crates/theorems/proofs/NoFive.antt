-- No call gives 5, and the program prints none (document 02, Ticket 4), for every input. Each theorem stands under its sentence.
use Prim.Native.Nat.{ℕ, zero, suc, ◌+◌}
use native.Mathlib.Omega.{arith}
use mathlib.Core.Path.{◌≡◌, refl, sym}
use mathlib.Core.Bool.{Bool, true, false}
use mathlib.Core.List.{List, [], ◌∷◌, ◌++◌, append-nil}
use Rattle.std.specs.Prelude.{Option, None, Some}
use lib.ListN.{length, drop, take, replicate}
use lib.Dec.{leb, eqb}
use Rattle.text.specs.Utf8.{first_broken}
use Rattle.text.specs.Output.{fitted}
use Rattle.reader.specs.Reading.{max_text}
use Rattle.reader.specs.Tokens.{Tokens, text_of, max_tokens}
use Rattle.comments.specs.Above.{comment_above}
use Rattle.scanner.specs.Lexical.{longest}
use Rattle.scanner.specs.Scan.{Scanned, refused, tokens, number_at, before, scan_from, scan_text, limited, read, commands, scan}
use Rattle.formatter.specs.Verdict.{Verdict, verdict, no_measures, check, get}
use Rattle.formatter.specs.Lookup.{Asked, declined, asked, ask, lookup}
use Rattle.theorems.proofs.Stops.{check-not-5, get-not-5, ask-not-5, lookup-not-5}
use Rattle.doc_comment.specs.Doc.{doc_text, put, doc_of, doc_lookup}
use Rattle.program.specs.Program.{line, room, printed, line_of, format_input, head_length, tab_size, text_length, program}

-- ---- the doc lookup
put_not_5 : (text out : List ℕ) → (put text out).answer.number ≡ 5 → ⊥
unfolding put
put_not_5 text out = go (leb (length text) (length out)) refl
  where
    go : (b : Bool) → leb (length text) (length out) ≡ b → (put text out).answer.number ≡ 5 → ⊥
    go true e = rw (e, put) (λ f. omega (arith, f))
    go false e = rw (e, put) (λ f. omega (arith, f))

doc_of_not_5 : (comment out : List ℕ) → (doc_of comment out).answer.number ≡ 5 → ⊥
unfolding doc_of
doc_of_not_5 comment out = go (doc_text comment) refl
  where
    go : (o : Option (List ℕ)) → doc_text comment ≡ o → (doc_of comment out).answer.number ≡ 5 → ⊥
    go None e = rw (e, doc_of) (λ f. omega (arith, f))
    go (Some found) e = rw (e, doc_of) (put_not_5 found out)

-- `doc_comment_above` never gives 5.
pub doc_not_5 : (text rec : List ℕ) (token : ℕ) (out : List ℕ) → (doc_lookup text rec token out).answer.number ≡ 5 → ⊥
unfolding doc_lookup
doc_not_5 text rec token out = go (ask text rec token) refl
  where
    found : (ts : Tokens) → ask text rec token ≡ asked ts → (o : Option ℕ) → comment_above ts.kinds token ≡ o
        → (doc_lookup text rec token out).answer.number ≡ 5 → ⊥
    found ts e None f = rw (e, f, doc_lookup) (λ g. omega (arith, g))
    found ts e (Some k) f = rw (e, f, doc_lookup) (doc_of_not_5 (text_of text ts k) out)

    go : (a : Asked) → ask text rec token ≡ a → (doc_lookup text rec token out).answer.number ≡ 5 → ⊥
    go (declined l) e = rw (e, doc_lookup) (ask-not-5 text rec token e)
    go (asked ts) e = found ts e (comment_above ts.kinds token) refl

-- ---- the scanner
abbrev IsNot5 : Scanned → Type 0
IsNot5 (refused number place) = number ≡ 5 → ⊥
IsNot5 (tokens ts) = Unit {0}

number_not_5 : (b : ℕ) → number_at b ≡ 5 → ⊥
unfolding number_at
number_not_5 b = go (eqb b 40) (eqb b 34) refl refl
  where
    go : (c d : Bool) → eqb b 40 ≡ c → eqb b 34 ≡ d → number_at b ≡ 5 → ⊥
    go true d e f = rw (e, number_at) (λ g. omega (arith, g))
    go false true e f = rw (e, f, number_at) (λ g. omega (arith, g))
    go false false e f = rw (e, f, number_at) (λ g. omega (arith, g))

before_not_5 : (kind start len : ℕ) (s : Scanned) → IsNot5 s → IsNot5 (before kind start len s)
unfolding before
before_not_5 kind start len (refused number place) f = f
before_not_5 kind start len (tokens ts) f = tt

from_not_5 : (text : List ℕ) (inside at : ℕ) → IsNot5 (scan_from inside at text)
unfolding scan_from
from_not_5 [] inside at = tt
from_not_5 (b ∷ rest) (suc inside) at = from_not_5 rest inside (suc at)
from_not_5 (b ∷ rest) zero at = go (longest (b ∷ rest)) refl (λ n. from_not_5 rest n (suc at))
  where
    go : (n : ℕ) → longest (b ∷ rest) ≡ n → ((k : ℕ) → IsNot5 (scan_from k (suc at) rest)) → IsNot5 (scan_from zero at (b ∷ rest))
    go zero e more = rw (e, scan_from) (number_not_5 b)
    go (suc n) e more = rw (e, scan_from) (before_not_5 _ _ _ _ (more n))

limited_not_5 : (s : Scanned) → IsNot5 s → IsNot5 (limited s)
unfolding limited
limited_not_5 (refused number place) f = f
limited_not_5 (tokens ts) f = go (leb (length ts.kinds) max_tokens) refl
  where
    go : (b : Bool) → leb (length ts.kinds) max_tokens ≡ b → IsNot5 (limited (tokens ts))
    go true e = rw (e, limited) tt
    go false e = rw (e, limited) (λ g. omega (arith, g))

read_not_5 : (text : List ℕ) → IsNot5 (read text)
unfolding read scan_text
read_not_5 text = go (leb (length text) max_text) (first_broken text) refl refl
  where
    go : (b : Bool) (o : Option ℕ) → leb (length text) max_text ≡ b → first_broken text ≡ o → IsNot5 (read text)
    go false o e f = rw (e, read) (λ g. omega (arith, g))
    go true None e f = rw (e, f, read) (limited_not_5 (scan_text text) (from_not_5 text 0 0))
    go true (Some place) e f = rw (e, f, read) (λ g. omega (arith, g))

-- The scanner never gives 5.
pub scan_not_5 : (text out : List ℕ) → (scan text out).verdict.number ≡ 5 → ⊥
unfolding scan fitted
scan_not_5 text out = go (read text) refl
  where
    fits : (bytes : List ℕ) (b : Bool) → leb (length bytes) (length out) ≡ b → (ts : Tokens) → read text ≡ tokens ts → bytes ≡ commands ts.kinds ts.lengths
        → (scan text out).verdict.number ≡ 5 → ⊥
    fits bytes true e ts f i = rw (f, scan, ← i, fitted, e) (λ g. omega (arith, g))
    fits bytes false e ts f i = rw (f, scan, ← i, fitted, e) (λ g. omega (arith, g))

    go : (s : Scanned) → read text ≡ s → (scan text out).verdict.number ≡ 5 → ⊥
    go (refused number place) e = rw (e, scan) (rw e at (read_not_5 text))
    go (tokens ts) e = fits _ _ refl ts e refl

-- ---- all calls
-- No call of the archive gives 5.
pub no_call_gives_5 : (text rec : List ℕ) (tab token : ℕ) (out : List ℕ)
    → ((check text rec).number ≡ 5 → ⊥)
    × ((get text rec tab out).verdict.number ≡ 5 → ⊥)
    × ((lookup text rec token).number ≡ 5 → ⊥)
    × ((doc_lookup text rec token out).answer.number ≡ 5 → ⊥)
    × ((scan text out).verdict.number ≡ 5 → ⊥)
no_call_gives_5 text rec tab token out =
    (check-not-5 text rec, get-not-5 text rec tab out, lookup-not-5 text rec token, doc_not_5 text rec token out, scan_not_5 text out)

-- ---- the program
-- Printed bytes: the line of a verdict whose number is not 5, then more.
abbrev PrintsNot5 : List ℕ → Type 0
PrintsNot5 bytes = (v : Verdict) × (more : List ℕ) × (bytes ≡ line v ++ more) × (v.number ≡ 5 → ⊥)

printed_not_5 : (tab : ℕ) (text rec : List ℕ) → PrintsNot5 (printed tab text rec)
unfolding printed line_of
printed_not_5 tab text rec = ((get text rec tab (replicate room 0)).verdict, _, refl, get-not-5 text rec tab (replicate room 0))

-- The line that the program prints never has the number 5.
pub program_not_5 : (input : List ℕ) → PrintsNot5 (program input)
unfolding program format_input
program_not_5 input = go (leb (head_length + text_length input) (length input)) refl
  where
    go : (b : Bool) → leb (head_length + text_length input) (length input) ≡ b → PrintsNot5 (program input)
    go true e = rw (e, program) (printed_not_5 (tab_size input) (take (text_length input) (drop head_length input)) (drop (text_length input) (drop head_length input)))
    go false e = rw (e, program) (verdict 1 0 no_measures, [], sym (append-nil (line (verdict 1 0 no_measures))), λ g. omega (arith, g))
