-- Contracts of the functions that print.
use Rattle.std.specs.Prelude.{ℕ, ◌+◌, ◌*◌, ◌≤◌, ◌≡◌, true, false, List, [], ◌++◌, length, take, drop, eqb, Ok}
use Rattle.std.specs.Prelude as Std
use Rattle.formatter.specs.declared.Measures.{Measures}
use Rattle.formatter.specs.declared.FormatError.{FormatError}
use Rattle.formatter.specs.Verdict.{Verdict, Result, empty_set, verdict_of}
use Rattle.program.specs.Program.{line}

-- The length of the longest line: five numbers of 20 digits, a byte behind each.
abbrev pub max_line : ℕ
max_line = 105

-- What an answer of formatting says.
abbrev pub Answer : Type 0
Answer = Std.Result Measures FormatError

-- The verdict of an answer; the set is not printed.
abbrev pub said : Answer → Verdict
said a = verdict_of a empty_set

-- An answer and the output beside it.
abbrev pub said_with : Answer → List ℕ → Result
said_with a out = record { verdict = said a; out = out }

-- The line of a result, then the text that it says stands in the output's first bytes.
unfoldable pub shown : ℕ → Result → List ℕ
shown tab r =
    line r.verdict
    ++ elim (eqb r.verdict.number 0)
    [ true ↦ take (r.verdict.measures.letters + tab * r.verdict.measures.units) r.out | false ↦ [] ]

-- The text of an answer that accepts lies within the output.
abbrev pub TextWithin : ℕ → Answer → List ℕ → Type 0
TextWithin tab a out = (m : Measures) → a ≡ Ok m → m.letters + tab * m.units ≤ length out

-- Contract: bytes written from an offset on, the rest as it was. The answer is the offset behind them.
pub record Puts (out : List ℕ) (at : ℕ) (new out' : List ℕ) (r : ℕ) : Type 0 where
  pub next : r ≡ at + length new
  pub written : out' ≡ take at out ++ new ++ drop r out

-- Contract: the line of a verdict, written at the start.
pub record PutsLine (out : List ℕ) (v : Verdict) (out' : List ℕ) (r : ℕ) : Type 0 where
  pub puts : Puts out 0 (line v) out' r
  pub short : r ≤ max_line
