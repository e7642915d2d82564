-- Laws of the answers of `scan`. Assumes nothing.
use Prim.Native.Nat.{ℕ, ◌*◌, ◌≤◌, ◌<◌}
use mathlib.Core.Path.{◌≡◌, sym, ap, ◌∙◌}
use mathlib.Core.List.{List, ◌++◌}
use lib.ListN.{length, drop}
use Rattle.text.specs.Output.{plain, declined, fitted_plain}
use Rattle.text.proofs.OutputLaws.{fitted-room, fitted_short}
use Rattle.reader.specs.Tokens.{Tokens, count_of}
use Rattle.scanner.specs.Scan.{refused, tokens, read, commands, scan}
use Rattle.scanner.specs.Answers.{verdict_of, written_of, reply_of}
use Rattle.scanner.specs.Promises.Answers.{scanned_in}
use Rattle.scanner.specs.declared.Refusal.{Refusal}
use Rattle.scanner.specs.declared.ScanError.{ScanError}
use Rattle.scanner.specs.declared.ScanError.TheVariants.{Refused, OutputTooShort}
use Rattle.std.specs.Prelude.{Result, Ok, Err}
use Rattle.std.specs.Result.{IsErrAnd}
use Rattle.scanner.proofs.WriteLaws.{length-commands}

-- ---- the call
pub scan-tokens : (text out : List ℕ) {ts : Tokens} → tokens ts ≡ read text → fitted_plain (commands ts.kinds ts.lengths) out ≡ scan text out
unfolding scan
scan-tokens text out e = rw (← e, scan)

pub scan-declined : (text out : List ℕ) {number place : ℕ} → refused number place ≡ read text → declined (plain number place) out ≡ scan text out
unfolding scan
scan-declined text out e = rw (← e, scan)

module _ (text : List ℕ) (ts : Tokens) {r : Result (Unit {0}) Refusal} (s : scanned_in r ts ≡ read text) where
  scan-refused : (out : List ℕ) {why : Refusal} → r ≡ Err why → reply_of (Err (Refused why)) out ≡ scan text out
  unfolding reply_of verdict_of written_of
  scan-refused out e = scan-declined text out (rw e at s)

  -- The refusal that `scan` passes on.
  pub scan-fails : (out : List ℕ) {why : Refusal} (a : Result ℕ ScanError) → r ≡ Err why → IsErrAnd a (λ e. e ≡ Refused why) → reply_of a out ≡ scan text out
  scan-fails out (Ok n) e h = absurd h
  scan-fails out (Err x) e h = ap (λ (y : ScanError). reply_of (Err y) out) h ∙ scan-refused out e

  module _ {done : Unit {0}} (e : r ≡ Ok done) where
    told : tokens ts ≡ read text
    told = rw e at s

    abbrev bytes : List ℕ
    bytes = commands ts.kinds ts.lengths

    module _ (kinds-even : length ts.kinds ≡ count_of ts) (lengths-even : length ts.lengths ≡ count_of ts) where
      size : length bytes ≡ 4 * count_of ts
      size = length-commands ts.kinds ts.lengths (lengths-even ∙ sym kinds-even) ∙ ap (λ (n : ℕ). 4 * n) kinds-even

      pub scan-short : (out : List ℕ) → length out < 4 * count_of ts → reply_of (Err OutputTooShort) out ≡ scan text out
      unfolding reply_of verdict_of written_of
      scan-short out h = sym (fitted_short (plain 0 0) (plain 8 0) bytes out (rw size h)) ∙ scan-tokens text out told

      pub scan-written : (out : List ℕ) {out' : List ℕ} → 4 * count_of ts ≤ length out → out' ≡ bytes ++ drop (4 * count_of ts) out
          → reply_of (Ok (4 * count_of ts)) out' ≡ scan text out
      unfolding reply_of verdict_of written_of
      scan-written out h f =
          rw (f, ← size) (sym (fitted-room (plain 0 0) (plain 8 0) bytes out (rw size h)) ∙ scan-tokens text out told)
