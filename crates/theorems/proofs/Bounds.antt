-- Without each of the walk's bounds a walk ends at the end of a record that the check refuses. Theorems about the definitions, closed by
-- computation.
use Prim.Native.Nat.{ℕ}
use mathlib.Core.List.{List, ◌++◌}
use Rattle.std.specs.Prelude.{Option, None, Some}
use mathlib.Core.Path.{◌≡◌, refl}
use lib.ListN.{length, replicate}
use Rattle.text.specs.Utf8.{boundary}
use Rattle.text.specs.Bytes.{bytes}
use Rattle.reader.specs.Tokens.{tiled, untiled, tokens}
use Rattle.layout.specs.Meaning.{done, stopped}
use Rattle.agreement.specs.Unbounded as Unbounded
use Rattle.formatter.specs.Verdict.{Verdict, verdict, no_measures, check}
use Rattle.theorems.proofs.Run.{run}
use Rattle.theorems.proofs.Sheets.{hex, pairs, digit, text_a}

-- Where the walk without bounds ends.
unfoldable pub end_of : List ℕ → List ℕ → Option ℕ
end_of text rec =
    elim (tokens (boundary text) (length text) rec) [
      | tiled ts tree ↦ elim (Unbounded.walk (record { text = text; rec = rec; tokens = ts }) tree)
          [ done end es ↦ Some end | stopped why es ↦ None ]
      | untiled place ↦ None
    ]

-- The check refuses the record; the walk without bounds ends at its end.
abbrev pub Astray : List ℕ → List ℕ → Verdict → Type 0
Astray text rec v = (check text rec ≡ v) × (end_of text rec ≡ Some (length rec))

-- Sheet A with token 7 for its number, of seven tokens.
pub token_bound : Astray text_a
    (hex "05 04 03 00 05 00 01 00 05 00 01 00 05 00 01 00 05 00 01 00 05 00 01 00 05 00 01 00"
    ++ hex "02 01 00 03 03 02 01 00 03 11 00 00 02 01 00 03 00 62 00 03 02 01 00 03 01 02 00 00 03 44 01 07 00 00 02 00 00 00")
    (verdict 3 58 no_measures)
unfolding run end_of hex pairs digit
token_bound = (refl, refl)

-- Sheet A with 7 for its declaration's first token.
pub operand_bound : Astray text_a
    (hex "05 04 03 00 05 00 01 00 05 00 01 00 05 00 01 00 05 00 01 00 05 00 01 00 05 00 01 00"
    ++ hex "02 01 00 03 03 02 01 00 03 11 07 00 02 01 00 03 00 62 00 03 02 01 00 03 01 02 00 00 03 44 01 06 00 00 02 00 00 00")
    (verdict 3 37 no_measures)
unfolding run end_of hex pairs digit
operand_bound = (refl, refl)

-- A TyDec with a TupleTy, whose first type is an FnTy without a parameter and with a result of 198 types inside one another.
pub dropped_bound : Astray (bytes "a")
    (hex "05 00 01 00"
    ++ hex "02 01 00 03 03 02 01 00 03 13 FF FF 01 00 00 02 01 00 03 00 01 00 00 03 76 77 00"
    ++ replicate 197 0x78
    ++ hex "70 02 00 00 00 02 00 00 00")
    (verdict 4 228 no_measures)
unfolding run end_of hex pairs digit
dropped_bound = (refl, refl)
