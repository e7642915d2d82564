-- Sheets whose walk stops, and what 13 tells of each. Theorems about the definitions, closed by computation.
use Prim.Native.Nat.{ℕ}
use mathlib.Core.List.{List, ◌++◌}
use mathlib.Core.Path.{refl}
use Rattle.text.specs.Bytes.{bytes}
use Rattle.formatter.specs.Verdict.{verdict, no_measures}
use Rattle.theorems.proofs.Run.{run}
use Rattle.theorems.proofs.Sheets.{hex, pairs, digit, Accepts, Declines, text_k}

-- ---- AppExp asks func, arg, func's first name, arg's first name, and then walks
-- The record of an ExpDec with this expression, which starts at 12. It has no tokens.
abbrev exp_dec : List ℕ → List ℕ
exp_dec exp = hex "02 01 00 03 03 02 01 00 03 21 FF FF" ++ exp ++ hex "00 02 00 00 00"

-- func is a ParenExp with nothing inside, arg's path is empty: the list of the path, not the 00 inside func.
pub empty-path : Declines (bytes "") (exp_dec (hex "4E 48 00 45 00 03 02 00 00")) (verdict 13 18 no_measures)
unfolding run hex pairs digit
empty-path = (refl, λ tab out. refl)

-- func's path and arg are absent: arg.
pub absent_arg : Declines (bytes "") (exp_dec (hex "4E 45 00 00 00")) (verdict 13 16 no_measures)
unfolding run hex pairs digit
absent_arg = (refl, λ tab out. refl)

-- func's path is empty, arg's is absent: func's.
pub func-first : Declines (bytes "") (exp_dec (hex "4E 45 00 03 02 00 00 45 00 00")) (verdict 13 16 no_measures)
unfolding run hex pairs digit
func-first = (refl, λ tab out. refl)

-- Neither is a PathExp: the walk, from func on.
pub walks-func : Declines (bytes "") (exp_dec (hex "4E 48 00 48 00")) (verdict 13 14 no_measures)
unfolding run hex pairs digit
walks-func = (refl, λ tab out. refl)

-- ---- the look for a space behind `op` is no stop, the path behind it is
pub op_path : Declines (bytes "op") (hex "05 00 02 00" ++ exp_dec (hex "45 01 00 00 00")) (verdict 13 20 no_measures)
unfolding run hex pairs digit
op_path = (refl, λ tab out. refl)

-- ---- TupleTy drops the stop of its first type
-- The record of sheet K with this type, which starts at 72.
abbrev rec_k : List ℕ → List ℕ
rec_k ty =
    hex "05 06 04 00 05 00 01 00 05 00 01 00 05 00 01 00 05 00 01 00 05 00 01 00 05 00 01 00 05 00 01 00 05 00 01 00 05 00 01 00 05 00 01 00 05 00 03 00"
    ++ hex "02 01 00 03 03 02 01 00 03 13 00 00 01 00 00 02 01 00 03 00 01 02 00 03"
    ++ ty
    ++ hex "00 02 00 00 00"

-- A further type is absent: that one.
pub absent_star : Declines text_k (rec_k (hex "76 78 00 02 02 00 03 00 03 74 00 03 02 01 00 03 01 0B 00")) (verdict 13 79 no_measures)
unfolding run hex pairs digit
absent_star = (refl, λ tab out. refl)

-- The first type is absent itself.
pub absent-first : Declines text_k (rec_k (hex "76 00 02 01 00 03 74 00 03 02 01 00 03 01 0B 00")) (verdict 13 73 no_measures)
unfolding run hex pairs digit
absent-first = (refl, λ tab out. refl)

-- The first type is a TupleTy that stops behind its own first type: dropped with it.
pub nested : Accepts text_k (rec_k (hex "76 76 78 00 02 01 00 03 00 02 01 00 03 74 00 03 02 01 00 03 01 0B 00")) 0 19 0 2 "type t = ( *  * int"
unfolding run hex pairs digit
nested = (refl, refl)
