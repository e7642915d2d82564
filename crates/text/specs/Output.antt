-- Document 02, Ticket 2: what a call with an output gives. "A call with an output also gives the bytes written, and a declined call
-- changes no lent memory and gives 0 or none beside its verdict."
use Rattle.std.specs.Prelude.{ℕ, List, ◌++◌, true, false, length, drop, leb}

-- A verdict that has neither measures nor a set: number and place.
pub record Plain : Type 0 where
  pub number : ℕ
  pub place : ℕ

abbrev pub plain : ℕ → ℕ → Plain
plain number place = record { number = number; place = place }

-- The verdict, how many bytes were written, and the final output.
pub record Reply (Verdict : Type 0) : Type 0 where
  pub verdict : Verdict
  pub written : ℕ
  pub out : List ℕ

-- Nothing is written.
abbrev pub declined : {Verdict : Type 0} → Verdict → List ℕ → Reply Verdict
declined v out = record { verdict = v; written = 0; out = out }

-- The bytes stand first in the output, the rest of it is unchanged.
abbrev pub accepted : {Verdict : Type 0} → Verdict → List ℕ → List ℕ → Reply Verdict
accepted v bytes out = record { verdict = v; written = length bytes; out = bytes ++ drop (length bytes) out }

-- Accepted where the bytes fit into the output; else declined, by a verdict of number 8.
unfoldable pub fitted : {Verdict : Type 0} → Verdict → Verdict → List ℕ → List ℕ → Reply Verdict
fitted v no_room bytes out = elim (leb (length bytes) (length out)) [ true ↦ accepted v bytes out | false ↦ declined no_room out ]

-- Accepted is 0 at 0, an output that is too short 8 at 0.
abbrev pub fitted_plain : List ℕ → List ℕ → Reply Plain
fitted_plain bytes out = fitted (plain 0 0) (plain 8 0) bytes out
