-- What the answers of the code stand for, and the contracts of its functions.
use Rattle.std.specs.Prelude.{ℕ, List, Result, Ok, Err}
use Rattle.text.specs.Output.{Plain, plain, Reply}
use Rattle.scanner.specs.declared.Refusal.{Refusal}
use Rattle.scanner.specs.declared.Refusal.TheVariants.{TooLong, NotUtf8, OpenComment, NoString, BeginsNoToken}
use Rattle.scanner.specs.declared.ScanError.{ScanError}
use Rattle.scanner.specs.declared.ScanError.TheVariants.{Refused, OutputTooShort}

-- 02's number for each refusal.
unfoldable pub number_of : Refusal → ℕ
number_of TooLong = 1
number_of (NotUtf8 at) = 2
number_of (OpenComment at) = 10
number_of (NoString at) = 11
number_of (BeginsNoToken at) = 12

unfoldable pub place_of : Refusal → ℕ
place_of TooLong = 0
place_of (NotUtf8 at) = at
place_of (OpenComment at) = at
place_of (NoString at) = at
place_of (BeginsNoToken at) = at

-- The verdict of each answer of `scan`.
unfoldable pub verdict_of : Result ℕ ScanError → Plain
verdict_of (Ok n) = plain 0 0
verdict_of (Err (Refused why)) = plain (number_of why) (place_of why)
verdict_of (Err OutputTooShort) = plain 8 0

-- The bytes that it wrote.
unfoldable pub written_of : Result ℕ ScanError → ℕ
written_of (Ok n) = n
written_of (Err why) = 0

-- What an answer of `scan` and the final output stand for.
unfoldable pub reply_of : Result ℕ ScanError → List ℕ → Reply Plain
reply_of a out = record { verdict = verdict_of a; written = written_of a; out = out }
