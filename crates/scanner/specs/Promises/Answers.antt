-- What the code's answers and tokens stand for.
use Rattle.std.specs.Prelude.{Result, Ok, Err}
use Rattle.reader.specs.Tokens.{Tokens}
use Rattle.scanner.specs.Scan.{Scanned, refused, tokens}
use Rattle.scanner.specs.declared.Refusal.{Refusal}
use Rattle.scanner.specs.Answers.{number_of, place_of}

-- What an answer says with the list of tokens.
abbrev pub scanned_in : Result (Unit {0}) Refusal → Tokens → Scanned
scanned_in (Ok done) ts = tokens ts
scanned_in (Err why) ts = refused (number_of why) (place_of why)
