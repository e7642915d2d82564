-- What the code's answer and tokens stand for.
use Rattle.std.specs.Prelude.{ℕ, ◌≡◌, ⊤, List, None, Result, Ok, Err}
use Rattle.reader.specs.Tokens.{Tokens}
use Rattle.formatter.specs.declared.LookupError.{LookupError}
use Rattle.formatter.specs.Lookup.{Asked, looked, declined, asked, ask, number_of, place_of}

-- What an answer of `ask` says with the tokens.
abbrev pub asked_in : Result ⊤ LookupError → Tokens → Asked
asked_in (Ok done) ts = asked ts
asked_in (Err why) ts = declined (looked (number_of why) (place_of why) None)

-- Contract: refusals 1 to 4, then 9.
pub record Asks (text rec : List ℕ) (token : ℕ) (ts : Tokens) (r : Result ⊤ LookupError) : Type 0 where
  pub is : asked_in r ts ≡ ask text rec token
