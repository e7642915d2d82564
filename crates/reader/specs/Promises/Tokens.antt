-- What the code's answers and tokens stand for when it reads them.
use Rattle.std.specs.Prelude.{ℕ, zero, suc, ◌+◌, ◌*◌, ◌%◌, ◌≤◌, ◌<◌, List, map, Bool, true, false, ◌≡◌, length, get_or, take, eqb, Option, None, Some, Result, Ok, Err, All}
use Rattle.reader.specs.Commands.{u16}
use Rattle.reader.specs.declared.Refusal.{Refusal}
use Rattle.reader.specs.declared.Refusal.TheVariants.{Malformed}
use Rattle.reader.specs.declared.tokens.Next.{Next}
use Rattle.reader.specs.declared.tokens.Span.{Span}
use Rattle.reader.specs.Tokens.{Tokens, count_of, last_kind, max_tokens, Tiling, tiled, untiled, is_token, tokens}

-- What the command at an offset says of the next token.
module _ (boundary : ℕ → Bool) (size : ℕ) (rec : List ℕ) where
  unfoldable pub next_at : ℕ → ℕ → Result (Option Next) Refusal
  next_at start at =
      elim (eqb (get_or rec at 0) 0x05) [
        | true ↦ elim (is_token boundary size rec start at)
            [ true ↦ Ok (Some (record { kind = get_or rec (at + 1) 0; len = u16 rec (at + 2) })) | false ↦ Err (Malformed at) ]
        | false ↦ Ok None
      ]

-- The starts and the lengths of spans.
abbrev pub starts_of : List Span → List ℕ
starts_of spans = map (λ s. s.start) spans

abbrev pub lengths_of : List Span → List ℕ
lengths_of spans = map (λ s. s.len) spans

-- The first entries of the tables.
abbrev pub tokens_in : ℕ → List ℕ → List Span → Tokens
tokens_in count kinds spans =
    record { kinds = take count kinds; starts = starts_of (take count spans); lengths = lengths_of (take count spans) }

-- They tile the text, and stand in the tables; or where the first command that is malformed stands.
abbrev pub tiles : Result ℕ Refusal → Tokens → Tiling → Type 0
tiles (Ok end) ts t = t ≡ tiled ts end
tiles (Err why) ts t = (place : ℕ) × (why ≡ Malformed place) × (t ≡ untiled place)

-- Contract: the tokens of a record.
pub record Tiles (boundary : ℕ → Bool) (size : ℕ) (rec : List ℕ) (ts : Tokens) (r : Result ℕ Refusal) : Type 0 where
  pub is : tiles r ts (tokens boundary size rec)

-- The sum of the lengths in the first n commands, each of four bytes.
unfoldable pub lengths_to : List ℕ → ℕ → ℕ
lengths_to rec zero = 0
lengths_to rec (suc n) = lengths_to rec n + u16 rec (4 * n + 2)

-- Contract: the record starts with so many commands of tokens; their kinds and lengths are these, and their starts modulo 2^16.
pub record Laid (rec : List ℕ) (ts : Tokens) (sum : ℕ) : Type 0 where
  pub as_many : (length ts.kinds ≡ count_of ts) × (length ts.lengths ≡ count_of ts)
  pub few : count_of ts ≤ max_tokens
  pub whole : 4 * count_of ts ≤ length rec
  pub commands : (i : ℕ) → i < count_of ts → get_or rec (4 * i) 0 ≡ 0x05
  pub kinds_are : (i : ℕ) → i < count_of ts → get_or ts.kinds i 0 ≡ get_or rec (4 * i + 1) 0
  pub starts_are : (i : ℕ) → i < count_of ts → get_or ts.starts i 0 ≡ lengths_to rec i % 65536
  pub lengths_are : (i : ℕ) → i < count_of ts → get_or ts.lengths i 0 ≡ u16 rec (4 * i + 2)
  pub sums : sum ≡ lengths_to rec (count_of ts)

-- Contract: they have known kinds and no length of 0, and start and end between characters.
pub record Fits (boundary : ℕ → Bool) (size : ℕ) (ts : Tokens) : Type 0 where
  pub known : All (λ k. k ≤ last_kind) ts.kinds
  pub filled : All (λ n. 1 ≤ n) ts.lengths
  pub apart : All (λ start. boundary start ≡ true) ts.starts
  pub closed : boundary size ≡ true
