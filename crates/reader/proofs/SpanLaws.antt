-- Laws of the tokens in the tables: their starts and their lengths are lists as long.
use Prim.Native.Nat.{ℕ, ◌+◌, ◌≤◌, ◌<◌}
use mathlib.Core.Path.{◌≡◌, ◌∙◌, ap}
use mathlib.Core.List.{List}
use lib.ListN.{length, get_or, set, take, length-map, get_or-map}
use lib.Seq.{length-take-le, get_or-take}
use Rattle.std.proofs.lemmas.List.{take_more_set, map_push}
use Rattle.reader.specs.declared.tokens.Span.{Span}
use Rattle.reader.specs.Tokens.{count_of}
use Rattle.reader.specs.Promises.Tokens.{tokens_in}
use Rattle.reader.proofs.TokenLaws.{joined, one}

module _ (count : ℕ) (kinds : List ℕ) (spans : List Span) where
  -- Of the tables so many entries count.
  pub counts_kinds : length kinds ≡ 4096 → count ≤ 4096 → length (take count kinds) ≡ count
  counts_kinds e h = length-take-le count kinds (rw e h)

  pub counts_starts : length spans ≡ 4096 → count ≤ 4096 → count_of (tokens_in count kinds spans) ≡ count
  counts_starts e h = length-map (take count spans) (λ s. s.start) ∙ length-take-le count spans (rw e h)

  pub counts_lengths : length spans ≡ 4096 → count ≤ 4096 → length (tokens_in count kinds spans).lengths ≡ count
  counts_lengths e h = length-map (take count spans) (λ s. s.len) ∙ length-take-le count spans (rw e h)

  module _ (k : ℕ) (h : k < count) where
    pub start_at : get_or (tokens_in count kinds spans).starts k 0 ≡ (get_or spans k record { start = 0; len = 0 }).start
    start_at = get_or-map (λ s. s.start) (take count spans) k record { start = 0; len = 0 } ∙ ap (λ (s : Span). s.start) (get_or-take count spans k record { start = 0; len = 0 } h)

    pub length_at : get_or (tokens_in count kinds spans).lengths k 0 ≡ (get_or spans k record { start = 0; len = 0 }).len
    length_at = get_or-map (λ s. s.len) (take count spans) k record { start = 0; len = 0 } ∙ ap (λ (s : Span). s.len) (get_or-take count spans k record { start = 0; len = 0 } h)

pub ruleset in_tables = (counts_kinds, counts_starts, counts_lengths, start_at, length_at)

-- One more token in the tables.
pub tokens_more : (kinds : List ℕ) (spans : List Span) (count kind : ℕ) (span : Span) → length kinds ≡ 4096 → length spans ≡ 4096 → count < 4096
    → tokens_in (count + 1) (set kinds count kind) (set spans count span) ≡ joined (tokens_in count kinds spans) (one kind span.start span.len)
tokens_more kinds spans count kind span k s h =
    rw (take_more_set kinds count kind (rw k h), take_more_set spans count span (rw s h), map_push, map_push)
