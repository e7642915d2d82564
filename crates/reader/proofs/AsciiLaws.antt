-- Document 02, Ticket 5: on ASCII texts every answer is what it was. Assumes nothing.
use Prim.Native.Nat.{ℕ, zero, suc, ◌+◌}
use native.Mathlib.Omega.{arith}
use mathlib.Core.Path.{◌≡◌, refl, ap, ap₂}
use mathlib.Core.Bool.{Bool, true, false, not, ◌&&◌}
use mathlib.Core.List.{List, [], ◌∷◌}
use lib.Dec.{leb, eqb}
use lib.ListN.{length, get_or, drop}
use borrow.Author.Tests.{lt-leb}
use Rattle.text.specs.Utf8.{is_in, is_inside, boundary}
use Rattle.text.specs.WellFormed.{Ascii}
use Rattle.text.proofs.Utf8Laws.{ascii_whole}
use Rattle.text.proofs.WellFormedLaws.{none_wide, ascii_drop}
use Rattle.reader.specs.Commands.{u16, command}
use Rattle.reader.specs.Tokens.{Tiling, tiled, untiled, is_token, end_tokens, with_token, tokens_from, tokens, last_kind}
use Rattle.reader.specs.Reading.{Read, refused, read_tree, read_record, read_text, read, max_text, max_record}
use Rattle.reader.specs.Ascii.{read_ascii}

-- No offset is inside a character.
outside : (t : List ℕ) → Ascii t → is_inside t ≡ false
unfolding is_inside is_in
outside [] h = refl
outside (b ∷ t) h = rw (lt-leb 0x80 b (h 0 (omega arith)))

pub ascii_boundary : (t : List ℕ) (i : ℕ) → Ascii t → boundary t i ≡ true
unfolding boundary
ascii_boundary t i h = ap not (outside (drop i t) (ascii_drop i t h))

-- The tokens, where no offset is inside a character.
module _ (boundary : ℕ → Bool) (free : (i : ℕ) → boundary i ≡ true) (size : ℕ) (rec : List ℕ) where
  free-token : (start at : ℕ) → is_token boundary size rec start at ≡ is_token (λ i. true) size rec start at
  unfolding is_token
  free-token start at =
      ap (λ (x : Bool). command rec 0x05 4 at && leb (get_or rec (at + 1) 0) last_kind && leb 1 (u16 rec (at + 2)) && leb (start + u16 rec (at + 2)) size && x)
      (free (start + u16 rec (at + 2)))

  free-from : (n start at : ℕ) → tokens_from boundary size rec n start at ≡ tokens_from (λ i. true) size rec n start at
  unfolding tokens_from
  free-from zero start at = refl
  free-from (suc n) start at =
      ap₂ (λ (x : Bool) (more : Tiling). elim (eqb (get_or rec at 0) 0x05) as (λ z. Tiling) [
        | true ↦ elim x as (λ z. Tiling) [ true ↦ with_token size rec start at more | false ↦ untiled at ]
        | false ↦ end_tokens size rec start at
      ])
      (free-token start at)
      (free-from n (start + u16 rec (at + 2)) (at + 4))

  free-record : read_record rec boundary size ≡ read_record rec (λ i. true) size
  unfolding read_record tokens
  free-record =
      ap (λ (t : Tiling). elim t as (λ z. Read) [ tiled ts at ↦ read_tree rec ts at | untiled place ↦ refused 3 place ]) (free-from 4096 0 0)

-- Refusals 1 to 4 of an ASCII text are what they were.
pub read-ascii : (text rec : List ℕ) → Ascii text → read text rec ≡ read_ascii text rec
unfolding read read_text read_ascii
read-ascii text rec h =
    ap (λ (r : Read). elim (leb (length text) max_text && leb (length rec) max_record) as (λ z. Read) [ true ↦ r | false ↦ refused 1 0 ])
    (rw (ascii_whole text h, none_wide 0 text h, read_text) (free-record (boundary text) (λ i. ascii_boundary text i h) (length text) rec))
