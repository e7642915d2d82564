-- The kinds of a sheet's tokens are at most 20. Assumes nothing.
use Prim.Native.Nat.{ℕ, zero, suc, ◌+◌, ◌≤◌}
use native.Mathlib.Omega.{arith}
use mathlib.Core.Path.{◌≡◌, refl}
use mathlib.Core.List.{List, ◌∷◌}
use mathlib.Core.Bool.{Bool, true, false, ◌&&◌}
use Rattle.std.specs.Prelude.{Option, None, Some}
use lib.Dec.{leb, eqb}
use lib.ListN.{length, get_or}
use borrow.Author.Tests.{leb-true}
use Rattle.text.specs.Utf8.{first_broken, boundary}
use Rattle.reader.specs.Commands.{u16, command}
use Rattle.reader.specs.Tokens.{Tokens, count_of, no_tokens, Tiling, tiled, untiled, is_token, end_tokens, with_token, tokens_from, tokens, last_kind}
use Rattle.reader.specs.Check.{Checked, ok, malformed, too_deep, tree_check}
use Rattle.reader.specs.Reading.{Read, refused, sheet, read_tree, read_record, read_text, read, max_text, max_record}
use Rattle.reader.proofs.CommandLaws.{and_left, and_right}

abbrev Known : List ℕ → Type 0
Known kinds = (k : ℕ) → get_or kinds k 0 ≤ last_kind

-- ---- the tokens
abbrev KnownIn : Tiling → Type 0
KnownIn (tiled ts end) = Known ts.kinds
KnownIn (untiled place) = Unit {0}

choose : (b : Bool) (x y : Tiling) → KnownIn x → KnownIn y → KnownIn (elim b as (λ z. Tiling) [ true ↦ x | false ↦ y ])
choose true x y p q = p
choose false x y p q = q

module _ (boundary : ℕ → Bool) (size : ℕ) (rec : List ℕ) where
  known-end : (start at : ℕ) → KnownIn (end_tokens size rec start at)
  unfolding end_tokens
  known-end start at = choose (eqb start size) (tiled no_tokens at) (untiled at) (λ k. omega arith) tt

  known-kind : (start at : ℕ) → is_token boundary size rec start at ≡ true → get_or rec (at + 1) 0 ≤ last_kind
  unfolding is_token
  known-kind start at e =
      leb-true (get_or rec (at + 1) 0) 20
      (and_right (command rec 5 4 at) _
      (and_left _ (leb 1 (u16 rec (at + 2))) (and_left _ (leb (start + u16 rec (at + 2)) size) (and_left _ (boundary (start + u16 rec (at + 2))) e))))

  known-with : (start at : ℕ) → is_token boundary size rec start at ≡ true → (u : Tiling) → KnownIn u → KnownIn (with_token size rec start at u)
  unfolding with_token
  known-with start at e (tiled ts end) p = λ k. go k
    where
      go : Known (get_or rec (at + 1) 0 ∷ ts.kinds)
      go zero = known-kind start at e
      go (suc k) = p k
  known-with start at e (untiled place) p = tt

  known-token : (start at : ℕ) (b : Bool) → is_token boundary size rec start at ≡ b → (u : Tiling) → KnownIn u
      → KnownIn (elim b as (λ z. Tiling) [ true ↦ with_token size rec start at u | false ↦ untiled at ])
  known-token start at true e u p = known-with start at e u p
  known-token start at false e u p = tt

  known_from : (n start at : ℕ) → KnownIn (tokens_from boundary size rec n start at)
  unfolding tokens_from
  known_from zero start at = choose (eqb (get_or rec at 0) 0x05) (untiled at) (end_tokens size rec start at) tt (known-end start at)
  known_from (suc n) start at =
      choose (eqb (get_or rec at 0) 0x05) _ (end_tokens size rec start at)
      (known-token start at (is_token boundary size rec start at) refl (tokens_from boundary size rec n (start + u16 rec (at + 2)) (at + 4)) (known_from n (start + u16 rec (at + 2)) (at + 4)))
      (known-end start at)

-- ---- the sheet
abbrev KnownOf : Read → Type 0
KnownOf (refused number place) = Unit {0}
KnownOf (sheet ts tree) = Known ts.kinds

module _ (rec : List ℕ) where
  known-tree : (ts : Tokens) (at : ℕ) → Known ts.kinds → KnownOf (read_tree rec ts at)
  unfolding read_tree
  known-tree ts at p = go (tree_check rec (count_of ts) at)
    where
      go : (c : Checked) → KnownOf (elim c as (λ z. Read) [ ok end ↦ sheet ts at | malformed place ↦ refused 3 place | too_deep place ↦ refused 4 place ])
      go (ok end) = p
      go (malformed place) = tt
      go (too_deep place) = tt

  known-record : (boundary : ℕ → Bool) (size : ℕ) → KnownOf (read_record rec boundary size)
  unfolding read_record tokens
  known-record boundary size = go (tokens_from boundary size rec 4096 0 0) (known_from boundary size rec 4096 0 0)
    where
      go : (t : Tiling) → KnownIn t → KnownOf (elim t as (λ z. Read) [ tiled ts at ↦ read_tree rec ts at | untiled place ↦ refused 3 place ])
      go (tiled ts at) p = known-tree ts at p
      go (untiled place) p = tt

known_text : (text rec : List ℕ) → KnownOf (read_text text rec)
unfolding read_text
known_text text rec = go (first_broken text)
  where
    go : (w : Option ℕ) → KnownOf (elim w as (λ z. Read) [ None ↦ read_record rec (boundary text) (length text) | Some place ↦ refused 2 place ])
    go None = known-record rec (boundary text) (length text)
    go (Some place) = tt

known_read : (text rec : List ℕ) → KnownOf (read text rec)
unfolding read
known_read text rec = go (leb (length text) max_text && leb (length rec) max_record)
  where
    go : (b : Bool) → KnownOf (elim b as (λ z. Read) [ true ↦ read_text text rec | false ↦ refused 1 0 ])
    go true = known_text text rec
    go false = tt

pub kinds_known : (text rec : List ℕ) (ts : Tokens) (tree : ℕ) → read text rec ≡ sheet ts tree → (k : ℕ) → get_or ts.kinds k 0 ≤ last_kind
kinds_known text rec ts tree e = rw e at (known_read text rec)
