-- The tables of the tokens that are read have equally many entries.
use Prim.Native.Nat.{ℕ, zero, suc, ◌+◌}
use mathlib.Core.Path.{◌≡◌, refl, ap, subst}
use mathlib.Core.Bool.{Bool, true, false}
use mathlib.Core.List.{List}
use lib.ListN.{length, get_or}
use lib.Dec.{eqb}
use Rattle.reader.specs.Commands.{u16}
use Rattle.reader.specs.Tokens.{Tokens, Tiling, tiled, untiled, is_token, end_tokens, with_token, tokens_from, tokens, max_tokens}

abbrev pub Even : Tokens → Type 0
Even ts = (length ts.starts ≡ length ts.kinds) × (length ts.lengths ≡ length ts.kinds)

abbrev EvenTiling : Tiling → Type 0
EvenTiling (tiled ts at) = Even ts
EvenTiling (untiled place) = Unit {0}

tiling_if : (b : Bool) (x y : Tiling) → EvenTiling x → EvenTiling y → EvenTiling (elim b [ true ↦ x | false ↦ y ])
tiling_if true x y h k = h
tiling_if false x y h k = k

module _ (boundary : ℕ → Bool) (size : ℕ) (rec : List ℕ) where
  end-even : (start at : ℕ) → EvenTiling (end_tokens size rec start at)
  unfolding end_tokens
  end-even start at = tiling_if (eqb start size) (tiled _ at) (untiled at) (refl, refl) tt

  with-even : (start at : ℕ) (t : Tiling) → EvenTiling t → EvenTiling (with_token size rec start at t)
  unfolding with_token
  with-even start at (tiled ts end) h = (ap suc h.0, ap suc h.1)
  with-even start at (untiled place) h = tt

  from-even : (n start at : ℕ) → EvenTiling (tokens_from boundary size rec n start at)
  unfolding tokens_from
  from-even zero start at = tiling_if (eqb (get_or rec at 0) 0x05) (untiled at) (end_tokens size rec start at) tt (end-even start at)
  from-even (suc n) start at =
      let more : Tiling = with_token size rec start at (tokens_from boundary size rec n (start + u16 rec (at + 2)) (at + 4)) in
      tiling_if (eqb (get_or rec at 0) 0x05) (elim (is_token boundary size rec start at) [ true ↦ more | false ↦ untiled at ]) (end_tokens size rec start at)
      (tiling_if (is_token boundary size rec start at) more (untiled at) (with-even start at (tokens_from boundary size rec n (start + u16 rec (at + 2)) (at + 4)) (from-even n (start + u16 rec (at + 2)) (at + 4))) tt)
      (end-even start at)

  tokens-even : EvenTiling (tokens boundary size rec)
  unfolding tokens
  tokens-even = from-even max_tokens 0 0

pub tiled_even : (boundary : ℕ → Bool) (size : ℕ) (rec : List ℕ) (ts : Tokens) (tree : ℕ) → tokens boundary size rec ≡ tiled ts tree → Even ts
tiled_even boundary size rec ts tree e = let even : EvenTiling (tiled ts tree) = subst EvenTiling e (tokens-even boundary size rec) in even
