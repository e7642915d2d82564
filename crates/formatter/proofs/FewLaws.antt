-- A record that is read has at most 4096 tokens. Assumes nothing.
use Prim.Native.Nat.{ℕ, zero, suc, ◌+◌, ◌≤◌}
use native.Mathlib.Omega.{arith}
use mathlib.Core.Path.{◌≡◌, subst}
use mathlib.Core.Bool.{Bool, true, false}
use mathlib.Core.List.{List}
use lib.ListN.{length, get_or}
use lib.Dec.{eqb}
use Rattle.reader.specs.Commands.{u16}
use Rattle.reader.specs.Tokens.{Tokens, Tiling, tiled, untiled, is_token, end_tokens, with_token, tokens_from, tokens, max_tokens}

abbrev Few : ℕ → Tiling → Type 0
Few n (tiled ts at) = length ts.kinds ≤ n
Few n (untiled place) = Unit {0}

tiling_if : (n : ℕ) (b : Bool) (x y : Tiling) → Few n x → Few n y → Few n (elim b [ true ↦ x | false ↦ y ])
tiling_if n true x y h k = h
tiling_if n false x y h k = k

module _ (boundary : ℕ → Bool) (size : ℕ) (rec : List ℕ) where
  end-few : (n start at : ℕ) → Few n (end_tokens size rec start at)
  unfolding end_tokens
  end-few n start at = tiling_if n (eqb start size) (tiled _ at) (untiled at) (omega arith) tt

  with-few : (n start at : ℕ) (t : Tiling) → Few n t → Few (suc n) (with_token size rec start at t)
  unfolding with_token
  with-few n start at (tiled ts end) h = omega (arith, h)
  with-few n start at (untiled place) h = tt

  from-few : (n start at : ℕ) → Few n (tokens_from boundary size rec n start at)
  unfolding tokens_from
  from-few zero start at = tiling_if zero (eqb (get_or rec at 0) 0x05) (untiled at) (end_tokens size rec start at) tt (end-few zero start at)
  from-few (suc n) start at =
      let next : Tiling = tokens_from boundary size rec n (start + u16 rec (at + 2)) (at + 4) in
      let more : Tiling = with_token size rec start at next in
      tiling_if (suc n) (eqb (get_or rec at 0) 0x05) (elim (is_token boundary size rec start at) [ true ↦ more | false ↦ untiled at ]) (end_tokens size rec start at)
      (tiling_if (suc n) (is_token boundary size rec start at) more (untiled at) (with-few n start at next (from-few n (start + u16 rec (at + 2)) (at + 4))) tt)
      (end-few (suc n) start at)

  pub tiled-few : {ts : Tokens} {tree : ℕ} → tokens boundary size rec ≡ tiled ts tree → length ts.kinds ≤ max_tokens
  unfolding tokens
  tiled-few {ts} {tree} e = let few : Few max_tokens (tiled ts tree) = subst (Few max_tokens) e (from-few max_tokens 0 0) in few
