-- The tokens of a record take four bytes each: where the tree behind them begins.
use native.Mathlib.Omega.{arith}
use mathlib.Core.Path.{◌≡◌, subst}
use mathlib.Core.Bool.{Bool, true, false}
use mathlib.Core.List.{List}
use Prim.Native.Nat.{ℕ, zero, suc, ◌+◌, ◌*◌, ◌≤◌}
use lib.ListN.{get_or}
use lib.Dec.{eqb}
use Rattle.reader.specs.Commands.{u16}
use Rattle.reader.specs.Tokens.{Tokens, max_tokens, Tiling, tiled, untiled, end_tokens, with_token, is_token, tokens_from, tokens}

abbrev EndsBy : ℕ → Tiling → Type 0
EndsBy bound (tiled ts at) = at ≤ bound
EndsBy bound (untiled place) = Unit {0}

tiling_if : (bound : ℕ) (b : Bool) (x y : Tiling) → EndsBy bound x → EndsBy bound y → EndsBy bound (elim b [ true ↦ x | false ↦ y ])
tiling_if bound true x y h k = h
tiling_if bound false x y h k = k

module _ (boundary : ℕ → Bool) (size : ℕ) (rec : List ℕ) where
  end_by : (bound start at : ℕ) → at ≤ bound → EndsBy bound (end_tokens size rec start at)
  unfolding end_tokens
  end_by bound start at h = tiling_if bound (eqb start size) (tiled _ at) (untiled at) h tt

  with-by : (bound start at : ℕ) (t : Tiling) → EndsBy bound t → EndsBy bound (with_token size rec start at t)
  unfolding with_token
  with-by bound start at (tiled ts end) h = h
  with-by bound start at (untiled place) h = tt

  from-by : (bound n start at : ℕ) → at + 4 * n ≤ bound → EndsBy bound (tokens_from boundary size rec n start at)
  unfolding tokens_from
  from-by bound zero start at h =
      tiling_if bound (eqb (get_or rec at 0) 0x05) (untiled at) (end_tokens size rec start at) tt (end_by bound start at (omega arith))
  from-by bound (suc n) start at h =
      let rest : Tiling = tokens_from boundary size rec n (start + u16 rec (at + 2)) (at + 4) in
      let more : Tiling = with_token size rec start at rest in
      tiling_if bound (eqb (get_or rec at 0) 0x05) (elim (is_token boundary size rec start at) [ true ↦ more | false ↦ untiled at ]) (end_tokens size rec start at)
      (tiling_if bound (is_token boundary size rec start at) more (untiled at) (with-by bound start at rest (from-by bound n (start + u16 rec (at + 2)) (at + 4) (omega arith))) tt)
      (end_by bound start at (omega arith))

  tokens-by : EndsBy (4 * max_tokens) (tokens boundary size rec)
  unfolding tokens
  tokens-by = from-by (4 * max_tokens) max_tokens 0 0 (omega arith)

pub tree_near : (boundary : ℕ → Bool) (size : ℕ) (rec : List ℕ) (ts : Tokens) (tree : ℕ) → tokens boundary size rec ≡ tiled ts tree → tree ≤ 4 * max_tokens
tree_near boundary size rec ts tree e = let near : EndsBy (4 * max_tokens) (tiled ts tree) = subst (EndsBy (4 * max_tokens)) e (tokens-by boundary size rec) in near
