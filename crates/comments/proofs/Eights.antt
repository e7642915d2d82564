-- Laws of the comment set: the bits of a word, eight at a time. Assumes nothing.
use Prim.Native.Nat.{ℕ, suc, ◌+◌, ◌-◌, ◌*◌, ◌^◌, ◌≤◌, ◌<◌}
use native.Mathlib.Omega.{arith}
use mathlib.Core.Path.{◌≡◌, refl, sym, ap}
use mathlib.Core.Bool.{Bool}
use mathlib.Core.List.{List}
use mathlib.Core.Logic.{⊎_elim}
use lib.Pow.{pow_mono}
use lib.ListN.{get_or}
use borrow.Author.Tests.{eq-eqb, ne_eqb}
use Rattle.comments.specs.Set.{is_comment, bits}
use Rattle.comments.proofs.Words.{whether, bits_in, bits_out, bits_below}

module _ (member : ℕ → Bool) where
  bits-zero : (k : ℕ) → bits member k 0 ≡ 0
  unfolding bits
  bits-zero k = refl

  pub bits-step : (k n : ℕ) → bits member k (suc n) ≡ bits member k 1 + 2 * bits member (k + 1) n
  bits-step k n =
      ⊎_elim (λ y. omega (arith, bits_in member k n y, bits_in member k 0 y, bits-zero (k + 1)))
      (λ z. omega (arith, bits_out member k n z, bits_out member k 0 z, bits-zero (k + 1)))
      (whether (member k))

  -- A bit under the bits behind it.
  under : (k next n x r : ℕ) → next ≡ k + 1 → x ≡ bits member k 1 → r ≡ bits member next n → x + 2 * r ≡ bits member k (suc n)
  under k next n x r e f g = omega (arith, bits-step k n, f, g, ap (λ (i : ℕ). bits member i n) e)

  module _ (k n r a b c d e f g h : ℕ) (pr : r ≡ bits member (k + 8) n) (pa : a ≡ bits member k 1) (pb : b ≡ bits member (k + 1) 1)
      (pc : c ≡ bits member (k + 2) 1) (pd : d ≡ bits member (k + 3) 1) (pe : e ≡ bits member (k + 4) 1)
      (pf : f ≡ bits member (k + 5) 1) (pg : g ≡ bits member (k + 6) 1) (ph : h ≡ bits member (k + 7) 1) where
    eight-under : a + 2 * b + 4 * c + 8 * d + 16 * (e + 2 * f + 4 * g + 8 * h) + 256 * r ≡ bits member k (suc (suc (suc (suc (suc (suc (suc (suc n))))))))
    eight-under =
        let s7 = under (k + 7) (k + 8) n h r (omega arith) ph pr in
        let s6 = under (k + 6) (k + 7) (suc n) g _ (omega arith) pg s7 in
        let s5 = under (k + 5) (k + 6) (suc (suc n)) f _ (omega arith) pf s6 in
        let s4 = under (k + 4) (k + 5) (suc (suc (suc n))) e _ (omega arith) pe s5 in
        let s3 = under (k + 3) (k + 4) (suc (suc (suc (suc n)))) d _ (omega arith) pd s4 in
        let s2 = under (k + 2) (k + 3) (suc (suc (suc (suc (suc n))))) c _ (omega arith) pc s3 in
        let s1 = under (k + 1) (k + 2) (suc (suc (suc (suc (suc (suc n)))))) b _ (omega arith) pb s2 in
        let s0 = under k (k + 1) (suc (suc (suc (suc (suc (suc (suc n))))))) a _ refl pa s1 in
        omega (arith, s0)

  pub eight_is : (k a b c d e f g h : ℕ) → a ≡ bits member k 1 → b ≡ bits member (k + 1) 1 → c ≡ bits member (k + 2) 1 → d ≡ bits member (k + 3) 1
      → e ≡ bits member (k + 4) 1 → f ≡ bits member (k + 5) 1 → g ≡ bits member (k + 6) 1 → h ≡ bits member (k + 7) 1
      → a + 2 * b + 4 * c + 8 * d + 16 * (e + 2 * f + 4 * g + 8 * h) ≡ bits member k 8
  eight_is k a b c d e f g h pa pb pc pd pe pf pg ph =
      omega (arith, eight-under k 0 0 a b c d e f g h (sym (bits-zero (k + 8))) pa pb pc pd pe pf pg ph)

  bits-eight : (k n : ℕ) → bits member k (suc (suc (suc (suc (suc (suc (suc (suc n)))))))) ≡ bits member k 8 + 256 * bits member (k + 8) n
  bits-eight k n =
      omega (arith, eight_is k _ _ _ _ _ _ _ _ refl refl refl refl refl refl refl refl, eight-under k n _ _ _ _ _ _ _ _ _ refl refl refl refl refl refl refl refl refl)

  module _ (k b x : ℕ) (some : 8 ≤ b) (most : b ≤ 64) (made : x ≡ bits member (k + b) (64 - b)) where
    pub eights-fit : x < 2 ^ 56
    eights-fit = let h : 64 - b ≤ 56 = omega arith in omega (arith, made, bits_below member (64 - b) (k + b), pow_mono h)

    -- Eight bits under those that are made.
    pub eights-more : (e : ℕ) → e ≡ bits member (k + (b - 8)) 8 → x * 256 + e ≡ bits member (k + (b - 8)) (64 - (b - 8))
    eights-more e f =
        let i : k + b ≡ k + (b - 8) + 8 = omega arith in
        let n : suc (suc (suc (suc (suc (suc (suc (suc (64 - b)))))))) ≡ 64 - (b - 8) = omega arith in
        omega (arith, f, made, ap (λ (j : ℕ). bits member j (64 - b)) i, bits-eight (k + (b - 8)) (64 - b), ap (λ (m : ℕ). bits member (k + (b - 8)) m) n)

-- The bit of a token by its kind.
module _ (kinds : List ℕ) (k : ℕ) where
  pub one_set : get_or kinds k 0 ≡ 1 → 1 ≡ bits (is_comment kinds) k 1
  unfolding is_comment
  one_set e = omega (arith, bits_in (is_comment kinds) k 0 (eq-eqb (get_or kinds k 0) 1 e), bits-zero (is_comment kinds) (k + 1))

  pub one-unset : (get_or kinds k 0 ≡ 1 → ⊥) → 0 ≡ bits (is_comment kinds) k 1
  unfolding is_comment
  one-unset e = omega (arith, bits_out (is_comment kinds) k 0 (ne_eqb (get_or kinds k 0) 1 e), bits-zero (is_comment kinds) (k + 1))
