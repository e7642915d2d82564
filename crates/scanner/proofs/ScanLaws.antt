-- Laws of scanning: one step, from the offset where a token begins. Assumes nothing.
use Prim.Native.Nat.{ℕ, zero, suc, ◌+◌, ◌<◌}
use native.Mathlib.Omega.{arith}
use native.Mathlib.Nat.{add-zero}
use mathlib.Core.Path.{◌≡◌, refl, sym, ap, ◌∙◌}
use mathlib.Core.List.{List, [], ◌∷◌}
use lib.ListN.{length, get_or, take, drop}
use lib.Seq.{drop-nil}
use Rattle.reader.specs.Tokens.{no_tokens}
use Rattle.scanner.specs.Lexical.{longest, kind_of}
use Rattle.scanner.specs.Scan.{refused, tokens, number_at, before, scan_from}
use Rattle.scanner.proofs.LongestLaws.{longest-within}

-- What belongs to the token before is passed over.
scan-inside : (n at : ℕ) (rest : List ℕ) → scan_from n at rest ≡ scan_from 0 (at + n) (drop n rest)
unfolding scan_from
scan-inside n at [] = rw (drop-nil {A = ℕ} n, scan_from)
scan-inside zero at (b ∷ rest) = ap (λ (k : ℕ). scan_from 0 k (b ∷ rest)) (sym (add-zero at))
scan-inside (suc n) at (b ∷ rest) = scan-inside n (suc at) rest ∙ ap (λ (k : ℕ). scan_from 0 k (drop n rest)) (omega arith)

pub scan-over : (at : ℕ) → scan_from 0 at [] ≡ tokens no_tokens
unfolding scan_from
scan-over at = refl

-- No token begins here.
pub scan-none : (at : ℕ) (rest : List ℕ) → 0 < length rest → longest rest ≡ 0 → scan_from 0 at rest ≡ refused (number_at (get_or rest 0 0)) at
unfolding scan_from
scan-none at [] h e = absurd (omega arith)
scan-none at (b ∷ rest) h e = rw (scan_from, e)

-- The longest token, then what is left behind it.
pub scan-more : (at : ℕ) (rest : List ℕ) (n : ℕ) → 0 < n → longest rest ≡ n → scan_from 0 at rest ≡ before (kind_of (take n rest)) at n (scan_from 0 (at + n) (drop n rest))
unfolding scan_from
scan-more at rest zero h e = absurd (omega arith)
scan-more at [] (suc n) h e = absurd (omega (arith, longest-within []))
scan-more at (b ∷ rest) (suc n) h e =
    rw (scan_from, e)
    (ap (before (kind_of (b ∷ take n rest)) at (suc n))
    (scan-inside n (suc at) rest ∙ ap (λ (k : ℕ). scan_from 0 k (drop n rest)) (omega arith)))
