-- Laws of the longest token: the search gives the greatest prefix that is a token, and only that one. Assumes nothing.
use Prim.Native.Nat.{ℕ, zero, suc, ◌≤◌, ◌<◌}
use native.Mathlib.Omega.{arith}
use mathlib.Core.Path.{◌≡◌, refl, sym, ◌∙◌}
use mathlib.Core.List.{List}
use mathlib.Core.Bool.{Bool, true, false, false≢true}
use lib.ListN.{length}
use lib.Dec.{eqb, ltb}
use borrow.Author.Tests.{eqb-true, eqb-false, ltb-true, ltb-false}
use Rattle.scanner.specs.Lexical.{token_of, longest_up_to, longest}
use Rattle.scanner.specs.ListOf.{Longest}

module _ (rest : List ℕ) where
  -- One step of the search.
  upto-token : (n : ℕ) → token_of rest (suc n) ≡ true → longest_up_to rest (suc n) ≡ suc n
  unfolding longest_up_to
  upto-token n e = rw (longest_up_to, e)

  upto-other : (n : ℕ) → token_of rest (suc n) ≡ false → longest_up_to rest (suc n) ≡ longest_up_to rest n
  unfolding longest_up_to
  upto-other n e = rw (longest_up_to, e)

  -- What it finds is a token, if it finds one, and no longer prefix is.
  pub record Found (k n : ℕ) : Type 0 where
    pub within : n ≤ k
    pub token : 0 < n → token_of rest n ≡ true
    pub greatest : (m : ℕ) → n < m → m ≤ k → token_of rest m ≡ false

  found : (k : ℕ) → Found k (longest_up_to rest k)
  unfolding longest_up_to
  found zero = record { within = omega arith; token = λ h. absurd (omega arith); greatest = λ m h l. absurd (omega arith) }
  found (suc k) = go (token_of rest (suc k)) refl (found k)
    where
      go : (t : Bool) → token_of rest (suc k) ≡ t → Found k (longest_up_to rest k) → Found (suc k) (longest_up_to rest (suc k))
      go true e f =
          rw (upto-token k e) record { within = omega arith; token = λ h. e; greatest = λ m h l. absurd (omega arith) }
      go false e f =
          rw (upto-other k e) record { within = omega (arith, f.within); token = f.token; greatest = λ m h l. last (eqb m (suc k)) refl h l }
        where
          last : {m : ℕ} (t : Bool) → eqb m (suc k) ≡ t → longest_up_to rest k < m → m ≤ suc k → token_of rest m ≡ false
          last {m} true q h l = rw (eqb-true m (suc k) q) e
          last {m} false q h l = let d = eqb-false m (suc k) q in f.greatest m h (omega arith)

-- The search over all of what is left.
pub longest-found : (rest : List ℕ) → Found rest (length rest) (longest rest)
unfolding longest
longest-found rest = found rest (length rest)

pub longest-within : (rest : List ℕ) → longest rest ≤ length rest
longest-within rest = (longest-found rest).within

pub longest-some : {rest : List ℕ} {n : ℕ} → longest rest ≡ n → 0 < n → Longest rest n
longest-some {rest} e h =
    rw (← e)
    record { some = omega arith; token = (longest-found rest).token (omega arith); greatest = (longest-found rest).greatest }

pub longest-none : (rest : List ℕ) → longest rest ≡ 0 → (n : ℕ) → 0 < n → n ≤ length rest → token_of rest n ≡ false
longest-none rest e n h l = (longest-found rest).greatest n (omega arith) l

-- There is one longest token.
pub longest-is : {rest : List ℕ} {n : ℕ} → Longest rest n → n ≤ length rest → longest rest ≡ n
longest-is {rest} {n} p l = go (ltb n (longest rest)) refl (ltb (longest rest) n) refl
  where
    f : Found rest (length rest) (longest rest)
    f = longest-found rest

    both : {t : Bool} → t ≡ true → t ≡ false → ⊥
    both e q = false≢true (sym q ∙ e)

    go : (a : Bool) → ltb n (longest rest) ≡ a → (b : Bool) → ltb (longest rest) n ≡ b → longest rest ≡ n
    go true e b q =
        let h = ltb-true n (longest rest) e in
        absurd (both (f.token (omega arith)) (p.greatest (longest rest) h f.within))
    go false e true q = absurd (both p.token (f.greatest n (ltb-true (longest rest) n q) l))
    go false e false q = omega (arith, ltb-false n (longest rest) e, ltb-false (longest rest) n q)
