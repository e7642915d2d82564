-- Tests of bytes that are decided by computation over all of them, and the keys of a `match`. Assumes nothing.
use Prim.Native.Nat.{ℕ, ◌-◌, ◌≤◌, ◌<◌}
use mathlib.Core.Path.{◌≡◌, refl, sym, ap, ap₂, ◌∙◌}
use mathlib.Core.Bool.{Bool, true, false, not, ◌&&◌, ◌||◌, false≢true}
use mathlib.Core.Logic.{inl, inr}
use mathlib.Core.List.{List, [], ◌∷◌}
use lib.Dec.{leb, ltb, eqb, T}
use mir.Val.{has_key}
use types.Run.{OneOf, hit}
use borrow.Author.Tests.{eqb-true, leb-true, not-true, le-leb, lt-leb, lt-ltb, eq-eqb, ne_eqb}
use Rattle.text.specs.Bytes.{between, is_digit}
use Rattle.text.proofs.Computed.{and_left, and_right, all_below, below, same, same_is}
use Rattle.scanner.specs.Parts.{every, is_one_of}
use Rattle.scanner.specs.Constants.{is_hex_digit}
use Rattle.scanner.specs.Strings.{is_digit_of, value_of_digit}

pub both : {a b : Bool} → a ≡ true → b ≡ true → (a && b) ≡ true
both e f = rw (e, f)

-- A disjunction that has one of its members already.
pub absorb : (x y : Bool) → (x ≡ true → y ≡ true) → (x || y) ≡ y
absorb true y h = sym (h refl)
absorb false y h = refl

-- What is not true is false.
pub not_so : (x : Bool) → (x ≡ true → ⊥) → x ≡ false
not_so true h = absurd (h refl)
not_so false h = refl

-- A test's answer at every byte that passes a guard, by computation.
module _ (guard answer : ℕ → Bool) (v : Bool) where
  unfoldable pub decides : ℕ → Bool
  decides b = not (guard b) || same v (answer b)

  pub by_bytes : all_below 256 decides ≡ true → (b : ℕ) → b < 256 → guard b ≡ true → v ≡ answer b
  unfolding decides
  by_bytes h b l g = same_is v (answer b) (rw g at (below 256 decides h b l))

every-both : (t u : Bool) → ◌≡◌ {A = Bool} (elim t as (λ x. Bool) [ true ↦ u | false ↦ false ]) true → (t ≡ true) × (u ≡ true)
every-both true u h = (refl, h)
every-both false u h = absurd (false≢true h)

every_first : (test : ℕ → Bool) (b : ℕ) (s : List ℕ) → every test (b ∷ s) ≡ true → test b ≡ true
unfolding every
every_first test b s h = (every-both (test b) (every test s) h).0

every_rest : (test : ℕ → Bool) (b : ℕ) (s : List ℕ) → every test (b ∷ s) ≡ true → every test s ≡ true
unfolding every
every_rest test b s h = (every-both (test b) (every test s) h).1

-- One of a match's keys passes what all of them pass.
pub among_keys : (ks : List ℕ) (test : ℕ → Bool) (b : ℕ) → every test ks ≡ true → OneOf ks b → test b ≡ true
unfolding every
among_keys [] test b h e = absurd e
among_keys (k ∷ []) test b h e = rw e (every_first test k [] h)
among_keys (k ∷ k' ∷ ks) test b h (inl e) = rw e (every_first test k (k' ∷ ks) h)
among_keys (k ∷ k' ∷ ks) test b h (inr e) = among_keys (k' ∷ ks) test b (every_rest test k (k' ∷ ks) h) e

-- A byte that passes a test is no byte that does not.
pub apart : (test : ℕ → Bool) (b : ℕ) → test b ≡ true → (c : ℕ) → test c ≡ false → eqb b c ≡ false
apart test b e c f = not_so (eqb b c) (λ h. false≢true (sym f ∙ ap test (sym (eqb-true b c h)) ∙ e))

pub apart_all : (test : ℕ → Bool) (b : ℕ) → test b ≡ true → (cs : List ℕ) → every (λ c. not (test c)) cs ≡ true → is_one_of cs b ≡ false
unfolding is_one_of
apart_all test b e [] h = refl
apart_all test b e (c ∷ cs) h =
    let f = apart test b e c (not-true (test c) (every_first (λ c. not (test c)) c cs h)) in
    let g = apart_all test b e cs (every_rest (λ c. not (test c)) c cs h) in
    ap₂ (λ (x y : Bool). x || y) f g

-- What is none of a match's keys.
pub no_key : (ks : List ℕ) (b : ℕ) → (OneOf ks b → ⊥) → not (has_key ks b) ≡ true
no_key ks b n = go (has_key ks b) (hit ks b)
  where
    go : (t : Bool) → (T t → OneOf ks b) → not t ≡ true
    go true h = absurd (n (h tt))
    go false h = refl

-- A test's answer at every byte of a range that is no key, by computation.
module _ (ks : List ℕ) (lo hi : ℕ) where
  unfoldable pub between-keys : ℕ → Bool
  between-keys b = leb lo b && ltb b hi && not (has_key ks b)

  pub by-range : (answer : ℕ → Bool) (v : Bool) → all_below 256 (decides between-keys answer v) ≡ true → (b : ℕ) → b < 256 → lo ≤ b → b < hi → (OneOf ks b → ⊥) → v ≡ answer b
  unfolding between-keys
  by-range answer v t b f l h n = by_bytes between-keys answer v t b f (both (both (le-leb lo b l) (lt-ltb b hi h)) (no_key ks b n))

-- A range, by its ends.
module _ (lo hi b : ℕ) where
  pub under : b < lo → between lo hi b ≡ false
  unfolding between
  under h = rw (lt-leb lo b h)

  pub over : lo ≤ b → hi < b → between lo hi b ≡ false
  unfolding between
  over l h = rw (le-leb lo b l, lt-leb b hi h)

  pub within : lo ≤ b → b ≤ hi → between lo hi b ≡ true
  unfolding between
  within l h = rw (le-leb lo b l, le-leb b hi h)

-- ---- digits of base 10 and 16

module _ (b : ℕ) where
  value-digit : b ≤ 57 → value_of_digit b ≡ b - 48
  unfolding value_of_digit
  value-digit h = rw (value_of_digit, le-leb b 57 h)

  pub digit-high : is_digit b ≡ true → b ≤ 57
  unfolding is_digit between
  digit-high e = leb-true b 57 (and_right (leb 48 b) (leb b 57) e)

  pub digit_low : is_digit b ≡ true → 48 ≤ b
  unfolding is_digit between
  digit_low e = leb-true 48 b (and_left (leb 48 b) (leb b 57) e)

  pub digit_value : is_digit b ≡ true → value_of_digit b ≡ b - 48
  digit_value e = value-digit (digit-high e)

  pub hex-small : b < 256 → is_hex_digit b ≡ true → value_of_digit b ≤ 15
  unfolding all_below same decides is_hex_digit is_digit between value_of_digit
  hex-small f e = leb-true (value_of_digit b) 15 (sym (by_bytes is_hex_digit (λ b. leb (value_of_digit b) 15) true refl b f e))

  -- Only `0` is 0.
  pub hex-positive : b < 256 → is_hex_digit b ≡ true → (b ≡ 48 → ⊥) → 1 ≤ value_of_digit b
  unfolding all_below same decides is_hex_digit is_digit between value_of_digit
  hex-positive f e n = leb-true 1 (value_of_digit b) (sym (by_bytes (λ b. is_hex_digit b && not (eqb b 48)) (λ b. leb 1 (value_of_digit b)) true refl b f (both e (ap not (ne_eqb b 48 n)))))

module _ (base b : ℕ) where
  pub of-ten : base ≡ 10 → is_digit_of base b ≡ is_digit b
  unfolding is_digit_of
  of-ten e = rw (is_digit_of, eq-eqb base 10 e)

  pub of_other : (base ≡ 10 → ⊥) → is_digit_of base b ≡ is_hex_digit b
  unfolding is_digit_of
  of_other e = rw (is_digit_of, ne_eqb base 10 e)

pub ruleset digit_laws = (digit_low, digit-high)
