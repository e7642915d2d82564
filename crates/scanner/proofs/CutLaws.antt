-- What scanning needs to know of tokens and kinds. Assumes nothing.
use Prim.Native.Nat.{ℕ, suc, ◌+◌, ◌≤◌, ◌<◌}
use Prim.Native.String.{String}
use native.Mathlib.Omega.{arith}
use mathlib.Core.Path.{◌≡◌, refl, sym, ap₂, subst⁻¹, ◌∙◌}
use mathlib.Core.List.{List, [], ◌∷◌, ◌++◌}
use mathlib.Core.Bool.{Bool, true, false, false≢true}
use lib.ListN.{length}
use lib.Seq.{take-append-le}
use lib.Dec.{eqb}
use Rattle.text.specs.Bytes.{bytes, same_bytes}
use Rattle.scanner.specs.Parts.{behind, is_among}
use Rattle.scanner.specs.Lexical.{reserved_core, reserved_modules, is_reserved, is_token, is_comment, opens_comment, token_of, keywords, numbered, kind_of}

-- ---- a text that is cut behind a token has the same tokens up to the cut
module _ (left right : List ℕ) (n : ℕ) (h : n ≤ length left) where
  same-opening : opens_comment (left ++ right) ≡ opens_comment left → token_of (left ++ right) n ≡ token_of left n
  unfolding token_of
  same-opening e =
      ap₂ (λ (opens : Bool) (t : List ℕ). elim opens as (λ x. Bool) [ true ↦ is_comment t | false ↦ is_token t ]) e (take-append-le n left right h)

-- One byte opens no comment, and is none.
lone_opens : (b : ℕ) → opens_comment (b ∷ []) ≡ false
unfolding opens_comment behind bytes
lone_opens b = go (eqb b 40)
  where
    go : (t : Bool) → elim t as (λ x. Bool) [ true ↦ false | false ↦ false ] ≡ false
    go true = refl
    go false = refl

lone_comment : (b : ℕ) → is_comment (b ∷ []) ≡ false
unfolding is_comment behind bytes
lone_comment b = go (eqb b 40)
  where
    go : (t : Bool) → elim t as (λ x. Bool) [ true ↦ false | false ↦ false ] ≡ false
    go true = refl
    go false = refl

lone_token : (b : ℕ) (right : List ℕ) → token_of (b ∷ right) 1 ≡ true → opens_comment (b ∷ right) ≡ false
unfolding token_of
lone_token b right e = go (opens_comment (b ∷ right)) refl
  where
    go : (t : Bool) → opens_comment (b ∷ right) ≡ t → opens_comment (b ∷ right) ≡ false
    go true o = absurd (false≢true (sym (lone_comment b) ∙ rw (token_of, o) at e))
    go false o = o

pub token_cut : (left right : List ℕ) (m n : ℕ) → 0 < m → m ≤ length left → token_of (left ++ right) m ≡ true → n ≤ length left → token_of (left ++ right) n ≡ token_of left n
unfolding opens_comment behind bytes
token_cut [] right m n h l e k = absurd (omega arith)
token_cut (b ∷ []) right m n h l e k =
    let one : m ≡ 1 = omega arith in
    same-opening (b ∷ []) right n k (lone_token b right (rw one at e) ∙ sym (lone_opens b))
token_cut (b ∷ c ∷ left) right m n h l e k = same-opening (b ∷ c ∷ left) right n k refl

-- A `(` that opens no comment is a token.
pub bracket_token : (rest : List ℕ) → opens_comment (40 ∷ rest) ≡ false → token_of (40 ∷ rest) 1 ≡ true
unfolding token_of is_token is_reserved reserved_core reserved_modules is_among same_bytes bytes
bracket_token rest e =
    subst⁻¹ (λ (opens : Bool). elim opens as (λ x. Bool) [ true ↦ is_comment (40 ∷ []) | false ↦ is_token (40 ∷ []) ] ≡ true) e refl

-- ---- kinds are 0 to 20
numbered_within : (k : ℕ) (words : List String) (t : List ℕ) → 0 < k → numbered k words t < k + length words
unfolding numbered
numbered_within k [] t h = omega arith
numbered_within k (w ∷ words) t h = go (same_bytes t (bytes w)) (numbered_within (suc k) words t (omega arith))
  where
    go : (s : Bool) → numbered (suc k) words t < suc k + length words → elim s as (λ x. ℕ) [ true ↦ k | false ↦ numbered (suc k) words t ] < k + suc (length words)
    go true l = omega arith
    go false l = omega arith

pub kind_known : (token : List ℕ) → kind_of token ≤ 20
unfolding kind_of keywords
kind_known token = go (opens_comment token)
  where
    go : (s : Bool) → elim s as (λ x. ℕ) [ true ↦ 1 | false ↦ numbered 2 keywords token ] ≤ 20
    go true = omega arith
    go false = let l = numbered_within 2 keywords token (omega arith) in omega arith
