-- Laws of the kind of a token. Assumes nothing.
use Prim.Native.Nat.{ℕ, suc, ◌≤◌, ◌<◌}
use Prim.Native.String.{String}
use native.Mathlib.Omega.{arith}
use mathlib.Core.Path.{◌≡◌, refl, sym, ap, ap₂, ◌∙◌}
use mathlib.Core.Bool.{Bool, true, false, and-false, false≢true}
use mathlib.Core.List.{List, [], ◌∷◌}
use lib.Dec.{leb, eqb}
use lib.ListN.{length, get_or, drop}
use borrow.Author.Tests.{eqb-true}
use Rattle.text.specs.Bytes.{bytes, same_bytes, first_is}
use Rattle.scanner.specs.Parts.{is_empty, behind, is_one_of}
use Rattle.scanner.specs.Lexical.{closes, is_comment, is_token, opens_comment, keywords, numbered, kind_of}
use Rattle.text.proofs.Computed.{and_left, and_right}
use Rattle.scanner.proofs.Bytes.{not_so}
use Rattle.scanner.proofs.ReachLaws.{behind-no, starts}
use Rattle.scanner.proofs.TokenLaws.{words_pass, token_bracket}

-- No keyword is the text.
kind_other : (t : List ℕ) → opens_comment t ≡ false → numbered 2 keywords t ≡ 0 → kind_of t ≡ 0
unfolding kind_of
kind_other t e f = rw (kind_of, e) f

no_number : (t : List ℕ) (passes : List ℕ → Bool) → ((w : List ℕ) → passes w ≡ true → same_bytes t w ≡ false) → (k : ℕ) (ws : List String) → words_pass passes ws ≡ true → numbered k ws t ≡ 0
unfolding numbered words_pass
no_number t passes differs k [] h = refl
no_number t passes differs k (w ∷ ws) h = rw (numbered, differs (bytes w) (and_left (passes (bytes w)) (words_pass passes ws) h)) (no_number t passes differs (suc k) ws (and_right (passes (bytes w)) (words_pass passes ws) h))

-- A keyword has two bytes or more.
pub kind_short : (t : List ℕ) → length t < 2 → kind_of t ≡ 0
unfolding kind_of opens_comment behind bytes numbered keywords same_bytes words_pass
kind_short [] h = refl
kind_short (b ∷ []) h = kind_other (b ∷ []) (closed (eqb b 40)) (no_number (b ∷ []) (λ w. leb 2 (length w)) differs 2 keywords refl)
  where
    closed : (u : Bool) → ◌≡◌ {A = Bool} (elim u as (λ x. Bool) [ true ↦ false | false ↦ false ]) false
    closed true = refl
    closed false = refl

    differs : (w : List ℕ) → leb 2 (length w) ≡ true → same_bytes (b ∷ []) w ≡ false
    differs [] f = absurd (false≢true f)
    differs (c ∷ []) f = absurd (false≢true f)
    differs (c ∷ d ∷ w) f = and-false (eqb b c)
kind_short (b ∷ c ∷ t) h = absurd (omega arith)

pub begins : (t : List ℕ) → 2 ≤ length t → t ≡ get_or t 0 0 ∷ drop 1 t
begins [] h = absurd (omega arith)
begins (b ∷ t) h = refl

-- The kind of a token that starts with a byte.
pub by_first : (token : List ℕ) (b : ℕ) (kind : List ℕ → ℕ) → token ≡ b ∷ drop 1 token → ((t : List ℕ) → kind (b ∷ t) ≡ kind_of (b ∷ t)) → kind token ≡ kind_of token
by_first token b kind s e = ap kind s ∙ e (drop 1 token) ∙ ap kind_of (sym s)

module _ (token : List ℕ) (s : token ≡ 40 ∷ drop 1 token) where
  pub kind_comment : first_is (λ c. eqb c 42) (drop 1 token) ≡ true → kind_of token ≡ 1
  unfolding kind_of opens_comment behind bytes
  kind_comment h = ap kind_of (s ∙ ap (λ (u : List ℕ). 40 ∷ u) (starts 42 (drop 1 token) h))

  kind-bracket-of : (u : List ℕ) → first_is (λ c. eqb c 42) u ≡ false → kind_of (40 ∷ u) ≡ 0
  unfolding kind_of opens_comment behind bytes numbered keywords same_bytes first_is
  kind-bracket-of [] h = refl
  kind-bracket-of (c ∷ u) h = rw (kind_of, opens_comment, behind, h)

  pub kind-bracket : first_is (λ c. eqb c 42) (drop 1 token) ≡ false → kind_of token ≡ 0
  kind-bracket h = ap kind_of s ∙ kind-bracket-of (drop 1 token) h

abbrev word_starts : List ℕ
word_starts = 46 ∷ 97 ∷ 100 ∷ 101 ∷ 102 ∷ 105 ∷ 108 ∷ 110 ∷ 111 ∷ 115 ∷ 116 ∷ 118 ∷ []

-- No keyword starts with such a byte.
pub kind_none : (token : List ℕ) (b : ℕ) → token ≡ b ∷ drop 1 token → eqb b 40 ≡ false → is_one_of word_starts b ≡ false → kind_of token ≡ 0
unfolding opens_comment bytes words_pass keywords first_is is_one_of same_bytes
kind_none token b s e f =
    let t = b ∷ drop 1 token in
    ap kind_of s
    ∙ kind_other t (behind-no (42 ∷ []) (λ r. true) 40 b e (drop 1 token)) (no_number t (first_is (is_one_of word_starts)) differs 2 keywords refl)
  where
    differs : (w : List ℕ) → first_is (is_one_of word_starts) w ≡ true → same_bytes (b ∷ drop 1 token) w ≡ false
    differs [] g = absurd (false≢true g)
    differs (c ∷ w) g = rw (not_so (eqb b c) (λ h. false≢true (sym f ∙ ap (is_one_of word_starts) (eqb-true b c h) ∙ g)))

-- ---- a token that starts with `(*` is a comment

opens_other : (word : List ℕ) (passes : List ℕ → Bool) (t : List ℕ) → behind word (λ r. true) t ≡ false → behind word passes t ≡ false
unfolding behind
opens_other [] passes t h = absurd (false≢true (sym h))
opens_other (c ∷ word) passes [] h = refl
opens_other (c ∷ word) passes (b ∷ t) h = go (eqb b c) h (opens_other word passes t)
  where
    go : (u : Bool) → ◌≡◌ {A = Bool} (elim u as (λ x. Bool) [ true ↦ behind word (λ r. true) t | false ↦ false ]) false → (behind word (λ r. true) t ≡ false → behind word passes t ≡ false) → ◌≡◌ {A = Bool} (elim u as (λ x. Bool) [ true ↦ behind word passes t | false ↦ false ]) false
    go true h ih = ih h
    go false h ih = refl

bracket_star : (t : List ℕ) → is_token (40 ∷ 42 ∷ t) ≡ is_comment (40 ∷ 42 ∷ t)
unfolding is_comment behind bytes is_empty
bracket_star t = token_bracket (42 ∷ t)

opens_start : (t : List ℕ) → opens_comment t ≡ true → t ≡ 40 ∷ 42 ∷ drop 2 t
unfolding opens_comment behind bytes
opens_start [] h = absurd (false≢true h)
opens_start (b ∷ []) h = absurd (false≢true (sym (one (eqb b 40)) ∙ h))
  where
    one : (u : Bool) → ◌≡◌ {A = Bool} (elim u as (λ x. Bool) [ true ↦ false | false ↦ false ]) false
    one true = refl
    one false = refl
opens_start (b ∷ c ∷ t) h = go (eqb b 40) refl (eqb c 42) refl h
  where
    go : (u : Bool) → eqb b 40 ≡ u → (v : Bool) → eqb c 42 ≡ v → ◌≡◌ {A = Bool} (elim u as (λ x. Bool) [ true ↦ elim v as (λ x. Bool) [ true ↦ true | false ↦ false ] | false ↦ false ]) true → ◌≡◌ {A = List ℕ} (b ∷ c ∷ t) (40 ∷ 42 ∷ t)
    go true e true f g = ap₂ (λ (x y : ℕ). x ∷ y ∷ t) (eqb-true b 40 e) (eqb-true c 42 f)
    go true e false f g = absurd (false≢true g)
    go false e v f g = absurd (false≢true g)

pub comment_token : (t : List ℕ) → is_token t ≡ true → opens_comment t ≡ is_comment t
unfolding opens_comment is_comment
comment_token t h = go (opens_comment t) refl
  where
    go : (u : Bool) → opens_comment t ≡ u → opens_comment t ≡ is_comment t
    go true e = let s = opens_start t e in e ∙ sym h ∙ ap is_token s ∙ bracket_star (drop 2 t) ∙ ap is_comment (sym s)
    go false e = e ∙ sym (opens_other (bytes "(*") (λ r. closes r 1) t e)
