-- Laws of the longest token: plain search is reach, and what begins with each first byte. Assumes nothing.
use Prim.Native.Nat.{ℕ, zero, suc, ◌+◌, ◌≤◌, ◌<◌}
use Prim.Native.String.{String}
use native.Mathlib.Omega.{arith}
use mathlib.Core.Path.{◌≡◌, refl, sym, ap, ap₂, ◌∙◌, fun_ext, subst⁻¹}
use mathlib.Core.Bool.{Bool, true, false, not, ◌&&◌, ◌||◌, false≢true, or-true, or-false, or_comm}
use mathlib.Core.Logic.{inl, inr}
use mathlib.Core.List.{List, [], ◌∷◌, ◌++◌}
use Rattle.std.specs.Prelude.{Option, None, Some, MatchOption, slice_get}
use lib.Dec.{eqb}
use lib.ListN.{length, take, drop}
use lib.Seq.{drop-drop}
use native.Mathlib.Nat.{zero-add}
use types.Run.{OneOf}
use borrow.Author.Tests.{eqb-true, not-true, eq-eqb, ne_eqb}
use Rattle.text.specs.Bytes.{bytes, same_bytes, first_is, between, is_space, is_letter, is_digit}
use Rattle.text.proofs.Laws.{same_true, never}
use Rattle.scanner.specs.Parts.{is_empty, every, one_or_more, behind, is_one_of, is_among}
use Rattle.scanner.specs.Constants.{is_hex_digit, unsigned, is_decimal, is_integer, is_word, digits_then, is_exponent, is_fraction, is_real}
use Rattle.scanner.specs.Strings.{between_characters, is_string, is_character}
use Rattle.scanner.specs.Lexical.{reserved_core, reserved_modules, is_reserved, is_alphanumeric_byte, is_alphanumeric, is_symbol, is_symbolic, closes, is_comment, is_white_space, is_dot, is_token, opens_comment, token_of, longest_up_to, longest}
use Rattle.scanner.specs.Promises.Reach.{longer, reach, taken, positive, run, is_hexadecimal, is_magnitude}
use Rattle.scanner.specs.Promises.Extents.{Extent, ends, endless, further, extent, extent_of}
use Rattle.scanner.specs.declared.strings.Quoted.{Quoted}
use Rattle.text.proofs.Computed.{and_left, and_right, all_below, same}
use Rattle.scanner.proofs.Bytes.{absorb, not_so, apart_all, decides, by_bytes, among_keys}
use Rattle.scanner.proofs.ReachLaws.{longer-positive, some_of, best, empty, down, down-reach, reach-never, reach_step, reach-first, reach-or, reach-every, reach-positive, run-no, more_yes, more_no, behind-no, starts, reach-behind-yes, reach-behind-no, reach-behind_all, reach-two, reach-two-no}
use Rattle.scanner.proofs.NumberLaws.{some_positive, unsigned-no, digits-no, best_zero, reach-empty, reach-or_empty, word_wins, word_nil, magnitude_nil, magnitude_other}
use Rattle.scanner.proofs.StringLaws.{denotes, bytes_of, reach-denotes}

-- ---- plain search

up_to-down : (rest : List ℕ) (n : ℕ) → longest_up_to rest n ≡ taken (down (token_of rest) n)
unfolding longest_up_to down taken empty
up_to-down rest zero = go (token_of rest 0)
  where
    go : (t : Bool) → ◌≡◌ {A = ℕ} 0 (taken (empty t))
    go true = refl
    go false = refl
up_to-down rest (suc n) = go (token_of rest (suc n)) (up_to-down rest n)
  where
    go : (t : Bool) → longest_up_to rest n ≡ taken (down (token_of rest) n) → ◌≡◌ {A = ℕ} (elim t as (λ x. ℕ) [ true ↦ suc n | false ↦ longest_up_to rest n ]) (taken (elim t as (λ x. Option ℕ) [ true ↦ Some (suc n) | false ↦ down (token_of rest) n ]))
    go true ih = refl
    go false ih = ih

longest-is : (rest : List ℕ) (passes : List ℕ → Bool) → ((n : ℕ) → token_of rest n ≡ passes (take n rest)) → longest rest ≡ taken (reach passes rest)
unfolding longest
longest-is rest passes e =
    up_to-down rest (length rest)
    ∙ ap (λ (test : ℕ → Bool). taken (down test (length rest))) (fun_ext e)
    ∙ ap taken (down-reach passes rest)

pub longest-token : (rest : List ℕ) → opens_comment rest ≡ false → longest rest ≡ taken (reach is_token rest)
unfolding token_of
longest-token rest e = longest-is rest is_token (λ n. rw (token_of, e))

pub longest-comment : (rest : List ℕ) → opens_comment rest ≡ true → longest rest ≡ taken (reach is_comment rest)
unfolding token_of
longest-comment rest e = longest-is rest is_comment (λ n. rw (token_of, e))

pub longest-empty : (rest : List ℕ) → None ≡ slice_get rest 0 → None ≡ positive (longest rest)
unfolding longest longest_up_to positive
longest-empty [] h = refl
longest-empty (b ∷ t) h = never (cc)

token_nil : is_token [] ≡ false
unfolding is_token is_reserved reserved_core reserved_modules is_among bytes same_bytes is_integer is_decimal unsigned one_or_more behind is_word is_real digits_then is_string is_character is_alphanumeric is_symbolic is_comment is_white_space is_dot
token_nil = refl

-- By what may follow the first byte.
pub first_byte : (rest : List ℕ) (b : ℕ) (after : List ℕ → Bool) → rest ≡ b ∷ drop 1 rest → opens_comment rest ≡ false → ((t : List ℕ) → is_token (b ∷ t) ≡ after t) → longest rest ≡ taken (longer 1 (reach after (drop 1 rest)))
first_byte rest b after s o e =
    longest-token rest o ∙ ap taken (ap (reach is_token) s ∙ reach_step is_token b (drop 1 rest) token_nil e)

pub opens_not : (rest : List ℕ) (b : ℕ) → rest ≡ b ∷ drop 1 rest → eqb b 40 ≡ false → opens_comment rest ≡ false
unfolding opens_comment bytes
opens_not rest b s e = ap opens_comment s ∙ behind-no (42 ∷ []) (λ r. true) 40 b e (drop 1 rest)

-- ---- reserved words

unfoldable pub words_pass : (List ℕ → Bool) → List String → Bool
words_pass test [] = true
words_pass test (w ∷ ws) = test (bytes w) && words_pass test ws

among : (test : List ℕ → Bool) (ws : List String) → words_pass test ws ≡ true → (t : List ℕ) → is_among ws t ≡ true → test t ≡ true
unfolding words_pass is_among
among test [] h t e = absurd (false≢true e)
among test (w ∷ ws) h t e = go (same_bytes t (bytes w)) refl e (among test ws (and_right (test (bytes w)) (words_pass test ws) h) t)
  where
    go : (u : Bool) → same_bytes t (bytes w) ≡ u → (u || is_among ws t) ≡ true → (is_among ws t ≡ true → test t ≡ true) → test t ≡ true
    go true f e ih = ap test (same_true t (bytes w) f) ∙ and_left (test (bytes w)) (words_pass test ws) h
    go false f e ih = ih e

abbrev reserved : List String
reserved = reserved_core ++ reserved_modules

module _ (test : ℕ → Bool) (b : ℕ) (e : test b ≡ true) (t : List ℕ) where
  -- No reserved word starts with such a byte.
  reserved-not : words_pass (λ w. not (first_is test w)) reserved ≡ true → is_reserved (b ∷ t) ≡ false
  unfolding is_reserved first_is
  reserved-not h =
      not_so (is_among reserved (b ∷ t)) (λ r. false≢true (sym (not-true (test b) (among (λ w. not (first_is test w)) reserved h (b ∷ t) r)) ∙ e))

  -- Those that start with such a byte are of a class.
  reserved-in : (class : List ℕ → Bool) → words_pass (λ w. not (first_is test w) || class w) reserved ≡ true → is_reserved (b ∷ t) ≡ true → class (b ∷ t) ≡ true
  unfolding is_reserved first_is
  reserved-in class h r = rw e at (among (λ w. not (first_is test w) || class w) reserved h (b ∷ t) r)

-- ---- what does not begin with a byte

module _ (b : ℕ) (t : List ℕ) where
  no_zero : is_digit b ≡ false → eqb b 48 ≡ false
  unfolding is_digit between
  no_zero e = not_so (eqb b 48) (λ h. false≢true (sym e ∙ ap is_digit (eqb-true b 48 h)))

  no-integer : is_digit b ≡ false → eqb b 126 ≡ false → is_integer (b ∷ t) ≡ false
  unfolding is_integer is_decimal bytes
  no-integer d n =
      ap (λ (u : List ℕ). one_or_more is_digit u || behind (48 ∷ 120 ∷ []) (one_or_more is_hex_digit) u) (unsigned-no b t n)
      ∙ ap₂ (λ (x y : Bool). x || y) (more_no is_digit b d t) (behind-no (120 ∷ []) (one_or_more is_hex_digit) 48 b (no_zero d) t)

  no_word : is_digit b ≡ false → is_word (b ∷ t) ≡ false
  unfolding is_word bytes
  no_word d =
      ap₂ (λ (x y : Bool). x || y)
      (behind-no (119 ∷ []) (one_or_more is_digit) 48 b (no_zero d) t)
      (behind-no (119 ∷ 120 ∷ []) (one_or_more is_hex_digit) 48 b (no_zero d) t)

  no-real : is_digit b ≡ false → eqb b 126 ≡ false → is_real (b ∷ t) ≡ false
  unfolding is_real
  no-real d n =
      ap (digits_then (λ r. is_fraction r || is_exponent r)) (unsigned-no b t n) ∙ digits-no (λ r. is_fraction r || is_exponent r) b d t

  no-string : eqb b 34 ≡ false → is_string (b ∷ t) ≡ false
  unfolding is_string bytes
  no-string e = behind-no [] _ 34 b e t

  no-character : eqb b 35 ≡ false → is_character (b ∷ t) ≡ false
  unfolding is_character bytes
  no-character e = behind-no (34 ∷ []) _ 35 b e t

  no-alphanumeric : (is_letter b || eqb b 39) ≡ false → is_alphanumeric (b ∷ t) ≡ false
  unfolding is_alphanumeric
  no-alphanumeric e = rw (is_alphanumeric, e)

  no-symbolic : is_symbol b ≡ false → is_symbolic (b ∷ t) ≡ false
  unfolding is_symbolic
  no-symbolic e = more_no is_symbol b e t

  no-comment : eqb b 40 ≡ false → is_comment (b ∷ t) ≡ false
  unfolding is_comment bytes
  no-comment e = behind-no (42 ∷ []) (λ r. closes r 1) 40 b e t

  no-space : is_space b ≡ false → is_white_space (b ∷ t) ≡ false
  unfolding is_white_space
  no-space e = more_no is_space b e t

  no-dot : eqb b 46 ≡ false → is_dot (b ∷ t) ≡ false
  unfolding is_dot bytes same_bytes
  no-dot e = rw e

-- A disjunction of eleven, by those that hold of a text.
module _ (r i w e s c a y o p d : Bool) where
  abbrev eleven : Bool
  eleven = r || i || w || e || s || c || a || y || o || p || d

  numbers-only : r ≡ false → s ≡ false → c ≡ false → a ≡ false → y ≡ false → o ≡ false → p ≡ false → d ≡ false → eleven ≡ (w || (i || e))
  numbers-only er es ec ea ey eo ep ed = rw (er, es, ec, ea, ey, eo, ep, ed) (go i w e)
    where
      go : (i w e : Bool) → (i || w || e || false || false || false || false || false || false || false) ≡ (w || (i || e))
      go true true e = refl
      go true false e = refl
      go false true e = refl
      go false false true = refl
      go false false false = refl

  space-only : r ≡ false → i ≡ false → w ≡ false → e ≡ false → s ≡ false → c ≡ false → a ≡ false → y ≡ false → o ≡ false → d ≡ false → eleven ≡ p
  space-only er ei ew ee es ec ea ey eo ed = rw (er, ei, ew, ee, es, ec, ea, ey, eo, ed) (or-false p)

  alphanumeric-only : i ≡ false → w ≡ false → e ≡ false → s ≡ false → c ≡ false → y ≡ false → o ≡ false → p ≡ false → d ≡ false → eleven ≡ (r || a)
  alphanumeric-only ei ew ee es ec ey eo ep ed = rw (ei, ew, ee, es, ec, ey, eo, ep, ed) (go r a)
    where
      go : (r a : Bool) → (r || false || false || false || false || false || a || false || false || false || false) ≡ (r || a)
      go true a = refl
      go false true = refl
      go false false = refl

  symbolic-only : i ≡ false → w ≡ false → e ≡ false → s ≡ false → c ≡ false → a ≡ false → o ≡ false → p ≡ false → d ≡ false → eleven ≡ (r || y)
  symbolic-only ei ew ee es ec ea eo ep ed = rw (ei, ew, ee, es, ec, ea, eo, ep, ed) (go r y)
    where
      go : (r y : Bool) → (r || false || false || false || false || false || false || y || false || false || false) ≡ (r || y)
      go true y = refl
      go false true = refl
      go false false = refl

  none_only : r ≡ false → i ≡ false → w ≡ false → e ≡ false → s ≡ false → c ≡ false → a ≡ false → y ≡ false → o ≡ false → p ≡ false → d ≡ false → eleven ≡ false
  none_only er ei ew ee es ec ea ey eo ep ed = rw (er, ei, ew, ee, es, ec, ea, ey, eo, ep, ed)

-- ---- what begins with a byte of a class

-- The answer of another test at the bytes that pass one.
module _ (test : ℕ → Bool) (b : ℕ) (f : b < 256) (e : test b ≡ true) where
  fails : (answer : ℕ → Bool) → all_below 256 (decides test answer false) ≡ true → answer b ≡ false
  fails answer h = sym (by_bytes test answer false h b f e)

  opens-fails : (rest : List ℕ) → rest ≡ b ∷ drop 1 rest → all_below 256 (decides test (λ x. eqb x 40) false) ≡ true → opens_comment rest ≡ false
  opens-fails rest s h = opens_not rest b s (fails (λ x. eqb x 40) h)

abbrev pub starts_name : ℕ → Bool
starts_name b = is_letter b || eqb b 39

token_space : (b : ℕ) → b < 256 → is_space b ≡ true → (t : List ℕ) → is_token (b ∷ t) ≡ every is_space t
unfolding is_token is_white_space words_pass reserved_core reserved_modules bytes first_is is_space is_letter is_digit is_symbol is_one_of between all_below decides same
token_space b f e t =
    let at = fails is_space b f e in
    space-only _ _ _ _ _ _ _ _ _ _ _
    (reserved-not is_space b e t refl)
    (no-integer b t (at is_digit refl) (at (λ x. eqb x 126) refl))
    (no_word b t (at is_digit refl))
    (no-real b t (at is_digit refl) (at (λ x. eqb x 126) refl))
    (no-string b t (at (λ x. eqb x 34) refl))
    (no-character b t (at (λ x. eqb x 35) refl))
    (no-alphanumeric b t (at starts_name refl))
    (no-symbolic b t (at is_symbol refl))
    (no-comment b t (at (λ x. eqb x 40) refl))
    (no-dot b t (at (λ x. eqb x 46) refl))
    ∙ more_yes is_space b e t

name_yes : (b : ℕ) → starts_name b ≡ true → (t : List ℕ) → is_alphanumeric (b ∷ t) ≡ every is_alphanumeric_byte t
unfolding is_alphanumeric
name_yes b e t = rw (is_alphanumeric, e)

token_name : (b : ℕ) → b < 256 → starts_name b ≡ true → (t : List ℕ) → is_token (b ∷ t) ≡ every is_alphanumeric_byte t
unfolding is_token is_alphanumeric is_alphanumeric_byte every words_pass reserved_core reserved_modules bytes first_is is_space is_letter is_digit is_symbol is_one_of between all_below decides same
token_name b f e t =
    let at = fails starts_name b f e in
    alphanumeric-only (is_reserved (b ∷ t)) _ _ _ _ _ (is_alphanumeric (b ∷ t)) _ _ _ _
    (no-integer b t (at is_digit refl) (at (λ x. eqb x 126) refl))
    (no_word b t (at is_digit refl))
    (no-real b t (at is_digit refl) (at (λ x. eqb x 126) refl))
    (no-string b t (at (λ x. eqb x 34) refl))
    (no-character b t (at (λ x. eqb x 35) refl))
    (no-symbolic b t (at is_symbol refl))
    (no-comment b t (at (λ x. eqb x 40) refl))
    (no-space b t (at is_space refl))
    (no-dot b t (at (λ x. eqb x 46) refl))
    ∙ absorb (is_reserved (b ∷ t)) (is_alphanumeric (b ∷ t)) (reserved-in starts_name b e t is_alphanumeric refl)
    ∙ name_yes b e t

token_symbol : (b : ℕ) → b < 256 → is_symbol b ≡ true → eqb b 35 ≡ false → eqb b 126 ≡ false → (t : List ℕ) → is_token (b ∷ t) ≡ every is_symbol t
unfolding is_token is_symbolic one_or_more every words_pass reserved_core reserved_modules bytes first_is is_space is_letter is_digit is_symbol is_one_of between all_below decides same
token_symbol b f e h n t =
    let at = fails is_symbol b f e in
    symbolic-only (is_reserved (b ∷ t)) _ _ _ _ _ _ (is_symbolic (b ∷ t)) _ _ _
    (no-integer b t (at is_digit refl) n)
    (no_word b t (at is_digit refl))
    (no-real b t (at is_digit refl) n)
    (no-string b t (at (λ x. eqb x 34) refl))
    (no-character b t h)
    (no-alphanumeric b t (at starts_name refl))
    (no-comment b t (at (λ x. eqb x 40) refl))
    (no-space b t (at is_space refl))
    (no-dot b t (at (λ x. eqb x 46) refl))
    ∙ absorb (is_reserved (b ∷ t)) (is_symbolic (b ∷ t)) (reserved-in is_symbol b e t is_symbolic refl)
    ∙ more_yes is_symbol b e t

plain-integer : (b : ℕ) (t : List ℕ) → eqb b 126 ≡ false → is_integer (b ∷ t) ≡ (one_or_more is_digit (b ∷ t) || is_hexadecimal (b ∷ t))
unfolding is_integer is_decimal is_hexadecimal
plain-integer b t e = ap (λ (u : List ℕ). one_or_more is_digit u || behind (bytes "0x") (one_or_more is_hex_digit) u) (unsigned-no b t e)

plain-real : (b : ℕ) (t : List ℕ) → eqb b 126 ≡ false → is_real (b ∷ t) ≡ digits_then (λ r. is_fraction r || is_exponent r) (b ∷ t)
unfolding is_real
plain-real b t e = ap (digits_then (λ r. is_fraction r || is_exponent r)) (unsigned-no b t e)

token-digit : (b : ℕ) → b < 256 → is_digit b ≡ true → (t : List ℕ) → is_token (b ∷ t) ≡ (is_word (b ∷ t) || is_magnitude (b ∷ t))
unfolding is_token is_magnitude words_pass reserved_core reserved_modules bytes first_is is_space is_letter is_digit is_symbol is_one_of between all_below decides same
token-digit b f e t =
    let at = fails is_digit b f e in
    numbers-only _ _ _ _ _ _ _ _ _ _ _
    (reserved-not is_digit b e t refl)
    (no-string b t (at (λ x. eqb x 34) refl))
    (no-character b t (at (λ x. eqb x 35) refl))
    (no-alphanumeric b t (at starts_name refl))
    (no-symbolic b t (at is_symbol refl))
    (no-comment b t (at (λ x. eqb x 40) refl))
    (no-space b t (at is_space refl))
    (no-dot b t (at (λ x. eqb x 46) refl))
    ∙ ap (λ (x : Bool). is_word (b ∷ t) || x)
    (ap₂ (λ (x y : Bool). x || y) (plain-integer b t (at (λ x. eqb x 126) refl)) (plain-real b t (at (λ x. eqb x 126) refl)))

-- Bytes that begin no token.
abbrev begins : ℕ → Bool
begins b = starts_name b || is_symbol b || is_one_of (bytes "()[]{},;._\"") b

pub token_none : (b : ℕ) → is_space b ≡ false → starts_name b ≡ false → is_digit b ≡ false → is_symbol b ≡ false → is_one_of (bytes "()[]{},;._\"") b ≡ false → (t : List ℕ) → is_token (b ∷ t) ≡ false
unfolding is_token words_pass reserved_core reserved_modules bytes first_is is_space is_letter is_digit is_symbol is_one_of between is_reserved
token_none b p a d y o t =
    let n : begins b ≡ false = ap₂ (λ (u v : Bool). u || v) (ap₂ (λ (u v : Bool). u || v) a y) o in
    let q : (c : ℕ) → begins c ≡ true → eqb b c ≡ false = λ c g. not_so (eqb b c) (λ h. false≢true (sym n ∙ ap begins (eqb-true b c h) ∙ g)) in
    none_only _ _ _ _ _ _ _ _ _ _ _
    (not_so (is_among reserved (b ∷ t)) (λ r. false≢true (sym n ∙ among (first_is begins) reserved refl (b ∷ t) r)))
    (no-integer b t d (q 126 refl))
    (no_word b t d)
    (no-real b t d (q 126 refl))
    (no-string b t (q 34 refl))
    (no-character b t (q 35 refl))
    (no-alphanumeric b t a)
    (no-symbolic b t y)
    (no-comment b t (q 40 refl))
    (no-space b t p)
    (no-dot b t (q 46 refl))

-- ---- what begins with one byte

or_empty_same : (t : List ℕ) → same_bytes t [] ≡ is_empty t
unfolding same_bytes is_empty
or_empty_same [] = refl
or_empty_same (b ∷ t) = refl

same-behind : (word t : List ℕ) → same_bytes t word ≡ behind word is_empty t
unfolding same_bytes behind
same-behind [] t = or_empty_same t
same-behind (c ∷ word) [] = refl
same-behind (c ∷ word) (b ∷ t) = go (eqb b c) (same-behind word t)
  where
    go : (u : Bool) → same_bytes t word ≡ behind word is_empty t → ◌≡◌ {A = Bool} (u && same_bytes t word) (elim u as (λ x. Bool) [ true ↦ behind word is_empty t | false ↦ false ])
    go true ih = ih
    go false ih = refl

abbrev one_character : List ℕ → Bool
one_character = denotes (λ n. eqb n 1) between_characters

token_hash : (t : List ℕ) → is_token (35 ∷ t) ≡ (every is_symbol t || behind (34 ∷ []) one_character t)
unfolding is_token is_reserved reserved_core reserved_modules is_among bytes same_bytes is_integer is_decimal unsigned one_or_more behind is_word is_real digits_then is_string is_character is_alphanumeric is_symbolic is_comment is_white_space is_dot is_space is_letter is_digit is_symbol is_one_of between every denotes
token_hash [] = refl
token_hash (c ∷ t) = simp or-false (or_comm (behind (34 ∷ []) one_character (c ∷ t)) (every is_symbol (c ∷ t)))

number_or_symbols : (i e y : Bool) → (i || false || e || false || false || false || y || false || false || false) ≡ (y || (i || e))
number_or_symbols true e true = refl
number_or_symbols true e false = refl
number_or_symbols false true true = refl
number_or_symbols false true false = refl
number_or_symbols false false true = refl
number_or_symbols false false false = refl

token_tilde : (t : List ℕ) → is_token (126 ∷ t) ≡ (every is_symbol t || is_magnitude t)
unfolding is_token is_reserved reserved_core reserved_modules is_among bytes same_bytes is_integer is_decimal unsigned one_or_more behind is_word is_real is_string is_character is_alphanumeric is_symbolic is_comment is_white_space is_dot is_space is_letter is_digit is_symbol is_one_of between is_magnitude is_hexadecimal
token_tilde t =
    number_or_symbols (one_or_more is_digit t || behind (bytes "0x") (one_or_more is_hex_digit) t) (digits_then (λ r. is_fraction r || is_exponent r) t) (every is_symbol t)

token_quote : (t : List ℕ) → is_token (34 ∷ t) ≡ denotes (λ n. true) between_characters t
unfolding is_token is_reserved reserved_core reserved_modules is_among bytes same_bytes is_integer is_decimal unsigned one_or_more behind is_word is_real digits_then is_string is_character is_alphanumeric is_symbolic is_comment is_white_space is_dot is_space is_letter is_digit is_symbol is_one_of between denotes
token_quote t = simp or-false

pub token_bracket : (t : List ℕ) → is_token (40 ∷ t) ≡ (is_empty t || behind (42 ∷ []) (λ r. closes r 1) t)
unfolding is_token is_reserved reserved_core reserved_modules is_among bytes same_bytes is_integer is_decimal unsigned one_or_more behind is_word is_real digits_then is_string is_character is_alphanumeric is_symbolic is_comment is_white_space is_dot is_space is_letter is_digit is_symbol is_one_of between is_empty
token_bracket [] = refl
token_bracket (c ∷ t) = simp or-false

token_dots : (t : List ℕ) → is_token (46 ∷ t) ≡ (is_empty t || same_bytes t (46 ∷ 46 ∷ []))
unfolding is_token is_reserved reserved_core reserved_modules is_among bytes same_bytes is_integer is_decimal unsigned one_or_more behind is_word is_real digits_then is_string is_character is_alphanumeric is_symbolic is_comment is_white_space is_dot is_space is_letter is_digit is_symbol is_one_of between is_empty
token_dots [] = refl
token_dots (c ∷ t) = simp or-false

-- A byte that is a token by itself and begins no other.
Lone : ℕ → Type 0
Lone b = (is_token (b ∷ []) ≡ true) × ((c : ℕ) (t : List ℕ) → is_token (b ∷ c ∷ t) ≡ false)

abbrev pub lone_bytes : List ℕ
lone_bytes = 41 ∷ 44 ∷ 59 ∷ 91 ∷ 93 ∷ 95 ∷ 123 ∷ 125 ∷ []

lone-bytes : (b : ℕ) → OneOf lone_bytes b → Lone b
unfolding Lone is_token is_reserved reserved_core reserved_modules is_among bytes same_bytes is_integer is_decimal unsigned one_or_more behind is_word is_real digits_then is_string is_character is_alphanumeric is_symbolic is_comment is_white_space is_dot is_space is_letter is_digit is_symbol is_one_of between
lone-bytes b (inl e) = subst⁻¹ Lone e (refl, λ c t. refl)
lone-bytes b (inr (inl e)) = subst⁻¹ Lone e (refl, λ c t. refl)
lone-bytes b (inr (inr (inl e))) = subst⁻¹ Lone e (refl, λ c t. refl)
lone-bytes b (inr (inr (inr (inl e)))) = subst⁻¹ Lone e (refl, λ c t. refl)
lone-bytes b (inr (inr (inr (inr (inl e))))) = subst⁻¹ Lone e (refl, λ c t. refl)
lone-bytes b (inr (inr (inr (inr (inr (inl e)))))) = subst⁻¹ Lone e (refl, λ c t. refl)
lone-bytes b (inr (inr (inr (inr (inr (inr (inl e))))))) = subst⁻¹ Lone e (refl, λ c t. refl)
lone-bytes b (inr (inr (inr (inr (inr (inr (inr e))))))) = subst⁻¹ Lone e (refl, λ c t. refl)

token_lone : (b : ℕ) → Lone b → (t : List ℕ) → is_token (b ∷ t) ≡ is_empty t
unfolding Lone is_empty
token_lone b l [] = l.0
token_lone b l (c ∷ t) = l.1 c t

-- ---- the length, by the first byte

module _ (rest : List ℕ) (b : ℕ) (s : rest ≡ b ∷ drop 1 rest) where
  of-run : (test : ℕ → Bool) → opens_comment rest ≡ false → ((t : List ℕ) → is_token (b ∷ t) ≡ every test t) → longest rest ≡ 1 + run test (drop 1 rest)
  unfolding longer taken
  of-run test o e = first_byte rest b (every test) s o e ∙ ap (λ (x : Option ℕ). taken (longer 1 x)) (reach-every test (drop 1 rest))

  module _ (f : b < 256) where
    pub longest-space : is_space b ≡ true → longest rest ≡ 1 + run is_space (drop 1 rest)
    unfolding is_space between all_below decides same
    longest-space e = of-run is_space (opens-fails is_space b f e rest s refl) (token_space b f e)

    pub longest-name : starts_name b ≡ true → longest rest ≡ 1 + run is_alphanumeric_byte (drop 1 rest)
    unfolding is_letter between all_below decides same
    longest-name e = of-run is_alphanumeric_byte (opens-fails starts_name b f e rest s refl) (token_name b f e)

    pub longest-symbol : is_symbol b ≡ true → eqb b 35 ≡ false → eqb b 126 ≡ false → longest rest ≡ 1 + run is_symbol (drop 1 rest)
    unfolding is_symbol is_one_of bytes between all_below decides same
    longest-symbol e h n = of-run is_symbol (opens-fails is_symbol b f e rest s refl) (token_symbol b f e h n)

    longest-number : is_digit b ≡ true → longest rest ≡ taken (best (reach is_word rest) (reach is_magnitude rest))
    unfolding is_digit between all_below decides same
    longest-number e =
        longest-token rest (opens-fails is_digit b f e rest s refl)
        ∙ ap taken
        (ap (reach is_token) s
        ∙ reach-first is_token (λ t. is_word t || is_magnitude t) b (drop 1 rest) (token_nil ∙ sym (ap₂ (λ (x y : Bool). x || y) word_nil magnitude_nil)) (token-digit b f e)
        ∙ ap (reach (λ t. is_word t || is_magnitude t)) (sym s)
        ∙ reach-or is_word is_magnitude rest)

    number-plain : is_digit b ≡ true → reach is_word rest ≡ None → longest rest ≡ taken (reach is_magnitude rest)
    unfolding best
    number-plain e z = longest-number e ∙ ap (λ (x : Option ℕ). taken (best x (reach is_magnitude rest))) z

    number-word : is_digit b ≡ true → {n : ℕ} → reach is_word rest ≡ Some n → longest rest ≡ n
    unfolding taken
    number-word e {n} z = longest-number e ∙ ap taken (word_wins rest (rw z (some_positive n (rw z at (reach-positive is_word rest word_nil)))) ∙ z)

    -- A word, else another number.
    pub number-either : is_digit b ≡ true → (x : Option ℕ) {y : Option ℕ} {P : Type 0} → x ≡ reach is_word rest → MatchOption x P (λ n. y ≡ Some n)
        → (P → y ≡ reach is_magnitude rest) → y ≡ positive (longest rest)
    unfolding taken
    number-either e None w m f =
        f m ∙ reach-positive is_magnitude rest magnitude_nil ∙ sym (ap positive (number-plain e (sym w)))
    number-either e (Some n) w m f =
        m ∙ w ∙ reach-positive is_word rest word_nil ∙ ap (λ (o : Option ℕ). positive (taken o)) (sym w) ∙ ap positive (sym (number-word e (sym w)))

  pub longest-lone : OneOf lone_bytes b → eqb b 40 ≡ false → longest rest ≡ 1
  unfolding longer taken
  longest-lone k n =
      first_byte rest b is_empty s (opens_not rest b s n) (token_lone b (lone-bytes b k))
      ∙ ap (λ (x : Option ℕ). taken (longer 1 x)) (reach-empty (drop 1 rest))

  pub longest-none : is_space b ≡ false → starts_name b ≡ false → is_digit b ≡ false → is_symbol b ≡ false → is_one_of (bytes "()[]{},;._\"") b ≡ false → eqb b 40 ≡ false → longest rest ≡ 0
  unfolding longer taken
  longest-none p a d y o n =
      first_byte rest b (λ t. false) s (opens_not rest b s n) (token_none b p a d y o)
      ∙ ap (λ (x : Option ℕ). taken (longer 1 x)) (reach-never (drop 1 rest) (λ t. refl))

-- A number behind `~`, or a symbolic identifier.
digit-no_symbol : (b : ℕ) → is_digit b ≡ true → is_symbol b ≡ false
unfolding is_symbol is_digit between bytes every
digit-no_symbol b e = apart_all is_digit b e (bytes "!%&$#+-/:<=>?@\\~`^|*") refl

magnitude-first : (s : List ℕ) → 0 < taken (reach is_magnitude s) → run is_symbol s ≡ 0
unfolding run taken
magnitude-first [] h = refl
magnitude-first (b ∷ s) h = go (is_digit b) refl
  where
    go : (u : Bool) → is_digit b ≡ u → run is_symbol (b ∷ s) ≡ 0
    go true e = run-no is_symbol b s (digit-no_symbol b e)
    go false e = absurd (omega (arith, rw (magnitude_other b s e (no_zero b s e)) at h))

module _ (rest : List ℕ) (s : rest ≡ 126 ∷ drop 1 rest) where
  longest-tilde : longest rest ≡ taken (longer 1 (best (Some (run is_symbol (drop 1 rest))) (reach is_magnitude (drop 1 rest))))
  longest-tilde =
      first_byte rest 126 (λ t. every is_symbol t || is_magnitude t) s (opens_not rest 126 s refl) token_tilde
      ∙ ap (λ (x : Option ℕ). taken (longer 1 x))
      (reach-or (every is_symbol) is_magnitude (drop 1 rest)
      ∙ ap (λ (x : Option ℕ). best x (reach is_magnitude (drop 1 rest))) (reach-every is_symbol (drop 1 rest)))

  pub tilde-symbol : reach is_magnitude (drop 1 rest) ≡ None → longest rest ≡ 1 + run is_symbol (drop 1 rest)
  unfolding longer taken best
  tilde-symbol e = longest-tilde ∙ ap (λ (x : Option ℕ). taken (longer 1 (best (Some (run is_symbol (drop 1 rest))) x))) e

  pub tilde-number : {n : ℕ} → reach is_magnitude (drop 1 rest) ≡ Some n → longest rest ≡ 1 + n
  unfolding longer taken
  tilde-number {n} e =
      longest-tilde
      ∙ ap₂ (λ (k : ℕ) (x : Option ℕ). taken (longer 1 (best (Some k) x))) (magnitude-first (drop 1 rest) (rw e (some_positive n (rw e at (reach-positive is_magnitude (drop 1 rest) magnitude_nil))))) e
      ∙ ap (λ (x : Option ℕ). taken (longer 1 x)) (best_zero (Some n))

-- ---- strings

-- What `string` read, against the extent behind the quote.
module _ (test : ℕ → Bool) (k : ℕ) (x : Extent) (r : Option Quoted) (is : extent_of r ≡ further k 0 x) where
  pub read-endless : r ≡ None → bytes_of test x ≡ None
  unfolding extent_of further bytes_of
  read-endless e = go x (sym (ap extent_of e) ∙ is)
    where
      go : (x : Extent) → endless ≡ further k 0 x → bytes_of test x ≡ None
      go (ends m n) f = never (cc)
      go endless f = refl

  module _ (q : Quoted) (e : r ≡ Some q) where
    read-ends : (x : Extent) → ends q.end q.count ≡ further k 0 x → (m : ℕ) × (x ≡ ends m q.count) × (q.end ≡ k + m)
    unfolding further
    read-ends (ends m n) f =
        let c : q.count ≡ 0 + n = cc in
        let d : q.end ≡ k + m = cc in
        (m, ap (ends m) (sym (c ∙ zero-add n)), d)
    read-ends endless f = never (cc)

    pub read-yes : test q.count ≡ true → (m : ℕ) × (bytes_of test x ≡ Some m) × (q.end ≡ k + m)
    unfolding extent_of bytes_of
    read-yes t =
        let p = read-ends x (sym (ap extent_of e) ∙ is) in
        (p.0, ap (bytes_of test) p.1 ∙ rw (bytes_of, t), p.2)

    pub read_no : test q.count ≡ false → bytes_of test x ≡ None
    unfolding extent_of bytes_of
    read_no t = let p = read-ends x (sym (ap extent_of e) ∙ is) in ap (bytes_of test) p.1 ∙ rw (bytes_of, t)

pub longest-quote : (rest : List ℕ) → rest ≡ 34 ∷ drop 1 rest → longest rest ≡ taken (longer 1 (bytes_of (λ n. true) (extent between_characters (drop 1 rest))))
longest-quote rest s =
    first_byte rest 34 (denotes (λ n. true) between_characters) s (opens_not rest 34 s refl) token_quote
    ∙ ap (λ (x : Option ℕ). taken (longer 1 x)) (reach-denotes (drop 1 rest) (λ n. true) between_characters)

module _ (rest : List ℕ) (s : rest ≡ 34 ∷ drop 1 rest) (r : Option Quoted) (is : extent_of r ≡ further 1 0 (extent between_characters (drop 1 rest))) where
  pub quote-endless : r ≡ None → None ≡ positive (longest rest)
  unfolding longer taken positive
  quote-endless e =
      sym
      (ap positive
      (longest-quote rest s
      ∙ ap (λ (x : Option ℕ). taken (longer 1 x)) (read-endless (λ n. true) 1 (extent between_characters (drop 1 rest)) r is e)))

  pub quote-ends : (q : Quoted) → r ≡ Some q → Some q.end ≡ positive (longest rest)
  unfolding longer taken
  quote-ends q e =
      let p = read-yes (λ n. true) 1 (extent between_characters (drop 1 rest)) r is q e refl in
      some_of (p.2 ∙ sym (longest-quote rest s ∙ ap (λ (x : Option ℕ). taken (longer 1 x)) p.1)) (omega (arith, p.2))

module _ (rest : List ℕ) (s : rest ≡ 35 ∷ drop 1 rest) where
  longest-hash : longest rest ≡ taken (longer 1 (best (Some (run is_symbol (drop 1 rest))) (reach (behind (34 ∷ []) one_character) (drop 1 rest))))
  longest-hash =
      first_byte rest 35 (λ t. every is_symbol t || behind (34 ∷ []) one_character t) s (opens_not rest 35 s refl) token_hash
      ∙ ap (λ (x : Option ℕ). taken (longer 1 x))
      (reach-or (every is_symbol) (behind (34 ∷ []) one_character) (drop 1 rest)
      ∙ ap (λ (x : Option ℕ). best x (reach (behind (34 ∷ []) one_character) (drop 1 rest))) (reach-every is_symbol (drop 1 rest)))

  pub hash-symbol : first_is (λ c. eqb c 34) (drop 1 rest) ≡ false → longest rest ≡ 1 + run is_symbol (drop 1 rest)
  unfolding longer taken best
  hash-symbol h =
      longest-hash
      ∙ ap (λ (x : Option ℕ). taken (longer 1 (best (Some (run is_symbol (drop 1 rest))) x))) (reach-behind-no [] one_character 34 (drop 1 rest) h)

  module _ (h : first_is (λ c. eqb c 34) (drop 1 rest) ≡ true) where
    pub hash-string : longest rest ≡ 1 + taken (longer 1 (bytes_of (λ n. eqb n 1) (extent between_characters (drop 2 rest))))
    unfolding longer taken is_symbol is_one_of bytes
    hash-string =
        longest-hash
        ∙ ap₂ (λ (n : ℕ) (x : Option ℕ). taken (longer 1 (best (Some n) x)))
        (ap (run is_symbol) (starts 34 (drop 1 rest) h) ∙ run-no is_symbol 34 (drop 1 (drop 1 rest)) refl)
        (reach-behind-yes [] one_character 34 (drop 1 rest) h
        ∙ ap (longer 1)
        (reach-behind_all one_character (drop 1 (drop 1 rest))
        ∙ ap (reach one_character) (drop-drop 1 1 rest)
        ∙ reach-denotes (drop 2 rest) (λ n. eqb n 1) between_characters))
        ∙ ap (λ (x : Option ℕ). taken (longer 1 x)) (best_zero (longer 1 (bytes_of (λ n. eqb n 1) (extent between_characters (drop 2 rest)))))

    pub hash-some : 1 ≤ longest rest
    hash-some = omega (arith, hash-string)

    module _ (r : Option Quoted) (is : extent_of r ≡ further 2 0 (extent between_characters (drop 2 rest))) where
      nothing : bytes_of (λ n. eqb n 1) (extent between_characters (drop 2 rest)) ≡ None → 1 ≡ longest rest
      unfolding longer taken
      nothing e = sym (hash-string ∙ ap (λ (x : Option ℕ). 1 + taken (longer 1 x)) e)

      pub hash-endless : r ≡ None → 1 ≡ longest rest
      hash-endless e = nothing (read-endless (λ n. eqb n 1) 2 (extent between_characters (drop 2 rest)) r is e)

      module _ (q : Quoted) (e : r ≡ Some q) where
        pub hash-one : q.count ≡ 1 → q.end ≡ longest rest
        unfolding longer taken
        hash-one o =
            let p = read-yes (λ n. eqb n 1) 2 (extent between_characters (drop 2 rest)) r is q e (eq-eqb q.count 1 o) in
            let f : 2 + p.0 ≡ 1 + (1 + p.0) = omega arith in
            p.2 ∙ f ∙ sym (hash-string ∙ ap (λ (x : Option ℕ). 1 + taken (longer 1 x)) p.1)

        pub hash-other : (q.count ≡ 1 → ⊥) → 1 ≡ longest rest
        hash-other o = nothing (read_no (λ n. eqb n 1) 2 (extent between_characters (drop 2 rest)) r is q e (ne_eqb q.count 1 o))

-- ---- brackets and dots

module _ (rest : List ℕ) (s : rest ≡ 40 ∷ drop 1 rest) where
  pub bracket-comment : first_is (λ c. eqb c 42) (drop 1 rest) ≡ true → longest rest ≡ taken (longer 2 (reach (λ t. closes t 1) (drop 2 rest)))
  unfolding is_comment opens_comment bytes behind first_is
  bracket-comment h =
      longest-comment rest (ap opens_comment s ∙ ap (λ (u : List ℕ). opens_comment (40 ∷ u)) (starts 42 (drop 1 rest) h))
      ∙ ap taken
      (reach-two [] (λ t. closes t 1) 40 42 rest 0 (ap (first_is (λ c. eqb c 40)) s) h
      ∙ ap (longer 2) (reach-behind_all (λ t. closes t 1) (drop 2 rest)))

  opens-bracket : (u : List ℕ) → first_is (λ c. eqb c 42) u ≡ false → opens_comment (40 ∷ u) ≡ false
  unfolding opens_comment bytes behind first_is
  opens-bracket [] h = refl
  opens-bracket (c ∷ u) h = behind-no [] (λ r. true) 42 c h u

  pub bracket-alone : first_is (λ c. eqb c 42) (drop 1 rest) ≡ false → longest rest ≡ 1
  unfolding longer taken
  bracket-alone h =
      first_byte rest 40 (λ t. is_empty t || behind (42 ∷ []) (λ r. closes r 1) t) s (ap opens_comment s ∙ opens-bracket (drop 1 rest) h) token_bracket
      ∙ ap (λ (x : Option ℕ). taken (longer 1 x))
      (reach-or_empty (behind (42 ∷ []) (λ r. closes r 1)) (drop 1 rest)
      ∙ ap (λ (x : Option ℕ). Some (taken x)) (reach-behind-no [] (λ r. closes r 1) 42 (drop 1 rest) h))

module _ (rest : List ℕ) (s : rest ≡ 46 ∷ drop 1 rest) where
  longest-dots : longest rest ≡ taken (longer 1 (Some (taken (reach (behind (46 ∷ 46 ∷ []) is_empty) (drop 1 rest)))))
  longest-dots =
      first_byte rest 46 (λ t. is_empty t || behind (46 ∷ 46 ∷ []) is_empty t) s (opens_not rest 46 s refl) (λ t. token_dots t ∙ ap (λ (x : Bool). is_empty t || x) (same-behind (46 ∷ 46 ∷ []) t))
      ∙ ap (λ (x : Option ℕ). taken (longer 1 x)) (reach-or_empty (behind (46 ∷ 46 ∷ []) is_empty) (drop 1 rest))

  one-dot : reach (behind (46 ∷ 46 ∷ []) is_empty) (drop 1 rest) ≡ None → longest rest ≡ 1
  unfolding longer taken
  one-dot e = longest-dots ∙ ap (λ (x : Option ℕ). taken (longer 1 (Some (taken x)))) e

  pub dots-one : first_is (λ c. eqb c 46) (drop 1 rest) ≡ false → longest rest ≡ 1
  dots-one h = one-dot (reach-behind-no (46 ∷ []) is_empty 46 (drop 1 rest) h)

  pub dots_two : first_is (λ c. eqb c 46) (drop 1 rest) ≡ true → first_is (λ c. eqb c 46) (drop 2 rest) ≡ false → longest rest ≡ 1
  dots_two g h = one-dot (reach-two-no [] is_empty 46 46 rest 1 g h)

  pub dots-three : first_is (λ c. eqb c 46) (drop 1 rest) ≡ true → first_is (λ c. eqb c 46) (drop 2 rest) ≡ true → longest rest ≡ 3
  unfolding longer taken
  dots-three g h =
      longest-dots
      ∙ ap (λ (x : Option ℕ). taken (longer 1 (Some (taken x))))
      (reach-two [] is_empty 46 46 rest 1 g h ∙ ap (longer 2) (reach-behind_all is_empty (drop 3 rest) ∙ reach-empty (drop 3 rest)))

pub start : (rest : List ℕ) {b : ℕ} → Some b ≡ slice_get rest 0 → rest ≡ b ∷ drop 1 rest
start [] h = never (cc)
start (c ∷ t) {b} h = let e : c ≡ b = cc in ap (λ (x : ℕ). x ∷ t) e

-- ---- tests of a first byte

module _ (b : ℕ) where
  pub name-letter : is_letter b ≡ true → starts_name b ≡ true
  name-letter e = ap (λ (x : Bool). x || eqb b 39) e

  pub name-prime : b ≡ 39 → starts_name b ≡ true
  name-prime e = ap (λ (x : Bool). is_letter b || x) (eq-eqb b 39 e) ∙ or-true (is_letter b)

  pub no_name : is_letter b ≡ false → (b ≡ 39 → ⊥) → starts_name b ≡ false
  no_name e f = ap₂ (λ (x y : Bool). x || y) e (ne_eqb b 39 f)

  pub lone-other : OneOf lone_bytes b → eqb b 40 ≡ false
  unfolding every
  lone-other k = not-true (eqb b 40) (among_keys lone_bytes (λ x. not (eqb x 40)) b refl k)

  pub no-mark : (b ≡ 34 → ⊥) → (b ≡ 40 → ⊥) → (b ≡ 46 → ⊥) → (OneOf lone_bytes b → ⊥) → is_one_of (bytes "()[]{},;._\"") b ≡ false
  unfolding is_one_of bytes
  no-mark q o d n =
      rw (
        ne_eqb b 40 o,
        ne_eqb b 41 (λ e. n (inl e)),
        ne_eqb b 91 (λ e. n (inr (inr (inr (inl e))))),
        ne_eqb b 93 (λ e. n (inr (inr (inr (inr (inl e)))))),
        ne_eqb b 123 (λ e. n (inr (inr (inr (inr (inr (inr (inl e)))))))),
        ne_eqb b 125 (λ e. n (inr (inr (inr (inr (inr (inr (inr e)))))))),
        ne_eqb b 44 (λ e. n (inr (inl e))),
        ne_eqb b 59 (λ e. n (inr (inr (inl e)))),
        ne_eqb b 46 d,
        ne_eqb b 95 (λ e. n (inr (inr (inr (inr (inr (inl e))))))),
        ne_eqb b 34 q,
      )

pub ruleset dots_laws = (dots-one, dots_two, dots-three)

pub ruleset bracket_laws = (bracket-comment, bracket-alone, longer-positive)
