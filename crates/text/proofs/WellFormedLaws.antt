-- Document 02, Ticket 5. A text passes 2 exactly when it is a list of encoded scalar values; on such a text trim strips characters; on ASCII
-- it is document 01's. Each theorem stands under its sentence. Assumes nothing.
use Prim.Native.Nat.{ℕ, zero, suc, ◌+◌, ◌-◌, ◌/◌, ◌%◌, ◌≤◌, ◌<◌}
use native.Mathlib.Omega.{arith}
use mathlib.Core.Path.{◌≡◌, refl, sym, ap, ap₂, subst, ◌∙◌}
use mathlib.Core.Bool.{Bool, true, false, not, ◌&&◌, ◌||◌, false≢true}
use mathlib.Core.List.{List, [], ◌∷◌, ◌++◌, map, reverse, reverse-append, reverse-reverse, append_assoc, append-nil}
use Rattle.std.specs.Prelude.{Option, None, Some}
use lib.Dec.{leb, eqb}
use lib.ListN.{length, take, drop, length-take, length-drop, length-append, length-reverse}
use lib.Seq.{get_or-take, drop_at, take_at, drop-append-add}
use borrow.Author.Tests.{eq-eqb, eqb-true, eqb-false, leb-true, leb-false, lt-leb}
use Rattle.text.specs.Utf8.{is_in, is_scalar, encode, encoded, continuation, char_at, broken_from, first_broken, is_inside, boundary}
use Rattle.text.specs.Bytes.{between, is_space, white_space_codes, white_space, starts_with, leading, strip_from, strip, trim_start, trim_end, trim}
use Rattle.text.specs.WellFormed.{All, Scalar, Encodes, Between, drop_while, drop_ends, is_one_of, is_white_space, Ascii, first_not_ascii, trim_ascii}
use Rattle.text.proofs.Computed.{and_left, and_right, all_below, same, agree}
use Rattle.text.proofs.Laws.{never, strip-none, strip-some}
use Rattle.text.proofs.Utf8Laws.{broken_cons}
use Rattle.text.proofs.EncodeLaws.{in-yes, in-over, in-under, lengths, encode_one, encode-two, encode-three, encode-four, char-encode, encode-some, encode_injective, char-starts, scalar_bounds, scalar_low}

-- ---- well-formed texts
-- A character in front of a text.
broken_char : (at : ℕ) (u t : List ℕ) → 0 < length u → char_at (u ++ t) ≡ length u → broken_from 0 at (u ++ t) ≡ broken_from 0 (at + length u) t
broken_char at [] t h e = absurd (omega arith)
broken_char at (b ∷ u) t h e = broken_cons at b (u ++ t) (length u) e ∙ ap (broken_from 0 (at + suc (length u))) (drop_at u t (length u) refl)

encoded-whole : (at : ℕ) (cs : List ℕ) → All Scalar cs → broken_from 0 at (encoded cs) ≡ None
unfolding encoded All broken_from
encoded-whole at [] p = refl
encoded-whole at (c ∷ cs) p =
    broken_char at (encode c) (encoded cs) (encode-some c p.0) (char-encode c p.0 (encoded cs))
    ∙ encoded-whole (at + length (encode c)) cs p.1

-- A code point in front of what is encoded.
encodes_more : {text : List ℕ} (c : ℕ) (rest : List ℕ) → is_scalar c ≡ true → text ≡ encode c ++ rest → Encodes rest → Encodes text
unfolding encoded All
encodes_more c rest s e r =
    record { codes = c ∷ r.codes; scalar = (s, r.scalar); is = e ∙ ap (λ (l : List ℕ). encode c ++ l) r.is }

broken_not : (at b : ℕ) (t : List ℕ) → char_at (b ∷ t) ≡ 0 → broken_from 0 at (b ∷ t) ≡ None → ◌≡◌ {A = ℕ} 0 1
unfolding broken_from
broken_not at b t f e = let g = rw (broken_from, f) at e in absurd (some-none g)
  where
    some-none : ◌≡◌ {A = Option ℕ} (Some at) None → ⊥
    some-none h = never (cc)

whole_encodes : (n at : ℕ) (t : List ℕ) → length t ≤ n → broken_from 0 at t ≡ None → Encodes t
unfolding encoded All
whole_encodes zero at [] l e = record { codes = []; scalar = tt; is = refl }
whole_encodes (suc n) at [] l e = record { codes = []; scalar = tt; is = refl }
whole_encodes zero at (b ∷ t) l e = absurd (omega arith)
whole_encodes (suc n) at (b ∷ t) l e = go (char_at (b ∷ t)) refl (λ at' t' l' e'. whole_encodes n at' t' l' e')
  where
    go : (w : ℕ) → char_at (b ∷ t) ≡ w → ((at' : ℕ) (t' : List ℕ) → length t' ≤ n → broken_from 0 at' t' ≡ None → Encodes t') → Encodes (b ∷ t)
    go zero f ih = never (broken_not at b t f e)
    go (suc m) f ih =
        let p = char-starts (b ∷ t) m f in
        let d : drop m t ≡ p.rest = ap (drop (suc m)) p.is ∙ drop_at (encode p.code) p.rest (suc m) p.long in
        encodes_more p.code p.rest p.scalar p.is
        (ih (at + suc m) p.rest (rw (← d) (omega (arith, length-drop m t)))
        (ap (broken_from 0 (at + suc m)) (sym d) ∙ sym (broken_cons at b t m f) ∙ e))

-- A text passes 2 exactly when it is a list of encoded scalar values, joined.
pub passes-encodes : (text : List ℕ) → first_broken text ≡ None → Encodes text
unfolding first_broken
passes-encodes text e = whole_encodes (length text) 0 text (omega arith) e

pub encodes-passes : (text : List ℕ) → Encodes text → first_broken text ≡ None
unfolding first_broken
encodes-passes text e = ap (broken_from 0 0) e.is ∙ encoded-whole 0 e.codes e.scalar

-- ---- offsets
-- The first byte of an encoding is the first of a character.
first-outside : (c : ℕ) (t : List ℕ) → Scalar c → is_inside (encode c ++ t) ≡ false
unfolding is_inside
first-outside c t s =
    lengths (λ c. is_inside (encode c ++ t) ≡ false) c (scalar_bounds c s).1
    (λ h. rw (encode_one c h) (in-under 0x80 0xBF c (omega (arith, h))))
    (λ l h. rw (encode-two c l h) (in-over 0x80 0xBF (0xC0 + c / 64) (omega (arith, l))))
    (λ l h. rw (encode-three c l h) (in-over 0x80 0xBF (0xE0 + c / 4096) (omega arith)))
    (λ l. rw (encode-four c l) (in-over 0x80 0xBF (0xF0 + c / 262144) (omega arith)))

six-inside : (n : ℕ) (t : List ℕ) → is_inside ((0x80 + n % 64) ∷ t) ≡ true
unfolding is_inside
six-inside n t = in-yes 0x80 0xBF (0x80 + n % 64) (omega arith) (omega arith)

-- The others are not.
others-inside : (c i : ℕ) (t : List ℕ) → Scalar c → suc i < length (encode c) → is_inside (drop (suc i) (encode c ++ t)) ≡ true
others-inside c i t s l =
    lengths (λ c. suc i < length (encode c) → is_inside (drop (suc i) (encode c ++ t)) ≡ true) c (scalar_bounds c s).1
    (λ h. rw (encode_one c h) (λ z. absurd (omega (arith, z))))
    (λ g h. rw (encode-two c g h) (two i))
    (λ g h. rw (encode-three c g h) (three i))
    (λ g. rw (encode-four c g) (four i)) l
  where
    two : (i : ℕ) → suc i < 2 → is_inside (drop i ((0x80 + c % 64) ∷ t)) ≡ true
    two zero z = six-inside c t
    two (suc i) z = absurd (omega arith)

    three : (i : ℕ) → suc i < 3 → is_inside (drop i ((0x80 + c / 64 % 64) ∷ (0x80 + c % 64) ∷ t)) ≡ true
    three zero z = six-inside (c / 64) ((0x80 + c % 64) ∷ t)
    three (suc zero) z = six-inside c t
    three (suc (suc i)) z = absurd (omega arith)

    four : (i : ℕ) → suc i < 4 → is_inside (drop i ((0x80 + c / 4096 % 64) ∷ (0x80 + c / 64 % 64) ∷ (0x80 + c % 64) ∷ t)) ≡ true
    four zero z = six-inside (c / 4096) ((0x80 + c / 64 % 64) ∷ (0x80 + c % 64) ∷ t)
    four (suc zero) z = six-inside (c / 64) ((0x80 + c % 64) ∷ t)
    four (suc (suc zero)) z = six-inside c t
    four (suc (suc (suc i))) z = absurd (omega arith)

encoded-outside : (cs : List ℕ) → All Scalar cs → is_inside (encoded cs) ≡ false
unfolding encoded All is_inside
encoded-outside [] p = refl
encoded-outside (c ∷ cs) p = first-outside c (encoded cs) p.0

encoded-append : (xs ys : List ℕ) → encoded (xs ++ ys) ≡ encoded xs ++ encoded ys
unfolding encoded
encoded-append [] ys = refl
encoded-append (x ∷ xs) ys = ap (λ (l : List ℕ). encode x ++ l) (encoded-append xs ys) ∙ sym (append_assoc (encode x) (encoded xs) (encoded ys))

all-behind : (xs ys : List ℕ) → All Scalar (xs ++ ys) → All Scalar ys
unfolding All
all-behind [] ys p = p
all-behind (x ∷ xs) ys p = all-behind xs ys p.1

-- An offset of a well-formed text is a boundary exactly where a character starts, or behind the last one.
pub between-boundary : (cs : List ℕ) → All Scalar cs → (i : ℕ) → Between cs i → boundary (encoded cs) i ≡ true
unfolding boundary
between-boundary cs p i b =
    let q = all-behind b.before b.behind (subst (λ (l : List ℕ). All Scalar l) b.joins p) in
    ap (λ (l : List ℕ). not (is_inside (drop i l))) (ap encoded b.joins ∙ encoded-append b.before b.behind)
    ∙ ap (λ (l : List ℕ). not (is_inside l)) (drop_at (encoded b.before) (encoded b.behind) i b.at)
    ∙ ap not (encoded-outside b.behind q)

drop_front : (u t : List ℕ) (i : ℕ) → length u ≤ i → drop i (u ++ t) ≡ drop (i - length u) t
drop_front u t i h =
    let sum : i ≡ length u + (i - length u) = omega arith in
    ap (λ (k : ℕ). drop k (u ++ t)) sum ∙ drop-append-add u t (i - length u)

between_more : (c : ℕ) (cs : List ℕ) (i : ℕ) → length (encode c) ≤ i → Between cs (i - length (encode c)) → Between (c ∷ cs) i
unfolding encoded
between_more c cs i h b =
    record {
      before = c ∷ b.before;
      behind = b.behind;
      joins = ap (λ (l : List ℕ). c ∷ l) b.joins;
      at = length-append (encode c) (encoded b.before) ∙ omega (arith, b.at);
    }

pub boundary-between : (cs : List ℕ) → All Scalar cs → (i : ℕ) → i ≤ length (encoded cs) → boundary (encoded cs) i ≡ true → Between cs i
unfolding boundary encoded All
boundary-between [] p zero l e = record { before = []; behind = []; joins = refl; at = refl }
boundary-between [] p (suc i) l e = absurd (omega arith)
boundary-between (c ∷ cs) p zero l e = record { before = []; behind = c ∷ cs; joins = refl; at = refl }
boundary-between (c ∷ cs) p (suc i) l e = go (leb (length (encode c)) (suc i)) refl (λ k m f. boundary-between cs p.1 k m f)
  where
    go : (x : Bool) → leb (length (encode c)) (suc i) ≡ x → ((k : ℕ) → k ≤ length (encoded cs) → not (is_inside (drop k (encoded cs))) ≡ true → Between cs k) → Between (c ∷ cs) (suc i)
    go true f ih =
        let h = leb-true (length (encode c)) (suc i) f in
        between_more c cs (suc i) h
        (ih (suc i - length (encode c)) (omega (arith, h, length-append (encode c) (encoded cs)))
        (ap (λ (u : List ℕ). not (is_inside u)) (sym (drop_front (encode c) (encoded cs) (suc i) h)) ∙ e))
    go false f ih =
        absurd (false≢true (ap not (sym (others-inside c i (encoded cs) p.0 (leb-false (length (encode c)) (suc i) f))) ∙ e))

-- ---- one encoding in front of a text is no other
starts-split : (w t : List ℕ) → starts_with w t ≡ true → (r : List ℕ) × (t ≡ w ++ r)
unfolding starts_with
starts-split [] t e = (t, refl)
starts-split (c ∷ w) [] e = absurd (false≢true e)
starts-split (c ∷ w) (b ∷ t) e =
    let p = starts-split w t (and_right (eqb b c) (starts_with w t) e) in
    let f = eqb-true b c (and_left (eqb b c) (starts_with w t) e) in
    (p.0, ap₂ (λ (x : ℕ) (l : List ℕ). x ∷ l) f p.1)

starts-self : (w t : List ℕ) → starts_with w (w ++ t) ≡ true
unfolding starts_with
starts-self [] t = refl
starts-self (c ∷ w) t = rw (eq-eqb c c refl) (starts-self w t)

-- Two parts of equal length in front of one text.
front_same : (u v s t : List ℕ) → length u ≡ length v → u ++ s ≡ v ++ t → u ≡ v
front_same u v s t l e = sym (take_at u s (length u) refl) ∙ ap (take (length u)) e ∙ take_at v t (length u) (sym l)

-- A way to write code points as bytes in which no code is the start of another.
record Code : Type 0 where
  write : ℕ → List ℕ
  some : (c : ℕ) → Scalar c → 0 < length (write c)
  apart : (c d : ℕ) (s t : List ℕ) → Scalar c → Scalar d → write c ++ s ≡ write d ++ t → c ≡ d

module _ (f : Code) where
  starts-code : (c d : ℕ) (t : List ℕ) → Scalar c → Scalar d → starts_with (f.write d) (f.write c ++ t) ≡ eqb c d
  starts-code c d t p q = go (starts_with (f.write d) (f.write c ++ t)) refl (eqb c d) refl
    where
      go : (x : Bool) → starts_with (f.write d) (f.write c ++ t) ≡ x → (y : Bool) → eqb c d ≡ y → x ≡ y
      go true e true g = refl
      go false e false g = refl
      go true e false g =
          let s = starts-split (f.write d) (f.write c ++ t) e in
          absurd (eqb-false c d g (f.apart c d t s.0 p q s.1))
      go false e true g =
          absurd (false≢true (sym e ∙ ap (λ (k : ℕ). starts_with (f.write k) (f.write c ++ t)) (sym (eqb-true c d g)) ∙ starts-self (f.write c) t))

  leads : (ds : List ℕ) (c : ℕ) (t : List ℕ) → All Scalar ds → Scalar c
      → leading (map f.write ds) (f.write c ++ t) ≡ elim (is_one_of ds c) as (λ z. ℕ) [ true ↦ length (f.write c) | false ↦ 0 ]
  unfolding leading is_one_of All
  leads [] c t p s = refl
  leads (d ∷ ds) c t p s = rw (leading, starts-code c d t s p.0) (go (eqb c d) refl (leads ds c t p.1 s))
    where
      go : (x : Bool) → eqb c d ≡ x → leading (map f.write ds) (f.write c ++ t) ≡ elim (is_one_of ds c) as (λ z. ℕ) [ true ↦ length (f.write c) | false ↦ 0 ]
          → ◌≡◌ {A = ℕ} (elim x as (λ z. ℕ) [ true ↦ length (f.write d) | false ↦ leading (map f.write ds) (f.write c ++ t) ]) (elim (x || is_one_of ds c) as (λ z. ℕ) [ true ↦ length (f.write c) | false ↦ 0 ])
      go true e ih = ap (λ (k : ℕ). length (f.write k)) (sym (eqb-true c d e))
      go false e ih = ih

  unfoldable join_by : List ℕ → List ℕ
  join_by [] = []
  join_by (c ∷ cs) = f.write c ++ join_by cs

  strip-codes : (ds cs : List ℕ) → All Scalar ds → All Scalar cs → strip (map f.write ds) (join_by cs) ≡ join_by (drop_while (is_one_of ds) cs)
  unfolding join_by drop_while All strip strip_from
  strip-codes ds [] p q = refl
  strip-codes ds (c ∷ cs) p q = go (is_one_of ds c) (leads ds c (join_by cs) p q.0) (strip-codes ds cs p q.1)
    where
      words : List (List ℕ)
      words = map f.write ds

      go : (x : Bool) → leading words (f.write c ++ join_by cs) ≡ elim x as (λ z. ℕ) [ true ↦ length (f.write c) | false ↦ 0 ] → strip words (join_by cs) ≡ join_by (drop_while (is_one_of ds) cs)
          → strip words (f.write c ++ join_by cs) ≡ join_by (elim x as (λ z. List ℕ) [ true ↦ drop_while (is_one_of ds) cs | false ↦ c ∷ cs ])
      go true e ih =
          strip-some words (f.write c ++ join_by cs) (length (f.write c)) (sym e) (λ z. absurd (omega (arith, z, f.some c q.0)))
          ∙ ap (strip words) (drop_at (f.write c) (join_by cs) (length (f.write c)) refl)
          ∙ ih
      go false e ih = strip-none words (f.write c ++ join_by cs) e

  join-append : (xs ys : List ℕ) → join_by (xs ++ ys) ≡ join_by xs ++ join_by ys
  unfolding join_by
  join-append [] ys = refl
  join-append (x ∷ xs) ys = ap (λ (l : List ℕ). f.write x ++ l) (join-append xs ys) ∙ sym (append_assoc (f.write x) (join_by xs) (join_by ys))

-- ---- forwards
abbrev forwards : Code
forwards =
    record {
      write = encode;
      some = λ c p. encode-some c p;
      apart = λ c d s t p q e. encode_injective c d p q
          (front_same (encode c) (encode d) s t (sym (char-encode c p s) ∙ ap char_at e ∙ char-encode d q t) e);
    }

-- ---- backwards
-- How many bytes a text starts with that are not the first of a character.
unfoldable inside_run : List ℕ → ℕ
inside_run [] = 0
inside_run (b ∷ t) = elim (is_in continuation b) [ true ↦ suc (inside_run t) | false ↦ 0 ]

run_inside : (b : ℕ) (t : List ℕ) → 0x80 ≤ b → b ≤ 0xBF → inside_run (b ∷ t) ≡ suc (inside_run t)
unfolding inside_run
run_inside b t l h = rw (inside_run, in-yes 0x80 0xBF b l h)

run-over : (b : ℕ) (t : List ℕ) → 0xBF < b → inside_run (b ∷ t) ≡ 0
unfolding inside_run
run-over b t h = rw (inside_run, in-over 0x80 0xBF b h)

run-under : (b : ℕ) (t : List ℕ) → b < 0x80 → inside_run (b ∷ t) ≡ 0
unfolding inside_run
run-under b t h = rw (inside_run, in-under 0x80 0xBF b h)

run-encode : (c : ℕ) (t : List ℕ) → c ≤ 0x10FFFF → suc (inside_run (reverse (encode c) ++ t)) ≡ length (encode c)
run-encode c t m =
    lengths (λ c. suc (inside_run (reverse (encode c) ++ t)) ≡ length (encode c)) c m
    (λ h. rw (encode_one c h) (ap suc (run-under c t (omega (arith, h)))))
    (λ l h. rw (encode-two c l h) (ap suc (run_inside (0x80 + c % 64) ((0xC0 + c / 64) ∷ t) (omega arith) (omega arith) ∙ ap suc (run-over (0xC0 + c / 64) t (omega (arith, l))))))
    (λ l h. rw (encode-three c l h)
    (ap suc (run_inside (0x80 + c % 64) ((0x80 + c / 64 % 64) ∷ (0xE0 + c / 4096) ∷ t) (omega arith) (omega arith)
    ∙ ap suc (run_inside (0x80 + c / 64 % 64) ((0xE0 + c / 4096) ∷ t) (omega arith) (omega arith) ∙ ap suc (run-over (0xE0 + c / 4096) t (omega arith))))))
    (λ l. rw (encode-four c l)
    (ap suc (run_inside (0x80 + c % 64) ((0x80 + c / 64 % 64) ∷ (0x80 + c / 4096 % 64) ∷ (0xF0 + c / 262144) ∷ t) (omega arith) (omega arith)
    ∙ ap suc (run_inside (0x80 + c / 64 % 64) ((0x80 + c / 4096 % 64) ∷ (0xF0 + c / 262144) ∷ t) (omega arith) (omega arith)
    ∙ ap suc (run_inside (0x80 + c / 4096 % 64) ((0xF0 + c / 262144) ∷ t) (omega arith) (omega arith) ∙ ap suc (run-over (0xF0 + c / 262144) t (omega arith)))))))

abbrev backwards : Code
backwards =
    record {
      write = λ c. reverse (encode c);
      some = λ c p. rw (length-reverse (encode c)) (encode-some c p);
      apart = λ c d s t p q e.
          (let l : length (encode c) ≡ length (encode d) = sym (run-encode c s (scalar_bounds c p).1) ∙ ap (λ (u : List ℕ). suc (inside_run u)) e ∙ run-encode d t (scalar_bounds d q).1 in
          encode_injective c d p q
          (sym (reverse-reverse (encode c))
          ∙ ap reverse (front_same (reverse (encode c)) (reverse (encode d)) s t (length-reverse (encode c) ∙ l ∙ sym (length-reverse (encode d))) e)
          ∙ reverse-reverse (encode d)));
    }

-- ---- lists of code points
module _ (P : ℕ → Type 0) where
  all_append : (xs ys : List ℕ) → All P xs → All P ys → All P (xs ++ ys)
  unfolding All
  all_append [] ys p q = q
  all_append (x ∷ xs) ys p q = (p.0, all_append xs ys p.1 q)

  all-reverse : (cs : List ℕ) → All P cs → All P (reverse cs)
  unfolding All
  all-reverse [] p = tt
  all-reverse (c ∷ cs) p = subst (λ (l : List ℕ). All P l) (sym (reverse-append (c ∷ []) cs)) (all_append (reverse cs) (c ∷ []) (all-reverse cs p.1) (p.0, tt))

  all_drop : (test : ℕ → Bool) (cs : List ℕ) → All P cs → All P (drop_while test cs)
  unfolding All drop_while
  all_drop test [] p = tt
  all_drop test (c ∷ cs) p = go (test c) (all_drop test cs p.1)
    where
      go : (x : Bool) → All P (drop_while test cs) → All P (elim x as (λ z. List ℕ) [ true ↦ drop_while test cs | false ↦ c ∷ cs ])
      go true ih = ih
      go false ih = p

  all-ends : (test : ℕ → Bool) (cs : List ℕ) → All P cs → All P (drop_ends test cs)
  unfolding drop_ends
  all-ends test cs p = all-reverse _ (all_drop test _ (all-reverse _ (all_drop test cs p)))

encoded-join : (cs : List ℕ) → encoded cs ≡ join_by forwards cs
unfolding encoded join_by
encoded-join [] = refl
encoded-join (c ∷ cs) = ap (λ (l : List ℕ). encode c ++ l) (encoded-join cs)

reverse_join : (cs : List ℕ) → reverse (encoded cs) ≡ join_by backwards (reverse cs)
unfolding encoded join_by
reverse_join [] = refl
reverse_join (c ∷ cs) =
    reverse-append (encode c) (encoded cs)
    ∙ ap₂ (λ (x y : List ℕ). x ++ y) (reverse_join cs) (sym (append-nil (reverse (encode c))))
    ∙ sym (join-append backwards (reverse cs) (c ∷ []))
    ∙ ap (join_by backwards) (sym (reverse-append (c ∷ []) cs))

map_both : (cs : List ℕ) → map reverse (map encode cs) ≡ map (λ c. reverse (encode c)) cs
map_both [] = refl
map_both (c ∷ cs) = ap (λ (l : List (List ℕ)). reverse (encode c) ∷ l) (map_both cs)

-- White space is scalar.
unfoldable all_pass : (ℕ → Bool) → List ℕ → Bool
all_pass test [] = true
all_pass test (c ∷ cs) = test c && all_pass test cs

pass_all : (cs : List ℕ) → all_pass is_scalar cs ≡ true → All Scalar cs
unfolding all_pass All
pass_all [] e = tt
pass_all (c ∷ cs) e = (and_left (is_scalar c) (all_pass is_scalar cs) e, pass_all cs (and_right (is_scalar c) (all_pass is_scalar cs) e))

space_scalar : All Scalar white_space_codes
unfolding all_pass white_space_codes is_scalar is_in
space_scalar = pass_all white_space_codes refl

-- ---- trim
module _ (cs : List ℕ) (p : All Scalar cs) where
  start-codes : trim_start (encoded cs) ≡ encoded (drop_while is_white_space cs)
  unfolding trim_start white_space is_white_space
  start-codes =
      ap (strip white_space) (encoded-join cs)
      ∙ strip-codes forwards white_space_codes cs space_scalar p
      ∙ sym (encoded-join (drop_while (is_one_of white_space_codes) cs))

  end-codes : trim_end (encoded cs) ≡ encoded (reverse (drop_while is_white_space (reverse cs)))
  unfolding trim_end white_space is_white_space
  end-codes =
      let left = drop_while (is_one_of white_space_codes) (reverse cs) in
      ap (λ (l : List ℕ). reverse (strip (map reverse white_space) l)) (reverse_join cs)
      ∙ ap (λ (ws : List (List ℕ)). reverse (strip ws (join_by backwards (reverse cs)))) (map_both white_space_codes)
      ∙ ap reverse (strip-codes backwards white_space_codes (reverse cs) space_scalar (all-reverse Scalar cs p))
      ∙ ap (λ (l : List ℕ). reverse (join_by backwards l)) (sym (reverse-reverse left))
      ∙ ap reverse (sym (reverse_join (reverse left)))
      ∙ reverse-reverse (encoded (reverse left))

-- On such a text trim is decode, strip, encode.
pub trim-codes : (cs : List ℕ) → All Scalar cs → trim (encoded cs) ≡ encoded (drop_ends is_white_space cs)
unfolding trim drop_ends
trim-codes cs p = ap trim_end (start-codes cs p) ∙ end-codes (drop_while is_white_space cs) (all_drop Scalar is_white_space cs p)

pub trim-encodes : (text : List ℕ) (e : Encodes text) → trim text ≡ encoded (drop_ends is_white_space e.codes)
trim-encodes text e = ap trim e.is ∙ trim-codes e.codes e.scalar

-- ---- ASCII
abbrev Narrow : ℕ → Type 0
Narrow b = b < 128

narrow_all : (t : List ℕ) → Ascii t → All Narrow t
unfolding All
narrow_all [] h = tt
narrow_all (b ∷ t) h = (h 0 (omega arith), narrow_all t (λ i l. h (suc i) (omega (arith, l))))

narrow_scalar : (t : List ℕ) → All Narrow t → All Scalar t
unfolding All
narrow_scalar [] p = tt
narrow_scalar (b ∷ t) p = (scalar_low b (omega (arith, p.0)), narrow_scalar t p.1)

narrow-encoded : (t : List ℕ) → All Narrow t → encoded t ≡ t
unfolding All encoded
narrow-encoded [] p = refl
narrow-encoded (b ∷ t) p = ap₂ (λ (x y : List ℕ). x ++ y) (encode_one b (omega (arith, p.0))) (narrow-encoded t p.1)

narrow_space : (b : ℕ) → b < 128 → is_white_space b ≡ is_space b
unfolding is_white_space white_space_codes is_one_of is_space between all_below same
narrow_space b h = agree 128 is_white_space is_space refl b h

narrow_drop : (t : List ℕ) → All Narrow t → drop_while is_white_space t ≡ drop_while is_space t
unfolding All drop_while
narrow_drop [] p = refl
narrow_drop (b ∷ t) p = rw (narrow_space b p.0, drop_while) (go (is_space b) (narrow_drop t p.1))
  where
    go : (x : Bool) → drop_while is_white_space t ≡ drop_while is_space t
        → ◌≡◌ {A = List ℕ} (elim x as (λ z. List ℕ) [ true ↦ drop_while is_white_space t | false ↦ b ∷ t ]) (elim x as (λ z. List ℕ) [ true ↦ drop_while is_space t | false ↦ b ∷ t ])
    go true ih = ih
    go false ih = refl

narrow_ends : (t : List ℕ) → All Narrow t → drop_ends is_white_space t ≡ drop_ends is_space t
unfolding drop_ends
narrow_ends t p =
    ap reverse
    (narrow_drop (reverse (drop_while is_white_space t)) (all-reverse Narrow (drop_while is_white_space t) (all_drop Narrow is_white_space t p))
    ∙ ap (λ (l : List ℕ). drop_while is_space (reverse l)) (narrow_drop t p))

-- On ASCII texts trim is what it was, and none was refused with 2.
pub trim-narrow : (t : List ℕ) → Ascii t → trim t ≡ trim_ascii t
unfolding trim_ascii
trim-narrow t h =
    let p = narrow_all t h in
    ap trim (sym (narrow-encoded t p))
    ∙ trim-codes t (narrow_scalar t p)
    ∙ narrow-encoded (drop_ends is_white_space t) (all-ends Narrow is_white_space t p)
    ∙ narrow_ends t p

pub none_wide : (i : ℕ) (t : List ℕ) → Ascii t → first_not_ascii i t ≡ None
unfolding first_not_ascii
none_wide i [] h = refl
none_wide i (b ∷ t) h = rw (first_not_ascii, lt-leb 128 b (h 0 (omega arith))) (none_wide (suc i) t (λ k l. h (suc k) (omega (arith, l))))

-- A part of an ASCII text is one.
pub ascii_drop : (n : ℕ) (t : List ℕ) → Ascii t → Ascii (drop n t)
ascii_drop zero t h = h
ascii_drop (suc n) [] h = h
ascii_drop (suc n) (b ∷ t) h = ascii_drop n t (λ k l. h (suc k) (omega (arith, l)))

pub ascii_take : (n : ℕ) (t : List ℕ) → Ascii t → Ascii (take n t)
ascii_take n t h i l =
    let short = length-take n t in
    rw (get_or-take n t i 0 (omega (arith, l, short))) (h i (omega (arith, l, short)))
