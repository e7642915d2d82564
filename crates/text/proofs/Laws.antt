-- Laws of the definitions in specs/Bytes.antt: a scan's step and its end, trim as a part, equality of two runs; a turn of a copy. Assumes nothing.
use Prim.Native.Nat.{ℕ, zero, suc, ◌+◌, ◌-◌, ◌≤◌, ◌<◌, zero-le, suc-le-suc}
use native.Mathlib.Numerals.{add-one}
use native.Mathlib.Omega.{arith}
use mathlib.Core.Path.{◌≡◌, refl, sym, ap, ◌∙◌}
use mathlib.Core.Bool.{Bool, true, false, not, ◌&&◌, ◌||◌, and-false, false≢true}
use mathlib.Core.List.{List, [], ◌∷◌, ◌++◌, map, reverse, reverse-append, reverse-reverse}
use lib.Dec.{leb, eqb}
use lib.Pointwise.{pointwise}
use lib.ListN.{length, get_or, take, drop, set, length-take, length-drop, length-reverse, take-append-drop}
use lib.Seq.{take_all, drop_at, paste, paste-suc}
use borrow.Author.Tests.{lt-leb, eq-eqb, eqb-true, leb-true}
use Rattle.text.proofs.Computed.{and_right}
use Rattle.text.specs.Bytes.{bytes, between, is_letter, is_digit, letter_entry, digit_entry, other_entry, class_of, classes_from, class_table, same_bytes, first_is, white_space, starts_with, leading, strip_from, strip, trim_start, trim_end, trim}

-- Two different constructors are not equal: from an equation of theirs `cc` proves `0 ≡ 1`.
pub never : {A : Type 0} → ◌≡◌ {A = ℕ} 0 1 → A
never e = absurd (omega (arith, e))

-- `a || b` from its first test.
pub or_true : {r a : Bool} (b : Bool) → r ≡ a → r ≡ true → r ≡ (a || b)
or_true b e t = rw (← e, t)

pub or_false : {r a s b : Bool} → r ≡ a → r ≡ false → s ≡ b → s ≡ (a || b)
or_false e f g = rw (← e, f, ← g)

-- ---- the table of classes
-- The rule of the table at each byte.
entry_from : (b n k : ℕ) → k < n → get_or (classes_from b n) k 0 ≡ class_of (b + k)
unfolding classes_from
entry_from b zero k h = absurd (omega arith)
entry_from b (suc n) zero h = ap class_of (omega arith)
entry_from b (suc n) (suc k) h = entry_from (suc b) n k (omega arith) ∙ ap class_of (omega arith)

entry : (b : ℕ) → b < 256 → get_or class_table b 0 ≡ class_of b
unfolding class_table
entry b h = entry_from 0 256 b h ∙ ap class_of (omega arith)

-- The table that the code has.
abbrev table : List ℕ
table = bytes "------------------------------------------------9999999999-------aaaaaaaaaaaaaaaaaaaaaaaaaa------aaaaaaaaaaaaaaaaaaaaaaaaaa-------------------------------------------------------------------------------------------------------------------------------------"

pub table_is : table ≡ class_table
unfolding bytes between is_letter is_digit class_of classes_from class_table
table_is = refl

pub class_at : (b : ℕ) → b < 256 → get_or table b 0 ≡ class_of b
class_at b h = ap (λ (t : List ℕ). get_or t b 0) table_is ∙ entry b h

-- No digit is a letter.
digit-no_letter : (b : ℕ) → is_digit b ≡ true → is_letter b ≡ false
unfolding is_digit is_letter between
digit-no_letter b e = go (leb b 57) refl
  where
    go : (h : Bool) → leb b 57 ≡ h → (between 65 90 b || between 97 122 b) ≡ false
    go true f = let high = leb-true b 57 f in rw (lt-leb 65 b (omega (arith, high)), lt-leb 97 b (omega (arith, high)))
    go false f = absurd (false≢true (sym (and-false (leb 48 b)) ∙ (rw f at e)))

pub class_letter : (b : ℕ) → eqb (class_of b) letter_entry ≡ is_letter b
unfolding class_of
class_letter b = go (is_letter b) (is_digit b) refl
  where
    go : (l d : Bool) → is_letter b ≡ l → eqb (elim l as (λ x. ℕ) [ true ↦ letter_entry | false ↦ elim d as (λ x. ℕ) [ true ↦ digit_entry | false ↦ other_entry ] ]) letter_entry ≡ l
    go true d e = refl
    go false true e = refl
    go false false e = refl

pub class_digit : (b : ℕ) → eqb (class_of b) digit_entry ≡ is_digit b
unfolding class_of
class_digit b = go (is_letter b) (is_digit b) refl refl
  where
    go : (l d : Bool) → is_letter b ≡ l → is_digit b ≡ d → eqb (elim l as (λ x. ℕ) [ true ↦ letter_entry | false ↦ elim d as (λ x. ℕ) [ true ↦ digit_entry | false ↦ other_entry ] ]) digit_entry ≡ d
    go true true e f = absurd (false≢true (sym (digit-no_letter b f) ∙ e))
    go true false e f = refl
    go false true e f = refl
    go false false e f = refl

-- The same of the entry at each byte.
pub letter_at : (b : ℕ) → b < 256 → eqb (get_or class_table b 0) letter_entry ≡ is_letter b
letter_at b h = ap (λ (x : ℕ). eqb x letter_entry) (entry b h) ∙ class_letter b

pub digit_at : (b : ℕ) → b < 256 → eqb (get_or class_table b 0) digit_entry ≡ is_digit b
digit_at b h = ap (λ (x : ℕ). eqb x digit_entry) (entry b h) ∙ class_digit b

pub class_other : (b : ℕ) → not (eqb (class_of b) other_entry) ≡ (is_letter b || is_digit b)
unfolding class_of
class_other b = go (is_letter b) (is_digit b)
  where
    go : (l d : Bool) → not (eqb (elim l as (λ x. ℕ) [ true ↦ letter_entry | false ↦ elim d as (λ x. ℕ) [ true ↦ digit_entry | false ↦ other_entry ] ]) other_entry) ≡ (l || d)
    go true d = refl
    go false true = refl
    go false false = refl

-- The first byte.
pub first-none : (test : ℕ → Bool) (s : List ℕ) → length s ≡ 0 → first_is test s ≡ false
unfolding first_is
first-none test [] h = refl
first-none test (b ∷ bs) h = absurd (omega arith)

pub first-at : (test : ℕ → Bool) (s : List ℕ) → (length s ≡ 0 → ⊥) → first_is test s ≡ test (get_or s 0 0)
unfolding first_is
first-at test [] h = absurd (h refl)
first-at test (b ∷ bs) h = refl

-- Equality of two runs.
pub same_lengths : (a b : List ℕ) → (length a ≡ length b → ⊥) → same_bytes a b ≡ false
unfolding same_bytes
same_lengths [] [] h = absurd (h refl)
same_lengths [] (c ∷ cs) h = refl
same_lengths (b ∷ bs) [] h = refl
same_lengths (b ∷ bs) (c ∷ cs) h = go (eqb b c) (same_lengths bs cs (λ e. h (ap suc e)))
  where
    go : (t : Bool) → same_bytes bs cs ≡ false → ◌≡◌ {A = Bool} (t && same_bytes bs cs) false
    go true f = f
    go false f = refl

-- What `==` answers at two runs.
pub same-is : (a b : List ℕ) → pointwise eqb a b ≡ same_bytes a b
unfolding same_bytes
same-is [] [] = refl
same-is [] (c ∷ cs) = refl
same-is (b ∷ bs) [] = refl
same-is (b ∷ bs) (c ∷ cs) = ap (λ (t : Bool). eqb b c && t) (same-is bs cs)

pub same_true : (a b : List ℕ) → same_bytes a b ≡ true → a ≡ b
unfolding same_bytes
same_true [] [] h = refl
same_true [] (c ∷ cs) h = absurd (false≢true h)
same_true (b ∷ bs) [] h = absurd (false≢true h)
same_true (b ∷ bs) (c ∷ cs) h = go (eqb b c) refl h (same_true bs cs)
  where
    go : (t : Bool) → eqb b c ≡ t → (t && same_bytes bs cs) ≡ true → (same_bytes bs cs ≡ true → bs ≡ cs) → ◌≡◌ {A = List ℕ} (b ∷ bs) (c ∷ cs)
    go true e f ih = rw (eqb-true b c e, ih f)
    go false e f ih = absurd (false≢true f)

pub same_refl : (a : List ℕ) → same_bytes a a ≡ true
unfolding same_bytes
same_refl [] = refl
same_refl (b ∷ bs) = rw (eq-eqb b b refl) (same_refl bs)

-- What follows an offset, as the part from it to the end.
pub take_rest : (s : List ℕ) (a : ℕ) → take (length s - a) (drop a s) ≡ drop a s
take_rest s a = take_all (length s - a) (drop a s) (omega (arith, length-drop a s))

-- ---- trim
-- The bytes of the word before are passed.
strip-behind : (ws : List (List ℕ)) (n : ℕ) (t : List ℕ) → strip_from ws n t ≡ strip_from ws 0 (drop n t)
unfolding strip_from
strip-behind ws zero t = refl
strip-behind ws (suc n) [] = refl
strip-behind ws (suc n) (b ∷ t) = strip-behind ws n t

module _ (ws : List (List ℕ)) where
  pub strip-none : (t : List ℕ) → leading ws t ≡ 0 → strip ws t ≡ t
  unfolding strip strip_from
  strip-none [] e = refl
  strip-none (b ∷ t) e = rw (strip_from, e)

  pub strip-some : (t : List ℕ) (n : ℕ) → n ≡ leading ws t → (n ≡ 0 → ⊥) → strip ws t ≡ strip ws (drop n t)
  unfolding strip strip_from
  strip-some t zero e z = absurd (z refl)
  strip-some [] (suc n) e z = refl
  strip-some (b ∷ t) (suc n) e z = rw (strip_from, ← e) (strip-behind ws n t)

-- Stripping leaves a part.
strip-part_from : (ws : List (List ℕ)) (k : ℕ) (t : List ℕ) → (a : ℕ) × (a ≤ length t) × (strip_from ws k t ≡ drop a t)
unfolding strip_from
strip-part_from ws zero [] = (0, zero-le, refl)
strip-part_from ws (suc k) [] = (0, zero-le, refl)
strip-part_from ws (suc k) (b ∷ t) = let p = strip-part_from ws k t in (suc p.0, suc-le-suc p.1, p.2)
strip-part_from ws zero (b ∷ t) = go (leading ws (b ∷ t)) (λ m. strip-part_from ws m t)
  where
    go : (n : ℕ) → ((m : ℕ) → (a : ℕ) × (a ≤ length t) × (strip_from ws m t ≡ drop a t)) → (a : ℕ) × (a ≤ suc (length t)) × (◌≡◌ {A = List ℕ} (elim n as (λ x. List ℕ) [ zero ↦ b ∷ t | suc m ↦ strip_from ws m t ]) (drop a (b ∷ t)))
    go zero ih = (0, zero-le, refl)
    go (suc m) ih = let p = ih m in (suc p.0, suc-le-suc p.1, p.2)

pub strip-part : (ws : List (List ℕ)) (t : List ℕ) → (a : ℕ) × (a ≤ length t) × (strip ws t ≡ drop a t)
unfolding strip
strip-part ws t = strip-part_from ws 0 t

-- A word that a text starts with is no longer than the text.
pub starts-within : (w t : List ℕ) → starts_with w t ≡ true → length w ≤ length t
unfolding starts_with
starts-within [] t h = zero-le
starts-within (c ∷ w) [] h = absurd (false≢true h)
starts-within (c ∷ w) (b ∷ t) h = suc-le-suc (starts-within w t (and_right (eqb b c) (starts_with w t) h))

pub leading-within : (ws : List (List ℕ)) (t : List ℕ) → leading ws t ≤ length t
unfolding leading
leading-within [] t = zero-le
leading-within (w ∷ ws) t = go (starts_with w t) refl (leading-within ws t)
  where
    go : (x : Bool) → starts_with w t ≡ x → leading ws t ≤ length t → elim x as (λ z. ℕ) [ true ↦ length w | false ↦ leading ws t ] ≤ length t
    go true e ih = starts-within w t e
    go false e ih = ih

-- What is left of a text that is read backwards.
reverse_drop : (s : List ℕ) (a : ℕ) → a ≤ length s → drop a (reverse s) ≡ reverse (take (length s - a) s)
reverse_drop s a h =
    let u = take (length s - a) s in
    let v = drop (length s - a) s in
    let e : reverse s ≡ reverse v ++ reverse u = ap reverse (sym (take-append-drop (length s - a) s)) ∙ reverse-append u v in
    ap (drop a) e ∙ drop_at (reverse v) (reverse u) a (length-reverse v ∙ length-drop (length s - a) s ∙ omega arith)

-- The two scans.
module _ (t : List ℕ) {n : ℕ} where
  module _ (e : n ≡ leading white_space t) where
    pub start-within : n ≤ length t
    start-within = omega (arith, leading-within white_space t)

    module _ (z : n ≡ 0 → ⊥) where
      pub start-less : length (take (length t - n) (drop n t)) < length t
      start-less = rw (take_rest t n) (omega (arith, z, start-within, length-drop n t))

      pub start-more : strip white_space t ≡ strip white_space (take (length t - n) (drop n t))
      start-more = strip-some white_space t n e z ∙ ap (strip white_space) (sym (take_rest t n))

  module _ (e : n ≡ leading (map reverse white_space) (reverse t)) where
    pub end-within : n ≤ length t
    end-within = omega (arith, leading-within (map reverse white_space) (reverse t), length-reverse t)

    pub end_less : (n ≡ 0 → ⊥) → length (take (length t - n) t) < length t
    end_less z = omega (arith, z, end-within, length-take (length t - n) t)

    pub end_more : (n ≡ 0 → ⊥) → strip (map reverse white_space) (reverse t) ≡ strip (map reverse white_space) (reverse (take (length t - n) t))
    end_more z =
        strip-some (map reverse white_space) (reverse t) n e z
        ∙ ap (strip (map reverse white_space)) (reverse_drop t n end-within)

-- Trimming gives a part.
trim-start_part : (s : List ℕ) → (a : ℕ) × (a ≤ length s) × (trim_start s ≡ drop a s)
unfolding trim_start
trim-start_part s = strip-part white_space s

trim-end_part : (s : List ℕ) → (e : ℕ) × (e ≤ length s) × (trim_end s ≡ take e s)
unfolding trim_end
trim-end_part s =
    let p = strip-part (map reverse white_space) (reverse s) in
    let l : p.0 ≤ length s = omega (arith, length-reverse s, p.1) in
    (length s - p.0, omega arith, ap reverse (p.2 ∙ reverse_drop s p.0 l) ∙ reverse-reverse (take (length s - p.0) s))

pub trim-part : (s : List ℕ) → (a : ℕ) × (e : ℕ) × (a + e ≤ length s) × (trim s ≡ take e (drop a s))
unfolding trim
trim-part s =
    let p = trim-start_part s in
    let q = trim-end_part (drop p.0 s) in
    (p.0, q.0, omega (arith, length-drop p.0 s, p.1, q.1), ap trim_end p.2 ∙ q.2)

pub length-trim : (s : List ℕ) → length (trim s) ≤ length s
length-trim s =
    let p = trim-part s in
    omega (arith, p.2, ap length p.3, length-take p.1 (drop p.0 s), length-drop p.0 s)

-- A turn of a copy: j elements, then one more.
pub copied_more : (d d' s : List ℕ) (at j : ℕ) → d' ≡ paste d at s j → at + j < length d → j < length s → set d' (at + j) (get_or s j 0) ≡ paste d at s (j + 1)
copied_more d d' s at j e h l =
    ap (λ (o : List ℕ). set o (at + j) (get_or s j 0)) e ∙ paste-suc d at s j 0 h l ∙ ap (λ (n : ℕ). paste d at s n) (sym (add-one j))
