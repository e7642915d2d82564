-- Laws of the definitions in specs/Utf8.antt: rows of the table, the scan for the first broken character. Assumes nothing.
use Prim.Native.Nat.{ℕ, zero, suc, ◌+◌, ◌-◌, ◌≤◌, ◌<◌}
use native.Mathlib.Nat.{add-zero}
use native.Mathlib.Numerals.{add-one}
use native.Mathlib.Omega.{arith}
use mathlib.Core.Path.{◌≡◌, refl, sym, ap, ◌∙◌}
use mathlib.Core.Bool.{Bool, true, false, not, ◌&&◌, and-true, false≢true}
use mathlib.Core.List.{List, [], ◌∷◌, ◌++◌}
use Rattle.std.specs.Prelude.{None, Some}
use lib.ListN.{length, get_or, take, drop, drop_of_length-le, length-drop}
use lib.Seq.{drop-cons, drop-drop}
use borrow.Author.Tests.{le-leb}
use Rattle.text.specs.Utf8.{Range, ◌‥◌, is_in, continuation, well_formed, fits, width_in, char_at, broken_from, first_broken, is_inside, boundary}
use Rattle.text.specs.Bytes.{between}
use Rattle.text.specs.Promises.Utf8.{ranges}
use Rattle.text.specs.WellFormed.{Ascii}
use Rattle.text.proofs.Computed.{and_right}
use Rattle.text.proofs.Laws.{take_rest}

-- ---- rows
-- The first ranges of a row, and those behind them.
pub fits_more : (u v : List Range) (t : List ℕ) → fits (u ++ v) t ≡ (fits u t && fits v (drop (length u) t))
unfolding fits
fits_more [] v t = refl
fits_more (r ∷ u) v [] = refl
fits_more (r ∷ u) v (b ∷ t) = go (is_in r b) (fits_more u v t)
  where
    go : (x : Bool) → fits (u ++ v) t ≡ (fits u t && fits v (drop (length u) t)) → (x && fits (u ++ v) t) ≡ (x && fits u t && fits v (drop (length u) t))
    go true ih = ih
    go false ih = refl

-- A row as the code has it: too few bytes; its range at an offset, and those behind it.
pub row_short : (row : List (ℕ × ℕ)) (s : List ℕ) → length s < length row → false ≡ fits (ranges row) s
unfolding fits
row_short [] s h = absurd (omega (arith, h))
row_short (r ∷ row) [] h = refl
row_short (r ∷ row) (b ∷ s) h = go (is_in (r.0 ‥ r.1) b) (row_short row s (omega (arith, h)))
  where
    go : (x : Bool) → false ≡ fits (ranges row) s → false ≡ (x && fits (ranges row) s)
    go true ih = ih
    go false ih = refl

module _ (row : List (ℕ × ℕ)) (s : List ℕ) (i : ℕ) where
  pub row_end : length row ≤ i → fits (ranges (drop i row)) (drop i s) ≡ true
  unfolding fits
  row_end h = rw (drop_of_length-le row h) refl

  module _ (g : i < length row) (h : i < length s) {x : Bool} (e : x ≡ between (get_or row i (0, 0)).0 (get_or row i (0, 0)).1 (get_or s i 0)) where
    pub row_in : x ≡ true → fits (ranges (drop i row)) (drop i s) ≡ fits (ranges (drop (i + 1) row)) (drop (i + 1) s)
    unfolding fits between is_in
    row_in f = rw (add-one, drop-cons row i (0, 0) g, drop-cons s i 0 h, fits, ← e, f) refl

    pub row_out : x ≡ false → fits (ranges (drop i row)) (drop i s) ≡ false
    unfolding fits between is_in
    row_out f = rw (drop-cons row i (0, 0) g, drop-cons s i 0 h, fits, ← e, f) refl

-- The first row that fits.
module _ {r : Bool} (row : List Range) (rows : List (List Range)) (t : List ℕ) (e : r ≡ fits row t) where
  row-yes : r ≡ true → length row ≡ width_in (row ∷ rows) t
  unfolding width_in
  row-yes f = rw (width_in, ← e, f)

-- A row that fits is no longer than the text.
fits-within : (row : List Range) (t : List ℕ) → fits row t ≡ true → length row ≤ length t
unfolding fits
fits-within [] t h = omega arith
fits-within (r ∷ rs) [] h = absurd (false≢true h)
fits-within (r ∷ rs) (b ∷ t) h = let l = fits-within rs t (and_right (is_in r b) (fits rs t) h) in omega arith

width_within : (rows : List (List Range)) (t : List ℕ) → width_in rows t ≤ length t
unfolding width_in
width_within [] t = omega arith
width_within (row ∷ rows) t = go (fits row t) refl (width_within rows t)
  where
    go : (x : Bool) → fits row t ≡ x → width_in rows t ≤ length t → elim x as (λ z. ℕ) [ true ↦ length row | false ↦ width_in rows t ] ≤ length t
    go true e ih = fits-within row t e
    go false e ih = ih

pub char_within : (t : List ℕ) → char_at t ≤ length t
unfolding char_at
char_within t = width_within well_formed t

-- ---- the scan
-- The bytes of the character before are passed.
pub broken-behind : (n at : ℕ) (t : List ℕ) → broken_from n at t ≡ broken_from 0 (at + n) (drop n t)
unfolding broken_from
broken-behind zero at t = ap (λ (i : ℕ). broken_from 0 i t) (sym (add-zero at))
broken-behind (suc n) at [] = refl
broken-behind (suc n) at (b ∷ t) = broken-behind n (suc at) t ∙ ap (λ (i : ℕ). broken_from 0 i (drop n t)) (omega arith)

pub broken_cons : (at : ℕ) (b : ℕ) (t : List ℕ) (n : ℕ) → char_at (b ∷ t) ≡ suc n → broken_from 0 at (b ∷ t) ≡ broken_from 0 (at + suc n) (drop n t)
unfolding broken_from
broken_cons at b t n e = rw (broken_from, e) (broken-behind n (suc at) t ∙ ap (λ (i : ℕ). broken_from 0 i (drop n t)) (omega arith))

-- The character that stands at an offset.
module _ (s : List ℕ) (i : ℕ) {n : ℕ} where
  pub char-here : n ≡ char_at (take (length s - i) (drop i s)) → n ≡ char_at (drop i s)
  char-here e = e ∙ ap char_at (take_rest s i)

  pub char-ends : i ≤ length s → n ≡ char_at (drop i s) → i + n ≤ length s
  char-ends h e = omega (arith, char_within (drop i s), length-drop i s)

module _ (s : List ℕ) (i : ℕ) where
  pub broken-none : length s ≤ i → broken_from 0 i (drop i s) ≡ None
  unfolding broken_from
  broken-none h = rw (drop_of_length-le s h)

  module _ (h : i < length s) where
    pub broken-at : char_at (drop i s) ≡ 0 → broken_from 0 i (drop i s) ≡ Some i
    unfolding broken_from
    broken-at e = let f = rw (drop-cons s i 0 h) at e in rw (drop-cons s i 0 h, broken_from, f)

    pub broken-more : (n : ℕ) → n ≡ char_at (drop i s) → (n ≡ 0 → ⊥) → broken_from 0 i (drop i s) ≡ broken_from 0 (i + n) (drop (i + n) s)
    broken-more zero e z = absurd (z refl)
    broken-more (suc n) e z =
        let f = rw (drop-cons s i 0 h) at e in
        let sum : suc i + n ≡ i + suc n = omega arith in
        ap (broken_from 0 i) (drop-cons s i 0 h)
        ∙ broken_cons i (get_or s i 0) (drop (suc i) s) n (sym f)
        ∙ ap (broken_from 0 (i + suc n)) (drop-drop n (suc i) s ∙ ap (λ (k : ℕ). drop k s) sum)

-- ---- ASCII
ascii-fits : (b : ℕ) (t : List ℕ) → b < 128 → true ≡ fits (0x00 ‥ 0x7F ∷ []) (b ∷ t)
unfolding fits is_in
ascii-fits b t h = rw (le-leb 0 b (omega arith), le-leb b 127 (omega arith))

pub ascii_char : (b : ℕ) (t : List ℕ) → b < 128 → char_at (b ∷ t) ≡ 1
unfolding char_at well_formed
ascii_char b t h = sym (row-yes (0x00 ‥ 0x7F ∷ []) _ (b ∷ t) (ascii-fits b t h) refl)

ascii_from : (at : ℕ) (t : List ℕ) → Ascii t → broken_from 0 at t ≡ None
unfolding broken_from
ascii_from at [] h = refl
ascii_from at (b ∷ t) h = rw (broken_from, ascii_char b t (h 0 (omega arith))) (ascii_from (suc at) t (λ i l. h (suc i) (omega (arith, l))))

-- ASCII is well-formed.
pub ascii_whole : (t : List ℕ) → Ascii t → first_broken t ≡ None
unfolding first_broken
ascii_whole t h = ascii_from 0 t h

-- ---- boundaries
-- A text that starts inside a character, as a row.
pub inside_is : (t : List ℕ) → is_inside t ≡ fits (continuation ∷ []) t
unfolding is_inside fits
inside_is [] = refl
inside_is (b ∷ t) = sym (and-true (is_in continuation b))

module _ (s : List ℕ) (i : ℕ) where
  pub boundary_end : length s ≤ i → true ≡ boundary s i
  unfolding boundary is_inside
  boundary_end h = rw (drop_of_length-le s h) refl

  pub boundary_at : {x : Bool} → i < length s → x ≡ between 0x80 0xBF (get_or s i 0) → not x ≡ boundary s i
  unfolding boundary is_inside between is_in
  boundary_at h e = rw (drop-cons s i 0 h) (ap not e)
