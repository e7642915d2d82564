-- Laws of encode: its four lengths, the row of the table that each encoding fits, the code point that fits a row. Assumes nothing.
use Prim.Native.Nat.{ℕ, suc, ◌+◌, ◌-◌, ◌*◌, ◌/◌, ◌%◌, ◌≤◌, ◌<◌}
use native.Mathlib.Omega.{arith}
use mathlib.Core.Path.{◌≡◌, refl, sym, ap, subst, ◌∙◌}
use mathlib.Core.Bool.{Bool, true, false, ◌&&◌, ◌||◌, and-false, or-true, false≢true}
use mathlib.Core.List.{List, [], ◌∷◌, ◌++◌}
use lib.Dec.{leb}
use lib.ListN.{length, take, drop}
use borrow.Author.Tests.{le-leb, lt-leb, leb-true, leb-false}
use Rattle.text.specs.Utf8.{Range, ◌‥◌, is_in, is_scalar, encode, continuation, well_formed, fits, width_in, char_at}
use Rattle.text.proofs.Computed.{and_left, and_right}
use Rattle.text.proofs.Utf8Laws.{ascii_char}

-- ---- ranges
module _ (lo hi b : ℕ) where
  pub in-yes : lo ≤ b → b ≤ hi → is_in (lo ‥ hi) b ≡ true
  unfolding is_in
  in-yes l h = rw (le-leb lo b l, le-leb b hi h)

  pub in-over : hi < b → is_in (lo ‥ hi) b ≡ false
  unfolding is_in
  in-over h = rw (lt-leb b hi h) (and-false (leb lo b))

  pub in-under : b < lo → is_in (lo ‥ hi) b ≡ false
  unfolding is_in
  in-under h = rw (lt-leb lo b h)

  pub in_bounds : is_in (lo ‥ hi) b ≡ true → (lo ≤ b) × (b ≤ hi)
  unfolding is_in
  in_bounds e = (leb-true lo b (and_left (leb lo b) (leb b hi) e), leb-true b hi (and_right (leb lo b) (leb b hi) e))

-- ---- the four lengths
module _ (c : ℕ) where
  pub encode_one : c ≤ 0x7F → encode c ≡ c ∷ []
  unfolding encode
  encode_one h = rw (encode, le-leb c 0x7F h)

  pub encode-two : 0x7F < c → c ≤ 0x7FF → encode c ≡ (0xC0 + c / 64) ∷ (0x80 + c % 64) ∷ []
  unfolding encode
  encode-two g h = rw (encode, lt-leb c 0x7F g, le-leb c 0x7FF h)

  pub encode-three : 0x7FF < c → c ≤ 0xFFFF → encode c ≡ (0xE0 + c / 4096) ∷ (0x80 + c / 64 % 64) ∷ (0x80 + c % 64) ∷ []
  unfolding encode
  encode-three g h = rw (encode, lt-leb c 0x7F (omega arith), lt-leb c 0x7FF g, le-leb c 0xFFFF h)

  pub encode-four : 0xFFFF < c → encode c ≡ (0xF0 + c / 262144) ∷ (0x80 + c / 4096 % 64) ∷ (0x80 + c / 64 % 64) ∷ (0x80 + c % 64) ∷ []
  unfolding encode
  encode-four g = rw (encode, lt-leb c 0x7F (omega arith), lt-leb c 0x7FF (omega arith), lt-leb c 0xFFFF g)

-- ---- rows
-- Every row starts with a range below a byte.
unfoldable pub under : ℕ → List (List Range) → Bool
under lo [] = true
under lo ([] ∷ rows) = false
under lo ((r ∷ rs) ∷ rows) = leb (suc r.last) lo && under lo rows

-- They are passed by every text that starts with such a byte.
pass : (lo : ℕ) (before rows : List (List Range)) (b : ℕ) (t : List ℕ) → under lo before ≡ true → lo ≤ b → width_in (before ++ rows) (b ∷ t) ≡ width_in rows (b ∷ t)
unfolding under width_in fits
pass lo [] rows b t u h = refl
pass lo ([] ∷ before) rows b t u h = absurd (false≢true u)
pass lo ((r ∷ rs) ∷ before) rows b t u h =
    let l = leb-true (suc r.last) lo (and_left (leb (suc r.last) lo) (under lo before) u) in
    rw (width_in, in-over r.first r.last b (omega arith)) (pass lo before rows b t (and_right (leb (suc r.last) lo) (under lo before) u) h)

hit : (row : List Range) (rows : List (List Range)) (t : List ℕ) → fits row t ≡ true → width_in (row ∷ rows) t ≡ length row
unfolding width_in
hit row rows t e = rw (width_in, e)

-- A text whose first bytes stand in the ranges of row k of the table.
module _ (k : ℕ) (lo hi lo' hi' : ℕ) (u : under lo (take k well_formed) ≡ true) (t : List ℕ) (a b : ℕ) (p : lo ≤ a) (p' : a ≤ hi) (q : lo' ≤ b) (q' : b ≤ hi') where
  char-row : (rs : List Range) (t : List ℕ) → well_formed ≡ take k well_formed ++ (lo ‥ hi ∷ rs) ∷ drop (suc k) well_formed → fits rs t ≡ true → char_at (a ∷ t) ≡ suc (length rs)
  unfolding char_at fits
  char-row rs t e f =
      ap (λ (rows : List (List Range)). width_in rows (a ∷ t)) e
      ∙ pass lo (take k well_formed) ((lo ‥ hi ∷ rs) ∷ drop (suc k) well_formed) a t u p
      ∙ hit (lo ‥ hi ∷ rs) (drop (suc k) well_formed) (a ∷ t) (rw (in-yes lo hi a p p') f)

  pub char-two : well_formed ≡ take k well_formed ++ (lo ‥ hi ∷ lo' ‥ hi' ∷ []) ∷ drop (suc k) well_formed → char_at (a ∷ b ∷ t) ≡ 2
  unfolding fits
  char-two e = char-row (lo' ‥ hi' ∷ []) (b ∷ t) e (rw (in-yes lo' hi' b q q'))

  module _ (c : ℕ) (r : 0x80 ≤ c) (r' : c ≤ 0xBF) where
    pub char-three : well_formed ≡ take k well_formed ++ (lo ‥ hi ∷ lo' ‥ hi' ∷ continuation ∷ []) ∷ drop (suc k) well_formed → char_at (a ∷ b ∷ c ∷ t) ≡ 3
    unfolding fits
    char-three e = char-row (lo' ‥ hi' ∷ continuation ∷ []) (b ∷ c ∷ t) e (rw (in-yes lo' hi' b q q', in-yes 0x80 0xBF c r r'))

    pub char-four : (d : ℕ) → 0x80 ≤ d → d ≤ 0xBF
        → well_formed ≡ take k well_formed ++ (lo ‥ hi ∷ lo' ‥ hi' ∷ continuation ∷ continuation ∷ []) ∷ drop (suc k) well_formed
        → char_at (a ∷ b ∷ c ∷ d ∷ t) ≡ 4
    unfolding fits
    char-four d s s' e =
        char-row (lo' ‥ hi' ∷ continuation ∷ continuation ∷ []) (b ∷ c ∷ d ∷ t) e
        (rw (in-yes lo' hi' b q q', in-yes 0x80 0xBF c r r', in-yes 0x80 0xBF d s s'))

-- ---- a scalar value's encoding is a character of its length
pub scalar_bounds : (c : ℕ) → is_scalar c ≡ true → (0xD7FF < c → 0xE000 ≤ c) × (c ≤ 0x10FFFF)
unfolding is_scalar
scalar_bounds c e = go (is_in (0x0 ‥ 0xD7FF) c) refl e
  where
    go : (x : Bool) → is_in (0x0 ‥ 0xD7FF) c ≡ x → (x || is_in (0xE000 ‥ 0x10FFFF) c) ≡ true → (0xD7FF < c → 0xE000 ≤ c) × (c ≤ 0x10FFFF)
    go true f g = let p = in_bounds 0x0 0xD7FF c f in ((λ h. absurd (omega (arith, h, p.1))), omega (arith, p.1))
    go false f g = let p = in_bounds 0xE000 0x10FFFF c g in ((λ h. p.0), p.1)

module _ (c : ℕ) (t : List ℕ) where
  char-of-two : 0x7F < c → c ≤ 0x7FF → char_at ((0xC0 + c / 64) ∷ (0x80 + c % 64) ∷ t) ≡ 2
  unfolding well_formed under
  char-of-two g h = char-two 1 0xC2 0xDF 0x80 0xBF refl t (0xC0 + c / 64) (0x80 + c % 64) (omega arith) (omega arith) (omega arith) (omega arith) refl

  module _ (g : 0x7FF < c) (h : c ≤ 0xFFFF) where
    char-of-three : (0xD7FF < c → 0xE000 ≤ c) → char_at ((0xE0 + c / 4096) ∷ (0x80 + c / 64 % 64) ∷ (0x80 + c % 64) ∷ t) ≡ 3
    unfolding well_formed under
    char-of-three s = go (leb c 0xFFF) refl (leb c 0xCFFF) refl (leb c 0xD7FF) refl
      where
        go : (x : Bool) → leb c 0xFFF ≡ x → (y : Bool) → leb c 0xCFFF ≡ y → (z : Bool) → leb c 0xD7FF ≡ z → char_at ((0xE0 + c / 4096) ∷ (0x80 + c / 64 % 64) ∷ (0x80 + c % 64) ∷ t) ≡ 3
        go true e y f z i =
            let l = leb-true c 0xFFF e in
            char-three 2 0xE0 0xE0 0xA0 0xBF refl t (0xE0 + c / 4096) (0x80 + c / 64 % 64) (omega arith) (omega arith) (omega arith) (omega arith) (0x80 + c % 64) (omega arith) (omega arith) refl
        go false e true f z i =
            let m = leb-false c 0xFFF e in
            let l = leb-true c 0xCFFF f in
            char-three 3 0xE1 0xEC 0x80 0xBF refl t (0xE0 + c / 4096) (0x80 + c / 64 % 64) (omega arith) (omega arith) (omega arith) (omega arith) (0x80 + c % 64) (omega arith) (omega arith) refl
        go false e false f true i =
            let m = leb-false c 0xCFFF f in
            let l = leb-true c 0xD7FF i in
            char-three 4 0xED 0xED 0x80 0x9F refl t (0xE0 + c / 4096) (0x80 + c / 64 % 64) (omega arith) (omega arith) (omega arith) (omega arith) (0x80 + c % 64) (omega arith) (omega arith) refl
        go false e false f false i =
            let m = s (leb-false c 0xD7FF i) in
            char-three 5 0xEE 0xEF 0x80 0xBF refl t (0xE0 + c / 4096) (0x80 + c / 64 % 64) (omega arith) (omega arith) (omega arith) (omega arith) (0x80 + c % 64) (omega arith) (omega arith) refl

  module _ (g : 0xFFFF < c) (h : c ≤ 0x10FFFF) where
    char-of-four : char_at ((0xF0 + c / 262144) ∷ (0x80 + c / 4096 % 64) ∷ (0x80 + c / 64 % 64) ∷ (0x80 + c % 64) ∷ t) ≡ 4
    unfolding well_formed under
    char-of-four = go (leb c 0x3FFFF) refl (leb c 0xFFFFF) refl
      where
        go : (x : Bool) → leb c 0x3FFFF ≡ x → (y : Bool) → leb c 0xFFFFF ≡ y → char_at ((0xF0 + c / 262144) ∷ (0x80 + c / 4096 % 64) ∷ (0x80 + c / 64 % 64) ∷ (0x80 + c % 64) ∷ t) ≡ 4
        go true e y f =
            let l = leb-true c 0x3FFFF e in
            char-four 6 0xF0 0xF0 0x90 0xBF refl t (0xF0 + c / 262144) (0x80 + c / 4096 % 64) (omega arith) (omega arith) (omega arith) (omega arith) (0x80 + c / 64 % 64) (omega arith) (omega arith) (0x80 + c % 64) (omega arith) (omega arith) refl
        go false e true f =
            let m = leb-false c 0x3FFFF e in
            let l = leb-true c 0xFFFFF f in
            char-four 7 0xF1 0xF3 0x80 0xBF refl t (0xF0 + c / 262144) (0x80 + c / 4096 % 64) (omega arith) (omega arith) (omega arith) (omega arith) (0x80 + c / 64 % 64) (omega arith) (omega arith) (0x80 + c % 64) (omega arith) (omega arith) refl
        go false e false f =
            let m = leb-false c 0xFFFFF f in
            char-four 8 0xF4 0xF4 0x80 0x8F refl t (0xF0 + c / 262144) (0x80 + c / 4096 % 64) (omega arith) (omega arith) (omega arith) (omega arith) (0x80 + c / 64 % 64) (omega arith) (omega arith) (0x80 + c % 64) (omega arith) (omega arith) refl

-- The four lengths of a code point.
pub lengths : (P : ℕ → Type 0) (c : ℕ) → c ≤ 0x10FFFF → (c ≤ 0x7F → P c) → (0x7F < c → c ≤ 0x7FF → P c) → (0x7FF < c → c ≤ 0xFFFF → P c) → (0xFFFF < c → P c) → P c
lengths P c m one two three four = go (leb c 0x7F) refl (leb c 0x7FF) refl (leb c 0xFFFF) refl
  where
    go : (x : Bool) → leb c 0x7F ≡ x → (y : Bool) → leb c 0x7FF ≡ y → (z : Bool) → leb c 0xFFFF ≡ z → P c
    go true e y f z i = one (leb-true c 0x7F e)
    go false e true f z i = two (leb-false c 0x7F e) (leb-true c 0x7FF f)
    go false e false f true i = three (leb-false c 0x7FF f) (leb-true c 0xFFFF i)
    go false e false f false i = four (leb-false c 0xFFFF i)

module _ (c : ℕ) (s : is_scalar c ≡ true) where
  abbrev bounds : (0xD7FF < c → 0xE000 ≤ c) × (c ≤ 0x10FFFF)
  bounds = scalar_bounds c s

  pub char-encode : (t : List ℕ) → char_at (encode c ++ t) ≡ length (encode c)
  char-encode t =
      lengths (λ c. (0xD7FF < c → 0xE000 ≤ c) → c ≤ 0x10FFFF → char_at (encode c ++ t) ≡ length (encode c)) c bounds.1
      (λ h g m. rw (encode_one c h) (ascii_char c t (omega (arith, h))))
      (λ l h g m. rw (encode-two c l h) (char-of-two c t l h))
      (λ l h g m. rw (encode-three c l h) (char-of-three c t l h g))
      (λ l g m. rw (encode-four c l) (char-of-four c t l m)) bounds.0 bounds.1

  pub encode-some : 0 < length (encode c)
  encode-some =
      lengths (λ c. 0 < length (encode c)) c bounds.1
      (λ h. rw (encode_one c h) (omega arith))
      (λ l h. rw (encode-two c l h) (omega arith))
      (λ l h. rw (encode-three c l h) (omega arith))
      (λ l. rw (encode-four c l) (omega arith))

-- ---- what fits a row is the encoding of a scalar value
unfoldable decode : List ℕ → ℕ
decode [] = 0
decode (a ∷ []) = a
decode (a ∷ b ∷ []) = (a - 0xC0) * 64 + (b - 0x80)
decode (a ∷ b ∷ c ∷ []) = (a - 0xE0) * 4096 + (b - 0x80) * 64 + (c - 0x80)
decode (a ∷ b ∷ c ∷ d ∷ t) = (a - 0xF0) * 262144 + (b - 0x80) * 4096 + (c - 0x80) * 64 + (d - 0x80)

decode-encode : (c : ℕ) → c ≤ 0x10FFFF → decode (encode c) ≡ c
unfolding decode
decode-encode c m =
    let six : c ≡ c / 64 * 64 + c % 64 = omega arith in
    let twelve : c / 64 ≡ c / 4096 * 64 + c / 64 % 64 = omega arith in
    let eighteen : c / 4096 ≡ c / 262144 * 64 + c / 4096 % 64 = omega arith in
    lengths (λ c. decode (encode c) ≡ c) c m
    (λ h. rw (encode_one c h))
    (λ l h. rw (encode-two c l h) (omega arith))
    (λ l h. rw (encode-three c l h) (omega (arith, six, twelve)))
    (λ l. rw (encode-four c l) (omega (arith, six, twelve, eighteen)))

pub encode_injective : (c d : ℕ) → is_scalar c ≡ true → is_scalar d ≡ true → encode c ≡ encode d → c ≡ d
encode_injective c d s r e = sym (decode-encode c (scalar_bounds c s).1) ∙ ap decode e ∙ decode-encode d (scalar_bounds d r).1

-- A scalar value whose encoding the text starts with, of this many bytes.
pub record Starts (t : List ℕ) (n : ℕ) : Type 0 where
  pub code : ℕ
  pub scalar : is_scalar code ≡ true
  pub rest : List ℕ
  pub is : t ≡ encode code ++ rest
  pub long : length (encode code) ≡ n

pub scalar_low : (c : ℕ) → c ≤ 0xD7FF → is_scalar c ≡ true
unfolding is_scalar
scalar_low c h = rw (in-yes 0x0 0xD7FF c (omega arith) h)

scalar_high : (c : ℕ) → 0xE000 ≤ c → c ≤ 0x10FFFF → is_scalar c ≡ true
unfolding is_scalar
scalar_high c g h = rw (in-yes 0xE000 0x10FFFF c g h) (or-true (is_in (0x0 ‥ 0xD7FF) c))

cons_eq : {a b : ℕ} {s t : List ℕ} → a ≡ b → s ≡ t → ◌≡◌ {A = List ℕ} (a ∷ s) (b ∷ t)
cons_eq e f = rw (e, f)

module _ (a b : ℕ) (t : List ℕ) (q : 0x80 ≤ b) (q' : b ≤ 0xBF) where
  starts-two : 0xC2 ≤ a → a ≤ 0xDF → Starts (a ∷ b ∷ t) 2
  starts-two p p' =
      let c = (a - 0xC0) * 64 + (b - 0x80) in
      let e = encode-two c (omega arith) (omega arith) in
      let first : a ≡ 0xC0 + c / 64 = omega arith in
      let second : b ≡ 0x80 + c % 64 = omega arith in
      record {
        code = c;
        scalar = scalar_low c (omega arith);
        rest = t;
        is = cons_eq first (cons_eq second refl) ∙ ap (λ (l : List ℕ). l ++ t) (sym e);
        long = ap length e;
      }

  module _ (c : ℕ) (r : 0x80 ≤ c) (r' : c ≤ 0xBF) where
    starts-three : (n : ℕ) → n ≡ (a - 0xE0) * 4096 + (b - 0x80) * 64 + (c - 0x80) → 0xE0 ≤ a → a ≤ 0xEF → 0x7FF < n → is_scalar n ≡ true → Starts (a ∷ b ∷ c ∷ t) 3
    starts-three n v p p' l s =
        let e = encode-three n l (omega arith) in
        let first : a ≡ 0xE0 + n / 4096 = omega arith in
        let second : b ≡ 0x80 + n / 64 % 64 = omega arith in
        let third : c ≡ 0x80 + n % 64 = omega arith in
        record {
          code = n;
          scalar = s;
          rest = t;
          is = cons_eq first (cons_eq second (cons_eq third refl)) ∙ ap (λ (l : List ℕ). l ++ t) (sym e);
          long = ap length e;
        }

    starts-four : (d : ℕ) → 0x80 ≤ d → d ≤ 0xBF → (n : ℕ) → n ≡ (a - 0xF0) * 262144 + (b - 0x80) * 4096 + (c - 0x80) * 64 + (d - 0x80) → 0xF0 ≤ a → 0xFFFF < n → n ≤ 0x10FFFF
        → Starts (a ∷ b ∷ c ∷ d ∷ t) 4
    starts-four d s s' n v p l m =
        let e = encode-four n l in
        let first : a ≡ 0xF0 + n / 262144 = omega arith in
        let second : b ≡ 0x80 + n / 4096 % 64 = omega arith in
        let third : c ≡ 0x80 + n / 64 % 64 = omega arith in
        let fourth : d ≡ 0x80 + n % 64 = omega arith in
        record {
          code = n;
          scalar = scalar_high n (omega arith) m;
          rest = t;
          is = cons_eq first (cons_eq second (cons_eq third (cons_eq fourth refl))) ∙ ap (λ (l : List ℕ). l ++ t) (sym e);
          long = ap length e;
        }

-- The first byte of what fits a row, and what is behind it.
record First (r : Range) (rs : List Range) (t : List ℕ) : Type 0 where
  byte : ℕ
  rest : List ℕ
  is : t ≡ byte ∷ rest
  in-range : (r.first ≤ byte) × (byte ≤ r.last)
  fit : fits rs rest ≡ true

first_of : (r : Range) (rs : List Range) (t : List ℕ) → fits (r ∷ rs) t ≡ true → First r rs t
unfolding fits
first_of r rs [] e = absurd (false≢true e)
first_of r rs (b ∷ t) e =
    record {
      byte = b;
      rest = t;
      is = refl;
      in-range = in_bounds r.first r.last b (and_left (is_in r b) (fits rs t) e);
      fit = and_right (is_in r b) (fits rs t) e;
    }

module _ (t : List ℕ) where
  row_one : fits (0x00 ‥ 0x7F ∷ []) t ≡ true → Starts t 1
  row_one e =
      let p = first_of (0x00 ‥ 0x7F) [] t e in
      let l = encode_one p.byte p.in-range.1 in
      record {
        code = p.byte;
        scalar = scalar_low p.byte (omega (arith, p.in-range.1));
        rest = p.rest;
        is = p.is ∙ ap (λ (u : List ℕ). u ++ p.rest) (sym l);
        long = ap length l;
      }

  row-two : fits (0xC2 ‥ 0xDF ∷ 0x80 ‥ 0xBF ∷ []) t ≡ true → Starts t 2
  row-two e =
      let p = first_of (0xC2 ‥ 0xDF) (0x80 ‥ 0xBF ∷ []) t e in
      let q = first_of (0x80 ‥ 0xBF) [] p.rest p.fit in
      subst (λ (u : List ℕ). Starts u 2) (sym (p.is ∙ ap (λ (u : List ℕ). p.byte ∷ u) q.is))
      (starts-two p.byte q.byte q.rest q.in-range.0 q.in-range.1 p.in-range.0 p.in-range.1)

  -- Rows of three bytes: at least 0x800, and no surrogate.
  module _ (lo hi lo' hi' : ℕ) (w : 0xE0 ≤ lo) (w' : hi ≤ 0xEF) (x : 0x80 ≤ lo') (x' : hi' ≤ 0xBF)
      (y : (a b c : ℕ) → lo ≤ a → a ≤ hi → lo' ≤ b → b ≤ hi' → 0x80 ≤ c → c ≤ 0xBF → (0x7FF < (a - 0xE0) * 4096 + (b - 0x80) * 64 + (c - 0x80)) × (is_scalar ((a - 0xE0) * 4096 + (b - 0x80) * 64 + (c - 0x80)) ≡ true)) where
    row-three : fits (lo ‥ hi ∷ lo' ‥ hi' ∷ 0x80 ‥ 0xBF ∷ []) t ≡ true → Starts t 3
    row-three e =
        let p = first_of (lo ‥ hi) (lo' ‥ hi' ∷ 0x80 ‥ 0xBF ∷ []) t e in
        let q = first_of (lo' ‥ hi') (0x80 ‥ 0xBF ∷ []) p.rest p.fit in
        let r = first_of (0x80 ‥ 0xBF) [] q.rest q.fit in
        let a = p.in-range in
        let b = q.in-range in
        let c = r.in-range in
        let z = y p.byte q.byte r.byte a.0 a.1 b.0 b.1 c.0 c.1 in
        subst (λ (u : List ℕ). Starts u 3) (sym (p.is ∙ ap (λ (u : List ℕ). p.byte ∷ u) (q.is ∙ ap (λ (u : List ℕ). q.byte ∷ u) r.is)))
        (starts-three p.byte q.byte r.rest (omega (arith, b.0)) (omega (arith, b.1)) r.byte c.0 c.1 _ refl (omega (arith, a.0)) (omega (arith, a.1)) z.0 z.1)

  -- Rows of four bytes: at least 0x10000, at most 0x10FFFF.
  module _ (lo hi lo' hi' : ℕ) (w : 0xF0 ≤ lo) (x : 0x80 ≤ lo') (x' : hi' ≤ 0xBF)
      (y : (a b c d : ℕ) → lo ≤ a → a ≤ hi → lo' ≤ b → b ≤ hi' → 0x80 ≤ c → c ≤ 0xBF → 0x80 ≤ d → d ≤ 0xBF
      → (0xFFFF < (a - 0xF0) * 262144 + (b - 0x80) * 4096 + (c - 0x80) * 64 + (d - 0x80)) × ((a - 0xF0) * 262144 + (b - 0x80) * 4096 + (c - 0x80) * 64 + (d - 0x80) ≤ 0x10FFFF)) where
    row-four : fits (lo ‥ hi ∷ lo' ‥ hi' ∷ 0x80 ‥ 0xBF ∷ 0x80 ‥ 0xBF ∷ []) t ≡ true → Starts t 4
    row-four e =
        let p = first_of (lo ‥ hi) (lo' ‥ hi' ∷ 0x80 ‥ 0xBF ∷ 0x80 ‥ 0xBF ∷ []) t e in
        let q = first_of (lo' ‥ hi') (0x80 ‥ 0xBF ∷ 0x80 ‥ 0xBF ∷ []) p.rest p.fit in
        let r = first_of (0x80 ‥ 0xBF) (0x80 ‥ 0xBF ∷ []) q.rest q.fit in
        let s = first_of (0x80 ‥ 0xBF) [] r.rest r.fit in
        let a = p.in-range in
        let b = q.in-range in
        let c = r.in-range in
        let d = s.in-range in
        let z = y p.byte q.byte r.byte s.byte a.0 a.1 b.0 b.1 c.0 c.1 d.0 d.1 in
        subst (λ (u : List ℕ). Starts u 4)
        (sym (p.is ∙ ap (λ (u : List ℕ). p.byte ∷ u) (q.is ∙ ap (λ (u : List ℕ). q.byte ∷ u) (r.is ∙ ap (λ (u : List ℕ). r.byte ∷ u) s.is))))
        (starts-four p.byte q.byte s.rest (omega (arith, b.0)) (omega (arith, b.1)) r.byte c.0 c.1 s.byte d.0 d.1 _ refl (omega (arith, a.0)) z.0 z.1)

  -- Every row of the table.
  abbrev Each : List (List Range) → Type 0
  Each [] = Unit {0}
  Each (row ∷ rows) = (fits row t ≡ true → Starts t (length row)) × Each rows

  each_row : Each well_formed
  unfolding well_formed
  each_row = (
    row_one,
    (
      row-two,
      (
        row-three 0xE0 0xE0 0xA0 0xBF (omega arith) (omega arith) (omega arith) (omega arith) (λ a b c p p' q q' r r'. (omega (arith, p, p', q, q', r, r'), scalar_low _ (omega (arith, p, p', q, q', r, r')))),
        (
          row-three 0xE1 0xEC 0x80 0xBF (omega arith) (omega arith) (omega arith) (omega arith) (λ a b c p p' q q' r r'. (omega (arith, p, p', q, q', r, r'), scalar_low _ (omega (arith, p, p', q, q', r, r')))),
          (
            row-three 0xED 0xED 0x80 0x9F (omega arith) (omega arith) (omega arith) (omega arith) (λ a b c p p' q q' r r'. (omega (arith, p, p', q, q', r, r'), scalar_low _ (omega (arith, p, p', q, q', r, r')))),
            (
              row-three 0xEE 0xEF 0x80 0xBF (omega arith) (omega arith) (omega arith) (omega arith) (λ a b c p p' q q' r r'. (omega (arith, p, p', q, q', r, r'), scalar_high _ (omega (arith, p, p', q, q', r, r')) (omega (arith, p, p', q, q', r, r')))),
              (
                row-four 0xF0 0xF0 0x90 0xBF (omega arith) (omega arith) (omega arith) (λ a b c d p p' q q' r r' s s'. (omega (arith, p, p', q, q', r, r', s, s'), omega (arith, p, p', q, q', r, r', s, s'))),
                (
                  row-four 0xF1 0xF3 0x80 0xBF (omega arith) (omega arith) (omega arith) (λ a b c d p p' q q' r r' s s'. (omega (arith, p, p', q, q', r, r', s, s'), omega (arith, p, p', q, q', r, r', s, s'))),
                  (
                    row-four 0xF4 0xF4 0x80 0x8F (omega arith) (omega arith) (omega arith) (λ a b c d p p' q q' r r' s s'. (omega (arith, p, p', q, q', r, r', s, s'), omega (arith, p, p', q, q', r, r', s, s'))),
                    tt,
                  ),
                ),
              ),
            ),
          ),
        ),
      ),
    ),
  )

  row-starts : (rows : List (List Range)) → Each rows → (n : ℕ) → width_in rows t ≡ suc n → Starts t (suc n)
  unfolding width_in
  row-starts [] h n e = absurd (omega (arith, e))
  row-starts (row ∷ rows) h n e = go (fits row t) refl e (row-starts rows h.1 n)
    where
      go : (x : Bool) → fits row t ≡ x → elim x as (λ z. ℕ) [ true ↦ length row | false ↦ width_in rows t ] ≡ suc n → (width_in rows t ≡ suc n → Starts t (suc n)) → Starts t (suc n)
      go true f g ih = subst (λ (k : ℕ). Starts t k) g (h.0 f)
      go false f g ih = ih g

-- A character is the encoding of a scalar value.
pub char-starts : (t : List ℕ) (n : ℕ) → char_at t ≡ suc n → Starts t (suc n)
unfolding char_at
char-starts t n e = row-starts t well_formed (each_row t) n e
