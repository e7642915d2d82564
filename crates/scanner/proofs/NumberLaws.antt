-- Laws of the longest number. Assumes nothing.
use Prim.Native.Nat.{ℕ, zero, suc, ◌+◌, ◌-◌, ◌<◌, ◌≤◌}
use native.Mathlib.Omega.{arith}
use mathlib.Core.Path.{◌≡◌, refl, sym, ap, ap₂, ◌∙◌}
use mathlib.Core.Logic.{◌⊎◌, inl, inr, ⊎_elim}
use mathlib.Core.Bool.{Bool, true, false, ◌||◌, false≢true, and-true}
use mathlib.Core.List.{List, [], ◌∷◌}
use Rattle.std.specs.Prelude.{Option, None, Some}
use lib.Dec.{eqb}
use lib.Pointwise.{pointwise}
use lib.ListN.{length, take, drop, get_or}
use Rattle.text.specs.Bytes.{bytes, between, is_digit, first_is}
use Rattle.scanner.specs.Parts.{is_empty, every, one_or_more, behind, is_one_of}
use Rattle.scanner.specs.Constants.{is_hex_digit, unsigned, is_decimal, digits_then, is_exponent, is_fraction, is_word}
use Rattle.scanner.specs.Promises.Reach.{longer, reach, taken, run, is_hexadecimal, is_magnitude, positive}
use borrow.Author.Tests.{eqb-true, eq-eqb}
use Rattle.text.proofs.Computed.{and_left}
use Rattle.text.proofs.Laws.{take_rest}
use Rattle.scanner.proofs.Bytes.{apart, apart_all}
use Rattle.scanner.proofs.ReachLaws.{reach-within, found-behind, taken-behind, behind-within, longer-longer, longer-zero, best, best_none, empty, reach-nil, reach-same, reach-first, reach-some, reach_step, reach-none, reach_here, reach-or, reach-positive, run-yes, run-no, taken-positive, reach-more, behind-no, behind-two, starts, reach-behind-yes, reach-behind-no, strip_no, strip_yes, wins}

-- ---- digits, then what refuses a digit

run-nil : run is_digit [] ≡ 0
unfolding run
run-nil = refl

module _ (passes : List ℕ → Bool) where
  digits-yes : (b : ℕ) → is_digit b ≡ true → (t : List ℕ) → digits_then passes (b ∷ t) ≡ (passes t || digits_then passes t)
  unfolding digits_then
  digits-yes b e t = rw (digits_then, e)

  pub digits-no : (b : ℕ) → is_digit b ≡ false → (t : List ℕ) → digits_then passes (b ∷ t) ≡ false
  unfolding digits_then
  digits-no b e t = rw (digits_then, e)

  pub digits-nil : digits_then passes [] ≡ false
  unfolding digits_then
  digits-nil = refl

  pub reach-no-digits : (s : List ℕ) → run is_digit s ≡ 0 → reach (digits_then passes) s ≡ None
  unfolding empty
  reach-no-digits [] h = reach-nil (digits_then passes) ∙ ap empty digits-nil
  reach-no-digits (b ∷ s) h = go (is_digit b) refl
    where
      go : (t : Bool) → is_digit b ≡ t → reach (digits_then passes) (b ∷ s) ≡ None
      go true e = absurd (omega (arith, run-yes is_digit b s e))
      go false e = reach-none (digits_then passes) b s digits-nil (digits-no b e)

greater : (n k : ℕ) → best (Some 0) (longer (suc n) (Some k)) ≡ longer (suc n) (Some k)
unfolding best longer
greater n k = ap Some (omega arith)

one_add : (n : ℕ) → 1 + n ≡ suc n
one_add n = omega arith

None≢Some : {n : ℕ} → ◌≡◌ {A = Option ℕ} None (Some n) → ⊥
unfolding taken
None≢Some e = absurd (false≢true (ap is_some e))
  where
    is_some : Option ℕ → Bool
    is_some None = false
    is_some (Some n) = true

some_is : {m n : ℕ} → ◌≡◌ {A = Option ℕ} (Some m) (Some n) → m ≡ n
unfolding taken
some_is e = ap taken e

pub some_positive : (n : ℕ) → Some n ≡ positive (taken (Some n)) → 0 < n
unfolding positive taken
some_positive zero e = absurd (None≢Some (sym e))
some_positive (suc n) e = omega arith

-- All digits of a run are taken.
abbrev All : (List ℕ → Bool) → List ℕ → ℕ → Type 0
All passes s n = reach (digits_then passes) s ≡ longer n (reach passes (drop n s))

module _ (passes : List ℕ → Bool) (here : passes [] ≡ true) (refuses : (b : ℕ) → is_digit b ≡ true → (t : List ℕ) → passes (b ∷ t) ≡ false) where
  one_more : (n : ℕ) (s : List ℕ) → run is_digit s ≡ suc n → All passes s (suc n) → best (reach passes s) (reach (digits_then passes) s) ≡ longer (suc n) (reach passes (drop (suc n) s))
  one_more n [] e ih = absurd (omega (arith, run-nil))
  one_more n (c ∷ s) e ih = go (is_digit c) refl
    where
      go : (t : Bool) → is_digit c ≡ t → best (reach passes (c ∷ s)) (reach (digits_then passes) (c ∷ s)) ≡ longer (suc n) (reach passes (drop n s))
      go true f =
          ap₂ best (reach_here passes c s here (refuses c f)) (ih ∙ ap (longer (suc n)) (reach-some passes (drop n s) here))
          ∙ greater n (taken (reach passes (drop n s)))
          ∙ sym (ap (longer (suc n)) (reach-some passes (drop n s) here))
      go false f = absurd (omega (arith, run-no is_digit c s f))

  behind-first : (n : ℕ) (s : List ℕ) → run is_digit s ≡ n → (0 < n → All passes s n) → best (reach passes s) (reach (digits_then passes) s) ≡ longer n (reach passes (drop n s))
  behind-first zero s e ih = ap (best (reach passes s)) (reach-no-digits passes s e) ∙ best_none (reach passes s) ∙ sym (longer-zero (reach passes s))
  behind-first (suc n) s e ih = one_more n s e (ih (omega arith))

  pub reach-digits : (s : List ℕ) → 0 < run is_digit s → All passes s (run is_digit s)
  reach-digits [] h = absurd (omega (arith, run-nil))
  reach-digits (b ∷ s) h = go (is_digit b) refl (reach-digits s)
    where
      go : (t : Bool) → is_digit b ≡ t → (0 < run is_digit s → All passes s (run is_digit s)) → All passes (b ∷ s) (run is_digit (b ∷ s))
      go true e ih =
          reach_step (digits_then passes) b s (digits-nil passes) (digits-yes passes b e)
          ∙ ap (longer 1) (reach-or passes (digits_then passes) s ∙ behind-first (run is_digit s) s refl ih)
          ∙ longer-longer 1 (run is_digit s) (reach passes (drop (run is_digit s) s))
          ∙ ap (λ (n : ℕ). longer n (reach passes (drop (run is_digit s) s))) (one_add (run is_digit s))
          ∙ ap (λ (n : ℕ). longer n (reach passes (drop n (b ∷ s)))) (sym (run-yes is_digit b s e))
      go false e ih = absurd (omega (arith, run-no is_digit b s e))

no_run : (test : ℕ → Bool) (s : List ℕ) → reach (one_or_more test) s ≡ None → run test s ≡ 0
unfolding taken
no_run test s h = sym (taken-positive (run test s)) ∙ ap taken (sym (reach-more test s) ∙ h)

a_run : (test : ℕ → Bool) (s : List ℕ) {n : ℕ} → reach (one_or_more test) s ≡ Some n → (run test s ≡ n) × (0 < n)
unfolding positive
a_run test s {n} h = go (run test s) (sym (reach-more test s) ∙ h)
  where
    go : (m : ℕ) → positive m ≡ Some n → (m ≡ n) × (0 < n)
    go zero e = absurd (None≢Some e)
    go (suc m) e = (some_is e, omega (arith, some_is e))

-- What stands behind a run of digits.
digits-behind : (passes : List ℕ → Bool) → passes [] ≡ true → ((b : ℕ) → is_digit b ≡ true → (t : List ℕ) → passes (b ∷ t) ≡ false) → (s : List ℕ) {n : ℕ} → reach (one_or_more is_digit) s ≡ Some n → reach (digits_then passes) s ≡ longer n (reach passes (drop n s))
digits-behind passes here refuses s h =
    let r = a_run is_digit s h in
    reach-digits passes here refuses s (omega (arith, r.0, r.1)) ∙ ap (λ (m : ℕ). longer m (reach passes (drop m s))) r.0

-- ---- an integer in decimal notation

unsigned-yes : (b : ℕ) (t : List ℕ) → eqb b 126 ≡ true → unsigned (b ∷ t) ≡ t
unfolding unsigned
unsigned-yes b t e = rw (unsigned, e)

pub unsigned-no : (b : ℕ) (t : List ℕ) → eqb b 126 ≡ false → unsigned (b ∷ t) ≡ b ∷ t
unfolding unsigned
unsigned-no b t e = rw (unsigned, e)

decimal-nil : is_decimal [] ≡ false
unfolding is_decimal unsigned one_or_more
decimal-nil = refl

pub decimal-signed : (s : List ℕ) {r : List ℕ} → pointwise eqb (take 1 s) (126 ∷ []) ≡ true → r ≡ drop 1 s → reach is_decimal s ≡ longer 1 (reach (one_or_more is_digit) r)
unfolding is_decimal
decimal-signed [] h e = absurd (false≢true h)
decimal-signed (b ∷ s) h e =
    reach_step is_decimal b s decimal-nil (λ t. ap (one_or_more is_digit) (unsigned-yes b t (and_left (eqb b 126) true h)))
    ∙ ap (λ (u : List ℕ). longer 1 (reach (one_or_more is_digit) u)) (sym e)

pub decimal-plain : (s : List ℕ) → pointwise eqb (take 1 s) (126 ∷ []) ≡ false → reach is_decimal s ≡ reach (one_or_more is_digit) s
unfolding is_decimal unsigned one_or_more reach
decimal-plain [] h = refl
decimal-plain (b ∷ s) h =
    reach-first is_decimal (one_or_more is_digit) b s refl (λ t. ap (one_or_more is_digit) (unsigned-no b t (sym (and-true (eqb b 126)) ∙ h)))

-- ---- exponents

exponent_yes : (b : ℕ) → is_one_of (bytes "Ee") b ≡ true → (t : List ℕ) → is_exponent (b ∷ t) ≡ is_decimal t
unfolding is_exponent
exponent_yes b e t = rw (is_exponent, e)

exponent_no : (b : ℕ) → is_one_of (bytes "Ee") b ≡ false → (t : List ℕ) → is_exponent (b ∷ t) ≡ false
unfolding is_exponent
exponent_no b e t = rw (is_exponent, e)

exponent_nil : is_exponent [] ≡ false
unfolding is_exponent
exponent_nil = refl

reach-exponent_nil : reach is_exponent [] ≡ None
unfolding empty
reach-exponent_nil = reach-nil is_exponent ∙ ap empty exponent_nil

pub exponent-end : (s : List ℕ) → length s ≡ 0 → reach is_exponent s ≡ None
exponent-end [] h = reach-exponent_nil
exponent-end (b ∷ s) h = absurd (omega arith)

pub exponent-other : (b : ℕ) (s : List ℕ) → is_one_of (bytes "Ee") b ≡ false → reach is_exponent (b ∷ s) ≡ None
exponent-other b s e = reach-none is_exponent b s exponent_nil (exponent_no b e)

pub exponent-part : (b : ℕ) (s : List ℕ) → is_one_of (bytes "Ee") b ≡ true → reach is_exponent (b ∷ s) ≡ longer 1 (reach is_decimal s)
exponent-part b s e = reach_step is_exponent b s exponent_nil (exponent_yes b e)

-- ---- fractions

abbrev or_exponent : List ℕ → Bool
or_exponent r = is_empty r || is_exponent r

pub reach-empty : (s : List ℕ) → reach is_empty s ≡ Some 0
unfolding reach is_empty
reach-empty [] = refl
reach-empty (b ∷ s) = reach_here is_empty b s refl (λ t. refl)

pub best_zero : (x : Option ℕ) → best (Some 0) x ≡ Some (taken x)
unfolding best taken
best_zero None = refl
best_zero (Some n) = ap Some (omega arith)

-- Nothing, or what passes.
pub reach-or_empty : (passes : List ℕ → Bool) (s : List ℕ) → reach (λ r. is_empty r || passes r) s ≡ Some (taken (reach passes s))
reach-or_empty passes s = reach-or is_empty passes s ∙ ap (λ (x : Option ℕ). best x (reach passes s)) (reach-empty s) ∙ best_zero (reach passes s)

digit-no_exponent : (b : ℕ) → is_digit b ≡ true → (t : List ℕ) → is_exponent (b ∷ t) ≡ false
unfolding is_digit between bytes every
digit-no_exponent b e = exponent_no b (apart_all is_digit b e (bytes "Ee") refl)

digit-no_fraction : (b : ℕ) → is_digit b ≡ true → (t : List ℕ) → is_fraction (b ∷ t) ≡ false
unfolding is_fraction is_digit between bytes
digit-no_fraction b e = behind-no [] (digits_then or_exponent) 46 b (apart is_digit b e 46 refl)

or_exponent_here : or_exponent [] ≡ true
unfolding is_empty
or_exponent_here = refl

or_exponent_refuses : (b : ℕ) → is_digit b ≡ true → (t : List ℕ) → or_exponent (b ∷ t) ≡ false
unfolding is_empty
or_exponent_refuses b e t = digit-no_exponent b e t

pub fraction_other : (s : List ℕ) → first_is (λ b. eqb b 46) s ≡ false → reach is_fraction s ≡ None
unfolding is_fraction bytes
fraction_other s h = reach-behind-no [] (digits_then or_exponent) 46 s h

module _ (s : List ℕ) {r : List ℕ} (dot : pointwise eqb (take 1 s) (46 ∷ []) ≡ true) (is : r ≡ drop 1 s) where
  fraction-digits : reach is_fraction s ≡ longer 1 (reach (digits_then or_exponent) r)
  unfolding is_fraction bytes
  fraction-digits = strip_yes (digits_then or_exponent) (46 ∷ []) s dot ∙ ap (λ (u : List ℕ). longer 1 (reach (digits_then or_exponent) u)) (sym is)

  pub fraction-none : reach (one_or_more is_digit) r ≡ None → reach is_fraction s ≡ None
  unfolding longer
  fraction-none h = fraction-digits ∙ ap (longer 1) (reach-no-digits or_exponent r (no_run is_digit r h))

  pub fraction-some : {n : ℕ} → reach (one_or_more is_digit) r ≡ Some n → reach is_fraction s ≡ Some (1 + n + taken (reach is_exponent (drop n r)))
  unfolding longer
  fraction-some {n} h =
      fraction-digits
      ∙ ap (longer 1) (digits-behind or_exponent or_exponent_here or_exponent_refuses r h ∙ ap (longer n) (reach-or_empty is_exponent (drop n r)))
      ∙ ap Some (omega arith)

-- ---- an integer or a real without a negation symbol

abbrev fraction_or_exponent : List ℕ → Bool
fraction_or_exponent r = is_fraction r || is_exponent r

abbrev tail : List ℕ → Bool
tail r = is_empty r || fraction_or_exponent r

swap : (e o q d : Bool) → (e || o || (q || d)) ≡ (e || q || (o || d))
swap true o q d = refl
swap false true true d = refl
swap false true false d = refl
swap false false true d = refl
swap false false false d = refl

every-or : (t : List ℕ) → every is_digit t ≡ (is_empty t || one_or_more is_digit t)
unfolding every is_empty one_or_more
every-or [] = refl
every-or (b ∷ t) = refl

-- Digits alone are digits and nothing behind them.
digits-or : (passes : List ℕ → Bool) (t : List ℕ) → (one_or_more is_digit t || digits_then passes t) ≡ digits_then (λ r. is_empty r || passes r) t
unfolding one_or_more digits_then
digits-or passes [] = refl
digits-or passes (b ∷ t) = go (is_digit b) (digits-or passes t)
  where
    go : (u : Bool) → (one_or_more is_digit t || digits_then passes t) ≡ digits_then (λ r. is_empty r || passes r) t → ◌≡◌ {A = Bool} (elim u as (λ x. Bool) [ true ↦ every is_digit t | false ↦ false ] || elim u as (λ x. Bool) [ true ↦ passes t || digits_then passes t | false ↦ false ]) (elim u as (λ x. Bool) [ true ↦ is_empty t || passes t || digits_then (λ r. is_empty r || passes r) t | false ↦ false ])
    go true ih =
        ap (λ (x : Bool). x || (passes t || digits_then passes t)) (every-or t)
        ∙ swap (is_empty t) (one_or_more is_digit t) (passes t) (digits_then passes t)
        ∙ ap (λ (x : Bool). is_empty t || passes t || x) ih
    go false ih = refl

rotate : (o h d : Bool) → (o || h || d) ≡ (h || (o || d))
rotate true true d = refl
rotate true false d = refl
rotate false h d = refl

magnitude_is : (t : List ℕ) → is_magnitude t ≡ (is_hexadecimal t || digits_then tail t)
unfolding is_magnitude
magnitude_is t =
    rotate (one_or_more is_digit t) (is_hexadecimal t) (digits_then fraction_or_exponent t)
    ∙ ap (λ (x : Bool). is_hexadecimal t || x) (digits-or fraction_or_exponent t)

pub reach-magnitude : (s : List ℕ) → reach is_magnitude s ≡ best (reach is_hexadecimal s) (reach (digits_then tail) s)
reach-magnitude s = reach-same s magnitude_is ∙ reach-or is_hexadecimal (digits_then tail) s

tail_here : tail [] ≡ true
unfolding is_empty
tail_here = refl

tail_refuses : (b : ℕ) → is_digit b ≡ true → (t : List ℕ) → tail (b ∷ t) ≡ false
unfolding is_empty
tail_refuses b e t = ap₂ (λ (x y : Bool). x || y) (digit-no_fraction b e t) (digit-no_exponent b e t)

dot_no_exponent : (s : List ℕ) → first_is (λ b. eqb b 46) s ≡ true → reach is_exponent s ≡ None
unfolding bytes is_one_of
dot_no_exponent s h = ap (reach is_exponent) (starts 46 s h) ∙ reach-none is_exponent 46 (drop 1 s) exponent_nil (exponent_no 46 refl)

-- A fraction behind the digits, or else an exponent.
pub tail_fraction : (s : List ℕ) {n : ℕ} → reach is_fraction s ≡ Some n → reach tail s ≡ Some n
unfolding taken first_is
tail_fraction s {n} h = go (first_is (λ b. eqb b 46) s) refl
  where
    go : (t : Bool) → first_is (λ b. eqb b 46) s ≡ t → reach tail s ≡ Some n
    go true d =
        reach-or_empty fraction_or_exponent s
        ∙ ap (λ (x : Option ℕ). Some (taken x))
        (reach-or is_fraction is_exponent s ∙ ap (best (reach is_fraction s)) (dot_no_exponent s d) ∙ best_none (reach is_fraction s) ∙ h)
    go false d = absurd (None≢Some (sym (fraction_other s d) ∙ h))

pub tail_other : (s : List ℕ) → reach is_fraction s ≡ None → reach tail s ≡ Some (taken (reach is_exponent s))
unfolding best
tail_other s h =
    reach-or_empty fraction_or_exponent s
    ∙ ap (λ (x : Option ℕ). Some (taken x)) (reach-or is_fraction is_exponent s ∙ ap (λ (x : Option ℕ). best x (reach is_exponent s)) h)

-- A zero before a letter that ends the number.
zero-first : (c : ℕ) (t : List ℕ) → is_digit c ≡ false → ((u : List ℕ) → tail (c ∷ u) ≡ false) → reach (digits_then tail) (48 ∷ c ∷ t) ≡ Some 1
unfolding is_digit between longer
zero-first c t e f =
    let one : run is_digit (48 ∷ c ∷ t) ≡ 1 = run-yes is_digit 48 (c ∷ t) refl ∙ ap suc (run-no is_digit c t e) in
    reach-digits tail tail_here tail_refuses (48 ∷ c ∷ t) (omega arith)
    ∙ ap (λ (n : ℕ). longer n (reach tail (drop n (48 ∷ c ∷ t)))) one
    ∙ ap (longer 1) (reach_here tail c t tail_here f)

pub zero_x : (t : List ℕ) → reach (digits_then tail) (48 ∷ 120 ∷ t) ≡ Some 1
unfolding is_digit between is_empty is_fraction is_exponent is_one_of bytes behind
zero_x t = zero-first 120 t refl (λ u. refl)

zero_w : (t : List ℕ) → reach (digits_then tail) (48 ∷ 119 ∷ t) ≡ Some 1
unfolding is_digit between is_empty is_fraction is_exponent is_one_of bytes behind
zero_w t = zero-first 119 t refl (λ u. refl)

hexadecimal_nil : is_hexadecimal [] ≡ false
unfolding is_hexadecimal bytes behind
hexadecimal_nil = refl

pub hexadecimal-part : (s : List ℕ) {r : List ℕ} → pointwise eqb (take 2 s) (48 ∷ 120 ∷ []) ≡ true → r ≡ drop 2 s → reach is_hexadecimal s ≡ longer 2 (reach (one_or_more is_hex_digit) r)
unfolding is_hexadecimal bytes
hexadecimal-part s h e = strip_yes (one_or_more is_hex_digit) (48 ∷ 120 ∷ []) s h ∙ ap (λ (u : List ℕ). longer 2 (reach (one_or_more is_hex_digit) u)) (sym e)

pub magnitude-hex : (s : List ℕ) {n : ℕ} → reach is_hexadecimal s ≡ Some n → reach is_magnitude s ≡ Some n
unfolding is_hexadecimal bytes taken
magnitude-hex s {n} h =
    let l : 0 < taken (reach is_hexadecimal s) = rw h (some_positive n (rw h at (reach-positive is_hexadecimal s hexadecimal_nil))) in
    let e = behind-two 48 120 [] (one_or_more is_hex_digit) s l in
    reach-magnitude s
    ∙ ap (best (reach is_hexadecimal s)) (ap (reach (digits_then tail)) e ∙ zero_x (drop 2 s))
    ∙ wins (reach is_hexadecimal s) l
    ∙ h

module _ (s : List ℕ) (hex : reach is_hexadecimal s ≡ None) where
  no-hex : reach is_magnitude s ≡ reach (digits_then tail) s
  unfolding best
  no-hex = reach-magnitude s ∙ ap (λ (x : Option ℕ). best x (reach (digits_then tail) s)) hex

  pub magnitude-none : reach (one_or_more is_digit) s ≡ None → reach is_magnitude s ≡ None
  magnitude-none h = no-hex ∙ reach-no-digits tail s (no_run is_digit s h)

  pub magnitude-tail : {n k : ℕ} → reach (one_or_more is_digit) s ≡ Some n → reach tail (drop n s) ≡ Some k → reach is_magnitude s ≡ Some (n + k)
  unfolding longer
  magnitude-tail {n} h t = no-hex ∙ digits-behind tail tail_here tail_refuses s h ∙ ap (longer n) t

-- ---- words

abbrev word_digits : List ℕ → Bool
word_digits = behind (48 ∷ 119 ∷ []) (one_or_more is_digit)

abbrev word_hex : List ℕ → Bool
word_hex = behind (48 ∷ 119 ∷ 120 ∷ []) (one_or_more is_hex_digit)

reach-word : (s : List ℕ) → reach is_word s ≡ best (reach word_digits s) (reach word_hex s)
unfolding is_word bytes
reach-word s = reach-or word_digits word_hex s

word-behind : (s : List ℕ) {x : Option ℕ} → reach (behind (48 ∷ 119 ∷ []) (behind (120 ∷ []) (one_or_more is_hex_digit))) s ≡ x → reach word_hex s ≡ x
unfolding behind
word-behind s e = reach-same s same_word ∙ e
  where
    same_word : (t : List ℕ) → word_hex t ≡ behind (48 ∷ 119 ∷ []) (behind (120 ∷ []) (one_or_more is_hex_digit)) t
    same_word [] = refl
    same_word (b ∷ []) = refl
    same_word (b ∷ c ∷ t) = refl

no_word : (s : List ℕ) → reach word_digits s ≡ None → reach word_hex s ≡ None → reach is_word s ≡ None
unfolding best
no_word s d h = reach-word s ∙ ap₂ best d h

pub word-other : (s : List ℕ) → pointwise eqb (take 2 s) (48 ∷ 119 ∷ []) ≡ false → reach is_word s ≡ None
word-other s h =
    no_word s (strip_no (one_or_more is_digit) (48 ∷ 119 ∷ []) s h) (word-behind s (strip_no (behind (120 ∷ []) (one_or_more is_hex_digit)) (48 ∷ 119 ∷ []) s h))

module _ (s : List ℕ) {r : List ℕ} (zero_w-at : pointwise eqb (take 2 s) (48 ∷ 119 ∷ []) ≡ true) (is : r ≡ drop 2 s) where
  digits-part : reach word_digits s ≡ longer 2 (reach (one_or_more is_digit) r)
  digits-part = strip_yes (one_or_more is_digit) (48 ∷ 119 ∷ []) s zero_w-at ∙ ap (λ (u : List ℕ). longer 2 (reach (one_or_more is_digit) u)) (sym is)

  hex-part : reach word_hex s ≡ longer 2 (reach (behind (120 ∷ []) (one_or_more is_hex_digit)) r)
  hex-part =
      word-behind s (strip_yes (behind (120 ∷ []) (one_or_more is_hex_digit)) (48 ∷ 119 ∷ []) s zero_w-at)
      ∙ ap (λ (u : List ℕ). longer 2 (reach (behind (120 ∷ []) (one_or_more is_hex_digit)) u)) (sym is)

  pub word-hex : {t : List ℕ} → pointwise eqb (take 1 r) (120 ∷ []) ≡ true → t ≡ drop 1 r → reach is_word s ≡ longer 3 (reach (one_or_more is_hex_digit) t)
  unfolding best longer is_digit between one_or_more
  word-hex {t} x e =
      reach-word s
      ∙ ap₂ best
      (digits-part ∙ ap (longer 2) (no-digit r x))
      (hex-part
      ∙ ap (longer 2) (strip_yes (one_or_more is_hex_digit) (120 ∷ []) r x ∙ ap (λ (u : List ℕ). longer 1 (reach (one_or_more is_hex_digit) u)) (sym e))
      ∙ longer-longer 2 1 (reach (one_or_more is_hex_digit) t))
    where
      no-digit : (u : List ℕ) → pointwise eqb (take 1 u) (120 ∷ []) ≡ true → reach (one_or_more is_digit) u ≡ None
      no-digit [] h = absurd (false≢true h)
      no-digit (b ∷ u) h = ap (λ (c : ℕ). reach (one_or_more is_digit) (c ∷ u)) (eqb-true b 120 (and_left (eqb b 120) true h)) ∙ reach-none (one_or_more is_digit) 120 u refl (λ t. refl)

  pub word-digits : pointwise eqb (take 1 r) (120 ∷ []) ≡ false → reach is_word s ≡ longer 2 (reach (one_or_more is_digit) r)
  unfolding longer
  word-digits x =
      reach-word s
      ∙ ap₂ best digits-part (hex-part ∙ ap (longer 2) (strip_no (one_or_more is_hex_digit) (120 ∷ []) r x))
      ∙ best_none (longer 2 (reach (one_or_more is_digit) r))

either-taken : (x y : Option ℕ) → 0 < taken (best x y) → (0 < taken x) ⊎ (0 < taken y)
unfolding best taken
either-taken None y h = inr h
either-taken (Some a) None h = inl h
either-taken (Some zero) (Some b) h = inr (omega arith)
either-taken (Some (suc a)) (Some b) h = inl (omega arith)

word_start : (s : List ℕ) → 0 < taken (reach is_word s) → s ≡ 48 ∷ 119 ∷ drop 2 s
word_start s h =
    ⊎_elim (λ l. behind-two 48 119 [] (one_or_more is_digit) s l) (λ l. behind-two 48 119 (120 ∷ []) (one_or_more is_hex_digit) s l)
    (either-taken (reach word_digits s) (reach word_hex s) (rw (reach-word s) at h))

zero_w_magnitude : (t : List ℕ) → reach is_magnitude (48 ∷ 119 ∷ t) ≡ Some 1
unfolding is_hexadecimal bytes first_is best longer
zero_w_magnitude t =
    reach-magnitude (48 ∷ 119 ∷ t)
    ∙ ap₂ best
    (reach-behind-yes (120 ∷ []) (one_or_more is_hex_digit) 48 (48 ∷ 119 ∷ t) refl ∙ ap (longer 1) (reach-behind-no [] (one_or_more is_hex_digit) 120 (119 ∷ t) refl))
    (zero_w t)

-- A word constant is longer than an integer there.
pub word_wins : (s : List ℕ) → 0 < taken (reach is_word s) → best (reach is_word s) (reach is_magnitude s) ≡ reach is_word s
word_wins s h =
    ap (best (reach is_word s)) (ap (reach is_magnitude) (word_start s h) ∙ zero_w_magnitude (drop 2 s)) ∙ wins (reach is_word s) h

pub word_nil : is_word [] ≡ false
unfolding is_word bytes behind
word_nil = refl

pub magnitude_nil : is_magnitude [] ≡ false
unfolding is_magnitude is_hexadecimal one_or_more behind bytes digits_then
magnitude_nil = refl

-- An integer or a real starts with a digit.
pub magnitude_other : (b : ℕ) (s : List ℕ) → is_digit b ≡ false → eqb b 48 ≡ false → reach is_magnitude (b ∷ s) ≡ None
unfolding best is_hexadecimal bytes
magnitude_other b s d z =
    reach-magnitude (b ∷ s)
    ∙ ap₂ best
    (reach-none is_hexadecimal b s hexadecimal_nil (behind-no (120 ∷ []) (one_or_more is_hex_digit) 48 b z))
    (reach-none (digits_then tail) b s (digits-nil tail) (digits-no tail b d))

pub hexadecimal_absent : (s : List ℕ) → pointwise eqb (take 2 s) (48 ∷ 120 ∷ []) ≡ false → reach is_hexadecimal s ≡ None
unfolding is_hexadecimal bytes
hexadecimal_absent s h = strip_no (one_or_more is_hex_digit) (48 ∷ 120 ∷ []) s h

pub fraction_absent : (s : List ℕ) → pointwise eqb (take 1 s) (46 ∷ []) ≡ false → reach is_fraction s ≡ None
unfolding is_fraction bytes
fraction_absent s h = strip_no (digits_then (λ r. is_empty r || is_exponent r)) (46 ∷ []) s h

-- ---- words by the bytes that stand there
pub one_there : (s : List ℕ) {c : ℕ} → 1 ≤ length s → get_or s 0 0 ≡ c → pointwise eqb (take 1 s) (c ∷ []) ≡ true
one_there [] h e = absurd (omega (h, arith))
one_there (a ∷ s) h e = rw (eq-eqb _ _ e) refl

two_there : (s : List ℕ) {c d : ℕ} → 2 ≤ length s → get_or s 0 0 ≡ c → get_or s 1 0 ≡ d → pointwise eqb (take 2 s) (c ∷ d ∷ []) ≡ true
two_there [] h e f = absurd (omega (h, arith))
two_there (a ∷ []) h e f = absurd (omega (h, arith))
two_there (a ∷ b ∷ s) h e f = rw (eq-eqb _ _ e, eq-eqb _ _ f) refl

pub decimal_there : (s : List ℕ) → 1 ≤ length s → get_or s 0 0 ≡ 126 → reach is_decimal s ≡ longer 1 (reach (one_or_more is_digit) (take (length s - 1) (drop 1 s)))
decimal_there s h e = decimal-signed s (one_there s h e) (take_rest s 1)

pub hexadecimal_there : (s : List ℕ) → 2 ≤ length s → get_or s 0 0 ≡ 48 → get_or s 1 0 ≡ 120
    → reach is_hexadecimal s ≡ longer 2 (reach (one_or_more is_hex_digit) (take (length s - 2) (drop 2 s)))
hexadecimal_there s h e f = hexadecimal-part s (two_there s h e f) (take_rest s 2)

module _ (s : List ℕ) (h : 2 ≤ length s) (e : get_or s 0 0 ≡ 48) (f : get_or s 1 0 ≡ 119) where
  pub word_hex_there : {t : List ℕ} → pointwise eqb (take 1 (take (length s - 2) (drop 2 s))) (120 ∷ []) ≡ true → t ≡ drop 1 (take (length s - 2) (drop 2 s))
      → reach is_word s ≡ longer 3 (reach (one_or_more is_hex_digit) t)
  word_hex_there x t = word-hex s (two_there s h e f) (take_rest s 2) x t

  pub word_digits_there : pointwise eqb (take 1 (take (length s - 2) (drop 2 s))) (120 ∷ []) ≡ false
      → reach is_word s ≡ longer 2 (reach (one_or_more is_digit) (take (length s - 2) (drop 2 s)))
  word_digits_there x = word-digits s (two_there s h e f) (take_rest s 2) x

pub fraction_none_there : (s : List ℕ) → 1 ≤ length s → get_or s 0 0 ≡ 46 → reach (one_or_more is_digit) (take (length s - 1) (drop 1 s)) ≡ None → reach is_fraction s ≡ None
fraction_none_there s h e = fraction-none s (one_there s h e) (take_rest s 1)

pub ruleset decimal_laws = (decimal_there, decimal-plain)

pub ruleset exponent_laws = (exponent-end, exponent-other, exponent-part, reach-within)

pub ruleset word_laws = (word-other, word_hex_there, word_digits_there)

pub ruleset hexadecimal_laws = (hexadecimal_there, hexadecimal_absent)

pub ruleset fraction_laws = (fraction_absent, fraction_none_there)

pub ruleset magnitude_laws = (magnitude-hex, magnitude-none, magnitude-tail, tail_fraction, reach-within, found-behind, taken-behind, behind-within)
