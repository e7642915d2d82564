-- Laws of string constants: what `next` says at each place, how a part of a string ends, the longest string constant. Assumes nothing.
use Prim.Native.Nat.{ℕ, zero, suc, ◌+◌, ◌-◌, ◌*◌, ◌≤◌, ◌<◌}
use native.Mathlib.Omega.{arith}
use native.Mathlib.Nat.{zero-add}
use native.Mathlib.Numerals.{add-one}
use mathlib.Core.Path.{◌≡◌, refl, sym, ap, ap₂, ◌∙◌}
use mathlib.Core.Bool.{Bool, true, false, ◌||◌, false≢true}
use mathlib.Core.List.{List, [], ◌∷◌}
use Rattle.std.specs.Prelude.{Option, None, Some}
use lib.Dec.{leb, eqb}
use lib.ListN.{length, get_or, drop, length-drop, drop_of_length-le}
use lib.Seq.{drop-cons, drop-drop}
use borrow.Author.Tests.{eqb-true, eqb-false, leb-true, ne_eqb, le-leb}
use Rattle.text.specs.Bytes.{bytes, between, is_space, is_digit, first_is}
use Rattle.scanner.specs.Parts.{every, is_one_of}
use Rattle.scanner.specs.Constants.{is_hex_digit}
use Rattle.scanner.specs.Strings.{Place, between_characters, escape, control, number, gap, closed, Step, wrong, to, character, is_digit_of, value_of_digit, number_ends, digit, escaped, next, is_closed, characters}
use Rattle.scanner.specs.Promises.Reach.{longer, reach, run, is_plain}
use Rattle.scanner.specs.Promises.Extents.{ends_at, Extent, ends, endless, further, extent, on_from, Inside, Goes}
use Rattle.scanner.specs.declared.strings.Quoted.{Quoted}
use Rattle.text.proofs.Computed.{all_below, same}
use Rattle.scanner.proofs.Bytes.{not_so, decides, by_bytes, apart, apart_all, of-ten, of_other, digit_value, hex-small, hex-positive}
use Rattle.scanner.proofs.ReachLaws.{empty, onward, reach-nil, reach-cons, reach-never, reach-none, reach_step, run-yes, run-no, run_more, first-inside, first-here}

-- ---- extents

pub further-further : (a b c d : ℕ) (x : Extent) → further a b (further c d x) ≡ further (a + c) (b + d) x
unfolding further
further-further a b c d (ends m n) = ap₂ ends (omega arith) (omega arith)
further-further a b c d endless = refl

further-zero : (x : Extent) → further 0 0 x ≡ x
unfolding further
further-zero (ends m n) = ap₂ ends (omega arith) (omega arith)
further-zero endless = refl

-- ---- the longest string constant

-- The text denotes a number of characters that passes.
unfoldable pub denotes : (ℕ → Bool) → Place → List ℕ → Bool
denotes test place t = elim (characters place t) [ None ↦ false | Some n ↦ test n ]

-- The bytes of a extent whose characters pass.
unfoldable pub bytes_of : (ℕ → Bool) → Extent → Option ℕ
bytes_of test (ends m n) = elim (test n) [ true ↦ Some m | false ↦ None ]
bytes_of test endless = None

module _ (test : ℕ → Bool) (place : Place) (b : ℕ) where
  denotes-wrong : next place b ≡ wrong → (t : List ℕ) → denotes test place (b ∷ t) ≡ false
  unfolding denotes characters
  denotes-wrong e t = rw (denotes, characters, e)

  denotes-to : (after : Place) → next place b ≡ to after → (t : List ℕ) → denotes test place (b ∷ t) ≡ denotes test after t
  unfolding denotes characters
  denotes-to after e t = rw (denotes, characters, e)

  denotes-character : next place b ≡ character → (t : List ℕ) → denotes test place (b ∷ t) ≡ denotes (λ n. test (suc n)) between_characters t
  unfolding denotes characters
  denotes-character e t = rw (denotes, characters, e) (go (characters between_characters t))
    where
      go : (x : Option ℕ) → ◌≡◌ {A = Bool} (elim (elim x as (λ y. Option ℕ) [ None ↦ None | Some n ↦ Some (suc n) ]) as (λ y. Bool) [ None ↦ false | Some n ↦ test n ]) (elim x as (λ y. Bool) [ None ↦ false | Some n ↦ test (suc n) ])
      go None = refl
      go (Some n) = refl

denotes_open : (test : ℕ → Bool) (place : Place) → is_closed place ≡ false → denotes test place [] ≡ false
unfolding denotes characters
denotes_open test place e = rw (denotes, characters, e)

denotes-closed : (test : ℕ → Bool) (place : Place) → is_closed place ≡ true → denotes test place [] ≡ test 0
unfolding denotes characters
denotes-closed test place e = rw (denotes, characters, e)

closed-next : (place : Place) (b : ℕ) → is_closed place ≡ true → next place b ≡ wrong
unfolding is_closed next
closed-next between_characters b e = absurd (false≢true e)
closed-next escape b e = absurd (false≢true e)
closed-next control b e = absurd (false≢true e)
closed-next (number base left value) b e = absurd (false≢true e)
closed-next gap b e = absurd (false≢true e)
closed-next closed b e = refl

bytes-to : (test : ℕ → Bool) (x : Extent) → longer 1 (bytes_of test x) ≡ bytes_of test (further 1 0 x)
unfolding bytes_of further longer
bytes-to test (ends m n) = rw (zero-add n) (go (test n))
  where
    go : (u : Bool) → ◌≡◌ {A = Option ℕ} (longer 1 (elim u as (λ y. Option ℕ) [ true ↦ Some m | false ↦ None ])) (elim u as (λ y. Option ℕ) [ true ↦ Some (1 + m) | false ↦ None ])
    go true = refl
    go false = refl
bytes-to test endless = refl

bytes-character : (test : ℕ → Bool) (x : Extent) → longer 1 (bytes_of (λ n. test (suc n)) x) ≡ bytes_of test (further 1 1 x)
unfolding bytes_of further longer
bytes-character test (ends m n) = rw (one_add n) (go (test (suc n)))
  where
    one_add : (n : ℕ) → 1 + n ≡ suc n
    one_add n = omega arith

    go : (u : Bool) → ◌≡◌ {A = Option ℕ} (longer 1 (elim u as (λ y. Option ℕ) [ true ↦ Some m | false ↦ None ])) (elim u as (λ y. Option ℕ) [ true ↦ Some (1 + m) | false ↦ None ])
    go true = refl
    go false = refl
bytes-character test endless = refl

bytes-closed : (test : ℕ → Bool) → empty (test 0) ≡ bytes_of test (ends 0 0)
unfolding bytes_of empty
bytes-closed test = go (test 0)
  where
    go : (u : Bool) → empty u ≡ (elim u as (λ y. Option ℕ) [ true ↦ Some 0 | false ↦ None ])
    go true = refl
    go false = refl

module _ (place : Place) where
  extent-closed : (s : List ℕ) → is_closed place ≡ true → extent place s ≡ ends 0 0
  unfolding extent
  extent-closed [] e = rw (extent, e)
  extent-closed (b ∷ s) e = rw (extent, e)

  module _ (unclosed : is_closed place ≡ false) where
    extent-nil : extent place [] ≡ endless
    unfolding extent
    extent-nil = rw (extent, unclosed)

    module _ (b : ℕ) (s : List ℕ) where
      extent-wrong : next place b ≡ wrong → extent place (b ∷ s) ≡ endless
      unfolding extent
      extent-wrong e = rw (extent, unclosed, e)

      extent-to : (after : Place) → next place b ≡ to after → extent place (b ∷ s) ≡ further 1 0 (extent after s)
      unfolding extent
      extent-to after e = rw (extent, unclosed, e)

      extent-character : next place b ≡ character → extent place (b ∷ s) ≡ further 1 1 (extent between_characters s)
      unfolding extent
      extent-character e = rw (extent, unclosed, e)

-- By what the first byte does.
reach-next : (test : ℕ → Bool) (place : Place) (b : ℕ) (s : List ℕ) → is_closed place ≡ false → ((test : ℕ → Bool) (place : Place) → reach (denotes test place) s ≡ bytes_of test (extent place s)) → (x : Step) → next place b ≡ x → reach (denotes test place) (b ∷ s) ≡ bytes_of test (extent place (b ∷ s))
unfolding bytes_of
reach-next test place b s unclosed ih wrong e =
    reach-none (denotes test place) b s (denotes_open test place unclosed) (denotes-wrong test place b e) ∙ ap (bytes_of test) (sym (extent-wrong place unclosed b s e))
reach-next test place b s unclosed ih (to after) e =
    reach_step (denotes test place) b s (denotes_open test place unclosed) (denotes-to test place b after e)
    ∙ ap (longer 1) (ih test after)
    ∙ bytes-to test (extent after s)
    ∙ ap (bytes_of test) (sym (extent-to place unclosed b s after e))
reach-next test place b s unclosed ih character e =
    reach_step (denotes test place) b s (denotes_open test place unclosed) (denotes-character test place b e)
    ∙ ap (longer 1) (ih (λ n. test (suc n)) between_characters)
    ∙ bytes-character test (extent between_characters s)
    ∙ ap (bytes_of test) (sym (extent-character place unclosed b s e))

reach-closed : (test : ℕ → Bool) (place : Place) (s : List ℕ) → is_closed place ≡ true → reach (denotes test place) s ≡ bytes_of test (extent place s)
unfolding onward
reach-closed test place [] e =
    reach-nil (denotes test place) ∙ ap empty (denotes-closed test place e) ∙ bytes-closed test ∙ ap (bytes_of test) (sym (extent-closed place [] e))
reach-closed test place (b ∷ s) e =
    reach-cons (denotes test place) b s
    ∙ ap₂ onward (reach-never s (denotes-wrong test place b (closed-next place b e))) (denotes-closed test place e)
    ∙ bytes-closed test
    ∙ ap (bytes_of test) (sym (extent-closed place (b ∷ s) e))

pub reach-denotes : (s : List ℕ) (test : ℕ → Bool) (place : Place) → reach (denotes test place) s ≡ bytes_of test (extent place s)
unfolding empty bytes_of
reach-denotes [] test place = go (is_closed place) refl
  where
    go : (u : Bool) → is_closed place ≡ u → reach (denotes test place) [] ≡ bytes_of test (extent place [])
    go true e = reach-closed test place [] e
    go false e = reach-nil (denotes test place) ∙ ap empty (denotes_open test place e) ∙ ap (bytes_of test) (sym (extent-nil place e))
reach-denotes (b ∷ s) test place = go (is_closed place) refl (reach-denotes s)
  where
    go : (u : Bool) → is_closed place ≡ u → ((test : ℕ → Bool) (place : Place) → reach (denotes test place) s ≡ bytes_of test (extent place s)) → reach (denotes test place) (b ∷ s) ≡ bytes_of test (extent place (b ∷ s))
    go true e ih = reach-closed test place (b ∷ s) e
    go false e ih = reach-next test place b s e ih (next place b) refl

-- ---- from a place to the next one between two characters

inside-before : (s : List ℕ) (at : ℕ) (r : Option Quoted) → Inside s (at + 1) r → Inside s at r
unfolding Inside
inside-before s at (Some q) i = (omega (arith, i.0), omega (arith, i.1), i.2)
inside-before s at None i = tt

module _ (s : List ℕ) (at : ℕ) (place : Place) (unclosed : is_closed place ≡ false) where
  pub goes_end : length s ≤ at → Goes s place at None
  unfolding on_from Inside further
  goes_end h = record { is = ap (further at 0) (ap (extent place) (drop_of_length-le s h) ∙ extent-nil place unclosed); inside = tt }

  module _ (h : at < length s) where
    pub goes-wrong : next place (get_or s at 0) ≡ wrong → Goes s place at None
    unfolding on_from Inside further
    goes-wrong e =
        record {
          is = ap (further at 0) (ap (extent place) (drop-cons s at 0 h) ∙ extent-wrong place unclosed (get_or s at 0) (drop (suc at) s) e);
          inside = tt;
        }

    -- The byte ends what stands before the next character; it denotes one, or none.
    lands : (count : ℕ) → count ≤ 1 → extent place (drop at s) ≡ further 1 count (extent between_characters (drop (suc at) s)) → Goes s place at (ends_at (at + 1) count)
    unfolding on_from Inside
    lands count l e =
        record {
          is = ap (further at 0) e
              ∙ further-further at 0 1 count (extent between_characters (drop (suc at) s))
              ∙ ap₂ (λ (n : ℕ) (u : List ℕ). further (at + 1) n (extent between_characters u)) (zero-add count) (ap (λ (n : ℕ). drop n s) (sym (add-one at)));
          inside = (omega arith, omega arith, omega arith);
        }

    pub goes-character : next place (get_or s at 0) ≡ character → Goes s place at (ends_at (at + 1) 1)
    goes-character e = lands 1 (omega arith) (ap (extent place) (drop-cons s at 0 h) ∙ extent-character place unclosed (get_or s at 0) (drop (suc at) s) e)

    pub goes-between : next place (get_or s at 0) ≡ to between_characters → Goes s place at (ends_at (at + 1) 0)
    goes-between e = lands 0 (omega arith) (ap (extent place) (drop-cons s at 0 h) ∙ extent-to place unclosed (get_or s at 0) (drop (suc at) s) between_characters e)

    pub goes_to : (after : Place) {r : Option Quoted} → next place (get_or s at 0) ≡ to after → Goes s after (at + 1) r → Goes s place at r
    goes_to after {r} e g =
        record {
          is = ap (further at 0) (ap (extent place) (drop-cons s at 0 h) ∙ extent-to place unclosed (get_or s at 0) (drop (suc at) s) after e)
              ∙ further-further at 0 1 0 (extent after (drop (suc at) s))
              ∙ ap (λ (n : ℕ). further (at + 1) 0 (extent after (drop n s))) (sym (add-one at))
              ∙ g.is;
          inside = inside-before s at r g.inside;
        }

    -- Another place at which the byte does the same.
    pub goes-as : (other : Place) {r : Option Quoted} → is_closed other ≡ false → next place (get_or s at 0) ≡ next other (get_or s at 0) → Goes s other at r → Goes s place at r
    goes-as other {r} o e g =
        record {
          is = ap (further at 0) (ap (extent place) (drop-cons s at 0 h) ∙ same_step (next other (get_or s at 0)) e refl ∙ sym (ap (extent other) (drop-cons s at 0 h))) ∙ g.is;
          inside = g.inside;
        }
      where
        same_step : (x : Step) → next place (get_or s at 0) ≡ x → next other (get_or s at 0) ≡ x → extent place (get_or s at 0 ∷ drop (suc at) s) ≡ extent other (get_or s at 0 ∷ drop (suc at) s)
        same_step wrong e f = extent-wrong place unclosed (get_or s at 0) (drop (suc at) s) e ∙ sym (extent-wrong other o (get_or s at 0) (drop (suc at) s) f)
        same_step (to after) e f = extent-to place unclosed (get_or s at 0) (drop (suc at) s) after e ∙ sym (extent-to other o (get_or s at 0) (drop (suc at) s) after f)
        same_step character e f = extent-character place unclosed (get_or s at 0) (drop (suc at) s) e ∙ sym (extent-character other o (get_or s at 0) (drop (suc at) s) f)

-- ---- what a byte does at each place

module _ (b : ℕ) where
  pub control-wrong : between 64 95 b ≡ false → next control b ≡ wrong
  unfolding next
  control-wrong e = rw (next, e)

  pub control-right : between 64 95 b ≡ true → next control b ≡ character
  unfolding next
  control-right e = rw (next, e)

  pub escaped-plain : is_one_of (bytes "abtnvfr\"\\") b ≡ true → next escape b ≡ character
  unfolding next escaped
  escaped-plain e = rw (escaped, e)

  pub escaped-control : b ≡ 94 → next escape b ≡ to control
  unfolding next escaped is_one_of bytes
  escaped-control e = ap (next escape) e

  pub escaped-u : b ≡ 117 → next escape b ≡ to (number 16 4 0)
  unfolding next escaped is_one_of bytes is_digit between
  escaped-u e = ap (next escape) e

  module _ (plain : is_one_of (bytes "abtnvfr\"\\") b ≡ false) (caret : b ≡ 94 → ⊥) where
    pub escaped-digit : is_digit b ≡ true → next escape b ≡ next (number 10 3 0) b
    unfolding next escaped
    escaped-digit e = rw (escaped, plain, ne_eqb b 94 caret, e)

    escaped-gap : is_digit b ≡ false → (b ≡ 117 → ⊥) → is_space b ≡ true → next escape b ≡ to gap
    unfolding next escaped
    escaped-gap d u e = rw (escaped, plain, ne_eqb b 94 caret, d, ne_eqb b 117 u, e)

    pub escaped-wrong : is_digit b ≡ false → (b ≡ 117 → ⊥) → is_space b ≡ false → next escape b ≡ wrong
    unfolding next escaped
    escaped-wrong d u e = rw (escaped, plain, ne_eqb b 94 caret, d, ne_eqb b 117 u, e)

  -- White space is none of the others.
  pub escaped-space : b < 256 → is_space b ≡ true → next escape b ≡ to gap
  unfolding all_below same decides every is_one_of bytes is_space is_digit between
  escaped-space f e =
      escaped-gap (apart_all is_space b e (bytes "abtnvfr\"\\") refl) (eqb-false b 94 (apart is_space b e 94 refl)) (sym (by_bytes is_space is_digit false refl b f e)) (eqb-false b 117 (apart is_space b e 117 refl)) e

  pub between-quote : b ≡ 34 → next between_characters b ≡ to closed
  unfolding next
  between-quote e = ap (next between_characters) e

  pub between-escape : b ≡ 92 → next between_characters b ≡ to escape
  unfolding next
  between-escape e = ap (next between_characters) e

  module _ (quote : b ≡ 34 → ⊥) (backslash : b ≡ 92 → ⊥) where
    pub between-wrong : between 32 126 b ≡ false → next between_characters b ≡ wrong
    unfolding next
    between-wrong e = rw (next, ne_eqb b 34 quote, ne_eqb b 92 backslash, e)

    pub between-character : between 32 126 b ≡ true → next between_characters b ≡ character
    unfolding next
    between-character e = rw (next, ne_eqb b 34 quote, ne_eqb b 92 backslash, e)

  gap-space : is_space b ≡ true → next gap b ≡ to gap
  unfolding next
  gap-space e = rw (next, e)

  gap-wrong : is_space b ≡ false → eqb b 92 ≡ false → next gap b ≡ wrong
  unfolding next
  gap-wrong e f = rw (next, e, f)

  gap_back : b ≡ 92 → next gap b ≡ to between_characters
  unfolding next is_space between
  gap_back e = ap (next gap) e

-- Places inside a string are open.
pub open-between : is_closed between_characters ≡ false
unfolding is_closed
open-between = refl

pub open_escape : is_closed escape ≡ false
unfolding is_closed
open_escape = refl

pub open_control : is_closed control ≡ false
unfolding is_closed
open_control = refl

pub open_gap : is_closed gap ≡ false
unfolding is_closed
open_gap = refl

closed_is : is_closed closed ≡ true
unfolding is_closed
closed_is = refl

pub open_number : (base left value : ℕ) → is_closed (number base left value) ≡ false
unfolding is_closed
open_number base left value = refl

one_add : (n : ℕ) → 1 + n ≡ suc n
one_add n = omega arith

-- ---- plain bytes

module _ (b : ℕ) (quote : b ≡ 34 → ⊥) (backslash : b ≡ 92 → ⊥) where
  plain-is : is_plain b ≡ between 32 126 b
  unfolding is_plain
  plain-is = rw (is_plain, ne_eqb b 34 quote, ne_eqb b 92 backslash)

plain-character : (b : ℕ) → is_plain b ≡ true → next between_characters b ≡ character
unfolding is_plain
plain-character b h = go (eqb b 34) refl (eqb b 92) refl h
  where
    go : (x : Bool) → eqb b 34 ≡ x → (y : Bool) → eqb b 92 ≡ y → ◌≡◌ {A = Bool} (elim (x || y) as (λ z. Bool) [ true ↦ false | false ↦ between 32 126 b ]) true → next between_characters b ≡ character
    go true e y f g = absurd (false≢true g)
    go false e true f g = absurd (false≢true g)
    go false e false f g = between-character b (eqb-false b 34 e) (eqb-false b 92 f) g

plain-run : (u : List ℕ) → extent between_characters u ≡ further (run is_plain u) (run is_plain u) (extent between_characters (drop (run is_plain u) u))
unfolding run
plain-run [] = sym (further-zero (extent between_characters []))
plain-run (b ∷ u) = go (is_plain b) refl (plain-run u)
  where
    go : (x : Bool) → is_plain b ≡ x → extent between_characters u ≡ further (run is_plain u) (run is_plain u) (extent between_characters (drop (run is_plain u) u)) → extent between_characters (b ∷ u) ≡ further (run is_plain (b ∷ u)) (run is_plain (b ∷ u)) (extent between_characters (drop (run is_plain (b ∷ u)) (b ∷ u)))
    go true e ih =
        extent-character between_characters open-between b u (plain-character b e)
        ∙ ap (further 1 1) ih
        ∙ further-further 1 1 (run is_plain u) (run is_plain u) (extent between_characters (drop (run is_plain u) u))
        ∙ ap (λ (n : ℕ). further n n (extent between_characters (drop (run is_plain u) u))) (one_add (run is_plain u))
        ∙ ap (λ (n : ℕ). further n n (extent between_characters (drop n (b ∷ u)))) (sym (run-yes is_plain b u e))
    go false e ih =
        sym (further-zero (extent between_characters (b ∷ u))) ∙ ap (λ (n : ℕ). further n n (extent between_characters (drop n (b ∷ u)))) (sym (run-no is_plain b u e))

-- ---- gaps

gap-run : (u : List ℕ) → extent gap u ≡ further (run is_space u) 0 (extent gap (drop (run is_space u) u))
unfolding run
gap-run [] = sym (further-zero (extent gap []))
gap-run (b ∷ u) = go (is_space b) refl (gap-run u)
  where
    go : (x : Bool) → is_space b ≡ x → extent gap u ≡ further (run is_space u) 0 (extent gap (drop (run is_space u) u)) → extent gap (b ∷ u) ≡ further (run is_space (b ∷ u)) 0 (extent gap (drop (run is_space (b ∷ u)) (b ∷ u)))
    go true e ih =
        extent-to gap open_gap b u gap (gap-space b e)
        ∙ ap (further 1 0) ih
        ∙ further-further 1 0 (run is_space u) 0 (extent gap (drop (run is_space u) u))
        ∙ ap (λ (n : ℕ). further n 0 (extent gap (drop (run is_space u) u))) (one_add (run is_space u))
        ∙ ap (λ (n : ℕ). further n 0 (extent gap (drop n (b ∷ u)))) (sym (run-yes is_space b u e))
    go false e ih =
        sym (further-zero (extent gap (b ∷ u))) ∙ ap (λ (n : ℕ). further n 0 (extent gap (drop n (b ∷ u)))) (sym (run-no is_space b u e))

run_past : (test : ℕ → Bool) (u : List ℕ) → run test (drop (run test u) u) ≡ 0
unfolding run
run_past test [] = refl
run_past test (b ∷ u) = go (test b) refl (run_past test u)
  where
    go : (x : Bool) → test b ≡ x → run test (drop (run test u) u) ≡ 0 → run test (drop (run test (b ∷ u)) (b ∷ u)) ≡ 0
    go true e ih = ap (λ (n : ℕ). run test (drop n (b ∷ u))) (run-yes test b u e) ∙ ih
    go false e ih = ap (λ (n : ℕ). run test (drop n (b ∷ u))) (run-no test b u e) ∙ run-no test b u e

gap_stop : (u : List ℕ) → run is_space u ≡ 0 → first_is (λ b. eqb b 92) u ≡ false → extent gap u ≡ endless
unfolding first_is
gap_stop [] r e = extent-nil gap open_gap
gap_stop (b ∷ u) r e = go (is_space b) refl
  where
    go : (x : Bool) → is_space b ≡ x → extent gap (b ∷ u) ≡ endless
    go true f = absurd (omega (arith, run-yes is_space b u f))
    go false f = extent-wrong gap open_gap b u (gap-wrong b f e)

module _ (s : List ℕ) (from at : ℕ) (is : at ≡ from + run is_space (drop from s)) where
  gap-extent : further from 0 (extent gap (drop from s)) ≡ further at 0 (extent gap (drop at s))
  gap-extent =
      let n = run is_space (drop from s) in
      ap (further from 0) (gap-run (drop from s))
      ∙ further-further from 0 n 0 (extent gap (drop n (drop from s)))
      ∙ ap (λ (u : List ℕ). further (from + n) 0 (extent gap u)) (drop-drop n from s)
      ∙ ap (λ (m : ℕ). further m 0 (extent gap (drop m s))) (sym is)

  pub gap-shut : first_is (λ b. eqb b 92) (drop at s) ≡ true → Goes s gap from (ends_at (at + 1) 0)
  unfolding Inside
  gap-shut h =
      let l = first-inside (λ b. eqb b 92) s at h in
      let e = eqb-true (get_or s at 0) 92 (sym (first-here (λ b. eqb b 92) s at l) ∙ h) in
      let g = goes-between s at gap open_gap l (gap_back (get_or s at 0) e) in
      record { is = gap-extent ∙ g.is; inside = (omega arith, omega arith, omega arith) }

  pub gap-open : first_is (λ b. eqb b 92) (drop at s) ≡ false → Goes s gap from None
  unfolding on_from Inside further
  gap-open h =
      let r : run is_space (drop at s) ≡ 0 = ap (run is_space) (ap (λ (m : ℕ). drop m s) is ∙ sym (drop-drop (run is_space (drop from s)) from s)) ∙ run_past is_space (drop from s) in
      record { is = gap-extent ∙ ap (further at 0) (gap_stop (drop at s) r h); inside = tt }

-- ---- the digits of `\ddd` and `\uxxxx`

-- What stands behind this many digits less.
unfoldable pub pending : ℕ → ℕ → ℕ → List ℕ → Extent
pending base zero value u = further 0 1 (extent between_characters u)
pending base (suc left) value u = extent (number base (suc left) value) u

pub pending-first : (base count : ℕ) (u : List ℕ) → 1 ≤ count → extent (number base count 0) u ≡ pending base count 0 u
unfolding pending
pending-first base zero u h = absurd (omega arith)
pending-first base (suc n) u h = refl

module _ (base left value b : ℕ) (u : List ℕ) where
  number_step : next (number base (suc left) value) b ≡ digit base left value b
  unfolding next
  number_step = ap (λ (n : ℕ). digit base n value b) (less left)
    where
      less : (n : ℕ) → suc n - 1 ≡ n
      less n = omega arith

  pending-other : is_digit_of base b ≡ false → pending base (suc left) value (b ∷ u) ≡ endless
  unfolding pending digit
  pending-other e = extent-wrong (number base (suc left) value) (open_number base (suc left) value) b u (number_step ∙ rw (digit, e))

  pending-over : is_digit_of base b ≡ true → leb (value * base + value_of_digit b) 255 ≡ false → pending base (suc left) value (b ∷ u) ≡ endless
  unfolding pending digit
  pending-over e f = extent-wrong (number base (suc left) value) (open_number base (suc left) value) b u (number_step ∙ rw (digit, e, f))

  digit-ends : is_digit_of base b ≡ true → leb (value * base + value_of_digit b) 255 ≡ true → next (number base (suc left) value) b ≡ number_ends base left (value * base + value_of_digit b)
  unfolding digit
  digit-ends e f = number_step ∙ rw (digit, e, f)

pending_one : (base left value b : ℕ) (u : List ℕ) → is_digit_of base b ≡ true → leb (value * base + value_of_digit b) 255 ≡ true → pending base (suc left) value (b ∷ u) ≡ further 1 0 (pending base left (value * base + value_of_digit b) u)
unfolding pending number_ends
pending_one base zero value b u e f =
    extent-character (number base 1 value) (open_number base 1 value) b u (digit-ends base 0 value b u e f)
    ∙ sym (further-further 1 0 0 1 (extent between_characters u))
pending_one base (suc left) value b u e f =
    extent-to (number base (suc (suc left)) value) (open_number base (suc (suc left)) value) b u (number base (suc left) (value * base + value_of_digit b))
    (digit-ends base (suc left) value b u e f)

further-endless : (m n : ℕ) → further m n endless ≡ endless
unfolding further
further-endless m n = refl

-- Behind a byte that is no digit, or is one and takes the value over 255, or behind which nothing ends a string.
digit-endless : (base left value b : ℕ) (u : List ℕ) → (is_digit_of base b ≡ true → value * base + value_of_digit b ≤ 255 → pending base left (value * base + value_of_digit b) u ≡ endless) → pending base (suc left) value (b ∷ u) ≡ endless
digit-endless base left value b u behind = go (is_digit_of base b) refl (leb (value * base + value_of_digit b) 255) refl
  where
    go : (x : Bool) → is_digit_of base b ≡ x → (y : Bool) → leb (value * base + value_of_digit b) 255 ≡ y → pending base (suc left) value (b ∷ u) ≡ endless
    go false e y f = pending-other base left value b u e
    go true e false f = pending-over base left value b u e f
    go true e true f = pending_one base left value b u e f ∙ ap (further 1 0) (behind e (leb-true (value * base + value_of_digit b) 255 f)) ∙ further-endless 1 0

-- Fewer bytes than digits.
pending_short : (base left value : ℕ) (u : List ℕ) → length u < left → pending base left value u ≡ endless
unfolding pending
pending_short base zero value u h = absurd (omega arith)
pending_short base (suc left) value [] h = extent-nil (number base (suc left) value) (open_number base (suc left) value)
pending_short base (suc left) value (b ∷ u) h = digit-endless base left value b u (λ e l. pending_short base left (value * base + value_of_digit b) u (omega arith))

module _ (s : List ℕ) (at base left : ℕ) (h : 1 ≤ left) where
  pub digits-endless : pending base left 0 (drop at s) ≡ endless → Goes s (number base left 0) at None
  unfolding on_from Inside
  digits-endless e = record { is = ap (further at 0) (pending-first base left (drop at s) h ∙ e) ∙ further-endless at 0; inside = tt }

  pub digits-short : at ≤ length s → length s - at < left → Goes s (number base left 0) at None
  digits-short w l = digits-endless (pending_short base left 0 (drop at s) (omega (arith, length-drop at s)))

  -- As many bytes as digits, which denote a character.
  pub digits-read : at + left ≤ length s → pending base left 0 (drop at s) ≡ further left 1 (extent between_characters (drop (at + left) s)) → Goes s (number base left 0) at (ends_at (at + left) 1)
  unfolding on_from Inside
  digits-read w e =
      record {
        is = ap (further at 0) (pending-first base left (drop at s) h ∙ e) ∙ further-further at 0 left 1 (extent between_characters (drop (at + left) s));
        inside = (omega arith, omega arith, omega arith);
      }

-- The bytes from an offset on.
drop_three : (s : List ℕ) (at : ℕ) → at + 3 ≤ length s → drop at s ≡ get_or s at 0 ∷ get_or s (at + 1) 0 ∷ get_or s (at + 2) 0 ∷ drop (at + 3) s
drop_three s at h =
    drop-cons s at 0 (omega arith)
    ∙ ap (λ (u : List ℕ). get_or s at 0 ∷ u)
    (ap (λ (n : ℕ). drop n s) (sym (add-one at))
    ∙ drop-cons s (at + 1) 0 (omega arith)
    ∙ ap (λ (u : List ℕ). get_or s (at + 1) 0 ∷ u)
    (ap (λ (n : ℕ). drop n s) two ∙ drop-cons s (at + 2) 0 (omega arith) ∙ ap (λ (n : ℕ). get_or s (at + 2) 0 ∷ drop n s) three))
  where
    two : suc (at + 1) ≡ at + 2
    two = omega arith

    three : suc (at + 2) ≡ at + 3
    three = omega arith

-- ---- `\ddd`
module _ (s : List ℕ) (at : ℕ) (h : at + 3 ≤ length s) where
  abbrev first : ℕ
  first = get_or s at 0

  abbrev second : ℕ
  second = get_or s (at + 1) 0

  abbrev third : ℕ
  third = get_or s (at + 2) 0

  abbrev rest : List ℕ
  rest = drop (at + 3) s

  decimals : pending 10 3 0 (drop at s) ≡ pending 10 3 0 (first ∷ second ∷ third ∷ rest)
  decimals = ap (pending 10 3 0) (drop_three s at h)

  is-decimal : (b : ℕ) → is_digit_of 10 b ≡ is_digit b
  is-decimal b = of-ten 10 b refl

  pub decimal-first : is_digit first ≡ false → Goes s (number 10 3 0) at None
  decimal-first e = digits-endless s at 10 3 (omega arith) (decimals ∙ pending-other 10 2 0 first (second ∷ third ∷ rest) (is-decimal first ∙ e))

  pub decimal-second : is_digit second ≡ false → Goes s (number 10 3 0) at None
  decimal-second e =
      digits-endless s at 10 3 (omega arith)
      (decimals ∙ digit-endless 10 2 0 first (second ∷ third ∷ rest) (λ d l. pending-other 10 1 (0 * 10 + value_of_digit first) second (third ∷ rest) (is-decimal second ∙ e)))

  pub decimal-third : is_digit third ≡ false → Goes s (number 10 3 0) at None
  decimal-third e =
      digits-endless s at 10 3 (omega arith)
      (decimals
      ∙ digit-endless 10 2 0 first (second ∷ third ∷ rest)
      (λ d l. digit-endless 10 1 (0 * 10 + value_of_digit first) second (third ∷ rest)
      (λ d l. pending-other 10 0 ((0 * 10 + value_of_digit first) * 10 + value_of_digit second) third rest (is-decimal third ∙ e))))

  module _ (d₁ : is_digit first ≡ true) (d₂ : is_digit second ≡ true) (d₃ : is_digit third ≡ true) where
    abbrev value : ℕ
    value = 100 * (first - 48) + 10 * (second - 48) + (third - 48)

    pub decimal-over : 255 < value → Goes s (number 10 3 0) at None
    decimal-over o =
        digits-endless s at 10 3 (omega arith)
        (decimals
        ∙ digit-endless 10 2 0 first (second ∷ third ∷ rest)
        (λ d l. digit-endless 10 1 (0 * 10 + value_of_digit first) second (third ∷ rest)
        (λ d l. digit-endless 10 0 ((0 * 10 + value_of_digit first) * 10 + value_of_digit second) third rest
        (λ d l. absurd (omega (arith, o, l, digit_value first d₁, digit_value second d₂, digit_value third d₃))))))

    pub decimal-read : value ≤ 255 → Goes s (number 10 3 0) at (ends_at (at + 3) 1)
    unfolding pending
    decimal-read w =
        let v₁ = 0 * 10 + value_of_digit first in
        let v₂ = v₁ * 10 + value_of_digit second in
        let v₃ = v₂ * 10 + value_of_digit third in
        let e₁ = digit_value first d₁ in
        let e₂ = digit_value second d₂ in
        let e₃ = digit_value third d₃ in
        digits-read s at 10 3 (omega arith) h
        (decimals
        ∙ pending_one 10 2 0 first (second ∷ third ∷ rest) (is-decimal first ∙ d₁) (le-leb v₁ 255 (omega (arith, w, e₁)))
        ∙ ap (further 1 0)
        (pending_one 10 1 v₁ second (third ∷ rest) (is-decimal second ∙ d₂) (le-leb v₂ 255 (omega (arith, w, e₁, e₂)))
        ∙ ap (further 1 0) (pending_one 10 0 v₂ third rest (is-decimal third ∙ d₃) (le-leb v₃ 255 (omega (arith, w, e₁, e₂, e₃)))))
        ∙ ap (further 1 0) (further-further 1 0 1 0 (further 0 1 (extent between_characters rest)))
        ∙ further-further 1 0 2 0 (further 0 1 (extent between_characters rest))
        ∙ further-further 3 0 0 1 (extent between_characters rest))

-- ---- `\uxxxx`
zero-digit : (left : ℕ) (u : List ℕ) → pending 16 (suc left) 0 (48 ∷ u) ≡ further 1 0 (pending 16 left 0 u)
unfolding is_digit_of is_hex_digit is_digit between value_of_digit
zero-digit left u = pending_one 16 left 0 48 u refl refl

module _ (s : List ℕ) (at : ℕ) (h : at + 4 ≤ length s) where
  abbrev x₁ : ℕ
  x₁ = get_or s at 0

  abbrev x₂ : ℕ
  x₂ = get_or s (at + 1) 0

  abbrev x₃ : ℕ
  x₃ = get_or s (at + 2) 0

  abbrev x₄ : ℕ
  x₄ = get_or s (at + 3) 0

  abbrev behind-four : List ℕ
  behind-four = drop (at + 4) s

  hexadecimals : pending 16 4 0 (drop at s) ≡ pending 16 4 0 (x₁ ∷ x₂ ∷ x₃ ∷ x₄ ∷ behind-four)
  hexadecimals =
      ap (pending 16 4 0)
      (drop_three s at (omega arith)
      ∙ ap (λ (u : List ℕ). x₁ ∷ x₂ ∷ x₃ ∷ u) (drop-cons s (at + 3) 0 (omega arith) ∙ ap (λ (n : ℕ). x₄ ∷ drop n s) four))
    where
      four : suc (at + 3) ≡ at + 4
      four = omega arith

  is-hex : (b : ℕ) → is_digit_of 16 b ≡ is_hex_digit b
  is-hex b = of_other 16 b (λ e. absurd (omega (arith, e)))

  pub hex-first : x₁ < 256 → (x₁ ≡ 48 → ⊥) → Goes s (number 16 4 0) at None
  hex-first f n =
      digits-endless s at 16 4 (omega arith)
      (hexadecimals
      ∙ digit-endless 16 3 0 x₁ (x₂ ∷ x₃ ∷ x₄ ∷ behind-four)
      (λ d l. digit-endless 16 2 (0 * 16 + value_of_digit x₁) x₂ (x₃ ∷ x₄ ∷ behind-four)
      (λ e l. digit-endless 16 1 ((0 * 16 + value_of_digit x₁) * 16 + value_of_digit x₂) x₃ (x₄ ∷ behind-four)
      (λ e l. absurd (omega (arith, l, hex-positive x₁ f (sym (is-hex x₁) ∙ d) n))))))

  pub hex-second : x₂ < 256 → (x₂ ≡ 48 → ⊥) → Goes s (number 16 4 0) at None
  hex-second f n =
      digits-endless s at 16 4 (omega arith)
      (hexadecimals
      ∙ digit-endless 16 3 0 x₁ (x₂ ∷ x₃ ∷ x₄ ∷ behind-four)
      (λ e l. digit-endless 16 2 (0 * 16 + value_of_digit x₁) x₂ (x₃ ∷ x₄ ∷ behind-four)
      (λ d l. digit-endless 16 1 ((0 * 16 + value_of_digit x₁) * 16 + value_of_digit x₂) x₃ (x₄ ∷ behind-four)
      (λ e l. digit-endless 16 0 (((0 * 16 + value_of_digit x₁) * 16 + value_of_digit x₂) * 16 + value_of_digit x₃) x₄ behind-four
      (λ e l. absurd (omega (arith, l, hex-positive x₂ f (sym (is-hex x₂) ∙ d) n)))))))

  pub hex-third : is_hex_digit x₃ ≡ false → Goes s (number 16 4 0) at None
  hex-third n =
      digits-endless s at 16 4 (omega arith)
      (hexadecimals
      ∙ digit-endless 16 3 0 x₁ (x₂ ∷ x₃ ∷ x₄ ∷ behind-four)
      (λ e l. digit-endless 16 2 (0 * 16 + value_of_digit x₁) x₂ (x₃ ∷ x₄ ∷ behind-four)
      (λ e l. pending-other 16 1 ((0 * 16 + value_of_digit x₁) * 16 + value_of_digit x₂) x₃ (x₄ ∷ behind-four) (is-hex x₃ ∙ n))))

  pub hex-fourth : is_hex_digit x₄ ≡ false → Goes s (number 16 4 0) at None
  hex-fourth n =
      digits-endless s at 16 4 (omega arith)
      (hexadecimals
      ∙ digit-endless 16 3 0 x₁ (x₂ ∷ x₃ ∷ x₄ ∷ behind-four)
      (λ e l. digit-endless 16 2 (0 * 16 + value_of_digit x₁) x₂ (x₃ ∷ x₄ ∷ behind-four)
      (λ e l. digit-endless 16 1 ((0 * 16 + value_of_digit x₁) * 16 + value_of_digit x₂) x₃ (x₄ ∷ behind-four)
      (λ e l. pending-other 16 0 (((0 * 16 + value_of_digit x₁) * 16 + value_of_digit x₂) * 16 + value_of_digit x₃) x₄ behind-four (is-hex x₄ ∙ n)))))

  pub hex-read : x₁ ≡ 48 → x₂ ≡ 48 → x₃ < 256 → is_hex_digit x₃ ≡ true → x₄ < 256 → is_hex_digit x₄ ≡ true → Goes s (number 16 4 0) at (ends_at (at + 4) 1)
  unfolding pending
  hex-read e₁ e₂ f₃ d₃ f₄ d₄ =
      let v₃ = 0 * 16 + value_of_digit x₃ in
      let v₄ = v₃ * 16 + value_of_digit x₄ in
      let small₃ = hex-small x₃ f₃ d₃ in
      let small₄ = hex-small x₄ f₄ d₄ in
      digits-read s at 16 4 (omega arith) h
      (hexadecimals
      ∙ ap₂ (λ (a b : ℕ). pending 16 4 0 (a ∷ b ∷ x₃ ∷ x₄ ∷ behind-four)) e₁ e₂
      ∙ zero-digit 3 (48 ∷ x₃ ∷ x₄ ∷ behind-four)
      ∙ ap (further 1 0)
      (zero-digit 2 (x₃ ∷ x₄ ∷ behind-four)
      ∙ ap (further 1 0)
      (pending_one 16 1 0 x₃ (x₄ ∷ behind-four) (is-hex x₃ ∙ d₃) (le-leb v₃ 255 (omega (arith, small₃)))
      ∙ ap (further 1 0) (pending_one 16 0 v₃ x₄ behind-four (is-hex x₄ ∙ d₄) (le-leb v₄ 255 (omega (arith, small₃, small₄))))
      ∙ further-further 1 0 1 0 (further 0 1 (extent between_characters behind-four)))
      ∙ further-further 1 0 2 0 (further 0 1 (extent between_characters behind-four)))
      ∙ further-further 1 0 3 0 (further 0 1 (extent between_characters behind-four))
      ∙ further-further 4 0 0 1 (extent between_characters behind-four))

-- ---- the whole string

module _ (s : List ℕ) (at total : ℕ) where
  from-total : (x : Extent) → further at total x ≡ further 0 total (further at 0 x)
  from-total x = ap₂ (λ (m n : ℕ). further m n x) (omega arith) (omega arith) ∙ sym (further-further 0 total at 0 x)

  pub string-quote : at < length s → get_or s at 0 ≡ 34 → further at total (extent between_characters (drop at s)) ≡ ends (at + 1) total
  unfolding further
  string-quote h e =
      ap (further at total)
      (ap (extent between_characters) (drop-cons s at 0 h)
      ∙ extent-to between_characters open-between (get_or s at 0) (drop (suc at) s) closed (between-quote (get_or s at 0) e)
      ∙ ap (further 1 0) (extent-closed closed (drop (suc at) s) closed_is))
      ∙ ap₂ ends refl (omega arith)

  pub string-end : length s ≤ at → further at total (extent between_characters (drop at s)) ≡ endless
  unfolding further
  string-end h = ap (further at total) (ap (extent between_characters) (drop_of_length-le s h) ∙ extent-nil between_characters open-between)

  -- A run of plain bytes, each a character.
  pub string-plain : (end : ℕ) → end ≡ at + run is_plain (drop at s) → further at total (extent between_characters (drop at s)) ≡ further end (total + (end - at)) (extent between_characters (drop end s))
  string-plain end e =
      let n = run is_plain (drop at s) in
      ap (further at total) (plain-run (drop at s))
      ∙ further-further at total n n (extent between_characters (drop n (drop at s)))
      ∙ ap (λ (u : List ℕ). further (at + n) (total + n) (extent between_characters u)) (drop-drop n at s)
      ∙ ap₂ (λ (m k : ℕ). further m k (extent between_characters (drop m s))) (sym e) (omega (arith, e))

  -- A byte that is no quote, no backslash and not plain.
  pub string-other : at < length s → (get_or s at 0 ≡ 34 → ⊥) → (get_or s at 0 ≡ 92 → ⊥) → at ≡ at + run is_plain (drop at s) → further at total (extent between_characters (drop at s)) ≡ endless
  unfolding further
  string-other h quote backslash e =
      let b = get_or s at 0 in
      let other : is_plain b ≡ false = not_so (is_plain b) (λ f. absurd (omega (arith, e, run_more is_plain s at h f))) in
      ap (further at total)
      (ap (extent between_characters) (drop-cons s at 0 h)
      ∙ extent-wrong between_characters open-between b (drop (suc at) s) (between-wrong b quote backslash (sym (plain-is b quote backslash) ∙ other)))

  module _ (r : Option Quoted) (g : Goes s between_characters at r) where
    pub string-endless : r ≡ None → further at total (extent between_characters (drop at s)) ≡ endless
    unfolding on_from further
    string-endless e = from-total (extent between_characters (drop at s)) ∙ ap (further 0 total) (g.is ∙ ap (on_from s) e)

    pub string-more : (q : Quoted) → r ≡ Some q → further at total (extent between_characters (drop at s)) ≡ further q.end (total + q.count) (extent between_characters (drop q.end s))
    unfolding on_from
    string-more q e =
        from-total (extent between_characters (drop at s))
        ∙ ap (further 0 total) (g.is ∙ ap (on_from s) e)
        ∙ further-further 0 total q.end q.count (extent between_characters (drop q.end s))
        ∙ ap (λ (n : ℕ). further n (total + q.count) (extent between_characters (drop q.end s))) (zero-add q.end)

    pub string-inside : (q : Quoted) → r ≡ Some q → Inside s at (Some q)
    string-inside q e = rw e at g.inside
