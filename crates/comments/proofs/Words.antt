-- Laws of the comment set: a word and its bits, the words and the set that they mean, counts and the first token. Assumes nothing.
use Prim.Native.Nat.{ℕ, zero, suc, ◌+◌, ◌-◌, ◌*◌, ◌/◌, ◌%◌, ◌^◌, ◌≤◌, ◌<◌}
use native.Mathlib.Nat.{pow-suc, div-one, add-zero, zero-add, suc-add}
use native.Mathlib.Numerals.{one-add}
use native.Mathlib.Omega.{arith}
use mathlib.Core.Path.{◌≡◌, refl, sym, ap, ap₂, ◌∙◌}
use mathlib.Core.Bool.{Bool, true, false, cond, not, ◌&&◌, and-true, and-false}
use mathlib.Core.List.{List}
use Rattle.std.proofs.lemmas.Option.{none-some, none-some, same_Some}
use Rattle.std.proofs.lemmas.Nat.{and_le_l}
use Rattle.std.proofs.lemmas.Nat.Bits.{bit_at-lt, same_from_bits_below, bit_at_clear_same, bit_at_clear_other}
use Rattle.std.specs.Int.{bit_at, bit_not}
use Rattle.std.specs.Prelude.{Option, None, Some}
use mir.Syntax.{w64}
use lib.Bits.{bit_and}
use mathlib.Core.Logic.{◌⊎◌, inl, inr, ⊎_elim}
use lib.Dec.{eqb, ltb, eqb-suc-suc, lit<}
use lib.Pow.{shr-shr, pow_mono}
use lib.Count.{ones, ones_in, ones_step, count_trailing_zeros}
use lib.ListN.{length, get_or, set, take, length-set, get_or-eq_default}
use Rattle.std.proofs.lemmas.List.Sums.{sum_by_more}
use Rattle.std.specs.List.{sum_by}
use lib.Seq.{take_all, ext_get_or, get_or-set_same, get_or-set_other}
use borrow.Author.Tests.{eqb-true, eqb-false, eq-eqb, ne_eqb, ltb-true, ltb-false}
use Rattle.comments.specs.Set.{bit, clear, bits, holds, words_from, words_of, room, without, count, first}

-- ---- a word and its bits

bit-zero : (x : ℕ) → bit x 0 ≡ eqb (x % 2) 1
unfolding bit
bit-zero x = ap (λ (n : ℕ). eqb (n % 2) 1) (div-one x)

bit-suc : (x i : ℕ) → bit x (suc i) ≡ bit (x / 2) i
unfolding bit
bit-suc x i = ap (λ (n : ℕ). eqb (n % 2) 1) (sym (shr-shr x 1 i ∙ ap (λ (n : ℕ). x / 2 ^ n) (one-add i)))

ones_zero : ones 0 ≡ 0
unfolding ones ones_in
ones_zero = refl

-- The word x has as its n bits whether the n tokens from k on are in the set.
pub record Spells (member : ℕ → Bool) (k n x : ℕ) : Type 0 where
  pub below : x < 2 ^ n
  pub at : (i : ℕ) → i < n → member (k + i) ≡ bit x i

-- A truth value, by cases.
pub whether : (t : Bool) → (t ≡ true) ⊎ (t ≡ false)
whether true = inl refl
whether false = inr refl

trailing_odd : (n x : ℕ) → x % 2 ≡ 1 → count_trailing_zeros (suc n) x ≡ 0
unfolding count_trailing_zeros
trailing_odd n x e = rw (count_trailing_zeros, e)

trailing_even : (n x : ℕ) → x % 2 ≡ 0 → count_trailing_zeros (suc n) x ≡ suc (count_trailing_zeros n (x / 2))
unfolding count_trailing_zeros
trailing_even n x e = rw (count_trailing_zeros, e)

module _ (member : ℕ → Bool) where
  -- One token more, which is in the set or is not.
  module _ (k n : ℕ) where
    pub bits_in : member k ≡ true → bits member k (suc n) ≡ 1 + 2 * bits member (k + 1) n
    unfolding bits
    bits_in e = rw (bits, e)

    pub bits_out : member k ≡ false → bits member k (suc n) ≡ 2 * bits member (k + 1) n
    unfolding bits
    bits_out e = rw (bits, e)

    count-in : member k ≡ true → count member k (suc n) ≡ 1 + count member (k + 1) n
    unfolding count
    count-in e = rw (count, e)

    count-out : member k ≡ false → count member k (suc n) ≡ count member (k + 1) n
    unfolding count
    count-out e = rw (count, e)

    first-in : member k ≡ true → first member k (suc n) ≡ Some k
    unfolding first
    first-in e = rw (first, e)

    first_out : member k ≡ false → first member k (suc n) ≡ first member (k + 1) n
    unfolding first
    first_out e = rw (first, e)

  spells-head : (n x k : ℕ) → Spells member k (suc n) x → member k ≡ eqb (x % 2) 1
  spells-head n x k s = ap member (omega arith) ∙ s.at 0 (omega arith) ∙ bit-zero x

  spells-tail : (n x k : ℕ) → Spells member k (suc n) x → Spells member (k + 1) n (x / 2)
  spells-tail n x k s =
      record {
        below = omega (arith, s.below, pow-suc 2 n);
        at = λ i h. ap member (omega arith) ∙ s.at (suc i) (omega arith) ∙ bit-suc x i;
      }

  spells-zero : (x k : ℕ) → Spells member k 0 x → x ≡ 0
  spells-zero x k s = omega (arith, s.below)

  -- The lowest bit, by cases.
  spells-cases : (n x k : ℕ) → Spells member k (suc n) x → ((member k ≡ true) × (x % 2 ≡ 1)) ⊎ ((member k ≡ false) × (x % 2 ≡ 0))
  spells-cases n x k s =
      let h = spells-head n x k s in
      ⊎_elim (λ y. inl (y, eqb-true (x % 2) 1 (sym h ∙ y))) (λ z. inr (z, omega (arith, eqb-false (x % 2) 1 (sym h ∙ z)))) (whether (member k))

  -- The word is determined by its bits.
  pub bits_is : (n x k : ℕ) → Spells member k n x → bits member k n ≡ x
  unfolding bits
  bits_is zero x k s = sym (spells-zero x k s)
  bits_is (suc n) x k s =
      let ih = bits_is n (x / 2) (k + 1) (spells-tail n x k s) in
      ⊎_elim (λ w. bits_in k n w.0 ∙ omega (arith, ih, w.1)) (λ w. bits_out k n w.0 ∙ omega (arith, ih, w.1)) (spells-cases n x k s)

  -- The count of ones counts the tokens.
  pub ones-count : (n x k : ℕ) → Spells member k n x → ones x ≡ count member k n
  unfolding count
  ones-count zero x k s = ap ones (spells-zero x k s) ∙ ones_zero
  ones-count (suc n) x k s =
      let ih = ones-count n (x / 2) (k + 1) (spells-tail n x k s) in
      ⊎_elim (λ w. omega (arith, ih, ones_step x, count-in k n w.0, w.1)) (λ w. omega (arith, ih, ones_step x, count-out k n w.0, w.1)) (spells-cases n x k s)

  -- The trailing zeros stand before the first token.
  pub first-trailing : (n x k : ℕ) → Spells member k n x → (x ≡ 0 → ⊥) → first member k n ≡ Some (k + count_trailing_zeros n x)
  first-trailing zero x k s h = absurd (h (spells-zero x k s))
  first-trailing (suc n) x k s h =
      let ih = first-trailing n (x / 2) (k + 1) (spells-tail n x k s) in
      ⊎_elim (λ w. first-in k n w.0 ∙ ap Some (omega (arith, trailing_odd n x w.1)))
      (λ w. first_out k n w.0 ∙ ih (λ z. h (omega (arith, w.1))) ∙ ap Some (omega (arith, trailing_even n x w.1)))
      (spells-cases n x k s)

  pub first-zero : (n k : ℕ) → Spells member k n 0 → first member k n ≡ None
  unfolding first
  first-zero zero k s = refl
  first-zero (suc n) k s = first_out k n (spells-head n 0 k s) ∙ first-zero n (k + 1) (spells-tail n 0 k s)

  -- The word of tokens that are not in the set.
  pub bits-empty : (n k : ℕ) → ((i : ℕ) → k ≤ i → member i ≡ false) → 0 ≡ bits member k n
  unfolding bits
  bits-empty zero k h = refl
  bits-empty (suc n) k h =
      let ih = bits-empty n (k + 1) (λ i l. h i (omega arith)) in
      omega (arith, ih, bits_out k n (h k (omega arith)))

  -- The bits of the word are the tokens.
  bits-half : (n k : ℕ) → (bits member k (suc n) / 2 ≡ bits member (k + 1) n) × (member k ≡ eqb (bits member k (suc n) % 2) 1)
  bits-half n k =
      ⊎_elim (λ y. let b = bits_in k n y in (omega (arith, b), y ∙ sym (eq-eqb (bits member k (suc n) % 2) 1 (omega (arith, b)))))
      (λ z. let b = bits_out k n z in (omega (arith, b), z ∙ sym (ne_eqb (bits member k (suc n) % 2) 1 (λ e. omega (arith, b, e)))))
      (whether (member k))

  bits_at : (n k i : ℕ) → i < n → member (k + i) ≡ bit (bits member k n) i
  bits_at zero k i h = absurd (omega arith)
  bits_at (suc n) k zero h = ap member (omega arith) ∙ (bits-half n k).1 ∙ sym (bit-zero (bits member k (suc n)))
  bits_at (suc n) k (suc i) h =
      ap member (omega arith)
      ∙ bits_at n (k + 1) i (omega arith)
      ∙ ap (λ (x : ℕ). bit x i) (sym (bits-half n k).0)
      ∙ sym (bit-suc (bits member k (suc n)) i)

  pub bits_below : (n k : ℕ) → bits member k n < 2 ^ n
  unfolding bits
  bits_below zero k = lit< tt
  bits_below (suc n) k =
      let ih = bits_below n (k + 1) in
      ⊎_elim (λ y. omega (arith, ih, bits_in k n y, pow-suc 2 n)) (λ z. omega (arith, ih, bits_out k n z, pow-suc 2 n)) (whether (member k))

  pub bits-spells : (n k : ℕ) → Spells member k n (bits member k n)
  bits-spells n k = record { below = bits_below n k; at = bits_at n k }

  -- A run of tokens, and the run behind it.
  pub count_add : (n r k : ℕ) → count member k (n + r) ≡ count member k n + count member (k + n) r
  unfolding count
  count_add zero r k = ap (λ (i : ℕ). count member k i) (zero-add r) ∙ ap (λ (i : ℕ). count member i r) (sym (add-zero k)) ∙ sym (zero-add _)
  count_add (suc n) r k =
      let ih = count_add n r (k + 1) in
      let e : k + 1 + n ≡ k + suc n = omega arith in
      let f = ap (λ (i : ℕ). count member i r) e in
      ap (λ (i : ℕ). count member k i) (suc-add n r)
      ∙ ⊎_elim (λ y. omega (arith, ih, f, count-in k n y, count-in k (n + r) y)) (λ z. omega (arith, ih, f, count-out k n z, count-out k (n + r) z)) (whether (member k))

  pub count-le : (n k : ℕ) → count member k n ≤ n
  unfolding count
  count-le zero k = omega arith
  count-le (suc n) k =
      let ih = count-le n (k + 1) in
      ⊎_elim (λ y. omega (arith, ih, count-in k n y)) (λ z. omega (arith, ih, count-out k n z)) (whether (member k))

  pub first_some : (n r k j : ℕ) → first member k n ≡ Some j → first member k (n + r) ≡ Some j
  unfolding first
  first_some zero r k j h = absurd (none-some j h)
  first_some (suc n) r k j h =
      let ih = first_some n r (k + 1) j in
      ap (λ (i : ℕ). first member k i) (suc-add n r)
      ∙ ⊎_elim (λ y. first-in k (n + r) y ∙ sym (first-in k n y) ∙ h) (λ z. first_out k (n + r) z ∙ ih (sym (first_out k n z) ∙ h)) (whether (member k))

  pub first-none : (n r k : ℕ) → first member k n ≡ None → first member k (n + r) ≡ first member (k + n) r
  unfolding first
  first-none zero r k h = ap (λ (i : ℕ). first member k i) (zero-add r) ∙ ap (λ (i : ℕ). first member i r) (sym (add-zero k))
  first-none (suc n) r k h =
      let ih = first-none n r (k + 1) in
      let e : k + 1 + n ≡ k + suc n = omega arith in
      ap (λ (i : ℕ). first member k i) (suc-add n r)
      ∙ ⊎_elim (λ y. absurd (none-some k (sym h ∙ first-in k n y)))
      (λ z. first_out k (n + r) z ∙ ih (sym (first_out k n z) ∙ h) ∙ ap (λ (i : ℕ). first member i r) e)
      (whether (member k))

  -- What is found is in the set.
  pub first-is : (n k j : ℕ) → first member k n ≡ Some j → (k ≤ j) × (j < k + n) × (member j ≡ true)
  unfolding first
  first-is zero k j h = absurd (none-some j h)
  first-is (suc n) k j h =
      let ih = first-is n (k + 1) j in
      ⊎_elim
      (λ y. let e : k ≡ j = same_Some k j (sym (first-in k n y) ∙ h) in (omega (arith, e), omega (arith, e), ap member (sym e) ∙ y))
      (λ z. let p = ih (sym (first_out k n z) ∙ h) in (omega (arith, p.0), omega (arith, p.1), p.2))
      (whether (member k))

  -- No token is in the set.
  first-empty : (n k : ℕ) → ((i : ℕ) → k ≤ i → member i ≡ false) → first member k n ≡ None
  unfolding first
  first-empty zero k h = refl
  first-empty (suc n) k h = first_out k n (h k (omega arith)) ∙ first-empty n (k + 1) (λ i l. h i (omega arith))

  pub count_none : (n k : ℕ) → count member k n ≡ 0 → first member k n ≡ None
  unfolding first
  count_none zero k h = refl
  count_none (suc n) k h =
      let ih = count_none n (k + 1) in
      ⊎_elim (λ y. absurd (omega (arith, h, count-in k n y))) (λ z. first_out k n z ∙ ih (sym (count-out k n z) ∙ h)) (whether (member k))

  pub none-count : (n k : ℕ) → first member k n ≡ None → count member k n ≡ 0
  unfolding count
  none-count zero k h = refl
  none-count (suc n) k h =
      let ih = none-count n (k + 1) in
      ⊎_elim (λ y. absurd (none-some k (sym h ∙ first-in k n y))) (λ z. count-out k n z ∙ ih (sym (first_out k n z) ∙ h)) (whether (member k))

-- ---- two sets that agree

module _ (f g : ℕ → Bool) where
  pub bits-same : (n k : ℕ) → ((i : ℕ) → i < n → f (k + i) ≡ g (k + i)) → bits f k n ≡ bits g k n
  bits-same n k h = bits_is f n (bits g k n) k (record { below = bits_below g n k; at = λ i l. h i l ∙ bits_at g n k i l })

  pub count_same : (n k : ℕ) → ((i : ℕ) → i < n → f (k + i) ≡ g (k + i)) → count f k n ≡ count g k n
  count_same n k h =
      sym (ones-count f n (bits g k n) k (record { below = bits_below g n k; at = λ i l. h i l ∙ bits_at g n k i l }))
      ∙ ones-count g n (bits g k n) k (bits-spells g n k)

  pub first-same : (n k : ℕ) → ((i : ℕ) → i < n → f (k + i) ≡ g (k + i)) → first f k n ≡ first g k n
  unfolding first
  first-same zero k h = refl
  first-same (suc n) k h =
      let head : f k ≡ g k = ap f (sym (add-zero k)) ∙ h 0 (omega arith) ∙ ap g (add-zero k) in
      let tail : (i : ℕ) → i < n → f (k + 1 + i) ≡ g (k + 1 + i) = λ i l. let e : k + 1 + i ≡ k + suc i = omega arith in ap f e ∙ h (suc i) (omega arith) ∙ ap g (sym e) in
      let rest : first f (k + 1) n ≡ first g (k + 1) n = first-same n (k + 1) tail in
      λ i. elim (head i) as (λ y. Option ℕ) [ true ↦ Some k | false ↦ rest i ]

-- ---- the words and the set that they mean

module _ (member : ℕ → Bool) where
  words-length : (n k : ℕ) → length (words_from member k n) ≡ n
  unfolding words_from
  words-length zero k = refl
  words-length (suc n) k = ap suc (words-length n (k + 64))

  words-at : (n w k : ℕ) → w < n → get_or (words_from member k n) w 0 ≡ bits member (k + 64 * w) 64
  unfolding words_from
  words-at zero w k h = absurd (omega arith)
  words-at (suc n) zero k h = ap (λ (i : ℕ). bits member i 64) (sym (add-zero k))
  words-at (suc n) (suc w) k h =
      let e : k + 64 + 64 * w ≡ k + 64 * suc w = omega arith in
      words-at n w (k + 64) (omega arith) ∙ ap (λ (i : ℕ). bits member i 64) e

  word_at : (w : ℕ) → w < 64 → get_or (words_of member) w 0 ≡ bits member (64 * w) 64
  unfolding words_of
  word_at w h = words-at 64 w 0 h ∙ ap (λ (i : ℕ). bits member i 64) (zero-add (64 * w))

  pub length-words : length (words_of member) ≡ 64
  unfolding words_of
  length-words = words-length 64 0

  -- 64 words are those of a set where each has the set's bits.
  pub words-is : (words : List ℕ) → length words ≡ 64 → ((w : ℕ) → w < 64 → get_or words w 0 ≡ bits member (64 * w) 64) → words ≡ words_of member
  words-is words l h = ext_get_or 0 words (words_of member) (l ∙ sym length-words) (λ w b. h w (omega (arith, l)) ∙ sym (word_at w (omega (arith, l))))

  pub holds-words : (k : ℕ) → k < room → holds (words_of member) k ≡ member k
  unfolding holds
  holds-words k h =
      let e : 64 * (k / 64) + k % 64 ≡ k = omega arith in
      ap (λ (x : ℕ). bit x (k % 64)) (word_at (k / 64) (omega arith)) ∙ sym (bits_at member 64 (64 * (k / 64)) (k % 64) (omega arith)) ∙ ap member e

-- A word of the set that the words mean.
pub holds_spells : (words : List ℕ) (w : ℕ) → get_or words w 0 < 2 ^ 64 → Spells (holds words) (64 * w) 64 (get_or words w 0)
unfolding holds
holds_spells words w h =
    record {
      below = h;
      at = λ i l. let d : (64 * w + i) / 64 ≡ w = omega arith in let m : (64 * w + i) % 64 ≡ i = omega arith in rw (d, m);
    }

-- Sets that agree on the tokens have the same words, count and first token.
module _ (f g : ℕ → Bool) (h : (k : ℕ) → k < room → f k ≡ g k) where
  from_zero : (i : ℕ) → i < room → f (0 + i) ≡ g (0 + i)
  from_zero i l = ap f (zero-add i) ∙ h i l ∙ ap g (sym (zero-add i))

  pub words_same : words_of f ≡ words_of g
  words_same =
      words-is g (words_of f) (length-words f) (λ w l. word_at f w l ∙ bits-same f g 64 (64 * w) (λ i b. h (64 * w + i) (omega arith)))

  pub room-count : count f 0 room ≡ count g 0 room
  room-count = count_same f g room 0 from_zero

  pub room-first : first f 0 room ≡ first g 0 room
  room-first = first-same f g room 0 from_zero

-- The set of the words of a set is that set.
module _ (member : ℕ → Bool) (words : List ℕ) (e : words ≡ words_of member) where
  pub holds-is : (k : ℕ) → k < room → holds words k ≡ member k
  holds-is k h = ap (λ (l : List ℕ). holds l k) e ∙ holds-words member k h

  -- What `without` gives of the words of a set.
  pub words-without : (k : ℕ) → words_of (without (holds words) k) ≡ words_of (without member k)
  unfolding without
  words-without k = words_same (without (holds words) k) (without member k) (λ j h. ap (λ (t : Bool). t && not (eqb j k)) (holds-is j h))

  pub words_count : count (holds words) 0 room ≡ count member 0 room
  words_count = room-count (holds words) member holds-is

  pub words-first : first (holds words) 0 room ≡ first member 0 room
  words-first = room-first (holds words) member holds-is

-- Where no token from n on is in the set, the first n decide.
pub first-among : (member : ℕ → Bool) (n : ℕ) → n ≤ room → ((k : ℕ) → n ≤ k → member k ≡ false) → first member 0 room ≡ first member 0 n
first-among member n h z =
    let e : room ≡ n + (room - n) = omega arith in
    ap (λ (i : ℕ). first member 0 i) e ∙ go (first member 0 n) refl
  where
    go : (o : Option ℕ) → first member 0 n ≡ o → first member 0 (n + (room - n)) ≡ first member 0 n
    go None f = first-none member n (room - n) 0 f ∙ first-empty member (room - n) (0 + n) (λ i l. z i (omega arith)) ∙ sym f
    go (Some j) f = first_some member n (room - n) 0 j f ∙ sym f

-- ---- a bit struck out of a word

and_other : (t : Bool) (i b : ℕ) → (i ≡ b → ⊥) → t ≡ (t && not (eqb i b))
and_other t i b h = rw (ne_eqb i b h) (sym (and-true t))

bit_le : (b x : ℕ) → bit x b ≡ true → 2 ^ b ≤ x
bit_le zero x h = omega (arith, eqb-true (x % 2) 1 (sym (bit-zero x) ∙ h))
bit_le (suc b) x h = omega (arith, bit_le b (x / 2) (sym (bit-suc x b) ∙ h), pow-suc 2 b)

-- With bit b set, the word less 2 ^ b has the other bits.
pub bit-struck : (b x i : ℕ) → bit x b ≡ true → bit (x - 2 ^ b) i ≡ (bit x i && not (eqb i b))
bit-struck zero x zero h =
    bit-zero (x - 1) ∙ ne_eqb ((x - 1) % 2) 1 (λ e. omega (arith, eqb-true (x % 2) 1 (sym (bit-zero x) ∙ h))) ∙ sym (and-false (bit x 0))
bit-struck zero x (suc i) h =
    let e : (x - 1) / 2 ≡ x / 2 = omega (arith, eqb-true (x % 2) 1 (sym (bit-zero x) ∙ h)) in
    bit-suc (x - 1) i ∙ ap (λ (y : ℕ). bit y i) e ∙ sym (bit-suc x i) ∙ and_other (bit x (suc i)) (suc i) 0 (λ e. omega arith)
bit-struck (suc b) x zero h =
    let e : (x - 2 ^ suc b) % 2 ≡ x % 2 = omega (arith, bit_le (suc b) x h, pow-suc 2 b) in
    bit-zero (x - 2 ^ suc b) ∙ ap (λ (y : ℕ). eqb y 1) e ∙ sym (bit-zero x) ∙ and_other (bit x 0) 0 (suc b) (λ e. omega arith)
bit-struck (suc b) x (suc i) h =
    let e : (x - 2 ^ suc b) / 2 ≡ x / 2 - 2 ^ b = omega (arith, pow-suc 2 b) in
    bit-suc (x - 2 ^ suc b) i
    ∙ ap (λ (y : ℕ). bit y i) e
    ∙ bit-struck b (x / 2) i (sym (bit-suc x b) ∙ h)
    ∙ ap₂ (λ (s t : Bool). s && not t) (sym (bit-suc x i)) (sym (eqb-suc-suc i b))

-- With bit b not set, the word has no other bits.
pub bit_kept : (b x i : ℕ) → bit x b ≡ false → bit x i ≡ (bit x i && not (eqb i b))
bit_kept b x i h = go (eqb i b) refl
  where
    go : (t : Bool) → eqb i b ≡ t → bit x i ≡ (bit x i && not t)
    go true e = rw (eqb-true i b e, h)
    go false e = sym (and-true (bit x i))

-- A word without bit b has the other bits, and is no larger.
pub clear-bits : (x b i : ℕ) → bit (clear x b) i ≡ (bit x i && not (eqb i b))
unfolding clear
clear-bits x b i = go (bit x b) refl
  where
    go : (t : Bool) → bit x b ≡ t → bit (cond t (x - 2 ^ b) x) i ≡ (bit x i && not (eqb i b))
    go true e = bit-struck b x i e
    go false e = bit_kept b x i e

pub clear-le : (x b : ℕ) → clear x b ≤ x
unfolding clear
clear-le x b = go (bit x b)
  where
    go : (t : Bool) → cond t (x - 2 ^ b) x ≤ x
    go true = omega arith
    go false = omega arith

-- ---- the loops

module _ (words : List ℕ) (long : length words ≡ 64) (fit : (w : ℕ) → get_or words w 0 < 2 ^ 64) (k : ℕ) where
  -- A word that does not hold token k.
  other_word : (w : ℕ) → (w ≡ k / 64 → ⊥) → Spells (without (holds words) k) (64 * w) 64 (get_or words w 0)
  unfolding without
  other_word w ne =
      record {
        below = fit w;
        at = λ i l. sym (and_other (holds words (64 * w + i)) (64 * w + i) k (λ e. ne (omega arith))) ∙ (holds_spells words w (fit w)).at i l;
      }

  -- The word that holds token k.
  struck-word : Spells (without (holds words) k) (64 * (k / 64)) 64 (clear (get_or words (k / 64) 0) (k % 64))
  unfolding without
  struck-word =
      record {
        below = omega (arith, clear-le (get_or words (k / 64) 0) (k % 64), fit (k / 64));
        at = λ i l. ap₂ (λ (s t : Bool). s && not t) ((holds_spells words (k / 64) (fit (k / 64))).at i l) (same i l)
            ∙ sym (clear-bits (get_or words (k / 64) 0) (k % 64) i);
      }
    where
      same : (i : ℕ) → i < 64 → eqb (64 * (k / 64) + i) k ≡ eqb i (k % 64)
      same i l = go (eqb i (k % 64)) refl
        where
          go : (t : Bool) → eqb i (k % 64) ≡ t → eqb (64 * (k / 64) + i) k ≡ t
          go true e = eq-eqb (64 * (k / 64) + i) k (omega (arith, eqb-true i (k % 64) e))
          go false e = ne_eqb (64 * (k / 64) + i) k (λ f. eqb-false i (k % 64) e (omega arith))

  pub words-kept : 64 ≤ k / 64 → words ≡ words_of (without (holds words) k)
  words-kept h =
      words-is (without (holds words) k) words long (λ w l. sym (bits_is (without (holds words) k) 64 (get_or words w 0) (64 * w) (other_word w (λ e. omega arith))))

  pub words-struck : (y : ℕ) → k / 64 < 64 → y ≡ clear (get_or words (k / 64) 0) (k % 64) → set words (k / 64) y ≡ words_of (without (holds words) k)
  words-struck y h e =
      words-is (without (holds words) k) (set words (k / 64) y) (length-set words (k / 64) y ∙ long)
      (λ w l. go w (eqb w (k / 64)) refl)
    where
      go : (w : ℕ) (t : Bool) → eqb w (k / 64) ≡ t → get_or (set words (k / 64) y) w 0 ≡ bits (without (holds words) k) (64 * w) 64
      go w true f =
          rw (eqb-true w (k / 64) f)
          (get_or-set_same words (k / 64) y 0 (omega arith)
          ∙ e
          ∙ sym (bits_is (without (holds words) k) 64 (clear (get_or words (k / 64) 0) (k % 64)) (64 * (k / 64)) struck-word))
      go w false f =
          get_or-set_other words (k / 64) w y 0 (eqb-false w (k / 64) f)
          ∙ sym (bits_is (without (holds words) k) 64 (get_or words w 0) (64 * w) (other_word w (eqb-false w (k / 64) f)))

module _ (words : List ℕ) (w : ℕ) (fit : get_or words w 0 < 2 ^ 64) where
  -- The next word's tokens are counted by its ones.
  pub count_word : count (holds words) 0 (64 * (w + 1)) ≡ count (holds words) 0 (64 * w) + ones (get_or words w 0)
  count_word =
      let e : 64 * (w + 1) ≡ 64 * w + 64 = omega arith in
      ap (λ (n : ℕ). count (holds words) 0 n) e
      ∙ count_add (holds words) (64 * w) 64 0
      ∙ ap (λ (n : ℕ). count (holds words) 0 (64 * w) + n)
      (ap (λ (k : ℕ). count (holds words) k 64) (zero-add (64 * w))
      ∙ sym (ones-count (holds words) 64 (get_or words w 0) (64 * w) (holds_spells words w fit)))

  -- The first token at or behind the next word.
  rest_of : w < 64 → room - 64 * w ≡ 64 + (room - 64 * (w + 1))
  rest_of l = omega arith

  pub first-later : w < 64 → get_or words w 0 ≡ 0 → first (holds words) (64 * w) (room - 64 * w) ≡ first (holds words) (64 * (w + 1)) (room - 64 * (w + 1))
  first-later l e =
      let next : 64 * w + 64 ≡ 64 * (w + 1) = omega arith in
      ap (λ (n : ℕ). first (holds words) (64 * w) n) (rest_of l)
      ∙ first-none (holds words) 64 (room - 64 * (w + 1)) (64 * w) (first-zero (holds words) 64 (64 * w) (rw e at (holds_spells words w fit)))
      ∙ ap (λ (k : ℕ). first (holds words) k (room - 64 * (w + 1))) next

  pub first-here : w < 64 → (get_or words w 0 ≡ 0 → ⊥) → first (holds words) (64 * w) (room - 64 * w) ≡ Some (64 * w + count_trailing_zeros 64 (get_or words w 0))
  first-here l ne =
      ap (λ (n : ℕ). first (holds words) (64 * w) n) (rest_of l)
      ∙ first_some (holds words) 64 (room - 64 * (w + 1)) (64 * w) (64 * w + count_trailing_zeros 64 (get_or words w 0))
      (first-trailing (holds words) 64 (get_or words w 0) (64 * w) (holds_spells words w fit) ne)

-- The ones of the words are the tokens.
module _ (words : List ℕ) (fit : (w : ℕ) → get_or words w 0 < 2 ^ 64) where
  ones-so_far : (n : ℕ) → n ≤ length words → sum_by ones (take n words) ≡ count (holds words) 0 (64 * n)
  unfolding count
  ones-so_far zero h = refl
  ones-so_far (suc n) h =
      let e : suc n ≡ n + 1 = omega arith in
      rw e (omega (arith, sum_by_more ones words n 0 h, ones-so_far n (omega arith), count_word words n (fit n)))

  pub ones-all : length words ≡ 64 → sum_by ones words ≡ count (holds words) 0 room
  ones-all long = ap (sum_by ones) (sym (take_all 64 words (omega (arith, long)))) ∙ ones-so_far 64 (omega (arith, long))

-- The words before the first that is not 0 have no token.
module _ (words : List ℕ) (fit : (w : ℕ) → get_or words w 0 < 2 ^ 64) where
  first-skips : (n : ℕ) → n ≤ 64 → ((k : ℕ) → k < n → get_or words k 0 ≡ 0) → first (holds words) 0 room ≡ first (holds words) (64 * n) (room - 64 * n)
  first-skips zero h z = refl
  first-skips (suc n) h z =
      let e : suc n ≡ n + 1 = omega arith in
      rw e (first-skips n (omega arith) (λ k l. z k (omega arith)) ∙ first-later words n (fit n) (omega arith) (z n (omega arith)))

  pub first-word : (w : ℕ) → w < 64 → (get_or words w 0 ≡ 0 → ⊥) → ((k : ℕ) → k < w → get_or words k 0 ≡ 0) → first (holds words) 0 room ≡ Some (64 * w + count_trailing_zeros 64 (get_or words w 0))
  first-word w l ne z = first-skips w (omega arith) z ∙ first-here words w (fit w) l ne

  pub first-nowhere : ((k : ℕ) → k < 64 → get_or words k 0 ≡ 0) → first (holds words) 0 room ≡ None
  unfolding first
  first-nowhere z = first-skips 64 (omega arith) z ∙ refl

-- A word is made from its highest bit down.
module _ (member : ℕ → Bool) (k b b' x : ℕ) (next : b ≡ suc b') (most : b ≤ 64) (made : x ≡ bits member (k + b) (64 - b)) where
  pub made-fits : x < 2 ^ 63
  made-fits = let h : 64 - b ≤ 63 = omega arith in omega (arith, made, bits_below member (64 - b) (k + b), pow_mono h)

  made-next : bits member (k + b') (64 - b') ≡ bits member (k + b') (suc (64 - b))
  made-next = let e : 64 - b' ≡ suc (64 - b) = omega arith in ap (λ (n : ℕ). bits member (k + b') n) e

  rest : bits member (k + b' + 1) (64 - b) ≡ x
  rest = let e : k + b' + 1 ≡ k + b = omega arith in ap (λ (i : ℕ). bits member i (64 - b)) e ∙ sym made

  pub made_one : member (k + b') ≡ true → x * 2 + 1 ≡ bits member (k + b') (64 - b')
  unfolding bits
  made_one t = sym (made-next ∙ rw (bits, t) (omega (arith, rest)))

  pub made-zero : member (k + b') ≡ false → x * 2 ≡ bits member (k + b') (64 - b')
  unfolding bits
  made-zero t = sym (made-next ∙ rw (bits, t) (omega (arith, rest)))

bits-agree : (x y i : ℕ) → bit x i ≡ bit y i → bit_at x i ≡ bit_at y i
unfolding bit
bits-agree x y i e =
    ⊎_elim (λ t. eqb-true (bit_at x i) 1 t ∙ sym (eqb-true (bit_at y i) 1 (sym e ∙ t)))
    (λ f. omega (arith, bit_at-lt x i, bit_at-lt y i, eqb-false (bit_at x i) 1 f, eqb-false (bit_at y i) 1 (sym e ∙ f))) (whether (bit x i))

bit-none : (x i : ℕ) → bit x i ≡ false → bit_at x i ≡ 0
unfolding bit
bit-none x i f = omega (arith, bit_at-lt x i, eqb-false (bit_at x i) 1 f)

-- The word less its bit b, as the code computes it.
pub cleared-is : (x b : ℕ) → x < 2 ^ 64 → b < 64 → bit_and x (bit_not w64 (1 * 2 ^ b % 2 ^ 64)) ≡ clear x b
cleared-is x b fit h =
    same_from_bits_below 64 _ _ (omega (arith, and_le_l x (bit_not w64 (1 * 2 ^ b % 2 ^ 64)))) (omega (arith, clear-le x b)) (λ i l. go i l (eqb i b) refl)
  where
    go : (i : ℕ) → i < 64 → (t : Bool) → eqb i b ≡ t → bit_at (bit_and x (bit_not w64 (1 * 2 ^ b % 2 ^ 64))) i ≡ bit_at (clear x b) i
    go i l true e =
        rw (eqb-true i b e) (bit_at_clear_same w64 x b h ∙ sym (bit-none (clear x b) b (clear-bits x b b ∙ rw (eq-eqb b b refl) (and-false (bit x b)))))
    go i l false e =
        bit_at_clear_other w64 x b h i l (eqb-false i b e) ∙ bits-agree x (clear x b) i (sym (clear-bits x b i ∙ rw e (and-true (bit x i))))

pub made_all : (member : ℕ → Bool) (k b x : ℕ) → b ≤ 0 → x ≡ bits member (k + b) (64 - b) → x ≡ bits member k 64
made_all member k b x h e =
    let i : k + b ≡ k = omega arith in
    let n : 64 - b ≡ 64 = omega arith in
    e ∙ ap₂ (λ (i n : ℕ). bits member i n) i n

-- The words of a set without one token.
module _ (member : ℕ → Bool) (k : ℕ) where
  words-fit : (w : ℕ) → get_or (words_of member) w 0 < 2 ^ 64
  words-fit w = go (ltb w 64) refl
    where
      go : (b : Bool) → ltb w 64 ≡ b → get_or (words_of member) w 0 < 2 ^ 64
      go true e = omega (arith, word_at member w (ltb-true w 64 e), bits_below member 64 (64 * w))
      go false e =
          let z : get_or (words_of member) w 0 ≡ 0 = get_or-eq_default (words_of member) 0 (omega (arith, length-words member, ltb-false w 64 e)) in
          rw z (lit< tt)

  pub words-clear : k / 64 < 64 → set (words_of member) (k / 64) (clear (get_or (words_of member) (k / 64) 0) (k % 64)) ≡ words_of (without member k)
  words-clear h =
      words-struck (words_of member) (length-words member) words-fit k (clear (get_or (words_of member) (k / 64) 0) (k % 64)) h refl
      ∙ words-without member (words_of member) refl k

  pub words-past : 64 ≤ k / 64 → words_of member ≡ words_of (without member k)
  words-past h = words-kept (words_of member) (length-words member) words-fit k h ∙ words-without member (words_of member) refl k
