-- A text whose every byte may stand behind the three before it is well-formed. Assumes nothing.
use Prim.Native.Nat.{ℕ, zero, suc, ◌+◌, ◌-◌, ◌≤◌, ◌<◌}
use native.Mathlib.Omega.{arith}
use mathlib.Core.Path.{◌≡◌, refl, sym, ap, subst, ◌∙◌}
use mathlib.Core.Bool.{Bool, true, false, not, beq, ◌&&◌, ◌||◌, false≢true}
use mathlib.Core.List.{List, [], ◌∷◌, ◌++◌}
use Rattle.std.specs.Prelude.{None}
use lib.Dec.{leb, eqb}
use lib.ListN.{length, get_or, take, drop}
use lib.Seq.{get_or-take, length-take-le}
use borrow.Author.Tests.{le-leb, leb-true, leb-false, eqb-true, eqb-false}
use Rattle.text.specs.Utf8.{◌‥◌, continuation, well_formed, char_at, broken_from, first_broken}
use Rattle.text.specs.Promises.Utf8.{Asked, Follows, AllFollow}
use Rattle.text.specs.Bytes.{between}
use Rattle.text.proofs.Computed.{and_left, and_right}
use Rattle.text.proofs.Utf8Laws.{ascii_char, broken-none, broken-more}
use Rattle.text.proofs.SpaceLaws.{first_byte, first_two, first_three}
use Rattle.text.proofs.EncodeLaws.{under, char-two, char-three, char-four}

-- ---- ranges as the code tests them
module _ (lo hi b : ℕ) where
  pub inside : between lo hi b ≡ true → (lo ≤ b) × (b ≤ hi)
  unfolding between
  inside e = (leb-true lo b (and_left (leb lo b) (leb b hi) e), leb-true b hi (and_right (leb lo b) (leb b hi) e))

  pub outside : between lo hi b ≡ false → lo ≤ b → hi < b
  unfolding between
  outside e l = leb-false b hi (subst (λ (x : Bool). (x && leb b hi) ≡ false) (le-leb lo b l) e)

-- ---- what is asked for
abbrev Inside : ℕ → Type 0
Inside b = (0x80 ≤ b) × (b ≤ 0xBF)

not_from : (x k : ℕ) → (k ≤ x → ⊥) → x < k
not_from x k h = omega (arith, h)

module _ (a b c d : ℕ) {n : Bool} (p : (0xF0 ≤ a → n ≡ true) × (0xE0 ≤ b → n ≡ true) × (0xC0 ≤ c → n ≡ true) × (a < 0xF0 → b < 0xE0 → c < 0xC0 → n ≡ false)) where
  asked-inside : n ≡ true → Inside d → Asked a b c d
  asked-inside e q =
      record {
        fourth = λ g. q;
        third = λ g. q;
        second = λ g. q;
        none_asks = λ x y z g. absurd (false≢true (sym (p.3 x y z) ∙ e));
      }

  asked-outside : n ≡ false → (0x80 ≤ d → 0xBF < d) → Asked a b c d
  asked-outside e q =
      record {
        fourth = λ g. absurd (false≢true (sym e ∙ p.0 g));
        third = λ g. absurd (false≢true (sym e ∙ p.1 g));
        second = λ g. absurd (false≢true (sym e ∙ p.2 g));
        none_asks = λ x y z g. q g;
      }

  pub asked_is : (t : Bool) → t ≡ between 0x80 0xBF d → not (beq t n) ≡ false → Asked a b c d
  asked_is true f z = go n refl z
    where
      go : (m : Bool) → n ≡ m → not (beq true m) ≡ false → Asked a b c d
      go true e h = asked-inside e (inside 0x80 0xBF d (sym f))
      go false e h = absurd (false≢true (sym h))
  asked_is false f z = go n refl z
    where
      go : (m : Bool) → n ≡ m → not (beq false m) ≡ false → Asked a b c d
      go false e h = asked-outside e (outside 0x80 0xBF d (sym f))
      go true e h = absurd (false≢true (sym h))

  pub none_asked : n ≡ false → (a < 0xF0) × (b < 0xE0) × (c < 0xC0)
  none_asked e = (not_from a 0xF0 (λ g. false≢true (sym e ∙ p.0 g)), not_from b 0xE0 (λ g. false≢true (sym e ∙ p.1 g)), not_from c 0xC0 (λ g. false≢true (sym e ∙ p.2 g)))

-- `a || b` and `a && b` are false.
pub neither : (a b : Bool) → (a || b) ≡ false → (a ≡ false) × (b ≡ false)
neither true b h = absurd (false≢true (sym h))
neither false b h = (refl, h)

pub not_both : (a b : Bool) → (a && b) ≡ false → b ≡ true → a ≡ false
not_both true b h e = absurd (false≢true (sym h ∙ e))
not_both false b h e = refl

-- ---- a text of such bytes
module _ (s : List ℕ) (known : (i : ℕ) → i < length s → get_or s i 0 ≤ 0xF3) (f : AllFollow s) (e1 : get_or s (length s - 1) 0 < 0xC0) (e2 : get_or s (length s - 2) 0 < 0xE0) (e3 : get_or s (length s - 3) 0 < 0xF0) where
  abbrev at : ℕ → ℕ
  at i = get_or s i 0

  -- No byte is asked for at an offset.
  abbrev Free : ℕ → Type 0
  Free i = (at (i - 3) < 0xF0) × (at (i - 2) < 0xE0) × (at (i - 1) < 0xC0)

  -- The bytes behind the first of a character.
  module _ (i : ℕ) (l : 3 ≤ i) where
    behind-one : i + 1 < length s → 0xC0 ≤ at i → Inside (at (i + 1))
    behind-one h g = let p = f (i + 1) (omega arith) h in let q : i ≡ i + 1 - 1 = omega arith in p.asked.second (subst (λ (m : ℕ). 0xC0 ≤ at m) q g)

    behind-two : i + 2 < length s → 0xE0 ≤ at i → Inside (at (i + 2))
    behind-two h g = let p = f (i + 2) (omega arith) h in let q : i ≡ i + 2 - 2 = omega arith in p.asked.third (subst (λ (m : ℕ). 0xE0 ≤ at m) q g)

    behind-three : i + 2 + 1 < length s → 0xF0 ≤ at i → Inside (at (i + 2 + 1))
    behind-three h g = let p = f (i + 2 + 1) (omega arith) h in let q : i ≡ i + 2 + 1 - 3 = omega arith in p.asked.fourth (subst (λ (m : ℕ). 0xF0 ≤ at m) q g)

    module _ (h : i + 1 < length s) {b : ℕ} (e : at i ≡ b) where
      same-lead : at (i + 1 - 1) ≡ b
      same-lead = let q : i ≡ i + 1 - 1 = omega arith in subst (λ (m : ℕ). at m ≡ b) q e

      behind : Follows (at (i + 1 - 3)) (at (i + 1 - 2)) (at (i + 1 - 1)) (at (i + 1))
      behind = f (i + 1) (omega arith) h

  -- The text does not end inside a character.
  module _ (i : ℕ) (h : i < length s) where
    goes_one : 0xC0 ≤ at i → i + 1 < length s
    goes_one g = go (leb (i + 2) (length s)) refl
      where
        go : (x : Bool) → leb (i + 2) (length s) ≡ x → i + 1 < length s
        go true q = let z = leb-true (i + 2) (length s) q in omega arith
        go false q =
            let z = leb-false (i + 2) (length s) q in
            let last : length s - 1 ≡ i = omega arith in
            let d = subst (λ (m : ℕ). at m < 0xC0) last e1 in
            absurd (omega (arith, d, g))

    goes-two : 0xE0 ≤ at i → i + 2 < length s
    goes-two g = go (leb (i + 3) (length s)) refl
      where
        go : (x : Bool) → leb (i + 3) (length s) ≡ x → i + 2 < length s
        go true q = let z = leb-true (i + 3) (length s) q in omega arith
        go false q =
            let z = leb-false (i + 3) (length s) q in
            let more = goes_one (omega (arith, g)) in
            let last : length s - 2 ≡ i = omega arith in
            let d = subst (λ (m : ℕ). at m < 0xE0) last e2 in
            absurd (omega (arith, d, g))

    goes-three : 0xF0 ≤ at i → i + 2 + 1 < length s
    goes-three g = go (leb (i + 4) (length s)) refl
      where
        go : (x : Bool) → leb (i + 4) (length s) ≡ x → i + 2 + 1 < length s
        go true q = let z = leb-true (i + 4) (length s) q in omega arith
        go false q =
            let z = leb-false (i + 4) (length s) q in
            let more = goes-two (omega (arith, g)) in
            let last : length s - 3 ≡ i = omega arith in
            let d = subst (λ (m : ℕ). at m < 0xF0) last e3 in
            absurd (omega (arith, d, g))

  -- The character at an offset at which no byte is asked for; behind it none is either.
  record Step (i : ℕ) : Type 0 where
    width : ℕ
    is : char_at (drop i s) ≡ width
    some : 0 < width
    within : i + width ≤ length s
    free : Free (i + width)

  module _ (i : ℕ) (l : 3 ≤ i) (h : i < length s) (p : Free i) where
    step-one : at i < 0x80 → Step i
    step-one g =
        let e3 : i + 1 - 3 ≡ i - 2 = omega arith in
        let e2 : i + 1 - 2 ≡ i - 1 = omega arith in
        let e1 : i + 1 - 1 ≡ i = omega arith in
        record {
          width = 1;
          is = ap char_at (first_byte s i h) ∙ ascii_char (at i) (drop (i + 1) s) g;
          some = omega arith;
          within = omega arith;
          free = (rw e3 (omega (arith, p.1)), rw e2 (omega (arith, p.2)), rw e1 (omega (arith, g)));
        }

    step-two : 0xC2 ≤ at i → at i ≤ 0xDF → Step i
    unfolding well_formed under
    step-two g k =
        let m = goes_one i h (omega (arith, g)) in
        let b = behind-one i l m (omega (arith, g)) in
        let e3 : i + 2 - 3 ≡ i - 1 = omega arith in
        let e2 : i + 2 - 2 ≡ i = omega arith in
        let e1 : i + 2 - 1 ≡ i + 1 = omega arith in
        record {
          width = 2;
          is = ap char_at (first_two s i m)
              ∙ char-two 1 0xC2 0xDF 0x80 0xBF refl (drop (i + 2) s) (at i) (at (i + 1)) g k b.0 b.1 refl;
          some = omega arith;
          within = omega (arith, m);
          free = (rw e3 (omega (arith, p.2)), rw e2 (omega (arith, k)), rw e1 (omega (arith, b.1)));
        }

    module _ (g : 0xE0 ≤ at i) (k : at i ≤ 0xEF) where
      step-three : char_at (drop i s) ≡ 3 → Step i
      step-three e =
          let m = goes-two i h g in
          let b = behind-one i l (omega (arith, m)) (omega (arith, g)) in
          let c = behind-two i l m g in
          let e3 : i + 3 - 3 ≡ i = omega arith in
          let e2 : i + 3 - 2 ≡ i + 1 = omega arith in
          let e1 : i + 3 - 1 ≡ i + 2 = omega arith in
          record {
            width = 3;
            is = e;
            some = omega arith;
            within = omega (arith, m);
            free = (rw e3 (omega (arith, k)), rw e2 (omega (arith, b.1)), rw e1 (omega (arith, c.1)));
          }

      three-row : (row lo hi lo' hi' : ℕ) → under lo (take row well_formed) ≡ true → lo ≤ at i → at i ≤ hi → lo' ≤ at (i + 1) → at (i + 1) ≤ hi'
          → well_formed ≡ take row well_formed ++ (lo ‥ hi ∷ lo' ‥ hi' ∷ continuation ∷ []) ∷ drop (suc row) well_formed → Step i
      three-row row lo hi lo' hi' u x x' y y' e =
          let m = goes-two i h g in
          let c = behind-two i l m g in
          step-three
          (ap char_at (first_three s i m)
          ∙ char-three row lo hi lo' hi' u (drop (i + 2 + 1) s) (at i) (at (i + 1)) x x' y y' (at (i + 2)) c.0 c.1 e)

      threes : Step i
      unfolding well_formed under
      threes = go (eqb (at i) 0xE0) refl (eqb (at i) 0xED) refl (leb (at i) 0xEC) refl
        where
          m : i + 1 < length s
          m = let z = goes-two i h g in omega (arith, z)

          b : Inside (at (i + 1))
          b = behind-one i l m (omega (arith, g))

          go : (x : Bool) → eqb (at i) 0xE0 ≡ x → (y : Bool) → eqb (at i) 0xED ≡ y → (z : Bool) → leb (at i) 0xEC ≡ z → Step i
          go true q y r z t =
              let e = eqb-true (at i) 0xE0 q in
              let o = (behind i l m e).overlong_three (same-lead i l m e) b.0 in
              three-row 2 0xE0 0xE0 0xA0 0xBF refl (omega (arith, e)) (omega (arith, e)) o b.1 refl
          go false q true r z t =
              let e = eqb-true (at i) 0xED r in
              let o = (behind i l m e).surrogate (same-lead i l m e) in
              three-row 4 0xED 0xED 0x80 0x9F refl (omega (arith, e)) (omega (arith, e)) b.0 o refl
          go false q false r true t =
              let n = eqb-false (at i) 0xE0 q in
              let v = leb-true (at i) 0xEC t in
              three-row 3 0xE1 0xEC 0x80 0xBF refl (omega (arith, n, g)) v b.0 b.1 refl
          go false q false r false t =
              let n = eqb-false (at i) 0xED r in
              let v = leb-false (at i) 0xEC t in
              three-row 5 0xEE 0xEF 0x80 0xBF refl (omega (arith, n, v)) k b.0 b.1 refl

    module _ (g : 0xF0 ≤ at i) (k : at i ≤ 0xF3) where
      four-row : (row lo hi lo' hi' : ℕ) → under lo (take row well_formed) ≡ true → lo ≤ at i → at i ≤ hi → lo' ≤ at (i + 1) → at (i + 1) ≤ hi'
          → well_formed ≡ take row well_formed ++ (lo ‥ hi ∷ lo' ‥ hi' ∷ continuation ∷ continuation ∷ []) ∷ drop (suc row) well_formed → Step i
      four-row row lo hi lo' hi' u x x' y y' e =
          let m = goes-three i h g in
          let b = behind-one i l (omega (arith, m)) (omega (arith, g)) in
          let c = behind-two i l (omega (arith, m)) (omega (arith, g)) in
          let d = behind-three i l m g in
          let e3 : i + 4 - 3 ≡ i + 1 = omega arith in
          let e2 : i + 4 - 2 ≡ i + 2 = omega arith in
          let e1 : i + 4 - 1 ≡ i + 2 + 1 = omega arith in
          record {
            width = 4;
            is = ap char_at
                (first_three s i (omega (arith, m)) ∙ ap (λ (t : List ℕ). at i ∷ at (i + 1) ∷ at (i + 2) ∷ t) (first_byte s (i + 2 + 1) m))
                ∙ char-four row lo hi lo' hi' u (drop (i + 2 + 1 + 1) s) (at i) (at (i + 1)) x x' y y' (at (i + 2)) c.0 c.1 (at (i + 2 + 1)) d.0 d.1 e;
            some = omega arith;
            within = omega (arith, m);
            free = (rw e3 (omega (arith, b.1)), rw e2 (omega (arith, c.1)), rw e1 (omega (arith, d.1)));
          }

      fours : Step i
      unfolding well_formed under
      fours = go (eqb (at i) 0xF0) refl
        where
          m : i + 1 < length s
          m = let z = goes-three i h g in omega (arith, z)

          b : Inside (at (i + 1))
          b = behind-one i l m (omega (arith, g))

          go : (x : Bool) → eqb (at i) 0xF0 ≡ x → Step i
          go true q =
              let e = eqb-true (at i) 0xF0 q in
              let o = (behind i l m e).overlong_four (same-lead i l m e) b.0 in
              four-row 6 0xF0 0xF0 0x90 0xBF refl (omega (arith, e)) (omega (arith, e)) o b.1 refl
          go false q =
              let n = eqb-false (at i) 0xF0 q in
              four-row 7 0xF1 0xF3 0x80 0xBF refl (omega (arith, n, g)) k b.0 b.1 refl

    step : Step i
    step = go (leb (at i) 0x7F) refl (leb (at i) 0xDF) refl (leb (at i) 0xEF) refl
      where
        go : (x : Bool) → leb (at i) 0x7F ≡ x → (y : Bool) → leb (at i) 0xDF ≡ y → (z : Bool) → leb (at i) 0xEF ≡ z → Step i
        go true q y r z t = let v = leb-true (at i) 0x7F q in step-one (omega (arith, v))
        go false q true r z t =
            let v = leb-false (at i) 0x7F q in
            step-two ((f i l h).overlong_two ((f i l h).asked.none_asks p.0 p.1 p.2 (omega (arith, v)))) (leb-true (at i) 0xDF r)
        go false q false r true t = let v = leb-false (at i) 0xDF r in threes (omega (arith, v)) (leb-true (at i) 0xEF t)
        go false q false r false t = let v = leb-false (at i) 0xEF t in fours (omega (arith, v)) (known i h)

  whole_from : (n i : ℕ) → length s ≤ i + n → 3 ≤ i → i ≤ length s → Free i → broken_from 0 i (drop i s) ≡ None
  whole_from zero i l h m p = broken-none s i (omega arith)
  whole_from (suc n) i l h m p = go (leb (length s) i) refl (λ j a b c d. whole_from n j a b c d)
    where
      go : (x : Bool) → leb (length s) i ≡ x → ((j : ℕ) → length s ≤ j + n → 3 ≤ j → j ≤ length s → Free j → broken_from 0 j (drop j s) ≡ None) → broken_from 0 i (drop i s) ≡ None
      go true q ih = broken-none s i (leb-true (length s) i q)
      go false q ih =
          let v = leb-false (length s) i q in
          let t = step i h v p in
          broken-more s i v t.width (sym t.is) (λ z. absurd (omega (arith, z, t.some)))
          ∙ ih (i + t.width) (omega (arith, t.some)) (omega arith) t.within t.free

  -- The first three bytes are ASCII.
  module _ (n : 3 ≤ length s) (a : (i : ℕ) → i < 3 → at i < 0x80) where
    first_step : (i : ℕ) → i < 3 → broken_from 0 i (drop i s) ≡ broken_from 0 (i + 1) (drop (i + 1) s)
    first_step i h =
        broken-more s i (omega (arith, h)) 1 (sym (ap char_at (first_byte s i (omega (arith, h))) ∙ ascii_char (at i) (drop (i + 1) s) (a i h))) (λ z. absurd (omega (arith, z)))

    pub follows-whole : first_broken s ≡ None
    unfolding first_broken
    follows-whole =
        let x = a 0 (omega arith) in
        let y = a 1 (omega arith) in
        let z = a 2 (omega arith) in
        first_step 0 (omega arith)
        ∙ first_step 1 (omega arith)
        ∙ first_step 2 (omega arith)
        ∙ whole_from (length s) 3 (omega arith) (omega arith) n (omega (arith, x), omega (arith, y), omega (arith, z))

-- None of the first three bytes exceeds one below 128.
pub first-narrow : (s : List ℕ) (r : ℕ) → 3 ≤ length s → ((i : ℕ) → i < length (take 3 s) → get_or (take 3 s) i 0 ≤ r) → r < 128 → (i : ℕ) → i < 3 → get_or s i 0 < 0x80
first-narrow s r n g h i l =
    let p = g i (rw (length-take-le 3 s n) l) in
    omega (arith, p, get_or-take 3 s i 0 l)
