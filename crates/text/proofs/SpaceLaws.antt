-- White space as words of one, two and three bytes, read forwards and backwards. Assumes nothing.
use Prim.Native.Nat.{ℕ, suc, ◌+◌, ◌-◌, ◌≤◌, ◌<◌}
use native.Mathlib.Numerals.{add-one}
use native.Mathlib.Omega.{arith}
use mathlib.Core.Path.{◌≡◌, refl, sym, ap, ap₂, ◌∙◌}
use mathlib.Core.Bool.{Bool, true, false, ◌&&◌, ◌||◌, and-true, or-false, false≢true}
use mathlib.Core.List.{List, [], ◌∷◌, ◌++◌, map, reverse, reverse-append, reverse-reverse}
use lib.Dec.{eqb}
use lib.ListN.{length, get_or, take, drop, drop_of_length-le, length-reverse}
use lib.Seq.{drop-cons, take-suc, take-length}
use borrow.Author.Tests.{eq-eqb, ne_eqb, eqb-true}
use Rattle.text.specs.Utf8.{encode}
use Rattle.text.specs.Bytes.{between, is_space, white_space_codes, white_space, starts_with, leading, same_bytes}
use Rattle.text.specs.Promises.Bytes.{is_among}
use Rattle.text.proofs.Computed.{and_left, and_right, all_below, same, agree}
use Rattle.text.proofs.Laws.{same_true, same_refl, same_lengths, starts-within}

-- ---- words of one length
unfoldable pub uniform : ℕ → List (List ℕ) → Bool
uniform n [] = true
uniform n (w ∷ ws) = eqb (length w) n && uniform n ws

abbrev pub Uniform : ℕ → List (List ℕ) → Type 0
Uniform n ws = uniform n ws ≡ true

first-long : (n : ℕ) (w : List ℕ) (ws : List (List ℕ)) → Uniform n (w ∷ ws) → length w ≡ n
unfolding uniform
first-long n w ws p = eqb-true (length w) n (and_left (eqb (length w) n) (uniform n ws) p)

rest_long : (n : ℕ) (w : List ℕ) (ws : List (List ℕ)) → Uniform n (w ∷ ws) → Uniform n ws
unfolding uniform
rest_long n w ws p = and_right (eqb (length w) n) (uniform n ws) p

starts-same : (w u t : List ℕ) → length w ≡ length u → starts_with w (u ++ t) ≡ same_bytes u w
unfolding starts_with same_bytes
starts-same [] [] t e = refl
starts-same [] (b ∷ u) t e = absurd (omega arith)
starts-same (c ∷ w) [] t e = absurd (omega arith)
starts-same (c ∷ w) (b ∷ u) t e = let l : length w ≡ length u = omega arith in ap (λ (x : Bool). eqb b c && x) (starts-same w u t l)

starts-short : (w t : List ℕ) → length t < length w → starts_with w t ≡ false
starts-short w t h = go (starts_with w t) refl
  where
    go : (x : Bool) → starts_with w t ≡ x → x ≡ false
    go true e = absurd (omega (arith, starts-within w t e))
    go false e = refl

or_parts : (a b : Bool) → (a || b) ≡ false → (a ≡ false) × (b ≡ false)
or_parts true b h = absurd (false≢true (sym h))
or_parts false b h = (refl, h)

lead_no : (n : ℕ) (us vs : List (List ℕ)) (u t : List ℕ) → Uniform n us → length u ≡ n → is_among us u ≡ false → leading (us ++ vs) (u ++ t) ≡ leading vs (u ++ t)
unfolding leading is_among
lead_no n [] vs u t p l e = refl
lead_no n (w ∷ us) vs u t p l e =
    let f = or_parts (same_bytes u w) (is_among us u) e in
    rw (leading, starts-same w u t (first-long n w us p ∙ sym l), f.0) (lead_no n us vs u t (rest_long n w us p) l f.1)

lead_yes : (n : ℕ) (us vs : List (List ℕ)) (u t : List ℕ) → Uniform n us → length u ≡ n → is_among us u ≡ true → leading (us ++ vs) (u ++ t) ≡ n
unfolding leading is_among
lead_yes n [] vs u t p l e = absurd (false≢true e)
lead_yes n (w ∷ us) vs u t p l e = rw (leading, starts-same w u t (first-long n w us p ∙ sym l)) (go (same_bytes u w) e (lead_yes n us vs u t (rest_long n w us p) l))
  where
    go : (x : Bool) → (x || is_among us u) ≡ true → (is_among us u ≡ true → leading (us ++ vs) (u ++ t) ≡ n)
        → elim x as (λ z. ℕ) [ true ↦ length w | false ↦ leading (us ++ vs) (u ++ t) ] ≡ n
    go true f ih = first-long n w us p
    go false f ih = ih f

lead_short : (n : ℕ) (us vs : List (List ℕ)) (t : List ℕ) → Uniform n us → length t < n → leading (us ++ vs) t ≡ leading vs t
unfolding leading
lead_short n [] vs t p l = refl
lead_short n (w ∷ us) vs t p l = rw (leading, starts-short w t (omega (arith, first-long n w us p))) (lead_short n us vs t (rest_long n w us p) l)

among_other : (n : ℕ) (us vs : List (List ℕ)) (u : List ℕ) → Uniform n us → (length u ≡ n → ⊥) → is_among (us ++ vs) u ≡ is_among vs u
unfolding is_among
among_other n [] vs u p l = refl
among_other n (w ∷ us) vs u p l = rw (same_lengths u w (λ e. l (e ∙ first-long n w us p))) (among_other n us vs u (rest_long n w us p) l)

-- ---- backwards
same_reverse : (u w : List ℕ) → same_bytes (reverse u) (reverse w) ≡ same_bytes u w
same_reverse u w = go (same_bytes u w) refl (same_bytes (reverse u) (reverse w)) refl
  where
    go : (x : Bool) → same_bytes u w ≡ x → (y : Bool) → same_bytes (reverse u) (reverse w) ≡ y → y ≡ x
    go true e true f = refl
    go false e false f = refl
    go true e false f = absurd (false≢true (sym f ∙ ap (λ (v : List ℕ). same_bytes (reverse v) (reverse w)) (same_true u w e) ∙ same_refl (reverse w)))
    go false e true f =
        let g : u ≡ w = sym (reverse-reverse u) ∙ ap reverse (same_true (reverse u) (reverse w) f) ∙ reverse-reverse w in
        absurd (false≢true (sym e ∙ ap (λ (v : List ℕ). same_bytes v w) g ∙ same_refl w))

pub among_reverse : (ws : List (List ℕ)) (u : List ℕ) → is_among (map reverse ws) (reverse u) ≡ is_among ws u
unfolding is_among
among_reverse [] u = refl
among_reverse (w ∷ ws) u = ap₂ (λ (x y : Bool). x || y) (same_reverse u w) (among_reverse ws u)

pub uniform_reverse : (n : ℕ) (ws : List (List ℕ)) → Uniform n ws → Uniform n (map reverse ws)
unfolding uniform
uniform_reverse n [] p = refl
uniform_reverse n (w ∷ ws) p = rw (length-reverse w, eq-eqb (length w) n (first-long n w ws p)) (uniform_reverse n ws (rest_long n w ws p))

-- ---- white space
abbrev pub singles : List (List ℕ)
singles = (9 ∷ []) ∷ (10 ∷ []) ∷ (11 ∷ []) ∷ (12 ∷ []) ∷ (13 ∷ []) ∷ (32 ∷ []) ∷ []

abbrev pub pairs : List (List ℕ)
pairs = (0xC2 ∷ 0x85 ∷ []) ∷ (0xC2 ∷ 0xA0 ∷ []) ∷ []

abbrev pub triples : List (List ℕ)
triples =
    (0xE1 ∷ 0x9A ∷ 0x80 ∷ [])
    ∷ (0xE2 ∷ 0x80 ∷ 0x80 ∷ [])
    ∷ (0xE2 ∷ 0x80 ∷ 0x81 ∷ [])
    ∷ (0xE2 ∷ 0x80 ∷ 0x82 ∷ [])
    ∷ (0xE2 ∷ 0x80 ∷ 0x83 ∷ [])
    ∷ (0xE2 ∷ 0x80 ∷ 0x84 ∷ [])
    ∷ (0xE2 ∷ 0x80 ∷ 0x85 ∷ [])
    ∷ (0xE2 ∷ 0x80 ∷ 0x86 ∷ [])
    ∷ (0xE2 ∷ 0x80 ∷ 0x87 ∷ [])
    ∷ (0xE2 ∷ 0x80 ∷ 0x88 ∷ [])
    ∷ (0xE2 ∷ 0x80 ∷ 0x89 ∷ [])
    ∷ (0xE2 ∷ 0x80 ∷ 0x8A ∷ [])
    ∷ (0xE2 ∷ 0x80 ∷ 0xA8 ∷ [])
    ∷ (0xE2 ∷ 0x80 ∷ 0xA9 ∷ [])
    ∷ (0xE2 ∷ 0x80 ∷ 0xAF ∷ [])
    ∷ (0xE2 ∷ 0x81 ∷ 0x9F ∷ [])
    ∷ (0xE3 ∷ 0x80 ∷ 0x80 ∷ [])
    ∷ []

-- The words of white_space, by their lengths.
words_are : white_space ≡ singles ++ (pairs ++ (triples ++ []))
unfolding white_space white_space_codes encode
words_are = refl

backwards_are : map reverse white_space ≡ singles ++ (map reverse pairs ++ (map reverse triples ++ []))
unfolding white_space white_space_codes encode
backwards_are = refl

one_byte : Uniform 1 singles
unfolding uniform
one_byte = refl

pub two_bytes : Uniform 2 pairs
unfolding uniform
two_bytes = refl

pub three-bytes : Uniform 3 triples
unfolding uniform
three-bytes = refl

space_is : (a : ℕ) → a < 256 → is_space a ≡ is_among singles (a ∷ [])
unfolding is_space between is_among same_bytes all_below same
space_is a h = agree 256 is_space (λ a. is_among singles (a ∷ [])) refl a h

pub pairs_are : (a b : ℕ) → is_among white_space (a ∷ b ∷ []) ≡ is_among pairs (a ∷ b ∷ [])
unfolding is_among
pairs_are a b =
    ap (λ (ws : List (List ℕ)). is_among ws (a ∷ b ∷ [])) words_are
    ∙ among_other 1 singles (pairs ++ (triples ++ [])) (a ∷ b ∷ []) one_byte (λ e. omega (arith, e))
    ∙ ap (λ (x : Bool). same_bytes (a ∷ b ∷ []) (0xC2 ∷ 0x85 ∷ []) || (same_bytes (a ∷ b ∷ []) (0xC2 ∷ 0xA0 ∷ []) || x))
    (among_other 3 triples [] (a ∷ b ∷ []) three-bytes (λ e. omega (arith, e)))

pub triples_are : (a b c : ℕ) → is_among white_space (a ∷ b ∷ c ∷ []) ≡ is_among triples (a ∷ b ∷ c ∷ [])
triples_are a b c =
    ap (λ (ws : List (List ℕ)). is_among ws (a ∷ b ∷ c ∷ [])) words_are
    ∙ among_other 1 singles (pairs ++ (triples ++ [])) (a ∷ b ∷ c ∷ []) one_byte (λ e. omega (arith, e))
    ∙ among_other 2 pairs (triples ++ []) (a ∷ b ∷ c ∷ []) two_bytes (λ e. omega (arith, e))

-- A conjunction by its first test.
pub and_yes : {x y : Bool} (b n : ℕ) → x ≡ (eqb b n && y) → b ≡ n → y ≡ x
and_yes b n e f = rw (e, eq-eqb b n f)

pub and_no : {x : Bool} (y : Bool) (b n : ℕ) → x ≡ (eqb b n && y) → (b ≡ n → ⊥) → eqb b n ≡ x
and_no y b n e f = rw (e, ne_eqb b n f)

-- ---- which bytes are white space
module _ (b : ℕ) where
  pub pair-c2 : is_among white_space (0xC2 ∷ b ∷ []) ≡ (eqb b 0x85 || eqb b 0xA0)
  unfolding is_among same_bytes
  pair-c2 = pairs_are 0xC2 b ∙ ap₂ (λ (x y : Bool). x || y) (and-true (eqb b 0x85)) (or-false (eqb b 0xA0 && true) ∙ and-true (eqb b 0xA0))

  pub pair-other : (a : ℕ) → (a ≡ 0xC2 → ⊥) → is_among white_space (a ∷ b ∷ []) ≡ false
  unfolding is_among same_bytes
  pair-other a h = pairs_are a b ∙ rw (ne_eqb a 0xC2 h)

pub behind-80 : (c : ℕ) → c < 256 → (between 0x80 0x8A c || (between 0xA8 0xA9 c || eqb c 0xAF)) ≡ is_among white_space (0xE2 ∷ 0x80 ∷ c ∷ [])
unfolding between is_among same_bytes all_below same
behind-80 c h =
    agree 256 (λ c. between 0x80 0x8A c || (between 0xA8 0xA9 c || eqb c 0xAF)) (λ c. is_among triples (0xE2 ∷ 0x80 ∷ c ∷ [])) refl c h
    ∙ sym (triples_are 0xE2 0x80 c)

module _ (b c : ℕ) where
  behind-lead : (x y : Bool) → ((x && (y && true)) || false) ≡ (x && y)
  behind-lead true true = refl
  behind-lead true false = refl
  behind-lead false y = refl

  pub triple-e1 : is_among white_space (0xE1 ∷ b ∷ c ∷ []) ≡ (eqb b 0x9A && eqb c 0x80)
  unfolding is_among same_bytes
  triple-e1 = triples_are 0xE1 b c ∙ behind-lead (eqb b 0x9A) (eqb c 0x80)

  pub triple-e2 : (b ≡ 0x80 → ⊥) → is_among white_space (0xE2 ∷ b ∷ c ∷ []) ≡ (eqb b 0x81 && eqb c 0x9F)
  unfolding is_among same_bytes
  triple-e2 h = triples_are 0xE2 b c ∙ rw (ne_eqb b 0x80 h) (behind-lead (eqb b 0x81) (eqb c 0x9F))

  pub triple-e3 : is_among white_space (0xE3 ∷ b ∷ c ∷ []) ≡ (eqb b 0x80 && eqb c 0x80)
  unfolding is_among same_bytes
  triple-e3 = triples_are 0xE3 b c ∙ behind-lead (eqb b 0x80) (eqb c 0x80)

  pub triple-other : (a : ℕ) → (a ≡ 0xE1 → ⊥) → (a ≡ 0xE2 → ⊥) → (a ≡ 0xE3 → ⊥) → is_among white_space (a ∷ b ∷ c ∷ []) ≡ false
  unfolding is_among same_bytes
  triple-other a g h i = triples_are a b c ∙ rw (ne_eqb a 0xE1 g, ne_eqb a 0xE2 h, ne_eqb a 0xE3 i)

-- ---- the white space that a text starts with, by its first bytes
-- The words of one, two and three bytes, read in one of the two directions.
pub record Words : Type 0 where
  pub turn : List ℕ → List ℕ
  pub ps : List (List ℕ)
  pub ts : List (List ℕ)
  pub two : Uniform 2 ps
  pub three : Uniform 3 ts
  pub pair_is : (a b : ℕ) → is_among ps (a ∷ b ∷ []) ≡ is_among white_space (turn (a ∷ b ∷ []))
  pub triple-is : (a b c : ℕ) → is_among ts (a ∷ b ∷ c ∷ []) ≡ is_among white_space (turn (a ∷ b ∷ c ∷ []))

abbrev pub forwards : Words
forwards =
    record {
      turn = λ u. u;
      ps = pairs;
      ts = triples;
      two = two_bytes;
      three = three-bytes;
      pair_is = λ a b. sym (pairs_are a b);
      triple-is = λ a b c. sym (triples_are a b c);
    }

abbrev pub backwards : Words
backwards =
    record {
      turn = reverse;
      ps = map reverse pairs;
      ts = map reverse triples;
      two = uniform_reverse 2 pairs two_bytes;
      three = uniform_reverse 3 triples three-bytes;
      pair_is = λ a b. among_reverse pairs (b ∷ a ∷ []) ∙ sym (pairs_are b a);
      triple-is = λ a b c. among_reverse triples (c ∷ b ∷ a ∷ []) ∙ sym (triples_are c b a);
    }

module _ (d : Words) where
  abbrev pub words : List (List ℕ)
  words = singles ++ (d.ps ++ (d.ts ++ []))

  pub lead-one : {x : List ℕ} (a : ℕ) (t : List ℕ) → x ≡ a ∷ t → a < 256 → is_space a ≡ true → leading words x ≡ 1
  lead-one a t v h e = ap (leading words) v ∙ lead_yes 1 singles (d.ps ++ (d.ts ++ [])) (a ∷ []) t one_byte refl (sym (space_is a h) ∙ e)

  module _ {x : List ℕ} (a : ℕ) (h : a < 256) (e : is_space a ≡ false) where
    not-one : (t : List ℕ) → x ≡ a ∷ t → leading words x ≡ leading (d.ps ++ (d.ts ++ [])) (a ∷ t)
    not-one t v = ap (leading words) v ∙ lead_no 1 singles (d.ps ++ (d.ts ++ [])) (a ∷ []) t one_byte refl (sym (space_is a h) ∙ e)

    pub lead-one-end : x ≡ a ∷ [] → leading words x ≡ 0
    unfolding leading
    lead-one-end v =
        not-one [] v ∙ lead_short 2 d.ps (d.ts ++ []) (a ∷ []) d.two (omega arith) ∙ lead_short 3 d.ts [] (a ∷ []) d.three (omega arith)

    module _ (b : ℕ) where
      pub lead-two : (t : List ℕ) → x ≡ a ∷ b ∷ t → is_among white_space (d.turn (a ∷ b ∷ [])) ≡ true → leading words x ≡ 2
      lead-two t v f = not-one (b ∷ t) v ∙ lead_yes 2 d.ps (d.ts ++ []) (a ∷ b ∷ []) t d.two refl (d.pair_is a b ∙ f)

      module _ (f : is_among white_space (d.turn (a ∷ b ∷ [])) ≡ false) where
        not-two : (t : List ℕ) → x ≡ a ∷ b ∷ t → leading words x ≡ leading (d.ts ++ []) (a ∷ b ∷ t)
        not-two t v = not-one (b ∷ t) v ∙ lead_no 2 d.ps (d.ts ++ []) (a ∷ b ∷ []) t d.two refl (d.pair_is a b ∙ f)

        pub lead-two-end : x ≡ a ∷ b ∷ [] → leading words x ≡ 0
        unfolding leading
        lead-two-end v = not-two [] v ∙ lead_short 3 d.ts [] (a ∷ b ∷ []) d.three (omega arith)

        module _ (c : ℕ) (t : List ℕ) (v : x ≡ a ∷ b ∷ c ∷ t) where
          pub lead-three : is_among white_space (d.turn (a ∷ b ∷ c ∷ [])) ≡ true → leading words x ≡ 3
          lead-three g = not-two (c ∷ t) v ∙ lead_yes 3 d.ts [] (a ∷ b ∷ c ∷ []) t d.three refl (d.triple-is a b c ∙ g)

          pub lead-none : is_among white_space (d.turn (a ∷ b ∷ c ∷ [])) ≡ false → leading words x ≡ 0
          unfolding leading
          lead-none g = not-two (c ∷ t) v ∙ lead_no 3 d.ts [] (a ∷ b ∷ c ∷ []) t d.three refl (d.triple-is a b c ∙ g)

-- ---- the bytes at an offset, and those before it
module _ (s : List ℕ) (at : ℕ) where
  pub first_byte : at < length s → drop at s ≡ get_or s at 0 ∷ drop (at + 1) s
  first_byte h = drop-cons s at 0 h ∙ ap (λ (i : ℕ). get_or s at 0 ∷ drop i s) (sym (add-one at))

  pub first-last : at < length s → length s ≤ at + 1 → drop at s ≡ get_or s at 0 ∷ []
  first-last h l = first_byte h ∙ ap (λ (u : List ℕ). get_or s at 0 ∷ u) (drop_of_length-le s l)

module _ (s : List ℕ) (at : ℕ) where
  pub first_two : at + 1 < length s → drop at s ≡ get_or s at 0 ∷ get_or s (at + 1) 0 ∷ drop (at + 2) s
  first_two h =
      let sum : at + 1 + 1 ≡ at + 2 = omega arith in
      first_byte s at (omega arith)
      ∙ ap (λ (u : List ℕ). get_or s at 0 ∷ u) (first_byte s (at + 1) h ∙ ap (λ (i : ℕ). get_or s (at + 1) 0 ∷ drop i s) sum)

  pub two-last : at + 1 < length s → length s ≤ at + 2 → drop at s ≡ get_or s at 0 ∷ get_or s (at + 1) 0 ∷ []
  two-last h l = first_two h ∙ ap (λ (u : List ℕ). get_or s at 0 ∷ get_or s (at + 1) 0 ∷ u) (drop_of_length-le s l)

  pub first_three : at + 2 < length s → drop at s ≡ get_or s at 0 ∷ get_or s (at + 1) 0 ∷ get_or s (at + 2) 0 ∷ drop (at + 2 + 1) s
  first_three h = first_two (omega arith) ∙ ap (λ (u : List ℕ). get_or s at 0 ∷ get_or s (at + 1) 0 ∷ u) (first_byte s (at + 2) h)

-- The text before an offset, read backwards.
last_byte : (s : List ℕ) (k : ℕ) → k < length s → reverse (take (suc k) s) ≡ get_or s k 0 ∷ reverse (take k s)
last_byte s k h = ap reverse (take-suc s k 0 h) ∙ reverse-append (take k s) (get_or s k 0 ∷ [])

pub whole : (s : List ℕ) → reverse s ≡ reverse (take (length s) s)
whole s = ap reverse (sym (take-length s))

module _ (s : List ℕ) (end : ℕ) (l : end ≤ length s) where
  pub last_one : 0 < end → reverse (take end s) ≡ get_or s (end - 1) 0 ∷ reverse (take (end - 1) s)
  last_one h =
      let e : end ≡ suc (end - 1) = omega arith in
      ap (λ (i : ℕ). reverse (take i s)) e ∙ last_byte s (end - 1) (omega arith)

  pub last-alone : 0 < end → end < 2 → reverse (take end s) ≡ get_or s (end - 1) 0 ∷ []
  last-alone h k =
      let e : end - 1 ≡ 0 = omega arith in
      last_one h ∙ ap (λ (i : ℕ). get_or s (end - 1) 0 ∷ reverse (take i s)) e

  pub last-two : 1 < end → reverse (take end s) ≡ get_or s (end - 1) 0 ∷ get_or s (end - 2) 0 ∷ reverse (take (end - 2) s)
  last-two h =
      let e : end - 1 ≡ suc (end - 2) = omega arith in
      last_one (omega arith)
      ∙ ap (λ (u : List ℕ). get_or s (end - 1) 0 ∷ u) (ap (λ (i : ℕ). reverse (take i s)) e ∙ last_byte s (end - 2) (omega arith))

  pub last-pair : 1 < end → end < 3 → reverse (take end s) ≡ get_or s (end - 1) 0 ∷ get_or s (end - 2) 0 ∷ []
  last-pair h k =
      let e : end - 2 ≡ 0 = omega arith in
      last-two h ∙ ap (λ (i : ℕ). get_or s (end - 1) 0 ∷ get_or s (end - 2) 0 ∷ reverse (take i s)) e

  pub last-three : 2 < end → reverse (take end s) ≡ get_or s (end - 1) 0 ∷ get_or s (end - 2) 0 ∷ get_or s (end - 3) 0 ∷ reverse (take (end - 3) s)
  last-three h =
      let e : end - 2 ≡ suc (end - 3) = omega arith in
      last-two (omega arith)
      ∙ ap (λ (u : List ℕ). get_or s (end - 1) 0 ∷ get_or s (end - 2) 0 ∷ u) (ap (λ (i : ℕ). reverse (take i s)) e ∙ last_byte s (end - 3) (omega arith))

pub past : (s : List ℕ) (at : ℕ) → length s ≤ at → 0 ≡ leading white_space (drop at s)
unfolding leading starts_with white_space white_space_codes encode
past s at h = rw (drop_of_length-le s h)

pub nothing_before : (s : List ℕ) → length s < 1 → 0 ≡ leading (map reverse white_space) (reverse s)
unfolding leading starts_with white_space white_space_codes encode
nothing_before [] h = refl
nothing_before (b ∷ s) h = absurd (omega (arith, h))
