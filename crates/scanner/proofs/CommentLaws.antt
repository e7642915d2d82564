-- Laws of the longest comment: what two bytes mean, and the depth. Assumes nothing.
use Prim.Native.Nat.{ℕ, suc, ◌+◌, ◌-◌, ◌≤◌, ◌<◌}
use native.Mathlib.Omega.{arith}
use native.Mathlib.Numerals.{add-one}
use mathlib.Core.Path.{◌≡◌, refl, sym, ap, ap₂, ◌∙◌}
use mathlib.Core.Bool.{Bool, true, false, ◌&&◌}
use mathlib.Core.List.{List, [], ◌∷◌}
use Rattle.std.specs.Prelude.{None, Some}
use lib.Dec.{leb, eqb}
use lib.ListN.{length, get_or, drop, drop_of_length-le}
use lib.Seq.{drop-cons}
use borrow.Author.Tests.{eq-eqb, ne_eqb, leb-true, leb-false}
use Rattle.scanner.specs.Lexical.{closes}
use Rattle.scanner.specs.Promises.Reach.{longer, reach}
use Rattle.scanner.proofs.ReachLaws.{longer-longer, empty, onward, reach-nil, reach-first, reach_step, reach_here}

-- What closes this many comments.
abbrev closing : ℕ → List ℕ → Bool
closing depth t = closes t depth

-- ---- a step

module _ (depth b c : ℕ) (t : List ℕ) where
  -- What stands behind the first mark closes, by whether it opens and whether it closes.
  stepped : Bool → Bool → Bool
  stepped true y = closes t (suc (suc depth))
  stepped false true = closes t depth
  stepped false false = closes (c ∷ t) (suc depth)

  closes-step : closes (b ∷ c ∷ t) (suc depth) ≡ stepped (eqb b 40 && eqb c 42) (eqb b 42 && eqb c 41)
  unfolding closes stepped
  closes-step = go (eqb b 40 && eqb c 42) (eqb b 42 && eqb c 41)
    where
      go : (x y : Bool) → ◌≡◌ {A = Bool} (elim x as (λ z. Bool) [ true ↦ closes t (suc (suc depth)) | false ↦ elim y as (λ z. Bool) [ true ↦ closes t depth | false ↦ closes (c ∷ t) (suc depth) ] ]) (stepped x y)
      go true y = refl
      go false true = refl
      go false false = refl

  step-opens : (eqb b 40 && eqb c 42) ≡ true → closes (b ∷ c ∷ t) (suc depth) ≡ closes t (suc (suc depth))
  unfolding stepped
  step-opens e = closes-step ∙ ap (λ (x : Bool). stepped x (eqb b 42 && eqb c 41)) e

  step-closes : (eqb b 40 && eqb c 42) ≡ false → (eqb b 42 && eqb c 41) ≡ true → closes (b ∷ c ∷ t) (suc depth) ≡ closes t depth
  unfolding stepped
  step-closes e f = closes-step ∙ ap₂ stepped e f

  step_other : (eqb b 40 && eqb c 42) ≡ false → (eqb b 42 && eqb c 41) ≡ false → closes (b ∷ c ∷ t) (suc depth) ≡ closes (c ∷ t) (suc depth)
  unfolding stepped
  step_other e f = closes-step ∙ ap₂ stepped e f

closing_nil : (depth : ℕ) → closing (suc depth) [] ≡ false
unfolding closes
closing_nil depth = refl

closing_one : (depth b : ℕ) → closing (suc depth) (b ∷ []) ≡ false
unfolding closes
closing_one depth b = refl

two_steps : (depth b c : ℕ) (s : List ℕ) {after : List ℕ → Bool} → ((t : List ℕ) → closing (suc depth) (b ∷ c ∷ t) ≡ after t) → reach (closing (suc depth)) (b ∷ c ∷ s) ≡ longer 2 (reach after s)
two_steps depth b c s {after} e =
    reach_step (closing (suc depth)) b (c ∷ s) (closing_nil depth) (λ t. refl)
    ∙ ap (longer 1) (reach_step (λ t. closing (suc depth) (b ∷ t)) c s (closing_one depth b) e)
    ∙ longer-longer 1 1 (reach after s)

reach-shut : (s : List ℕ) → reach (closing 0) s ≡ Some 0
unfolding closes reach
reach-shut [] = refl
reach-shut (b ∷ s) = reach_here (closing 0) b s refl (λ t. refl)

reach-closing_nil : (depth : ℕ) → reach (closing (suc depth)) [] ≡ None
unfolding empty
reach-closing_nil depth = reach-nil (closing (suc depth)) ∙ ap empty (closing_nil depth)

lone_byte : (depth b : ℕ) → reach (closing (suc depth)) (b ∷ []) ≡ longer 1 (reach (closing (suc depth)) [])
unfolding longer onward empty
lone_byte depth b =
    reach_step (closing (suc depth)) b [] (closing_nil depth) (λ t. refl)
    ∙ ap (longer 1) (reach-nil (λ t. closing (suc depth) (b ∷ t)) ∙ ap empty (closing_one depth b) ∙ sym (reach-closing_nil depth))

one_step : (depth b c : ℕ) (t : List ℕ) → (eqb b 40 && eqb c 42) ≡ false → (eqb b 42 && eqb c 41) ≡ false → reach (closing (suc depth)) (b ∷ c ∷ t) ≡ longer 1 (reach (closing (suc depth)) (c ∷ t))
one_step depth b c t e f =
    reach_step (closing (suc depth)) b (c ∷ t) (closing_nil depth) (λ u. refl)
    ∙ ap (longer 1)
    (reach-first (λ u. closing (suc depth) (b ∷ u)) (closing (suc depth)) c t (closing_one depth b ∙ sym (closing_nil depth)) (λ u. step_other depth b c u e f))

-- ---- at an offset
pub comment_empty : (s : List ℕ) (at : ℕ) → length s ≡ 0 → None ≡ longer at (reach (closing 1) (drop at s))
unfolding longer
comment_empty s at e =
    let h : length s ≤ at = omega (arith, e) in
    sym (ap (λ (u : List ℕ). longer at (reach (closing 1) u)) (drop_of_length-le s h) ∙ ap (longer at) (reach-closing_nil 0))

module _ (s : List ℕ) (at depth last : ℕ) (size : last + 1 ≡ length s) (some-open : 1 ≤ depth) where
  deep : depth ≡ suc (depth - 1)
  deep = omega arith

  -- A comment does not end at the last byte.
  pub comment-over : last ≤ at → longer at (reach (closing depth) (drop at s)) ≡ None
  unfolding longer
  comment-over h = ap (λ (d : ℕ). longer at (reach (closing d) (drop at s))) deep ∙ go (leb (length s) at) refl
    where
      go : (x : Bool) → leb (length s) at ≡ x → longer at (reach (closing (suc (depth - 1))) (drop at s)) ≡ None
      go true e =
          ap (λ (u : List ℕ). longer at (reach (closing (suc (depth - 1))) u)) (drop_of_length-le s (leb-true (length s) at e))
          ∙ ap (longer at) (reach-closing_nil (depth - 1))
      go false e =
          let i = leb-false (length s) at e in
          let j : length s ≤ suc at = omega (arith, size, h) in
          ap (λ (u : List ℕ). longer at (reach (closing (suc (depth - 1))) u))
          (drop-cons s at 0 i ∙ ap (λ (u : List ℕ). get_or s at 0 ∷ u) (drop_of_length-le s j))
          ∙ ap (longer at) (lone_byte (depth - 1) (get_or s at 0) ∙ ap (longer 1) (reach-closing_nil (depth - 1)))

  module _ (h : at < last) where
    abbrev b : ℕ
    b = get_or s at 0

    abbrev c : ℕ
    c = get_or s (at + 1) 0

    second : drop (at + 1) s ≡ c ∷ drop (at + 1 + 1) s
    second = drop-cons s (at + 1) 0 (omega (arith, size, h)) ∙ ap (λ (n : ℕ). c ∷ drop n s) (sym (add-one (at + 1)))

    here : drop at s ≡ b ∷ c ∷ drop (at + 1 + 1) s
    here =
        drop-cons s at 0 (omega (arith, size, h))
        ∙ ap (λ (n : ℕ). b ∷ drop n s) (sym (add-one at))
        ∙ ap (λ (u : List ℕ). b ∷ u) second

    begins : longer at (reach (closing depth) (drop at s)) ≡ longer at (reach (closing (suc (depth - 1))) (b ∷ c ∷ drop (at + 1 + 1) s))
    begins = ap (λ (d : ℕ). longer at (reach (closing d) (drop at s))) deep ∙ ap (λ (u : List ℕ). longer at (reach (closing (suc (depth - 1))) u)) here

    onward-two : (d : ℕ) → ((t : List ℕ) → closing (suc (depth - 1)) (b ∷ c ∷ t) ≡ closing d t) → longer at (reach (closing depth) (drop at s)) ≡ longer (at + 1 + 1) (reach (closing d) (drop (at + 1 + 1) s))
    onward-two d e =
        begins
        ∙ ap (longer at) (two_steps (depth - 1) b c (drop (at + 1 + 1) s) e)
        ∙ longer-longer at 2 (reach (closing d) (drop (at + 1 + 1) s))
        ∙ ap (λ (n : ℕ). longer n (reach (closing d) (drop (at + 1 + 1) s))) two
      where
        two : at + 2 ≡ at + 1 + 1
        two = omega arith

    pub comment-opens : b ≡ 40 → c ≡ 42 → longer at (reach (closing depth) (drop at s)) ≡ longer (at + 1 + 1) (reach (closing (depth + 1)) (drop (at + 1 + 1) s))
    comment-opens e f = onward-two (depth + 1) (λ t. step-opens (depth - 1) b c t (rw (eq-eqb b 40 e, eq-eqb c 42 f)) ∙ ap (λ (d : ℕ). closing d t) deeper)
      where
        deeper : suc (suc (depth - 1)) ≡ depth + 1
        deeper = omega arith

    pub comment-closes : b ≡ 42 → c ≡ 41 → longer at (reach (closing depth) (drop at s)) ≡ longer (at + 1 + 1) (reach (closing (depth - 1)) (drop (at + 1 + 1) s))
    comment-closes e f =
        onward-two (depth - 1)
        (λ t. step-closes (depth - 1) b c t (rw (ne_eqb b 40 (λ g. absurd (omega (arith, e, g))))) (rw (eq-eqb b 42 e, eq-eqb c 41 f)))

    pub comment-shut : b ≡ 42 → c ≡ 41 → depth - 1 ≡ 0 → Some (at + 1 + 1) ≡ longer at (reach (closing depth) (drop at s))
    unfolding longer
    comment-shut e f z =
        let g : longer at (reach (closing depth) (drop at s)) ≡ Some (at + 1 + 1 + 0) =
        comment-closes e f
        ∙ ap (λ (d : ℕ). longer (at + 1 + 1) (reach (closing d) (drop (at + 1 + 1) s))) z
        ∙ ap (longer (at + 1 + 1)) (reach-shut (drop (at + 1 + 1) s)) in
        ap Some (omega arith) ∙ sym g

    onward-one : (eqb b 40 && eqb c 42) ≡ false → (eqb b 42 && eqb c 41) ≡ false → longer at (reach (closing depth) (drop at s)) ≡ longer (at + 1) (reach (closing depth) (drop (at + 1) s))
    onward-one e f =
        begins
        ∙ ap (longer at) (one_step (depth - 1) b c (drop (at + 1 + 1) s) e f)
        ∙ longer-longer at 1 (reach (closing (suc (depth - 1))) (c ∷ drop (at + 1 + 1) s))
        ∙ ap (λ (u : List ℕ). longer (at + 1) (reach (closing (suc (depth - 1))) u)) (sym second)
        ∙ ap (λ (d : ℕ). longer (at + 1) (reach (closing d) (drop (at + 1) s))) (sym deep)

    pub comment-star : b ≡ 42 → (c ≡ 41 → ⊥) → longer at (reach (closing depth) (drop at s)) ≡ longer (at + 1) (reach (closing depth) (drop (at + 1) s))
    comment-star e f = onward-one (rw (ne_eqb b 40 (λ g. absurd (omega (arith, e, g))))) (rw (eq-eqb b 42 e, ne_eqb c 41 f))

    pub comment-bracket : (b ≡ 42 → ⊥) → b ≡ 40 → (c ≡ 42 → ⊥) → longer at (reach (closing depth) (drop at s)) ≡ longer (at + 1) (reach (closing depth) (drop (at + 1) s))
    comment-bracket d e f = onward-one (rw (eq-eqb b 40 e, ne_eqb c 42 f)) (rw (ne_eqb b 42 d))

    pub comment-plain : (b ≡ 42 → ⊥) → (b ≡ 40 → ⊥) → longer at (reach (closing depth) (drop at s)) ≡ longer (at + 1) (reach (closing depth) (drop (at + 1) s))
    comment-plain d e = onward-one (rw (ne_eqb b 40 e)) (rw (ne_eqb b 42 d))
