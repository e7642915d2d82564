-- The comments left, by the words of the set that a walk leaves. Assumes nothing.
use Prim.Native.Nat.{ℕ, zero, suc, ◌+◌, ◌≤◌, ◌<◌}
use native.Mathlib.Omega.{arith}
use mathlib.Core.Path.{◌≡◌, refl, sym, ap, ◌∙◌}
use mathlib.Core.Logic.{◌↔◌, ⊎_elim}
use mathlib.Core.Bool.{Bool, true, false, not, ◌&&◌}
use mathlib.Core.List.{List}
use Rattle.std.proofs.lemmas.Option.{none-some}
use Rattle.std.specs.Prelude.{Option, None, Some}
use lib.ListN.{length, get_or}
use lib.Dec.{eqb, leb}
use borrow.Author.Tests.{eqb-true, eqb-false, leb-true, leb-false}
use Rattle.comments.specs.Set.{holds, bits, words_from, words_of, room, count, first}
use Rattle.comments.proofs.Words.{whether, words-first, first-among, count_none, none-count}
use Rattle.comments.proofs.Search.{no-comment}
use Rattle.layout.specs.Meaning.{Page, Event}
use Rattle.layout.specs.Events.{written, is_left}
use Rattle.formatter.specs.Verdict.{empty_set, no_measures, declined, accepted, comments}

-- ---- the comments left
-- A search that finds none has met none.
none_met : (member : ℕ → Bool) (n k : ℕ) → first member k n ≡ None → (i : ℕ) → k ≤ i → i < k + n → member i ≡ false
unfolding first
none_met member zero k h i l b = absurd (omega arith)
none_met member (suc n) k h i l b =
    go (member k) refl h (λ rest l b. none_met member n (k + 1) rest i l b) (eqb i k) refl
  where
    go : (t : Bool) → member k ≡ t → ◌≡◌ {A = Option ℕ} (elim t [ true ↦ Some k | false ↦ first member (k + 1) n ]) None
        → (first member (k + 1) n ≡ None → k + 1 ≤ i → i < k + 1 + n → member i ≡ false) → (s : Bool) → eqb i k ≡ s → member i ≡ false
    go true e h ih s f = absurd (none-some k (sym h))
    go false e h ih true f = ap member (eqb-true i k f) ∙ e
    go false e h ih false f = ih h (let ne = eqb-false i k f in omega arith) (omega arith)

module _ (kinds : List ℕ) (es : List Event) where
  -- A token past the last is no comment left.
  pub left-past : (k : ℕ) → length kinds ≤ k → is_left kinds es k ≡ false
  unfolding is_left
  left-past k h = ap (λ t. t && not (written es k)) (no-comment kinds k h)

  module _ (none_left : first (is_left kinds es) 0 (length kinds) ≡ None) where
    pub not_left : (k : ℕ) → is_left kinds es k ≡ false
    not_left k =
        ⊎_elim (λ h. left-past k (leb-true (length kinds) k h))
        (λ h. none_met (is_left kinds es) (length kinds) 0 none_left k (omega arith) (omega (arith, leb-false (length kinds) k h)))
        (whether (leb (length kinds) k))

-- ---- what the words say
module _ (kinds : List ℕ) (es : List Event) where
  module _ (words : List ℕ) (few : length kinds ≤ room) (e : words ≡ words_of (is_left kinds es)) where
    -- The first token that the words hold is the first comment left among the tokens.
    pub first-left : first (holds words) 0 room ≡ first (is_left kinds es) 0 (length kinds)
    first-left = words-first (is_left kinds es) words e ∙ first-among (is_left kinds es) (length kinds) few (left-past kinds es)

    -- The words hold no token exactly where no comment is left.
    pub empty_left : (count (holds words) 0 room ≡ 0) ↔ (first (is_left kinds es) 0 (length kinds) ≡ None)
    empty_left = (λ h. sym first-left ∙ count_none (holds words) room 0 h, λ h. none-count (holds words) room 0 (first-left ∙ h))

  -- Where no comment is left the words are those of the empty set.
  pub empty-words : first (is_left kinds es) 0 (length kinds) ≡ None → words_of (is_left kinds es) ≡ empty_set
  unfolding words_of words_from bits
  empty-words h = ap words_of (λ i k. not_left kinds es h k i)

-- 6 by the words that the walk leaves: the place is that of the first token that they hold.
module _ (p : Page) (es : List Event) (words : List ℕ) (few : length p.tokens.kinds ≤ room) (e : words ≡ words_of (is_left p.tokens.kinds es)) where
  pub comments-some : {k : ℕ} → first (holds words) 0 room ≡ Some k
      → comments p es ≡ declined (record { number = 6; place = get_or p.tokens.starts k 0; measures = no_measures; left = words })
  unfolding comments
  comments-some h = rw (comments, ← first-left p.tokens.kinds es words few e, h, ← e)

  pub comments-none : first (holds words) 0 room ≡ None → (comments p es ≡ accepted p es) × (words ≡ empty_set)
  unfolding comments
  comments-none h =
      let none_left = sym (first-left p.tokens.kinds es words few e) ∙ h in
      (rw (comments, none_left), e ∙ empty-words p.tokens.kinds es none_left)
