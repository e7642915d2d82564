-- Demand 3 over any list of events: two tab sizes, spaces aside, the comments in the formatted text.
-- A law here holds whatever walk made the events. Assumes nothing.
use Prim.Native.Nat.{ℕ, zero, suc, ◌*◌}
use native.Mathlib.Nat.{zero-mul, eq_of_mul-eq-mul_right}
use native.Mathlib.Omega.{arith}
use mathlib.Core.Path.{◌≡◌, refl, sym, ap, ap₂, ◌∙◌}
use mathlib.Core.Logic.{◌↔◌}
use mathlib.Core.Bool.{Bool, true, false, not, ◌&&◌, ◌||◌, false≢true}
use Rattle.std.specs.Prelude.{None}
use mathlib.Core.List.{List, [], ◌∷◌, ◌++◌, append_assoc}
use lib.ListN.{length, replicate}
use lib.Dec.{eqb}
use borrow.Author.Tests.{eqb-true, not-false}
use Rattle.comments.specs.Set.{is_comment, first}
use Rattle.layout.specs.Meaning.{Page, Event, Word, Token, Comment, Formed, Indent}
use Rattle.layout.specs.Events.{sum_of, indent_depth, units, trimmed, spelt, formatted, writes_comment, written, is_left}
use Rattle.layout.proofs.Exact.{length_formatted}
use Rattle.formatter.proofs.SetLaws.{not_left}
use Rattle.theorems.specs.Demands.{without_spaces, Holds}

spaceless_append : (a b : List ℕ) → without_spaces (a ++ b) ≡ without_spaces a ++ without_spaces b
unfolding without_spaces
spaceless_append [] b = refl
spaceless_append (x ∷ a) b = go (eqb x 32) (spaceless_append a b)
  where
    go : (t : Bool) → without_spaces (a ++ b) ≡ without_spaces a ++ without_spaces b
        → ◌≡◌ {A = List ℕ} (elim t [ true ↦ without_spaces (a ++ b) | false ↦ x ∷ without_spaces (a ++ b) ])
        (elim t [ true ↦ without_spaces a | false ↦ x ∷ without_spaces a ] ++ without_spaces b)
    go true ih = ih
    go false ih = ap (λ l. x ∷ l) ih

spaces_vanish : (n : ℕ) → without_spaces (replicate n 32) ≡ []
unfolding without_spaces
spaces_vanish zero = refl
spaces_vanish (suc n) = spaces_vanish n

module _ (p : Page) where
  -- ---- two tab sizes
  spelt-same : (tab tab' : ℕ) (e : Event) → indent_depth e ≡ 0 → spelt p tab e ≡ spelt p tab' e
  unfolding spelt indent_depth
  spelt-same tab tab' (Word w) h = refl
  spelt-same tab tab' (Token k) h = refl
  spelt-same tab tab' (Comment k) h = refl
  spelt-same tab tab' (Formed d) h = refl
  spelt-same tab tab' (Indent d) h = simp (h, zero-mul)

  formatted-same : (tab tab' : ℕ) (es : List Event) → units es ≡ 0 → formatted p tab es ≡ formatted p tab' es
  unfolding formatted units sum_of
  formatted-same tab tab' [] h = refl
  formatted-same tab tab' (e ∷ es) h = ap₂ ◌++◌ (spelt-same tab tab' e (omega arith)) (formatted-same tab tab' es (omega arith))

  no-units : (tab tab' : ℕ) (es : List Event) → (tab ≡ tab' → ⊥) → formatted p tab es ≡ formatted p tab' es → units es ≡ 0
  no-units tab tab' es ne e = go (units es) (omega (arith, length_formatted p tab es, length_formatted p tab' es, ap length e))
    where
      go : (u : ℕ) → tab * u ≡ tab' * u → u ≡ 0
      go zero h = refl
      go (suc u) h = absurd (ne (eq_of_mul-eq-mul_right (suc u) (omega arith) tab tab' h))

  -- The text follows the tab size exactly where an indent of some depth is written.
  pub same-at-tabs : (tab tab' : ℕ) (es : List Event) → (tab ≡ tab' → ⊥) → (formatted p tab es ≡ formatted p tab' es) ↔ (units es ≡ 0)
  same-at-tabs tab tab' es ne = (no-units tab tab' es ne, formatted-same tab tab' es)

  -- ---- spaces aside
  spelt-spaceless : (tab tab' : ℕ) (e : Event) → without_spaces (spelt p tab e) ≡ without_spaces (spelt p tab' e)
  unfolding spelt
  spelt-spaceless tab tab' (Word w) = refl
  spelt-spaceless tab tab' (Token k) = refl
  spelt-spaceless tab tab' (Comment k) = refl
  spelt-spaceless tab tab' (Formed d) = refl
  spelt-spaceless tab tab' (Indent d) = spaces_vanish (d * tab) ∙ sym (spaces_vanish (d * tab'))

  pub same-spaceless : (tab tab' : ℕ) (es : List Event) → without_spaces (formatted p tab es) ≡ without_spaces (formatted p tab' es)
  unfolding formatted
  same-spaceless tab tab' [] = refl
  same-spaceless tab tab' (e ∷ es) =
      spaceless_append (spelt p tab e) (formatted p tab es)
      ∙ ap₂ ◌++◌ (spelt-spaceless tab tab' e) (same-spaceless tab tab' es)
      ∙ sym (spaceless_append (spelt p tab' e) (formatted p tab' es))

  -- ---- the comments written
  spelt-comment : (tab k : ℕ) (e : Event) → writes_comment k e ≡ true → spelt p tab e ≡ trimmed p k
  unfolding spelt writes_comment
  spelt-comment tab k (Word w) h = absurd (false≢true h)
  spelt-comment tab k (Token j) h = absurd (false≢true h)
  spelt-comment tab k (Comment j) h = ap (trimmed p) (eqb-true j k h)
  spelt-comment tab k (Formed d) h = absurd (false≢true h)
  spelt-comment tab k (Indent d) h = absurd (false≢true h)

  pub holds-written : (tab : ℕ) (es : List Event) (k : ℕ) → written es k ≡ true → Holds (trimmed p k) (formatted p tab es)
  unfolding written formatted
  holds-written tab [] k h = absurd (false≢true h)
  holds-written tab (e ∷ es) k h = go (writes_comment k e) refl h (holds-written tab es k)
    where
      go : (t : Bool) → writes_comment k e ≡ t → (t || written es k) ≡ true → (written es k ≡ true → Holds (trimmed p k) (formatted p tab es))
          → Holds (trimmed p k) (spelt p tab e ++ formatted p tab es)
      go true w h ih = record { before = []; after = formatted p tab es; is = ap (λ l. l ++ formatted p tab es) (spelt-comment tab k e w) }
      go false w h ih =
          let rest = ih h in
          record {
            before = spelt p tab e ++ rest.before;
            after = rest.after;
            is = ap (λ l. spelt p tab e ++ l) rest.is ∙ simp append_assoc;
          }

-- Where no comment is left, each block comment is written.
pub all-written : (kinds : List ℕ) (es : List Event) → first (is_left kinds es) 0 (length kinds) ≡ None → (k : ℕ) → is_comment kinds k ≡ true → written es k ≡ true
unfolding is_left
all-written kinds es none_left k c = not-false (written es k) (sym (ap (λ t. t && not (written es k)) c) ∙ not_left kinds es none_left k)
