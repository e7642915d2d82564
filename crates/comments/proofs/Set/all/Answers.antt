use Prim.Native.Nat.{ℕ, ◌+◌, ◌*◌, ◌<◌}
use native.Mathlib.Omega.{arith}
use mathlib.Core.Path.{◌≡◌, refl, ◌∙◌}
use mathlib.Core.Bool.{Bool}
use mathlib.Core.List.{List}
use lib.ListN.{length, get_or, set, length-set}
use lib.Seq.{get_or-set_same, get_or-set_other}
use borrow.Author.Count.{below_more}
use Rattle.comments.specs.Set.{bits}
use Rattle.comments.proofs.Words.{words-is}
use Rattle.comments.proofs.Set.all.Goals as goal

-- One word more of the words of a set.
words_more : (member : ℕ → Bool) (words : List ℕ) (w x : ℕ) → w < length words → ((j : ℕ) → j < w → get_or words j 0 ≡ bits member (64 * j) 64) → x ≡ bits member (64 * w) 64 → (j : ℕ) → j < w + 1 → get_or (set words w x) j 0 ≡ bits member (64 * j) 64
words_more member words w x l h e =
    below_more (λ (j : ℕ). get_or (set words w x) j 0 ≡ bits member (64 * j) 64) w
    (λ j b. get_or-set_other words w j x 0 (λ f. omega arith) ∙ h j b)
    (get_or-set_same words w x 0 l ∙ e)

pub loop-w-init : goal.loop-w-init
loop-w-init c = (refl, λ j h. absurd (omega (arith, h)))

pub loop-w-preserved : goal.loop-w-preserved
loop-w-preserved c = let at = c.loop-w in (length-set at.words _ _ ∙ at.invariant.0, words_more _ at.words at.w _ (omega (arith, at.invariant.0)) at.invariant.1 c.word.ensures)

pub returns : goal.returns
returns c = words-is _ _ c.loop-w.invariant.0 (λ j h. c.loop-w.invariant.1 j (omega arith))
