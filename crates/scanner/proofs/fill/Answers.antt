use Prim.Native.Nat.{ℕ, ◌-◌, ◌≤◌}
use native.Mathlib.Omega.{arith}
use mathlib.Core.Path.{◌≡◌, refl, sym, ap, ◌∙◌}
use mathlib.Core.List.{List}
use Rattle.std.specs.Prelude.{Option, None, Some}
use lib.ListN.{length, take, drop, length-drop}
use lib.Seq.{length-take-le}
use Rattle.text.proofs.Laws.{take_rest}
use Rattle.scanner.specs.Lexical.{longest, kind_of}
use Rattle.scanner.specs.Promises.Reach.{positive}
use Rattle.scanner.proofs.ReachLaws.{none_of, number_of_some}
use Rattle.scanner.proofs.LongestLaws.{longest-within}
use Rattle.scanner.proofs.FillLaws.{filled_none, filled_more, filled_past, filled_refused, filled_all, filled_long}
use Rattle.scanner.proofs.fill.Goals.{then-count-lt-MAX_TOKENS, else-count-lt-MAX_TOKENS}
use Rattle.scanner.proofs.fill.Goals as goal

-- The longest token of what is left.
module _ (text : List ℕ) (at : ℕ) {found : Option ℕ} (e : found ≡ positive (longest (take (length text - at) (drop at text)))) where
  left : found ≡ positive (longest (drop at text))
  left = rw take_rest at e

  none : found ≡ None → longest (drop at text) ≡ 0
  none n = none_of _ (sym n ∙ left)

  module _ {len : ℕ} (s : found ≡ Some len) where
    is : longest (drop at text) ≡ len
    is = (number_of_some _ (sym s ∙ left)).0

    some : 1 ≤ len
    some = (number_of_some _ (sym s ∙ left)).1

    within : len ≤ length (drop at text)
    within = omega (arith, is, longest-within (drop at text))

    inside : len ≤ length text - at
    inside = omega (arith, within, length-drop at text)

    part : length (take len (take (length text - at) (drop at text))) ≡ len
    part = rw (take_rest text at) (length-take-le len (drop at text) within)

    kind : {k : ℕ} → k ≡ kind_of (take len (take (length text - at) (drop at text))) → k ≡ kind_of (take len (drop at text))
    kind f = f ∙ ap (λ (r : List ℕ). kind_of (take len r)) (take_rest text at)

pub loop-at-init : goal.loop-at-init
loop-at-init c = rw c.requires.empty (filled_none _)

pub returns-in_default : goal.returns-in_default
returns-in_default c =
    let text = c.args.text.now in
    filled_refused c.loop-at.invariant _ c.loop-at-test.true (none text c.loop-at.at c.token_length.ensures c.in_default.is) c.refused_at.ensures

pub overflow_cast-span-then-count-lt-MAX_TOKENS : goal.overflow_cast-span-then-count-lt-MAX_TOKENS
overflow_cast-span-then-count-lt-MAX_TOKENS c =
    omega (arith, c.requires.text_len_bound, inside c.args.text.now c.loop-at.at c.token_length.ensures c.in-Some.is)

pub slice_bounds-kind_of-end : goal.slice_bounds-kind_of-end
slice_bounds-kind_of-end c = sym (part c.args.text.now c.loop-at.at c.token_length.ensures c.in-Some.is)

pub overflow_add-at : goal.overflow_add-at
overflow_add-at c = omega (arith, c.requires.text_len_bound, c.loop-at-test.true, inside c.args.text.now c.loop-at.at c.token_length.ensures c.in-Some.is)

pub loop-at-smaller : goal.loop-at-smaller
loop-at-smaller c = omega (arith, c.loop-at-test.true, some c.args.text.now c.loop-at.at c.token_length.ensures c.in-Some.is)

pub loop-at-preserved : goal.loop-at-preserved
loop-at-preserved c =
    let text = c.args.text.now in
    let at = c.loop-at.at in
    let e = c.token_length.ensures in
    let s = c.in-Some.is in
    elim c.if-count-lt-MAX_TOKENS.branch [
      | then-count-lt-MAX_TOKENS w ↦
          let more = filled_more c.loop-at.invariant (some text at e s) (is text at e s) (within text at e s) (kind text at e s w.kind_of.ensures) (omega (arith, c.count.ensures.0, w.if-count-lt-MAX_TOKENS.true)) in
          rw (w.tokens-is, w.fit-is) (rw (← w.push.ensures.0, ← w.push.ensures.1, ← w.push.ensures.2) at more)
      | else-count-lt-MAX_TOKENS w ↦ rw (w.tokens-is, w.fit-is)
          (filled_past c.loop-at.invariant (some text at e s) (is text at e s) (within text at e s) refl (omega (arith, c.count.ensures.0, w.if-count-lt-MAX_TOKENS.false)))
    ]

pub returns-then-fit : goal.returns-then-fit
returns-then-fit c = filled_all c.loop-at.invariant c.loop-at-test.false c.if-fit.true

pub returns-else-fit : goal.returns-else-fit
returns-else-fit c = filled_long c.loop-at.invariant c.loop-at-test.false c.if-fit.false
