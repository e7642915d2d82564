use Prim.Native.Nat.{ℕ, ◌+◌}
use native.Mathlib.Omega.{arith}
use mathlib.Core.Path.{◌≡◌, sym, ◌∙◌}
use mathlib.Core.Bool.{Bool, true}
use borrow.Author.Tests.{eqb-true}
use Rattle.text.specs.Bytes.{between, is_space}
use lib.Dec.{eqb}
use Rattle.scanner.proofs.ReachLaws.{run_end, run_more, run-stop, run_on}
use Rattle.scanner.proofs.runs.spaces.Goals as goal

abbrev is_blank : ℕ → Bool
is_blank b = eqb b 32

blank-space : (b : ℕ) → eqb b 32 ≡ true → is_space b ≡ true
unfolding is_space between
blank-space b e = rw (eqb-true b 32 e)

pub loop-at-init : goal.loop-at-init
loop-at-init c = run_on is_blank is_space blank-space c.args.s.now c.args.from c.run-at.result (c.run-at.ensures is_blank (λ b r e. e))

pub returns-then-not-is_space : goal.returns-then-not-is_space
returns-then-not-is_space c = let at = c in omega (arith, at.loop-at.invariant, run-stop is_space at.args.s.now at.loop-at.at c.loop-at-test.true (sym c.is_space.ensures ∙ c.if-not-is_space.true))

pub loop-at-smaller : goal.loop-at-smaller
loop-at-smaller c = omega (arith, (c.run-at-in-loop-at.ensures is_blank (λ b r e. e)), c.loop-at-test.true)

pub loop-at-preserved : goal.loop-at-preserved
loop-at-preserved c =
    let at = c in
    let s = at.args.s.now in
    omega (
      arith,
      at.loop-at.invariant,
      run_more is_space s at.loop-at.at c.loop-at-test.true (sym c.is_space.ensures ∙ c.if-not-is_space.false),
      run_on is_blank is_space blank-space s (at.loop-at.at + 1) c.run-at-in-loop-at.result (c.run-at-in-loop-at.ensures is_blank (λ b r e. e)),
    )

pub returns : goal.returns
returns c = omega (arith, c.loop-at.invariant, run_end is_space c.args.s.now c.loop-at.at c.loop-at-test.false)
