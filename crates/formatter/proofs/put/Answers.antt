use native.Mathlib.Omega.{arith}
use mathlib.Core.Path.{refl}
use Rattle.formatter.proofs.JudgeLaws.{weight-deep, weight-letters, weight-units, put-wide, put-short, put-copied, put-walked}
use Rattle.formatter.proofs.put.Goals as goal

pub scaled-requires : goal.scaled-requires
scaled-requires c = weight-deep c.requires.0

pub returns-then-scaled-gt-MAX_WIDTH : goal.returns-then-scaled-gt-MAX_WIDTH
returns-then-scaled-gt-MAX_WIDTH c = put-wide c.args.tab c.requires.0 _ c.scaled.ensures.0 c.if-scaled-gt-MAX_WIDTH.true

pub scaled-requires-2 : goal.scaled-requires-2
scaled-requires-2 c = weight-units c.requires.0

pub overflow_add-size : goal.overflow_add-size
overflow_add-size c = omega (arith, weight-letters c.requires.0, c.scaled-2.ensures.1)

pub returns-then-out-size : goal.returns-then-out-size
returns-then-out-size c = put-short c.args.tab c.requires.0 _ c.scaled.ensures.0 c.if-scaled-gt-MAX_WIDTH.false c.scaled-2.ensures.0 refl c.if-out-size.true

pub returns-then-size-draft : goal.returns-then-size-draft
returns-then-size-draft c =
    put-copied c.args.tab c.requires.0 _ c.scaled.ensures.0 c.if-scaled-gt-MAX_WIDTH.false c.scaled-2.ensures.0 refl c.if-out-size.false c.requires.1 c.if-size-draft.true c.copy.ensures

pub returns : goal.returns
returns c =
    put-walked c.args.tab c.requires.0 _ c.scaled.ensures.0 c.if-scaled-gt-MAX_WIDTH.false c.scaled-2.ensures.0 refl c.if-out-size.false (omega (arith, c.ranges.tab)) c.walk-walked.ensures
