-- `text::first_broken` meets its contract: where no byte exceeds 127, or each may stand where it does, no character is broken. Assumes nothing.
use native.Mathlib.Omega.{arith}
use mathlib.Core.Path.{sym}
use Rattle.text.proofs.Utf8Laws.{ascii_whole}
use Rattle.text.proofs.first_broken.Goals as goal

pub returns-then-most-lt128 : goal.returns-then-most-lt128
returns-then-most-lt128 c = sym (ascii_whole _ (λ i h. omega (arith, c.greatest-most.ensures i h)))

pub is_whole-requires : goal.is_whole-requires
is_whole-requires c = λ i h. omega (arith, c.greatest-most.ensures i h)

pub returns-then-is_whole : goal.returns-then-is_whole
returns-then-is_whole c = sym (c.is_whole.ensures c.if-is_whole.true)
