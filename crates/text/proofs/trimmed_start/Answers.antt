-- `text::trimmed_start` meets its contract. Assumes nothing.
use mathlib.Core.Path.{refl, sym, ◌∙◌}
use Rattle.text.specs.Bytes.{white_space, trim_start}
use Rattle.text.proofs.Laws.{strip-none, start-within, start-less, start-more}
use Rattle.text.proofs.trimmed_start.Goals as goal

pub loop-rest-init : goal.loop-rest-init
unfolding trim_start
loop-rest-init c = refl

pub returns-then-n-eq0 : goal.returns-then-n-eq0
returns-then-n-eq0 c = sym (c.loop-rest.invariant ∙ strip-none white_space _ (sym c.space_at_start-n.ensures ∙ c.if-n-eq0.true))

pub slice_bounds-rest-count : goal.slice_bounds-rest-count
slice_bounds-rest-count c = start-within _ c.space_at_start-n.ensures

pub loop-rest-smaller : goal.loop-rest-smaller
loop-rest-smaller c = start-less c.loop-rest.rest.now c.space_at_start-n.ensures c.if-n-eq0.false

pub loop-rest-preserved : goal.loop-rest-preserved
loop-rest-preserved c = c.loop-rest.invariant ∙ start-more c.loop-rest.rest.now c.space_at_start-n.ensures c.if-n-eq0.false

pub slice_bounds-rest-start : goal.slice_bounds-rest-start
slice_bounds-rest-start c = start-within _ c.space_at_start-n.ensures
