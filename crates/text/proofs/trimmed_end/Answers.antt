-- `text::trimmed_end` meets its contract. Assumes nothing.
use mathlib.Core.Path.{refl, sym, ap, ◌∙◌}
use mathlib.Core.List.{map, reverse, reverse-reverse}
use Rattle.text.specs.Bytes.{white_space, trim_end}
use Rattle.text.proofs.Laws.{strip-none, end-within, end_less, end_more}
use Rattle.text.proofs.trimmed_end.Goals as goal

pub loop-rest-init : goal.loop-rest-init
unfolding trim_end
loop-rest-init c = refl

pub returns-then-n-eq0 : goal.returns-then-n-eq0
returns-then-n-eq0 c = sym (c.loop-rest.invariant ∙ ap reverse (strip-none (map reverse white_space) _ (sym c.space_at_end-n.ensures ∙ c.if-n-eq0.true)) ∙ reverse-reverse _)

pub slice_bounds-rest-count : goal.slice_bounds-rest-count
slice_bounds-rest-count c = end-within _ c.space_at_end-n.ensures

pub loop-rest-smaller : goal.loop-rest-smaller
loop-rest-smaller c = end_less c.loop-rest.rest.now c.space_at_end-n.ensures c.if-n-eq0.false

pub loop-rest-preserved : goal.loop-rest-preserved
loop-rest-preserved c = c.loop-rest.invariant ∙ ap reverse (end_more c.loop-rest.rest.now c.space_at_end-n.ensures c.if-n-eq0.false)
