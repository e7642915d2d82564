use native.Mathlib.Omega.{arith}
use mathlib.Core.Path.{◌≡◌}
use lib.ListN.{length}
use Rattle.testing.proofs.Laws.{packs_none, packs_more}
use Rattle.testing.proofs.put_spans.Goals as goal

pub loop-k-init : goal.loop-k-init
loop-k-init c = packs_none c.told-table

pub loop-k-preserved : goal.loop-k-preserved
loop-k-preserved c = packs_more _ _ c.loop-k.invariant c.requires c.loop-k-test.true c.packed.ensures

pub returns : goal.returns
returns c =
    let e : c.loop-k.k ≡ length c.args.spans.now = omega arith in
    rw e at c.loop-k.invariant
