use Rattle.std.proofs.Common.{ℕ, Bool, List}
use Rattle.std.specs.Prelude.{Result}
use Rattle.layout.specs.declared.Ink.{Ink}
use Rattle.layout.specs.declared.Stop.{Stop}
use Rattle.layout.specs.Layout.{Layout, ◌⨾◌}
use Rattle.layout.specs.Helpers.{items}
use Rattle.layout.specs.Meaning.{Page}
use Rattle.layout.specs.Promises.Lent.{WritesJoint, WalksItem}
use Rattle.layout.specs.Promises.State.{run_of, Walked}
use Rattle.layout.proofs.Steps.{items_from}
use Rattle.layout.proofs.items.items.Given as goal

-- What is left to run leads on from what was to run at first.
abbrev pub invariant-loop-i : goal.invariant-loop-i
invariant-loop-i g l =
    (keep : Bool) (p : Page) (u w : Layout) → WritesJoint (goal.J-post g l.joint) u → WalksItem (goal.F-post g l.item) keep p w
    → (r : Result ℕ Stop) (i : Ink) (o : List ℕ)
    → Walked keep p (items_from l.i l.n w (u ⨾ w)) (run_of l.s l.ink l.out) r i o
    → Walked keep p (items l.n w (u ⨾ w)) (run_of l.initial.s l.initial.ink l.initial.out) r i o
