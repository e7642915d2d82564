-- What no sheet exceeds.
use Rattle.std.specs.Prelude.{◌+◌, ◌≤◌, List}
use Rattle.layout.specs.Meaning.{Page, Event, Outcome, done, stopped}
use Rattle.layout.specs.Events.{deepest, letters, units}

-- What a walk did, whether it ends or stops.
abbrev pub events_of : Outcome → List Event
events_of (done end es) = es
events_of (stopped why es) = es

pub record Small (p : Page) (es : List Event) : Type 0 where
  -- half the cap of the code's sums
  pub both : letters p es + units es ≤ 0x4000_0000
  -- no depth is over 400
  pub deep : deepest es ≤ 400
