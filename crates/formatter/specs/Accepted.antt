-- What `check` and `get` accept.
use Rattle.std.specs.Prelude.{ℕ, ◌+◌, ◌*◌, ◌≤◌, ◌≡◌, List, length, None}
use Rattle.reader.specs.Reading.{sheet, read}
use Rattle.comments.specs.Set.{first}
use Rattle.layout.specs.Meaning.{Page, Event, done}
use Rattle.layout.specs.Walk.{walk}
use Rattle.layout.specs.Events.{deepest, letters, units, is_left}
use Rattle.formatter.specs.Verdict.{accepted, judge, max_width}

-- A sheet that the check accepts: it is read to its tokens and walked to its end, and no comment is left.
pub record Sheet (text rec : List ℕ) (p : Page) (es : List Event) : Type 0 where
  pub tree : ℕ
  pub end : ℕ
  pub page : p ≡ record { text = text; rec = rec; tokens = p.tokens }
  pub reads : read text rec ≡ sheet p.tokens tree
  pub walks : walk p tree ≡ done end es
  pub none_left : first (is_left p.tokens.kinds es) 0 (length p.tokens.kinds) ≡ None

-- The check accepts the sheet, and the two bounds hold.
pub record Fits (text rec : List ℕ) (tab : ℕ) (out : List ℕ) : Type 0 where
  pub page : Page
  pub events : List Event
  pub accepts : judge text rec ≡ accepted page events
  pub width : deepest events * tab ≤ max_width
  pub room : letters page events + tab * units events ≤ length out
