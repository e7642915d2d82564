-- What the walk's functions do to what is lent to them, event by event.
-- Their sums wrap; proofs/Exact says that below the limits they are the sums of Events.
use Rattle.std.specs.Prelude.{◌≡◌, ℕ, ◌+◌, ◌-◌, ◌*◌, ◌/◌, ◌%◌, max, Bool, true, false, cond, List, [], ◌∷◌, length, take, drop, replicate, nat_le, nat_lt, slice_index, slice_set, Option, None, Some, Result, Ok, Err}
use Rattle.std.proofs.Math.Seq.{paste}
use Rattle.text.specs.Bytes.{bytes}
use Rattle.comments.specs.Set.{clear}
use Rattle.layout.specs.declared.Cfg.{Cfg}
use Rattle.layout.specs.declared.Ink.{Ink}
use Rattle.layout.specs.declared.Piece.{Piece}
use Rattle.layout.specs.declared.Stop as Code
use Rattle.layout.specs.declared.Stop.TheVariants as Why
use Rattle.reader.specs.declared.commands.Declaration.{Declaration}
use Rattle.reader.specs.Fields as Fields
use Rattle.reader.specs.Fields.{DecOne, Ty}
use Rattle.reader.specs.declared.Refusal.{Refusal}
use Rattle.reader.specs.Reading.{place_of}
use Rattle.reader.specs.Promises.Tree.{told}
use Rattle.reader.specs.Check.{token_fits, form_fits, end_within}
use Rattle.reader.specs.Commands.{absent_at, group_at, form_at, form_width, first_token}
use Rattle.layout.specs.Layout.{Layout}
use Rattle.layout.specs.Helpers as Helpers
use Rattle.layout.specs.Meaning.{Page, Event, Word, Token, Comment, Formed, Indent, Outcome, done, stopped, Stop}
use Rattle.layout.specs.Meaning.{absent, imported, outcome, token_text, commented, above_first, operated}
use Rattle.layout.specs.Events.{trimmed}
use Rattle.layout.specs.Walk.{walks}

-- A sum of 64 bits.
abbrev pub sum_of : ℕ → ℕ → ℕ
sum_of a b = (a + b) % 0x1_0000_0000_0000_0000

-- The width of indents, by the sum of their depths.
abbrev pub width_of : ℕ → ℕ → ℕ
width_of tab units = tab % 0x1_0000_0000 * (units % 0x1_0000_0000)

-- Where an indent ends that starts at the position.
abbrev pub indent_end : ℕ → Ink → ℕ
indent_end d i = sum_of i.position (width_of i.tab d)

abbrev pub advanced : ℕ → Ink → Ink
advanced n i = record i { position = sum_of i.position n }

abbrev pub add_units : ℕ → Ink → Ink
add_units d i = record i { position = indent_end d i; units = sum_of i.units d }

abbrev pub deepened : ℕ → Ink → Ink
deepened d i = record i { deepest = max i.deepest d }

-- The words of a set without the token. The comments left without it.
abbrev pub struck_words : ℕ → List ℕ → List ℕ
struck_words k ws = cond (nat_lt (k / 64) 64) (slice_set ws (k / 64) (clear (slice_index ws (k / 64)) (k % 64))) ws

abbrev pub struck : ℕ → Ink → Ink
struck k i = record i { left = record { words = struck_words k i.left.words } }

-- A piece in the output at an offset, where it fits.
abbrev pub placed : List ℕ → ℕ → List ℕ → List ℕ
placed o at w = cond (nat_le (at + length w) (length o)) (paste o at w (length w)) o

-- Spaces in the output from an offset to another, where they fit.
abbrev pub spaced : List ℕ → ℕ → ℕ → List ℕ
spaced o at end = cond (nat_le end (length o)) (paste o at (replicate (end - at) 32) (end - at)) o

-- A part of one of two runs of bytes.
abbrev pub piece_of : List ℕ → List ℕ → Piece → List ℕ
piece_of run text (Piece.Word a n) = take n (drop a run)
piece_of run text (Piece.Text a n) = take n (drop a text)

-- The state of a run: the cursor, what is written beside the output, the output.
pub record Run : Type 0 where
  pub at : ℕ
  pub ink : Ink
  pub out : List ℕ

abbrev pub run_of : ℕ → Ink → List ℕ → Run
run_of a i o = record { at = a; ink = i; out = o }

abbrev pub at : ℕ → Run → Run
at a g = run_of a g.ink g.out

-- A piece is written.
abbrev pub wrote : List ℕ → Run → Run
wrote w g = run_of g.at (advanced (length w) g.ink) (placed g.out g.ink.position w)

-- An indent is written.
abbrev pub indented : ℕ → Run → Run
indented d g = run_of g.at (add_units d g.ink) (spaced g.out g.ink.position (indent_end d g.ink))

module _ (p : Page) where
  unfoldable pub effect : Event → Run → Run
  effect (Word w) g = wrote (bytes w) g
  effect (Token k) g = wrote (token_text p k) g
  effect (Comment k) g = wrote (trimmed p k) (run_of g.at (struck k g.ink) g.out)
  effect (Formed d) g = run_of g.at (deepened d g.ink) g.out
  effect (Indent d) g = indented d g

  unfoldable pub effects : List Event → Run → Run
  effects [] g = g
  effects (e ∷ es) g = effects es (effect e g)

-- Where a run ends: with the cursor moved, or at a stop.
pub data Ran : Type 0 where
  went : Run → Ran
  fell : Stop → Ink → List ℕ → Ran

module _ (p : Page) where
  unfoldable pub run : Outcome → Run → Ran
  run (done a es) g = went (at a (effects p es g))
  run (stopped why es) g = fell why (effects p es g).ink (effects p es g).out

  -- A layout from the cursor of the state.
  unfoldable pub runs : Layout → Run → Ran
  runs w g = run (outcome p w g.at) g

-- Why a walk stops.
unfoldable pub why_of : Code.Stop → Stop
why_of (Why.Absent a) = absent a
why_of (Why.Import a) = imported a

-- A walk's answer with what it left.
unfoldable pub ended : Result ℕ Code.Stop → Ink → List ℕ → Ran
ended (Ok a) i o = went (run_of a i o)
ended (Err why) i o = fell (why_of why) i o

-- The configuration that a layout sees.
abbrev pub cfg_of : Cfg → Helpers.Cfg
cfg_of c = record { depth = c.depth; extra_blank = c.blank }

-- ---- contracts: a record each, so that a law's arguments are found from it
-- What counts of a run: all of it; or, where no walk goes on behind a stop, of one that stopped the stop alone.
unfoldable pub shown : Bool → Ran → Ran
shown keep (went g) = went g
shown true (fell why i o) = fell why i o
shown false (fell why i o) = fell why (record { position = 0; units = 0; deepest = 0; tab = 0; left = record { words = [] } }) []

-- What a function of the walk says: its answer and what it left are what the layout's run leaves; at a stop what it left is, where that
-- is kept.
pub record Walked (keep : Bool) (p : Page) (w : Layout) (g : Run) (r : Result ℕ Code.Stop) (i : Ink) (o : List ℕ) : Type 0 where
  pub is : shown keep (ended r i o) ≡ shown keep (runs p w g)

-- The same of a function whose layout is given by the walks one form deeper and the configuration. AppExp walks into its first
-- expression before it asks what 000 asks before; so nothing is said of what was written at a stop.
abbrev pub Does : Page → Cfg → (Helpers.Walkers → Helpers.Cfg → Layout) → Run → Result ℕ Code.Stop → Ink → List ℕ → Type 0
Does p c w g r i o = Walked false p (w (walks c.nesting) (cfg_of c)) g r i o

-- A piece is written.
pub record Put (w : List ℕ) (i : Ink) (o : List ℕ) (i' : Ink) (o' : List ℕ) : Type 0 where
  pub ink : i' ≡ advanced (length w) i
  pub out : o' ≡ placed o i.position w

-- What a function says that only writes: from any cursor what it left is what the layout's run leaves.
pub record Sure (w : Layout) (i : Ink) (o : List ℕ) (i' : Ink) (o' : List ℕ) : Type 0 where
  pub is : (p : Page) (a : ℕ) → went (run_of a i' o') ≡ runs p w (run_of a i o)

-- What a function says that writes the comment above a first token, and a layout behind it.
pub record CommentedAbove (p : Page) (first : Option ℕ) (line : Layout) (i : Ink) (o : List ℕ) (i' : Ink) (o' : List ℕ) : Type 0 where
  pub is : (a : ℕ) → went (run_of a i' o') ≡ run p (commented (above_first p first) (outcome p line) a) (run_of a i o)

-- What a function says that writes an operator that was kept.
pub record Operated (p : Page) (k : ℕ) (pipe gap : Layout) (i : Ink) (o : List ℕ) (i' : Ink) (o' : List ℕ) : Type 0 where
  pub is : (a : ℕ) → went (run_of a i' o') ≡ run p (operated p k (outcome p pipe) (outcome p gap) a) (run_of a i o)

-- A configuration is one deeper than another.
pub record Deeper (c new : Cfg) : Type 0 where
  pub is : new ≡ record { depth = c.depth + 1; blank = c.blank; nesting = c.nesting }

-- ---- what is read at the cursor
-- With the cursor behind it; or a stop.
unfoldable pub read_of : ℕ → ℕ → Option ℕ → Result (ℕ × ℕ) Code.Stop
read_of width at (Some n) = Ok (n, at + width)
read_of width at None = Err (Why.Absent at)

unfoldable pub group_of : List ℕ → ℕ → Result ℕ Code.Stop
group_of rec at = elim (group_at rec at) [ true ↦ Ok (at + 1) | false ↦ Err (Why.Absent at) ]

unfoldable pub gone_of : List ℕ → ℕ → Option ℕ
gone_of rec at = elim (absent_at rec at) [ true ↦ Some (at + 1) | false ↦ None ]

-- Whether a token stands at the cursor or is absent.
unfoldable pub present_of : List ℕ → ℕ → ℕ → Result (Bool × ℕ) Code.Stop
present_of rec count at =
    elim (token_fits rec count at) [
      | Some k ↦ Ok (true, at + 3)
      | None ↦ elim (absent_at rec at) [ true ↦ Ok (false, at + 1) | false ↦ Err (Why.Absent at) ]
    ]

-- A declaration's command whose operand is in range: the number of its form, its first token, the place of its fields.
unfoldable pub declared_of : List ℕ → ℕ → ℕ → Result Declaration Code.Stop
declared_of rec count at =
    elim (form_fits rec count DecOne at)
    [ Some n ↦ Ok (record { number = n; first = first_token rec at; next = at + form_width DecOne }) | None ↦ Err (Why.Absent at) ]

-- Where a walk goes on behind fields that are passed over.
unfoldable pub behind : Result ℕ Refusal → Result ℕ Code.Stop
behind (Ok next) = Ok next
behind (Err why) = Err (Why.Absent (place_of why))

-- Where it goes on behind a type at an offset whose answer is dropped.
unfoldable pub onwards_of : List ℕ → ℕ → ℕ → ℕ → Result ℕ Code.Stop → Result ℕ Code.Stop
onwards_of rec count nesting at (Ok next) = Ok next
onwards_of rec count nesting at (Err why) =
    elim (form_at rec Ty at) [ Some k ↦ behind (told (end_within rec count nesting (Fields.form Ty) at)) | None ↦ Err why ]
