-- Contracts of the functions behind `check` and `get`: what they know of the walk over a sheet.
use Rattle.std.specs.Prelude.{ℕ, ◌≤◌, ◌≡◌, List, length, take, Ok, Err}
use Rattle.std.specs.Prelude as Std
use Rattle.reader.specs.Fields.{DecOne}
use Rattle.reader.specs.Commands.{form_width}
use Rattle.reader.specs.Tokens.{Tokens, max_tokens}
use Rattle.reader.specs.Check.{Checked, ok}
use Rattle.reader.specs.Reading.{max_text, max_record}
use Rattle.layout.specs.Meaning.{Page, Event, done}
use Rattle.layout.specs.Walk.{walk}
use Rattle.layout.specs.Events.{deepest, letters, units, formatted}
use Rattle.layout.specs.declared.Stop.{Stop}
use Rattle.layout.specs.declared.Stop.TheVariants.{Import}
use Rattle.layout.specs.Promises.State.{why_of}
use Rattle.formatter.specs.declared.Measures.{Measures}
use Rattle.formatter.specs.declared.FormatError.{FormatError}
use Rattle.formatter.specs.declared.Judged as Code
use Rattle.formatter.specs.Promises.WalkFirst.{by_walk}
use Rattle.formatter.specs.Verdict.{Verdict, verdict, no_measures, empty_set, verdict_of, measures_of}
use Rattle.formatter.specs.Verdict.{stop_verdict, Judged, declined, accepted, judge, Result, format}

-- The verdict of a walk that did not end at the record's end, where the record passes the check.
abbrev pub otherwise : Std.Result ℕ Stop → Verdict
otherwise (Ok end) = verdict 3 end no_measures
otherwise (Err why) = stop_verdict (why_of why)

-- A walk that stopped at an import did so behind a declaration's command; so it is where the check passes.
pub record BehindCommand (walked : Std.Result ℕ Stop) : Type 0 where
  pub is : (next : ℕ) → walked ≡ Err (Import next) → form_width DecOne ≤ next

pub record BehindWhere (c : Checked) (walked : Std.Result ℕ Stop) : Type 0 where
  pub is : (end : ℕ) → c ≡ ok end → BehindCommand walked

-- The page of a text, a record and its tokens.
abbrev pub page_of : List ℕ → List ℕ → Tokens → Page
page_of text rec ts = record { text = text; rec = rec; tokens = ts }

-- The walk over a sheet ends, with these measures, none of which is large.
pub record Weight (p : Page) (tree : ℕ) (m : Measures) : Type 0 where
  pub events : List Event
  pub end : ℕ
  pub walks : walk p tree ≡ done end events
  pub measures : m ≡ measures_of p events
  pub deep : deepest events ≤ 400
  pub few : letters p events ≤ 0x4000_0000
  pub low : units events ≤ 0x4000_0000

-- What the walk leaves in a draft: the formatted text stands in its first bytes, where it fits.
pub record Drafts (p : Page) (tree tab : ℕ) (draft : List ℕ) : Type 0 where
  pub is : (end : ℕ) (es : List Event) → walk p tree ≡ done end es → length (formatted p tab es) ≤ length draft
      → take (length (formatted p tab es)) draft ≡ formatted p tab es

-- The walk ends with these measures, and what it leaves in a draft.
abbrev pub Drafted : Page → Code.Judged → ℕ → List ℕ → Type 0
Drafted p j tab draft = Weight p j.tree j.measures × Drafts p j.tree tab draft

-- The judgement accepts the sheet: its measures, the draft, and no comment left.
pub record Accepts (j : Judged) (p : Page) (tree tab : ℕ) (m : Measures) (draft left : List ℕ) : Type 0 where
  pub weight : Weight p tree m
  pub accepts : j ≡ accepted p weight.events
  pub drafts : Drafts p tree tab draft
  pub empty : left ≡ empty_set

-- 01's limits of a page.
pub record Limits (p : Page) : Type 0 where
  pub text_fits : length p.text ≤ max_text
  pub rec_fits : length p.rec ≤ max_record
  pub few : length p.tokens.kinds ≤ max_tokens

-- What an answer says of a page: 3, 4, 13, 14 and 6.
abbrev weighed : Page → ℕ → ℕ → List ℕ → List ℕ → Std.Result Measures FormatError → Type 0
weighed p tree tab draft left (Ok m) = Accepts (by_walk p tree) p tree tab m draft left
weighed p tree tab draft left (Err why) = by_walk p tree ≡ declined (verdict_of (Err why) left)

pub record Weighs (p : Page) (tree tab : ℕ) (draft left : List ℕ) (r : Std.Result Measures FormatError) : Type 0 where
  pub is : weighed p tree tab draft left r

-- What an answer says of a text and a record with its tokens: 1 to 4, 13, 14 and 6.
abbrev judged : List ℕ → List ℕ → Tokens → ℕ → List ℕ → List ℕ → Std.Result Code.Judged FormatError → Type 0
judged text rec ts tab draft left (Ok j) = Accepts (judge text rec) (page_of text rec ts) j.tree tab j.measures draft left
judged text rec ts tab draft left (Err why) = judge text rec ≡ declined (verdict_of (Err why) left)

pub record Judges (text rec : List ℕ) (ts : Tokens) (tab : ℕ) (draft left : List ℕ) (r : Std.Result Code.Judged FormatError) : Type 0 where
  pub is : judged text rec ts tab draft left r

-- 7, then 8, or the text, of the walk over the sheet.
pub record Puts (p : Page) (tree tab : ℕ) (out : List ℕ) (r : Std.Result Measures FormatError) (out' : List ℕ) : Type 0 where
  pub is : (end : ℕ) (es : List Event) → walk p tree ≡ done end es
      → ◌≡◌ {A = Result} (record { verdict = verdict_of r empty_set; out = out' }) (format tab p es out)
