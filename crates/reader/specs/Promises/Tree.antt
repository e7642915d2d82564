-- Contracts of the record check behind the tokens.
use Rattle.std.specs.Prelude.{ℕ, ◌+◌, ◌≤◌, ◌<◌, ◌≡◌, List, Bool, true, false, length, get_or, Option, None, Some, Result, Ok, Err}
use Rattle.reader.specs.Fields.{Fields, token, group, choice, form}
use Rattle.reader.specs.Check.{Checked, ok, malformed, too_deep, items, fields, form_check, tree_check, field_end}
use Rattle.reader.specs.Promises.Grammar.{field_of, fields_of, node, rows}
use Rattle.reader.specs.Promises.Commands.{family_of}
use Rattle.reader.specs.declared.tree.Choice.{Choice}
use Rattle.reader.specs.declared.tree.Node.{Node}
use Rattle.reader.specs.declared.tree.Node.TheVariants as Nodes
use Rattle.reader.specs.declared.Refusal.{Refusal}
use Rattle.reader.specs.declared.Refusal.TheVariants.{Malformed, TooDeep}
use Rattle.reader.specs.declared.tree.Opened.{Opened}
use Rattle.reader.specs.declared.tree.Opened.TheVariants as Opening
use Rattle.reader.specs.declared.tree.Run.{Run}

-- The answer that says what a check says.
unfoldable pub told : Checked → Result ℕ Refusal
told (ok at) = Ok at
told (malformed place) = Err (Malformed place)
told (too_deep place) = Err (TooDeep place)

module _ (rec : List ℕ) (count : ℕ) where
  -- What is left of a node once its command is read.
  unfoldable pub opened : Result Opened Refusal → Result ℕ Refusal
  opened (Ok (Opening.Token next)) = Ok next
  opened (Ok (Opening.Inside codes next nesting)) = told (fields rec count (form_check rec count nesting) true (fields_of codes) next)
  opened (Err why) = Err why

  -- A command that opens a node stands in the record, and the fields inside behind it.
  abbrev pub ahead : ℕ → Result Opened Refusal → Type 0
  ahead at (Ok (Opening.Token next)) = Unit {0}
  ahead at (Ok (Opening.Inside codes next nesting)) = (at < next) × (next ≤ length rec)
  ahead at (Err why) = Unit {0}

-- A node, where this many more forms may stand inside one another.
pub record Opens (rec : List ℕ) (count nesting : ℕ) (f : Fields) (at : ℕ) (r : Result Opened Refusal) : Type 0 where
  pub is : opened rec count r ≡ told (fields rec count (form_check rec count nesting) false f at)
  pub on : ahead rec count at r

-- What is left of a field once its own command is read: so many nodes, if it is there.
unfoldable pub ran : List ℕ → ℕ → ℕ → ℕ → Option Run → Checked
ran rec count nesting at (Some run) = items run.n (λ x. fields rec count (form_check rec count nesting) false (node run.code) x) run.at
ran rec count nesting at None = malformed at

-- Its nodes do not stand before it.
abbrev pub onwards : ℕ → Option Run → Type 0
onwards at (Some run) = at ≤ run.at
onwards at None = Unit {0}

-- The field of a code, whatever the number of tokens and of forms that may stand inside one another.
pub record Runs (rec : List ℕ) (code at : ℕ) (r : Option Run) : Type 0 where
  pub is : (count nesting : ℕ) → ran rec count nesting at r ≡ fields rec count (form_check rec count nesting) true (field_of code) at
  pub on : onwards at r

-- A choice between the nodes of rows in a row.
abbrev pub choice_of : Choice → Fields
choice_of c = choice c.n (λ which. get_or rows (c.row + which) Fields.none)

-- What the code's node stands for.
abbrev pub node_in : Node → Fields
node_in Nodes.Token = token
node_in (Nodes.Group row) = group (get_or rows row Fields.none)
node_in (Nodes.Form family) = form (family_of family)
node_in (Nodes.Choice c) = choice_of c

-- It reads as the node of a code.
pub record Stands (code : ℕ) (n : Node) : Type 0 where
  pub reads : {rec : List ℕ} {count nesting at : ℕ} {r : Result Opened Refusal} → Opens rec count nesting (node_in n) at r → Opens rec count nesting (node code) at r

pub record FieldsEnd (rec : List ℕ) (count nesting : ℕ) (may : Bool) (f : Fields) (at : ℕ) (r : Result ℕ Refusal) : Type 0 where
  pub is : r ≡ told (fields rec count (form_check rec count nesting) may f at)

pub record ItemsEnd (rec : List ℕ) (count nesting n : ℕ) (f : Fields) (at : ℕ) (r : Result ℕ Refusal) : Type 0 where
  pub is : r ≡ told (items n (λ next. fields rec count (form_check rec count nesting) false f next) at)

-- A field, read by itself.
pub record Ends (rec : List ℕ) (count : ℕ) (f : Fields) (at : ℕ) (r : Result ℕ Refusal) : Type 0 where
  pub is : r ≡ told (field_end rec count f at)

-- The record behind its tokens.
pub record TreeEnd (rec : List ℕ) (count at : ℕ) (r : Result ℕ Refusal) : Type 0 where
  pub is : r ≡ told (tree_check rec count at)
