-- A layout: what an arm of 000 reads of the record and what it writes, in order, as data. One meaning for all of them is in Meaning.
-- What a layout may ask is all here, and no layout holds a token's number, so a law about layouts is one induction.
use Rattle.std.specs.Prelude.{ℕ, Bool}
use Prim.Native.String.{String}
use Rattle.reader.specs.Fields.{Family}

-- A question about the expression at the cursor, which stays where it is.
pub data Look : Type 0 where
  is_if_exp body_exp_needs_newline : Look

-- A question about a token's text.
pub data Test : Type 0 where
  -- it is `!`
  is_bang : Test
  -- it is `|>`
  is_pipe : Test
  -- its first byte is an ASCII letter
  is_alphabetic : Test
  -- its first byte is an ASCII letter or digit
  is_alphanumeric : Test

infixr 30 ◌⨾◌
pub data Layout : Type 0 where
  -- nothing; one layout after another
  skip : Layout
  ◌⨾◌ : Layout → Layout → Layout
  -- writes: a fixed word; an indent at a depth
  word : String → Layout
  output_indent : ℕ → Layout
  -- a depth that `indented` forms
  formed : ℕ → Layout
  -- fields that 000 takes with `?`: a token, whose text is written; a group, a choice, a form; a list, which is always there
  text : Layout
  group : Layout → Layout
  choice : (ℕ → Layout) → Layout
  form : Family → (ℕ → Layout) → Layout
  list : (ℕ → Layout) → Layout
  -- fields that may be absent: any one, passed over where it is; a token, of which only its presence counts
  maybe : Layout → Layout
  present : Layout → Layout → Layout
  -- an expression that 000 takes with `?` to ask a question about it; the cursor stays
  look : Look → Layout → Layout → Layout
  -- a path that 000 takes with `?`: the first layout where its first name is there and passes the test; the cursor stays
  first_name : Test → Layout → Layout → Layout
  -- the two expressions of AppExp, from the cursor on: whether the first is the name `!`, whether the second is symbolic; the cursor stays
  application : (Bool → Bool → Layout) → Layout
  -- a token that 000 takes with `?` and keeps; the first layout; then the second where the token is `|>`, else the third, its text, the third
  operator : Layout → Layout → Layout → Layout
  -- a declaration's command, with its operand: the comment above its first token and the layout behind it, where there is one;
  -- then the arm of its number
  declaration : Layout → (ℕ → Layout) → Layout
  -- a type whose result is dropped, with the number of forms that may stand inside one another there: where it stops, what it
  -- wrote stays, and the walk goes on behind it
  dropped : ℕ → Layout → Layout
  -- a stop at the cursor: at a part that is not there; at an import, behind its command
  halt import : Layout
