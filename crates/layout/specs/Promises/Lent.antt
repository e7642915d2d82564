-- The contracts of the walk's functions, said of what is lent to them: first the layout, then the function's parameters in their
-- order, then its answer. Each is a record of State, of what the references hold at the function's entry and at its exit.
use Rattle.std.specs.Prelude.{ℕ, Bool, true, false, List, Option, Result, ⊤, ◌≡◌}
use Rattle.std.specs.Borrow.{Bor, MutBor}
use Prim.Native.String.{String}
use denote.Triple.Both.{Both}
use Rattle.reader.specs.Tokens.{count_of as tokens_in}
use Rattle.reader.specs.Promises.Tokens.{starts_of, lengths_of}
use Rattle.text.specs.Bytes.{bytes}
use Rattle.layout.specs.declared.Page as Code
use Rattle.layout.specs.declared.Cfg.{Cfg}
use Rattle.layout.specs.declared.Ink.{Ink}
use Rattle.layout.specs.declared.Stop.{Stop}
use Rattle.layout.specs.Layout.{Layout, ◌⨾◌, list}
use Rattle.layout.specs.Helpers as Helpers
use Rattle.layout.specs.Helpers.{items, for_each, sep, new_line, sep_with_lines, word_if}
use Rattle.layout.specs.Meaning.{Page, Token, Comment}
use Rattle.layout.specs.Promises.State.{run_of, effect, cfg_of, Walked, Does, Put, Sure, Operated, CommentedAbove}

-- The sheet that is lent.
abbrev pub page_in : Code.Page → Page
page_in p =
    record {
      text = p.text.now;
      rec = p.rec.now;
      tokens = record { kinds = p.kinds.now; starts = starts_of p.spans.now; lengths = lengths_of p.spans.now };
    }

abbrev pub Lent : Type 0
Lent = Both (Bor Code.Page) (Bor Code.Page)

abbrev pub page_of : Lent → Page
page_of p = page_in p.entry.now

abbrev pub rec_of : Lent → List ℕ
rec_of p = (page_of p).rec

abbrev pub count_of : Lent → ℕ
count_of p = tokens_in (page_of p).tokens

-- What is lent to be changed: the output, and what is written beside it.
abbrev pub Output : Type 0
Output = Both (MutBor (List ℕ)) (MutBor (List ℕ))

abbrev pub Inks : Type 0
Inks = Both (MutBor Ink) (MutBor Ink)

-- ---- functions that walk
-- Of types and patterns. TupleTy goes on behind a type that stopped, so all is kept.
abbrev pub plainly : Layout → (page : Lent) (out : Output) (ink : Inks) (at : ℕ) (r : Result ℕ Stop) → Type 0
plainly w page out ink at r = Walked true (page_of page) w (run_of at ink.entry.now out.entry.now) r ink.exit.now out.exit.now

abbrev pub does : (Helpers.Walkers → Helpers.Cfg → Layout) → (page : Lent) (out : Output) (ink : Inks) (at : ℕ) (cfg : Cfg) (r : Result ℕ Stop) → Type 0
does w page out ink at cfg r = Does (page_of page) cfg w (run_of at ink.entry.now out.entry.now) r ink.exit.now out.exit.now

-- ---- functions that write
abbrev pub writes : Layout → (out : Output) (ink : Inks) → Type 0
writes w out ink = Sure w ink.entry.now out.entry.now ink.exit.now out.exit.now

-- A piece.
abbrev pub Bytes : Type 0
Bytes = Both (Bor (List ℕ)) (Bor (List ℕ))

abbrev pub puts : Bytes → (out : Output) (ink : Inks) → Type 0
puts piece out ink = Put piece.entry.now ink.entry.now out.entry.now ink.exit.now out.exit.now

-- An indent's depth is formed.
abbrev pub forms : Layout → (ink : Inks) → Type 0
forms w ink = (o : List ℕ) → Sure w ink.entry.now o ink.exit.now o

-- The text of a token; a comment's trimmed text, which is then not left any more.
abbrev pub writes_token : (page : Lent) (out : Output) (ink : Inks) (k : ℕ) → Type 0
writes_token page out ink k =
    (a : ℕ) → run_of a ink.exit.now out.exit.now ≡ effect (page_of page) (Token k) (run_of a ink.entry.now out.entry.now)

abbrev pub strikes_comment : (page : Lent) (out : Output) (ink : Inks) (k : ℕ) → Type 0
strikes_comment page out ink k =
    (a : ℕ) → run_of a ink.exit.now out.exit.now ≡ effect (page_of page) (Comment k) (run_of a ink.entry.now out.entry.now)

-- ---- the items of a list
-- What a call of the joint may do, and what a call of the item may do and answer.
abbrev pub Joint : Type 1
Joint = MutBor (List ℕ) → MutBor Ink → ⊤ → MutBor (List ℕ) → MutBor Ink → Type 0

abbrev pub Item : Type 1
Item = MutBor (List ℕ) → MutBor Ink → ℕ → Result ℕ Stop → MutBor (List ℕ) → MutBor Ink → Type 0

abbrev pub WritesJoint : Joint → Layout → Type 0
WritesJoint post u = (o : MutBor (List ℕ)) (i : MutBor Ink) (o' : MutBor (List ℕ)) (i' : MutBor Ink) → post o i tt o' i' → Sure u i.now o.now i'.now o'.now

abbrev pub WalksItem : Item → Bool → Page → Layout → Type 0
WalksItem post keep p w =
    (o : MutBor (List ℕ)) (i : MutBor Ink) (a : ℕ) (r : Result ℕ Stop) (o' : MutBor (List ℕ)) (i' : MutBor Ink)
    → post o i a r o' i' → Walked keep p w (run_of a i.now o.now) r i'.now o'.now

-- So many items with the joint before each but the first; those of the list at the cursor.
abbrev pub Items : Joint → Item → (out : Output) (ink : Inks) (n at : ℕ) (r : Result ℕ Stop) → Type 0
Items joint item out ink n at r =
    (keep : Bool) (p : Page) (u w : Layout) → WritesJoint joint u → WalksItem item keep p w
    → Walked keep p (items n w (u ⨾ w)) (run_of at ink.entry.now out.entry.now) r ink.exit.now out.exit.now

abbrev pub Joined : Joint → Item → (page : Lent) (out : Output) (ink : Inks) (at : ℕ) (r : Result ℕ Stop) → Type 0
Joined joint item page out ink at r =
    (keep : Bool) (u w : Layout) → WritesJoint joint u → WalksItem item keep (page_of page) w
    → Walked keep (page_of page) (list (λ n. items n w (u ⨾ w))) (run_of at ink.entry.now out.entry.now) r ink.exit.now out.exit.now

-- The items alone; with a fixed word before each but the first.
abbrev pub ForEach : Item → (page : Lent) (out : Output) (ink : Inks) (at : ℕ) (r : Result ℕ Stop) → Type 0
ForEach item page out ink at r =
    (keep : Bool) (w : Layout) → WalksItem item keep (page_of page) w
    → Walked keep (page_of page) (for_each w) (run_of at ink.entry.now out.entry.now) r ink.exit.now out.exit.now

abbrev pub Separated : Item → (page : Lent) (out : Output) (ink : Inks) (at : ℕ) (separator : Bytes) (r : Result ℕ Stop) → Type 0
Separated item page out ink at separator r =
    (keep : Bool) (u : String) (w : Layout) → bytes u ≡ separator.entry.now → WalksItem item keep (page_of page) w
    → Walked keep (page_of page) (sep u w) (run_of at ink.entry.now out.entry.now) r ink.exit.now out.exit.now

-- With a line between.
abbrev pub writes_new_line : Cfg → (out : Output) (ink : Inks) (separator : Bytes) → Type 0
writes_new_line cfg out ink separator = (u : String) → bytes u ≡ separator.entry.now → writes (new_line (cfg_of cfg) u) out ink

abbrev pub SeparatedByLines : Item → (page : Lent) (out : Output) (ink : Inks) (at : ℕ) (cfg : Cfg) (separator : Bytes) (r : Result ℕ Stop) → Type 0
SeparatedByLines item page out ink at cfg separator r =
    (keep : Bool) (u : String) (w : Layout) → bytes u ≡ separator.entry.now → WalksItem item keep (page_of page) w
    → Walked keep (page_of page) (sep_with_lines (cfg_of cfg) u w) (run_of at ink.entry.now out.entry.now) r ink.exit.now out.exit.now

-- ---- what else helpers say
-- A fixed word where the token at the cursor is there.
abbrev pub writes_word_if : (page : Lent) (out : Output) (ink : Inks) (at : ℕ) (fixed : Bytes) (r : Result ℕ Stop) → Type 0
writes_word_if page out ink at fixed r = (u : String) → bytes u ≡ fixed.entry.now → plainly (word_if u) page out ink at r

-- What is said of the fixed word that is handed over.
abbrev pub by_word : Bytes → (String → Type 0) → Type 0
by_word fixed says = (u : String) → bytes u ≡ fixed.entry.now → says u

-- An operator that was kept.
abbrev pub writes_operator : (pipe gap : Layout) → (page : Lent) (out : Output) (ink : Inks) (k : ℕ) → Type 0
writes_operator pipe gap page out ink k =
    Operated (page_of page) k pipe gap ink.entry.now out.entry.now ink.exit.now out.exit.now

-- The walk over a sheet.
abbrev pub walked : Layout → (page : Lent) (out : Output) (ink : Inks) (at : ℕ) (r : Result ℕ Stop) → Type 0
walked w page out ink at r = Walked false (page_of page) w (run_of at ink.entry.now out.entry.now) r ink.exit.now out.exit.now

-- The comment above a first token, and a layout behind it.
abbrev pub writes_above : Layout → (page : Lent) (out : Output) (ink : Inks) → Option ℕ → Type 0
writes_above line page out ink first =
    CommentedAbove (page_of page) first line ink.entry.now out.entry.now ink.exit.now out.exit.now
