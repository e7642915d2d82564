-- Laws of the table: its rule, and what a code and a row stand for.
use Prim.Native.Nat.{ℕ, zero, suc, ◌+◌, ◌-◌, ◌≤◌, ◌<◌}
use mathlib.Core.Path.{◌≡◌, refl, sym, ◌∙◌, ap}
use mathlib.Core.List.{List, [], ◌∷◌, ◌++◌, map}
use native.Mathlib.Omega.{arith}
use lib.ListN.{length, get_or, take, drop, get_or-map, get_or-append, get_or-eq_default}
use lib.Seq.{get_or-append-add}
use Rattle.reader.specs.Fields.{Fields, none, token, group, forms, Family, DecOne, StrExp, SigExp, Exp, Pat, Ty}
use Rattle.reader.specs.declared.grammar.TheConstants.{GRAMMAR}
use Rattle.reader.specs.Promises.Grammar.{groups, nodes, node, field_of, digits, fields_of, inside, up_to, held, rows, first_row}

-- The table has a row of codes for each, by computation.
spells : map fields_of GRAMMAR ≡ rows
unfolding groups nodes node field_of digits inside up_to held rows forms
spells = refl

pub row_at : (row : ℕ) → fields_of (get_or GRAMMAR row 0) ≡ get_or rows row none
unfolding digits
row_at row = sym (get_or-map fields_of GRAMMAR row 0) ∙ ap (λ (fs : List Fields). get_or fs row none) spells

-- Rows in a row, from the place where they start.
pub within : (row : ℕ) (fs : List Fields) → row ≡ length (take row rows) → rows ≡ take row rows ++ (fs ++ drop (row + length fs) rows)
    → (n : ℕ) → n < length fs → get_or rows (row + n) none ≡ get_or fs n none
within row fs l e n h =
    let rest = fs ++ drop (row + length fs) rows in
    ap (λ (rs : List Fields). get_or rs (row + n) none) e
    ∙ ap (λ (k : ℕ). get_or (take row rows ++ rest) (k + n) none) l
    ∙ get_or-append-add (take row rows) rest n none
    ∙ get_or-append fs (drop (row + length fs) rows) none n h

-- The rows of a family's forms.
pub form_row : (family : Family) (n : ℕ) → n < length (forms family) → get_or rows (first_row family + n) none ≡ get_or (forms family) n none
unfolding rows forms held up_to inside groups first_row
form_row DecOne = within (first_row DecOne) (forms DecOne) refl refl
form_row StrExp = within (first_row StrExp) (forms StrExp) refl refl
form_row SigExp = within (first_row SigExp) (forms SigExp) refl refl
form_row Exp = within (first_row Exp) (forms Exp) refl refl
form_row Pat = within (first_row Pat) (forms Pat) refl refl
form_row Ty = within (first_row Ty) (forms Ty) refl refl

pub row_small : (family : Family) (n : ℕ) → n < length (forms family) → first_row family + n < 256
unfolding forms first_row
row_small DecOne n h = omega arith
row_small StrExp n h = omega arith
row_small SigExp n h = omega arith
row_small Exp n h = omega arith
row_small Pat n h = omega arith
row_small Ty n h = omega arith

-- The default of an entry that is there plays no part.
get_d_any : (l : List Fields) (n : ℕ) (d e : Fields) → n < length l → get_or l n d ≡ get_or l n e
get_d_any [] n d e h = absurd (omega arith)
get_d_any (x ∷ l) zero d e h = refl
get_d_any (x ∷ l) (suc n) d e h = get_d_any l n d e (omega arith)

-- The row of a group, from the first group's on.
abbrev pub first_group : ℕ
first_group = length rows - length groups

group_from : (n : ℕ) → n < length groups → get_or nodes (suc n) token ≡ group (get_or rows (first_group + n) none)
unfolding rows forms held up_to inside groups nodes
group_from n h =
    get_or-append groups (drop (suc (length groups)) nodes) token n h
    ∙ get_d_any groups n token (group none) h
    ∙ get_or-map (λ (f : Fields). group (inside f)) groups n none
    ∙ ap group (sym (get_or-append-add (take first_group rows) (map inside groups) n none ∙ get_or-map inside groups n none))

pub group_row : (code : ℕ) → (code ≡ 0 → ⊥) → code ≤ length groups → node code ≡ group (get_or rows (code + (first_group - 1)) none)
unfolding node rows forms held up_to inside groups
group_row code z h =
    let e : code ≡ suc (code - 1) = omega arith in
    let k : code + (first_group - 1) ≡ first_group + (code - 1) = omega arith in
    ap (λ (n : ℕ). get_or nodes n token) e
    ∙ group_from (code - 1) (omega arith)
    ∙ ap (λ (n : ℕ). group (get_or rows n none)) (sym k)

-- Every code left over is a token's.
pub token_code : (code : ℕ) → length nodes ≤ code → node code ≡ token
unfolding node
token_code code h = get_or-eq_default nodes token h
