-- Layouts that ask no kinds of tokens: what a function says of such a layout, by the kinds of the page that it is lent, it says by any
-- kinds; and what it says of the comment above a declaration, it says by any record. So with what the contracts of helpers, types, patterns and leaves say, the theorems at the end give it for each list of kinds.
use Rattle.std.proofs.Common.{◌≡◌, ℕ, zero, suc, ◌+◌, Bool, true, false, List, [], ◌∷◌, map, refl, ap, ◌∙◌}
use Rattle.std.specs.Prelude.{Option, None, Some, Result, nat_lt, slice_index_or, ⊤}
use Prim.Native.String.{String}
use Rattle.reader.specs.Fields.{Exp}
use Rattle.reader.specs.Forms.{SelectorExp, TyDec, DatDec, DatCopyDec, OpenDec, NonfixDec}
use Rattle.reader.specs.Tokens.{text_of, count_of}
use Rattle.reader.specs.Check.{token_fits}
use Rattle.reader.specs.Commands.{absent_at, list_at, group_at, choice_at, form_at, form_width}
use Rattle.layout.specs.declared.Ink.{Ink}
use Rattle.layout.specs.declared.Stop as Code
use Rattle.layout.specs.Layout.{Layout, skip, ◌⨾◌, word, text, group, choice, form, list, maybe, present}
use Rattle.layout.specs.Layout.{look, first_name, application, operator, declaration, dropped, halt}
use Rattle.layout.specs.Meaning.{Page, Outcome, done, stopped, absent, bind, or_stop, outcome, token_text, passes, sees, name_passes}
use Rattle.layout.specs.Meaning.{both, missing, heads_at, func_is_bang, arg_is_symbolic, commented, above_first, operated, onwards}
use Rattle.layout.specs.Events.{trimmed}
use Rattle.layout.specs.Helpers.{Cfg, Walkers, deepen, indent, indent_deeper, when, times, items, for_each, sep, new_line, sep_with_lines}
use Rattle.layout.specs.Helpers.{path, op, op_path, ty_vars, in_parens, ty_var_seq_there, ty_var_seq, word_if}
use Rattle.layout.specs.Ty.{ty_row, ty_rows, ty_args, ty_seq_there, ty_seq, star_ty, star_tys, ty, tys, ty_annotation_there, ty_annotation}
use Rattle.layout.specs.Pat.{con_arg_there, con_arg, RestPatRow, LabAndPatPatRow, as_tail_there, as_tail, LabPatRow}
use Rattle.layout.specs.Pat.{pat_row_inner, pat_row, pat_rows, pat_args, pat, pats}
use Rattle.layout.specs.Exp.{item_semi, exp}
use Rattle.layout.specs.DecOne.{ty_bind, ty_binds, with_type, con_bind, con_binds, dat_bind, dat_binds, names_space, int_lit}
use Rattle.layout.specs.DecOne.{PrefixFunBindCaseHead, infix_head, InfixFunBindCaseHead, case_head, case_pats, ex_bind_of, comment_line, dec_one}
use Rattle.layout.specs.GetDec.{sharing_tail, sharing_tails}
use Rattle.layout.specs.Walk.{walks}
use Rattle.layout.specs.Promises.State.{Run, run_of, effect, effects, run, runs, shown, Walked, Operated, CommentedAbove}

-- True of all but a declaration, which asks for the comment above it.
abbrev pub AsksNoKinds : Layout → Type 0
AsksNoKinds (v ⨾ w) = AsksNoKinds v × AsksNoKinds w
AsksNoKinds (group w) = AsksNoKinds w
AsksNoKinds (choice k) = (n : ℕ) → AsksNoKinds (k n)
AsksNoKinds (form family k) = (n : ℕ) → AsksNoKinds (k n)
AsksNoKinds (list k) = (n : ℕ) → AsksNoKinds (k n)
AsksNoKinds (maybe w) = AsksNoKinds w
AsksNoKinds (present v w) = AsksNoKinds v × AsksNoKinds w
AsksNoKinds (look l v w) = AsksNoKinds v × AsksNoKinds w
AsksNoKinds (first_name t v w) = AsksNoKinds v × AsksNoKinds w
AsksNoKinds (application k) = (b c : Bool) → AsksNoKinds (k b c)
AsksNoKinds (operator lhs pipe gap) = AsksNoKinds lhs × AsksNoKinds pipe × AsksNoKinds gap
AsksNoKinds (declaration line arm) = ⊥
AsksNoKinds (dropped nesting w) = AsksNoKinds w
AsksNoKinds _ = ⊤

-- The page with other kinds.
abbrev pub with_kinds : List ℕ → Page → Page
with_kinds ks p = record p { tokens = record p.tokens { kinds = ks } }

module _ (p : Page) (ks : List ℕ) where
  same_outcome : (w : Layout) → AsksNoKinds w → (at : ℕ) → outcome p w at ≡ outcome (with_kinds ks p) w at
  unfolding outcome passes sees name_passes func_is_bang arg_is_symbolic token_text text_of operated onwards bind
  same_outcome (v ⨾ w) e at = λ i. bind (same_outcome v e.0 at i) (λ next. same_outcome w e.1 next i)
  same_outcome (group w) e at = λ i. elim (group_at p.rec at) [ true ↦ same_outcome w e (at + 1) i | false ↦ stopped (absent at) [] ]
  same_outcome (choice k) e at = λ i. or_stop (choice_at p.rec at) at (λ n. same_outcome (k n) (e n) (at + 2) i)
  same_outcome (form family k) e at = λ i. or_stop (form_at p.rec family at) at (λ n. same_outcome (k n) (e n) (at + form_width family) i)
  same_outcome (list k) e at = λ i. or_stop (list_at p.rec at) at (λ n. same_outcome (k n) (e n) (at + 3) i)
  same_outcome (maybe w) e at = λ i. elim (absent_at p.rec at) [ true ↦ done (at + 1) [] | false ↦ same_outcome w e at i ]
  same_outcome (present v w) e at = λ i.
      elim (token_fits p.rec (count_of p.tokens) at) [
        | Some k ↦ same_outcome v e.0 (at + 3) i
        | None ↦ elim (absent_at p.rec at) [ true ↦ same_outcome w e.1 (at + 1) i | false ↦ stopped (absent at) [] ]
      ]
  same_outcome (look l v w) e at = λ i.
      or_stop (form_at p.rec Exp at) at (λ n. elim (sees p l at) [ true ↦ same_outcome v e.0 at i | false ↦ same_outcome w e.1 at i ])
  same_outcome (first_name t v w) e at = λ i.
      elim (group_at p.rec at) [
        | true ↦ elim (name_passes p t at) [ true ↦ same_outcome v e.0 at i | false ↦ same_outcome w e.1 at i ]
        | false ↦ stopped (absent at) []
      ]
  same_outcome (application k) e at = λ i.
      elim (heads_at p.rec (count_of p.tokens) at) [
        | both f a ↦ let b = func_is_bang p f in let c = arg_is_symbolic p a in same_outcome (k b c) (e b c) at i
        | missing place ↦ stopped (absent place) []
      ]
  same_outcome (operator lhs pipe gap) e at = λ i.
      or_stop (token_fits p.rec (count_of p.tokens) at) at
      (λ k. bind (same_outcome lhs e.0 (at + 3) i) (operated p k (λ next. same_outcome pipe e.1 next i) (λ next. same_outcome gap e.2 next i)))
  same_outcome (declaration line arm) e at = absurd e
  same_outcome (dropped nesting w) e at = λ i. onwards p nesting at (same_outcome w e at i)
  same_outcome _ e at = refl

  same_run : (x : Outcome) (g : Run) → run p x g ≡ run (with_kinds ks p) x g
  unfolding run effects effect token_text text_of trimmed
  same_run (done a es) g = refl
  same_run (stopped why es) g = refl

-- What is said of a layout by the page's kinds holds by any.
pub record AnyKinds (w : Layout) : Type 0 where
  pub is : {p : Page} {g : Run} {r : Result ℕ Code.Stop} {i : Ink} {o : List ℕ} → Walked true p w g r i o → (kinds : List ℕ) → Walked true (with_kinds kinds p) w g r i o

pub any_kinds : (w : Layout) → AsksNoKinds w → AnyKinds w
unfolding runs
any_kinds w e =
    record {
      is = λ {p} {g} h ks. record { is = h.is ∙ ap (shown true) (ap (λ x. run p x g) (same_outcome p ks w e g.at) ∙ same_run p ks (outcome (with_kinds ks p) w g.at) g) };
    }

-- The same of an operator that was kept.
pub operated_any_kinds : {p : Page} {k : ℕ} {pipe gap : Layout} {i i' : Ink} {o o' : List ℕ} → AsksNoKinds pipe → AsksNoKinds gap
    → Operated p k pipe gap i o i' o' → (kinds : List ℕ) → Operated (with_kinds kinds p) k pipe gap i o i' o'
unfolding operated passes token_text text_of
operated_any_kinds {p} {k} {pipe} {gap} {i} {o = o} e f h ks =
    record {
      is = λ a.
          h.is a
          ∙ ap (λ x. run p x (run_of a i o)) (λ j. operated p k (λ n. same_outcome p ks pipe e n j) (λ n. same_outcome p ks gap f n j) a)
          ∙ same_run p ks (operated p k (outcome (with_kinds ks p) pipe) (outcome (with_kinds ks p) gap) a) (run_of a i o);
    }

-- ---- the comment above a declaration asks for no record
abbrev pub with_rec : List ℕ → Page → Page
with_rec rec p = record p { rec = rec }

run_with_rec : (p : Page) (rec : List ℕ) (x : Outcome) (g : Run) → run p x g ≡ run (with_rec rec p) x g
unfolding run effects effect token_text text_of trimmed
run_with_rec p rec (done a es) g = refl
run_with_rec p rec (stopped why es) g = refl

pub above_any_record : {p : Page} {first : Option ℕ} (c : Cfg) {i i' : Ink} {o o' : List ℕ} → CommentedAbove p first (comment_line c) i o i' o'
    → (rec : List ℕ) → CommentedAbove (with_rec rec p) first (comment_line c) i o i' o'
unfolding outcome comment_line indent above_first bind
above_any_record {p} {first} c {i} {o = o} h rec = record { is = λ a. h.is a ∙ go a first }
  where
    go : (a : ℕ) (f : Option ℕ) → run p (commented (above_first p f) (outcome p (comment_line c)) a) (run_of a i o)
        ≡ run (with_rec rec p) (commented (above_first (with_rec rec p) f) (outcome (with_rec rec p) (comment_line c)) a) (run_of a i o)
    go a (Some k) = run_with_rec p rec (commented (above_first p (Some k)) (outcome p (comment_line c)) a) (run_of a i o)
    go a None = run_with_rec p rec (commented None (outcome p (comment_line c)) a) (run_of a i o)

-- Of each layout in a list.
abbrev pub Each : (Layout → Type 0) → List Layout → Type 0
Each P [] = ⊤
Each P (w ∷ ws) = P w × Each P ws

-- ---- repeated and chosen layouts
arms_ask : (ws : List Layout) → Each AsksNoKinds ws → (n : ℕ) → AsksNoKinds (slice_index_or ws n halt)
arms_ask [] e n = tt
arms_ask (w ∷ ws) e zero = e.0
arms_ask (w ∷ ws) e (suc n) = arms_ask ws e.1 n

times_ask : (w : Layout) → AsksNoKinds w → (n : ℕ) → AsksNoKinds (times n w)
unfolding times
times_ask w e zero = tt
times_ask w e (suc n) = (e, times_ask w e n)

items_ask : (v w : Layout) → AsksNoKinds v → AsksNoKinds w → (n : ℕ) → AsksNoKinds (items n v w)
unfolding items
items_ask v w d e zero = tt
items_ask v w d e (suc n) = (d, times_ask w e n)

when_asks : (b : Bool) (w : Layout) → AsksNoKinds w → AsksNoKinds (when b w)
unfolding when
when_asks true w e = e
when_asks false w e = tt

-- ---- the layouts of helpers, types, patterns and leaves, however many forms stand inside one another
pub helpers_any_kinds : (s : String)
    → Each AnyKinds (text ∷ group text ∷ path ∷ word_if s ∷ ty_vars ∷ in_parens ty_vars ∷ ty_var_seq_there ∷ ty_var_seq ∷ op ∷ present op skip ∷ op_path ∷ [])
unfolding path word_if ty_vars in_parens ty_var_seq_there ty_var_seq op op_path sep
helpers_any_kinds s = search (any_kinds, items_ask) depth 8

get_ty_asks : (n : ℕ) → AsksNoKinds (walks n).get_ty
unfolding walks ty_rows ty_row ty_seq ty_seq_there ty_args star_tys star_ty tys ty for_each path sep
get_ty_asks zero = tt
get_ty_asks (suc n) = arms_ask (tys (walks n)) (search (items_ask, times_ask, get_ty_asks n))

pub types_any_kinds : (n : ℕ) → let ws = walks n in
    Each AnyKinds
    (ws.get_ty ∷ ty_annotation ws ∷ ty_annotation_there ws ∷ ty_row ws ∷ ty_rows ws ∷ ty_args ws ∷ ty_seq_there ws ∷ ty_seq ws
    ∷ star_ty ws ∷ star_tys ws ∷ tys ws)
unfolding ty_annotation ty_annotation_there ty_rows ty_row ty_seq ty_seq_there ty_args star_tys star_ty tys ty for_each path sep
types_any_kinds n = search (any_kinds, items_ask, times_ask, get_ty_asks n) depth 8

pat_row_asks : (ws : Walkers) → AsksNoKinds ws.get_ty → AsksNoKinds ws.get_pat → (which : ℕ) → AsksNoKinds (pat_row_inner ws which)
unfolding pat_row_inner RestPatRow LabAndPatPatRow LabPatRow ty_annotation ty_annotation_there as_tail as_tail_there
pat_row_asks ws t q = arms_ask (RestPatRow ws ∷ LabAndPatPatRow ws ∷ LabPatRow ws ∷ []) (search (t, q))

get_pat_asks : (n : ℕ) → AsksNoKinds (walks n).get_pat
unfolding walks con_arg_there con_arg pat_row pat_rows pat_args pats pat op_path op path sep
get_pat_asks zero = tt
get_pat_asks (suc n) =
    arms_ask (pats (walks n)) (search (items_ask, pat_row_asks (walks n) (get_ty_asks n) (get_pat_asks n), get_ty_asks n, get_pat_asks n))

pub patterns_any_kinds : (n which : ℕ) → let ws = walks n in
    Each AnyKinds
    (ws.get_pat ∷ con_arg_there ws ∷ con_arg ws ∷ LabAndPatPatRow ws ∷ as_tail_there ws ∷ as_tail ws ∷ LabPatRow ws
    ∷ pat_row_inner ws which ∷ pat_row ws ∷ pat_rows ws ∷ pat_args ws ∷ group (pat_args ws) ∷ pats ws)
unfolding con_arg_there con_arg LabAndPatPatRow as_tail_there as_tail LabPatRow pat_row pat_rows pat_args pats pat ty_annotation ty_annotation_there op_path op path sep
patterns_any_kinds n which =
    search (any_kinds, items_ask, pat_row_asks (walks n) (get_ty_asks n) (get_pat_asks n), get_ty_asks n, get_pat_asks n) depth 8

con_binds_ask : (ws : Walkers) → AsksNoKinds ws.get_ty → (c : Cfg) (n : ℕ) → AsksNoKinds (con_binds ws c n)
unfolding con_binds con_bind new_line indent indent_deeper deepen
con_binds_ask ws t c n = cases (nat_lt 1 n) refl
  where
    cases : (b : Bool) → nat_lt 1 n ≡ b → AsksNoKinds (con_binds ws c n)
    cases true e = rw (e, con_binds) (search (items_ask, when_asks, t) depth 8)
    cases false e = rw (e, con_binds) (search (items_ask, t))

case_head_asks : (ws : Walkers) → AsksNoKinds ws.get_pat → (which : ℕ) → AsksNoKinds (case_head ws which)
unfolding case_head PrefixFunBindCaseHead InfixFunBindCaseHead infix_head in_parens word_if
case_head_asks ws q = arms_ask (PrefixFunBindCaseHead ws ∷ InfixFunBindCaseHead ws ∷ []) (search q)

pub leaves_any_kinds : (n : ℕ) (c : Cfg) (write : Bool) (m which : ℕ) (s : String) → let ws = walks n in
    Each AnyKinds
    (item_semi write ∷ ty_bind ws ∷ ty_binds ws c ∷ with_type ws c ∷ con_bind ws ∷ con_binds ws c m ∷ dat_bind ws c ∷ dat_binds ws c
    ∷ names_space ws ∷ int_lit ws ∷ (word s ⨾ int_lit ws ⨾ names_space ws)
    ∷ PrefixFunBindCaseHead ws ∷ infix_head ws ∷ (word "(" ⨾ infix_head ws ⨾ word ")") ∷ InfixFunBindCaseHead ws
    ∷ case_head ws which ∷ choice (case_head ws) ∷ case_pats ws ∷ ex_bind_of ws ∷ sharing_tail ws c ∷ sharing_tails ws c
    ∷ exp ws c SelectorExp ∷ map (dec_one ws c) (TyDec ∷ DatDec ∷ DatCopyDec ∷ OpenDec ∷ NonfixDec ∷ []))
unfolding item_semi ty_bind ty_binds with_type con_bind dat_bind dat_binds names_space int_lit PrefixFunBindCaseHead infix_head InfixFunBindCaseHead case_pats ex_bind_of sharing_tail sharing_tails exp dec_one path word_if in_parens ty_vars ty_var_seq_there ty_var_seq sep new_line sep_with_lines for_each indent
leaves_any_kinds n c write m which s =
    let t = get_ty_asks n in
    let q = get_pat_asks n in
    search (any_kinds, items_ask, times_ask, when_asks, con_binds_ask (walks n) t, case_head_asks (walks n) q, t, q) depth 16
