-- The walk of a layout keeps step with the check of its fields: from its parts, for each kind of layout.
use native.Mathlib.Omega.{arith}
use mathlib.Core.Path.{◌≡◌, refl, sym, ap, ◌∙◌, subst}
use mathlib.Core.List.{List, [], ◌∷◌}
use mathlib.Core.Bool.{Bool, true, false, ◌&&◌}
use Rattle.std.specs.Prelude.{Option, None, Some}
use mathlib.Core.Logic.{◌⊎◌, inl, inr}
use Prim.Native.Nat.{ℕ, zero, suc, ◌+◌, ◌≤◌, ◌<◌}
use Prim.Native.String.{String}
use lib.ListN.{length, get_or}
use lib.Dec.{ltb, eqb}
use borrow.Author.Tests.{ltb-true, ltb-false, eqb-true, eqb-false}
use Rattle.text.proofs.Laws.{never}
use Rattle.reader.specs.Fields.{Family, DecOne, Ty, Fields, ◌▸◌, forms}
use Rattle.reader.specs.Commands.{absent_at, token_at, list_at, group_at, choice_at, form_at, form_width, first_token}
use Rattle.reader.specs.Check as Check
use Rattle.reader.specs.Forms.{EsImportDec, dec_number}
use Rattle.reader.specs.Check.{Checked, ok, malformed, too_deep, and_then, operand_fits, token_fits, or_absent, fields, form_fits, form_check, field_end}
use Rattle.reader.proofs.CommandLaws.{and_right, and_second, token-there, group-there, choice-there, form-there, form-fits, form-number}
use Rattle.reader.proofs.FieldLaws.{then_parts, or_is, token-parts, fits-parts, fits-yes, zero-never}
use Rattle.reader.proofs.Ends.{ends_more}
use Rattle.layout.specs.Layout.{Layout, is_pipe, skip, ◌⨾◌, word, output_indent, formed, text, group, choice, form, list, maybe, present, operator, declaration, dropped, halt, import}
use Rattle.layout.specs.Meaning.{Page, Event, Token, Comment, Outcome, done, stopped, absent, imported, outcome, or_stop, bind, after, commented, operated, above_first, onwards, passes}
use Rattle.layout.specs.Helpers.{Cfg, indent, new_line, when, times, items, for_each, sep, sep_with_lines}
use Rattle.agreement.specs.Agreement.{Proper, Agree}
use Rattle.agreement.specs.Unbounded as Unbounded

-- The check of fields, where `d` more forms may stand inside one another; `may` says whether a field may be absent.
abbrev pub ends : Page → ℕ → Bool → Fields → ℕ → Checked
ends p d may f at = fields p.rec (length p.tokens.starts) (form_check p.rec (length p.tokens.starts) d) may f at

-- A check and a walk agree from every offset; where the check passes, its bounds play no part: `g` is the walk without them.
pub record Keeps (p : Page) (check : ℕ → Checked) (f g : ℕ → Outcome) : Type 0 where
  pub agrees : (at : ℕ) → Agree p (check at) (f at)
  pub free : (at end : ℕ) → check at ≡ ok end → g at ≡ f at

-- The walk of a layout.
pub record InStep (p : Page) (check : ℕ → Checked) (w : Layout) : Type 0 where
  pub agrees : (at : ℕ) → Agree p (check at) (outcome p w at)
  pub free : (at end : ℕ) → check at ≡ ok end → Unbounded.outcome p w at ≡ outcome p w at

-- Of fields; of n items; of the arm of a number over the fields of a row, behind which no arm is.
pub record Agrees (p : Page) (d : ℕ) (may : Bool) (f : Fields) (w : Layout) : Type 0 where
  pub step : InStep p (λ at. ends p d may f at) w

pub record Items (p : Page) (d : ℕ) (f : Fields) (n : ℕ) (w : Layout) : Type 0 where
  pub step : InStep p (λ at. Check.items n (λ next. ends p d false f next) at) w

pub record Arm (p : Page) (d : ℕ) (fs : List Fields) (n : ℕ) (w : Layout) : Type 0 where
  pub agrees : n < length fs → Agrees p d true (get_or fs n Fields.none) w
  pub beyond : length fs ≤ n → w ≡ halt

then_assoc : (c : Checked) (k l : ℕ → Checked) → and_then (and_then c k) l ≡ and_then c (λ at. and_then (k at) l)
unfolding and_then
then_assoc (ok at) k l = refl
then_assoc (malformed at) k l = refl
then_assoc (too_deep at) k l = refl

then_ok : (c : Checked) → and_then c ok ≡ c
unfolding and_then
then_ok (ok at) = refl
then_ok (malformed at) = refl
then_ok (too_deep at) = refl

module _ (p : Page) where
  abbrev pub count : ℕ
  count = length p.tokens.starts

  -- ---- one after another
  after-agrees : (c : Checked) (es : List Event) (o : Outcome) → Agree p c o → Agree p c (after es o)
  unfolding after
  after-agrees c es (done next fs) m = m
  after-agrees c es (stopped why fs) m = m

  then_agrees : (c : Checked) (k : ℕ → Checked) (o : Outcome) (l : ℕ → Outcome) → Agree p c o → ((at : ℕ) → Agree p (k at) (l at)) → Agree p (and_then c k) (bind o l)
  unfolding and_then bind
  then_agrees c k (done next es) l m f =
      subst (λ (c : Checked). Agree p (and_then c k) (after es (l next))) (sym m) (after-agrees (k next) es (l next) (f next))
  then_agrees c k (stopped why es) l m f = λ end e. let q = then_parts c k end e in m q.0 q.1

  bind-free : (mid end : ℕ) (k : ℕ → Checked) (o : Outcome) (l l' : ℕ → Outcome) → Agree p (ok mid) o → k mid ≡ ok end
      → ((at end : ℕ) → k at ≡ ok end → l' at ≡ l at) → bind o l' ≡ bind o l
  unfolding bind
  bind-free mid end k (done next es) l l' m e g =
      let z : mid ≡ next = cc in
      ap (after es) (g next end (subst (λ (at : ℕ). k at ≡ ok end) z e))
  bind-free mid end k (stopped why es) l l' m e g = refl

  then-free : (c : Checked) (k : ℕ → Checked) (o o' : Outcome) (l l' : ℕ → Outcome) → Agree p c o → ((end : ℕ) → c ≡ ok end → o' ≡ o)
      → ((at end : ℕ) → k at ≡ ok end → l' at ≡ l at) → (end : ℕ) → and_then c k ≡ ok end → bind o' l' ≡ bind o l
  then-free c k o o' l l' m f g end e =
      let q = then_parts c k end e in
      ap (λ (x : Outcome). bind x l') (f q.0 q.1) ∙ bind-free q.0 end k o l l' (subst (λ (x : Checked). Agree p x o) q.1 m) q.2 g

  -- ---- a field that may be absent
  or_parts : (may : Bool) (at : ℕ) (c : Checked) (end : ℕ) → or_absent p.rec count may at c ≡ ok end → (absent_at p.rec at ≡ true) ⊎ (c ≡ ok end)
  or_parts may at c end e = go (may && absent_at p.rec at) refl
    where
      go : (b : Bool) → (may && absent_at p.rec at) ≡ b → (absent_at p.rec at ≡ true) ⊎ (c ≡ ok end)
      go true h = inl (and_right may (absent_at p.rec at) h)
      go false h = inr (sym (or_is p.rec count may at c false h) ∙ e)

  -- One that is not there and passes is absent.
  pub gone : (may : Bool) (at end : ℕ) → or_absent p.rec count may at (malformed at) ≡ ok end → absent_at p.rec at ≡ true
  gone may at end e = go (or_parts may at (malformed at) end e)
    where
      go : (absent_at p.rec at ≡ true) ⊎ (malformed at ≡ ok end) → absent_at p.rec at ≡ true
      go (inl h) = h
      go (inr h) = never (cc)

  pub there-is : (may : Bool) (at : ℕ) (c : Checked) → absent_at p.rec at ≡ false → or_absent p.rec count may at c ≡ c
  there-is may at c e = or_is p.rec count may at c false (and_second may (absent_at p.rec at) e)

  -- Nothing is read where it is absent.
  absent_none : (at : ℕ) (o : Option ℕ) → ((n : ℕ) → o ≡ Some n → absent_at p.rec at ≡ false) → absent_at p.rec at ≡ true → o ≡ None
  absent_none at None there e = refl
  absent_none at (Some n) there e = let f = there n refl in never (cc)

  -- ---- a number that is read at an offset, then what is behind it
  module _ (may : Bool) (at : ℕ) (c : ℕ → Checked) (l : ℕ → Outcome) where
    abbrev read_or : Option ℕ → Checked
    read_or o = or_absent p.rec count may at (elim o as (λ o. Checked) [ None ↦ malformed at | Some n ↦ c n ])

    read-agrees : (o : Option ℕ) → ((n : ℕ) → o ≡ Some n → absent_at p.rec at ≡ false) → ((n : ℕ) → o ≡ Some n → Agree p (c n) (l n))
        → Agree p (read_or o) (or_stop o at l)
    unfolding or_stop
    read-agrees None there f = λ end e. inl (gone may at end e)
    read-agrees (Some n) there f = subst (λ (x : Checked). Agree p x (l n)) (sym (there-is may at (c n) (there n refl))) (f n refl)

    -- `o'` is what is read without the bound.
    read-free : (l' : ℕ → Outcome) (o o' : Option ℕ) → ((n : ℕ) → o ≡ Some n → o' ≡ Some n) → ((n : ℕ) → o' ≡ Some n → absent_at p.rec at ≡ false)
        → ((n end : ℕ) → o ≡ Some n → c n ≡ ok end → l' n ≡ l n) → (end : ℕ) → read_or o ≡ ok end → or_stop o' at l' ≡ or_stop o at l
    unfolding or_stop
    read-free l' None o' same there f end e = ap (λ (o : Option ℕ). or_stop o at l') (absent_none at o' there (gone may at end e))
    read-free l' (Some n) o' same there f end e =
        let s = same n refl in
        ap (λ (o : Option ℕ). or_stop o at l') s ∙ f n end refl (sym (there-is may at (c n) (there n s)) ∙ e)

  -- ---- a token, then what is behind it
  module _ (may : Bool) (at : ℕ) (k : ℕ → Checked) where
    abbrev token_then : Option ℕ → Checked
    token_then o = and_then (or_absent p.rec count may at (elim o as (λ o. Checked) [ None ↦ malformed at | Some n ↦ ok (at + 3) ])) k

    token-gone : (end : ℕ) → token_then None ≡ ok end → absent_at p.rec at ≡ true
    token-gone end e = let q = then_parts (or_absent p.rec count may at (malformed at)) k end e in gone may at q.0 q.1

    token-on : (n : ℕ) → token_fits p.rec count at ≡ Some n → token_then (Some n) ≡ k (at + 3)
    unfolding and_then
    token-on n e = ap (λ (c : Checked). and_then c k) (there-is may at (ok (at + 3)) (token-there p.rec at n (token-parts p.rec count at n e).0))

    no-token : absent_at p.rec at ≡ true → token_at p.rec at ≡ None
    no-token e = absent_none at (token_at p.rec at) (token-there p.rec at) e

    token-agrees : (l : ℕ → Outcome) (o : Option ℕ) → token_fits p.rec count at ≡ o → ((n : ℕ) → Agree p (k (at + 3)) (l n)) → Agree p (token_then o) (or_stop o at l)
    unfolding or_stop
    token-agrees l None e f = λ end g. inl (token-gone end g)
    token-agrees l (Some n) e f = subst (λ (c : Checked). Agree p c (l n)) (sym (token-on n e)) (f n)

    token-free : (l l' : ℕ → Outcome) (end : ℕ) (o : Option ℕ) → token_fits p.rec count at ≡ o → ((n : ℕ) → k (at + 3) ≡ ok end → l' n ≡ l n)
        → token_then o ≡ ok end → or_stop (token_at p.rec at) at l' ≡ or_stop o at l
    unfolding or_stop
    token-free l l' end None e f g = ap (λ (o : Option ℕ). or_stop o at l') (no-token (token-gone end g))
    token-free l l' end (Some n) e f g =
        ap (λ (o : Option ℕ). or_stop o at l') (token-parts p.rec count at n e).0 ∙ f n (sym (token-on n e) ∙ g)

  -- One that may be absent.
  module _ (at : ℕ) (k : ℕ → Checked) where
    abbrev given_of : (ℕ → Outcome) → Outcome → Option ℕ → Bool → Outcome
    given_of l m o b = elim o as (λ o. Outcome) [ Some n ↦ l n | None ↦ elim b as (λ b. Outcome) [ true ↦ m | false ↦ stopped (absent at) [] ] ]

    absent-on : absent_at p.rec at ≡ true → token_then true at k None ≡ k (at + 1)
    unfolding and_then
    absent-on e = ap (λ (c : Checked). and_then c k) (or_is p.rec count true at (malformed at) true e)

    optional-agrees : (l : ℕ → Outcome) (m : Outcome) (o : Option ℕ) → token_fits p.rec count at ≡ o → (b : Bool) → absent_at p.rec at ≡ b
        → ((n : ℕ) → Agree p (k (at + 3)) (l n)) → Agree p (k (at + 1)) m → Agree p (token_then true at k o) (given_of l m o b)
    optional-agrees l m (Some n) e b a f g = subst (λ (c : Checked). Agree p c (l n)) (sym (token-on true at k n e)) (f n)
    optional-agrees l m None e true a f g = subst (λ (c : Checked). Agree p c m) (sym (absent-on a)) g
    optional-agrees l m None e false a f g = λ end h. let q = token-gone true at k end h in never (cc)

    optional-free : (l l' : ℕ → Outcome) (m m' : Outcome) (end : ℕ) (o : Option ℕ) → token_fits p.rec count at ≡ o → (b : Bool) → absent_at p.rec at ≡ b
        → ((n : ℕ) → k (at + 3) ≡ ok end → l' n ≡ l n) → (k (at + 1) ≡ ok end → m' ≡ m) → token_then true at k o ≡ ok end
        → given_of l' m' (token_at p.rec at) b ≡ given_of l m o b
    optional-free l l' m m' end (Some n) e b a f g h =
        ap (λ (o : Option ℕ). given_of l' m' o b) (token-parts p.rec count at n e).0 ∙ f n (sym (token-on true at k n e) ∙ h)
    optional-free l l' m m' end None e true a f g h = ap (λ (o : Option ℕ). given_of l' m' o true) (no-token true at k a) ∙ g (sym (absent-on a) ∙ h)
    optional-free l l' m m' end None e false a f g h = let q = token-gone true at k end h in never (cc)

  -- ---- a group
  module _ (may : Bool) (at : ℕ) (c : Checked) where
    group-agrees : (o : Outcome) (b : Bool) → group_at p.rec at ≡ b → Agree p c o
        → Agree p (or_absent p.rec count may at (elim b as (λ b. Checked) [ true ↦ c | false ↦ malformed at ]))
        (elim b as (λ b. Outcome) [ true ↦ o | false ↦ stopped (absent at) [] ])
    group-agrees o true e m = subst (λ (x : Checked). Agree p x o) (sym (there-is may at c (group-there p.rec at e))) m
    group-agrees o false e m = λ end g. inl (gone may at end g)

    group-free : (o o' : Outcome) (end : ℕ) (b : Bool) → group_at p.rec at ≡ b → (c ≡ ok end → o' ≡ o)
        → or_absent p.rec count may at (elim b as (λ b. Checked) [ true ↦ c | false ↦ malformed at ]) ≡ ok end
        → ◌≡◌ {A = Outcome} (elim b [ true ↦ o' | false ↦ stopped (absent at) [] ]) (elim b [ true ↦ o | false ↦ stopped (absent at) [] ])
    group-free o o' end true e f g = f (sym (there-is may at c (group-there p.rec at e)) ∙ g)
    group-free o o' end false e f g = refl

  -- ---- the arm of a choice
  module _ {d : ℕ} {fs : List Fields} {w : Layout} (at n : ℕ) (x : Arm p d fs n w) where
    abbrev arm_or : Bool → Checked
    arm_or b = elim b as (λ b. Checked) [ true ↦ ends p d true (get_or fs n Fields.none) (at + 2) | false ↦ malformed at ]

    arm-agrees : (b : Bool) → ltb n (length fs) ≡ b → Agree p (arm_or b) (outcome p w (at + 2))
    unfolding outcome
    arm-agrees true e = (x.agrees (ltb-true n (length fs) e)).step.agrees (at + 2)
    arm-agrees false e = rw (x.beyond (ltb-false n (length fs) e), outcome) (λ end g. never (cc))

    arm-free : (end : ℕ) (b : Bool) → ltb n (length fs) ≡ b → arm_or b ≡ ok end → Unbounded.outcome p w (at + 2) ≡ outcome p w (at + 2)
    arm-free end true e g = (x.agrees (ltb-true n (length fs) e)).step.free (at + 2) end g
    arm-free end false e g = never (cc)

-- ---- steps
module _ {p : Page} where
  keeps : {k : ℕ → Checked} {w : Layout} → InStep p k w → Keeps p k (λ at. outcome p w at) (λ at. Unbounded.outcome p w at)
  keeps x = record { agrees = x.agrees; free = x.free }

  keeps-as : {k l : ℕ → Checked} {f g : ℕ → Outcome} → ((at : ℕ) → k at ≡ l at) → Keeps p k f g → Keeps p l f g
  keeps-as {k} {l} {f} {g} e x =
      record {
        agrees = λ at. subst (λ (c : Checked). Agree p c (f at)) (e at) (x.agrees at);
        free = λ at end h. x.free at end (e at ∙ h);
      }

  keeps_then : {k l : ℕ → Checked} {f g f' g' : ℕ → Outcome} → Keeps p k f g → Keeps p l f' g'
      → Keeps p (λ at. and_then (k at) l) (λ at. bind (f at) f') (λ at. bind (g at) g')
  keeps_then {k} {l} {f} {g} {f'} {g'} x y =
      record {
        agrees = λ at. then_agrees p (k at) l (f at) f' (x.agrees at) y.agrees;
        free = λ at end e. then-free p (k at) l (f at) (g at) f' g' (x.agrees at) (x.free at) y.free end e;
      }

  step_then : {k l : ℕ → Checked} {v w : Layout} → InStep p k v → InStep p l w → InStep p (λ at. and_then (k at) l) (v ⨾ w)
  unfolding outcome Unbounded.outcome
  step_then x y = let z = keeps_then (keeps x) (keeps y) in record { agrees = z.agrees; free = z.free }

  step-as : {k l : ℕ → Checked} {w : Layout} → ((at : ℕ) → k at ≡ l at) → InStep p k w → InStep p l w
  step-as e x = let z = keeps-as e (keeps x) in record { agrees = z.agrees; free = z.free }

  -- ---- what reads nothing
  silent-then : {f g f' g' : ℕ → Outcome} → Keeps p ok f g → Keeps p ok f' g' → Keeps p ok (λ at. bind (f at) f') (λ at. bind (g at) g')
  unfolding and_then
  silent-then x y = keeps_then x y

  events-silent : (es : List Event) → Keeps p ok (λ at. done at es) (λ at. done at es)
  events-silent es = record { agrees = λ at. refl; free = λ at end e. refl }

  -- An operator that was kept.
  operated-silent : (k : ℕ) {f g f' g' : ℕ → Outcome} → Keeps p ok f g → Keeps p ok f' g' → Keeps p ok (operated p k f f') (operated p k g g')
  unfolding operated bind
  operated-silent k {f} {g} {f'} {g'} x y =
      record { agrees = λ at. agrees at (passes p is_pipe k); free = λ at end e. free at end e (passes p is_pipe k) }
    where
      spelt : Keeps p ok (λ at. bind (f' at) (λ next. bind (done next (Token k ∷ [])) f')) (λ at. bind (g' at) (λ next. bind (done next (Token k ∷ [])) g'))
      spelt = silent-then y (silent-then (events-silent (Token k ∷ [])) y)

      agrees : (at : ℕ) (b : Bool)
          → Agree p (ok at) (elim b as (λ b. Outcome) [ true ↦ f at | false ↦ bind (f' at) (λ next. bind (done next (Token k ∷ [])) f') ])
      agrees at true = x.agrees at
      agrees at false = spelt.agrees at

      free : (at end : ℕ) → ok at ≡ ok end → (b : Bool)
          → ◌≡◌ {A = Outcome} (elim b [ true ↦ g at | false ↦ bind (g' at) (λ next. bind (done next (Token k ∷ [])) g') ])
          (elim b [ true ↦ f at | false ↦ bind (f' at) (λ next. bind (done next (Token k ∷ [])) f') ])
      free at end e true = x.free at end e
      free at end e false = spelt.free at end e

  -- A comment and what is behind it.
  commented-silent : (o : Option ℕ) {f g : ℕ → Outcome} → Keeps p ok f g → Keeps p ok (commented o f) (commented o g)
  unfolding commented bind
  commented-silent (Some k) x = silent-then (events-silent (Comment k ∷ [])) x
  commented-silent None x = events-silent []

-- A field that may be absent.
abbrev may_be : Fields → Bool
may_be Fields.none = false
may_be (f ▸ g) = false
may_be Fields.token = true
may_be (Fields.list f) = false
may_be (Fields.group f) = true
may_be (Fields.choice n f) = true
may_be (Fields.form family) = true

absent_ends : (p : Page) (d at : ℕ) (f : Fields) → may_be f ≡ true → absent_at p.rec at ≡ true → ends p d true f at ≡ ok (at + 1)
unfolding fields or_absent
absent_ends p d at Fields.none m e = never (cc)
absent_ends p d at (f ▸ g) m e = never (cc)
absent_ends p d at Fields.token m e = rw (e, fields, or_absent) refl
absent_ends p d at (Fields.list f) m e = never (cc)
absent_ends p d at (Fields.group f) m e = rw (e, fields, or_absent) refl
absent_ends p d at (Fields.choice n f) m e = rw (e, fields, or_absent) refl
absent_ends p d at (Fields.form family) m e = rw (e, fields, or_absent) refl

-- The field that is a choice between rows.
abbrev chosen : List Fields → Fields
chosen fs = Fields.choice (length fs) (λ which. get_or fs which Fields.none)

-- ---- what reads nothing
module _ {p : Page} {d : ℕ} {may : Bool} where
  pub skips : Agrees p d may Fields.none skip
  unfolding fields outcome Unbounded.outcome
  skips = record { step = record { agrees = λ at. refl; free = λ at end e. refl } }

  pub fixed : {s : String} → Agrees p d may Fields.none (word s)
  unfolding fields outcome Unbounded.outcome
  fixed = record { step = record { agrees = λ at. refl; free = λ at end e. refl } }

  pub indents : {depth : ℕ} → Agrees p d may Fields.none (output_indent depth)
  unfolding fields outcome Unbounded.outcome
  indents = record { step = record { agrees = λ at. refl; free = λ at end e. refl } }

  pub forms-depth : {depth : ℕ} → Agrees p d may Fields.none (formed depth)
  unfolding fields outcome Unbounded.outcome
  forms-depth = record { step = record { agrees = λ at. refl; free = λ at end e. refl } }

  silent : {w : Layout} → Agrees p d may Fields.none w → Keeps p ok (λ at. outcome p w at) (λ at. Unbounded.outcome p w at)
  unfolding fields
  silent x = keeps x.step

  -- ---- one after another
  module _ {f : Fields} {v w : Layout} where
    pub before : Agrees p d may Fields.none v → Agrees p d may f w → Agrees p d may f (v ⨾ w)
    unfolding fields and_then
    before x y = record { step = step_then x.step y.step }

    pub behind : Agrees p d may f v → Agrees p d may Fields.none w → Agrees p d may f (v ⨾ w)
    unfolding fields
    behind x y = record { step = step-as (λ at. then_ok (ends p d may f at)) (step_then x.step y.step) }

  pub both : {f g : Fields} {v w : Layout} → Agrees p d may f v → Agrees p d may g w → Agrees p d may (f ▸ g) (v ⨾ w)
  unfolding fields
  both x y = record { step = step_then x.step y.step }

  pub regrouped : {f g h : Fields} {w : Layout} → Agrees p d may ((f ▸ g) ▸ h) w → Agrees p d may (f ▸ g ▸ h) w
  unfolding fields
  regrouped {f} {g} {h} x =
      record { step = step-as (λ at. then_assoc (ends p d may f at) (λ next. ends p d may g next) (λ next. ends p d may h next)) x.step }

  -- Behind it nothing is read.
  pub last : {f : Fields} {w : Layout} → Agrees p d may (f ▸ Fields.none) w → Agrees p d may f w
  unfolding fields
  last {f} x = record { step = step-as (λ at. then_ok (ends p d may f at)) x.step }

  -- ---- commands
  pub texts : Agrees p d may Fields.token text
  unfolding outcome Unbounded.outcome fields
  texts =
      record {
        step =
            record {
              agrees =
                  λ at. read-agrees p may at (λ n. ok (at + 3)) (λ k. done (at + 3) (Token k ∷ [])) (token_fits p.rec (count p) at)
                  (λ n e. token-there p.rec at n (token-parts p.rec (count p) at n e).0) (λ n e. refl);
              free =
                  λ at end e. read-free p may at (λ n. ok (at + 3)) (λ k. done (at + 3) (Token k ∷ [])) (λ k. done (at + 3) (Token k ∷ []))
                  (token_fits p.rec (count p) at) (token_at p.rec at) (λ n e. (token-parts p.rec (count p) at n e).0) (token-there p.rec at) (λ n end e f. refl) end e;
            };
      }

  pub operators : {f : Fields} {lhs pipe gap : Layout} → Agrees p d may f lhs → Agrees p d may Fields.none pipe → Agrees p d may Fields.none gap
      → Agrees p d may (Fields.token ▸ f) (operator lhs pipe gap)
  unfolding outcome Unbounded.outcome fields
  operators {f} {lhs} {pipe} {gap} x y z =
      record {
        step =
            record {
              agrees =
                  λ at. token-agrees p may at (λ next. ends p d may f next) (λ k. walk k (at + 3)) (token_fits p.rec (count p) at) refl
                  (λ k. (behind k).agrees (at + 3));
              free =
                  λ at end e. token-free p may at (λ next. ends p d may f next) (λ k. walk k (at + 3)) (λ k. unbounded k (at + 3)) end
                  (token_fits p.rec (count p) at) refl (λ k g. (behind k).free (at + 3) end g) e;
            };
      }
    where
      walk : ℕ → ℕ → Outcome
      walk k at = bind (outcome p lhs at) (operated p k (λ next. outcome p pipe next) (λ next. outcome p gap next))

      unbounded : ℕ → ℕ → Outcome
      unbounded k at = bind (Unbounded.outcome p lhs at) (operated p k (λ next. Unbounded.outcome p pipe next) (λ next. Unbounded.outcome p gap next))

      behind : (k : ℕ) → Keeps p (λ at. ends p d may f at) (walk k) (unbounded k)
      behind k = keeps-as (λ at. then_ok (ends p d may f at)) (keeps_then (keeps x.step) (operated-silent k (silent y) (silent z)))

  pub groups : {f : Fields} {w : Layout} → Agrees p d true f w → Agrees p d may (Fields.group f) (group w)
  unfolding outcome Unbounded.outcome fields
  groups {f} {w} x =
      record {
        step =
            record {
              agrees = λ at. group-agrees p may at (ends p d true f (at + 1)) (outcome p w (at + 1)) (group_at p.rec at) refl (x.step.agrees (at + 1));
              free =
                  λ at end e. group-free p may at (ends p d true f (at + 1)) (outcome p w (at + 1)) (Unbounded.outcome p w (at + 1)) end
                  (group_at p.rec at) refl (x.step.free (at + 1) end) e;
            };
      }

  pub lists : {f : Fields} {k : ℕ → Layout} → ((n : ℕ) → Items p d f n (k n)) → Agrees p d may (Fields.list f) (list k)
  unfolding outcome Unbounded.outcome fields or_stop
  lists {f} {k} x = record { step = record { agrees = λ at. agrees at (list_at p.rec at); free = λ at end e. free at end (list_at p.rec at) e } }
    where
      check : ℕ → Option ℕ → Checked
      check at o = elim o [ None ↦ malformed at | Some n ↦ Check.items n (λ next. ends p d false f next) (at + 3) ]

      agrees : (at : ℕ) (o : Option ℕ) → Agree p (check at o) (or_stop o at (λ n. outcome p (k n) (at + 3)))
      agrees at None = λ end e. never (cc)
      agrees at (Some n) = (x n).step.agrees (at + 3)

      free : (at end : ℕ) (o : Option ℕ) → check at o ≡ ok end → or_stop o at (λ n. Unbounded.outcome p (k n) (at + 3)) ≡ or_stop o at (λ n. outcome p (k n) (at + 3))
      free at end None e = refl
      free at end (Some n) e = (x n).step.free (at + 3) end e

  pub choices : {fs : List Fields} {k : ℕ → Layout} → ((n : ℕ) → Arm p d fs n (k n))
      → Agrees p d may (chosen fs) (choice k)
  unfolding outcome Unbounded.outcome fields
  choices {fs} {k} x =
      record {
        step =
            record {
              agrees =
                  λ at. read-agrees p may at (λ n. arm_or p at n (x n) (ltb n (length fs))) (λ n. outcome p (k n) (at + 2)) (choice_at p.rec at) (choice-there p.rec at)
                  (λ n e. arm-agrees p at n (x n) (ltb n (length fs)) refl);
              free =
                  λ at end e. read-free p may at (λ n. arm_or p at n (x n) (ltb n (length fs))) (λ n. outcome p (k n) (at + 2)) (λ n. Unbounded.outcome p (k n) (at + 2))
                  (choice_at p.rec at) (choice_at p.rec at) (λ n e. e) (choice-there p.rec at) (λ n end e f. arm-free p at n (x n) end (ltb n (length fs)) refl f) end e;
            };
      }

-- A token asked for its presence, with what is behind either layout.
bind-given : (p : Page) (at : ℕ) (k : ℕ → Checked) (l m : Outcome) (u : ℕ → Outcome) (o : Option ℕ) (b : Bool)
    → bind (given_of p at k (λ n. l) m o b) u ≡ given_of p at k (λ n. bind l u) (bind m u) o b
unfolding bind
bind-given p at k l m u (Some n) b = refl
bind-given p at k l m u None true = refl
bind-given p at k l m u None false = refl

module _ {p : Page} {d : ℕ} where
  pub presents : {g : Fields} {v w : Layout} → Agrees p d true g v → Agrees p d true g w → Agrees p d true (Fields.token ▸ g) (present v w)
  unfolding outcome Unbounded.outcome fields
  presents {g} {v} {w} x y =
      record {
        step =
            record {
              agrees =
                  λ at. optional-agrees p at (λ next. ends p d true g next) (λ n. outcome p v (at + 3)) (outcome p w (at + 1))
                  (token_fits p.rec (count p) at) refl (absent_at p.rec at) refl (λ n. x.step.agrees (at + 3)) (y.step.agrees (at + 1));
              free =
                  λ at end e. optional-free p at (λ next. ends p d true g next) (λ n. outcome p v (at + 3)) (λ n. Unbounded.outcome p v (at + 3))
                  (outcome p w (at + 1)) (Unbounded.outcome p w (at + 1)) end (token_fits p.rec (count p) at) refl (absent_at p.rec at) refl
                  (λ n f. x.step.free (at + 3) end f) (y.step.free (at + 1) end) e;
            };
      }

  pub presents-then : {g : Fields} {u v w : Layout} → Agrees p d true g (v ⨾ u) → Agrees p d true g (w ⨾ u) → Agrees p d true (Fields.token ▸ g) (present v w ⨾ u)
  unfolding outcome Unbounded.outcome fields
  presents-then {g} {u} {v} {w} x y =
      let both = (presents x y).step in
      record {
        step =
            record {
              agrees =
                  λ at. subst (λ (o : Outcome). Agree p (ends p d true (Fields.token ▸ g) at) o)
                  (sym (bind-given p at (λ next. ends p d true g next) (outcome p v (at + 3)) (outcome p w (at + 1)) (λ next. outcome p u next) (token_fits p.rec (count p) at) (absent_at p.rec at)))
                  (both.agrees at);
              free =
                  λ at end e. bind-given p at (λ next. ends p d true g next) (Unbounded.outcome p v (at + 3)) (Unbounded.outcome p w (at + 1)) (λ next. Unbounded.outcome p u next) (token_at p.rec at) (absent_at p.rec at)
                  ∙ both.free at end e
                  ∙ sym (bind-given p at (λ next. ends p d true g next) (outcome p v (at + 3)) (outcome p w (at + 1)) (λ next. outcome p u next) (token_fits p.rec (count p) at) (absent_at p.rec at));
            };
      }

  pub presents-last : {v w : Layout} → Agrees p d true Fields.none v → Agrees p d true Fields.none w → Agrees p d true Fields.token (present v w)
  presents-last x y = last (presents x y)

  pub maybes : {f : Fields} {w : Layout} → may_be f ≡ true → Agrees p d true f w → Agrees p d true f (maybe w)
  unfolding outcome Unbounded.outcome
  maybes {f} {w} m x =
      record { step = record { agrees = λ at. agrees at (absent_at p.rec at) refl; free = λ at end e. free at end (absent_at p.rec at) e } }
    where
      agrees : (at : ℕ) (b : Bool) → absent_at p.rec at ≡ b → Agree p (ends p d true f at) (elim b as (λ b. Outcome) [ true ↦ done (at + 1) [] | false ↦ outcome p w at ])
      agrees at true e = absent_ends p d at f m e
      agrees at false e = x.step.agrees at

      free : (at end : ℕ) (b : Bool) → ends p d true f at ≡ ok end
          → ◌≡◌ {A = Outcome} (elim b [ true ↦ done (at + 1) [] | false ↦ Unbounded.outcome p w at ]) (elim b [ true ↦ done (at + 1) [] | false ↦ outcome p w at ])
      free at end true e = refl
      free at end false e = x.step.free at end e

-- ---- questions
module _ {p : Page} {d : ℕ} {may : Bool} where
  pub whens : {w : Layout} → Agrees p d may Fields.none w → (b : Bool) → Agrees p d may Fields.none (when b w)
  unfolding when
  whens x true = x
  whens x false = skips

-- ---- items
module _ {p : Page} {d : ℕ} {f : Fields} where
  pub before-items : {n : ℕ} {v w : Layout} → Agrees p d false Fields.none v → Items p d f n w → Items p d f n (v ⨾ w)
  unfolding fields and_then
  before-items x y = record { step = step_then x.step y.step }

  pub no_items : {w : Layout} → Agrees p d false Fields.none w → Items p d f zero w
  unfolding fields Check.items
  no_items x = record { step = x.step }

  pub item-then : {n : ℕ} {v w : Layout} → Agrees p d false f v → Items p d f n w → Items p d f (suc n) (v ⨾ w)
  unfolding Check.items
  item-then x y = record { step = step_then x.step y.step }

  pub repeats : {w : Layout} → Agrees p d false f w → (n : ℕ) → Items p d f n (times n w)
  unfolding times
  repeats x zero = no_items skips
  repeats x (suc n) = item-then x (repeats x n)

  pub itemed : {first more : Layout} → Agrees p d false f first → Agrees p d false f more → (n : ℕ) → Items p d f n (items n first more)
  unfolding items
  itemed x y zero = no_items skips
  itemed x y (suc n) = item-then x (repeats y n)

  module _ {may : Bool} {item : Layout} (x : Agrees p d false f item) where
    pub each : Agrees p d may (Fields.list f) (for_each item)
    unfolding for_each
    each = lists (repeats x)

    pub seps : (s : String) → Agrees p d may (Fields.list f) (sep s item)
    unfolding sep
    seps s = lists (itemed x (before fixed x))

    pub lines : (c : Cfg) (s : String) → Agrees p d may (Fields.list f) (sep_with_lines c s item)
    unfolding sep_with_lines new_line indent
    lines c s = lists (itemed x (before (before fixed (before (whens fixed c.extra_blank) (before indents fixed))) x))

module _ {p : Page} {d n : ℕ} {fs : List Fields} {v w : ℕ → Layout} where
  -- An item that is a choice, with what is behind it laid out by the number that was read.
  pub choice-items : ((k : ℕ) → Arm p d fs k (v k)) → ((k : ℕ) → Items p d (chosen fs) n (w k)) → Items p d (chosen fs) (suc n) (choice (λ k. v k ⨾ w k))
  unfolding outcome Unbounded.outcome fields Check.items or_stop
  choice-items x y = record { step = record { agrees = λ at. agrees at (choice_at p.rec at) refl; free = λ at end e. free at end (choice_at p.rec at) refl e } }
    where
      rest : ℕ → Checked
      rest next = Check.items n (λ next. ends p d false (chosen fs) next) next

      item : ℕ → ℕ → Checked
      item at k = arm_or p at k (x k) (ltb k (length fs))

      check : ℕ → Option ℕ → Checked
      check at o = or_absent p.rec (count p) false at (elim o [ None ↦ malformed at | Some k ↦ item at k ])

      there : (at k : ℕ) → choice_at p.rec at ≡ Some k → check at (Some k) ≡ item at k
      there at k e = there-is p false at (item at k) (choice-there p.rec at k e)

      agrees : (at : ℕ) (o : Option ℕ) → choice_at p.rec at ≡ o
          → Agree p (and_then (check at o) rest) (or_stop o at (λ k. bind (outcome p (v k) (at + 2)) (λ next. outcome p (w k) next)))
      agrees at None e = λ end g. let q = then_parts (check at None) rest end g in inl (gone p false at q.0 q.1)
      agrees at (Some k) e =
          subst (λ (c : Checked). Agree p (and_then c rest) (bind (outcome p (v k) (at + 2)) (λ next. outcome p (w k) next))) (sym (there at k e))
          (then_agrees p (item at k) rest (outcome p (v k) (at + 2)) (λ next. outcome p (w k) next) (arm-agrees p at k (x k) (ltb k (length fs)) refl) (y k).step.agrees)

      free : (at end : ℕ) (o : Option ℕ) → choice_at p.rec at ≡ o → and_then (check at o) rest ≡ ok end
          → or_stop o at (λ k. bind (Unbounded.outcome p (v k) (at + 2)) (λ next. Unbounded.outcome p (w k) next))
          ≡ or_stop o at (λ k. bind (outcome p (v k) (at + 2)) (λ next. outcome p (w k) next))
      free at end None e g = refl
      free at end (Some k) e g =
          then-free p (item at k) rest (outcome p (v k) (at + 2)) (Unbounded.outcome p (v k) (at + 2)) (λ next. outcome p (w k) next) (λ next. Unbounded.outcome p (w k) next)
          (arm-agrees p at k (x k) (ltb k (length fs)) refl) (λ end h. arm-free p at k (x k) end (ltb k (length fs)) refl h) (y k).step.free end
          (ap (λ (c : Checked). and_then c rest) (sym (there at k e)) ∙ g)

-- ---- forms
module _ {p : Page} {may : Bool} where
  -- Where no form may stand.
  pub halted : {family : Family} → Agrees p zero may (Fields.form family) halt
  unfolding outcome Unbounded.outcome fields
  halted {family} = record { step = record { agrees = λ at end e. go at end (or_parts p may at (form_check p.rec (count p) zero family at) end e); free = λ at end e. refl } }
    where
      go : (at end : ℕ) → (absent_at p.rec at ≡ true) ⊎ (form_check p.rec (count p) zero family at ≡ ok end) → Proper p (absent at)
      go at end (inl h) = inl h
      go at end (inr h) = zero-never p.rec (count p) family at end h

  -- A family whose commands have no operand.
  pub families : {d : ℕ} (family : Family) {k : ℕ → Layout} → ((at : ℕ) → operand_fits p.rec (count p) family at ≡ true)
      → ((n : ℕ) → Arm p d (forms family) n (k n)) → Agrees p (suc d) may (Fields.form family) (form family k)
  unfolding outcome Unbounded.outcome fields form_check
  families {d} family {k} plain x =
      record {
        step =
            record {
              agrees =
                  λ at. subst (λ (o : Option ℕ). Agree p (ends p (suc d) may (Fields.form family) at) (or_stop o at (λ n. outcome p (k n) (at + form_width family))))
                  (fits-yes p.rec (count p) family at (plain at))
                  (read-agrees p may at (inner at) (λ n. outcome p (k n) (at + form_width family)) (form_fits p.rec (count p) family at)
                  (λ n e. form-there p.rec at family n (found at n e)) (λ n e. (arm at n (found at n e)).step.agrees (at + form_width family)));
              free =
                  λ at end e. subst (λ (o : Option ℕ). or_stop (form_at p.rec family at) at (λ n. Unbounded.outcome p (k n) (at + form_width family)) ≡ or_stop o at (λ n. outcome p (k n) (at + form_width family)))
                  (fits-yes p.rec (count p) family at (plain at))
                  (read-free p may at (inner at) (λ n. outcome p (k n) (at + form_width family)) (λ n. Unbounded.outcome p (k n) (at + form_width family))
                  (form_fits p.rec (count p) family at) (form_at p.rec family at) (found at) (form-there p.rec at family)
                  (λ n end f g. (arm at n (found at n f)).step.free (at + form_width family) end g) end e);
            };
      }
    where
      inner : ℕ → ℕ → Checked
      inner at n = ends p d true (get_or (forms family) n Fields.none) (at + form_width family)

      found : (at n : ℕ) → form_fits p.rec (count p) family at ≡ Some n → form_at p.rec family at ≡ Some n
      found at n e = (fits-parts p.rec (count p) family at n e).0

      arm : (at n : ℕ) → form_at p.rec family at ≡ Some n → Agrees p d true (get_or (forms family) n Fields.none) (k n)
      arm at n e = (x n).agrees (form-number p.rec at family n e)

-- ---- declarations
-- The check of the fields of a number's arm; the comment above a first token and the arm, with and without the bounds.
abbrev arm-check : Page → ℕ → ℕ → ℕ → Checked
arm-check p d n at = ends p d true (get_or (forms DecOne) n Fields.none) at

abbrev declared : Page → Layout → Layout → Option ℕ → ℕ → Outcome
declared p line arm first at = bind (commented (above_first p first) (λ next. outcome p line next) at) (λ next. outcome p arm next)

abbrev declared_free : Page → Layout → Layout → Option ℕ → ℕ → Outcome
declared_free p line arm first at =
    bind (commented (above_first p first) (λ next. Unbounded.outcome p line next) at) (λ next. Unbounded.outcome p arm next)

module _ (p : Page) where
  -- Behind an import's command the walk stops.
  import-stop : (at : ℕ) → form_at p.rec DecOne at ≡ Some (dec_number EsImportDec) → (end : ℕ) (o : Outcome) → Agree p (ok (at + form_width DecOne)) o
      → Agree p (ok end) (bind o (λ next. stopped (imported next) []))
  unfolding bind after
  import-stop at found end (done next es) m = λ end e. (at, cc, found)
  import-stop at found end (stopped why es) m = λ end e. m (at + form_width DecOne) refl

  found-form : (at n : ℕ) → form_fits p.rec (count p) DecOne at ≡ Some n → form_at p.rec DecOne at ≡ Some n
  found-form at n e = (fits-parts p.rec (count p) DecOne at n e).0

module _ {p : Page} {d : ℕ} {line : Layout} {arm : ℕ → Layout} (l : Agrees p d true Fields.none line) (i : arm (dec_number EsImportDec) ≡ import)
    (x : (n : ℕ) → n < length (forms DecOne) → (n ≡ dec_number EsImportDec → ⊥) → Agrees p d true (get_or (forms DecOne) n Fields.none) (arm n)) where
  above : (first : Option ℕ) → Keeps p ok (commented (above_first p first) (λ next. outcome p line next)) (commented (above_first p first) (λ next. Unbounded.outcome p line next))
  above first = commented-silent (above_first p first) (silent l)

  -- A command whose arm is no import; one whose arm is.
  other-keeps : (first : Option ℕ) (n : ℕ) → n < length (forms DecOne) → (n ≡ dec_number EsImportDec → ⊥)
      → Keeps p (arm-check p d n) (declared p line (arm n) first) (declared_free p line (arm n) first)
  unfolding and_then
  other-keeps first n h o = keeps_then (above first) (keeps (x n h o).step)

  import-agrees : (at : ℕ) → form_at p.rec DecOne at ≡ Some (dec_number EsImportDec)
      → Agree p (arm-check p d (dec_number EsImportDec) (at + form_width DecOne)) (declared p line (arm (dec_number EsImportDec)) (first_token p.rec at) (at + form_width DecOne))
  unfolding outcome fields forms dec_number
  import-agrees at found =
      rw i
      (import-stop p at found (at + form_width DecOne) (commented (above_first p (first_token p.rec at)) (λ next. outcome p line next) (at + form_width DecOne))
      ((above (first_token p.rec at)).agrees (at + form_width DecOne)))

  import-free : (first : Option ℕ) (at end : ℕ) → arm-check p d (dec_number EsImportDec) at ≡ ok end
      → declared_free p line (arm (dec_number EsImportDec)) first at ≡ declared p line (arm (dec_number EsImportDec)) first at
  unfolding outcome Unbounded.outcome fields forms dec_number
  import-free first at end e = rw i (ap (λ (o : Outcome). bind o (λ next. stopped (imported next) [])) ((above first).free at end e))

  number-agrees : (at n : ℕ) → form_at p.rec DecOne at ≡ Some n → (b : Bool) → eqb n (dec_number EsImportDec) ≡ b
      → Agree p (arm-check p d n (at + form_width DecOne)) (declared p line (arm n) (first_token p.rec at) (at + form_width DecOne))
  number-agrees at n found true e =
      let z = eqb-true n (dec_number EsImportDec) e in
      subst (λ (n : ℕ). Agree p (arm-check p d n (at + form_width DecOne)) (declared p line (arm n) (first_token p.rec at) (at + form_width DecOne))) (sym z)
      (import-agrees at (found ∙ ap Some z))
  number-agrees at n found false e =
      (other-keeps (first_token p.rec at) n (form-number p.rec at DecOne n found) (eqb-false n (dec_number EsImportDec) e)).agrees (at + form_width DecOne)

  number-free : (at n end : ℕ) → form_at p.rec DecOne at ≡ Some n → arm-check p d n (at + form_width DecOne) ≡ ok end → (b : Bool) → eqb n (dec_number EsImportDec) ≡ b
      → declared_free p line (arm n) (first_token p.rec at) (at + form_width DecOne) ≡ declared p line (arm n) (first_token p.rec at) (at + form_width DecOne)
  number-free at n end found f true e =
      let z = eqb-true n (dec_number EsImportDec) e in
      subst
      (λ (n : ℕ). arm-check p d n (at + form_width DecOne) ≡ ok end
      → declared_free p line (arm n) (first_token p.rec at) (at + form_width DecOne) ≡ declared p line (arm n) (first_token p.rec at) (at + form_width DecOne))
      (sym z) (import-free (first_token p.rec at) (at + form_width DecOne) end) f
  number-free at n end found f false e =
      (other-keeps (first_token p.rec at) n (form-number p.rec at DecOne n found) (eqb-false n (dec_number EsImportDec) e)).free (at + form_width DecOne) end f

  pub declarations : {may : Bool} → Agrees p (suc d) may (Fields.form DecOne) (declaration line arm)
  unfolding outcome Unbounded.outcome fields form_check
  declarations {may} =
      record {
        step =
            record {
              agrees =
                  λ at. read-agrees p may at (λ n. arm-check p d n (at + form_width DecOne)) (λ n. declared p line (arm n) (first_token p.rec at) (at + form_width DecOne))
                  (form_fits p.rec (count p) DecOne at) (λ n e. form-there p.rec at DecOne n (found-form p at n e))
                  (λ n e. number-agrees at n (found-form p at n e) (eqb n (dec_number EsImportDec)) refl);
              free =
                  λ at end e. read-free p may at (λ n. arm-check p d n (at + form_width DecOne)) (λ n. declared p line (arm n) (first_token p.rec at) (at + form_width DecOne))
                  (λ n. declared_free p line (arm n) (first_token p.rec at) (at + form_width DecOne)) (form_fits p.rec (count p) DecOne at) (form_at p.rec DecOne at)
                  (found-form p at) (form-there p.rec at DecOne)
                  (λ n end f g. number-free at n end (found-form p at n f) g (eqb n (dec_number EsImportDec)) refl) end e;
            };
      }

-- ---- a row of arms and the row of their fields, by number
-- From the arm `from` on, where the arm that is taken has a number.
pub record Pairs (p : Page) (d : ℕ) (number from : ℕ) (fs : List Fields) (ws : List Layout) : Type 0 where
  pub at : (n : ℕ) → from + n ≡ number → Arm p d fs n (get_or ws n halt)

module _ {p : Page} {d : ℕ} where
  row_at : {number from : ℕ} {f : Fields} {fs : List Fields} {w : Layout} {ws : List Layout} → (from ≡ number → Agrees p d true f w) → Pairs p d number (suc from) fs ws
      → (n : ℕ) → from + n ≡ number → Arm p d (f ∷ fs) n (get_or (w ∷ ws) n halt)
  row_at x y zero e = record { agrees = λ h. x (omega (arith, e)); beyond = λ h. absurd (omega (arith, h)) }
  row_at x y (suc n) e =
      let a = y.at n (omega (arith, e)) in
      record { agrees = λ h. a.agrees (omega (arith, h)); beyond = λ h. a.beyond (omega (arith, h)) }

  infixr 5 ◌▹◌
  pub ◌▹◌ : {number from : ℕ} {f : Fields} {fs : List Fields} {w : Layout} {ws : List Layout} → (from ≡ number → Agrees p d true f w) → Pairs p d number (suc from) fs ws
      → Pairs p d number from (f ∷ fs) (w ∷ ws)
  x ▹ y = record { at = row_at x y }

  pub no_more : {number from : ℕ} → Pairs p d number from [] []
  no_more = record { at = λ n e. record { agrees = λ h. absurd (omega (arith, h)); beyond = λ h. refl } }

-- The arm of a number.
pub pick : {p : Page} {d : ℕ} {fs : List Fields} {ws : List Layout} (n : ℕ) → Pairs p d n zero fs ws → Arm p d fs n (get_or ws n halt)
pick n x = x.at n (omega arith)

-- ---- a type whose stop is dropped
module _ {p : Page} {d : ℕ} {w : Layout} (low : d ≤ 200) (x : Agrees p d true (Fields.form Ty) w) where
  abbrev check : ℕ → Checked
  check at = ends p d true (Fields.form Ty) at

  ended-agrees : (es : List Event) (c : Checked)
      → Agree p c (elim c as (λ c. Outcome) [ ok next ↦ done next es | malformed place ↦ stopped (absent place) es | too_deep place ↦ stopped (absent place) es ])
  ended-agrees es (ok next) = refl
  ended-agrees es (malformed place) = λ end e. never (cc)
  ended-agrees es (too_deep place) = λ end e. never (cc)

  onwards-agrees : (at : ℕ) (o : Outcome) → Agree p (check at) o → Agree p (check at) (onwards p d at o)
  unfolding onwards
  onwards-agrees at (done next es) m = m
  onwards-agrees at (stopped why es) m = go (form_at p.rec Ty at)
    where
      go : (o : Option ℕ)
          → Agree p (check at)
          (elim o as (λ o. Outcome) [
            | Some n ↦ elim (check at) [ ok next ↦ done next es | malformed place ↦ stopped (absent place) es | too_deep place ↦ stopped (absent place) es ]
            | None ↦ stopped why es
          ])
      go None = m
      go (Some n) = ended-agrees es (check at)

  -- The type's end is the same with 200 forms.
  onwards-free : (at end : ℕ) (o : Outcome) → check at ≡ ok end → Unbounded.onwards p at o ≡ onwards p d at o
  unfolding onwards Unbounded.onwards field_end
  onwards-free at end (done next es) e = refl
  onwards-free at end (stopped why es) e = go (form_at p.rec Ty at) refl
    where
      end_of : Checked → Outcome
      end_of c = elim c [ ok next ↦ done next es | malformed place ↦ stopped (absent place) es | too_deep place ↦ stopped (absent place) es ]

      go : (o : Option ℕ) → form_at p.rec Ty at ≡ o
          → ◌≡◌ {A = Outcome} (elim o [ Some n ↦ end_of (field_end p.rec (count p) (Fields.form Ty) at) | None ↦ stopped why es ])
          (elim o [ Some n ↦ end_of (check at) | None ↦ stopped why es ])
      go None h = refl
      go (Some n) h =
          let l = form-fits p.rec at Ty n h in
          let q = (ends_more p.rec (count p) d 200 low true (Fields.form Ty) at (omega (arith, l)) end e).0 in
          ap end_of (q ∙ sym e)

  pub drops : Agrees p d true (Fields.form Ty) (dropped d w)
  unfolding outcome Unbounded.outcome
  drops =
      record {
        step =
            record {
              agrees = λ at. onwards-agrees at (outcome p w at) (x.step.agrees at);
              free = λ at end e. ap (λ (o : Outcome). Unbounded.onwards p at o) (x.step.free at end e) ∙ onwards-free at end (outcome p w at) e;
            };
      }
