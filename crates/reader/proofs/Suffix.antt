-- What the check says of a field, passed or refused, depends on the record from the field's start on and the token count alone; a place moves with the start.
-- Of a field that passes Local says more: its own bytes and the count are enough.
use Prim.Native.Nat.{ℕ, zero, suc, ◌+◌, ◌-◌, ◌≤◌}
use mathlib.Core.Path.{◌≡◌, refl, sym, ◌∙◌, ap, ap₂}
use mathlib.Core.List.{List}
use mathlib.Core.Bool.{Bool, true, false, ◌&&◌}
use Rattle.std.specs.Prelude.{Option, None, Some}
use native.Mathlib.Omega.{arith}
use lib.ListN.{length, get_or, drop, length-drop}
use lib.Seq.{get_or-drop}
use lib.Dec.{leb, ltb}
use borrow.Author.Tests.{le-leb, lt-leb, leb-true, leb-false}
use Rattle.reader.specs.Fields.{Family, DecOne, StrExp, SigExp, Exp, Pat, Ty, Fields, ◌▸◌, token, list, group, choice, form, forms, first_form}
use Rattle.reader.specs.Commands.{u16, command, absent_at, token_at, list_at, group_at, choice_at, form_at, form_width}
use Rattle.reader.specs.Check.{Checked, ok, malformed, too_deep, and_then, items, operand_fits, token_fits, or_absent, fields, form_fits, form_check, field_end}
use Rattle.reader.proofs.CommandLaws.{form_wide}

-- What a check says of a part of a record, told by places in the whole: the part starts at `base`.
unfoldable pub shift : ℕ → Checked → Checked
shift base (ok at) = ok (base + at)
shift base (malformed place) = malformed (base + place)
shift base (too_deep place) = too_deep (base + place)

-- The offset and the width against the length, in the whole and in the part.
stands_on : (base at width n : ℕ) → 1 ≤ width → leb (base + at + width) n ≡ leb (at + width) (n - base)
stands_on base at width n w = go (leb (base + at + width) n) refl
  where
    go : (b : Bool) → leb (base + at + width) n ≡ b → leb (base + at + width) n ≡ leb (at + width) (n - base)
    go true e = e ∙ sym (le-leb (at + width) (n - base) (let h = leb-true (base + at + width) n e in omega arith))
    go false e = e ∙ sym (lt-leb (at + width) (n - base) (let h = leb-false (base + at + width) n e in omega arith))

abbrev some_if : Bool → ℕ → Option ℕ
some_if b k = elim b [ true ↦ Some k | false ↦ None ]

-- A record, and the part of it from `base` on.
module _ (rec : List ℕ) (count base : ℕ) where
  abbrev part : List ℕ
  part = drop base rec

  sum : (at step : ℕ) → base + at + step ≡ base + (at + step)
  sum at step = omega arith

  -- ---- each command
  byte-on : (at : ℕ) → get_or rec (base + at) 0 ≡ get_or part at 0
  byte-on at = sym (get_or-drop base rec at 0)

  next-on : (at k : ℕ) → get_or rec (base + at + k) 0 ≡ get_or part (at + k) 0
  next-on at k = rw (sum at k) (byte-on (at + k))

  whole-on : (at width : ℕ) → 1 ≤ width → leb (base + at + width) (length rec) ≡ leb (at + width) (length part)
  whole-on at width w = rw (length-drop) (stands_on base at width (length rec) w)

  u16-on : (at : ℕ) → u16 rec (base + at + 1) ≡ u16 part (at + 1)
  unfolding u16
  u16-on at = rw (sum at 1, byte-on (at + 1), next-on (at + 1) 1)

  command-on : (tag width at : ℕ) → 1 ≤ width → command rec tag width (base + at) ≡ command part tag width at
  unfolding command
  command-on tag width at w = rw (whole-on at width w, byte-on at)

  absent-on : (at : ℕ) → absent_at rec (base + at) ≡ absent_at part at
  unfolding absent_at
  absent-on at = command-on 0 1 at (omega arith)

  token-on : (at : ℕ) → token_at rec (base + at) ≡ token_at part at
  unfolding token_at
  token-on at = ap₂ some_if (command-on 1 3 at (omega arith)) (u16-on at)

  list_on : (at : ℕ) → list_at rec (base + at) ≡ list_at part at
  unfolding list_at
  list_on at = ap₂ some_if (command-on 2 3 at (omega arith)) (u16-on at)

  group-on : (at : ℕ) → group_at rec (base + at) ≡ group_at part at
  unfolding group_at
  group-on at = command-on 3 1 at (omega arith)

  choice-on : (at : ℕ) → choice_at rec (base + at) ≡ choice_at part at
  unfolding choice_at
  choice-on at = ap₂ some_if (command-on 4 2 at (omega arith)) (next-on at 1)

  form-on : (family : Family) (at : ℕ) → form_at rec family (base + at) ≡ form_at part family at
  unfolding form_at
  form-on family at =
      ap₂ (λ (whole : Bool) (byte : ℕ). some_if (whole && leb (first_form family) byte && ltb byte (first_form family + length (forms family))) (byte - first_form family))
      (whole-on at (form_width family) (form_wide family)) (byte-on at)

  tokens-on : (at : ℕ) → token_fits rec count (base + at) ≡ token_fits part count at
  unfolding token_fits
  tokens-on at = ap (λ (o : Option ℕ). elim o as (λ x. Option ℕ) [ None ↦ None | Some k ↦ some_if (ltb k count) k ]) (token-on at)

  operand_on : (family : Family) (at : ℕ) → operand_fits rec count family (base + at) ≡ operand_fits part count family at
  unfolding operand_fits
  operand_on DecOne at = rw (u16-on at)
  operand_on StrExp at = refl
  operand_on SigExp at = refl
  operand_on Exp at = refl
  operand_on Pat at = refl
  operand_on Ty at = refl

  fits_on : (family : Family) (at : ℕ) → form_fits rec count family (base + at) ≡ form_fits part count family at
  unfolding form_fits
  fits_on family at = ap₂ (λ (o : Option ℕ) (b : Bool). elim o as (λ x. Option ℕ) [ None ↦ None | Some n ↦ some_if b n ]) (form-on family at) (operand_on family at)

  -- ---- checks that say the same
  abbrev On : (ℕ → Checked) → (ℕ → Checked) → Type 0
  On k k' = (at : ℕ) → k (base + at) ≡ shift base (k' at)

  -- Behind a step over a command.
  step-on : (k k' : ℕ → Checked) → On k k' → (at step : ℕ) → k (base + at + step) ≡ shift base (k' (at + step))
  step-on k k' on at step = ap k (sum at step) ∙ on (at + step)

  passes : On ok ok
  unfolding shift
  passes at = refl

  refuses : On malformed malformed
  unfolding shift
  refuses at = refl

  deep : On too_deep too_deep
  unfolding shift
  deep at = refl

  if-on : {b : Bool} {x y : Checked} (b' : Bool) (x' y' : Checked) → b ≡ b' → x ≡ shift base x' → y ≡ shift base y'
      → ◌≡◌ {A = Checked} (elim b [ true ↦ x | false ↦ y ]) (shift base (elim b' [ true ↦ x' | false ↦ y' ]))
  if-on true x' y' same e f = rw same e
  if-on false x' y' same e f = rw same f

  some-on : {o : Option ℕ} (o' : Option ℕ) (at : ℕ) (k k' : ℕ → Checked) → o ≡ o' → ((n : ℕ) → k n ≡ shift base (k' n))
      → ◌≡◌ {A = Checked} (elim o [ None ↦ malformed (base + at) | Some n ↦ k n ]) (shift base (elim o' [ None ↦ malformed at | Some n ↦ k' n ]))
  some-on None at k k' same on = rw same (refuses at)
  some-on (Some n) at k k' same on = rw same (on n)

  or-on : (may : Bool) (at : ℕ) (x x' : Checked) → x ≡ shift base x' → or_absent rec count may (base + at) x ≡ shift base (or_absent part count may at x')
  unfolding or_absent
  or-on may at x x' e = if-on _ _ _ (ap (λ (b : Bool). may && b) (absent-on at)) (step-on ok ok passes at 1) e

  then-on : (k k' : ℕ → Checked) → On k k' → (x x' : Checked) → x ≡ shift base x' → and_then x k ≡ shift base (and_then x' k')
  unfolding and_then shift
  then-on k k' on x (ok at) e = rw e (on at)
  then-on k k' on x (malformed place) e = rw e
  then-on k k' on x (too_deep place) e = rw e

  items-on : (n : ℕ) (k k' : ℕ → Checked) → On k k' → On (items n k) (items n k')
  unfolding items
  items-on zero k k' on at = passes at
  items-on (suc n) k k' on at = then-on (λ next. items n k next) (λ next. items n k' next) (items-on n k k' on) _ _ (on at)

  -- ---- fields, over the checks of forms
  module _ (inner inner' : Family → ℕ → Checked) (inner-on : (family : Family) → On (inner family) (inner' family)) where
    abbrev here : Bool → Fields → ℕ → Checked
    here may f = λ next. fields rec count inner may f next

    abbrev there : Bool → Fields → ℕ → Checked
    there may f = λ next. fields part count inner' may f next

    fields-on : (may : Bool) (f : Fields) → On (here may f) (there may f)
    unfolding fields
    fields-on may Fields.none at = passes at
    fields-on may (f ▸ g) at = then-on (here may g) (there may g) (fields-on may g) _ _ (fields-on may f at)
    fields-on may token at =
        or-on may at _ _ (some-on _ at _ _ (tokens-on at) (λ k. step-on ok ok passes at 3))
    fields-on may (list f) at =
        some-on _ at _ _ (list_on at)
        (λ n. step-on (items n (here false f)) (items n (there false f)) (items-on n (here false f) (there false f) (fields-on false f)) at 3)
    fields-on may (group f) at =
        or-on may at _ _ (if-on _ _ _ (group-on at) (step-on (here true f) (there true f) (fields-on true f) at 1) (refuses at))
    fields-on may (choice n f) at =
        or-on may at _ _
        (some-on _ at _ _ (choice-on at)
        (λ which. if-on (ltb which n) _ _ refl (step-on (here true (f which)) (there true (f which)) (fields-on true (f which)) at 2) (refuses at)))
    fields-on may (form family) at = or-on may at _ _ (inner-on family at)

  -- ---- forms, at each depth
  check-on : (depth : ℕ) (family : Family) → On (form_check rec count depth family) (form_check part count depth family)
  unfolding form_check
  check-on zero family at = some-on _ at _ _ (fits_on family at) (λ n. deep at)
  check-on (suc depth) family at =
      let inner : Family → ℕ → Checked = λ f next. form_check rec count depth f next in
      let inner' : Family → ℕ → Checked = λ f next. form_check part count depth f next in
      some-on _ at _ _ (fits_on family at)
      (λ n. let f : Fields = get_or (forms family) n Fields.none in
      step-on (here inner inner' (check-on depth) true f) (there inner inner' (check-on depth) true f) (fields-on inner inner' (check-on depth) true f) at (form_width family))

  -- A field is checked in the part as in the whole.
  pub suffix : (f : Fields) (at : ℕ) → field_end rec count f (base + at) ≡ shift base (field_end (drop base rec) count f at)
  unfolding field_end
  suffix f at = fields-on (form_check rec count 200) (form_check part count 200) (check-on 200) true f at

-- Two records that are equal from a field's start to their ends have one answer to it, passed or refused, told from the start.
pub answer_local : (rec rec' : List ℕ) (count : ℕ) (f : Fields) (at at' : ℕ) → drop at rec ≡ drop at' rec'
    → (x : Checked) × (field_end rec count f at ≡ shift at x) × (field_end rec' count f at' ≡ shift at' x)
answer_local rec rec' count f at at' same = (field_end (drop at rec) count f 0, from rec at, rw same (from rec' at'))
  where
    from : (rec : List ℕ) (at : ℕ) → field_end rec count f at ≡ shift at (field_end (drop at rec) count f 0)
    from rec at = let start : at ≡ at + 0 = omega arith in ap (field_end rec count f) start ∙ suffix rec count at f 0
