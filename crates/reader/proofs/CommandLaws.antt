-- Laws of the commands: what a command that stands at an offset says of the record.
use Prim.Native.Nat.{ℕ, ◌+◌, ◌-◌, ◌≤◌, ◌<◌}
use mathlib.Core.Path.{◌≡◌, refl, ap}
use mathlib.Core.List.{List}
use mathlib.Core.Bool.{Bool, true, false, ◌&&◌}
use Rattle.std.specs.Prelude.{Option, None, Some}
use native.Mathlib.Omega.{arith}
use lib.ListN.{length, get_or}
use lib.Dec.{leb, ltb, eqb}
use borrow.Author.Tests.{leb-true, ltb-true, ne_eqb, eqb-true}
use Rattle.text.proofs.Laws.{never}
use Rattle.text.proofs.AtLaws.{u16-past}
use Rattle.reader.specs.declared.commands.Facts.{Facts}
use Rattle.reader.specs.Fields as Fields
use Rattle.reader.specs.Fields.{forms, first_form}
use Rattle.reader.specs.Promises.Grammar.{first_row}
use Rattle.reader.specs.Commands.{u16, command, absent_at, token_at, list_at, group_at, choice_at, form_at, first_token, form_width}
use Rattle.reader.specs.Promises.Commands.{facts_of}

pub and_left : (a b : Bool) → (a && b) ≡ true → a ≡ true
and_left true b e = refl
and_left false b e = e

pub and_right : (a b : Bool) → (a && b) ≡ true → b ≡ true
and_right true b e = e
and_right false b e = never (cc)

pub and_second : (a b : Bool) → b ≡ false → (a && b) ≡ false
and_second true b e = e
and_second false b e = refl

-- A command stands whole.
pub command-fits : (rec : List ℕ) (at tag width : ℕ) → command rec tag width at ≡ true → at + width ≤ length rec
unfolding command
command-fits rec at tag width e =
    leb-true (at + width) (length rec) (and_left (leb (at + width) (length rec)) (eqb (get_or rec at 0) tag) e)

-- The facts of a family, one by one.
module _ (family : Fields.Family) {facts : Facts} (e : facts ≡ facts_of family) where
  pub facts-width : facts.width ≡ form_width family
  unfolding facts_of
  facts-width = ap (λ (f : Facts). f.width) e

  pub facts-row : facts.row ≡ first_row family
  unfolding facts_of
  facts-row = ap (λ (f : Facts). f.row) e

-- Past the record's end the operand of a declaration is 0.
pub first_past : (rec : List ℕ) (at : ℕ) → length rec ≤ at → Some 0 ≡ first_token rec at
unfolding first_token
first_past rec at h = let e : 0 ≡ u16 rec (at + 1) = u16-past rec (at + 1) (omega arith) in rw (← e, first_token, ← e)

-- A number is read only where the test passes.
pub some_true : (b : Bool) (x k : ℕ) → ◌≡◌ {A = Option ℕ} (elim b [ true ↦ Some x | false ↦ None ]) (Some k) → (b ≡ true) × (x ≡ k)
some_true true x k e = (refl, cc)
some_true false x k e = never (cc)

module _ (rec : List ℕ) (at : ℕ) where
  pub token-fits : (k : ℕ) → token_at rec at ≡ Some k → at + 3 ≤ length rec
  unfolding token_at
  token-fits k e = command-fits rec at 1 3 (some_true (command rec 1 3 at) (u16 rec (at + 1)) k e).0

  pub list-fits : (k : ℕ) → list_at rec at ≡ Some k → at + 3 ≤ length rec
  unfolding list_at
  list-fits k e = command-fits rec at 2 3 (some_true (command rec 2 3 at) (u16 rec (at + 1)) k e).0

  pub choice-fits : (k : ℕ) → choice_at rec at ≡ Some k → at + 2 ≤ length rec
  unfolding choice_at
  choice-fits k e = command-fits rec at 4 2 (some_true (command rec 4 2 at) (get_or rec (at + 1) 0) k e).0

  pub absent-fits : absent_at rec at ≡ true → at + 1 ≤ length rec
  unfolding absent_at
  absent-fits e = command-fits rec at 0 1 e

  pub group-fits : group_at rec at ≡ true → at + 1 ≤ length rec
  unfolding group_at
  group-fits e = command-fits rec at 3 1 e

  module _ (family : Fields.Family) (n : ℕ) (e : form_at rec family at ≡ Some n) where
    form-tests :
        (leb (at + form_width family) (length rec)
        && leb (first_form family) (get_or rec at 0)
        && ltb (get_or rec at 0) (first_form family + length (forms family))
        ≡ true)
        × (get_or rec at 0 - first_form family ≡ n)
    unfolding form_at
    form-tests = some_true (leb (at + form_width family) (length rec) && leb (first_form family) (get_or rec at 0) && ltb (get_or rec at 0) (first_form family + length (forms family))) (get_or rec at 0 - first_form family) n e

    pub form-fits : at + form_width family ≤ length rec
    form-fits =
        leb-true (at + form_width family) (length rec)
        (and_left (leb (at + form_width family) (length rec)) (leb (first_form family) (get_or rec at 0)) (and_left _ (ltb (get_or rec at 0) (first_form family + length (forms family))) form-tests.0))

    pub form-first : first_form family ≤ get_or rec at 0
    form-first = leb-true _ _ (and_right (leb (at + form_width family) (length rec)) _ (and_left _ (ltb (get_or rec at 0) (first_form family + length (forms family))) form-tests.0))

    pub form-number : n < length (forms family)
    form-number =
        let lo : first_form family ≤ get_or rec at 0 = form-first in
        let hi : get_or rec at 0 < first_form family + length (forms family) = ltb-true _ _ (and_right (leb (at + form_width family) (length rec) && leb (first_form family) (get_or rec at 0)) _ form-tests.0) in
        omega (arith, form-tests.1)

-- Where another command stands, nothing is absent.
module _ (rec : List ℕ) (at : ℕ) where
  pub command-byte : (tag width : ℕ) → command rec tag width at ≡ true → get_or rec at 0 ≡ tag
  unfolding command
  command-byte tag width e = eqb-true _ _ (and_right (leb (at + width) (length rec)) _ e)

  pub not-absent : 1 ≤ get_or rec at 0 → absent_at rec at ≡ false
  unfolding absent_at command
  not-absent h = and_second (leb (at + 1) (length rec)) _ (ne_eqb (get_or rec at 0) 0 (λ z. omega (arith, z)))

  command-there : (tag width : ℕ) → 1 ≤ tag → command rec tag width at ≡ true → absent_at rec at ≡ false
  command-there tag width h e = let b = command-byte tag width e in not-absent (omega (arith, b))

  pub token-there : (k : ℕ) → token_at rec at ≡ Some k → absent_at rec at ≡ false
  unfolding token_at
  token-there k e = command-there 1 3 (omega arith) (some_true (command rec 1 3 at) (u16 rec (at + 1)) k e).0

  pub group-there : group_at rec at ≡ true → absent_at rec at ≡ false
  unfolding group_at
  group-there e = command-there 3 1 (omega arith) e

  pub choice-there : (k : ℕ) → choice_at rec at ≡ Some k → absent_at rec at ≡ false
  unfolding choice_at
  choice-there k e = command-there 4 2 (omega arith) (some_true (command rec 4 2 at) (get_or rec (at + 1) 0) k e).0

  first-form : (family : Fields.Family) → 1 ≤ first_form family
  unfolding first_form
  first-form Fields.DecOne = omega arith
  first-form Fields.StrExp = omega arith
  first-form Fields.SigExp = omega arith
  first-form Fields.Exp = omega arith
  first-form Fields.Pat = omega arith
  first-form Fields.Ty = omega arith

  pub form-there : (family : Fields.Family) (k : ℕ) → form_at rec family at ≡ Some k → absent_at rec at ≡ false
  form-there family k e = let f = first-form family in let b = form-first rec at family k e in not-absent (omega (arith, b, f))

-- A form's command has a byte at least.
pub form_wide : (family : Fields.Family) → 1 ≤ form_width family
unfolding form_width
form_wide Fields.DecOne = omega arith
form_wide Fields.StrExp = omega arith
form_wide Fields.SigExp = omega arith
form_wide Fields.Exp = omega arith
form_wide Fields.Pat = omega arith
form_wide Fields.Ty = omega arith
