-- Laws of the record check behind the tokens: what the command of a node says, and how a row of codes is passed.
use Prim.Native.Nat.{ℕ, suc, ◌+◌, ◌-◌, ◌≤◌, ◌<◌}
use mathlib.Core.Path.{◌≡◌, refl, sym, ◌∙◌, ap}
use mathlib.Core.List.{List}
use mathlib.Core.Bool.{Bool, true, false}
use Rattle.std.specs.Prelude.{Option, None, Some, Result, Ok}
use native.Mathlib.Omega.{arith}
use lib.ListN.{length, get_or}
use lib.Dec.{ltb}
use borrow.Author.Tests.{ltb-true}
use Rattle.reader.specs.declared.Refusal.{Refusal}
use Rattle.reader.specs.declared.tree.Opened.{Opened}
use Rattle.reader.specs.declared.tree.Opened.TheVariants.{Inside}
use Rattle.reader.specs.Fields as Fields
use Rattle.reader.specs.Fields.{Fields, token, group, choice, form, forms}
use Rattle.reader.specs.Commands.{choice_at, form_at, form_width}
use Rattle.reader.proofs.CommandLaws.{form-fits, form_wide}
use Rattle.reader.specs.Check.{operand_fits, or_absent, fields, form_fits, form_check}
use Rattle.reader.specs.declared.tree.Choice.{Choice}
use Rattle.reader.specs.declared.tree.Node.{Node}
use Rattle.reader.specs.declared.tree.Node.TheVariants as Nodes
use Rattle.reader.specs.Promises.Grammar.{fields_of, node, rows}
use Rattle.reader.specs.Promises.Tree.{told, opened, Opens, node_in, Stands}

-- A choice reads alike where its nodes below the number agree.
module _ (rec : List ℕ) (count left at n : ℕ) (f g : ℕ → Fields) (same : (k : ℕ) → k < n → f k ≡ g k) where
  choice-at : (k : ℕ) (b : Bool) → choice_at rec at ≡ Some k → ltb k n ≡ b
      → fields rec count (form_check rec count left) false (choice n f) at ≡ fields rec count (form_check rec count left) false (choice n g) at
  unfolding fields or_absent
  choice-at k true e t = rw (e, fields, t, same k (ltb-true k n t))
  choice-at k false e t = rw (e, fields, t)

  choice-alike : (w : Option ℕ) → choice_at rec at ≡ w
      → fields rec count (form_check rec count left) false (choice n f) at ≡ fields rec count (form_check rec count left) false (choice n g) at
  unfolding fields or_absent
  choice-alike None e = rw (e, fields)
  choice-alike (Some k) e = choice-at k (ltb k n) e refl

pub choice_same :
    {rec : List ℕ} {count left at n : ℕ} {f g : ℕ → Fields} {r : Result Opened Refusal}
    → ((k : ℕ) → k < n → f k ≡ g k)
    → Opens rec count left (choice n f) at r
    → Opens rec count left (choice n g) at r
choice_same {rec} {count} {left} {at} {n} {f} {g} same o =
    record { is = o.is ∙ ap told (choice-alike rec count left at n f g same (choice_at rec at) refl); on = o.on }

-- ---- a form, where one more may stand
module _ (rec : List ℕ) (count at n : ℕ) (family : Fields.Family) (e : form_at rec family at ≡ Some n) (t : operand_fits rec count family at ≡ true) where
  fits_in : form_fits rec count family at ≡ Some n
  unfolding form_fits
  fits_in = rw (e, form_fits, t)

  check-inside : (left : ℕ)
      → fields rec count (form_check rec count left) true (get_or (forms family) n Fields.none) (at + form_width family)
      ≡ form_check rec count (suc left) family at
  unfolding form_check
  check-inside left = rw (fits_in, form_check)

  pub form_opens : {left codes width : ℕ} → (left ≡ 0 → ⊥) → width ≡ form_width family → fields_of codes ≡ get_or (forms family) n Fields.none
      → Opens rec count left (form family) at (Ok (Inside codes (at + width) (left - 1)))
  unfolding fields or_absent opened
  form_opens {left} {codes} {width} z w g =
      let l : left ≡ suc (left - 1) = omega arith in
      let fits : at + width ≤ length rec = rw w (form-fits rec at family n e) in
      let wide : 1 ≤ width = rw w (form_wide family) in
      record {
        is = ap told
            (ap (λ (f : Fields). fields rec count (form_check rec count (left - 1)) true f (at + width)) g
            ∙ ap (λ (k : ℕ). fields rec count (form_check rec count (left - 1)) true (get_or (forms family) n Fields.none) (at + k)) w
            ∙ check-inside (left - 1)
            ∙ ap (λ (k : ℕ). form_check rec count k family at) (sym l));
        on = (omega arith, fits);
      }

-- Equal fields open alike.
pub opens_as : {rec : List ℕ} {count left at : ℕ} {f g : Fields} {r : Result Opened Refusal} → f ≡ g → Opens rec count left f at r → Opens rec count left g at r
opens_as e o = rw (← e) o

-- What a node stands for, where it is of fields that the code has.
pub stands_same : (code : ℕ) (n : Node) → node_in n ≡ node code → Stands code n
stands_same code n e = record { reads = λ o. opens_as e o }

-- A choice, whose rows are those of its nodes.
pub stands_choice : (code : ℕ) (c : Choice) (f : ℕ → Fields) → choice c.n f ≡ node code → ((k : ℕ) → k < c.n → get_or rows (c.row + k) Fields.none ≡ f k)
    → Stands code (Nodes.Choice c)
stands_choice code c f e same = record { reads = λ o. opens_as e (choice_same same o) }
