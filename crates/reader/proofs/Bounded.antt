-- From an offset below a bound that is over the record's length, the check ends below it, and the places that it tells lie below it.
use Prim.Native.Nat.{ℕ, zero, suc, ◌+◌, ◌<◌}
use mathlib.Core.Path.{◌≡◌, refl}
use mathlib.Core.List.{List}
use mathlib.Core.Bool.{Bool, true, false, ◌&&◌}
use Rattle.std.specs.Prelude.{Option, None, Some}
use native.Mathlib.Omega.{arith}
use lib.ListN.{length, get_or}
use lib.Dec.{ltb}
use Rattle.reader.specs.Fields.{Family, Fields, ◌▸◌, token, list, group, choice, form, forms}
use Rattle.reader.specs.Commands.{absent_at, list_at, group_at, choice_at, form_width}
use Rattle.reader.specs.Check.{Checked, ok, malformed, too_deep, and_then, items, token_fits, or_absent, fields, form_fits, form_check}
use Rattle.reader.proofs.CommandLaws.{and_right, absent-fits, group-fits, list-fits, choice-fits, token-fits, form-fits}
use Rattle.reader.proofs.FieldLaws.{token-parts, fits-parts}

abbrev pub Below : ℕ → Checked → Type 0
Below bound (ok at) = at < bound
Below bound (malformed place) = place < bound
Below bound (too_deep place) = place < bound

module _ (bound : ℕ) where
  then-below : (x : Checked) (k : ℕ → Checked) → Below bound x → ((m : ℕ) → m < bound → Below bound (k m)) → Below bound (and_then x k)
  unfolding and_then
  then-below (ok m) k h f = f m h
  then-below (malformed place) k h f = h
  then-below (too_deep place) k h f = h

  some_below : (o : Option ℕ) (k : ℕ → Checked) (at : ℕ) → at < bound → ((n : ℕ) → o ≡ Some n → Below bound (k n))
      → Below bound (elim o [ None ↦ malformed at | Some n ↦ k n ])
  some_below None k at h f = h
  some_below (Some n) k at h f = f n refl

  if-below : (b : Bool) (x : Checked) (at : ℕ) → at < bound → (b ≡ true → Below bound x) → Below bound (elim b [ true ↦ x | false ↦ malformed at ])
  if-below true x at h f = f refl
  if-below false x at h f = h

  items-below : (n : ℕ) (k : ℕ → Checked) → ((at : ℕ) → at < bound → Below bound (k at)) → (at : ℕ) → at < bound → Below bound (items n k at)
  unfolding items
  items-below zero k f at h = h
  items-below (suc n) k f at h = then-below (k at) (λ next. items n k next) (f at h) (λ m i. items-below n k f m i)

module _ (rec : List ℕ) (count bound : ℕ) (long : length rec < bound) where
  absent-below : (b : Bool) (at : ℕ) (x : Checked) → (b ≡ true → absent_at rec at ≡ true) → Below bound x → Below bound (elim b as (λ y. Checked) [ true ↦ ok (at + 1) | false ↦ x ])
  absent-below true at x f h = omega (arith, absent-fits rec at (f refl))
  absent-below false at x f h = h

  or-below : (may : Bool) (at : ℕ) (x : Checked) → Below bound x → Below bound (or_absent rec count may at x)
  unfolding or_absent
  or-below may at x h = absent-below (may && absent_at rec at) at x (and_right may (absent_at rec at)) h

  pub fields-below : (inner : Family → ℕ → Checked) → ((family : Family) (at : ℕ) → at < bound → Below bound (inner family at)) → (may : Bool) (f : Fields) (at : ℕ) → at < bound
      → Below bound (fields rec count inner may f at)
  unfolding fields
  fields-below inner g may Fields.none at h = h
  fields-below inner g may (e ▸ f) at h =
      then-below bound (fields rec count inner may e at) (λ next. fields rec count inner may f next)
      (fields-below inner g may e at h) (λ m i. fields-below inner g may f m i)
  fields-below inner g may token at h =
      or-below may at _
      (some_below bound (token_fits rec count at) (λ k. ok (at + 3)) at h
      (λ k e. omega (arith, token-fits rec at k (token-parts rec count at k e).0)))
  fields-below inner g may (list f) at h =
      some_below bound (list_at rec at) (λ n. items n (λ next. fields rec count inner false f next) (at + 3)) at h
      (λ n e. items-below bound n (λ next. fields rec count inner false f next) (λ m i. fields-below inner g false f m i) (at + 3)
      (omega (arith, list-fits rec at n e)))
  fields-below inner g may (group f) at h =
      or-below may at _
      (if-below bound (group_at rec at) (fields rec count inner true f (at + 1)) at h
      (λ e. fields-below inner g true f (at + 1) (omega (arith, group-fits rec at e))))
  fields-below inner g may (choice n f) at h =
      or-below may at _
      (some_below bound (choice_at rec at) (λ which. elim (ltb which n) [ true ↦ fields rec count inner true (f which) (at + 2) | false ↦ malformed at ]) at h
      (λ which e. if-below bound (ltb which n) (fields rec count inner true (f which) (at + 2)) at h
      (λ i. fields-below inner g true (f which) (at + 2) (omega (arith, choice-fits rec at which e)))))
  fields-below inner g may (form family) at h = or-below may at _ (g family at h)

  pub form-below : (depth : ℕ) (family : Family) (at : ℕ) → at < bound → Below bound (form_check rec count depth family at)
  unfolding form_check
  form-below zero family at h = some_below bound (form_fits rec count family at) (λ n. too_deep at) at h (λ n e. h)
  form-below (suc depth) family at h =
      some_below bound (form_fits rec count family at) (λ n. fields rec count (λ f next. form_check rec count depth f next) true (get_or (forms family) n Fields.none) (at + form_width family)) at h
      (λ n e. fields-below (λ f next. form_check rec count depth f next) (form-below depth) true (get_or (forms family) n Fields.none) (at + form_width family)
      (omega (arith, form-fits rec at family n (fits-parts rec count family at n e).0)))

  -- The end of a field.
  pub end_below : (left : ℕ) (f : Fields) (at : ℕ) → at < bound → Below bound (fields rec count (form_check rec count left) true f at)
  end_below left f at h = fields-below (form_check rec count left) (form-below left) true f at h
