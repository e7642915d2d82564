-- Where the check of a field passes, its end is within the record, and the same where more forms may stand inside one another.
use native.Mathlib.Omega.{arith}
use mathlib.Core.Path.{◌≡◌, refl, ap, ◌∙◌, subst}
use mathlib.Core.List.{List}
use mathlib.Core.Bool.{Bool, true, false, ◌&&◌}
use Prim.Native.Nat.{ℕ, zero, suc, ◌+◌, ◌≤◌}
use lib.ListN.{length, get_or}
use lib.Dec.{leb, ltb}
use borrow.Author.Tests.{leb-true, leb-false}
use Rattle.reader.specs.Fields.{Family, Fields, ◌▸◌, token, list, group, choice, form, forms}
use Rattle.reader.specs.Commands.{absent_at, list_at, group_at, choice_at, form_width}
use Rattle.reader.specs.Check.{Checked, ok, and_then, items, or_absent, token_fits, fields, form_fits, form_check}
use Rattle.reader.proofs.CommandLaws.{and_right, token-fits, list-fits, choice-fits, absent-fits, group-fits, form-fits}
use Rattle.reader.proofs.FieldLaws.{then_parts, if_parts, some_parts, token-parts, fits-parts, zero-never}

module _ (rec : List ℕ) (count : ℕ) where
  -- Where x passes, y passes to the same end, which is within the record.
  abbrev Keeps : Checked → Checked → Type 0
  Keeps x y = (end : ℕ) → x ≡ ok end → (y ≡ ok end) × (end ≤ length rec)

  abbrev Same : (ℕ → Checked) → (ℕ → Checked) → Type 0
  Same k l = (at : ℕ) → at ≤ length rec → Keeps (k at) (l at)

  ok-keeps : (at : ℕ) → at ≤ length rec → Keeps (ok at) (ok at)
  ok-keeps at h end e = let z : at ≡ end = cc in (e, subst (λ (x : ℕ). x ≤ length rec) z h)

  then_keeps : (x y : Checked) (k l : ℕ → Checked) → Keeps x y → Same k l → Keeps (and_then x k) (and_then y l)
  unfolding and_then
  then_keeps x y k l g h end e =
      let q = then_parts x k end e in
      let m = g q.0 q.1 in
      let r = h q.0 m.1 end q.2 in
      (ap (λ (c : Checked). and_then c l) m.0 ∙ r.0, r.1)

  items_keep : (n : ℕ) (k l : ℕ → Checked) → Same k l → Same (items n k) (items n l)
  unfolding items
  items_keep zero k l g at h = ok-keeps at h
  items_keep (suc n) k l g at h = then_keeps (k at) (l at) (λ next. items n k next) (λ next. items n l next) (g at h) (items_keep n k l g)

  absent-keeps : (may : Bool) (at : ℕ) (x y : Checked) (b : Bool) → (may && absent_at rec at) ≡ b → Keeps x y
      → Keeps (elim b as (λ b. Checked) [ true ↦ ok (at + 1) | false ↦ x ]) (elim b as (λ b. Checked) [ true ↦ ok (at + 1) | false ↦ y ])
  absent-keeps may at x y true e g = ok-keeps (at + 1) (absent-fits rec at (and_right may (absent_at rec at) e))
  absent-keeps may at x y false e g = g

  or-keeps : (may : Bool) (at : ℕ) (x y : Checked) → Keeps x y → Keeps (or_absent rec count may at x) (or_absent rec count may at y)
  unfolding or_absent
  or-keeps may at x y g = absent-keeps may at x y (may && absent_at rec at) refl g

  -- ---- fields, over the checks of forms
  fields_keep : (i j : Family → ℕ → Checked) → ((family : Family) → Same (i family) (j family)) → (may : Bool) (f : Fields)
      → Same (λ at. fields rec count i may f at) (λ at. fields rec count j may f at)
  unfolding fields
  fields_keep i j g may Fields.none at h = ok-keeps at h
  fields_keep i j g may (f ▸ f') at h =
      then_keeps _ _ (λ next. fields rec count i may f' next) (λ next. fields rec count j may f' next) (fields_keep i j g may f at h) (fields_keep i j g may f')
  fields_keep i j g may token at h =
      or-keeps may at _ _
      (λ end e. let q = some_parts (token_fits rec count at) _ at end e in
      let l : at + 3 ≤ length rec = token-fits rec at q.0 (token-parts rec count at q.0 q.1).0 in
      let z : at + 3 ≡ end = cc in
      (e, subst (λ (x : ℕ). x ≤ length rec) z l))
  fields_keep i j g may (list f) at h =
      λ end e. let q = some_parts (list_at rec at) _ at end e in
      rw (q.1, fields)
      (items_keep q.0 (λ next. fields rec count i false f next) (λ next. fields rec count j false f next) (fields_keep i j g false f)
      (at + 3) (list-fits rec at q.0 q.1) end q.2)
  fields_keep i j g may (group f) at h =
      or-keeps may at _ _
      (λ end e. let q = if_parts (group_at rec at) _ at end e in
      rw q.0 (fields_keep i j g true f (at + 1) (group-fits rec at q.0) end q.1))
  fields_keep i j g may (choice n f) at h =
      or-keeps may at _ _
      (λ end e. let q = some_parts (choice_at rec at) _ at end e in
      let r = if_parts (ltb q.0 n) _ at end q.2 in
      rw (q.1, r.0) (fields_keep i j g true (f q.0) (at + 2) (choice-fits rec at q.0 q.1) end r.1))
  fields_keep i j g may (form family) at h = or-keeps may at _ _ (g family at h)

  form-keeps : (c d : ℕ) → c ≤ d → (family : Family) → Same (form_check rec count c family) (form_check rec count d family)
  unfolding form_check
  form-keeps zero d h family at l = λ end e. zero-never rec count family at end e
  form-keeps (suc c) zero h family at l = absurd (omega arith)
  form-keeps (suc c) (suc d) h family at l =
      λ end e. let q = some_parts (form_fits rec count family at) _ at end e in
      rw (q.1, form_check)
      (fields_keep (λ f next. form_check rec count c f next) (λ f next. form_check rec count d f next) (form-keeps c d (omega arith)) true (get_or (forms family) q.0 Fields.none)
      (at + form_width family) (form-fits rec at family q.0 (fits-parts rec count family at q.0 q.1).0) end q.2)

  pub ends_more : (c d : ℕ) → c ≤ d → (may : Bool) (f : Fields) → Same (fields rec count (form_check rec count c) may f) (fields rec count (form_check rec count d) may f)
  ends_more c d h may f = fields_keep (form_check rec count c) (form_check rec count d) (form-keeps c d h) may f

  -- However many forms may stand inside.
  pub ends-agree : (c d : ℕ) (may : Bool) (f : Fields) (at a b : ℕ) → at ≤ length rec
      → fields rec count (form_check rec count c) may f at ≡ ok a → fields rec count (form_check rec count d) may f at ≡ ok b → a ≡ b
  ends-agree c d may f at a b h e g = go (leb c d) refl
    where
      go : (z : Bool) → leb c d ≡ z → a ≡ b
      go true z =
          let q = (ends_more c d (leb-true c d z) may f at h a e).0 in
          cc
      go false z =
          let l = leb-false c d z in
          let q = (ends_more d c (omega (arith, l)) may f at h b g).0 in
          cc
