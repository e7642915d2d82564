-- What the check says of a field that passes depends on the field's own bytes and the token count alone.
use Prim.Native.Nat.{ℕ, zero, suc, ◌+◌, ◌-◌, ◌≤◌, ◌<◌}
use mathlib.Core.Path.{◌≡◌, refl, sym, ◌∙◌, ap}
use mathlib.Core.List.{List}
use mathlib.Core.Bool.{Bool, true, false, ◌&&◌}
use Rattle.std.specs.Prelude.{Option, None, Some}
use native.Mathlib.Omega.{arith}
use lib.ListN.{length, get_or, take, drop}
use lib.Seq.{get_or-take, get_or-drop}
use lib.Dec.{leb, ltb, eqb}
use borrow.Author.Tests.{le-leb}
use Rattle.text.proofs.Laws.{never}
use Rattle.reader.specs.Fields.{Family, DecOne, StrExp, SigExp, Exp, Pat, Ty, Fields, ◌▸◌, token, list, group, choice, form, forms, first_form}
use Rattle.reader.specs.Commands.{u16, command, absent_at, token_at, list_at, group_at, choice_at, form_at, form_width}
use Rattle.reader.specs.Check.{Checked, ok, and_then, items, operand_fits, token_fits, or_absent, fields, form_fits, form_check, field_end}
use Rattle.reader.proofs.CommandLaws.{and_left, and_right, and_second, some_true, form_wide, token-fits, group-fits, choice-fits, form-fits}
use Rattle.reader.proofs.FieldLaws.{then_parts, if_parts, some_parts, or_is, Grows, items-grow, fields-grow, token-parts, fits-parts, zero-never, form-grows}

and_both : (a b : Bool) → a ≡ true → b ≡ true → (a && b) ≡ true
and_both true b e f = f
and_both false b e f = e

-- Two records that have n bytes in common, from `base` in the one and from `base'` in the other.
module _ (rec rec' : List ℕ) (base base' n : ℕ) (there : base' + n ≤ length rec')
    (same : (i : ℕ) → i < n → get_or rec (base + i) 0 ≡ get_or rec' (base' + i) 0) where
  -- A place in the one and the place in the other.
  abbrev Meets : ℕ → ℕ → Type 0
  Meets at at' = (base ≤ at) × (at + base' ≡ at' + base)

  -- A command stands at the place, and the check goes on behind it.
  abbrev Ahead : ℕ → ℕ → Type 0
  Ahead at end = (at < end) × (at < length rec)

  byte-same : (at at' : ℕ) → Meets at at' → at < base + n → get_or rec at 0 ≡ get_or rec' at' 0
  byte-same at at' m h =
      let p : at ≡ base + (at - base) = omega arith in
      let p' : at' ≡ base' + (at - base) = omega arith in
      ap (λ (i : ℕ). get_or rec i 0) p ∙ same (at - base) (omega arith) ∙ ap (λ (i : ℕ). get_or rec' i 0) (sym p')

  u16-same : (at at' : ℕ) → Meets at at' → at + 2 ≤ base + n → u16 rec at ≡ u16 rec' at'
  unfolding u16
  u16-same at at' m h = rw (byte-same at at' m (omega arith), byte-same (at + 1) (at' + 1) (omega arith) (omega arith))

  command-same : (tag width at at' : ℕ) → Meets at at' → at + width ≤ base + n → 1 ≤ width → command rec tag width at ≡ true → command rec' tag width at' ≡ true
  unfolding command
  command-same tag width at at' m h w e =
      and_both (leb (at' + width) (length rec')) (eqb (get_or rec' at' 0) tag) (le-leb (at' + width) (length rec') (omega arith))
      (rw (← byte-same at at' m (omega arith)) (and_right (leb (at + width) (length rec)) (eqb (get_or rec at 0) tag) e))

  absent-same : (at at' : ℕ) → Meets at at' → at < base + n → absent_at rec at ≡ true → absent_at rec' at' ≡ true
  unfolding absent_at
  absent-same at at' m h e = command-same 0 1 at at' m (omega arith) (omega arith) e

  present-same : (at at' : ℕ) → Meets at at' → at < base + n → at < length rec → absent_at rec at ≡ false → absent_at rec' at' ≡ false
  unfolding absent_at command
  present-same at at' m h l e =
      and_second (leb (at' + 1) (length rec')) (eqb (get_or rec' at' 0) 0)
      (rw (← byte-same at at' m h) (rw (le-leb (at + 1) (length rec) (omega arith)) at e))

  some-if : (b : Bool) (x k : ℕ) → b ≡ true → x ≡ k → ◌≡◌ {A = Option ℕ} (elim b [ true ↦ Some x | false ↦ None ]) (Some k)
  some-if true x k e f = ap Some f
  some-if false x k e f = never (cc)

  token-same : (at at' k : ℕ) → Meets at at' → at + 3 ≤ base + n → token_at rec at ≡ Some k → token_at rec' at' ≡ Some k
  unfolding token_at
  token-same at at' k m h e =
      let p = some_true (command rec 1 3 at) (u16 rec (at + 1)) k e in
      some-if (command rec' 1 3 at') (u16 rec' (at' + 1)) k (command-same 1 3 at at' m h (omega arith) p.0)
      (sym (u16-same (at + 1) (at' + 1) (omega arith) (omega arith)) ∙ p.1)

  list_same : (at at' k : ℕ) → Meets at at' → at + 3 ≤ base + n → list_at rec at ≡ Some k → list_at rec' at' ≡ Some k
  unfolding list_at
  list_same at at' k m h e =
      let p = some_true (command rec 2 3 at) (u16 rec (at + 1)) k e in
      some-if (command rec' 2 3 at') (u16 rec' (at' + 1)) k (command-same 2 3 at at' m h (omega arith) p.0)
      (sym (u16-same (at + 1) (at' + 1) (omega arith) (omega arith)) ∙ p.1)

  choice_same : (at at' k : ℕ) → Meets at at' → at + 2 ≤ base + n → choice_at rec at ≡ Some k → choice_at rec' at' ≡ Some k
  unfolding choice_at
  choice_same at at' k m h e =
      let p = some_true (command rec 4 2 at) (get_or rec (at + 1) 0) k e in
      some-if (command rec' 4 2 at') (get_or rec' (at' + 1) 0) k (command-same 4 2 at at' m h (omega arith) p.0)
      (sym (byte-same (at + 1) (at' + 1) (omega arith) (omega arith)) ∙ p.1)

  group-same : (at at' : ℕ) → Meets at at' → at < base + n → group_at rec at ≡ true → group_at rec' at' ≡ true
  unfolding group_at
  group-same at at' m h e = command-same 3 1 at at' m (omega arith) (omega arith) e

  form-same : (family : Family) (at at' k : ℕ) → Meets at at' → at + form_width family ≤ base + n → form_at rec family at ≡ Some k → form_at rec' family at' ≡ Some k
  unfolding form_at
  form-same family at at' k m h e =
      let w : 1 ≤ form_width family = form_wide family in
      let b : get_or rec at 0 ≡ get_or rec' at' 0 = byte-same at at' m (omega arith) in
      let p = some_true (leb (at + form_width family) (length rec) && leb (first_form family) (get_or rec at 0) && ltb (get_or rec at 0) (first_form family + length (forms family))) (get_or rec at 0 - first_form family) k e in
      let q = and_left _ (ltb (get_or rec at 0) (first_form family + length (forms family))) p.0 in
      some-if (leb (at' + form_width family) (length rec') && leb (first_form family) (get_or rec' at' 0) && ltb (get_or rec' at' 0) (first_form family + length (forms family)))
      (get_or rec' at' 0 - first_form family) k
      (and_both _ _
      (and_both _ _ (le-leb (at' + form_width family) (length rec') (omega arith)) (rw (← b) (and_right (leb (at + form_width family) (length rec)) _ q)))
      (rw (← b) (and_right (leb (at + form_width family) (length rec) && leb (first_form family) (get_or rec at 0)) _ p.0)))
      (ap (λ (x : ℕ). x - first_form family) (sym b) ∙ p.1)

  operand_same : (count : ℕ) (family : Family) (at at' : ℕ) → Meets at at' → at + form_width family ≤ base + n → operand_fits rec count family at ≡ operand_fits rec' count family at'
  unfolding operand_fits form_width
  operand_same count DecOne at at' m h = rw (u16-same (at + 1) (at' + 1) (omega arith) (omega arith))
  operand_same count StrExp at at' m h = refl
  operand_same count SigExp at at' m h = refl
  operand_same count Exp at at' m h = refl
  operand_same count Pat at at' m h = refl
  operand_same count Ty at at' m h = refl

  -- A check that passes within the common bytes passes in the other record too, as far on.
  abbrev Local : (ℕ → Checked) → (ℕ → Checked) → Type 0
  Local k k' = (at at' end : ℕ) → Meets at at' → end ≤ base + n → k at ≡ ok end → k' at' ≡ ok (at' + (end - at))

  module _ (k k' : ℕ → Checked) (grows : Grows k) (local : Local k k') where
    then-local : (at at' end : ℕ) (x x' : Checked) → Meets at at' → end ≤ base + n
        → ((m : ℕ) → x ≡ ok m → at ≤ m) → ((m : ℕ) → m ≤ base + n → x ≡ ok m → x' ≡ ok (at' + (m - at)))
        → and_then x k ≡ ok end → and_then x' k' ≡ ok (at' + (end - at))
    unfolding and_then
    then-local at at' end x x' meets h on f e =
        let q = then_parts x k end e in
        let m = q.0 in
        let a : at ≤ m = on m q.1 in
        let b : m ≤ end = grows m end q.2 in
        let z : at' + (m - at) + (end - m) ≡ at' + (end - at) = omega arith in
        ap (λ (y : Checked). and_then y k') (f m (omega arith) q.1)
        ∙ local m (at' + (m - at)) end (omega arith) h q.2
        ∙ ap ok z

    -- A step over a command, then the check.
    step_local : (at at' step end : ℕ) → Meets at at' → end ≤ base + n → k (at + step) ≡ ok end → k' (at' + step) ≡ ok (at' + (end - at))
    step_local at at' step end meets h e =
        let a : at + step ≤ end = grows (at + step) end e in
        let z : at' + step + (end - (at + step)) ≡ at' + (end - at) = omega arith in
        local (at + step) (at' + step) end (omega arith) h e ∙ ap ok z

  items-local : (m : ℕ) (k k' : ℕ → Checked) → Grows k → Local k k' → Local (items m k) (items m k')
  unfolding items
  items-local zero k k' g l at at' end meets h e = let z : at ≡ end = cc in ap ok (omega arith)
  items-local (suc m) k k' g l at at' end meets h e =
      then-local (λ next. items m k next) (λ next. items m k' next) (items-grow m k g) (items-local m k k' g l)
      at at' end (k at) (k' at') meets h (λ x f. g at x f) (λ x i f. l at at' x meets i f) e

  module _ (count : ℕ) where
    -- A field that may be absent.
    module _ (at at' end : ℕ) (meets : Meets at at') (h : end ≤ base + n) (x x' : Checked)
        (f : x ≡ ok end → Ahead at end × (x' ≡ ok (at' + (end - at)))) where
      or-local : (may b : Bool) → (may && absent_at rec at) ≡ b → or_absent rec count may at x ≡ ok end → or_absent rec' count may at' x' ≡ ok (at' + (end - at))
      or-local true true a e =
          let y : ok (at + 1) ≡ ok end = sym (or_is rec count true at x true a) ∙ e in
          let z : at + 1 ≡ end = cc in
          let w : at' + 1 ≡ at' + (end - at) = omega arith in
          or_is rec' count true at' x' true (absent-same at at' meets (omega arith) a) ∙ ap ok w
      or-local true false a e =
          let y : x ≡ ok end = sym (or_is rec count true at x false a) ∙ e in
          let z = f y in
          or_is rec' count true at' x' false (present-same at at' meets (omega arith) z.0.1 a) ∙ z.1
      or-local false true a e = never (cc)
      or-local false false a e = or_is rec' count false at' x' false refl ∙ (f (sym (or_is rec count false at x false a) ∙ e)).1

    -- ---- fields, over the checks of forms
    module _ (inner inner' : Family → ℕ → Checked) (grows : (family : Family) → Grows (inner family))
        (ahead : (family : Family) (at end : ℕ) → inner family at ≡ ok end → Ahead at end) (local : (family : Family) → Local (inner family) (inner' family)) where
      fields-local : (may : Bool) (f : Fields) → Local (λ next. fields rec count inner may f next) (λ next. fields rec' count inner' may f next)
      unfolding fields token_fits
      fields-local may Fields.none at at' end meets h e = let z : at ≡ end = cc in ap ok (omega arith)
      fields-local may (f ▸ g) at at' end meets h e =
          then-local (λ next. fields rec count inner may g next) (λ next. fields rec' count inner' may g next)
          (fields-grow rec count inner grows may g) (fields-local may g) at at' end _ _ meets h
          (λ m x. fields-grow rec count inner grows may f at m x) (λ m i x. fields-local may f at at' m meets i x) e
      fields-local may token at at' end meets h e =
          or-local at at' end meets h _ _
          (λ x. let q = some_parts (token_fits rec count at) _ at end x in
          let r = token-parts rec count at q.0 q.1 in
          let z : at + 3 ≡ end = cc in
          let l : at + 3 ≤ length rec = token-fits rec at q.0 r.0 in
          let w : at' + 3 ≡ at' + (end - at) = omega arith in
          (omega arith, rw (token-same at at' q.0 meets (omega arith) r.0, r.1, token_fits) (ap ok w)))
          may (may && absent_at rec at) refl e
      fields-local may (list f) at at' end meets h e =
          let k : ℕ → Checked = λ next. fields rec count inner false f next in
          let k' : ℕ → Checked = λ next. fields rec' count inner' false f next in
          let g : Grows k = fields-grow rec count inner grows false f in
          let q = some_parts (list_at rec at) _ at end e in
          let z : at + 3 ≤ end = items-grow q.0 k g (at + 3) end q.2 in
          rw (list_same at at' q.0 meets (omega arith) q.1, fields)
          (step_local (items q.0 k) (items q.0 k') (items-grow q.0 k g) (items-local q.0 k k' g (fields-local false f)) at at' 3 end meets h q.2)
      fields-local may (group f) at at' end meets h e =
          let k : ℕ → Checked = λ next. fields rec count inner true f next in
          let k' : ℕ → Checked = λ next. fields rec' count inner' true f next in
          let g : Grows k = fields-grow rec count inner grows true f in
          or-local at at' end meets h _ _
          (λ x. let q = if_parts (group_at rec at) (k (at + 1)) at end x in
          let z : at + 1 ≤ end = g (at + 1) end q.1 in
          let l : at + 1 ≤ length rec = group-fits rec at q.0 in
          (omega arith, rw (group-same at at' meets (omega arith) q.0) (step_local k k' g (fields-local true f) at at' 1 end meets h q.1)))
          may (may && absent_at rec at) refl e
      fields-local may (choice m f) at at' end meets h e =
          or-local at at' end meets h _ _
          (λ x. let q = some_parts (choice_at rec at) _ at end x in
          let k : ℕ → Checked = λ next. fields rec count inner true (f q.0) next in
          let k' : ℕ → Checked = λ next. fields rec' count inner' true (f q.0) next in
          let g : Grows k = fields-grow rec count inner grows true (f q.0) in
          let r = if_parts (ltb q.0 m) (k (at + 2)) at end q.2 in
          let z : at + 2 ≤ end = g (at + 2) end r.1 in
          let l : at + 2 ≤ length rec = choice-fits rec at q.0 q.1 in (
            omega arith,
            rw (choice_same at at' q.0 meets (omega arith) q.1, r.0) (step_local k k' g (fields-local true (f q.0)) at at' 2 end meets h r.1),
          ))
          may (may && absent_at rec at) refl e
      fields-local may (form family) at at' end meets h e =
          or-local at at' end meets h _ _ (λ x. (ahead family at end x, local family at at' end meets h x))
          may (may && absent_at rec at) refl e

    -- ---- forms, at each depth
    fits-same : (family : Family) (at at' k : ℕ) → Meets at at' → at + form_width family ≤ base + n → form_fits rec count family at ≡ Some k → form_fits rec' count family at' ≡ Some k
    unfolding form_fits
    fits-same family at at' k meets h e =
        let p = fits-parts rec count family at k e in
        rw (form-same family at at' k meets h p.0, form_fits, sym (operand_same count family at at' meets h) ∙ p.1)

    form-ahead : (depth : ℕ) (family : Family) (at end : ℕ) → form_check rec count depth family at ≡ ok end → Ahead at end
    unfolding form_check
    form-ahead zero family at end e = zero-never rec count family at end e
    form-ahead (suc depth) family at end e =
        let q = some_parts (form_fits rec count family at) _ at end e in
        let w : 1 ≤ form_width family = form_wide family in
        let z : at + form_width family ≤ end =
        fields-grow rec count (λ f next. form_check rec count depth f next) (form-grows rec count depth) true (get_or (forms family) q.0 Fields.none) (at + form_width family) end q.2 in
        let l : at + form_width family ≤ length rec = form-fits rec at family q.0 (fits-parts rec count family at q.0 q.1).0 in
        omega arith

    form-local : (depth : ℕ) (family : Family) → Local (form_check rec count depth family) (form_check rec' count depth family)
    unfolding form_check
    form-local zero family at at' end meets h e = zero-never rec count family at end e
    form-local (suc depth) family at at' end meets h e =
        let i : Family → ℕ → Checked = λ f next. form_check rec count depth f next in
        let i' : Family → ℕ → Checked = λ f next. form_check rec' count depth f next in
        let q = some_parts (form_fits rec count family at) _ at end e in
        let f : Fields = get_or (forms family) q.0 Fields.none in
        let g : Grows (λ next. fields rec count i true f next) = fields-grow rec count i (form-grows rec count depth) true f in
        let z : at + form_width family ≤ end = g (at + form_width family) end q.2 in
        rw (fits-same family at at' q.0 meets (omega arith) q.1, form_check)
        (step_local (λ next. fields rec count i true f next) (λ next. fields rec' count i' true f next) g
        (fields-local i i' (form-grows rec count depth) (form-ahead depth) (form-local depth) true f) at at' (form_width family) end meets h q.2)

    field-local : (f : Fields) → Local (field_end rec count f) (field_end rec' count f)
    unfolding field_end
    field-local f at at' end meets h e =
        fields-local (form_check rec count 200) (form_check rec' count 200) (form-grows rec count 200) (form-ahead 200) (form-local 200) true f at at' end meets h e

-- A field that passes, `size` bytes long, passes in any other record in which these bytes stand, wherever they stand.
pub local : (rec rec' : List ℕ) (count : ℕ) (f : Fields) (at at' size : ℕ)
    → at' + size ≤ length rec' → take size (drop at rec) ≡ take size (drop at' rec')
    → field_end rec count f at ≡ ok (at + size) → field_end rec' count f at' ≡ ok (at' + size)
local rec rec' count f at at' size there same e =
    let bytes : (i : ℕ) → i < size → get_or rec (at + i) 0 ≡ get_or rec' (at' + i) 0
    = λ i h. sym (get_or-drop at rec i 0) ∙ sym (get_or-take size (drop at rec) i 0 h) ∙ ap (λ (l : List ℕ). get_or l i 0) same ∙ get_or-take size (drop at' rec') i 0 h ∙ get_or-drop at' rec' i 0 in
    let z : at' + (at + size - at) ≡ at' + size = omega arith in
    field-local rec rec' at at' size there bytes count f at at' (at + size) (omega arith) (omega arith) e ∙ ap ok z
