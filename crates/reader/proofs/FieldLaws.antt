-- Laws of the check of fields: it never goes back, and how fields, items and a row of codes are passed.
use Prim.Native.Nat.{ℕ, zero, suc, ◌+◌, ◌-◌, ◌*◌, ◌/◌, ◌%◌, ◌^◌, ◌≤◌, ◌<◌}
use mathlib.Core.Path.{◌≡◌, refl, sym, ◌∙◌, ap, subst}
use mathlib.Core.List.{List}
use mathlib.Core.Bool.{Bool, true, false, ◌&&◌}
use Rattle.std.specs.Prelude.{Option, None, Some, Result, Ok, Err}
use native.Mathlib.Omega.{arith}
use lib.ListN.{length, get_or, replicate, get_or-map}
use lib.Dec.{ltb, eqb}
use borrow.Author.Tests.{lt-ltb, le-ltb, eq-eqb, ne_eqb, eqb-true, eqb-false}
use Rattle.text.proofs.Laws.{never}
use Rattle.reader.specs.Fields.{Family, Fields, ◌▸◌, token, list, group, choice, form, forms, Dec}
use Rattle.reader.specs.Commands.{absent_at, token_at, list_at, group_at, choice_at, form_at, form_width}
use Rattle.reader.specs.Check.{Checked, ok, malformed, too_deep, and_then, items, operand_fits, token_fits, or_absent, fields, form_fits, form_check, tree_check}
use Rattle.reader.proofs.CommandLaws.{some_true}
use Rattle.reader.specs.Promises.Grammar.{groups, nodes, node, field_of, digits, fields_of}
use Rattle.reader.specs.Promises.Tree.{told, opened, Opens, ran, Runs, FieldsEnd, ItemsEnd, TreeEnd}
use Rattle.reader.specs.declared.Refusal.{Refusal}
use Rattle.reader.specs.declared.Refusal.TheVariants.{Malformed}
use Rattle.reader.specs.declared.tree.Opened.{Opened}
use Rattle.reader.specs.declared.tree.Opened.TheVariants.{Token, Inside}
use Rattle.reader.specs.declared.tree.Run.{Run}

-- ---- what an answer says of a check
pub told-ok : (x : Checked) {end : ℕ} → Ok end ≡ told x → x ≡ ok end
unfolding told
told-ok (ok at) e = ap ok (let z : at ≡ _ = cc in z)
told-ok (malformed place) e = never (cc)
told-ok (too_deep place) e = never (cc)

-- A refusal is that of two checks one after the other.
pub told-err : (x : Checked) {why : Refusal} (k : ℕ → Checked) → Err why ≡ told x → Err why ≡ told (and_then x k)
unfolding told and_then
told-err (ok at) k e = never (cc)
told-err (malformed place) k e = e
told-err (too_deep place) k e = e

-- ---- what a check that passes says of its parts
-- Two checks one after the other: where the first ends.
pub then_parts : (x : Checked) (k : ℕ → Checked) (end : ℕ) → and_then x k ≡ ok end → (mid : ℕ) × (x ≡ ok mid) × (k mid ≡ ok end)
unfolding and_then
then_parts (ok mid) k end e = (mid, refl, e)
then_parts (malformed place) k end e = never (cc)
then_parts (too_deep place) k end e = never (cc)

-- A test, then a check.
pub if_parts : (b : Bool) (x : Checked) (at end : ℕ) → ◌≡◌ {A = Checked} (elim b [ true ↦ x | false ↦ malformed at ]) (ok end) → (b ≡ true) × (x ≡ ok end)
if_parts true x at end e = (refl, e)
if_parts false x at end e = never (cc)

-- A number that is read, then a check.
pub some_parts : (o : Option ℕ) (k : ℕ → Checked) (at end : ℕ) → ◌≡◌ {A = Checked} (elim o [ None ↦ malformed at | Some n ↦ k n ]) (ok end)
    → (n : ℕ) × (o ≡ Some n) × (k n ≡ ok end)
some_parts None k at end e = never (cc)
some_parts (Some n) k at end e = (n, refl, e)

-- ---- a check that passes never goes back
abbrev pub Grows : (ℕ → Checked) → Type 0
Grows k = (at end : ℕ) → k at ≡ ok end → at ≤ end

then_grows : (at end : ℕ) (x : Checked) (k : ℕ → Checked) → ((m : ℕ) → x ≡ ok m → at ≤ m) → Grows k → and_then x k ≡ ok end → at ≤ end
then_grows at end x k f g e =
    let q = then_parts x k end e in
    let a : at ≤ q.0 = f q.0 q.1 in
    let b : q.0 ≤ end = g q.0 end q.2 in
    omega arith

pub items-grow : (n : ℕ) (k : ℕ → Checked) → Grows k → Grows (items n k)
unfolding items
items-grow zero k g at end e = let z : at ≡ end = cc in omega arith
items-grow (suc n) k g at end e = then_grows at end (k at) (λ next. items n k next) (λ m f. g at m f) (items-grow n k g) e

module _ (rec : List ℕ) (count : ℕ) where
  -- A field that may be absent, by whether it is.
  pub or_is : (may : Bool) (at : ℕ) (x : Checked) (b : Bool) → (may && absent_at rec at) ≡ b → or_absent rec count may at x ≡ elim b as (λ y. Checked) [ true ↦ ok (at + 1) | false ↦ x ]
  unfolding or_absent
  or_is may at x b e = rw (e, or_absent)

  absent-grows : (b : Bool) (at end : ℕ) (there : Checked) → (there ≡ ok end → at ≤ end) → ◌≡◌ {A = Checked} (elim b [ true ↦ ok (at + 1) | false ↦ there ]) (ok end) → at ≤ end
  absent-grows true at end there f e = let z : at + 1 ≡ end = cc in omega arith
  absent-grows false at end there f e = f e

  or-grows : (may : Bool) (at end : ℕ) (there : Checked) → (there ≡ ok end → at ≤ end) → or_absent rec count may at there ≡ ok end → at ≤ end
  unfolding or_absent
  or-grows may at end there f e = absent-grows (may && absent_at rec at) at end there f e

  pub fields-grow : (inner : Family → ℕ → Checked) → ((family : Family) → Grows (inner family)) → (may : Bool) (f : Fields) → Grows (λ next. fields rec count inner may f next)
  unfolding fields
  fields-grow inner g may Fields.none at end e = let z : at ≡ end = cc in omega arith
  fields-grow inner g may (f ▸ h) at end e =
      then_grows at end (fields rec count inner may f at) (λ next. fields rec count inner may h next)
      (λ m x. fields-grow inner g may f at m x) (fields-grow inner g may h) e
  fields-grow inner g may token at end e =
      or-grows may at end _
      (λ x. let q = some_parts (token_fits rec count at) _ at end x in
      let z : at + 3 ≡ end = cc in
      omega arith) e
  fields-grow inner g may (list f) at end e =
      let q = some_parts (list_at rec at) _ at end e in
      let h : at + 3 ≤ end = items-grow q.0 (λ next. fields rec count inner false f next) (fields-grow inner g false f) (at + 3) end q.2 in
      omega arith
  fields-grow inner g may (group f) at end e =
      or-grows may at end _
      (λ x. let q = if_parts (group_at rec at) _ at end x in
      let h : at + 1 ≤ end = fields-grow inner g true f (at + 1) end q.1 in
      omega arith) e
  fields-grow inner g may (choice n f) at end e =
      or-grows may at end _
      (λ x. let q = some_parts (choice_at rec at) _ at end x in
      let r = if_parts (ltb q.0 n) _ at end q.2 in
      let h : at + 2 ≤ end = fields-grow inner g true (f q.0) (at + 2) end r.1 in
      omega arith) e
  fields-grow inner g may (form family) at end e = or-grows may at end _ (λ x. g family at end x) e

  -- A token that fits: its command, and its number below the count.
  pub token-parts : (at k : ℕ) → token_fits rec count at ≡ Some k → (token_at rec at ≡ Some k) × (ltb k count ≡ true)
  unfolding token_fits
  token-parts at k e = go (token_at rec at) e
    where
      go : (o : Option ℕ) → ◌≡◌ {A = Option ℕ} (elim o [ None ↦ None | Some n ↦ elim (ltb n count) [ true ↦ Some n | false ↦ None ] ]) (Some k)
          → (o ≡ Some k) × (ltb k count ≡ true)
      go None e = never (cc)
      go (Some n) e =
          let q = some_true (ltb n count) n k e in
          (ap Some q.1, subst (λ (i : ℕ). ltb i count ≡ true) q.1 q.0)

  -- A form that fits, from its command and its operand.
  pub fits-parts : (family : Family) (at k : ℕ) → form_fits rec count family at ≡ Some k → (form_at rec family at ≡ Some k) × (operand_fits rec count family at ≡ true)
  unfolding form_fits
  fits-parts family at k e = go (form_at rec family at) e
    where
      go : (o : Option ℕ) → ◌≡◌ {A = Option ℕ} (elim o [ None ↦ None | Some n ↦ elim (operand_fits rec count family at) [ true ↦ Some n | false ↦ None ] ]) (Some k)
          → (o ≡ Some k) × (operand_fits rec count family at ≡ true)
      go None e = never (cc)
      go (Some n) e = let p = some_true (operand_fits rec count family at) n k e in (ap Some p.1, p.0)

  pub fits-yes : (family : Family) (at : ℕ) → operand_fits rec count family at ≡ true → form_fits rec count family at ≡ form_at rec family at
  unfolding form_fits
  fits-yes family at e = go (form_at rec family at)
    where
      go : (o : Option ℕ) → ◌≡◌ {A = Option ℕ} (elim o [ None ↦ None | Some n ↦ elim (operand_fits rec count family at) [ true ↦ Some n | false ↦ None ] ]) o
      go None = refl
      go (Some n) = rw e refl

  pub fits-no : (family : Family) (at : ℕ) → operand_fits rec count family at ≡ false → form_fits rec count family at ≡ None
  unfolding form_fits
  fits-no family at e = go (form_at rec family at)
    where
      go : (o : Option ℕ) → ◌≡◌ {A = Option ℕ} (elim o [ None ↦ None | Some n ↦ elim (operand_fits rec count family at) [ true ↦ Some n | false ↦ None ] ]) None
      go None = refl
      go (Some n) = rw e refl

  -- Where no form may stand, none passes.
  pub zero-never : {P : Type 0} (family : Family) (at end : ℕ) → form_check rec count 0 family at ≡ ok end → P
  unfolding form_check
  zero-never {P} family at end e = go (form_fits rec count family at) refl
    where
      go : (o : Option ℕ) → form_fits rec count family at ≡ o → P
      go None f = let d = rw (f, form_check) at e in never (cc)
      go (Some n) f = let d = rw (f, form_check) at e in never (cc)

  pub form-grows : (depth : ℕ) (family : Family) → Grows (form_check rec count depth family)
  unfolding form_check
  form-grows zero family at end e = zero-never family at end e
  form-grows (suc depth) family at end e =
      let q = some_parts (form_fits rec count family at) _ at end e in
      let h : at + form_width family ≤ end =
      fields-grow (λ f next. form_check rec count depth f next) (form-grows depth) true (get_or (forms family) q.0 Fields.none) (at + form_width family) end q.2 in
      omega arith

-- ---- a node that is not absent is read alike as a field and as an item
atom : Fields → Bool
atom Fields.none = false
atom (f ▸ g) = false
atom token = true
atom (list f) = false
atom (group f) = true
atom (choice n f) = true
atom (form family) = true

all_true : (n i : ℕ) → get_or (replicate n true) i true ≡ true
all_true zero i = refl
all_true (suc n) zero = refl
all_true (suc n) (suc i) = all_true n i

node-atom : (code : ℕ) → atom (node code) ≡ true
unfolding atom node nodes groups
node-atom code = sym (get_or-map atom nodes code token) ∙ all_true 46 code

module _ (rec : List ℕ) (count : ℕ) (inner : Family → ℕ → Checked) (at : ℕ) where
  not-absent : (there : Checked) → absent_at rec at ≡ false → there ≡ or_absent rec count true at there
  not-absent there e = sym (or_is rec count true at there false e)

  is-absent : (there : Checked) → absent_at rec at ≡ true → ok (at + 1) ≡ or_absent rec count true at there
  is-absent there e = sym (or_is rec count true at there true e)

  present : (f : Fields) → atom f ≡ true → absent_at rec at ≡ false → fields rec count inner false f at ≡ fields rec count inner true f at
  unfolding fields or_absent atom
  present Fields.none a e = never (cc)
  present (f ▸ g) a e = never (cc)
  present token a e = not-absent _ e
  present (list f) a e = refl
  present (group f) a e = not-absent _ e
  present (choice n f) a e = not-absent _ e
  present (form family) a e = not-absent _ e

  absent : (f : Fields) → atom f ≡ true → absent_at rec at ≡ true → ok (at + 1) ≡ fields rec count inner true f at
  unfolding fields atom
  absent Fields.none a e = never (cc)
  absent (f ▸ g) a e = never (cc)
  absent token a e = is-absent _ e
  absent (list f) a e = never (cc)
  absent (group f) a e = is-absent _ e
  absent (choice n f) a e = is-absent _ e
  absent (form family) a e = is-absent _ e

field-node : (code : ℕ) → code < 128 → field_of code ≡ node code
unfolding field_of
field-node code h = rw (lt-ltb code 128 h, field_of)

field_list : (code : ℕ) → 128 ≤ code → field_of code ≡ list (node (code - 128))
unfolding field_of
field_list code h = rw (le-ltb code 128 h, field_of)

then_ok : (x : Checked) → and_then x (λ next. ok next) ≡ x
unfolding and_then
then_ok (ok m) = refl
then_ok (malformed p) = refl
then_ok (too_deep p) = refl

-- ---- the nodes of a field, from its command
module _ {rec : List ℕ} {code at : ℕ} where
  pub list_none : 128 ≤ code → list_at rec at ≡ None → Runs rec code at None
  unfolding fields ran
  list_none h e = record { is = λ count left. rw (field_list code h) (rw (e, fields)); on = tt }

  pub list_some : {n : ℕ} → 128 ≤ code → list_at rec at ≡ Some n → Runs rec code at (Some (record { code = code - 128; n = n; at = at + 3 }))
  unfolding fields ran
  list_some h e = record { is = λ count left. rw (field_list code h) (rw (e, fields)); on = omega arith }

  pub field_absent : code < 128 → absent_at rec at ≡ true → Runs rec code at (Some (record { code = code; n = 0; at = at + 1 }))
  unfolding ran items
  field_absent h e =
      record {
        is = λ count left. rw (field-node code h) (absent rec count (form_check rec count left) at (node code) (node-atom code) e);
        on = omega arith;
      }

  pub field_item : code < 128 → absent_at rec at ≡ false → Runs rec code at (Some (record { code = code; n = 1; at = at }))
  unfolding ran items
  field_item h e =
      record {
        is = λ count left.
            then_ok (fields rec count (form_check rec count left) false (node code) at)
            ∙ rw (field-node code h) (present rec count (form_check rec count left) at (node code) (node-atom code) e);
        on = omega arith;
      }

-- ---- what a field says, from its nodes
module _ {rec : List ℕ} {code at : ℕ} {r : Option Run} (s : Runs rec code at r) where
  pub run_none : {count left : ℕ} → r ≡ None → FieldsEnd rec count left true (field_of code) at (Err (Malformed at))
  unfolding ran told
  run_none {count} {left} e = record { is = ap told (ap (ran rec count left at) (sym e) ∙ s.is count left) }

  module _ {run : Run} (e : r ≡ Some run) where
    pub run_nodes : {count left : ℕ} {found : Result ℕ Refusal} → ItemsEnd rec count left run.n (node run.code) run.at found → FieldsEnd rec count left true (field_of code) at found
    unfolding ran
    run_nodes {count} {left} i = record { is = i.is ∙ ap told (ap (ran rec count left at) (sym e) ∙ s.is count left) }

    pub run_onwards : at ≤ run.at
    run_onwards = rw e at s.on

-- ---- what a node says, from its command
module _ {rec : List ℕ} {count left at : ℕ} {f : Fields} {r : Result Opened Refusal} (s : Opens rec count left f at r) where
  pub opened_token : {next : ℕ} → r ≡ Ok (Token next) → FieldsEnd rec count left false f at (Ok next)
  unfolding opened
  opened_token e = record { is = ap (opened rec count) (sym e) ∙ s.is }

  pub opened_stops : {why : Refusal} → r ≡ Err why → FieldsEnd rec count left false f at (Err why)
  unfolding opened
  opened_stops e = record { is = ap (opened rec count) (sym e) ∙ s.is }

  module _ {codes next deeper : ℕ} (e : r ≡ Ok (Inside codes next deeper)) where
    pub opened_inside : {found : Result ℕ Refusal} → FieldsEnd rec count deeper true (fields_of codes) next found → FieldsEnd rec count left false f at found
    unfolding opened
    opened_inside i = record { is = i.is ∙ ap (opened rec count) (sym e) ∙ s.is }

    pub opened_ahead : (at < next) × (next ≤ length rec)
    opened_ahead = rw e at s.on

-- ---- a row of codes
abbrev bound : ℕ → ℕ
bound zero = 1
bound (suc n) = 256 * bound n

digits-zero : (n : ℕ) → digits n 0 ≡ Fields.none
unfolding digits
digits-zero zero = refl
digits-zero (suc n) = refl

-- More digits than the number has change nothing.
module _ (n codes : ℕ) (more : digits n (codes / 256) ≡ digits (suc n) (codes / 256)) where
  enough-more : (b : Bool) → (codes ≡ 0 → ⊥) → eqb (codes / 256) 0 ≡ b → digits (suc n) codes ≡ digits (suc (suc n)) codes
  unfolding digits
  enough-more true z e = rw (ne_eqb codes 0 z, digits, e)
  enough-more false z e = rw (ne_eqb codes 0 z, digits, e, more)

  enough-some : (b : Bool) → eqb codes 0 ≡ b → digits (suc n) codes ≡ digits (suc (suc n)) codes
  enough-some true e = let z : codes ≡ 0 = eqb-true codes 0 e in rw z (digits-zero (suc n) ∙ sym (digits-zero (suc (suc n))))
  enough-some false e = enough-more (eqb (codes / 256) 0) (eqb-false codes 0 e) refl

enough : (n codes : ℕ) → codes < bound n → digits n codes ≡ digits (suc n) codes
unfolding digits
enough zero codes h = let z : codes ≡ 0 = omega arith in rw z (sym (digits-zero 1))
enough (suc n) codes h = enough-some n codes (enough n (codes / 256) (omega arith)) (eqb codes 0) refl

module _ (n codes : ℕ) (z : codes ≡ 0 → ⊥) where
  last-digit : eqb (codes / 256) 0 ≡ true → digits (suc n) codes ≡ field_of (codes % 256)
  unfolding digits
  last-digit e = rw (ne_eqb codes 0 z, digits, e)

  first-digit : eqb (codes / 256) 0 ≡ false → digits (suc n) codes ≡ field_of (codes % 256) ▸ digits n (codes / 256)
  unfolding digits
  first-digit e = rw (ne_eqb codes 0 z, digits, e)

module _ (rec : List ℕ) (count : ℕ) (inner : Family → ℕ → Checked) (codes at : ℕ) (h : codes < 2 ^ 32) (z : codes ≡ 0 → ⊥) where
  abbrev first : Checked
  first = fields rec count inner true (field_of (codes % 256)) at

  abbrev behind : Fields → Checked
  behind f = and_then first (λ next. fields rec count inner true f next)

  behind-none : first ≡ behind Fields.none
  unfolding fields
  behind-none = sym (then_ok first)

  behind_more : (f : Fields) → fields rec count inner true (field_of (codes % 256) ▸ f) at ≡ behind f
  unfolding fields
  behind_more f = refl

  digits_step : (b : Bool) → eqb (codes / 256) 0 ≡ b → fields rec count inner true (fields_of codes) at ≡ behind (fields_of (codes / 256))
  digits_step true e =
      ap (λ (f : Fields). fields rec count inner true f at) (last-digit 3 codes z e)
      ∙ behind-none
      ∙ ap behind (sym (ap (digits 4) (eqb-true (codes / 256) 0 e) ∙ digits-zero 4))
  digits_step false e =
      ap (λ (f : Fields). fields rec count inner true f at) (first-digit 3 codes z e)
      ∙ behind_more (digits 3 (codes / 256))
      ∙ ap behind (enough 3 (codes / 256) (omega arith))

  -- The first code of a row, then the others.
  pub row_step : fields rec count inner true (fields_of codes) at ≡ behind (fields_of (codes / 256))
  row_step = digits_step (eqb (codes / 256) 0) refl

-- ---- turns of the loops
module _ {rec : List ℕ} {count left : ℕ} where
  pub grown : {at next : ℕ} {may : Bool} {f : Fields} → FieldsEnd rec count left may f at (Ok next) → at ≤ next
  grown {at} {next} {may} {f} s = fields-grow rec count (form_check rec count left) (form-grows rec count left) may f at next (told-ok _ s.is)

-- Within a row: the codes that are left, from the place reached, say what all of them say.
pub record Passed (rec : List ℕ) (count left codes at rest next : ℕ) : Type 0 where
  pub on : at ≤ next
  pub small : rest < 2 ^ 32
  pub same : fields rec count (form_check rec count left) true (fields_of rest) next ≡ fields rec count (form_check rec count left) true (fields_of codes) at

module _ {rec : List ℕ} {count left codes at : ℕ} where
  pub row_starts : codes < 2 ^ 32 → Passed rec count left codes at codes at
  row_starts h = record { on = omega arith; small = h; same = refl }

  pub row_ends : {rest next : ℕ} → Passed rec count left codes at rest next → rest ≡ 0 → FieldsEnd rec count left true (fields_of codes) at (Ok next)
  unfolding fields digits told
  row_ends {rest} {next} p z = record { is = ap told (sym (ap (λ (n : ℕ). fields rec count (form_check rec count left) true (fields_of n) next) z) ∙ p.same) }

  module _ {rest next : ℕ} (p : Passed rec count left codes at rest next) (z : rest ≡ 0 → ⊥) where
    abbrev then : ℕ → Checked
    then end = fields rec count (form_check rec count left) true (fields_of (rest / 256)) end

    turn : and_then (fields rec count (form_check rec count left) true (field_of (rest % 256)) next) then ≡ fields rec count (form_check rec count left) true (fields_of codes) at
    turn = sym (row_step rec count (form_check rec count left) rest next p.small z) ∙ p.same

    pub row_stops : {why : Refusal} → FieldsEnd rec count left true (field_of (rest % 256)) next (Err why) → FieldsEnd rec count left true (fields_of codes) at (Err why)
    row_stops s = record { is = told-err _ then s.is ∙ ap told turn }

    pub row_goes : {end : ℕ} → FieldsEnd rec count left true (field_of (rest % 256)) next (Ok end) → Passed rec count left codes at (rest / 256) end
    unfolding and_then
    row_goes {end} s =
        let h : next ≤ end = grown s in
        let k : at ≤ next = p.on in
        let l : rest < 2 ^ 32 = p.small in
        record { on = omega arith; small = omega arith; same = sym (ap (λ (x : Checked). and_then x then) (told-ok _ s.is)) ∙ turn }

-- An item, from an offset on.
abbrev item_of : List ℕ → ℕ → ℕ → Fields → ℕ → Checked
item_of rec count left f x = fields rec count (form_check rec count left) false f x

-- Within a list: the items that are left, from the place reached, say what all of them say.
pub record Counted (rec : List ℕ) (count left n : ℕ) (f : Fields) (at i next : ℕ) : Type 0 where
  pub on : at ≤ next
  pub below : i ≤ n
  pub same : items (n - i) (item_of rec count left f) next ≡ items n (item_of rec count left f) at

items-step : (m : ℕ) (k : ℕ → Checked) (at : ℕ) → items (suc m) k at ≡ and_then (k at) (λ next. items m k next)
unfolding items
items-step m k at = refl

items-none : (k : ℕ → Checked) (at : ℕ) → items 0 k at ≡ ok at
unfolding items
items-none k at = refl

module _ {rec : List ℕ} {count left n : ℕ} {f : Fields} {at : ℕ} where
  pub list_starts : Counted rec count left n f at 0 at
  list_starts = let z : n - 0 ≡ n = omega arith in record { on = omega arith; below = omega arith; same = ap (λ (m : ℕ). items m (item_of rec count left f) at) z }

  pub list_ends : {i next : ℕ} → Counted rec count left n f at i next → n ≤ i → ItemsEnd rec count left n f at (Ok next)
  unfolding told
  list_ends {i} {next} p h =
      let z : n - i ≡ 0 = omega arith in
      record { is = ap told (sym (items-none (item_of rec count left f) next) ∙ ap (λ (m : ℕ). items m (item_of rec count left f) next) (sym z) ∙ p.same) }

  module _ {i next : ℕ} (p : Counted rec count left n f at i next) (h : i < n) where
    abbrev more : ℕ → Checked
    more end = items (n - (i + 1)) (item_of rec count left f) end

    again : and_then (item_of rec count left f next) more ≡ items n (item_of rec count left f) at
    again =
        let z : suc (n - (i + 1)) ≡ n - i = omega arith in
        sym (items-step (n - (i + 1)) (item_of rec count left f) next)
        ∙ ap (λ (m : ℕ). items m (item_of rec count left f) next) z
        ∙ p.same

    pub list_stops : {why : Refusal} → FieldsEnd rec count left false f next (Err why) → ItemsEnd rec count left n f at (Err why)
    list_stops s = record { is = told-err _ more s.is ∙ ap told again }

    pub list_goes : {end : ℕ} → FieldsEnd rec count left false f next (Ok end) → Counted rec count left n f at (i + 1) end
    unfolding and_then
    list_goes {end} s =
        let g : next ≤ end = grown s in
        let k : at ≤ next = p.on in
        record { on = omega arith; below = omega arith; same = sym (ap (λ (x : Checked). and_then x more) (told-ok _ s.is)) ∙ again }

-- ---- the whole tree
module _ {rec : List ℕ} {count at : ℕ} where
  pub tree_stops : {why : Refusal} → FieldsEnd rec count 200 true (list Dec) at (Err why) → TreeEnd rec count at (Err why)
  unfolding tree_check
  tree_stops s = record { is = told-err _ (λ end. elim (eqb end (length rec)) [ true ↦ ok end | false ↦ malformed end ]) s.is }

  module _ {end : ℕ} (s : FieldsEnd rec count 200 true (list Dec) at (Ok end)) where
    pub tree_whole : end ≡ length rec → TreeEnd rec count at (Ok end)
    unfolding tree_check and_then told
    tree_whole h = record { is = rw (told-ok _ s.is, and_then, eq-eqb end (length rec) h) }

    pub tree_over : (end ≡ length rec → ⊥) → TreeEnd rec count at (Err (Malformed end))
    unfolding tree_check and_then told
    tree_over h = record { is = rw (told-ok _ s.is, and_then, ne_eqb end (length rec) h) }
