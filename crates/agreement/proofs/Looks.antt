-- AppExp looks at both its expressions before it walks into the first: on fields that pass it stops there only at an absent field, or at a
-- path without names.
use native.Mathlib.Omega.{arith}
use mathlib.Core.Path.{◌≡◌, refl, sym, ap, ◌∙◌, subst}
use mathlib.Core.List.{[]}
use mathlib.Core.Bool.{Bool, true, false}
use Rattle.std.specs.Prelude.{Option, None, Some}
use mathlib.Core.Logic.{◌⊎◌, inl, inr}
use Prim.Native.Nat.{ℕ, zero, suc, ◌+◌, ◌≤◌}
use lib.ListN.{get_or}
use lib.Dec.{eqb}
use borrow.Author.Tests.{eqb-true, ne_eqb}
use Rattle.text.proofs.Laws.{never}
use Rattle.reader.specs.Fields.{Exp, Fields, ◌▸◌, Path, forms}
use Rattle.reader.specs.Forms.{PathExp, exp_number}
use Rattle.reader.specs.Commands.{absent_at, token_at, list_at, group_at, form_at, form_width}
use Rattle.reader.specs.Check as Check
use Rattle.reader.specs.Check.{Checked, ok, malformed, too_deep, and_then, operand_fits, token_fits, or_absent, fields, form_fits, form_check, field_end}
use Rattle.reader.proofs.CommandLaws.{token-there, group-there, form-there, form-fits}
use Rattle.reader.proofs.FieldLaws.{then_parts, some_parts, or_is, fits-yes, zero-never}
use Rattle.reader.proofs.Ends.{ends_more}
use Rattle.layout.specs.Layout.{Layout, Look, Test, ◌⨾◌, look, first_name, application}
use Rattle.layout.specs.Meaning.{Page, Outcome, stopped, absent, bind, or_stop, outcome, sees, name_passes, Name, name, no_name, dot_name, list_name, path_name, op_path_name, path_exp, other_exp, func_is_bang, arg_is_symbolic, Seen, seen, unseen, both_seen, Heads, both, missing, head_of, heads_from, heads_at}
use Rattle.agreement.specs.Agreement.{Proper, Agree}
use Rattle.agreement.specs.Unbounded as Unbounded
use Rattle.agreement.proofs.Layouts.{ends, Agrees, count, gone, there-is}

module _ (p : Page) where
  -- Where the check passes and no name is found, a field is absent or a list is empty at the place.
  abbrev Lacks : ℕ → Type 0
  Lacks place = (absent_at p.rec place ≡ true) ⊎ (list_at p.rec place ≡ Some 0)

  abbrev Finds : Checked → Name → Type 0
  Finds c (name k n) = Unit {0}
  Finds c (no_name place) = (end : ℕ) → c ≡ ok end → Lacks place

  -- What the check says against an expression that is not seen; against both.
  abbrev Sees : Checked → Seen → Type 0
  Sees c (seen h) = Unit {0}
  Sees c (unseen place) = Agree p c (stopped (absent place) [])

  abbrev SeesBoth : Checked → Heads → Type 0
  SeesBoth c (both f a) = Unit {0}
  SeesBoth c (missing place) = Agree p c (stopped (absent place) [])

  -- ---- the first name of a path
  passing : (c : Checked) (n : Name) → ((end : ℕ) → c ≡ ok end → Finds c n) → Finds c n
  passing c (name k m) f = tt
  passing c (no_name place) f = λ end e. f end e end e

  then-finds : (c : Checked) (k : ℕ → Checked) (n : Name) → Finds c n → Finds (and_then c k) n
  then-finds c k (name j m) f = tt
  then-finds c k (no_name place) f = λ end e. let q = then_parts c k end e in f q.0 q.1

  group-finds : (may : Bool) (at : ℕ) (c : Checked) (n : Name) (b : Bool) → group_at p.rec at ≡ b → Finds c n
      → Finds (or_absent p.rec (count p) may at (elim b as (λ b. Checked) [ true ↦ c | false ↦ malformed at ])) (elim b as (λ b. Name) [ true ↦ n | false ↦ no_name at ])
  group-finds may at c n true e f = subst (λ (x : Checked). Finds x n) (sym (there-is p may at c (group-there p.rec at e))) f
  group-finds may at c n false e f = λ end g. inl (gone p may at end g)

  module _ (d : ℕ) where
    abbrev token_end : ℕ → Checked
    token_end at = ends p d true Fields.token at

    -- A field that passes and holds no token is absent.
    none-absent : (at end : ℕ) → token_at p.rec at ≡ None → token_end at ≡ ok end → absent_at p.rec at ≡ true
    unfolding fields token_fits
    none-absent at end t e =
        let f : token_fits p.rec (count p) at ≡ None = rw (t, token_fits) refl in
        gone p true at end (rw (f, fields) at e)

    -- One that holds a token ends behind it.
    some_end : (at k end : ℕ) → token_at p.rec at ≡ Some k → token_end at ≡ ok end → token_end at ≡ ok (at + 3)
    unfolding fields
    some_end at k end t e =
        let s = there-is p true at (elim (token_fits p.rec (count p) at) as (λ o. Checked) [ None ↦ malformed at | Some n ↦ ok (at + 3) ]) (token-there p.rec at k t) in
        let q = some_parts (token_fits p.rec (count p) at) (λ n. ok (at + 3)) at end (sym s ∙ e) in
        let z : at + 3 ≡ end = cc in
        e ∙ ap ok (sym z)

    absent-end : (at : ℕ) → absent_at p.rec at ≡ true → token_end at ≡ ok (at + 1)
    unfolding fields
    absent-end at a = or_is p.rec (count p) true at _ true a

    name-finds : (at n : ℕ) (o : Option ℕ) → token_at p.rec at ≡ o → Finds (token_end at) (elim o as (λ o. Name) [ Some k ↦ name k n | None ↦ no_name at ])
    name-finds at n (Some k) t = tt
    name-finds at n None t = λ end e. inl (none-absent at end t e)

    dot-finds : (at n : ℕ) → Finds (ends p d false (Fields.group Fields.token) at) (dot_name p.rec n at)
    unfolding fields dot_name
    dot-finds at n =
        group-finds false at (token_end (at + 1)) (elim (token_at p.rec (at + 1)) [ Some k ↦ name k n | None ↦ no_name (at + 1) ])
        (group_at p.rec at) refl (name-finds (at + 1) n (token_at p.rec (at + 1)) refl)

    list-finds : (at : ℕ) (o : Option ℕ) → list_at p.rec at ≡ o
        → Finds (elim o as (λ o. Checked) [ None ↦ malformed at | Some n ↦ Check.items n (λ next. ends p d false (Fields.group Fields.token) next) (at + 3) ])
        (elim o as (λ o. Name) [ Some n ↦ elim (eqb n 0) [ true ↦ no_name at | false ↦ dot_name p.rec n (at + 3) ] | None ↦ no_name at ])
    unfolding Check.items
    list-finds at None e = λ end g. never (cc)
    list-finds at (Some zero) e = λ end g. inr e
    list-finds at (Some (suc n)) e =
        rw (ne_eqb (suc n) 0 (λ z. omega (arith, z)))
        (then-finds (ends p d false (Fields.group Fields.token) (at + 3)) (λ next. Check.items n (λ next. ends p d false (Fields.group Fields.token) next) next)
        (dot_name p.rec (suc n) (at + 3)) (dot-finds (at + 3) (suc n)))

    path-finds : (at : ℕ) → Finds (ends p d true Path at) (path_name p.rec at)
    unfolding fields path_name list_name
    path-finds at =
        group-finds true at (ends p d true (Fields.list (Fields.group Fields.token)) (at + 1)) (list_name p.rec (at + 1)) (group_at p.rec at) refl
        (list-finds (at + 1) (list_at p.rec (at + 1)) refl)

    -- Behind `op`, or where it is absent.
    behind-finds : (at mid : ℕ) → token_end at ≡ ok mid → Finds (and_then (token_end at) (λ next. ends p d true Path next)) (path_name p.rec mid)
    unfolding and_then
    behind-finds at mid e = subst (λ (c : Checked). Finds (and_then c (λ next. ends p d true Path next)) (path_name p.rec mid)) (sym e) (path-finds mid)

    op-finds : (at : ℕ) (o : Option ℕ) → token_at p.rec at ≡ o → (b : Bool) → absent_at p.rec at ≡ b
        → Finds (and_then (token_end at) (λ next. ends p d true Path next))
        (elim o as (λ o. Name) [ Some k ↦ path_name p.rec (at + 3) | None ↦ elim b as (λ b. Name) [ true ↦ path_name p.rec (at + 1) | false ↦ no_name at ] ])
    op-finds at (Some k) t b a =
        passing (and_then (token_end at) (λ next. ends p d true Path next)) (path_name p.rec (at + 3))
        (λ end e. let q = then_parts (token_end at) (λ next. ends p d true Path next) end e in behind-finds at (at + 3) (some_end at k q.0 t q.1))
    op-finds at None t true a = behind-finds at (at + 1) (absent-end at a)
    op-finds at None t false a = λ end e. let q = then_parts (token_end at) (λ next. ends p d true Path next) end e in inl (none-absent at q.0 t q.1)

    named : (at : ℕ) → Finds (ends p d true (Fields.token ▸ Path) at) (op_path_name p.rec at)
    unfolding fields op_path_name
    named at = op-finds at (token_at p.rec at) refl (absent_at p.rec at) refl

  -- No path stands there.
  no-path : (d : ℕ) (may : Bool) (at : ℕ) → group_at p.rec at ≡ false → (end : ℕ) → ends p d may Path at ≡ ok end → absent_at p.rec at ≡ true
  unfolding fields
  no-path d may at e end g = gone p may at end (rw (e, fields) at g)

  -- ---- one expression
  bad-sees : (c : Checked) (s : Seen) → ((end : ℕ) → c ≡ ok end → ⊥) → Sees c s
  bad-sees c (seen h) b = tt
  bad-sees c (unseen place) b = λ end e. absurd (b end e)

  name-sees : (c : Checked) (at : ℕ) → form_at p.rec Exp at ≡ Some (exp_number PathExp) → (n : Name) → op_path_name p.rec (at + 1) ≡ n → Finds c n
      → Sees c (elim n as (λ n. Seen) [ name t m ↦ seen (path_exp t m) | no_name place ↦ unseen place ])
  name-sees c at found (name t m) e f = tt
  name-sees c at found (no_name place) e f = λ end g. go (f end g)
    where
      go : Lacks place → Proper p (absent place)
      go (inl h) = inl h
      go (inr h) = inr (at, found, e, h)

  -- The fields of an expression by its number.
  head-sees : (d n at : ℕ) → form_at p.rec Exp at ≡ Some n → (b : Bool) → eqb n (exp_number PathExp) ≡ b
      → Sees (ends p d true (get_or (forms Exp) n Fields.none) (at + 1))
      (elim b as (λ b. Seen) [
        | true ↦ elim (op_path_name p.rec (at + 1)) [ name t m ↦ seen (path_exp t m) | no_name place ↦ unseen place ]
        | false ↦ seen other_exp
      ])
  unfolding forms exp_number
  head-sees d n at found false e = tt
  head-sees d n at found true e =
      let z : n ≡ exp_number PathExp = eqb-true n (exp_number PathExp) e in
      subst (λ (n : ℕ). Sees (ends p d true (get_or (forms Exp) n Fields.none) (at + 1)) (elim (op_path_name p.rec (at + 1)) as (λ n. Seen) [ name t m ↦ seen (path_exp t m) | no_name place ↦ unseen place ]))
      (sym z) (name-sees (ends p d true (Fields.token ▸ Path) (at + 1)) at (found ∙ ap Some z) (op_path_name p.rec (at + 1)) refl (named d (at + 1)))

  form-sees : (d n at : ℕ) → form_at p.rec Exp at ≡ Some n → Sees (form_check p.rec (count p) d Exp at) (head_of p.rec n (at + 1))
  unfolding form_check head_of form_width operand_fits
  form-sees zero n at e = bad-sees (form_check p.rec (count p) zero Exp at) (head_of p.rec n (at + 1)) (zero-never p.rec (count p) Exp at)
  form-sees (suc d) n at e =
      let f : form_fits p.rec (count p) Exp at ≡ Some n = fits-yes p.rec (count p) Exp at refl ∙ e in
      rw (f, form_check) (head-sees d n at e (eqb n (exp_number PathExp)) refl)

  there-sees : (d n at : ℕ) → form_at p.rec Exp at ≡ Some n → Sees (ends p d true (Fields.form Exp) at) (head_of p.rec n (at + 1))
  unfolding fields
  there-sees d n at e =
      subst (λ (c : Checked). Sees c (head_of p.rec n (at + 1))) (sym (there-is p true at (form_check p.rec (count p) d Exp at) (form-there p.rec at Exp n e)))
      (form-sees d n at e)

  -- No expression stands there.
  none-check : (d at : ℕ) → form_at p.rec Exp at ≡ None → form_check p.rec (count p) d Exp at ≡ malformed at
  unfolding form_check operand_fits
  none-check zero at e = let f : form_fits p.rec (count p) Exp at ≡ None = fits-yes p.rec (count p) Exp at refl ∙ e in rw (f, form_check) refl
  none-check (suc d) at e = let f : form_fits p.rec (count p) Exp at ≡ None = fits-yes p.rec (count p) Exp at refl ∙ e in rw (f, form_check) refl

  none-agrees : (d : ℕ) (may : Bool) (at : ℕ) → form_at p.rec Exp at ≡ None → Agree p (ends p d may (Fields.form Exp) at) (stopped (absent at) [])
  unfolding fields
  none-agrees d may at e = λ end g. inl (gone p may at end (ap (λ (c : Checked). or_absent p.rec (count p) may at c) (sym (none-check d at e)) ∙ g))

  -- ---- both
  both-sees : (c : Checked) (mid : ℕ) (f a : Seen) → Sees (ok mid) f → Sees c a → SeesBoth c (both_seen f a)
  unfolding both_seen
  both-sees c mid (unseen place) a x y = λ end e. x mid refl
  both-sees c mid (seen f) (unseen place) x y = y
  both-sees c mid (seen f) (seen a) x y = tt

  from-sees : (d n func arg : ℕ) → Sees (ok arg) (head_of p.rec n (func + 1)) → (o : Option ℕ) → form_at p.rec Exp arg ≡ o
      → SeesBoth (ends p d true (Fields.form Exp) arg)
      (elim o as (λ o. Heads) [ Some m ↦ both_seen (head_of p.rec n (func + 1)) (head_of p.rec m (arg + 1)) | None ↦ missing arg ])
  from-sees d n func arg x (Some m) e =
      both-sees (ends p d true (Fields.form Exp) arg) arg (head_of p.rec n (func + 1)) (head_of p.rec m (arg + 1)) x (there-sees d m arg e)
  from-sees d n func arg x None e = none-agrees d true arg e

  bad-both : (c : Checked) (h : Heads) → ((end : ℕ) → c ≡ ok end → ⊥) → SeesBoth c h
  bad-both c (both f a) b = tt
  bad-both c (missing place) b = λ end e. absurd (b end e)

  abbrev headed : ℕ → ℕ → Checked → Heads
  headed n func c = elim c [ ok arg ↦ heads_from p.rec n func arg | malformed place ↦ missing place | too_deep place ↦ missing place ]

  module _ (d : ℕ) (low : d ≤ 200) where
    abbrev next-exp : ℕ → Checked
    next-exp at = ends p d true (Fields.form Exp) at

    -- The first one's check, and that of the whole field where more forms may stand inside.
    behind-sees : (n func : ℕ) (c e : Checked) → next-exp func ≡ c → field_end p.rec (count p) (Fields.form Exp) func ≡ e → form_at p.rec Exp func ≡ Some n
        → SeesBoth (and_then c (λ next. next-exp next)) (headed n func e)
    unfolding and_then field_end heads_from
    behind-sees n func (ok arg) e g h f =
        let w = form-fits p.rec func Exp n f in
        let q : field_end p.rec (count p) (Fields.form Exp) func ≡ ok arg = (ends_more p.rec (count p) d 200 low true (Fields.form Exp) func (omega (arith, w)) arg g).0 in
        subst (λ (e : Checked). SeesBoth (next-exp arg) (headed n func e)) (sym q ∙ h)
        (from-sees d n func arg (subst (λ (c : Checked). Sees c (head_of p.rec n (func + 1))) g (there-sees d n func f)) (form_at p.rec Exp arg) refl)
    behind-sees n func (malformed place) e g h f = bad-both (malformed place) (headed n func e) (λ end z. never (cc))
    behind-sees n func (too_deep place) e g h f = bad-both (too_deep place) (headed n func e) (λ end z. never (cc))

    first-sees : (func : ℕ) (o : Option ℕ) → form_at p.rec Exp func ≡ o
        → SeesBoth (and_then (next-exp func) (λ next. next-exp next))
        (elim o as (λ o. Heads) [ Some n ↦ headed n func (field_end p.rec (count p) (Fields.form Exp) func) | None ↦ missing func ])
    first-sees func (Some n) e = behind-sees n func (next-exp func) (field_end p.rec (count p) (Fields.form Exp) func) refl refl e
    first-sees func None e = λ end g. let q = then_parts (next-exp func) (λ next. next-exp next) end g in none-agrees d true func e q.0 q.1

    sees-heads : (at : ℕ) → SeesBoth (ends p d true (Fields.form Exp ▸ Fields.form Exp) at) (heads_at p.rec (count p) at)
    unfolding fields heads_at
    sees-heads at = first-sees at (form_at p.rec Exp at) refl

module _ {p : Page} {d : ℕ} {k : Bool → Bool → Layout} (low : d ≤ 200) (x : (b c : Bool) → Agrees p d true (Fields.form Exp ▸ Fields.form Exp) (k b c)) where
  abbrev two : ℕ → Checked
  two at = ends p d true (Fields.form Exp ▸ Fields.form Exp) at

  seen-agrees : (at : ℕ) (h : Heads) → SeesBoth p (two at) h
      → Agree p (two at) (elim h as (λ h. Outcome) [ both f a ↦ outcome p (k (func_is_bang p f) (arg_is_symbolic p a)) at | missing place ↦ stopped (absent place) [] ])
  seen-agrees at (both f a) s = (x (func_is_bang p f) (arg_is_symbolic p a)).step.agrees at
  seen-agrees at (missing place) s = s

  seen-free : (at end : ℕ) (h : Heads) → two at ≡ ok end
      → ◌≡◌ {A = Outcome} (elim h [ both f a ↦ Unbounded.outcome p (k (func_is_bang p f) (arg_is_symbolic p a)) at | missing place ↦ stopped (absent place) [] ])
      (elim h [ both f a ↦ outcome p (k (func_is_bang p f) (arg_is_symbolic p a)) at | missing place ↦ stopped (absent place) [] ])
  seen-free at end (both f a) e = (x (func_is_bang p f) (arg_is_symbolic p a)).step.free at end e
  seen-free at end (missing place) e = refl

  pub applications : Agrees p d true (Fields.form Exp ▸ Fields.form Exp) (application k)
  unfolding outcome Unbounded.outcome
  applications =
      record {
        step =
            record {
              agrees = λ at. seen-agrees at (heads_at p.rec (count p) at) (sees-heads p d low at);
              free = λ at end e. seen-free at end (heads_at p.rec (count p) at) e;
            };
      }

-- ---- a question, by its answer
module _ {p : Page} {d : ℕ} {may : Bool} {f : Fields} {v w : Layout} (x : Agrees p d may f v) (y : Agrees p d may f w) where
  either-agrees : (at : ℕ) (b : Bool) → Agree p (ends p d may f at) (elim b as (λ b. Outcome) [ true ↦ outcome p v at | false ↦ outcome p w at ])
  either-agrees at true = x.step.agrees at
  either-agrees at false = y.step.agrees at

  either-free : (at end : ℕ) → ends p d may f at ≡ ok end → (b : Bool)
      → ◌≡◌ {A = Outcome} (elim b [ true ↦ Unbounded.outcome p v at | false ↦ Unbounded.outcome p w at ]) (elim b [ true ↦ outcome p v at | false ↦ outcome p w at ])
  either-free at end e true = x.step.free at end e
  either-free at end e false = y.step.free at end e

-- About the expression at the cursor.
module _ {p : Page} {d : ℕ} {may : Bool} {v w : Layout} (x : Agrees p d may (Fields.form Exp) v) (y : Agrees p d may (Fields.form Exp) w) where
  pub looks : {l : Look} → Agrees p d may (Fields.form Exp) (look l v w)
  unfolding outcome Unbounded.outcome or_stop
  looks {l} = record { step = record { agrees = λ at. agrees at (form_at p.rec Exp at) refl; free = λ at end e. free at end e (form_at p.rec Exp at) } }
    where
      answer : ℕ → Outcome
      answer at = elim (sees p l at) [ true ↦ outcome p v at | false ↦ outcome p w at ]

      agrees : (at : ℕ) (o : Option ℕ) → form_at p.rec Exp at ≡ o
          → Agree p (ends p d may (Fields.form Exp) at) (or_stop o at (λ n. answer at))
      agrees at (Some n) e = either-agrees x y at (sees p l at)
      agrees at None e = none-agrees p d may at e

      free : (at end : ℕ) → ends p d may (Fields.form Exp) at ≡ ok end → (o : Option ℕ)
          → or_stop o at (λ n. elim (sees p l at) [ true ↦ Unbounded.outcome p v at | false ↦ Unbounded.outcome p w at ]) ≡ or_stop o at (λ n. answer at)
      free at end e (Some n) = either-free x y at end e (sees p l at)
      free at end e None = refl

-- About the first name of the path at the cursor, which is walked next.
module _ {p : Page} {d : ℕ} {may : Bool} {u v w : Layout} (z : Agrees p d may Path u) (x : Agrees p d may Path (v ⨾ u)) (y : Agrees p d may Path (w ⨾ u)) where
  pub first_names : {t : Test} → Agrees p d may Path (first_name t v w ⨾ u)
  unfolding outcome Unbounded.outcome bind
  first_names {t} =
      record { step = record { agrees = λ at. agrees at (name_passes p t at) (group_at p.rec at) refl; free = λ at end e. free at end e (name_passes p t at) (group_at p.rec at) } }
    where
      answer : ℕ → Bool → Bool → Outcome
      answer at b c = bind (elim c [ true ↦ elim b [ true ↦ outcome p v at | false ↦ outcome p w at ] | false ↦ stopped (absent at) [] ]) (λ next. outcome p u next)

      unbounded : ℕ → Bool → Bool → Outcome
      unbounded at b c =
          bind (elim c [ true ↦ elim b [ true ↦ Unbounded.outcome p v at | false ↦ Unbounded.outcome p w at ] | false ↦ stopped (absent at) [] ]) (λ next. Unbounded.outcome p u next)

      agrees : (at : ℕ) (b c : Bool) → group_at p.rec at ≡ c → Agree p (ends p d may Path at) (answer at b c)
      agrees at true true e = x.step.agrees at
      agrees at false true e = y.step.agrees at
      agrees at b false e = λ end g. inl (no-path p d may at e end g)

      free : (at end : ℕ) → ends p d may Path at ≡ ok end → (b c : Bool) → unbounded at b c ≡ answer at b c
      free at end e true true = x.step.free at end e
      free at end e false true = y.step.free at end e
      free at end e b false = refl
