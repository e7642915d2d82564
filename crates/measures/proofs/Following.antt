-- A type's walk stays within the fields that the check passes: one that stops has read no further than where they end.
use native.Mathlib.Omega.{arith}
use mathlib.Core.Path.{◌≡◌, refl, sym, ◌∙◌, subst}
use mathlib.Core.List.{List, [], ◌∷◌}
use mathlib.Core.Bool.{Bool, true, false}
use Rattle.std.specs.Prelude.{Option, None, Some}
use Prim.Native.Nat.{ℕ, zero, suc, ◌+◌, ◌-◌, ◌≤◌, min}
use Prim.Native.String.{String}
use lib.ListN.{length, get_or}
use lib.Dec.{leb}
use borrow.Author.Tests.{leb-true}
use Rattle.text.specs.Bytes.{bytes}
use Rattle.reader.specs.Fields.{Ty, Fields, ◌▸◌, forms}
use Rattle.reader.specs.Commands.{absent_at, list_at, group_at, form_at, form_width}
use Rattle.reader.specs.Check as Check
use Rattle.reader.specs.Check.{Checked, ok, malformed, too_deep, operand_fits, token_fits, or_absent, fields, form_fits, form_check}
use Rattle.reader.proofs.CommandLaws.{and_second, token-there, group-there, form-there, form-fits}
use Rattle.reader.proofs.FieldLaws.{then_parts, or_is, token-parts, Grows, fields-grow, zero-never, form-grows, items-grow}
use Rattle.layout.specs.Layout.{Layout, ◌⨾◌, word, text, group, form, maybe, dropped, halt}
use Rattle.layout.specs.Meaning.{Page, Event, Token, Outcome, done, stopped, Stop, absent, outcome, or_stop, onwards}
use Rattle.layout.specs.Events.{sum_of, deepest}
use Rattle.layout.specs.Helpers.{times, items, for_each, sep}
use Rattle.measures.proofs.Credit.{Within, then-within, earned, weaker}
use Rattle.measures.proofs.Paying.{Paid, Short, word-within, token-within}
use Rattle.reader.proofs.Ends.{ends_more, ends-agree}

-- The check of fields, where `d` more forms may stand inside one another.
abbrev ends : Page → ℕ → Bool → Fields → ℕ → Checked
ends p d may f at = fields p.rec (length p.tokens.starts) (form_check p.rec (length p.tokens.starts) d) may f at

-- Where the fields pass, the layout ends where they do, and pays out of their bytes.
pub record Follows (p : Page) (d : ℕ) (may : Bool) (f : Fields) (a r : ℕ) (w : Layout) : Type 0 where
  pub is : (at lim : ℕ) → ends p d may f at ≡ ok lim → Within p lim lim at a r (outcome p w at)

module _ (p : Page) where
  grows : (d : ℕ) (may : Bool) (f : Fields) → Grows (ends p d may f)
  grows d may f = fields-grow p.rec _ (form_check p.rec (length p.tokens.starts) d) (form-grows p.rec _ d) may f

  -- A walk goes on from where the first part ends.
  onto : (lim mid b s : ℕ) (w : Layout) → Within p lim lim mid b s (outcome p w mid) → (e : ℕ) → mid ≤ e → e ≤ mid → Within p lim lim e b s (outcome p w e)
  onto lim mid b s w x e h i =
      let z : mid ≡ e = omega arith in
      subst (λ (e : ℕ). Within p lim lim e b s (outcome p w e)) z x

  -- Nothing is read and nothing written.
  stops : (lim at a : ℕ) → at ≤ lim → Within p lim lim at a 0 (stopped (absent at) [])
  unfolding sum_of deepest
  stops lim at a h = (omega arith, omega arith)

  -- ---- a field that is not absent
  there : (may : Bool) (at : ℕ) (x : Checked) (lim : ℕ) → absent_at p.rec at ≡ false → or_absent p.rec (length p.tokens.starts) may at x ≡ ok lim → x ≡ ok lim
  there may at x lim h e = sym (or_is p.rec (length p.tokens.starts) may at x false (and_second may (absent_at p.rec at) h)) ∙ e

  -- ---- commands
  module _ (d : ℕ) (may : Bool) (at lim : ℕ) where
    token-ends : (n : ℕ) → token_fits p.rec (length p.tokens.starts) at ≡ Some n → ends p d may Fields.token at ≡ ok lim → at + 3 ≡ lim
    unfolding fields
    token-ends n t e =
        let q = there may at _ lim (token-there p.rec at n (token-parts p.rec (length p.tokens.starts) at n t).0) e in
        let r : ok (at + 3) ≡ ok lim = rw t at q in
        cc

    text-within : Short p → (o : Option ℕ) → token_fits p.rec (length p.tokens.starts) at ≡ o → ends p d may Fields.token at ≡ ok lim
        → Within p lim lim at 0 32 (or_stop o at (λ n. done (at + 3) (Token n ∷ [])))
    unfolding or_stop
    text-within short None t e = stops lim at 0 (grows d may Fields.token at lim e)
    text-within short (Some n) t e =
        let z = token-ends n t e in
        earned p lim lim lim at 3 64 0 (done (at + 3) (Token n ∷ [])) (omega arith) (token-within p short n lim lim (at + 3) (omega (arith, z)) (omega (arith, z)))

    group-ends : (f : Fields) → group_at p.rec at ≡ true → ends p d may (Fields.group f) at ≡ ok lim → ends p d true f (at + 1) ≡ ok lim
    unfolding fields
    group-ends f t e = rw t at (there may at _ lim (group-there p.rec at t) e)

    group-within : (f : Fields) (a r : ℕ) (w : Layout) → Follows p d true f a r w → (b : Bool) → group_at p.rec at ≡ b → ends p d may (Fields.group f) at ≡ ok lim
        → Within p lim lim at (a - 32) (r + (32 - a)) (elim b as (λ b. Outcome) [ true ↦ outcome p w (at + 1) | false ↦ stopped (absent at) [] ])
    group-within f a r w x true t e = earned p lim lim lim at 1 a r (outcome p w (at + 1)) (omega arith) (x.is (at + 1) lim (group-ends f t e))
    group-within f a r w x false t e = stops lim at (a - 32) (grows d may (Fields.group f) at lim e)

    gone-ends : (f : Fields) → absent_at p.rec at ≡ true → ends p d true (Fields.group f) at ≡ ok lim → at + 1 ≡ lim
    unfolding fields or_absent
    gone-ends f t e = let q : ok (at + 1) ≡ ok lim = rw (t, or_absent) at e in cc

    maybe-within : (f : Fields) (a r : ℕ) (w : Layout) → Follows p d true (Fields.group f) a r w → (b : Bool) → absent_at p.rec at ≡ b → ends p d true (Fields.group f) at ≡ ok lim
        → Within p lim lim at a (min r (32 + a)) (elim b as (λ b. Outcome) [ true ↦ done (at + 1) [] | false ↦ outcome p w at ])
    unfolding sum_of deepest
    maybe-within f a r w x true t e = let z = gone-ends f t e in (omega (arith, z), omega (arith, z), omega (arith, z), omega arith)
    maybe-within f a r w x false t e =
        weaker p lim lim lim at a r a (min r (32 + a)) (outcome p w at) (omega arith) (omega arith) (omega arith) (x.is at lim e)

    list-ends : (n : ℕ) (f : Fields) → list_at p.rec at ≡ Some n → ends p d may (Fields.list f) at ≡ ok lim → Check.items n (λ next. ends p d false f next) (at + 3) ≡ ok lim
    unfolding fields
    list-ends n f t e = rw (t, fields) at e

    list-within : (f : Fields) (a r : ℕ) (k : ℕ → Layout)
        → ((n from : ℕ) → Check.items n (λ next. ends p d false f next) from ≡ ok lim → Within p lim lim from a r (outcome p (k n) from))
        → (o : Option ℕ) → list_at p.rec at ≡ o → ends p d may (Fields.list f) at ≡ ok lim
        → Within p lim lim at (a - 96) (r + (96 - a)) (or_stop o at (λ n. outcome p (k n) (at + 3)))
    unfolding or_stop
    list-within f a r k x None t e = stops lim at (a - 96) (grows d may (Fields.list f) at lim e)
    list-within f a r k x (Some n) t e = earned p lim lim lim at 3 a r (outcome p (k n) (at + 3)) (omega arith) (x n (at + 3) (list-ends n f t e))

-- ---- one after another
module _ {p : Page} {d : ℕ} {may : Bool} where
  pub alone : {s : String} → leb (length (bytes s)) 512 ≡ true → Follows p d may Fields.none 1 0 (word s)
  unfolding fields
  alone {s} t = record { is = λ at lim e. let z : at ≡ lim = cc in word-within p s t lim lim at (omega arith) (omega arith) }

  -- What reads nothing, before and behind what reads fields.
  module _ {f : Fields} {a r b s : ℕ} {v w : Layout} where
    pub before : Follows p d may Fields.none a r v → Follows p d may f b s w → Follows p d may f (a + (b - r)) (s + (r - b)) (v ⨾ w)
    unfolding outcome fields
    before x y =
        record {
          is =
              λ at lim e. then-within p at at lim lim at a r b s (outcome p v at) (λ next. outcome p w next) (grows p d may f at lim e)
              (x.is at at refl) (onto p lim at b s w (y.is at lim e));
        }

    pub behind : Follows p d may f a r v → Follows p d may Fields.none b s w → Follows p d may f (a + (b - r)) (s + (r - b)) (v ⨾ w)
    unfolding outcome fields
    behind x y =
        record {
          is =
              λ at lim e. then-within p lim lim lim lim at a r b s (outcome p v at) (λ next. outcome p w next) (omega arith) (x.is at lim e)
              (onto p lim lim b s w (y.is lim lim refl));
        }

  pub both : {f g : Fields} {a r b s : ℕ} {v w : Layout} → Follows p d may f a r v → Follows p d may g b s w
      → Follows p d may (f ▸ g) (a + (b - r)) (s + (r - b)) (v ⨾ w)
  unfolding outcome fields
  both {f} {g} {a} {r} {b} {s} {v} {w} x y =
      record {
        is =
            λ at lim e. let q = then_parts (ends p d may f at) (λ next. ends p d may g next) lim e in
            then-within p q.0 q.0 lim lim at a r b s (outcome p v at) (λ next. outcome p w next) (grows p d may g q.0 lim q.2) (x.is at q.0 q.1)
            (onto p lim q.0 b s w (y.is q.0 lim q.2));
      }

  -- ---- commands
  pub texts : Short p → Follows p d may Fields.token 0 32 text
  unfolding outcome
  texts short = record { is = λ at lim e. text-within p d may at lim short (token_fits p.rec (length p.tokens.starts) at) refl e }

  pub groups : {f : Fields} {a r : ℕ} {w : Layout} → Follows p d true f a r w → Follows p d may (Fields.group f) (a - 32) (r + (32 - a)) (group w)
  unfolding outcome
  groups {f} {a} {r} {w} x = record { is = λ at lim e. group-within p d may at lim f a r w x (group_at p.rec at) refl e }

module _ {p : Page} {d : ℕ} where
  pub maybes : {f : Fields} {a r : ℕ} {w : Layout} → Follows p d true (Fields.group f) a r w → Follows p d true (Fields.group f) a (min r (32 + a)) (maybe w)
  unfolding outcome
  maybes {f} {a} {r} {w} x = record { is = λ at lim e. maybe-within p d true at lim f a r w x (absent_at p.rec at) refl e }

-- ---- items
module _ (p : Page) (d : ℕ) (f : Fields) (lim b s : ℕ) (more : Layout) (l : b ≤ s) (y : Follows p d false f b s more) where
  times-within : (n at : ℕ) → Check.items n (λ next. ends p d false f next) at ≡ ok lim → Within p lim lim at b b (outcome p (times n more) at)
  unfolding times outcome sum_of deepest Check.items
  times-within zero at e = let z : at ≡ lim = cc in (omega (arith, z), omega (arith, z), omega (arith, z), omega arith)
  times-within (suc n) at e =
      let q = then_parts (ends p d false f at) (λ next. Check.items n (λ next. ends p d false f next) next) lim e in
      let g = items-grow n (λ next. ends p d false f next) (grows p d false f) q.0 lim q.2 in
      weaker p lim lim lim at (b + (b - s)) (b + (s - b)) b b (outcome p (more ⨾ times n more) at) (omega arith) (omega arith) (omega arith)
      (then-within p q.0 q.0 lim lim at b s b b (outcome p more at) (λ next. outcome p (times n more) next) g (y.is at q.0 q.1)
      (onto p lim q.0 b b (times n more) (times-within n q.0 q.2)))

  items-within : (a r : ℕ) (first : Layout) → Follows p d false f a r first → (n at : ℕ) → Check.items n (λ next. ends p d false f next) at ≡ ok lim
      → Within p lim lim at (a + (b - r)) 0 (outcome p (items n first more) at)
  unfolding items outcome sum_of deepest Check.items
  items-within a r first x zero at e = let z : at ≡ lim = cc in (omega (arith, z), omega (arith, z), omega (arith, z), omega arith)
  items-within a r first x (suc n) at e =
      let q = then_parts (ends p d false f at) (λ next. Check.items n (λ next. ends p d false f next) next) lim e in
      let g = items-grow n (λ next. ends p d false f next) (grows p d false f) q.0 lim q.2 in
      weaker p lim lim lim at (a + (b - r)) (b + (r - b)) (a + (b - r)) 0 (outcome p (first ⨾ times n more) at) (omega arith) (omega arith) (omega arith)
      (then-within p q.0 q.0 lim lim at a r b b (outcome p first at) (λ next. outcome p (times n more) next) g (x.is at q.0 q.1)
      (onto p lim q.0 b b (times n more) (times-within n q.0 q.2)))

module _ {p : Page} {d : ℕ} {may : Bool} {f : Fields} {a r : ℕ} {item : Layout} (x : Follows p d false f a r item) where
  pub each : leb a r ≡ true → Follows p d may (Fields.list f) (a - 96) (a + (96 - a)) (for_each item)
  unfolding for_each outcome
  each e =
      record {
        is =
            λ at lim g. list-within p d may at lim f a a (λ n. times n item)
            (λ n from h. times-within p d f lim a r item (leb-true a r e) x n from h) (list_at p.rec at) refl g;
      }

  pub seps : (s : String) → leb (length (bytes s)) 512 ≡ true → leb (1 + a) r ≡ true → Follows p d may (Fields.list f) (a - 96) (0 + (96 - a)) (sep s item)
  unfolding sep outcome
  seps s t e =
      let l = leb-true (1 + a) r e in
      record {
        is =
            λ at lim g. list-within p d may at lim f a 0 (λ n. items n item (word s ⨾ item))
            (λ n from h. weaker p lim lim lim from (a + (1 + (a - 0) - r)) 0 a 0 (outcome p (items n item (word s ⨾ item)) from) (omega arith) (omega (arith, l)) (omega (arith, l))
            (items-within p d f lim (1 + (a - 0)) (r + (0 - a)) (word s ⨾ item) (omega (arith, l)) (before (alone t) x) a r item x n from h))
            (list_at p.rec at) refl g;
      }

-- ---- forms
module _ (p : Page) (at lim : ℕ) where
  form-fields : (d n : ℕ) → form_at p.rec Ty at ≡ Some n → form_check p.rec (length p.tokens.starts) (suc d) Ty at ≡ ok lim
      → ends p d true (get_or (forms Ty) n Fields.none) (at + form_width Ty) ≡ ok lim
  unfolding form_check form_fits operand_fits
  form-fields d n t e =
      let f : form_fits p.rec (length p.tokens.starts) Ty at ≡ Some n = rw (t, form_fits) refl in
      rw (f, form_check) at e

  form-ends : (d : ℕ) (may : Bool) (n : ℕ) → form_at p.rec Ty at ≡ Some n → ends p d may (Fields.form Ty) at ≡ ok lim → form_check p.rec (length p.tokens.starts) d Ty at ≡ ok lim
  unfolding fields
  form-ends d may n t e = there p may at _ lim (form-there p.rec at Ty n t) e

  module _ (a r : ℕ) (k : ℕ → Layout) (x : (d n : ℕ) → Follows p d true (get_or (forms Ty) n Fields.none) a r (k n)) (may : Bool) where
    checked-within : (d n : ℕ) → form_at p.rec Ty at ≡ Some n → form_check p.rec (length p.tokens.starts) d Ty at ≡ ok lim
        → Within p lim lim at (a - 32) (r + (32 - a)) (outcome p (k n) (at + form_width Ty))
    unfolding form_width
    checked-within zero n t e = zero-never p.rec (length p.tokens.starts) Ty at lim e
    checked-within (suc d) n t e = earned p lim lim lim at 1 a r (outcome p (k n) (at + 1)) (omega arith) ((x d n).is (at + 1) lim (form-fields d n t e))

    form-within : (d : ℕ) (o : Option ℕ) → form_at p.rec Ty at ≡ o → ends p d may (Fields.form Ty) at ≡ ok lim
        → Within p lim lim at (a - 32) (r + (32 - a)) (or_stop o at (λ n. outcome p (k n) (at + form_width Ty)))
    unfolding or_stop
    form-within d None t e = stops p lim at (a - 32) (grows p d may (Fields.form Ty) at lim e)
    form-within d (Some n) t e = checked-within d n t (form-ends d may n t e)

pub families : {p : Page} {may : Bool} {a r : ℕ} {k : ℕ → Layout} → ((d n : ℕ) → Follows p d true (get_or (forms Ty) n Fields.none) a r (k n))
    → (d : ℕ) → Follows p d may (Fields.form Ty) (a - 32) (r + (32 - a)) (form Ty k)
unfolding outcome
families {p} {may} {a} {r} {k} x d = record { is = λ at lim e. form-within p at lim a r k x may d (form_at p.rec Ty at) refl e }

-- ---- a row of arms and the row of their fields, by number
pub record Pairs (p : Page) (d : ℕ) (fs : List Fields) (ws : List Layout) : Type 0 where
  pub at : (n : ℕ) → Follows p d true (get_or fs n Fields.none) 16 0 (get_or ws n halt)

module _ {p : Page} {d : ℕ} where
  pub eased : {may : Bool} {f : Fields} {a r a' r' : ℕ} {w : Layout} → a ≤ a' → a + r' ≤ a' + r → Follows p d may f a r w → Follows p d may f a' r' w
  eased {may} {f} {a} {r} {a'} {r'} {w} h i x =
      record { is = λ at lim g. weaker p lim lim lim at a r a' r' (outcome p w at) (omega arith) h i (x.is at lim g) }

  pub halts : {may : Bool} {f : Fields} {a r : ℕ} → Follows p d may f a r halt
  unfolding outcome
  halts {may} {f} {a} {r} = record { is = λ at lim e. stops p lim at a (grows p d may f at lim e) }

  pub arm : {f : Fields} {a r : ℕ} {w : Layout} → leb a 16 ≡ true → Follows p d true f a r w → Follows p d true f 16 0 w
  arm {f} {a} e x = let l = leb-true a 16 e in eased l (omega (arith, l)) x

  pair-at : {f : Fields} {fs : List Fields} {w : Layout} {ws : List Layout} → Follows p d true f 16 0 w → Pairs p d fs ws
      → (n : ℕ) → Follows p d true (get_or (f ∷ fs) n Fields.none) 16 0 (get_or (w ∷ ws) n halt)
  pair-at x y zero = x
  pair-at x y (suc n) = y.at n

  infixr 5 ◌▹◌
  pub ◌▹◌ : {f : Fields} {fs : List Fields} {w : Layout} {ws : List Layout} → Follows p d true f 16 0 w → Pairs p d fs ws → Pairs p d (f ∷ fs) (w ∷ ws)
  x ▹ y = record { at = pair-at x y }

  pub no_more : Pairs p d [] []
  no_more = record { at = λ n. halts }

-- ---- a type whose stop is dropped
module _ (p : Page) (left lo lim at r : ℕ) where
  abbrev Whole : ℕ → Outcome → Type 0
  Whole next o = (lo ≤ next) × (next ≤ lim) × Within p next next at 0 r o

  ended-within : (why : Stop) (es : List Event) → Within p lo lim at 0 r (stopped why es) → (c : Checked) → ends p left true (Fields.form Ty) at ≡ c
      → ((next : ℕ) → ends p left true (Fields.form Ty) at ≡ ok next → Whole next (stopped why es))
      → Within p lo lim at 0 0 (elim c as (λ c. Outcome) [ ok next ↦ done next es | malformed place ↦ stopped (absent place) es | too_deep place ↦ stopped (absent place) es ])
  ended-within why es x (ok next) e f =
      let w = f next e in
      let w2 = w.2 in
      (w.0, w.1, omega (arith, w2.0), w2.1)
  ended-within why es x (malformed place) e f = x
  ended-within why es x (too_deep place) e f = x

  found_within : (why : Stop) (es : List Event) → Within p lo lim at 0 r (stopped why es) → (o : Option ℕ) → form_at p.rec Ty at ≡ o
      → ((n next : ℕ) → form_at p.rec Ty at ≡ Some n → ends p left true (Fields.form Ty) at ≡ ok next → Whole next (stopped why es))
      → Within p lo lim at 0 0 (elim o as (λ o. Outcome) [
        | Some n ↦ elim (ends p left true (Fields.form Ty) at)
            [ ok next ↦ done next es | malformed place ↦ stopped (absent place) es | too_deep place ↦ stopped (absent place) es ]
        | None ↦ stopped why es
      ])
  found_within why es x (Some n) t f = ended-within why es x (ends p left true (Fields.form Ty) at) refl (λ next e. f n next t e)
  found_within why es x None t f = x

  onwards-within : (o : Outcome) → Within p lo lim at 0 r o
      → ((n next : ℕ) → form_at p.rec Ty at ≡ Some n → ends p left true (Fields.form Ty) at ≡ ok next → Whole next o)
      → Within p lo lim at 0 0 (onwards p left at o)
  unfolding onwards
  onwards-within (done next es) x f = weaker p lo lo lim at 0 r 0 0 (done next es) (omega arith) (omega arith) (omega arith) x
  onwards-within (stopped why es) x f = found_within why es x (form_at p.rec Ty at) refl f

module _ {p : Page} {r : ℕ} {w : Layout} (x : (d : ℕ) → Follows p d true (Fields.form Ty) 0 r w) where
  pub drops : {d left : ℕ} → Follows p d true (Fields.form Ty) 0 0 (dropped left w)
  unfolding outcome
  drops {d} {left} =
      record {
        is =
            λ at lim e. onwards-within p left lim lim at r (outcome p w at) ((x d).is at lim e)
            (λ n next t g. let h = form-fits p.rec at Ty n t in
            let z = ends-agree p.rec (length p.tokens.starts) d left true (Fields.form Ty) at lim next (omega (arith, h)) e g in
            (omega (arith, z), omega (arith, z), (x left).is at next g));
      }

  pub drops-paid : {left : ℕ} → Paid p 0 r w → Paid p 0 0 (dropped left w)
  unfolding outcome
  drops-paid {left} y =
      record {
        is =
            λ at h. onwards-within p left at (length p.rec) at r (outcome p w at) (y.is at h)
            (λ n next t g. let z = ends_more p.rec (length p.tokens.starts) left left (omega arith) true (Fields.form Ty) at h next g in
            (grows p left true (Fields.form Ty) at next g, z.1, (x left).is at next g));
      }
