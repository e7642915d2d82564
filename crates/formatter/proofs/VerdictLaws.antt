-- Laws of the verdicts: a refusal has a number, what is accepted, and formatting by its two bounds. Assumes nothing.
use Prim.Native.Nat.{ℕ, ◌+◌, ◌*◌, ◌≤◌, ◌<◌}
use native.Mathlib.Omega.{arith}
use mathlib.Core.Path.{◌≡◌, refl, sym, ap, ◌∙◌}
use mathlib.Core.Logic.{◌↔◌, ◌⊎◌, inl, inr, ⊎_elim}
use mathlib.Core.Bool.{Bool, true, false}
use mathlib.Core.List.{List, ◌++◌}
use Rattle.std.specs.Prelude.{Option, None, Some}
use lib.ListN.{length, drop}
use lib.Dec.{leb}
use borrow.Author.Tests.{le-leb, lt-leb, leb-true, leb-false}
use Rattle.text.proofs.Laws.{never}
use Rattle.reader.specs.Reading.{Read, refused, sheet, read}
use Rattle.reader.proofs.ReadingLaws.{read-cases}
use Rattle.comments.specs.Set.{first}
use Rattle.layout.specs.Meaning.{Page, Event, Stop, absent, imported, Outcome, done, stopped}
use Rattle.layout.specs.Walk.{walk}
use Rattle.layout.specs.Events.{deepest, letters, units, formatted, is_left}
use Rattle.formatter.specs.Verdict.{Verdict, verdict, measures_of, Judged, declined, accepted, comments, stop_verdict, walked, judge, check, Result, max_width, put, format, get}
use Rattle.formatter.specs.Accepted.{Sheet, Fits}
use Rattle.layout.proofs.Exact.{length_formatted}

-- ---- a refusal's number is never 0
abbrev Refused : Read → Type 0
Refused (refused number place) = number ≡ 0 → ⊥
Refused (sheet ts tree) = Unit {0}

abbrev Declined : Judged → Type 0
Declined (declined v) = v.number ≡ 0 → ⊥
Declined (accepted p es) = Unit {0}

read_number : (text rec : List ℕ) → Refused (read text rec)
read_number text rec = read-cases Refused text rec (λ number place ne. ne) (λ ts tree end e c. tt)

module _ (p : Page) where
  comments-number : (es : List Event) → Declined (comments p es)
  unfolding comments
  comments-number es = go (first (is_left p.tokens.kinds es) 0 (length p.tokens.kinds)) refl
    where
      go : (o : Option ℕ) → first (is_left p.tokens.kinds es) 0 (length p.tokens.kinds) ≡ o → Declined (comments p es)
      go (Some k) f = rw (f, comments) (λ e. omega (arith, e))
      go None f = rw (f, comments) tt

  stop-number : (why : Stop) → (stop_verdict why).number ≡ 0 → ⊥
  unfolding stop_verdict
  stop-number (absent place) e = omega (arith, e)
  stop-number (imported next) e = omega (arith, e)

  walked-number : (tree : ℕ) → Declined (walked p tree)
  unfolding walked
  walked-number tree = go (walk p tree) refl
    where
      go : (o : Outcome) → walk p tree ≡ o → Declined (walked p tree)
      go (done end es) f = rw (f, walked) (comments-number es)
      go (stopped why es) f = rw (f, walked) (stop-number why)

judge-number : (text rec : List ℕ) → Declined (judge text rec)
unfolding judge
judge-number text rec = go (read text rec) refl
  where
    go : (r : Read) → read text rec ≡ r → Declined (judge text rec)
    go (refused number place) f = rw (f, judge) (rw f at (read_number text rec))
    go (sheet tokens tree) f = rw (f, judge) (walked-number (record { text = text; rec = rec; tokens = tokens }) tree)

-- ---- an accepted sheet
comments-accepted : (p q : Page) (es fs : List Event) → comments p es ≡ accepted q fs
    → (p ≡ q) × (es ≡ fs) × (first (is_left p.tokens.kinds es) 0 (length p.tokens.kinds) ≡ None)
unfolding comments
comments-accepted p q es fs e = go (first (is_left p.tokens.kinds es) 0 (length p.tokens.kinds)) refl
  where
    go : (o : Option ℕ) → first (is_left p.tokens.kinds es) 0 (length p.tokens.kinds) ≡ o
        → (p ≡ q) × (es ≡ fs) × (first (is_left p.tokens.kinds es) 0 (length p.tokens.kinds) ≡ None)
    go (Some k) f = let d = rw (f, comments) at e in never (cc)
    go None f = let d : accepted p es ≡ accepted q fs = rw (f, comments) at e in (cc, cc, f)

module _ (text rec : List ℕ) (p : Page) (es : List Event) where
  walked-accepted : (q : Page) (tree : ℕ) → walked q tree ≡ accepted p es → q ≡ record { text = text; rec = rec; tokens = q.tokens }
      → read text rec ≡ sheet q.tokens tree → Sheet text rec p es
  unfolding walked
  walked-accepted q tree e page reads = go (walk q tree) refl
    where
      go : (o : Outcome) → walk q tree ≡ o → Sheet text rec p es
      go (done end fs) f =
          let h = comments-accepted q p fs es (rw (f, walked) at e) in
          record {
            tree = tree;
            end = end;
            page = rw h.0 at page;
            reads = rw h.0 at reads;
            walks = rw h.0 at f ∙ ap (done end) h.1;
            none_left = rw (h.0, h.1) at h.2;
          }
      go (stopped why fs) f = let d = rw (f, walked) at e in never (cc)

  sheet-accepted : Sheet text rec p es → judge text rec ≡ accepted p es
  unfolding judge walked comments
  sheet-accepted s =
      let whole : Page = record { text = text; rec = rec; tokens = p.tokens } in
      let read-to : judge text rec ≡ walked whole s.tree = rw (judge, s.reads) in
      read-to ∙ ap (λ q. walked q s.tree) (sym s.page) ∙ rw (walked, s.walks, comments, s.none_left)

  pub accepted-is : (judge text rec ≡ accepted p es) ↔ Sheet text rec p es
  unfolding judge
  accepted-is = (go (read text rec) refl, sheet-accepted)
    where
      go : (r : Read) → read text rec ≡ r → judge text rec ≡ accepted p es → Sheet text rec p es
      go (refused number place) f e = let d = rw (f, judge) at e in never (cc)
      go (sheet tokens tree) f e = walked-accepted (record { text = text; rec = rec; tokens = tokens }) tree (rw (f, judge) at e) refl f

-- ---- check and get by what the sheet decides
module _ (text rec : List ℕ) where
  module _ {v : Verdict} (e : judge text rec ≡ declined v) where
    pub declined-number : v.number ≡ 0 → ⊥
    declined-number = rw e at (judge-number text rec)

    pub check-declined : check text rec ≡ v
    unfolding check
    check-declined = rw (check, e)

    pub get-declined : (tab : ℕ) (out : List ℕ) → get text rec tab out ≡ record { verdict = v; out = out }
    unfolding get
    get-declined tab out = rw (get, e)

  module _ {p : Page} {es : List Event} (e : judge text rec ≡ accepted p es) where
    pub check-accepted : check text rec ≡ verdict 0 0 (measures_of p es)
    unfolding check
    check-accepted = rw (check, e)

    pub get-accepted : (tab : ℕ) (out : List ℕ) → get text rec tab out ≡ format tab p es out
    unfolding get
    get-accepted tab out = rw (get, e)

-- ---- formatting by its bounds
module _ (tab : ℕ) (p : Page) (es : List Event) (out : List ℕ) where
  pub format-wide : max_width < deepest es * tab → format tab p es out ≡ record { verdict = verdict 7 0 (measures_of p es); out = out }
  unfolding format
  format-wide h = rw (format, lt-leb _ _ h)

  module _ (width : deepest es * tab ≤ max_width) where
    format-put : format tab p es out ≡ put (measures_of p es) (formatted p tab es) out
    unfolding format
    format-put = rw (format, le-leb _ _ width)

    pub format-short : length out < letters p es + tab * units es → format tab p es out ≡ record { verdict = verdict 8 0 (measures_of p es); out = out }
    unfolding put
    format-short h =
        let l : length out < length (formatted p tab es) = omega (arith, length_formatted p tab es) in
        format-put ∙ rw (put, lt-leb _ _ l)

    pub format-fits : letters p es + tab * units es ≤ length out
        → format tab p es out ≡ record { verdict = verdict 0 0 (measures_of p es); out = formatted p tab es ++ drop (length (formatted p tab es)) out }
    unfolding put
    format-fits h =
        let l : length (formatted p tab es) ≤ length out = omega (arith, length_formatted p tab es) in
        format-put ∙ rw (put, le-leb _ _ l)

-- ---- what formatting accepts
-- Formatting refuses and leaves the output as it was.
abbrev pub Leaves : Result → List ℕ → Type 0
Leaves r out = (r.verdict.number ≡ 0 → ⊥) × (r.out ≡ out)

-- A result with the output as it was, and a refusal's number.
leaves : {r : Result} {v : Verdict} {out : List ℕ} → r ≡ record { verdict = v; out = out } → (v.number ≡ 0 → ⊥) → Leaves r out
leaves e ne = (λ z. ne (ap (λ s. s.verdict.number) (sym e) ∙ z), ap (λ s. s.out) e)

module _ (text rec : List ℕ) (tab : ℕ) (out : List ℕ) where
  pub gets : Fits text rec tab out ⊎ Leaves (get text rec tab out) out
  gets = go (judge text rec) refl
    where
      bounds : (p : Page) (es : List Event) → judge text rec ≡ accepted p es → (w r : Bool) → leb (deepest es * tab) max_width ≡ w
          → leb (letters p es + tab * units es) (length out) ≡ r → Fits text rec tab out ⊎ Leaves (get text rec tab out) out
      bounds p es e false r f g = inr (leaves (get-accepted text rec e tab out ∙ format-wide tab p es out (leb-false _ _ f)) (λ z. omega (arith, z)))
      bounds p es e true false f g =
          inr (leaves (get-accepted text rec e tab out ∙ format-short tab p es out (leb-true _ _ f) (leb-false _ _ g)) (λ z. omega (arith, z)))
      bounds p es e true true f g = inl (record { page = p; events = es; accepts = e; width = leb-true _ _ f; room = leb-true _ _ g })

      go : (j : Judged) → judge text rec ≡ j → Fits text rec tab out ⊎ Leaves (get text rec tab out) out
      go (declined v) e = inr (leaves (get-declined text rec e tab out) (declined-number text rec e))
      go (accepted p es) e = bounds p es e _ _ refl refl

  pub fits-get : (f : Fits text rec tab out)
      → get text rec tab out
      ≡ record {
        verdict = verdict 0 0 (measures_of f.page f.events);
        out = formatted f.page tab f.events ++ drop (length (formatted f.page tab f.events)) out;
      }
  fits-get f = get-accepted text rec f.accepts tab out ∙ format-fits tab f.page f.events out f.width f.room

  -- Formatting accepts exactly when the check accepts and both bounds hold.
  pub get-accepts : ((get text rec tab out).verdict.number ≡ 0) ↔ Fits text rec tab out
  get-accepts = (λ z. ⊎_elim (λ f. f) (λ l. absurd (l.0 z)) gets, λ f. ap (λ r. r.verdict.number) (fits-get f))
