-- Demand 3, and what demand 1 says of the output, for every text, record, tab size and output. Assumes nothing.
-- Measures are those of the walk over the sheet and not what a call reports: `deepest es`, `letters p es` and `units es`
-- where `judge text rec ≡ accepted p es` (Sheet says what that comes to).
use Prim.Native.Nat.{ℕ, ◌+◌, ◌*◌, ◌≤◌}
use native.Mathlib.Omega.{arith}
use mathlib.Core.Path.{◌≡◌, refl, sym, ap, ap₂, ◌∙◌}
use mathlib.Core.Logic.{◌↔◌, ◌⊎◌, inl, inr, ⊎_elim}
use mathlib.Core.Bool.{true}
use mathlib.Core.List.{List, ◌++◌}
use lib.ListN.{length, drop}
use Rattle.comments.specs.Set.{is_comment}
use Rattle.layout.specs.Meaning.{Page, Event}
use Rattle.layout.specs.Events.{deepest, letters, units, trimmed, formatted}
use Rattle.measures.proofs.Measures.{small-done, sheet_lengths}
use Rattle.formatter.specs.Verdict.{Judged, declined, accepted, judge, check, get}
use Rattle.formatter.specs.Accepted.{Sheet, Fits}
use Rattle.theorems.specs.Demands.{Refuses, Written, without_spaces, Holds}
use Rattle.layout.proofs.Exact.{length_formatted}
use Rattle.theorems.proofs.EventLaws.{same-at-tabs, same-spaceless, holds-written, all-written}
use Rattle.formatter.proofs.VerdictLaws.{accepted-is, declined-number, check-declined, get-declined, check-accepted, gets, fits-get}
use Rattle.formatter.proofs.VerdictLaws as VerdictLaws

same-page : {j : Judged} {p q : Page} {es fs : List Event} → j ≡ accepted p es → j ≡ accepted q fs → p ≡ q
same-page e f = cc

same_events : {j : Judged} {p q : Page} {es fs : List Event} → j ≡ accepted p es → j ≡ accepted q fs → es ≡ fs
same_events e f = cc

-- The text written is the sheet's formatted text.
pub written_is : {text rec : List ℕ} {tab : ℕ} {out w : List ℕ} {p : Page} {es : List Event} → Written text rec tab out w → judge text rec ≡ accepted p es
    → w ≡ formatted p tab es
written_is {tab = tab} at e = at.is ∙ ap₂ (λ q fs. formatted q tab fs) (same-page at.accepts e) (same_events at.accepts e)

-- ---- the theorems
module _ (text rec : List ℕ) where
  -- The check accepts a sheet that is read, walked to its end, and has no comment left; it refuses every other.
  pub check-accepts : ((check text rec).number ≡ 0) ↔ ((p : Page) × (es : List Event) × Sheet text rec p es)
  check-accepts = (go (judge text rec) refl, λ s. ap (λ v. v.number) (check-accepted text rec ((accepted-is text rec s.0 s.1).1 s.2)))
    where
      go : (j : Judged) → judge text rec ≡ j → (check text rec).number ≡ 0 → (p : Page) × (es : List Event) × Sheet text rec p es
      go (declined v) e z = absurd (declined-number text rec e (ap (λ u. u.number) (sym (check-declined text rec e)) ∙ z))
      go (accepted p es) e z = (p, es, (accepted-is text rec p es).0 e)

  -- "*Deepest* is .. never over 400." (01)
  pub depth-bounded : {p : Page} {es : List Event} → judge text rec ≡ accepted p es → deepest es ≤ 400
  depth-bounded {p} {es} e =
      let s = (accepted-is text rec p es).0 e in
      let l = sheet_lengths text rec p.tokens s.tree s.reads in
      let t : length p.text ≤ 32768 = omega (arith, l.0, ap (λ (q : Page). length q.text) s.page) in
      let r : length p.rec ≤ 65536 = omega (arith, l.1, ap (λ (q : Page). length q.rec) s.page) in
      (small-done p s.tree t r s.walks).deep

module _ (text rec : List ℕ) (tab : ℕ) (out : List ℕ) where
  -- Formatting accepts exactly when the check accepts and both bounds hold.
  pub get-accepts : ((get text rec tab out).verdict.number ≡ 0) ↔ Fits text rec tab out
  get-accepts = VerdictLaws.get-accepts text rec tab out

  -- "The check's verdict and the formatter's on one sheet are equal in number, place, measures and set exactly when the check
  -- refuses the sheet, or it accepts and two bounds hold: the deepest indent formed, written or not, times the tab size is at
  -- most 4,294,967,295, and letters + tab size × units is at most the output's length."
  pub verdicts-equal : (check text rec ≡ (get text rec tab out).verdict) ↔ (Refuses text rec ⊎ Fits text rec tab out)
  verdicts-equal = (go (judge text rec) refl, ⊎_elim (back (judge text rec) refl) fits)
    where
      go : (j : Judged) → judge text rec ≡ j → check text rec ≡ (get text rec tab out).verdict → Refuses text rec ⊎ Fits text rec tab out
      go (declined v) e h = inl (λ z. declined-number text rec e (ap (λ u. u.number) (sym (check-declined text rec e)) ∙ z))
      go (accepted p es) e h = inr (get-accepts.0 (ap (λ u. u.number) (sym h ∙ check-accepted text rec e)))

      back : (j : Judged) → judge text rec ≡ j → Refuses text rec → check text rec ≡ (get text rec tab out).verdict
      back (declined v) e h = check-declined text rec e ∙ ap (λ r. r.verdict) (sym (get-declined text rec e tab out))
      back (accepted p es) e h = absurd (h (ap (λ u. u.number) (check-accepted text rec e)))

      fits : Fits text rec tab out → check text rec ≡ (get text rec tab out).verdict
      fits f = check-accepted text rec f.accepts ∙ ap (λ r. r.verdict) (sym (fits-get text rec tab out f))

  -- "touches the output only when it accepts" (demand 1)
  pub output-untouched : ((get text rec tab out).verdict.number ≡ 0 → ⊥) → (get text rec tab out).out ≡ out
  output-untouched ne = ⊎_elim (λ f. absurd (ne (get-accepts.1 f))) (λ l. l.1) (gets text rec tab out)

  -- Where formatting accepts, a text is written.
  pub text-written : (get text rec tab out).verdict.number ≡ 0 → (w : List ℕ) × Written text rec tab out w
  text-written z =
      let f = get-accepts.0 z in
      (formatted f.page tab f.events, record { page = f.page; events = f.events; accepts = f.accepts; number = z; is = refl })

-- It stands in the output's first bytes, and the bytes past it stay.
pub output-written : {text rec : List ℕ} {tab : ℕ} {out w : List ℕ} → Written text rec tab out w
    → (length w ≤ length out) × ((get text rec tab out).out ≡ w ++ drop (length w) out)
output-written {text} {rec} {tab} {out} at =
    let f = (get-accepts text rec tab out).0 at.number in
    let e = written_is at f.accepts in
    (omega (arith, ap length e, length_formatted f.page tab f.events, f.room), rw e (ap (λ r. r.out) (fits-get text rec tab out f)))

-- "Where one sheet's text is written at two different tab sizes, the two texts are equal exactly when units is 0."
pub two_tabs_equal : {text rec : List ℕ} {tab tab' : ℕ} {out out' w w' : List ℕ} {p : Page} {es : List Event} → judge text rec ≡ accepted p es
    → Written text rec tab out w → Written text rec tab' out' w' → (tab ≡ tab' → ⊥) → (w ≡ w') ↔ (units es ≡ 0)
two_tabs_equal {tab = tab} {tab'} {p = p} {es} sheet at at' ne =
    rw (written_is at sheet, written_is at' sheet) (same-at-tabs p tab tab' es ne)

-- "After all spaces are deleted they are always equal."
pub spaceless_equal : {text rec : List ℕ} {tab tab' : ℕ} {out out' w w' : List ℕ} → Written text rec tab out w → Written text rec tab' out' w'
    → without_spaces w ≡ without_spaces w'
spaceless_equal {tab = tab} {tab'} at at' = rw (at.is, written_is at' at.accepts) (same-spaceless at.page tab tab' at.events)

-- "Each has exactly letters + its own tab size × units bytes."
pub bytes-written : {text rec : List ℕ} {tab : ℕ} {out w : List ℕ} {p : Page} {es : List Event} → judge text rec ≡ accepted p es
    → Written text rec tab out w → length w ≡ letters p es + tab * units es
bytes-written {tab = tab} {p = p} {es} sheet at = rw (written_is at sheet) (length_formatted p tab es)

-- "Each holds every block comment's trimmed text at least once."
pub comments-written : {text rec : List ℕ} {tab : ℕ} {out w : List ℕ} {p : Page} {es : List Event} → judge text rec ≡ accepted p es
    → Written text rec tab out w → (k : ℕ) → is_comment p.tokens.kinds k ≡ true → Holds (trimmed p k) w
comments-written {text} {rec} {tab} {p = p} {es} sheet at k c =
    let none_left = ((accepted-is text rec p es).0 sheet).none_left in
    rw (written_is at sheet) (holds-written p tab es k (all-written p.tokens.kinds es none_left k c))
