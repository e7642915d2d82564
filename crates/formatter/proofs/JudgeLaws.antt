-- From what the walk's code leaves to the verdicts of `check` and `get`. Assumes nothing.
use Prim.Native.Nat.{ℕ, ◌+◌, ◌-◌, ◌*◌, ◌≤◌, ◌<◌}
use native.Mathlib.Nat.{mul_comm, mul-le-mul, zero-add}
use native.Mathlib.Omega.{arith}
use mathlib.Core.Path.{◌≡◌, refl, sym, ap, ap₂, ◌∙◌, subst}
use mathlib.Core.Bool.{false}
use mathlib.Core.List.{List, ◌++◌}
use Rattle.std.specs.Prelude.{Option, None, Some, Ok, Err}
use Rattle.std.specs.Prelude as Std
use lib.ListN.{length, get_or, take, drop, length-take}
use lib.Seq.{paste, take-append_seam, take-length}
use borrow.Author.Tests.{eq-eqb, ne_eqb}
use Rattle.text.proofs.Laws.{never}
use Rattle.text.specs.Utf8.{boundary}
use Rattle.reader.specs.Commands.{form_width}
use Rattle.reader.specs.Check.{Checked, ok, malformed, too_deep, max_forms, tree_check}
use Rattle.reader.specs.Tokens.{Tokens, count_of}
use Rattle.reader.specs.Promises.Tokens.{Tiles}
use Rattle.reader.specs.Promises.Reading.{TextReads}
use Rattle.reader.specs.Promises.Tree.{told}
use Rattle.reader.specs.declared.Refusal.{Refusal}
use Rattle.reader.specs.declared.Refusal.TheVariants.{Malformed, TooDeep}
use Rattle.comments.specs.declared.Set.{Set}
use Rattle.comments.specs.Set.{is_comment, holds, words_of, room, first}
use Rattle.layout.specs.declared.Ink.{Ink}
use Rattle.layout.specs.declared.Stop as Code
use Rattle.layout.specs.declared.Stop.TheVariants as Why
use Rattle.layout.specs.Meaning.{Page, Event, Outcome, done, stopped, Stop, absent, imported}
use Rattle.layout.specs.Walk.{walks, top, walk}
use Rattle.layout.specs.GetDec.{get_dec}
use Rattle.layout.specs.Events.{deepest, letters, units, formatted, is_left}
use Rattle.layout.specs.Promises.State.{Run, run_of, sum_of, width_of, effects, went, fell, run, runs, why_of, ended, shown, Walked}
use Rattle.layout.proofs.Exact.{begin, length_formatted, deepest_is, units_is, letters_is, left_is, out_is}
use Rattle.agreement.specs.Agreement.{EndsAt}
use Rattle.agreement.proofs.Knot.{passes-walks}
use Rattle.measures.specs.Small.{Small}
use Rattle.measures.proofs.Measures.{small-done}
use Rattle.formatter.specs.declared.Measures.{Measures}
use Rattle.formatter.specs.declared.FormatError.{FormatError}
use Rattle.formatter.specs.declared.FormatError.TheVariants as Case
use Rattle.formatter.specs.declared.Judged as Says
use Rattle.formatter.specs.Verdict.{Verdict, Result, Judged, judge, check, get, declined, stop_verdict, comments, measures_of, empty_set, verdict_of, format, max_width}
use Rattle.formatter.specs.Promises.WalkFirst.{by_check, by_walk, record_first}
use Rattle.formatter.specs.Promises.Judging.{otherwise, BehindCommand, BehindWhere, page_of, Limits, Weight, Drafts, Weighs, Judges, Puts}
use Rattle.formatter.proofs.SetLaws.{comments-some, comments-none}
use Rattle.formatter.proofs.FewLaws.{tiled-few}
use Rattle.formatter.proofs.VerdictLaws.{format-wide, format-short, format-fits, check-declined, get-declined, check-accepted, get-accepted}
use Rattle.formatter.proofs.WalkFirstLaws.{judge-refused, judge-record}

measures_same : {d d' l l' u u' : ℕ} → d ≡ d' → l ≡ l' → u ≡ u'
    → ◌≡◌ {A = Measures} (record { deepest = d; letters = l; units = u }) (record { deepest = d'; letters = l'; units = u' })
measures_same e f g = rw (e, f, g) refl

-- ---- the record check
pub passes : (x : Checked) {end : ℕ} → Ok end ≡ told x → x ≡ ok end
unfolding told
passes (ok at) e = ap ok (cc)
passes (malformed place) e = never (cc)
passes (too_deep place) e = never (cc)

pub check-ok : {v w : Verdict} (x : Checked) {end : ℕ} → v ≡ w → Ok end ≡ told x → declined v ≡ by_check w x
unfolding by_check
check-ok x e f = rw (passes x f) (ap declined e)

pub check-err : (v : Verdict) (x : Checked) {why : Refusal} → Err why ≡ told x → declined (verdict_of (Err (Case.Refused why)) empty_set) ≡ by_check v x
unfolding told by_check
check-err v (ok at) e = never (cc)
check-err v (malformed place) {why} e = let w : why ≡ Malformed place = cc in rw w refl
check-err v (too_deep place) {why} e = let w : why ≡ TooDeep place = cc in rw w refl

-- ---- where the walk ended
module _ {walked : Std.Result ℕ Code.Stop} where
  pub behind-command : {next : ℕ} → walked ≡ Err (Why.Import next) → BehindCommand walked → 3 ≤ next
  unfolding form_width
  behind-command e b = b.is _ e

  pub told-absent : {place : ℕ} → walked ≡ Err (Why.Absent place) → verdict_of (Err (Case.Stopped (Why.Absent place))) empty_set ≡ otherwise walked
  unfolding stop_verdict why_of
  told-absent e = rw e refl

  pub told-import : {next : ℕ} → walked ≡ Err (Why.Import next) → verdict_of (Err (Case.Stopped (Why.Import (next - 3)))) empty_set ≡ otherwise walked
  unfolding stop_verdict why_of form_width
  told-import e = rw e refl

-- ---- the walk over a sheet, from its start
abbrev Whole : Page → ℕ → Ink → List ℕ → Std.Result ℕ Code.Stop → Ink → List ℕ → Type 0
Whole p tree i o r i' o' = Walked false p (get_dec (walks max_forms) top) (run_of tree i o) r i' o'

pub ends-elsewhere : {r : Std.Result ℕ Code.Stop} {end n : ℕ} → r ≡ Ok end → (end ≡ n → ⊥) → r ≡ Ok n → ⊥
ends-elsewhere e ne h = ne (cc)

-- What a walk left that ended, and one that stopped.
went-is : (r : Std.Result ℕ Code.Stop) {i : Ink} {o : List ℕ} {g : Run} → shown false (ended r i o) ≡ went g → (r ≡ Ok g.at) × (i ≡ g.ink) × (o ≡ g.out)
unfolding shown ended
went-is (Ok a) {i} {o} {g} e = let q : run_of a i o ≡ g = cc in (ap (λ x. Ok x.at) q, ap (λ x. x.ink) q, ap (λ x. x.out) q)
went-is (Err why) e = never (cc)

fell-is : (r : Std.Result ℕ Code.Stop) (i i' : Ink) (o o' : List ℕ) {why : Stop} → shown false (ended r i o) ≡ shown false (fell why i' o')
    → (s : Code.Stop) × (r ≡ Err s) × (why_of s ≡ why)
unfolding shown ended
fell-is (Ok a) i i' o o' e = never (cc)
fell-is (Err s) i i' o o' {why} e = let q : why_of s ≡ why = cc in (s, refl, q)

no-stop : {end : ℕ} {s : Code.Stop} {A : Type 0} {r : Std.Result ℕ Code.Stop} → r ≡ Ok end → r ≡ Err s → A
no-stop e f = never (cc)

module _ {p : Page} {tree tab : ℕ} {left : Set} {o : List ℕ} {r : Std.Result ℕ Code.Stop} {i' : Ink} {o' : List ℕ} (w : Whole p tree (begin tab left) o r i' o') where
  abbrev start : Run
  start = run_of tree (begin tab left) o

  whole : shown false (ended r i' o') ≡ shown false (run p (walk p tree) start)
  unfolding runs walk
  whole = w.is

  done-is : {end : ℕ} {es : List Event} → walk p tree ≡ done end es → (r ≡ Ok end) × (i' ≡ (effects p es start).ink) × (o' ≡ (effects p es start).out)
  unfolding run shown
  done-is e = went-is r (whole ∙ ap (λ x. shown false (run p x start)) e)

  stopped-is : {why : Stop} {es : List Event} → walk p tree ≡ stopped why es → (s : Code.Stop) × (r ≡ Err s) × (why_of s ≡ why)
  unfolding run
  stopped-is {why} {es} e = fell-is r i' _ o' _ (whole ∙ ap (λ x. shown false (run p x start)) e)

  -- Where the walk's answer says that it ended.
  walked-to : {end : ℕ} → r ≡ Ok end → (es : List Event) × (walk p tree ≡ done end es)
  walked-to {end} h = go (walk p tree) refl
    where
      go : (x : Outcome) → walk p tree ≡ x → (es : List Event) × (walk p tree ≡ done end es)
      go (done at es) e =
          let f = (done-is e).0 in
          let q : at ≡ end = cc in
          (es, e ∙ ap (λ n. done n es) q)
      go (stopped why es) e = no-stop h (stopped-is e).1

  -- ---- 3, 4, 13 and 14
  abbrev checked : Judged
  checked = by_check (otherwise r) (tree_check p.rec (count_of p.tokens) tree)

  stopped_at : {why : Stop} {es : List Event} (s : Code.Stop) → walk p tree ≡ stopped why es → r ≡ Err s → why_of s ≡ why → by_walk p tree ≡ checked
  unfolding by_walk
  stopped_at s e f g = rw (by_walk, e, f, ← g) refl

  -- A walk that did not end at the record's end.
  elsewhere : (r ≡ Ok (length p.rec) → ⊥) → by_walk p tree ≡ checked
  unfolding by_walk
  elsewhere ne = go (walk p tree) refl
    where
      go : (x : Outcome) → walk p tree ≡ x → by_walk p tree ≡ checked
      go (done end es) e =
          let q = (done-is e).0 in
          rw (by_walk, e, ne_eqb end (length p.rec) (λ h. ne (q ∙ ap Ok h)), q) refl
      go (stopped why es) e =
          let q = stopped-is e in
          stopped_at q.0 e q.1 q.2

  pub weigh-other : {why : FormatError} {draft words : List ℕ} → (r ≡ Ok (length p.rec) → ⊥) → declined (verdict_of (Err why) empty_set) ≡ checked → words ≡ empty_set
      → Weighs p tree tab draft words (Err why)
  weigh-other ne e h = record { is = rw h (elsewhere ne ∙ sym e) }

  -- On a record that passes, an import stops the walk behind its command.
  pub behind : BehindWhere (tree_check p.rec (count_of p.tokens) tree) r
  unfolding why_of form_width
  behind = record { is = λ end e. record { is = λ next i. go next i (walk p tree) refl (passes-walks p tree end e) } }
    where
      go : (next : ℕ) → r ≡ Err (Why.Import next) → (x : Outcome) → walk p tree ≡ x → EndsAt p (length p.rec) x → 3 ≤ next
      go next i (done end es) e a = no-stop (done-is e).0 i
      go next i (stopped (absent place) es) e a =
          let q = stopped-is e in
          never (cc)
      go next i (stopped (imported place) es) e a =
          let q = stopped-is e in
          let h : place ≡ next = cc in
          omega (arith, a.1, h)

  -- ---- 6, and what is accepted
  module _ (tab_fits : tab < 0x1_0000_0000) (limits : Limits p) where
    -- The text stands in the output, where it fits.
    drafts : length o' ≡ length o → Drafts p tree tab o'
    drafts long =
        record {
          is = λ end es e fits.
              let small : Small p es = small-done p tree limits.text_fits limits.rec_fits e in
              rw ((done-is e).2 ∙ out_is p tab tree left o tab_fits es (omega (arith, small.both)) (omega (arith, small.both)) (omega (arith, long)))
              (take-append_seam (formatted p tab es) (drop (length (formatted p tab es)) o));
        }

    module _ (all : left.words ≡ words_of (is_comment p.tokens.kinds)) (to_end : r ≡ Ok (length p.rec)) where
      abbrev es : List Event
      es = (walked-to to_end).0

      walk_is : walk p tree ≡ done (length p.rec) es
      walk_is = (walked-to to_end).1

      small : Small p es
      small = small-done p tree limits.text_fits limits.rec_fits walk_is

      ink_is : i' ≡ (effects p es start).ink
      ink_is = (done-is walk_is).1

      words_are : i'.left.words ≡ words_of (is_left p.tokens.kinds es)
      words_are =
          ap (λ i. i.left.words) ink_is
          ∙ left_is p tab tree left o tab_fits es (omega (arith, small.both)) (omega (arith, small.both)) all

      walked-is : by_walk p tree ≡ comments p es
      unfolding by_walk
      walked-is = rw (by_walk, walk_is, eq-eqb (length p.rec) (length p.rec) refl) refl

      pub weigh-comments : {k place : ℕ} {draft : List ℕ} → first (holds i'.left.words) 0 room ≡ Some k → place ≡ get_or p.tokens.starts k 0
          → Weighs p tree tab draft i'.left.words (Err (Case.CommentsLeft place))
      weigh-comments h q = record { is = rw q (walked-is ∙ comments-some p es i'.left.words limits.few words_are h) }

      -- The letters are what the position leaves without the indents.
      module _ {n : ℕ} (h : n < 0x1_0000_0000_0000_0000) (a : sum_of n (width_of i'.tab i'.units) ≡ i'.position) where
        abbrev counted : Measures
        counted = record { deepest = i'.deepest; letters = n; units = i'.units }

        counted-is : counted ≡ measures_of p es
        unfolding measures_of
        counted-is =
            let f : letters p es ≤ 0x8000_0000 = omega (arith, small.both) in
            let k : units es ≤ 0x8000_0000 = omega (arith, small.both) in
            let d : i'.deepest ≡ deepest es = ap (λ i. i.deepest) ink_is ∙ deepest_is p tab tree left o tab_fits es f k in
            let u : i'.units ≡ units es = ap (λ i. i.units) ink_is ∙ units_is p tab tree left o tab_fits es f k in
            let l : n ≡ letters p es =
            letters_is p tab tree left o tab_fits es f k h (subst (λ i. sum_of n (width_of i.tab i.units) ≡ i.position) ink_is a) in
            measures_same d l u

        weight : Weight p tree counted
        weight =
            record {
              events = es;
              end = length p.rec;
              walks = walk_is;
              measures = counted-is;
              deep = small.deep;
              few = omega (arith, small.both);
              low = omega (arith, small.both);
            }

        pub weigh-accepts : length o' ≡ length o → first (holds i'.left.words) 0 room ≡ None → Weighs p tree tab o' i'.left.words (Ok counted)
        unfolding weight
        weigh-accepts long e =
            let none_left = comments-none p es i'.left.words limits.few words_are e in
            record { is = record { weight = weight; accepts = walked-is ∙ none_left.0; drafts = drafts long; empty = none_left.1 } }

-- ---- one page by another
module _ {p q : Page} (e : p ≡ q) {tree tab : ℕ} where
  pub weighs_on : {draft left : List ℕ} {r : Std.Result Measures FormatError} → Weighs p tree tab draft left r → Weighs q tree tab draft left r
  weighs_on {draft} {left} {r} w = subst (λ (x : Page). Weighs x tree tab draft left r) e w

  pub puts_on : {out out' : List ℕ} {r : Std.Result Measures FormatError} → Puts p tree tab out r out' → Puts q tree tab out r out'
  puts_on {out} {out'} {r} w = subst (λ (x : Page). Puts x tree tab out r out') e w

-- ---- 7, 8 and the text
abbrev events_in : Outcome → List Event
events_in (done end es) = es
events_in (stopped why es) = es

same_events : (x : Outcome) {end end' : ℕ} {es es' : List Event} → x ≡ done end es → x ≡ done end' es' → es ≡ es'
same_events x e f = ap events_in (sym e ∙ f)

pub scaled_bound : (n tab : ℕ) → n ≤ 0x4000_0000 → tab ≤ 0xFFFF_FFFF → n * tab ≤ 0x3FFF_FFFF_C000_0000
scaled_bound n tab h k = mul-le-mul h k

module _ {p : Page} {tree : ℕ} {m : Measures} (w : Weight p tree m) where
  pub weight-deep : m.deepest ≤ 0x4000_0000
  unfolding measures_of
  weight-deep = omega (arith, ap (λ x. x.deepest) w.measures, w.deep)

  pub weight-letters : m.letters ≤ 0x4000_0000
  unfolding measures_of
  weight-letters = omega (arith, ap (λ x. x.letters) w.measures, w.few)

  pub weight-units : m.units ≤ 0x4000_0000
  unfolding measures_of
  weight-units = omega (arith, ap (λ x. x.units) w.measures, w.low)

module _ {p : Page} {tree : ℕ} (tab : ℕ) {m : Measures} (w : Weight p tree m) (out : List ℕ) {width : ℕ} (i : width ≡ m.deepest * tab) where
  -- It is enough to look at the events that are known.
  puts : {r : Std.Result Measures FormatError} {out' : List ℕ} → ◌≡◌ {A = Result} (record { verdict = verdict_of r empty_set; out = out' }) (format tab p w.events out)
      → Puts p tree tab out r out'
  puts {r} {out'} q =
      record { is = λ end es e. subst (λ fs. ◌≡◌ {A = Result} (record { verdict = verdict_of r empty_set; out = out' }) (format tab p fs out)) (same_events (walk p tree) w.walks e) q }

  deepest-is : width ≡ deepest w.events * tab
  unfolding measures_of
  deepest-is = i ∙ ap (λ x. x.deepest * tab) w.measures

  pub put-wide : max_width < width → Puts p tree tab out (Err (Case.IndentTooWide m)) out
  put-wide h = puts (rw (← w.measures) at (sym (format-wide tab p w.events out (rw (← deepest-is) h))))

  module _ (narrow : width ≤ max_width) {spaces size : ℕ} (j : spaces ≡ m.units * tab) (k : size ≡ m.letters + spaces) where
    size_is : size ≡ letters p w.events + tab * units w.events
    unfolding measures_of
    size_is =
        k ∙ ap₂ (λ x y. x + y) (ap (λ x. x.letters) w.measures) (j ∙ ap (λ x. x.units * tab) w.measures ∙ mul_comm (units w.events) tab)

    pub put-short : length out < size → Puts p tree tab out (Err (Case.OutputTooShort m)) out
    put-short h = puts (rw (← w.measures) at (sym (format-short tab p w.events out (rw (← deepest-is) narrow) (rw (← size_is) h))))

    module _ (fits : size ≤ length out) where
      abbrev text : List ℕ
      text = formatted p tab w.events

      long : size ≡ length text
      long = size_is ∙ sym (length_formatted p tab w.events)

      put-text : {out' : List ℕ} → out' ≡ text ++ drop (length text) out → Puts p tree tab out (Ok m) out'
      put-text e = puts (rw (e, w.measures) (sym (format-fits tab p w.events out (rw (← deepest-is) narrow) (rw (← size_is) fits))))

      -- From the draft.
      pub put-copied : {draft out' : List ℕ} → Drafts p tree tab draft → size ≤ length draft → out' ≡ paste out 0 (take size draft) (length (take size draft))
          → Puts p tree tab out (Ok m) out'
      put-copied {draft} d h e =
          let piece : take size draft ≡ text = rw long (d.is w.end w.events w.walks (omega (arith, long))) in
          put-text
          (e ∙ ap (λ l. paste out 0 l (length l)) piece ∙ ap₂ (λ x n. x ++ drop n out) (take-length text) (zero-add (length text)))

      -- By a second walk.
      pub put-walked : {left : Set} {r : Std.Result ℕ Code.Stop} {i' : Ink} {out' : List ℕ} → tab < 0x1_0000_0000 → Whole p tree (begin tab left) out r i' out'
          → Puts p tree tab out (Ok m) out'
      put-walked {left} t x =
          put-text
          ((done-is x w.walks).2 ∙ out_is p tab tree left out t w.events (omega (arith, w.few)) (omega (arith, w.low)) (omega (arith, long)))

-- ---- the calls
-- The first entries of a slice.
pub taken-fits : {n k : ℕ} (l : List ℕ) → n ≤ length l → n ≤ k → 0 + length (take n l) ≤ k
taken-fits {n} l h k = omega (arith, length-take n l)

module _ {text rec : List ℕ} where
  judge-is : TextReads text rec (Ok tt) → judge text rec ≡ record_first text rec
  judge-is s = judge-record text rec s.is.2

module _ {text rec : List ℕ} (s : TextReads text rec (Ok tt)) {ts : Tokens} {tree : ℕ} (u : Tiles (boundary text) (length text) rec ts (Ok tree)) where
  pub sheet-limits : Limits (page_of text rec ts)
  sheet-limits = record { text_fits = s.is.0; rec_fits = s.is.1; few = tiled-few (boundary text) (length text) rec u.is }

  walks-first : judge text rec ≡ by_walk (page_of text rec ts) tree
  unfolding record_first
  walks-first = judge-is s ∙ rw (record_first, u.is) refl

  pub judges-weighed : {tab : ℕ} {draft left : List ℕ} {why : FormatError} → Weighs (page_of text rec ts) tree tab draft left (Err why)
      → Judges text rec ts tab draft left (Err why)
  judges-weighed x = record { is = walks-first ∙ x.is }

  pub judges-accepted : {tab : ℕ} {draft left : List ℕ} {m : Measures} → Weighs (page_of text rec ts) tree tab draft left (Ok m)
      → Judges text rec ts tab draft left (Ok (record { tree = tree; measures = m }))
  judges-accepted x =
      let a = x.is in
      record { is = record { weight = a.weight; accepts = walks-first ∙ a.accepts; drafts = a.drafts; empty = a.empty } }

module _ {text rec : List ℕ} {ts : Tokens} {tab : ℕ} {draft left : List ℕ} where
  -- 1 and 2.
  pub judges-unread : {why : Refusal} → TextReads text rec (Err why) → left ≡ empty_set → Judges text rec ts tab draft left (Err (Case.Refused why))
  judges-unread s h = record { is = rw h (judge-refused text rec s.is) }

  -- 3, of the tokens.
  pub judges-untiled : {why : Refusal} → TextReads text rec (Ok tt) → Tiles (boundary text) (length text) rec ts (Err why) → left ≡ empty_set
      → Judges text rec ts tab draft left (Err (Case.Refused why))
  unfolding record_first
  judges-untiled s u h = record { is = rw (h, u.is.1) (judge-is s ∙ rw (record_first, u.is.2) refl) }

  -- ---- by what is judged
  module _ {why : FormatError} (s : Judges text rec ts tab draft left (Err why)) where
    pub check-refuses : verdict_of (Err why) left ≡ check text rec
    check-refuses = sym (check-declined text rec s.is)

    pub get-refuses : (out : List ℕ) → ◌≡◌ {A = Result} (record { verdict = verdict_of (Err why) left; out = out }) (get text rec tab out)
    get-refuses out = sym (get-declined text rec s.is tab out)

  module _ {j : Says.Judged} (s : Judges text rec ts tab draft left (Ok j)) where
    pub check-accepts : verdict_of (Ok j.measures) left ≡ check text rec
    check-accepts =
        ap₂ (λ x y. record { number = 0; place = 0; measures = x; left = y }) s.is.weight.measures s.is.empty
        ∙ sym (check-accepted text rec s.is.accepts)

    pub get-puts : {out out' : List ℕ} {r : Std.Result Measures FormatError} → Puts (page_of text rec ts) j.tree tab out r out'
        → ◌≡◌ {A = Result} (record { verdict = verdict_of r left; out = out' }) (get text rec tab out)
    get-puts {out} {out'} {r} q =
        ap (λ x. record { verdict = verdict_of r x; out = out' }) s.is.empty
        ∙ q.is s.is.weight.end s.is.weight.events s.is.weight.walks
        ∙ sym (get-accepted text rec s.is.accepts tab out)
