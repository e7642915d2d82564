-- Laws of what AppExp sees of its expressions, and of InfixExp's operator; steps for both.
use Rattle.std.proofs.Common.{◌≡◌, ℕ, ◌+◌, Bool, true, false, List, [], ◌∷◌, sym, refl, ap, ap₂, ◌∙◌}
use Rattle.std.specs.Prelude.{Option, None, Some, Result, Ok, Err}
use Rattle.text.proofs.Laws.{never}
use Rattle.reader.specs.Fields as Fields
use Rattle.reader.specs.Fields.{Exp}
use Rattle.reader.specs.Tokens.{count_of}
use Rattle.reader.specs.Check.{ok, field_end, token_fits}
use Rattle.reader.specs.Commands.{form_at}
use Rattle.layout.specs.declared.Ink.{Ink}
use Rattle.layout.specs.declared.Stop as Code
use Rattle.layout.specs.declared.Stop.TheVariants as Why
use Rattle.layout.specs.declared.names.Name as Names
use Rattle.layout.specs.Layout.{Layout, ◌⨾◌, application, operator, is_pipe}
use Rattle.layout.specs.Meaning as Meaning
use Rattle.layout.specs.Meaning.{Page, Event, Token, Outcome, done, stopped, Stop, after, bind, or_stop, outcome, Head, path_exp, other_exp, Heads, both, missing, passes, func_is_bang, arg_is_symbolic, operated}
use Rattle.layout.specs.Promises.State.{Run, run_of, effect, effects, Ran, went, fell, run, runs, why_of, ended, shown, Walked, Sure, Operated, read_of}
use Rattle.layout.specs.Promises.Looks.{seen_as, head, heads_of, seen_behind, heads_behind, heads_at, asked_first}
use Rattle.layout.proofs.Steps.{and_then, run_at, run_after, run_bind, runs_then, Handed, handed_on, shown_went, shown_fell, some_of, none_of}

-- ---- what a walk's answer says of the run
module _ {p : Page} {keep : Bool} {w : Layout} {g : Run} {x : Result ℕ Code.Stop} {i : Ink} {o : List ℕ} (e : Walked keep p w g x i o) where
  went_on : {s : ℕ} → x ≡ Ok s → runs p w g ≡ went (run_of s i o)
  unfolding ended
  went_on {s} f = shown_went keep (runs p w g) (run_of s i o) (ap (λ x. shown keep (ended x i o)) (sym f) ∙ e.is)

  fell_at : {why : Code.Stop} → x ≡ Err why → shown keep (fell (why_of why) i o) ≡ shown keep (runs p w g)
  unfolding ended
  fell_at f = ap (λ x. shown keep (ended x i o)) (sym f) ∙ e.is

-- Where the layout leads from the cursor.
done_by : (p : Page) (x : Outcome) (g h : Run) → run p x g ≡ went h → (es : List Event) × (x ≡ done h.at es)
unfolding run
done_by p (done a es) g h e = let q : run_of a (effects p es g).ink (effects p es g).out ≡ h = cc in (es, ap (λ (h : Run). done h.at es) q)
done_by p (stopped why es) g h e = never (cc)

pub leads : {p : Page} {keep : Bool} {w : Layout} {a s : ℕ} {i i' : Ink} {o o' : List ℕ} {x : Result ℕ Code.Stop} → Walked keep p w (run_of a i o) x i' o' → x ≡ Ok s
    → (es : List Event) × (outcome p w a ≡ done s es)
unfolding runs
leads {p} {w = w} {a} {s} {i} {i'} {o} {o'} e f = done_by p (outcome p w a) (run_of a i o) (run_of s i' o') (went_on e f)

-- ---- what AppExp sees of its expressions
-- Behind the first expression's end.
pub behind_end : (rec : List ℕ) (count func arg : ℕ) → ((n : ℕ) → form_at rec Exp func ≡ Some n → field_end rec count (Fields.form Exp) func ≡ ok arg)
    → seen_behind rec func arg ≡ Meaning.heads_at rec count func
unfolding seen_behind Meaning.heads_at
behind_end rec count func arg h = go (form_at rec Exp func) refl
  where
    go : (o : Option ℕ) → form_at rec Exp func ≡ o → seen_behind rec func arg ≡ Meaning.heads_at rec count func
    go (Some n) q = rw (q, seen_behind, Meaning.heads_at, h n q) refl
    go None q = rw (q, seen_behind, Meaning.heads_at) refl

-- The same of what the code asks for.
pub heads_end : (rec : List ℕ) (count func arg : ℕ) → ((n : ℕ) → form_at rec Exp func ≡ Some n → field_end rec count (Fields.form Exp) func ≡ ok arg)
    → heads_behind rec func arg ≡ heads_at rec count func
heads_end rec count func arg h = ap heads_of (behind_end rec count func arg h)

abbrev Seen : Type 0
Seen = Option Names.Name × Option Names.Name

seen_head : (h : Head) → seen_as (head h) ≡ h
unfolding seen_as head
seen_head (path_exp k n) = refl
seen_head other_exp = refl

are_both : (x : Heads) (f g : Option Names.Name) → heads_of x ≡ Ok (f, g) → x ≡ both (seen_as f) (seen_as g)
unfolding heads_of
are_both (both h k) f g e =
    let q : ◌≡◌ {A = Seen} (head h, head k) (f, g) = cc in
    ap₂ both (sym (seen_head h) ∙ ap (λ (x : Seen). seen_as x.0) q) (sym (seen_head k) ∙ ap (λ (x : Seen). seen_as x.1) q)
are_both (missing place) f g e = never (cc)

-- Asked of a stop, the answer is a stop: the one that goes first.
pub asked_stop : (rec : List ℕ) (count func : ℕ) (why : Code.Stop) {b : Code.Stop} → b ≡ elim (heads_at rec count func) [ Ok heads ↦ why | Err first ↦ first ]
    → asked_first rec count func (Err why) ≡ Err b
unfolding asked_first
asked_stop rec count func why e = go (heads_at rec count func) e
  where
    go : (x : Result Seen Code.Stop) {b : Code.Stop} → b ≡ elim x [ Ok heads ↦ why | Err first ↦ first ] → ◌≡◌ {A = Result ℕ Code.Stop} (elim x [ Ok heads ↦ Err why | Err first ↦ Err first ]) (Err b)
    go (Ok heads) h = ap Err (sym h)
    go (Err first) h = ap Err (sym h)

module _ {p : Page} {a : ℕ} {i i' : Ink} {o o' : List ℕ} where
  module _ {r : Result ℕ Code.Stop} {k : Bool → Bool → Layout} {x : Result Seen Code.Stop} (e : x ≡ heads_at p.rec (count_of p.tokens) a) where
    pub application_is : {keep : Bool} {f g : Option Names.Name} {b c : Bool} → x ≡ Ok (f, g) → b ≡ func_is_bang p (seen_as f) → c ≡ arg_is_symbolic p (seen_as g)
        → Walked keep p (k b c) (run_of a i o) r i' o' → Walked keep p (application k) (run_of a i o) r i' o'
    unfolding runs outcome
    application_is {f = f} {g} d t u h = let q = are_both (Meaning.heads_at p.rec (count_of p.tokens) a) f g (sym e ∙ d) in record { is = rw (q, outcome, ← t, ← u) h.is }

    -- What was written before the names were looked for does not count.
    pub application_not : {why : Code.Stop} → x ≡ Err why → Handed r why → Walked false p (application k) (run_of a i o) r i' o'
    unfolding runs outcome run effects shown ended why_of heads_of
    application_not {why} d h = rw (handed_on r h) (record { is = go (Meaning.heads_at p.rec (count_of p.tokens) a) refl (sym e ∙ d) })
      where
        go : (z : Heads) → Meaning.heads_at p.rec (count_of p.tokens) a ≡ z → heads_of z ≡ Err why
            → shown false (ended (Err why) i' o') ≡ shown false (runs p (application k) (run_of a i o))
        go (both f g) q s = never (cc)
        go (missing place) q s = let t : why ≡ Why.Absent place = cc in ap (λ z. shown false (fell (why_of z) i' o')) t ∙ rw (q, outcome) refl

  -- The first expression stopped.
  pub application_stop : {v : Layout} {w : Bool → Bool → Layout} {x b : Result ℕ Code.Stop} {why : Code.Stop} → Walked false p v (run_of a i o) x i' o' → x ≡ Err why
      → b ≡ asked_first p.rec (count_of p.tokens) a (Err why) → Walked false p (application (λ b c. v ⨾ w b c)) (run_of a i o) b i' o'
  unfolding runs outcome run effects shown ended why_of asked_first heads_of
  application_stop {v} {w} {b = b} {why} e f h = record { is = go (Meaning.heads_at p.rec (count_of p.tokens) a) refl }
    where
      go : (z : Heads) → Meaning.heads_at p.rec (count_of p.tokens) a ≡ z
          → shown false (ended b i' o') ≡ shown false (runs p (application (λ b c. v ⨾ w b c)) (run_of a i o))
      go (both f' g') q =
          let u : Layout = w (func_is_bang p f') (arg_is_symbolic p g') in
          let d : b ≡ Err why = h ∙ rw (q, asked_first, heads_of) refl in
          ap (λ z. shown false (ended z i' o')) d
          ∙ shown_fell false (runs p v (run_of a i o)) (runs p u) (why_of why) i' o' (fell_at e f)
          ∙ ap (shown false) (sym (runs_then p v u (run_of a i o)))
          ∙ rw (q, outcome) refl
      go (missing place) q =
          let d : b ≡ Err (Why.Absent place) = h ∙ rw (q, asked_first, heads_of) refl in
          ap (λ z. shown false (ended z i' o')) d ∙ rw (q, outcome) refl

  -- The same where its stop alone is handed on.
  pub application_falls : {v : Layout} {w : Bool → Bool → Layout} {x : Result ℕ Code.Stop} {why b : Code.Stop} → Walked false p v (run_of a i o) x i' o' → x ≡ Err why
      → b ≡ elim (heads_at p.rec (count_of p.tokens) a) [ Ok heads ↦ why | Err first ↦ first ] → Walked false p (application (λ b c. v ⨾ w b c)) (run_of a i o) (Err b) i' o'
  application_falls {why = why} e f h = application_stop e f (sym (asked_stop p.rec (count_of p.tokens) a why h))

-- ---- an operator that is kept, and the right side behind it
abbrev kept : Page → Layout → Layout → ℕ → Run → Ran
kept p pipe gap k h = run p (operated p k (λ next. outcome p pipe next) (λ next. outcome p gap next) h.at) h

module _ (p : Page) (a : ℕ) (i : Ink) (o : List ℕ) (lhs pipe gap rhs : Layout) where
  leads_on : (k s : ℕ) → read_of 3 a (token_fits p.rec (count_of p.tokens) a) ≡ Ok (k, s)
      → runs p (operator lhs pipe gap ⨾ rhs) (run_of a i o) ≡ and_then (and_then (runs p lhs (run_of s i o)) (kept p pipe gap k)) (runs p rhs)
  unfolding runs outcome or_stop
  leads_on k s e =
      let q = some_of 3 a k s (token_fits p.rec (count_of p.tokens) a) e in
      let d : runs p (operator lhs pipe gap) (run_of a i o) ≡ and_then (runs p lhs (run_of s i o)) (kept p pipe gap k) =
      rw (q.0, q.1, outcome, or_stop)
      (run_bind p (outcome p lhs (a + 3)) (operated p k (λ next. outcome p pipe next) (λ next. outcome p gap next)) (run_of a i o)
      ∙ ap (λ x. and_then x (kept p pipe gap k)) (sym (run_at p (outcome p lhs (a + 3)) (a + 3) (run_of a i o)))) in
      runs_then p (operator lhs pipe gap) rhs (run_of a i o) ∙ ap (λ x. and_then x (runs p rhs)) d

module _ {p : Page} {keep : Bool} {a : ℕ} {i : Ink} {o : List ℕ} {lhs pipe gap rhs : Layout} {x : Result (ℕ × ℕ) Code.Stop} (e : x ≡ read_of 3 a (token_fits p.rec (count_of p.tokens) a)) where
  pub operator_not : {r : Result ℕ Code.Stop} {why : Code.Stop} → x ≡ Err why → Handed r why → Walked keep p (operator lhs pipe gap ⨾ rhs) (run_of a i o) r i o
  unfolding runs outcome or_stop bind run effects ended why_of
  operator_not {r} {why} f h =
      rw (handed_on r h)
      (let q = none_of 3 a why (token_fits p.rec (count_of p.tokens) a) (sym e ∙ f) in record { is = rw (q.0, q.1, outcome, or_stop, bind, ended, why_of) refl })

  pub operator_stop : {k s : ℕ} {y r : Result ℕ Code.Stop} {i' : Ink} {o' : List ℕ} {why : Code.Stop} → x ≡ Ok (k, s) → Walked keep p lhs (run_of s i o) y i' o' → y ≡ Err why
      → Handed r why → Walked keep p (operator lhs pipe gap ⨾ rhs) (run_of a i o) r i' o'
  unfolding ended
  operator_stop {k} {s} {r = r} {i'} {o'} {why} f l g h =
      rw (handed_on r h)
      (record {
        is = shown_fell keep (and_then (runs p lhs (run_of s i o)) (kept p pipe gap k)) (runs p rhs) (why_of why) i' o'
            (shown_fell keep (runs p lhs (run_of s i o)) (kept p pipe gap k) (why_of why) i' o' (fell_at l g))
            ∙ ap (shown keep) (sym (leads_on p a i o lhs pipe gap rhs k s (sym e ∙ f)));
      })

  pub operator_is : {k s u : ℕ} {y r : Result ℕ Code.Stop} {i₁ i₂ i₃ : Ink} {o₁ o₂ o₃ : List ℕ} → x ≡ Ok (k, s) → Walked keep p lhs (run_of s i o) y i₁ o₁ → y ≡ Ok u
      → Operated p k pipe gap i₁ o₁ i₂ o₂ → Walked keep p rhs (run_of u i₂ o₂) r i₃ o₃ → Walked keep p (operator lhs pipe gap ⨾ rhs) (run_of a i o) r i₃ o₃
  operator_is {k} {s} {u} f l g t w =
      record {
        is = w.is
            ∙ ap (shown keep) (sym (leads_on p a i o lhs pipe gap rhs k s (sym e ∙ f)
            ∙ ap (λ x. and_then (and_then x (kept p pipe gap k)) (runs p rhs)) (went_on l g)
            ∙ ap (λ x. and_then x (runs p rhs)) (sym (t.is u))));
      }

-- What is written in place of an operator, by its text.
module _ {p : Page} {k : ℕ} {pipe gap : Layout} {b : Bool} {i : Ink} {o : List ℕ} (e : b ≡ passes p is_pipe k) where
  pub operated_pipe : {i' : Ink} {o' : List ℕ} → b ≡ true → Sure pipe i o i' o' → Operated p k pipe gap i o i' o'
  unfolding operated runs
  operated_pipe h w = let q = sym e ∙ h in record { is = λ a. rw (q, operated) (w.is p a) }

  pub operated_gap : {i₁ i₂ i₃ : Ink} {o₁ o₂ o₃ : List ℕ} → b ≡ false → Sure gap i o i₁ o₁ → ((a : ℕ) → run_of a i₂ o₂ ≡ effect p (Token k) (run_of a i₁ o₁))
      → Sure gap i₂ o₂ i₃ o₃ → Operated p k pipe gap i o i₃ o₃
  unfolding operated runs effects
  operated_gap {i₁} {o₁ = o₁} h v t w =
      let q = sym e ∙ h in
      record {
        is = λ a.
            rw (q, operated)
            (w.is p a
            ∙ ap (run p (outcome p gap a)) (t a)
            ∙ sym (run_bind p (outcome p gap a) (λ next. after (Token k ∷ []) (outcome p gap next)) (run_of a i o)
            ∙ ap (λ x. and_then x (λ h. run p (after (Token k ∷ []) (outcome p gap h.at)) h)) (sym (v.is p a))
            ∙ run_after p (Token k ∷ []) (outcome p gap a) (run_of a i₁ o₁)));
      }
