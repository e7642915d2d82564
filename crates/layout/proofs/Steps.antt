-- The law of one layout after another, and a step for each kind of statement of the walk.
use Rattle.std.proofs.Common.{◌≡◌, ℕ, zero, suc, ◌+◌, ◌-◌, ◌/◌, ◌^◌, ◌<◌, ◌≤◌, max, Bool, true, false, List, [], ◌∷◌, ◌++◌, length, get_or, sym, refl, ap, ◌∙◌, subst, arith}
use lib.Dec.{ltb}
use borrow.Author.Tests.{ltb-true, ltb-false}
use Rattle.std.specs.Prelude.{Option, None, Some, Result, Ok, Err, IsErr, IsErrAnd}
use Rattle.std.proofs.lemmas.Result.{err_from_is_err_and}
use Prim.Native.String.{String}
use Rattle.text.specs.Bytes.{bytes, trim}
use Rattle.comments.specs.Above.{found_above, comment_above, comment_in}
use Rattle.comments.specs.declared.Above.{Above}
use Rattle.comments.specs.Set.{holds, words_of, without}
use Rattle.comments.specs.declared.Set.{Set}
use Rattle.comments.proofs.Words.{words-struck, words-kept}
use Rattle.layout.specs.Events.{trimmed}
use Rattle.layout.specs.Meaning.{token_text}
use Rattle.text.proofs.Laws.{never}
use Rattle.layout.specs.declared.Cfg.{Cfg}
use Rattle.layout.specs.declared.Ink.{Ink}
use Rattle.layout.specs.declared.Stop as Code
use Rattle.layout.specs.declared.Stop.TheVariants as Why
use Rattle.layout.specs.Layout.{Layout, skip, ◌⨾◌, word, output_indent, formed, text, group, choice, form, list, maybe, present, Look, look, Test, first_name, halt, import}
use Rattle.layout.specs.Meaning.{Page, Event, Word, Token, Comment, Formed, Indent, Outcome, done, stopped, Stop, after, bind, or_stop, outcome, sees, name_passes, commented, above_first}
use Rattle.layout.specs.Promises.State.{Run, run_of, at, effect, effects, Ran, went, fell, run, runs, why_of, ended, shown, Walked, Does, cfg_of, Deeper, Put, Sure, CommentedAbove, read_of, group_of, gone_of, present_of, spaced, sum_of, width_of, struck_words, struck}
use Rattle.layout.specs.Helpers as Helpers
use Rattle.layout.specs.Helpers.{times, items, for_each, when}
use Rattle.layout.specs.Walk.{walks}
use Rattle.reader.specs.Fields.{Family, Exp}
use Rattle.reader.specs.Tokens.{count_of}
use Rattle.reader.specs.Check.{token_fits}
use Rattle.reader.specs.Commands.{absent_at, list_at, group_at, choice_at, form_at, form_width}

-- ---- one run after another
abbrev pub and_then : Ran → (Run → Ran) → Ran
and_then (went g) k = k g
and_then (fell why i o) k = fell why i o

and_then_assoc : (r : Ran) (f g : Run → Ran) → and_then (and_then r f) g ≡ and_then r (λ x. and_then (f x) g)
and_then_assoc (went x) f g = refl
and_then_assoc (fell why i o) f g = refl

and_then_same : (r : Ran) (f g : Run → Ran) → ((x : Run) → f x ≡ g x) → and_then r f ≡ and_then r g
and_then_same (went x) f g h = h x
and_then_same (fell why i o) f g h = refl

module _ (p : Page) where
  -- No event looks at the cursor.
  effect_at : (e : Event) (a : ℕ) (g : Run) → effect p e (at a g) ≡ at a (effect p e g)
  unfolding effect
  effect_at (Word w) a g = refl
  effect_at (Token k) a g = refl
  effect_at (Comment k) a g = refl
  effect_at (Formed d) a g = refl
  effect_at (Indent d) a g = refl

  effects_at : (es : List Event) (a : ℕ) (g : Run) → effects p es (at a g) ≡ at a (effects p es g)
  unfolding effects
  effects_at [] a g = refl
  effects_at (e ∷ es) a g = ap (effects p es) (effect_at e a g) ∙ effects_at es a (effect p e g)

  effects_append : (es fs : List Event) (g : Run) → effects p (es ++ fs) g ≡ effects p fs (effects p es g)
  unfolding effects
  effects_append [] fs g = refl
  effects_append (e ∷ es) fs g = effects_append es fs (effect p e g)

  pub run_at : (x : Outcome) (a : ℕ) (g : Run) → run p x (at a g) ≡ run p x g
  unfolding run
  run_at (done b es) a g = ap (λ h. went (at b h)) (effects_at es a g)
  run_at (stopped why es) a g = ap (λ (h : Run). fell (why) h.ink h.out) (effects_at es a g)

  pub run_after : (es : List Event) (x : Outcome) (g : Run) → run p (after es x) g ≡ run p x (effects p es g)
  unfolding run after
  run_after es (done a fs) g = ap (λ h. went (at a h)) (effects_append es fs g)
  run_after es (stopped why fs) g = ap (λ (h : Run). fell why h.ink h.out) (effects_append es fs g)

  pub run_bind : (x : Outcome) (k : ℕ → Outcome) (g : Run) → run p (bind x k) g ≡ and_then (run p x g) (λ h. run p (k h.at) h)
  unfolding run bind
  run_bind (done a es) k g = run_after es (k a) g ∙ sym (run_at (k a) a (effects p es g))
  run_bind (stopped why es) k g = refl

  pub runs_then : (v w : Layout) (g : Run) → runs p (v ⨾ w) g ≡ and_then (runs p v g) (runs p w)
  unfolding runs outcome
  runs_then v w g = run_bind (outcome p v g.at) (λ next. outcome p w next) g

  regrouped : (g : Run) (u v w : Layout) → runs p (u ⨾ v ⨾ w) g ≡ runs p ((u ⨾ v) ⨾ w) g
  regrouped g u v w =
      runs_then u (v ⨾ w) g
      ∙ and_then_same (runs p u g) (runs p (v ⨾ w)) (λ x. and_then (runs p v x) (runs p w)) (runs_then v w)
      ∙ sym (runs_then (u ⨾ v) w g ∙ ap (λ x. and_then x (runs p w)) (runs_then u v g)
      ∙ and_then_assoc (runs p u g) (runs p v) (runs p w))

-- ---- what counts of a run
pub shown_went : (keep : Bool) (x : Ran) (g : Run) → shown keep (went g) ≡ shown keep x → x ≡ went g
unfolding shown
shown_went keep (went h) g e = sym e
shown_went true (fell why i o) g e = never (cc)
shown_went false (fell why i o) g e = never (cc)

pub shown_fell : (keep : Bool) (x : Ran) (k : Run → Ran) (why : Stop) (i : Ink) (o : List ℕ) → shown keep (fell why i o) ≡ shown keep x
    → shown keep (fell why i o) ≡ shown keep (and_then x k)
unfolding shown
shown_fell true (went h) k why i o e = never (cc)
shown_fell false (went h) k why i o e = never (cc)
shown_fell keep (fell why' i' o') k why i o e = e

-- Where all is kept, all counts.
shown_all : (x : Ran) → shown true x ≡ x
unfolding shown
shown_all (went g) = refl
shown_all (fell why i o) = refl

-- A function that keeps all at a stop, used in one that does not.
pub plain : {p : Page} {w : Layout} {g : Run} {r : Result ℕ Code.Stop} {i : Ink} {o : List ℕ} {keep : Bool} → Walked true p w g r i o → Walked keep p w g r i o
plain {keep = keep} e = record { is = ap (shown keep) (sym (shown_all _) ∙ e.is ∙ shown_all _) }

-- ---- a step for each kind of statement
-- What `?` hands on.
abbrev pub Handed : Result ℕ Code.Stop → Code.Stop → Type 0
Handed r why = IsErrAnd r (λ y. y ≡ why)

pub handed_on : (r : Result ℕ Code.Stop) {why : Code.Stop} → Handed r why → r ≡ Err why
handed_on r h = let p = err_from_is_err_and r h in p.1 ∙ ap Err p.2

module _ {p : Page} {keep : Bool} where
  pub then_done : {g : Run} {v w : Layout} {x r : Result ℕ Code.Stop} {i i' : Ink} {o o' : List ℕ} {s : ℕ}
      → Walked keep p v g x i o → x ≡ Ok s → Walked keep p w (run_of s i o) r i' o' → Walked keep p (v ⨾ w) g r i' o'
  unfolding ended
  then_done {g} {v} {w} {x} {r} {i} {i'} {o} {o'} {s} e f h =
      let q : runs p v g ≡ went (run_of s i o) = shown_went keep (runs p v g) (run_of s i o) (ap (λ x. shown keep (ended x i o)) (sym f) ∙ e.is) in
      record { is = h.is ∙ ap (shown keep) (sym (runs_then p v w g ∙ ap (λ x. and_then x (runs p w)) q)) }

  -- A walk that stopped, whatever stands behind it.
  pub then_stop : {g : Run} {v w : Layout} {x r : Result ℕ Code.Stop} {i : Ink} {o : List ℕ} {why : Code.Stop}
      → Walked keep p v g x i o → x ≡ Err why → Handed r why → Walked keep p (v ⨾ w) g r i o
  unfolding ended
  then_stop {g} {v} {w} {x} {r} {i} {o} {why} e f h =
      rw (handed_on r h)
      (record { is = shown_fell keep (runs p v g) (runs p w) (why_of why) i o (ap (λ x. shown keep (ended x i o)) (sym f) ∙ e.is) ∙ ap (shown keep) (sym (runs_then p v w g)) })

  -- A part whose stop is the answer, whatever stands behind it.
  pub then_handed : {g : Run} {v w : Layout} {r : Result ℕ Code.Stop} {i : Ink} {o : List ℕ} → Walked keep p v g r i o → IsErr r → Walked keep p (v ⨾ w) g r i o
  unfolding ended
  then_handed {r = Ok s} e h = never (cc)
  then_handed {g} {v} {w} {r = Err why} {i} {o} e h =
      record { is = shown_fell keep (runs p v g) (runs p w) (why_of why) i o e.is ∙ ap (shown keep) (sym (runs_then p v w g)) }

  pub last_done : {v : Layout} {g : Run} {x : Result ℕ Code.Stop} {i : Ink} {o : List ℕ} {s : ℕ} → Walked keep p v g x i o → x ≡ Ok s → Walked keep p v g (Ok s) i o
  last_done {v} {g} {i = i} {o} e f = subst (λ r. Walked keep p v g r i o) f e

  pub last_stop : {v : Layout} {g : Run} {x r : Result ℕ Code.Stop} {i : Ink} {o : List ℕ} {why : Code.Stop} → Walked keep p v g x i o → x ≡ Err why → Handed r why
      → Walked keep p v g r i o
  last_stop {v} {g} {r = r} {i} {o} e f h = rw (handed_on r h) (subst (λ r. Walked keep p v g r i o) f e)

  pub last_sure : {v : Layout} {a : ℕ} {i i' : Ink} {o o' : List ℕ} → Sure v i o i' o' → Walked keep p v (run_of a i o) (Ok a) i' o'
  unfolding ended
  last_sure {v} {a} e = record { is = ap (shown keep) (e.is p a) }

  pub then_sure : {v w : Layout} {a : ℕ} {r : Result ℕ Code.Stop} {i i' i'' : Ink} {o o' o'' : List ℕ}
      → Sure v i o i' o' → Walked keep p w (run_of a i' o') r i'' o'' → Walked keep p (v ⨾ w) (run_of a i o) r i'' o''
  then_sure {v} {w} {a} {r} {i} {i'} {i''} {o} e h =
      record { is = h.is ∙ ap (shown keep) (sym (runs_then p v w (run_of a i o) ∙ ap (λ x. and_then x (runs p w)) (sym (e.is p a)))) }

  -- Two layouts that one function writes.
  pub then_both : {u v w : Layout} {a : ℕ} {r : Result ℕ Code.Stop} {i i' i'' : Ink} {o o' o'' : List ℕ}
      → Sure (u ⨾ v) i o i' o' → Walked keep p w (run_of a i' o') r i'' o'' → Walked keep p (u ⨾ v ⨾ w) (run_of a i o) r i'' o''
  then_both {u} {v} {w} {a} {r} {i} {o = o} e h =
      let f : Walked keep p ((u ⨾ v) ⨾ w) (run_of a i o) r _ _ = then_sure e h in
      record { is = f.is ∙ ap (shown keep) (sym (regrouped p (run_of a i o) u v w)) }

  pub last_skip : {a : ℕ} {i : Ink} {o : List ℕ} → Walked keep p skip (run_of a i o) (Ok a) i o
  unfolding ended runs outcome run effects
  last_skip = record { is = refl }

  pub last_halt : {a : ℕ} {i : Ink} {o : List ℕ} → Walked keep p halt (run_of a i o) (Err (Why.Absent a)) i o
  unfolding ended runs outcome run effects why_of
  last_halt = record { is = refl }

  pub last_import : {a : ℕ} {i : Ink} {o : List ℕ} → Walked keep p import (run_of a i o) (Err (Why.Import a)) i o
  unfolding ended runs outcome run effects why_of
  last_import = record { is = refl }

  pub regroup : {g : Run} {u v w : Layout} {r : Result ℕ Code.Stop} {i : Ink} {o : List ℕ} → Walked keep p (u ⨾ v ⨾ w) g r i o → Walked keep p ((u ⨾ v) ⨾ w) g r i o
  regroup {g} {u} {v} {w} e = record { is = e.is ∙ ap (shown keep) (regrouped p g u v w) }

-- ---- fields
-- What is read at the cursor.
pub some_of : (width a n s : ℕ) (x : Option ℕ) → read_of width a x ≡ Ok (n, s) → (x ≡ Some n) × (s ≡ a + width)
unfolding read_of
some_of width a n s (Some k) e =
    let q : ◌≡◌ {A = ℕ × ℕ} (k, a + width) (n, s) = cc in
    (ap (λ (x : ℕ × ℕ). Some x.0) q, sym (ap (λ (x : ℕ × ℕ). x.1) q))
some_of width a n s None e = never (cc)

pub none_of : (width a : ℕ) (why : Code.Stop) (x : Option ℕ) → read_of width a x ≡ Err why → (x ≡ None) × (why ≡ Why.Absent a)
unfolding read_of
none_of width a why (Some k) e = never (cc)
none_of width a why None e = (refl, cc)

-- From another cursor.
moved : {p : Page} {keep : Bool} {w : Layout} (a : ℕ) {b s : ℕ} {i i' : Ink} {o o' : List ℕ} {r : Result ℕ Code.Stop} → s ≡ b → Walked keep p w (run_of s i o) r i' o'
    → shown keep (ended r i' o') ≡ shown keep (run p (outcome p w b) (run_of a i o))
unfolding runs
moved {p} {keep} {w} a {b} {s} {i} {o = o} e h = h.is ∙ ap (shown keep) (ap (λ c. run p (outcome p w c) (run_of s i o)) e ∙ run_at p (outcome p w b) s (run_of a i o))

group_true : (b : Bool) (a s : ℕ) → ◌≡◌ {A = Result ℕ Code.Stop} (elim b [ true ↦ Ok (a + 1) | false ↦ Err (Why.Absent a) ]) (Ok s) → (b ≡ true) × (s ≡ a + 1)
group_true true a s e = (refl, cc)
group_true false a s e = never (cc)

group_false : (b : Bool) (a : ℕ) (why : Code.Stop) → ◌≡◌ {A = Result ℕ Code.Stop} (elim b [ true ↦ Ok (a + 1) | false ↦ Err (Why.Absent a) ]) (Err why) → (b ≡ false) × (why ≡ Why.Absent a)
group_false true a why e = never (cc)
group_false false a why e = (refl, cc)

module _ {p : Page} {keep : Bool} {a : ℕ} {i : Ink} {o : List ℕ} where
  module _ {k : ℕ → Layout} {x : Result (ℕ × ℕ) Code.Stop} {r : Result ℕ Code.Stop} {i' : Ink} {o' : List ℕ} {n s : ℕ} where
    pub list_is : x ≡ read_of 3 a (list_at p.rec a) → x ≡ Ok (n, s) → Walked keep p (k n) (run_of s i o) r i' o' → Walked keep p (list k) (run_of a i o) r i' o'
    unfolding runs outcome or_stop
    list_is e f h = let q = some_of 3 a n s (list_at p.rec a) (sym e ∙ f) in record { is = rw (q.0, outcome, or_stop) (moved a q.1 h) }

    pub choice_is : x ≡ read_of 2 a (choice_at p.rec a) → x ≡ Ok (n, s) → Walked keep p (k n) (run_of s i o) r i' o' → Walked keep p (choice k) (run_of a i o) r i' o'
    unfolding runs outcome or_stop
    choice_is e f h = let q = some_of 2 a n s (choice_at p.rec a) (sym e ∙ f) in record { is = rw (q.0, outcome, or_stop) (moved a q.1 h) }

    pub form_is : {family : Family} → x ≡ read_of (form_width family) a (form_at p.rec family a) → x ≡ Ok (n, s) → Walked keep p (k n) (run_of s i o) r i' o'
        → Walked keep p (form family k) (run_of a i o) r i' o'
    unfolding runs outcome or_stop
    form_is {family} e f h = let q = some_of (form_width family) a n s (form_at p.rec family a) (sym e ∙ f) in record { is = rw (q.0, outcome, or_stop) (moved a q.1 h) }

  module _ {k : ℕ → Layout} {x : Result (ℕ × ℕ) Code.Stop} {r : Result ℕ Code.Stop} {why : Code.Stop} where
    pub list_not : x ≡ read_of 3 a (list_at p.rec a) → x ≡ Err why → Handed r why → Walked keep p (list k) (run_of a i o) r i o
    unfolding runs outcome or_stop run effects ended why_of
    list_not e f h = rw (handed_on r h) (let q = none_of 3 a why (list_at p.rec a) (sym e ∙ f) in record { is = rw (q.0, q.1, outcome, or_stop, ended, why_of) refl })

    pub choice_not : x ≡ read_of 2 a (choice_at p.rec a) → x ≡ Err why → Handed r why → Walked keep p (choice k) (run_of a i o) r i o
    unfolding runs outcome or_stop run effects ended why_of
    choice_not e f h = rw (handed_on r h) (let q = none_of 2 a why (choice_at p.rec a) (sym e ∙ f) in record { is = rw (q.0, q.1, outcome, or_stop, ended, why_of) refl })

    pub form_not : {family : Family} → x ≡ read_of (form_width family) a (form_at p.rec family a) → x ≡ Err why → Handed r why → Walked keep p (form family k) (run_of a i o) r i o
    unfolding runs outcome or_stop run effects ended why_of
    form_not {family} e f h = rw (handed_on r h) (let q = none_of (form_width family) a why (form_at p.rec family a) (sym e ∙ f) in record { is = rw (q.0, q.1, outcome, or_stop, ended, why_of) refl })

  -- A group.
  pub group_is : {w : Layout} {x r : Result ℕ Code.Stop} {i' : Ink} {o' : List ℕ} {s : ℕ} → x ≡ group_of p.rec a → x ≡ Ok s
      → Walked keep p w (run_of s i o) r i' o' → Walked keep p (group w) (run_of a i o) r i' o'
  unfolding runs outcome group_of
  group_is {w} {r = r} {i'} {o'} {s} e f h = let q = group_true (group_at p.rec a) a s (sym e ∙ f) in record { is = rw (q.0, outcome) (moved a q.1 h) }

  pub group_not : {w : Layout} {x r : Result ℕ Code.Stop} {why : Code.Stop} → x ≡ group_of p.rec a → x ≡ Err why → Handed r why
      → Walked keep p (group w) (run_of a i o) r i o
  unfolding runs outcome run effects ended why_of group_of
  group_not {r = r} {why} e f h =
      rw (handed_on r h) (let q = group_false (group_at p.rec a) a why (sym e ∙ f) in record { is = rw (q.0, q.1, outcome, ended, why_of) refl })

-- A field that may be absent.
gone_true : (b : Bool) (a s : ℕ) → ◌≡◌ {A = Option ℕ} (elim b [ true ↦ Some (a + 1) | false ↦ None ]) (Some s) → (b ≡ true) × (s ≡ a + 1)
gone_true true a s e = (refl, cc)
gone_true false a s e = never (cc)

gone_false : (b : Bool) (a : ℕ) → ◌≡◌ {A = Option ℕ} (elim b [ true ↦ Some (a + 1) | false ↦ None ]) None → b ≡ false
gone_false true a e = never (cc)
gone_false false a e = refl

-- A token that may be absent.
abbrev given : Option ℕ → Bool → ℕ → Result (Bool × ℕ) Code.Stop
given t b a = elim t [ Some k ↦ Ok (true, a + 3) | None ↦ elim b [ true ↦ Ok (false, a + 1) | false ↦ Err (Why.Absent a) ] ]

paired : {b c : Bool} {s u : ℕ} → ◌≡◌ {A = Result (Bool × ℕ) Code.Stop} (Ok (b, s)) (Ok (c, u)) → (b ≡ c) × (s ≡ u)
paired {b} {c} {s} {u} e =
    let q : ◌≡◌ {A = Bool × ℕ} (b, s) (c, u) = cc in
    (ap (λ (x : Bool × ℕ). x.0) q, ap (λ (x : Bool × ℕ). x.1) q)

given_some : (t : Option ℕ) (b : Bool) (a s : ℕ) → given t b a ≡ Ok (true, s) → (k : ℕ) × (t ≡ Some k) × (s ≡ a + 3)
given_some (Some k) b a s e = (k, refl, sym (paired e).1)
given_some None true a s e = never (let q : false ≡ true = (paired e).0 in cc)
given_some None false a s e = never (cc)

given_none : (t : Option ℕ) (b : Bool) (a s : ℕ) → given t b a ≡ Ok (false, s) → (t ≡ None) × (b ≡ true) × (s ≡ a + 1)
given_none (Some j) b a s e = never (let q : true ≡ false = (paired e).0 in cc)
given_none None true a s e = (refl, refl, sym (paired e).1)
given_none None false a s e = never (cc)

given_not : (t : Option ℕ) (b : Bool) (a : ℕ) (why : Code.Stop) → given t b a ≡ Err why → (t ≡ None) × (b ≡ false) × (why ≡ Why.Absent a)
given_not (Some j) b a why e = never (cc)
given_not None true a why e = never (cc)
given_not None false a why e = (refl, refl, cc)

module _ {p : Page} {keep : Bool} {a : ℕ} {i : Ink} {o : List ℕ} where
  -- Where it is absent it is passed over.
  module _ {w : Layout} {x : Option ℕ} where
    pub maybe_past : {s : ℕ} → x ≡ gone_of p.rec a → x ≡ Some s → Walked keep p (maybe w) (run_of a i o) (Ok s) i o
    unfolding runs outcome run effects ended gone_of
    maybe_past {s} e f = let q = gone_true (absent_at p.rec a) a s (sym e ∙ f) in record { is = rw (q.0, q.1, outcome, ended) refl }

    pub maybe_there : {r : Result ℕ Code.Stop} {i' : Ink} {o' : List ℕ} → x ≡ gone_of p.rec a → x ≡ None → Walked keep p w (run_of a i o) r i' o'
        → Walked keep p (maybe w) (run_of a i o) r i' o'
    unfolding runs outcome gone_of
    maybe_there e f h = let q = gone_false (absent_at p.rec a) a (sym e ∙ f) in record { is = rw (q, outcome) h.is }

  -- A token of which only its presence counts.
  module _ {v w : Layout} {x : Result (Bool × ℕ) Code.Stop} {r : Result ℕ Code.Stop} where
    module _ {b : Bool} {s : ℕ} {i' : Ink} {o' : List ℕ} where
      pub present_there : x ≡ present_of p.rec (count_of p.tokens) a → x ≡ Ok (b, s) → b ≡ true → Walked keep p v (run_of s i o) r i' o'
          → Walked keep p (present v w) (run_of a i o) r i' o'
      unfolding runs outcome present_of
      present_there e f g h =
          let q = given_some (token_fits p.rec (count_of p.tokens) a) (absent_at p.rec a) a s (sym e ∙ f ∙ ap (λ c. Ok (c, s)) g) in
          record { is = rw (q.1, outcome) (moved a q.2 h) }

      pub present_gone : x ≡ present_of p.rec (count_of p.tokens) a → x ≡ Ok (b, s) → b ≡ false → Walked keep p w (run_of s i o) r i' o'
          → Walked keep p (present v w) (run_of a i o) r i' o'
      unfolding runs outcome present_of
      present_gone e f g h =
          let q = given_none (token_fits p.rec (count_of p.tokens) a) (absent_at p.rec a) a s (sym e ∙ f ∙ ap (λ c. Ok (c, s)) g) in
          record { is = rw (q.0, q.1, outcome) (moved a q.2 h) }

    pub present_not : {why : Code.Stop} → x ≡ present_of p.rec (count_of p.tokens) a → x ≡ Err why → Handed r why → Walked keep p (present v w) (run_of a i o) r i o
    unfolding runs outcome run effects ended why_of present_of
    present_not {why} e f h =
        rw (handed_on r h)
        (let q = given_not (token_fits p.rec (count_of p.tokens) a) (absent_at p.rec a) a why (sym e ∙ f) in record { is = rw (q.0, q.1, q.2, outcome, ended, why_of) refl })

  -- A token, whose text is written.
  module _ {x : Result (ℕ × ℕ) Code.Stop} where
    pub text_is : {k s : ℕ} {i' : Ink} {o' : List ℕ} → x ≡ read_of 3 a (token_fits p.rec (count_of p.tokens) a) → x ≡ Ok (k, s)
        → ((b : ℕ) → run_of b i' o' ≡ effect p (Token k) (run_of b i o)) → Walked keep p text (run_of a i o) (Ok s) i' o'
    unfolding runs outcome or_stop run effects ended
    text_is {k} {s} {i'} {o'} e f h =
        let q = some_of 3 a k s (token_fits p.rec (count_of p.tokens) a) (sym e ∙ f) in
        record { is = rw (q.0, outcome, or_stop, q.1, ended) (ap (λ g. shown keep (went (at (a + 3) g))) (h a)) }

    pub text_not : {r : Result ℕ Code.Stop} {why : Code.Stop} → x ≡ read_of 3 a (token_fits p.rec (count_of p.tokens) a) → x ≡ Err why → Handed r why
        → Walked keep p text (run_of a i o) r i o
    unfolding runs outcome or_stop run effects ended why_of
    text_not {r} {why} e f h =
        rw (handed_on r h)
        (let q = none_of 3 a why (token_fits p.rec (count_of p.tokens) a) (sym e ∙ f) in record { is = rw (q.0, q.1, outcome, or_stop, ended, why_of) refl })

-- ---- questions, at whose answers the cursor stays
module _ {p : Page} {keep : Bool} {a : ℕ} {i : Ink} {o : List ℕ} {v w : Layout} {r : Result ℕ Code.Stop} where
  -- About the first name of the path at the cursor.
  module _ {t : Test} {x : Result ℕ Code.Stop} where
    module _ {b : Bool} {s : ℕ} {i' : Ink} {o' : List ℕ} where
      pub name_yes : x ≡ group_of p.rec a → x ≡ Ok s → b ≡ name_passes p t a → b ≡ true → Walked keep p v (run_of a i o) r i' o'
          → Walked keep p (first_name t v w) (run_of a i o) r i' o'
      unfolding runs outcome group_of
      name_yes e f n g h = let q = group_true (group_at p.rec a) a s (sym e ∙ f) in record { is = rw (q.0, outcome, sym n ∙ g) h.is }

      pub name_no : x ≡ group_of p.rec a → x ≡ Ok s → b ≡ name_passes p t a → b ≡ false → Walked keep p w (run_of a i o) r i' o'
          → Walked keep p (first_name t v w) (run_of a i o) r i' o'
      unfolding runs outcome group_of
      name_no e f n g h = let q = group_true (group_at p.rec a) a s (sym e ∙ f) in record { is = rw (q.0, outcome, sym n ∙ g) h.is }

    pub name_not : {why : Code.Stop} → x ≡ group_of p.rec a → x ≡ Err why → Handed r why → Walked keep p (first_name t v w) (run_of a i o) r i o
    unfolding runs outcome run effects ended why_of group_of
    name_not {why} e f h =
        rw (handed_on r h) (let q = group_false (group_at p.rec a) a why (sym e ∙ f) in record { is = rw (q.0, q.1, outcome, ended, why_of) refl })

  -- About the expression at the cursor.
  module _ {l : Look} {x : Result (ℕ × ℕ) Code.Stop} where
    module _ {b : Bool} {n s : ℕ} {i' : Ink} {o' : List ℕ} where
      pub look_yes : x ≡ read_of (form_width Exp) a (form_at p.rec Exp a) → x ≡ Ok (n, s) → b ≡ sees p l a → b ≡ true → Walked keep p v (run_of a i o) r i' o'
          → Walked keep p (look l v w) (run_of a i o) r i' o'
      unfolding runs outcome or_stop
      look_yes e f n g h = let q = some_of (form_width Exp) a _ s (form_at p.rec Exp a) (sym e ∙ f) in record { is = rw (q.0, outcome, or_stop, sym n ∙ g) h.is }

      pub look_no : x ≡ read_of (form_width Exp) a (form_at p.rec Exp a) → x ≡ Ok (n, s) → b ≡ sees p l a → b ≡ false → Walked keep p w (run_of a i o) r i' o'
          → Walked keep p (look l v w) (run_of a i o) r i' o'
      unfolding runs outcome or_stop
      look_no e f n g h = let q = some_of (form_width Exp) a _ s (form_at p.rec Exp a) (sym e ∙ f) in record { is = rw (q.0, outcome, or_stop, sym n ∙ g) h.is }

    pub look_not : {why : Code.Stop} → x ≡ read_of (form_width Exp) a (form_at p.rec Exp a) → x ≡ Err why → Handed r why → Walked keep p (look l v w) (run_of a i o) r i o
    unfolding runs outcome or_stop run effects ended why_of
    look_not {why} e f h =
        rw (handed_on r h)
        (let q = none_of (form_width Exp) a why (form_at p.rec Exp a) (sym e ∙ f) in record { is = rw (q.0, q.1, outcome, or_stop, ended, why_of) refl })

-- ---- the items of a list
module _ {p : Page} {keep : Bool} where
  -- A further item; none.
  pub times_more : (w : Layout) {j n : ℕ} {g : Run} {r : Result ℕ Code.Stop} {i : Ink} {o : List ℕ} → j < n
      → Walked keep p (w ⨾ times (n - (j + 1)) w) g r i o → Walked keep p (times (n - j) w) g r i o
  unfolding times
  times_more w {j} {n} e h =
      let q : n - j ≡ suc (n - (j + 1)) = omega arith in
      rw q h

  -- The same of a joint and an item behind it.
  pub joined_more : (u w : Layout) {j n : ℕ} {g : Run} {r : Result ℕ Code.Stop} {i : Ink} {o : List ℕ} → j < n
      → Walked keep p (u ⨾ w ⨾ times (n - (j + 1)) (u ⨾ w)) g r i o → Walked keep p (times (n - j) (u ⨾ w)) g r i o
  joined_more u w e h = times_more (u ⨾ w) e (regroup h)

  pub times_none : (w : Layout) {j n a : ℕ} {i : Ink} {o : List ℕ} → n ≤ j → Walked keep p (times (n - j) w) (run_of a i o) (Ok a) i o
  unfolding times
  times_none w {j} {n} e =
      let q : n - j ≡ 0 = omega arith in
      rw q last_skip

  -- The first item and those behind it; no item.
  pub items_some : (w more : Layout) {n : ℕ} {g : Run} {r : Result ℕ Code.Stop} {i : Ink} {o : List ℕ} → (n ≡ 0 → ⊥)
      → Walked keep p (w ⨾ times (n - 1) more) g r i o → Walked keep p (items n w more) g r i o
  unfolding items
  items_some w more {n} e h =
      let q : n ≡ suc (n - 1) = omega arith in
      rw q h

  pub items_none : (w more : Layout) {n a : ℕ} {i : Ink} {o : List ℕ} → n ≡ 0 → Walked keep p (items n w more) (run_of a i o) (Ok a) i o
  unfolding items
  items_none w more e = rw e last_skip

-- What is left of n items behind the first j of them.
unfoldable pub items_from : ℕ → ℕ → Layout → Layout → Layout
items_from zero n w more = items n w more
items_from (suc j) n w more = times (n - suc j) more

behind_one : (w more : Layout) (j n : ℕ) → items_from (j + 1) n w more ≡ times (n - (j + 1)) more
unfolding items_from
behind_one w more j n =
    let q : j + 1 ≡ suc j = omega arith in
    rw q refl

module _ {p : Page} {keep : Bool} (w more : Layout) where
  -- The first item; a later one; none.
  pub first_item : {j n : ℕ} {g : Run} {r : Result ℕ Code.Stop} {i : Ink} {o : List ℕ} → j ≤ 0 → j < n
      → Walked keep p (w ⨾ items_from (j + 1) n w more) g r i o → Walked keep p (items_from j n w more) g r i o
  unfolding items_from
  first_item {j = zero} {n} {g} {r} {i} {o} e h x = items_some w more (λ f. omega (f, h, arith)) (subst (λ z. Walked keep p (w ⨾ z) g r i o) (behind_one w more 0 n) x)
  first_item {j = suc j} e h x = absurd (omega (e, arith))

  pub later_item : {j n : ℕ} {g : Run} {r : Result ℕ Code.Stop} {i : Ink} {o : List ℕ} → 0 < j → j < n
      → Walked keep p (more ⨾ items_from (j + 1) n w more) g r i o → Walked keep p (items_from j n w more) g r i o
  unfolding items_from
  later_item {j = zero} e h x = absurd (omega (e, arith))
  later_item {j = suc j} {n} {g} {r} {i} {o} e h x = times_more more h (subst (λ z. Walked keep p (more ⨾ z) g r i o) (behind_one w more (suc j) n) x)

  pub no_item : {j n a : ℕ} {i : Ink} {o : List ℕ} → n ≤ j → Walked keep p (items_from j n w more) (run_of a i o) (Ok a) i o
  unfolding items_from
  no_item {j = zero} e = items_none w more (omega (e, arith))
  no_item {j = suc j} e = times_none more e

-- Items without a joint are items with one that writes nothing.
module _ (p : Page) (w : Layout) where
  skipped : (g : Run) → runs p (skip ⨾ w) g ≡ runs p w g
  unfolding runs outcome run effects
  skipped g = runs_then p skip w g

  times_skip : (n : ℕ) (g : Run) → runs p (times n w) g ≡ runs p (times n (skip ⨾ w)) g
  unfolding times
  times_skip zero g = refl
  times_skip (suc n) g =
      runs_then p w (times n w) g
      ∙ and_then_same (runs p w g) (runs p (times n w)) (runs p (times n (skip ⨾ w))) (times_skip n)
      ∙ ap (λ x. and_then x (runs p (times n (skip ⨾ w)))) (sym (skipped g))
      ∙ sym (runs_then p (skip ⨾ w) (times n (skip ⨾ w)) g)

  times_items : (n : ℕ) (g : Run) → runs p (times n w) g ≡ runs p (items n w (skip ⨾ w)) g
  unfolding times items
  times_items zero g = refl
  times_items (suc n) g =
      runs_then p w (times n w) g
      ∙ and_then_same (runs p w g) (runs p (times n w)) (runs p (times n (skip ⨾ w))) (times_skip n)
      ∙ sym (runs_then p w (times n (skip ⨾ w)) g)

  -- So in a list.
  pub each_items : {keep : Bool} {a : ℕ} {i : Ink} {o : List ℕ} {r : Result ℕ Code.Stop} {i' : Ink} {o' : List ℕ} → Walked keep p (list (λ n. items n w (skip ⨾ w))) (run_of a i o) r i' o'
      → Walked keep p (for_each w) (run_of a i o) r i' o'
  unfolding for_each runs outcome or_stop
  each_items {keep} {a} {i} {o} e = record { is = e.is ∙ ap (shown keep) (sym (same (list_at p.rec a))) }
    where
      same : (x : Option ℕ) → run p (or_stop x a (λ n. outcome p (times n w) (a + 3))) (run_of a i o) ≡ run p (or_stop x a (λ n. outcome p (items n w (skip ⨾ w)) (a + 3))) (run_of a i o)
      same None = refl
      same (Some n) = sym (run_at p (outcome p (times n w) (a + 3)) (a + 3) (run_of a i o)) ∙ times_items n (run_of (a + 3) i o) ∙ run_at p (outcome p (items n w (skip ⨾ w)) (a + 3)) (a + 3) (run_of a i o)

-- ---- functions that only write
pub sure_word : {u : String} {w : List ℕ} {i i' : Ink} {o o' : List ℕ} → Put w i o i' o' → bytes u ≡ w → Sure (word u) i o i' o'
unfolding runs outcome run effects effect
sure_word h e = record { is = λ p a. rw (e, h.ink, h.out) refl }

pub sure_indent : {d w x y : ℕ} (i : Ink) {o o' : List ℕ} → w ≡ width_of i.tab d → x ≡ sum_of i.position w → y ≡ sum_of i.units d → o' ≡ spaced o i.position x
    → Sure (output_indent d) i o (record i { position = x; units = y }) o'
unfolding runs outcome run effects effect
sure_indent i e f g h = record { is = λ p a. rw (h, f, g, e) refl }

pub sure_formed : {d m : ℕ} (i : Ink) {o : List ℕ} → m ≡ max i.deepest d → Sure (formed d) i o (record i { deepest = m }) o
unfolding runs outcome run effects effect
sure_formed i e = record { is = λ p a. rw e refl }

pub sure_then : {v w : Layout} {i i' i'' : Ink} {o o' o'' : List ℕ} → Sure v i o i' o' → Sure w i' o' i'' o'' → Sure (v ⨾ w) i o i'' o''
sure_then {v} {w} {i} {o = o} e f = record { is = λ p a. f.is p a ∙ sym (runs_then p v w (run_of a i o) ∙ ap (λ x. and_then x (runs p w)) (sym (e.is p a))) }

pub sure_skip : {i : Ink} {o : List ℕ} → Sure skip i o i o
unfolding runs outcome run effects
sure_skip = record { is = λ p a. refl }

-- What a condition decides.
pub sure_when : {w : Layout} {i i' : Ink} {o o' : List ℕ} {b : Bool} → b ≡ true → Sure w i o i' o' → Sure (when b w) i o i' o'
unfolding when
sure_when e f = rw (e, when) f

pub sure_unless : (w : Layout) {i : Ink} {o : List ℕ} {b : Bool} → b ≡ false → Sure (when b w) i o i o
unfolding when
sure_unless w e = rw (e, when) sure_skip

-- The words of a set that a token is struck out of are those of the set without it.
pub struck_without : (k : ℕ) (words : List ℕ) → length words ≡ 64 → ((j : ℕ) → get_or words j 0 < 2 ^ 64) → struck_words k words ≡ words_of (without (holds words) k)
struck_without k words long fit = go (ltb (k / 64) 64) refl
  where
    go : (t : Bool) → ltb (k / 64) 64 ≡ t → struck_words k words ≡ words_of (without (holds words) k)
    go true e = rw e (words-struck words long fit k _ (ltb-true (k / 64) 64 e) refl)
    go false e = rw e (words-kept words long fit k (ltb-false (k / 64) 64 e))

-- A token's text; a comment's trimmed text, which is then not left any more.
module _ (p : Page) (k : ℕ) {a : ℕ} {i' : Ink} {o o' t : List ℕ} where
  pub put_token : {i : Ink} → t ≡ token_text p k → Put t i o i' o' → run_of a i' o' ≡ effect p (Token k) (run_of a i o)
  unfolding effect
  put_token e h = rw (h.ink, h.out, e) refl

  pub put_comment : (i : Ink) {struck_out : Ink} {w : List ℕ} → struck_out ≡ struck k i → t ≡ token_text p k → w ≡ trim t
      → Put w struck_out o i' o' → run_of a i' o' ≡ effect p (Comment k) (run_of a i o)
  unfolding effect trimmed
  put_comment i e f g h = rw (h.ink, h.out, g, f, e) refl

  -- The same of the set without the token, as `Set::without` gives it.
  pub put_without : (i : Ink) {left : Set} {w : List ℕ} → length i.left.words ≡ 64 → ((j : ℕ) → get_or i.left.words j 0 < 2 ^ 64)
      → left.words ≡ words_of (without (holds i.left.words) k) → t ≡ token_text p k → w ≡ trim t
      → Put w (record i { left = left }) o i' o' → run_of a i' o' ≡ effect p (Comment k) (run_of a i o)
  put_without i long fit e = put_comment i (ap (λ (ws : List ℕ). record i { left = record { words = ws } }) (e ∙ sym (struck_without k i.left.words long fit)))

module _ {p : Page} {keep : Bool} {u : String} {x : List ℕ} {a : ℕ} {i i' : Ink} {o o' : List ℕ} where
  pub then_word : {w : Layout} {r : Result ℕ Code.Stop} {i'' : Ink} {o'' : List ℕ} → Put x i o i' o' → bytes u ≡ x → Walked keep p w (run_of a i' o') r i'' o''
      → Walked keep p (word u ⨾ w) (run_of a i o) r i'' o''
  then_word h e f = then_sure (sure_word h e) f

  pub last_word : Put x i o i' o' → bytes u ≡ x → Walked keep p (word u) (run_of a i o) (Ok a) i' o'
  last_word h e = last_sure (sure_word h e)

-- ---- the comment above a declaration
module _ {p : Page} {line : Layout} {first : Option ℕ} {i : Ink} {o : List ℕ} where
  pub above_skip : first ≡ None → CommentedAbove p first line i o i o
  unfolding commented above_first run effects
  above_skip e = rw e (record { is = λ a. refl })

  module _ {k : ℕ} {kinds : List ℕ} {x : Option Above} (e : first ≡ Some k) (h : kinds ≡ p.tokens.kinds) (f : x ≡ found_above kinds k) where
    pub above_none : x ≡ None → CommentedAbove p first line i o i o
    unfolding commented above_first comment_above comment_in run effects
    above_none g = rw e (record { is = λ a. let q = ap (λ z. found_above z k) (sym h) ∙ sym f ∙ g in rw (comment_above, q, commented) refl })

    pub above_some : {found : Above} {i' i'' : Ink} {o' o'' : List ℕ} → x ≡ Some found → ((a : ℕ) → run_of a i' o' ≡ effect p (Comment found.comment) (run_of a i o))
        → Sure line i' o' i'' o'' → CommentedAbove p first line i o i'' o''
    unfolding commented above_first comment_above comment_in runs effects
    above_some {found} g t w =
        rw e
        (record {
          is = λ a.
              let q = ap (λ z. found_above z k) (sym h) ∙ sym f ∙ g in
              rw (comment_above, q, commented)
              (w.is p a ∙ ap (run p (outcome p line a)) (t a) ∙ sym (run_after p (Comment found.comment ∷ []) (outcome p line a) (run_of a i o)));
        })

-- ---- a deeper configuration
module _ {c new : Cfg} (e : Deeper c new) where
  pub deep_depth : new.depth ≡ c.depth + 1
  deep_depth = ap (λ (x : Cfg). x.depth) e.is

  pub deep_left : new.nesting ≡ c.nesting
  deep_left = ap (λ (x : Cfg). x.nesting) e.is

  pub sure_in : (w : Helpers.Cfg → Layout) {i i' : Ink} {o o' : List ℕ} → Sure (w (cfg_of new)) i o i' o' → Sure (w (Helpers.deeper (cfg_of c))) i o i' o'
  sure_in w {i} {i'} {o} {o'} f = subst (λ x. Sure (w (cfg_of x)) i o i' o') e.is f

  -- A function that is called with the deeper configuration.
  pub along : {p : Page} (w : Helpers.Walkers → Helpers.Cfg → Layout) {g : Run} {r : Result ℕ Code.Stop} {i : Ink} {o : List ℕ} → Does p new w g r i o
      → Walked false p (w (walks c.nesting) (Helpers.deeper (cfg_of c))) g r i o
  along {p} w {g} {r} {i} {o} f = subst (λ x. Walked false p (w (walks x.nesting) (cfg_of x)) g r i o) e.is f
