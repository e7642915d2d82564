-- A type whose answer is dropped.
use Rattle.std.proofs.Common.{◌≡◌, ℕ, zero, suc, true, List, sym, refl, ap, ◌∙◌}
use Rattle.std.specs.Prelude.{Option, None, Some, Result, Ok, Err}
use Rattle.text.proofs.Laws.{never}
use Rattle.reader.specs.Fields as Fields
use Rattle.reader.specs.Fields.{Ty}
use Rattle.reader.specs.Commands.{form_at}
use Rattle.reader.specs.Check.{Checked, ok, malformed, too_deep, end_within}
use Rattle.reader.specs.Promises.Tree.{told}
use Rattle.reader.specs.Tokens.{count_of}
use Rattle.layout.specs.declared.Ink.{Ink}
use Rattle.layout.specs.declared.Stop as Code
use Rattle.layout.specs.Layout.{Layout, dropped}
use Rattle.layout.specs.Meaning.{Page, Event, Outcome, done, stopped, Stop, absent, outcome, onwards}
use Rattle.layout.specs.Promises.State.{Run, run_of, Ran, went, fell, run, runs, why_of, ended, shown, Walked, behind, onwards_of}
use Rattle.layout.specs.Walk.{walks}

shown_all : (x : Ran) → shown true x ≡ x
unfolding shown
shown_all (went g) = refl
shown_all (fell why i o) = refl

-- What a stop left, with the cursor at an offset.
abbrev left_at : ℕ → Ran → Run
left_at a (went g) = g
left_at a (fell why i o) = run_of a i o

module _ (p : Page) (nesting a : ℕ) (i : Ink) (o : List ℕ) (g : Run) where
  abbrev after_drop : Result ℕ Code.Stop → Result ℕ Code.Stop
  after_drop x = onwards_of p.rec (count_of p.tokens) nesting a x

  -- A type that stopped, by what the check says of it.
  passed : (why : Code.Stop) (stop : Stop) (es : List Event) → fell (why_of why) i o ≡ run p (stopped stop es) g → (f : Option ℕ) → form_at p.rec Ty a ≡ f
      → (e : Checked) → end_within p.rec (count_of p.tokens) nesting (Fields.form Ty) a ≡ e
      → ended (after_drop (Err why)) i o ≡ run p (onwards p nesting a (stopped stop es)) g
  unfolding onwards_of onwards run ended behind told why_of
  passed why stop es h None d e q = rw (d, onwards, onwards_of, ended) h
  passed why stop es h (Some k) d (ok next) q = rw (d, q, onwards, onwards_of, told, behind, ended) (ap (λ x. went (left_at next x)) h)
  passed why stop es h (Some k) d (malformed place) q =
      rw (d, q, onwards, onwards_of, told, behind, ended, why_of) (ap (λ x. fell (absent place) (left_at a x).ink (left_at a x).out) h)
  passed why stop es h (Some k) d (too_deep place) q =
      rw (d, q, onwards, onwards_of, told, behind, ended, why_of) (ap (λ x. fell (absent place) (left_at a x).ink (left_at a x).out) h)

  dropped_run : (x : Result ℕ Code.Stop) (out : Outcome) → ended x i o ≡ run p out g → ended (after_drop x) i o ≡ run p (onwards p nesting a out) g
  unfolding onwards_of onwards run ended
  dropped_run (Ok next) (done b es) h = h
  dropped_run (Ok next) (stopped stop es) h = never (cc)
  dropped_run (Err why) (done b es) h = never (cc)
  dropped_run (Err why) (stopped stop es) h =
      passed why stop es h (form_at p.rec Ty a) refl (end_within p.rec (count_of p.tokens) nesting (Fields.form Ty) a) refl

-- The walks have as many forms left as their number says.
pub left_is : (n : ℕ) → (walks n).nesting ≡ n
unfolding walks
left_is zero = refl
left_is (suc n) = refl

pub dropped_by : {p : Page} (n : ℕ) {w : Layout} {a : ℕ} {x y : Result ℕ Code.Stop} {i i' : Ink} {o o' : List ℕ} → Walked true p w (run_of a i o) x i' o'
    → y ≡ onwards_of p.rec (count_of p.tokens) n a x → Walked true p (dropped (walks n).nesting w) (run_of a i o) y i' o'
unfolding runs outcome
dropped_by {p} n {w} {a} {x} {y} {i} {i'} {o} {o'} e f =
    let q : ended x i' o' ≡ run p (outcome p w a) (run_of a i o) = sym (shown_all _) ∙ e.is ∙ shown_all _ in
    rw (left_is n, f) (record { is = ap (shown true) (dropped_run p n a i' o' (run_of a i o) x (outcome p w a) q) })
