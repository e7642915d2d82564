-- A declaration's command, the comment above its first token, and the arm of its number.
use Rattle.std.proofs.Common.{◌≡◌, ℕ, ◌+◌, Bool, List, sym, refl, ap, ◌∙◌}
use Rattle.std.specs.Prelude.{Option, None, Some, Result, Ok, Err}
use Rattle.std.proofs.lemmas.Result.{err_from_is_err_and}
use Rattle.text.proofs.Laws.{never}
use Rattle.reader.specs.Fields.{DecOne}
use Rattle.reader.specs.declared.commands.Declaration.{Declaration}
use Rattle.reader.specs.Commands.{form_width, first_token}
use Rattle.reader.specs.Check.{form_fits}
use Rattle.reader.specs.Tokens.{count_of}
use Rattle.layout.specs.declared.Ink.{Ink}
use Rattle.layout.specs.declared.Stop as Code
use Rattle.layout.specs.declared.Stop.TheVariants as Why
use Rattle.layout.specs.Layout.{Layout, declaration}
use Rattle.layout.specs.Meaning.{Page, Outcome, bind, or_stop, outcome, commented, above_first}
use Rattle.layout.specs.Promises.State.{run_of, run, runs, effects, ended, why_of, shown, Walked, CommentedAbove, declared_of}
use Rattle.layout.proofs.Steps.{Handed, and_then, run_at, run_bind}

-- What is read of a command whose form's number is found, with the first token and the place of the fields; or a stop.
abbrev read : Option ℕ → Option ℕ → ℕ → ℕ → Result Declaration Code.Stop
read found first next at =
    elim found [ Some n ↦ Ok (record { number = n; first = first; next = next }) | None ↦ Err (Why.Absent at) ]

is_there : (found first : Option ℕ) (next at : ℕ) (d : Declaration) → read found first next at ≡ Ok d
    → (found ≡ Some d.number) × (d.first ≡ first) × (d.next ≡ next)
is_there (Some n) first next at d e =
    let q : record { number = n; first = first; next = next } ≡ d = cc in
    (ap (λ (d : Declaration). Some d.number) q, sym (ap (λ (d : Declaration). d.first) q), sym (ap (λ (d : Declaration). d.next) q))
is_there None first next at d e = never (cc)

is_gone : (found first : Option ℕ) (next at : ℕ) (why : Code.Stop) → read found first next at ≡ Err why → (found ≡ None) × (why ≡ Why.Absent at)
is_gone (Some n) first next at why e = never (cc)
is_gone None first next at why e = (refl, cc)

-- The walk behind a command whose first token is known.
abbrev declaring : Page → Layout → Layout → Option ℕ → ℕ → Outcome
declaring p line arm first next = bind (commented (above_first p first) (λ b. outcome p line b) next) (λ b. outcome p arm b)

module _ {p : Page} {keep : Bool} {a : ℕ} {i : Ink} {o : List ℕ} {line : Layout} {arm : ℕ → Layout} {x : Result Declaration Code.Stop} where
  pub declaration_is : {d : Declaration} {r : Result ℕ Code.Stop} {i' i'' : Ink} {o' o'' : List ℕ} → x ≡ declared_of p.rec (count_of p.tokens) a
      → x ≡ Ok d → CommentedAbove p d.first line i o i' o' → Walked keep p (arm d.number) (run_of d.next i' o') r i'' o''
      → Walked keep p (declaration line arm) (run_of a i o) r i'' o''
  unfolding runs outcome or_stop declared_of
  declaration_is {d} {i' = i'} {o' = o'} e f h w =
      let q = is_there (form_fits p.rec (count_of p.tokens) DecOne a) (first_token p.rec a) (a + form_width DecOne) a d (sym e ∙ f) in
      let above : run p (declaring p line (arm d.number) d.first d.next) (run_of a i o) ≡ run p (outcome p (arm d.number) d.next) (run_of d.next i' o') =
      sym (run_at p (declaring p line (arm d.number) d.first d.next) d.next (run_of a i o))
      ∙ run_bind p (commented (above_first p d.first) (λ b. outcome p line b) d.next) (λ b. outcome p (arm d.number) b) (run_of d.next i o)
      ∙ ap (λ x. and_then x (λ h. run p (outcome p (arm d.number) h.at) h)) (sym (h.is d.next)) in
      record { is = w.is ∙ ap (shown keep) (sym above ∙ rw (q.0, ← q.1, ← q.2) refl) }

  pub declaration_not : {r : Result ℕ Code.Stop} {why : Code.Stop} → x ≡ declared_of p.rec (count_of p.tokens) a → x ≡ Err why → Handed r why
      → Walked keep p (declaration line arm) (run_of a i o) r i o
  unfolding runs outcome or_stop run effects ended why_of declared_of
  declaration_not {r} {why} e f h =
      let u = err_from_is_err_and r h in
      rw (u.1, u.2)
      (let q = is_gone (form_fits p.rec (count_of p.tokens) DecOne a) (first_token p.rec a) (a + form_width DecOne) a why (sym e ∙ f) in
      record { is = rw (q.0, q.1, outcome, or_stop, ended, why_of) refl })
