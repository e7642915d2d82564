-- The walks of the families, by how many forms may still stand inside one another.
use Rattle.std.proofs.Common.{◌≡◌, ℕ, suc, ◌-◌, ◌≤◌, Bool, List, length, get_or, sym, refl, ap, ◌∙◌, subst, arith}
use Rattle.std.specs.Prelude.{Result, Ok, Err}
use lib.ListN.{get_or-eq_default}
use Rattle.reader.specs.Fields.{Family, Ty, Pat, Exp, StrExp, SigExp}
use Rattle.reader.specs.Commands.{form_at, form_width}
use Rattle.layout.specs.declared.Ink.{Ink}
use Rattle.layout.specs.declared.Stop as Code
use Rattle.layout.specs.declared.Stop.TheVariants as Why
use Rattle.layout.specs.Layout.{Layout, form, declaration, halt}
use Rattle.layout.specs.Helpers.{Cfg, Walkers}
use Rattle.layout.specs.Meaning.{Page}
use Rattle.layout.specs.Promises.State.{Run, run_of, Walked, read_of}
use Rattle.layout.specs.Walk.{walks}
use Rattle.layout.specs.Ty.{tys}
use Rattle.layout.specs.Pat.{pats}
use Rattle.layout.specs.Exp.{exps}
use Rattle.layout.specs.StrExp.{str_exps}
use Rattle.layout.specs.SigExp.{sig_exps}
use Rattle.layout.specs.DecOne.{comment_line, decs}
use Rattle.layout.proofs.Steps.{form_is, last_halt}

-- The walk of a family: a stop where no form may stand, else the arm of the number behind the form's command.
pub record Knotted (get : Walkers → Layout) (arms : Walkers → List Layout) (enter : (ℕ → Layout) → Layout) : Type 0 where
  pub none : get (walks 0) ≡ halt
  pub some : (n : ℕ) → get (walks (suc n)) ≡ enter (λ k. get_or (arms (walks n)) k halt)

pub ty : Knotted (λ ws. ws.get_ty) (λ ws. tys ws) (form Ty)
unfolding walks
ty = record { none = refl; some = λ n. refl }

pub pat : Knotted (λ ws. ws.get_pat) (λ ws. pats ws) (form Pat)
unfolding walks
pat = record { none = refl; some = λ n. refl }

module _ (c : Cfg) where
  pub exp : Knotted (λ ws. ws.get_exp c) (λ ws. exps ws c) (form Exp)
  unfolding walks
  exp = record { none = refl; some = λ n. refl }

  pub str_exp : Knotted (λ ws. ws.get_str_exp c) (λ ws. str_exps ws c) (form StrExp)
  unfolding walks
  str_exp = record { none = refl; some = λ n. refl }

  pub sig_exp : Knotted (λ ws. ws.get_sig_exp c) (λ ws. sig_exps ws c) (form SigExp)
  unfolding walks
  sig_exp = record { none = refl; some = λ n. refl }

  pub dec_one : Knotted (λ ws. ws.get_dec_one c) (λ ws. decs ws c) (declaration (comment_line c))
  unfolding walks
  dec_one = record { none = refl; some = λ n. refl }

module _ {p : Page} {keep : Bool} where
  -- The layout of the number that was matched.
  pub at_key : (f : ℕ → Layout) {n key : ℕ} {g : Run} {r : Result ℕ Code.Stop} {i : Ink} {o : List ℕ} → n ≡ key → Walked keep p (f key) g r i o
      → Walked keep p (f n) g r i o
  at_key f {g = g} {r} {i} {o} h w = subst (λ n. Walked keep p (f n) g r i o) (sym h) w

  -- No arm has the number.
  pub beyond : (arms : List Layout) {n a m : ℕ} {i : Ink} {o : List ℕ} → length arms ≡ m → m ≤ n → Walked keep p (get_or arms n halt) (run_of a i o) (Err (Why.Absent a)) i o
  beyond arms {n} {a} {i = i} {o} l h =
      subst (λ w. Walked keep p w (run_of a i o) (Err (Why.Absent a)) i o) (sym (get_or-eq_default arms halt (omega (arith, l)))) last_halt

  module _ {get : Walkers → Layout} {arms : Walkers → List Layout} where
    module _ {enter : (ℕ → Layout) → Layout} (k : Knotted get arms enter) {n : ℕ} where
      -- No form may stand here.
      pub form_none : {a : ℕ} {i : Ink} {o : List ℕ} → n ≡ 0 → Walked keep p (get (walks n)) (run_of a i o) (Err (Why.Absent a)) i o
      form_none {a} {i} {o} e =
          subst (λ w. Walked keep p w (run_of a i o) (Err (Why.Absent a)) i o) (sym (ap (λ m. get (walks m)) e ∙ k.none)) last_halt

      pub form_some : {g : Run} {r : Result ℕ Code.Stop} {i : Ink} {o : List ℕ} → (n ≡ 0 → ⊥) → Walked keep p (enter (λ j. get_or (arms (walks (n - 1))) j halt)) g r i o
          → Walked keep p (get (walks n)) g r i o
      form_some {g} {r} {i} {o} e w =
          let q : n ≡ suc (n - 1) = omega arith in
          subst (λ w. Walked keep p w g r i o) (sym (ap (λ m. get (walks m)) q ∙ k.some (n - 1))) w

    -- A number was read: its arm; or none has it.
    module _ {family : Family} (k : Knotted get arms (form family)) {n j a s : ℕ} {x : Result (ℕ × ℕ) Code.Stop} {i : Ink} {o : List ℕ} (some : n ≡ 0 → ⊥)
        (e : x ≡ read_of (form_width family) a (form_at p.rec family a)) (f : x ≡ Ok (j, s)) where
      pub form_key : {key : ℕ} {r : Result ℕ Code.Stop} {i' : Ink} {o' : List ℕ} → j ≡ key → Walked keep p (get_or (arms (walks (n - 1))) key halt) (run_of s i o) r i' o'
          → Walked keep p (get (walks n)) (run_of a i o) r i' o'
      form_key h w = form_some k some (form_is e f (at_key (λ j. get_or (arms (walks (n - 1))) j halt) h w))

      pub form_beyond : {m : ℕ} → length (arms (walks (n - 1))) ≡ m → m ≤ j → Walked keep p (get (walks n)) (run_of a i o) (Err (Why.Absent s)) i o
      form_beyond l h = form_some k some (form_is e f (beyond (arms (walks (n - 1))) l h))
