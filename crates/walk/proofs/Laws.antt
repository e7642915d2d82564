-- Laws of the walk's own loops: the items of a sequence, the arguments of a functor's application.
use native.Mathlib.Omega.{arith}
use mathlib.Core.Path.{◌≡◌, subst}
use mathlib.Core.List.{List}
use mathlib.Core.Bool.{Bool, false, ◌&&◌, ◌||◌}
use Prim.Native.Nat.{ℕ, suc, ◌+◌, ◌-◌, ◌≤◌, ◌<◌}
use lib.Dec.{eqb}
use Rattle.std.specs.Prelude.{Result, Ok}
use Rattle.layout.specs.declared.Ink.{Ink}
use Rattle.layout.specs.declared.Stop.{Stop}
use Rattle.layout.specs.Layout.{word, choice, ◌⨾◌}
use Rattle.layout.specs.Helpers.{Cfg, Walkers, indent, when}
use Rattle.layout.specs.Meaning.{Page}
use Rattle.layout.specs.Promises.State.{Run, run_of, Walked}
use Rattle.layout.specs.Exp.{exp_semi_item, exp_semi_more, exp_semi_items}
use Rattle.layout.specs.StrExp.{app_arg, app_args}
use Rattle.layout.proofs.Steps.{last_skip}

module _ {p : Page} {keep : Bool} (ws : Walkers) (c : Cfg) where
  -- ---- the items of a sequence behind the first
  module _ (allow : Bool) where
    pub semi_more : {n : ℕ} {b : Bool} {g : Run} {r : Result ℕ Stop} {i : Ink} {o : List ℕ} → 0 < n → b ≡ (allow && eqb (n - 1) 0)
        → Walked keep p (word ";\n" ⨾ indent c ⨾ exp_semi_item ws c b ⨾ exp_semi_more ws c allow (n - 1)) g r i o → Walked keep p (exp_semi_more ws c allow n) g r i o
    unfolding exp_semi_more
    semi_more {n} {b} h e w =
        let q : n ≡ suc (n - 1) = omega arith in
        rw (q, exp_semi_more, ← e) w

    pub semi_none : {n a : ℕ} {i : Ink} {o : List ℕ} → n ≤ 0 → Walked keep p (exp_semi_more ws c allow n) (run_of a i o) (Ok a) i o
    unfolding exp_semi_more
    semi_none {n} h =
        let q : n ≡ 0 = omega arith in
        rw q last_skip

    -- ---- a sequence
    pub semi_zero : {n a : ℕ} {i : Ink} {o : List ℕ} → n ≡ 0 → Walked keep p (exp_semi_items ws c allow n) (run_of a i o) (Ok a) i o
    unfolding exp_semi_items
    semi_zero e = rw e last_skip

    pub semi_first : {n : ℕ} {g : Run} {r : Result ℕ Stop} {i : Ink} {o : List ℕ} → (n ≡ 0 → ⊥)
        → Walked keep p (exp_semi_item ws c false ⨾ exp_semi_more ws c allow (n - 1)) g r i o → Walked keep p (exp_semi_items ws c allow n) g r i o
    unfolding exp_semi_items
    semi_first {n} e w =
        let q : n ≡ suc (n - 1) = omega arith in
        rw (q, exp_semi_items) w

  -- ---- the arguments of a functor's application
  pub args_all : (n : ℕ) {g : Run} {r : Result ℕ Stop} {i : Ink} {o : List ℕ} → Walked keep p (app_args ws c false (n - 0)) g r i o → Walked keep p (app_args ws c false n) g r i o
  args_all n {g} {r} {i} {o} w =
      let q : n - 0 ≡ n = omega arith in
      subst (λ k. Walked keep p (app_args ws c false k) g r i o) q w

  pub args_needs : (k : ℕ) {a b : Bool} {g : Run} {r : Result ℕ Stop} {i : Ink} {o : List ℕ} → a ≡ b → Walked keep p (app_args ws c a k) g r i o → Walked keep p (app_args ws c b k) g r i o
  args_needs k {g = g} {r} {i} {o} e w = subst (λ x. Walked keep p (app_args ws c x k) g r i o) e w

  module _ (needs : Bool) where
    pub args_more : {j n : ℕ} {g : Run} {r : Result ℕ Stop} {i : Ink} {o : List ℕ} → j < n
        → Walked keep p (choice (λ which. app_arg ws c which ⨾ app_args ws c (needs || eqb which 1) (n - (j + 1)))) g r i o
        → Walked keep p (app_args ws c needs (n - j)) g r i o
    unfolding app_args
    args_more {j} {n} h w =
        let q : n - j ≡ suc (n - (j + 1)) = omega arith in
        rw (q, app_args) w

    pub args_none : {j n : ℕ} {g : Run} {r : Result ℕ Stop} {i : Ink} {o : List ℕ} → n ≤ j → Walked keep p (when needs (indent c) ⨾ word ")") g r i o
        → Walked keep p (app_args ws c needs (n - j)) g r i o
    unfolding app_args
    args_none {j} {n} h w =
        let q : n - j ≡ 0 = omega arith in
        rw (q, app_args) w
