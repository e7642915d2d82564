-- What layouts pay that call themselves or go by cases of an argument. The terms of all others are written by tools/credits.py.
use native.Mathlib.Omega.{arith}
use mathlib.Core.Path.{refl}
use mathlib.Core.Bool.{Bool, true, false, ◌||◌}
use Prim.Native.Nat.{ℕ, zero, suc, ◌+◌, ◌≤◌}
use lib.Dec.{ltb}
use Rattle.std.specs.Prelude.{◌==◌}
use Rattle.text.specs.Bytes.{bytes}
use Rattle.layout.specs.Layout.{Layout, ◌⨾◌, word}
use Rattle.layout.specs.Meaning.{Page}
use Rattle.layout.specs.Helpers.{Cfg, Walkers, deeper, indent_deeper, items, new_line}
use Rattle.layout.specs.Exp.{item_semi, exp_semi_item, exp_semi_more, exp_semi_items, exp_semi_seq}
use Rattle.layout.specs.StrExp.{app_arg, app_args}
use Rattle.layout.specs.DecOne.{con_bind, con_binds}
use Rattle.measures.proofs.Paying.{Paid, Short, eased, arm, skips, fixed, ◌then◌, texts, choices, lists, groups, maybes, whens, presents, itemed, ◌▹◌, no_more}
use Rattle.measures.proofs.Helpers.{deepened, at-depth, new-lines}
use Rattle.measures.proofs.Arms.{Walks}
use Rattle.measures.proofs.Sequences.{dec-args}

-- ---- expressions in sequence
module _ {p : Page} {top : ℕ} {ws : Walkers} (go : Walks p top ws) (low : top ≤ 400) (c : Cfg) (h : c.depth ≤ top) where
  semi-item : (b : Bool) → Paid p 0 76 (exp_semi_item ws c b)
  unfolding exp_semi_item item_semi bytes
  semi-item b = groups (go.exp c h then presents (whens (fixed refl) _) skips)

  semi-more : (b : Bool) (n : ℕ) → Paid p 2 0 (exp_semi_more ws c b n)
  unfolding exp_semi_more bytes
  semi-more b zero = eased (omega arith) (omega arith) skips
  semi-more b (suc n) = eased (omega arith) (omega arith) (fixed refl then at-depth c (omega arith) then semi-item _ then semi-more b n)

  semi-items : (b : Bool) (n : ℕ) → Paid p 0 0 (exp_semi_items ws c b n)
  unfolding exp_semi_items
  semi-items b zero = skips
  semi-items b (suc n) = eased (omega arith) (omega arith) (semi-item false then semi-more b n)

  pub semi-seqs : (b : Bool) → Paid p 0 96 (exp_semi_seq ws c b)
  unfolding exp_semi_seq
  semi-seqs b = lists (semi-items b)

module _ {p : Page} (short : Short p) {top : ℕ} {ws : Walkers} (go : Walks p top ws) (low : top ≤ 400) (c : Cfg) (h : c.depth + 1 ≤ top) where
  -- ---- constructors of a datatype
  con-binding : Paid p 0 64 (con_bind ws)
  unfolding con_bind bytes
  con-binding = eased (omega arith) (omega arith) (groups (texts short then maybes (groups (fixed refl then go.ty))))

  pub con-bindings : (n : ℕ) → Paid p 16 0 (con_binds ws c n)
  unfolding con_binds indent_deeper bytes
  con-bindings n = either_way (ltb 1 n)
    where
      either_way : (b : Bool)
          → Paid p 16 0 (elim b as (λ b. Layout) [
            | true ↦ word " =\n" ⨾ indent_deeper c ⨾ items n (con_bind ws) (new_line c "| " ⨾ con_bind ws)
            | false ↦ word " = " ⨾ items n (con_bind ws) (word " | " ⨾ con_bind ws)
          ])
      either_way true =
          arm refl
          (fixed refl
          then (deepened c (omega arith) then at-depth (deeper c) (omega arith))
          then itemed (omega arith) (new-lines c (omega arith) (fixed refl) then con-binding) con-binding n)
      either_way false = arm refl (fixed refl then itemed (omega arith) (fixed refl then con-binding) con-binding n)

  -- ---- arguments of a functor's application
  app-argument : (which : ℕ) → Paid p 16 0 (app_arg ws c which)
  unfolding app_arg
  app-argument which = (arm refl (go.str_exp c (omega arith)) ▹ arm refl (dec-args short go low c h) ▹ no_more).at which

  pub app-arguments : (b : Bool) (n : ℕ) → Paid p 2 0 (app_args ws c b n)
  unfolding app_args bytes
  app-arguments b zero = whens (at-depth c (omega arith)) _ then fixed refl
  app-arguments b (suc n) = eased (omega arith) (omega arith) (choices (λ which. app-argument which then app-arguments (b || which == 1) n))
