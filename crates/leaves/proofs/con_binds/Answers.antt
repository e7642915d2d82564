use Rattle.std.proofs.Common.{◌≡◌, ℕ, zero, suc, ◌≤◌, ◌<◌, Bool, List, refl, subst, arith, lt-ltb, le-ltb}
use Rattle.std.specs.Prelude.{Result}
use Rattle.text.specs.Bytes.{bytes}
use Rattle.layout.specs.declared.Ink.{Ink}
use Rattle.layout.specs.declared.Stop.{Stop}
use Rattle.layout.specs.Layout.{Layout, ◌⨾◌, word}
use Rattle.layout.specs.Helpers.{Cfg, Walkers, items, times, new_line, indent_deeper}
use Rattle.layout.specs.Meaning.{Page}
use Rattle.layout.specs.DecOne.{con_bind, con_binds}
use Rattle.layout.specs.Promises.State.{Run, Walked}
use Rattle.layout.proofs.Steps.{then_word, then_sure}
use Rattle.leaves.proofs.con_binds.Goals as goal

-- What stands before a further item plays no part where there is none.
alone : (w x y : Layout) (n : ℕ) → n ≤ 1 → items n w x ≡ items n w y
unfolding items times
alone w x y zero h = refl
alone w x y (suc zero) h = refl
alone w x y (suc (suc n)) h = absurd (omega (arith, h))

module _ {p : Page} {keep : Bool} (ws : Walkers) (c : Cfg) {n : ℕ} {g : Run} {r : Result ℕ Stop} {i : Ink} {o : List ℕ} where
  few : n ≤ 1 → Walked keep p (word " = " ⨾ items n (con_bind ws) (new_line c "| " ⨾ con_bind ws)) g r i o → Walked keep p (con_binds ws c n) g r i o
  unfolding con_binds
  few h w = rw (le-ltb 1 n h, con_binds) (subst (λ x. Walked keep p (word " = " ⨾ x) g r i o) (alone (con_bind ws) _ _ n h) w)

  many : 1 < n → Walked keep p (word " =\n" ⨾ indent_deeper c ⨾ items n (con_bind ws) (new_line c "| " ⨾ con_bind ws)) g r i o
      → Walked keep p (con_binds ws c n) g r i o
  unfolding con_binds
  many h w = rw (lt-ltb 1 n h, con_binds) w

pub returns-then-n-le1 : goal.returns-then-n-le1
unfolding bytes
returns-then-n-le1 c =
    few _ _ c.if-n-le1.true (then_word c.put.ensures (cc) (c.items.ensures _ _ _ _ (λ o i o' i' e. e) (λ o i a r o' i' e. e)))

pub returns : goal.returns
unfolding bytes
returns c =
    many _ _ c.if-n-le1.false
    (then_word c.put-2.ensures (cc) (then_sure c.indent_deeper.ensures (c.items-2.ensures _ _ _ _ (λ o i o' i' e. e) (λ o i a r o' i' e. e))))
