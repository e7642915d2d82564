-- `text::is_space_triple` meets its contract. Assumes nothing.
use native.Mathlib.Omega.{arith}
use mathlib.Core.Path.{refl, sym, ◌∙◌}
use borrow.Author.Tests.{ne_eqb}
use Rattle.text.proofs.SpaceLaws.{triple-e1, triple-e2, triple-e3, triple-other}
use Rattle.text.proofs.is_space_triple.Goals as goal

pub returns-in-225-eq154 : goal.returns-in-225-eq154
returns-in-225-eq154 c = rw (c.in-225-eq154.is-0, c.in-225-eq154.is-1) (sym (triple-e1 _ _))

pub returns-in-226-eq129 : goal.returns-in-226-eq129
returns-in-226-eq129 c = rw (c.in-226-eq129.is-0, c.in-226-eq129.is-1) (sym (triple-e2 _ _ (λ e. omega (arith, e))))

pub returns-in-227-eq128 : goal.returns-in-227-eq128
returns-in-227-eq128 c = rw (c.in-227-eq128.is-0, c.in-227-eq128.is-1) (sym (triple-e3 _ _))

pub returns-in_default : goal.returns-in_default
returns-in_default c = rw c.in_default.is-0 (sym (triple-e1 _ _ ∙ rw (ne_eqb _ 0x9A c.in_default.is-1.1) refl))

pub returns-in_default-2 : goal.returns-in_default-2
returns-in_default-2 c = rw c.in_default.is-0 (sym (triple-e2 _ _ c.in_default.is-1.0.1 ∙ rw (ne_eqb _ 0x81 c.in_default.is-1.1) refl))

pub returns-in_default-3 : goal.returns-in_default-3
returns-in_default-3 c = rw c.in_default.is-0 (sym (triple-e3 _ _ ∙ rw (ne_eqb _ 0x80 c.in_default.is-1.1) refl))

pub returns-in_default-4 : goal.returns-in_default-4
returns-in_default-4 c = sym (triple-other _ _ _ c.in_default.is-0.0.0.1 c.in_default.is-0.0.1 c.in_default.is-0.1)
