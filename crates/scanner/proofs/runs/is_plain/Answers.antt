-- `is_plain` meets its contract. Assumes nothing.
use mathlib.Core.Path.{refl, sym}
use mathlib.Core.Bool.{not}
use mathlib.Core.Logic.{inl, inr}
use mathlib.Core.List.{[], ◌∷◌}
use types.Run.{OneOf}
use borrow.Author.Rules.{rules}
use borrow.Author.Tests.{not-true, ne_eqb, le-leb, lt-leb}
use Rattle.text.specs.Bytes.{between}
use Rattle.scanner.specs.Parts.{every}
use Rattle.scanner.specs.Promises.Reach.{is_plain}
use Rattle.scanner.proofs.Bytes.{among_keys}
use Rattle.scanner.proofs.runs.is_plain.Goals as goal

pub returns-in-34 : goal.returns-in-34
unfolding is_plain every between
returns-in-34 c = sym (not-true _ (among_keys (34 ∷ 92 ∷ []) (λ b. not (is_plain b)) _ refl c.in-34.is))

pub returns-then-b-ge32 : goal.returns-then-b-ge32
unfolding is_plain between
returns-then-b-ge32 c =
    let h : OneOf (34 ∷ 92 ∷ []) c.args.b → ⊥ = search rules in
    rw (is_plain, ne_eqb c.args.b 34 (λ e. h (inl e)), ne_eqb c.args.b 92 (λ e. h (inr e)), le-leb 32 _ c.if-b-ge32.true) refl

pub returns-else-b-ge32 : goal.returns-else-b-ge32
unfolding is_plain between
returns-else-b-ge32 c =
    let h : OneOf (34 ∷ 92 ∷ []) c.args.b → ⊥ = search rules in
    rw (is_plain, ne_eqb c.args.b 34 (λ e. h (inl e)), ne_eqb c.args.b 92 (λ e. h (inr e)), lt-leb 32 _ c.if-b-ge32.false) refl
