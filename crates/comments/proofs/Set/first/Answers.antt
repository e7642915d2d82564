-- `comments::Set::first` meets its contract: the words before the first that is not 0 have no token. Assumes nothing.
use mir.Syntax.{w64}
use mir.Val.{Fits}
use lib.ListN.{length, get_or}
use native.Mathlib.Omega.{arith}
use Prim.Native.Nat.{ℕ, ◌<◌, ◌^◌}
use mathlib.Core.Path.{◌≡◌, sym, ◌∙◌}
use Rattle.std.proofs.Common.{rules, tests}
use Rattle.std.proofs.lemmas.Iterator.{YieldsList-from_slice, IsFirst-from_position}
use Rattle.comments.proofs.Words.{first-word, first-nowhere}
use Rattle.comments.proofs.Set.first.Goals as goal

pub returns-in_err-w : goal.returns-in_err-w
returns-in_err-w c =
    let fit : (w : ℕ) → get_or c.args.self.words w 0 < 2 ^ 64 = λ w. (let f : Fits w64 (get_or c.args.self.words w 0) = search rules in f.fits) in
    let long : length c.args.self.words ≡ 64 = search rules in
    let all = rw c.in_err-w.was at (IsFirst-from_position _ _ c.position.result (λ x. x ≡ 0 → ⊥) (λ x. x ≡ 0) c.position.ensures.ran (YieldsList-from_slice c.args.self.words (cc)) (λ x q k. search (rules, tests)) (λ x q k. search (rules, tests))) in
    c.from_residual.ensures ∙ sym (first-nowhere c.args.self.words fit (λ k l. all k 0 (omega arith) (omega (arith, long))))

pub returns : goal.returns
returns c =
    let fit : (w : ℕ) → get_or c.args.self.words w 0 < 2 ^ 64 = λ w. (let f : Fits w64 (get_or c.args.self.words w 0) = search rules in f.fits) in
    let found = rw c.in_ok-w.was at (IsFirst-from_position _ _ c.position.result (λ x. x ≡ 0 → ⊥) (λ x. x ≡ 0) c.position.ensures.ran (YieldsList-from_slice c.args.self.words (cc)) (λ x q k. search (rules, tests)) (λ x q k. search (rules, tests))) in
    sym (first-word c.args.self.words fit c.in_ok-w.w (omega arith) (found.1 0) (λ k l. found.2 k 0 (omega arith) l))
