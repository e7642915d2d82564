-- `comments::Set::without` meets its contract: the word of token k loses its bit, and a token past the words is in none. Assumes nothing.
use mir.Syntax.{w64}
use mir.Val.{Fits}
use lib.ListN.{length, get_or}
use Prim.Native.Nat.{ℕ, ◌<◌, ◌^◌}
use mathlib.Core.Path.{◌≡◌}
use Rattle.comments.proofs.Words.{words-struck, words-kept}
use borrow.Author.Rules.{rules}
use Rattle.comments.proofs.Set.without.Goals as goal

pub returns-then-w-lt64 : goal.returns-then-w-lt64
returns-then-w-lt64 c =
    let fit : (w : ℕ) → get_or c.args.self.words w 0 < 2 ^ 64 = λ w. (let f : Fits w64 (get_or c.args.self.words w 0) = search rules in f.fits) in
    let long : length c.args.self.words ≡ 64 = search rules in
    let at = c in words-struck _ long fit at.args.k _ c.if-w-lt64.true c.cleared.ensures

pub returns-else-w-lt64 : goal.returns-else-w-lt64
returns-else-w-lt64 c =
    let fit : (w : ℕ) → get_or c.args.self.words w 0 < 2 ^ 64 = λ w. (let f : Fits w64 (get_or c.args.self.words w 0) = search rules in f.fits) in
    let long : length c.args.self.words ≡ 64 = search rules in
    let at = c in words-kept _ long fit at.args.k c.if-w-lt64.false
