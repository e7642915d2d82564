-- `comments::Set::count` meets its contract: the words' ones are the tokens. Assumes nothing.
use mir.Syntax.{w64}
use mir.Val.{Fits}
use lib.Count.{ones}
use lib.ListN.{length, get_or}
use native.Mathlib.Omega.{arith}
use Prim.Native.Nat.{ℕ, ◌<◌, ◌^◌}
use mathlib.Core.Path.{◌≡◌, ◌∙◌}
use Rattle.std.proofs.lemmas.Iterator.{YieldsList-from_slice, YieldsList-from_map}
use Rattle.std.proofs.lemmas.Iterator.Consumers.{YieldsList-at, sum_by_from_yields_List, fits_by_from_yields_list}
use Rattle.comments.specs.Set.{holds, room}
use Rattle.comments.proofs.Words.{ones-all, count-le}
use borrow.Author.Rules.{rules}
use Rattle.comments.proofs.Set.count.Goals as goal

pub sum-requires-clause-fits : goal.sum-requires-clause-fits
sum-requires-clause-fits c =
    let fit : (w : ℕ) → get_or c.args.self.words w 0 < 2 ^ 64 = λ w. (let f : Fits w64 (get_or c.args.self.words w 0) = search rules in f.fits) in
    let long : length c.args.self.words ≡ 64 = search rules in
    fits_by_from_yields_list ones c.args.self.words _ _
    (YieldsList-from_map _ ones (YieldsList-at c.map.ensures.source (YieldsList-from_slice c.args.self.words (cc))) c.map.ensures.closure (λ x r q k. search rules))
    (omega (arith, ones-all c.args.self.words fit long, count-le (holds c.args.self.words) room 0))

pub returns : goal.returns
returns c =
    let fit : (w : ℕ) → get_or c.args.self.words w 0 < 2 ^ 64 = λ w. (let f : Fits w64 (get_or c.args.self.words w 0) = search rules in f.fits) in
    let long : length c.args.self.words ≡ 64 = search rules in
    sum_by_from_yields_List ones c.args.self.words _ _ c.sum.ensures.ran
    (YieldsList-from_map _ ones (YieldsList-at c.map.ensures.source (YieldsList-from_slice c.args.self.words (cc))) c.map.ensures.closure (λ x r q k. search rules))
    ∙ ones-all c.args.self.words fit long
