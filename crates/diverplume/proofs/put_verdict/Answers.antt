use Prim.Native.Nat.{ℕ}
use native.Mathlib.Omega.{arith}
use mathlib.Core.Path.{◌≡◌, refl, sym, ap, ◌∙◌}
use mathlib.Core.List.{List, [], ◌++◌, append-nil}
use lib.ListN.{length, take, drop, length-append, length-drop}
use lib.Seq.{paste, take_at, take_all}
use borrow.Author.Rules.{rules}
use Rattle.std.proofs.lemmas.List.{drop_all}
use Rattle.std.proofs.lemmas.Slice.{put_mid-paste}
use Rattle.diverplume.proofs.put_verdict.Goals as goal

-- The words behind the five numbers, to the end.
behind_five : (five post words : List ℕ) → length five ≡ 5 → length post ≡ 64 → length words ≡ 64 → paste (five ++ post) 5 words 64 ≡ five ++ words
behind_five five post words h k l =
    let a : take 5 (five ++ post) ≡ five = take_at five post 5 h in
    let b : take 64 words ≡ words = take_all 64 words (omega (arith, l)) in
    let d : drop 69 (five ++ post) ≡ [] = drop_all 69 (five ++ post) (omega (arith, length-append five post, h, k)) in
    rw (a, b, d) (append-nil (five ++ words))

pub returns : goal.returns
returns c =
    let long : length c.args.left.words ≡ 64 = search rules in
    let five : length c.format_numbers.result ≡ 5 = search rules in
    put_mid-paste 5 64 _ _ c.args.left.words 64 c.copy_from_slice-2.ensures.after refl (sym long)
    ∙ ap (λ x. paste (x ++ drop 5 c.args.verdict.now) 5 c.args.left.words 64) c.copy_from_slice.ensures.after
    ∙ behind_five c.format_numbers.result (drop 5 c.args.verdict.now) c.args.left.words five (omega (arith, length-drop 5 c.args.verdict.now, c.told-verdict)) long
    ∙ c.format_numbers.ensures c.args.left.words
