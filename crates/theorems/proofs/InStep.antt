-- The walk keeps step with the record, for every text and record. Each theorem stands under its sentence.
-- crates/agreement has the same of each form, of fields that any record holds.
use Prim.Native.Nat.{ℕ}
use mathlib.Core.Path.{◌≡◌, refl, subst}
use mathlib.Core.List.{List}
use lib.ListN.{length}
use Rattle.text.specs.Utf8.{boundary}
use Rattle.reader.specs.Tokens.{Tokens, tiled, tokens}
use Rattle.reader.specs.Reading.{Read, refused, sheet, read_tree, read_record, read}
use Rattle.reader.proofs.ReadingLaws.{read-cases}
use Rattle.layout.specs.Meaning.{Page, Event, done}
use Rattle.layout.specs.Walk.{walk}
use Rattle.agreement.specs.Agreement.{EndsAt}
use Rattle.agreement.specs.Unbounded as Unbounded
use Rattle.agreement.proofs.Knot as Knot
use Rattle.formatter.specs.Verdict.{judge}
use Rattle.formatter.specs.Promises.WalkFirst.{judge_walk_first}
use Rattle.formatter.proofs.WalkFirstLaws as WalkFirstLaws

abbrev pub page : List ℕ → List ℕ → Tokens → Page
page text rec ts = record { text = text; rec = rec; tokens = ts }

module _ (text rec : List ℕ) where
  abbrev AllEnd : Read → Type 0
  AllEnd (refused number place) = Unit {0}
  AllEnd (sheet ts tree) =
      EndsAt (page text rec ts) (length rec) (walk (page text rec ts) tree) × (Unbounded.walk (page text rec ts) tree ≡ walk (page text rec ts) tree)

  all_end : AllEnd (read text rec)
  all_end = read-cases AllEnd text rec (λ number place ne. tt) (λ ts tree end t c. (Knot.passes-walks (page text rec ts) tree end c, Knot.passes-free (page text rec ts) tree end c))

  module _ {ts : Tokens} {tree : ℕ} where
    -- On a record that passes the check the walk ends at the record's end, or stops at an absent field, at AppExp's empty path, or at an import.
    pub passes-walks : read text rec ≡ sheet ts tree → EndsAt (page text rec ts) (length rec) (walk (page text rec ts) tree)
    passes-walks e = let both : AllEnd (sheet ts tree) = subst AllEnd e all_end in both.0

    -- A walk that ends at the record's end has passed the check.
    pub walked-passes : {es : List Event} → tokens (boundary text) (length text) rec ≡ tiled ts tree → walk (page text rec ts) tree ≡ done (length rec) es
        → read_record rec (boundary text) (length text) ≡ sheet ts tree
    unfolding read_record read_tree
    walked-passes {es} t e = rw (t, read_record, Knot.walked-passes (page text rec ts) tree es e, read_tree) refl

    -- On a record that passes the check its bounds play no part: the walk is the same if it takes a token and a declaration's first token of
    -- any number, and looks through a dropped type with 200 forms.
    pub bounds-play-no-part : read text rec ≡ sheet ts tree → Unbounded.walk (page text rec ts) tree ≡ walk (page text rec ts) tree
    bounds-play-no-part e = let both : AllEnd (sheet ts tree) = subst AllEnd e all_end in both.1

  -- Judging by the walk first, and running the check only where it did not end at the record's end, is the same judgement.
  pub walk_first : judge text rec ≡ judge_walk_first text rec
  walk_first = WalkFirstLaws.walk_first text rec
