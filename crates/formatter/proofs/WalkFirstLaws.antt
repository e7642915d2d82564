-- The walk before the record check, for every text and record. Assumes nothing.
use Prim.Native.Nat.{ℕ}
use mathlib.Core.Path.{◌≡◌, refl, ap, ◌∙◌, subst}
use mathlib.Core.Bool.{Bool, true, false, ◌&&◌}
use mathlib.Core.List.{List}
use Rattle.std.specs.Prelude.{Option, None, Some}
use lib.ListN.{length}
use lib.Dec.{leb, eqb}
use borrow.Author.Tests.{eqb-true, eqb-false}
use Rattle.text.specs.Utf8.{first_broken, boundary}
use Rattle.text.proofs.Laws.{never}
use Rattle.reader.specs.Tokens.{Tokens, count_of, Tiling, tiled, untiled, tokens}
use Rattle.reader.specs.Check.{Checked, ok, malformed, too_deep, tree_check}
use Rattle.reader.specs.Reading.{Read, refused, sheet, read_tree, read_record, read_text, read, max_text, max_record}
use Rattle.layout.specs.Meaning.{Page, Event, Outcome, done, stopped}
use Rattle.layout.specs.Walk.{walk}
use Rattle.agreement.specs.Agreement.{EndsAt}
use Rattle.agreement.proofs.Knot as Knot
use Rattle.formatter.specs.Verdict.{Judged, declined, verdict, no_measures, comments, stop_verdict, walked, judge}
use Rattle.formatter.specs.Promises.WalkFirst.{by_check, by_walk, record_first, text_first, judge_walk_first}

abbrev page : List ℕ → List ℕ → Tokens → Page
page text rec ts = record { text = text; rec = rec; tokens = ts }

-- ---- the record behind its tokens
module _ (text rec : List ℕ) (ts : Tokens) (tree : ℕ) where
  tree-ends : (end : ℕ) → tree_check rec (count_of ts) tree ≡ ok end → EndsAt (page text rec ts) (length rec) (walk (page text rec ts) tree)
  tree-ends end e = Knot.passes-walks (page text rec ts) tree end e

  tree-passes : (es : List Event) → walk (page text rec ts) tree ≡ done (length rec) es → tree_check rec (count_of ts) tree ≡ ok (length rec)
  tree-passes es e = Knot.walked-passes (page text rec ts) tree es e

-- ---- the walk before the check
abbrev judge_of : List ℕ → List ℕ → Read → Judged
judge_of text rec r = elim r [ refused number place ↦ declined (verdict number place no_measures) | sheet ts tree ↦ walked (page text rec ts) tree ]

module _ (text rec : List ℕ) (ts : Tokens) (tree : ℕ) where
  abbrev judged : Outcome → Judged
  judged o = elim o [ done end es ↦ comments (page text rec ts) es | stopped why es ↦ declined (stop_verdict why) ]

  abbrev tree-read : Checked → Read
  tree-read c = elim c [ ok end ↦ sheet ts tree | malformed place ↦ refused 3 place | too_deep place ↦ refused 4 place ]

  abbrev at-end : ℕ → List Event → Checked → Bool → Judged
  at-end end es c b = elim b [ true ↦ comments (page text rec ts) es | false ↦ by_check (verdict 3 end no_measures) c ]

  -- A walk that ends.
  end_is : (c : Checked) (next : ℕ) (es : List Event) (b : Bool) → eqb next (length rec) ≡ b → tree_check rec (count_of ts) tree ≡ c
      → walk (page text rec ts) tree ≡ done next es → judge_of text rec (tree-read c) ≡ at-end next es c b
  unfolding walked by_check
  end_is (ok end) next es true h e f = ap judged f
  end_is (ok end) next es false h e f =
      let m : next ≡ length rec = subst (λ (o : Outcome). EndsAt (page text rec ts) (length rec) o) f (tree-ends text rec ts tree end e) in
      absurd (eqb-false next (length rec) h m)
  end_is (malformed place) next es true h e f =
      let d = tree-passes text rec ts tree es (f ∙ ap (λ (n : ℕ). done n es) (eqb-true next (length rec) h)) in
      never (cc)
  end_is (malformed place) next es false h e f = refl
  end_is (too_deep place) next es true h e f =
      let d = tree-passes text rec ts tree es (f ∙ ap (λ (n : ℕ). done n es) (eqb-true next (length rec) h)) in
      never (cc)
  end_is (too_deep place) next es false h e f = refl

  tree_is : (c : Checked) (o : Outcome) → tree_check rec (count_of ts) tree ≡ c → walk (page text rec ts) tree ≡ o
      → judge_of text rec (tree-read c) ≡ elim o as (λ o. Judged) [ done end es ↦ at-end end es c (eqb end (length rec)) | stopped why es ↦ by_check (stop_verdict why) c ]
  unfolding walked by_check
  tree_is c (done next es) e f = end_is c next es (eqb next (length rec)) refl e f
  tree_is (ok end) (stopped why es) e f = ap judged f
  tree_is (malformed place) (stopped why es) e f = refl
  tree_is (too_deep place) (stopped why es) e f = refl

module _ (text rec : List ℕ) where
  record_is : (t : Tiling) → tokens (boundary text) (length text) rec ≡ t → judge_of text rec (read_record rec (boundary text) (length text)) ≡ record_first text rec
  unfolding read_record read_tree record_first by_walk
  record_is (tiled ts tree) e =
      rw (e, read_record, record_first, read_tree, by_walk) (tree_is text rec ts tree (tree_check rec (count_of ts) tree) (walk (page text rec ts) tree) refl refl)
  record_is (untiled place) e = rw (e, read_record, record_first) refl

  text-is : (o : Option ℕ) → first_broken text ≡ o → judge_of text rec (read_text text rec) ≡ text_first text rec
  unfolding read_text text_first
  text-is None e = rw (e, read_text, text_first) (record_is (tokens (boundary text) (length text) rec) refl)
  text-is (Some place) e = rw (e, read_text, text_first) refl

  lengths_are : (b : Bool) → (leb (length text) max_text && leb (length rec) max_record) ≡ b → judge_of text rec (read text rec) ≡ judge_walk_first text rec
  unfolding read judge_walk_first
  lengths_are true e = rw (e, read, judge_walk_first) (text-is (first_broken text) refl)
  lengths_are false e = rw (e, read, judge_walk_first) refl

  -- Judging by the walk first, and running the check only where it did not end at the record's end, is the same judgement.
  pub walk_first : judge text rec ≡ judge_walk_first text rec
  unfolding judge
  walk_first = lengths_are (leb (length text) max_text && leb (length rec) max_record) refl

  -- ---- by what is said of the lengths and the text
  pub judge-refused : {number place : ℕ} → read text rec ≡ refused number place → judge text rec ≡ declined (verdict number place no_measures)
  unfolding judge
  judge-refused e = ap (judge_of text rec) e

  pub judge-record : read text rec ≡ read_record rec (boundary text) (length text) → judge text rec ≡ record_first text rec
  unfolding judge
  judge-record e = ap (judge_of text rec) e ∙ record_is (tokens (boundary text) (length text) rec) refl
