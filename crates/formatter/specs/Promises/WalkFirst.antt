-- The judgement with the walk before the record check, which is run only where the walk did not end at the record's end.
use Rattle.std.specs.Prelude.{ℕ, List, true, false, ◌&&◌, length, leb, eqb, None, Some}
use Rattle.text.specs.Utf8.{first_broken, boundary}
use Rattle.reader.specs.Tokens.{count_of, tiled, untiled, tokens}
use Rattle.reader.specs.Check.{Checked, ok, malformed, too_deep, tree_check}
use Rattle.reader.specs.Reading.{max_text, max_record}
use Rattle.layout.specs.Meaning.{Page, done, stopped}
use Rattle.layout.specs.Walk.{walk}
use Rattle.formatter.specs.Verdict.{Verdict, Judged, declined, verdict, no_measures, stop_verdict, comments}

abbrev refused : ℕ → ℕ → Judged
refused number place = declined (verdict number place no_measures)

-- 3 and 4; where the check passes, the verdict of the walk.
unfoldable pub by_check : Verdict → Checked → Judged
by_check v (ok end) = declined v
by_check v (malformed place) = refused 3 place
by_check v (too_deep place) = refused 4 place

-- 3, 4, 13, 14 and 6 of a page. A walk that ends at the record's end needs no check; one that ends elsewhere leaves bytes over.
unfoldable pub by_walk : Page → ℕ → Judged
by_walk p tree =
    elim (walk p tree) [
      | done end es ↦ elim (eqb end (length p.rec))
          [ true ↦ comments p es | false ↦ by_check (verdict 3 end no_measures) (tree_check p.rec (count_of p.tokens) tree) ]
      | stopped why es ↦ by_check (stop_verdict why) (tree_check p.rec (count_of p.tokens) tree)
    ]

module _ (text rec : List ℕ) where
  unfoldable pub record_first : Judged
  record_first =
      elim (tokens (boundary text) (length text) rec)
      [ tiled ts tree ↦ by_walk (record { text = text; rec = rec; tokens = ts }) tree | untiled place ↦ refused 3 place ]

  unfoldable pub text_first : Judged
  text_first = elim (first_broken text) [ None ↦ record_first | Some place ↦ refused 2 place ]

  -- 1 to 4, 13, 14 and 6.
  unfoldable pub judge_walk_first : Judged
  judge_walk_first = elim (leb (length text) max_text && leb (length rec) max_record) [ true ↦ text_first | false ↦ refused 1 0 ]
