-- Document 02, Ticket 5: on ASCII texts `check`, `get` and `comment_above` answer what they did. Assumes nothing.
use Prim.Native.Nat.{ℕ, ◌+◌, ◌*◌}
use mathlib.Core.Path.{◌≡◌, refl, sym, ap, ap₂, ◌∙◌}
use mathlib.Core.Bool.{true, false}
use Rattle.std.specs.Prelude.{None}
use mathlib.Core.List.{List, [], ◌∷◌, ◌++◌}
use lib.Dec.{leb, ltb}
use lib.ListN.{length, get_or, drop}
use Rattle.text.specs.WellFormed.{Ascii}
use Rattle.text.proofs.WellFormedLaws.{trim-narrow, ascii_drop, ascii_take}
use Rattle.reader.specs.Tokens.{text_of}
use Rattle.reader.specs.Reading.{Read, refused, sheet}
use Rattle.reader.proofs.AsciiLaws.{read-ascii}
use Rattle.comments.specs.Above.{found_above}
use Rattle.layout.specs.Meaning.{Page, Event, Word, Token, Comment, Formed, Indent, token_text}
use Rattle.layout.specs.Events.{sum_of, letters_of, deepest, units, trimmed, letters, spelt, formatted}
use Rattle.formatter.specs.declared.Measures.{Measures}
use Rattle.formatter.specs.Verdict.{verdict, no_measures, measures_of, Judged, declined, accepted, walked, judge, check, Result, max_width, put, format, get}
use Rattle.formatter.specs.Lookup.{Looked, looked, Asked, asked, ask, told, lookup}
use Rattle.formatter.specs.Lookup as Lookup
use Rattle.theorems.specs.Ascii.{trimmed_ascii, letters_ascii, spelt_ascii, formatted_ascii, measures_ascii, judge_ascii, check_ascii, format_ascii, get_ascii, ask_ascii, lookup_ascii}
use Rattle.formatter.proofs.VerdictLaws.{accepted-is, check-declined, check-accepted, get-declined, get-accepted}

-- ---- what is read off events
module _ (p : Page) (h : Ascii p.text) where
  token-ascii : (k : ℕ) → Ascii (token_text p k)
  unfolding token_text text_of
  token-ascii k =
      ascii_take (get_or p.tokens.lengths k 0) (drop (get_or p.tokens.starts k 0) p.text)
      (ascii_drop (get_or p.tokens.starts k 0) p.text h)

  trimmed-ascii : (k : ℕ) → trimmed p k ≡ trimmed_ascii p k
  unfolding trimmed trimmed_ascii
  trimmed-ascii k = trim-narrow (token_text p k) (token-ascii k)

  event-ascii : (e : Event) → letters_of (λ k. length (token_text p k)) (λ k. length (trimmed p k)) e ≡ letters_of (λ k. length (token_text p k)) (λ k. length (trimmed_ascii p k)) e
  unfolding letters_of
  event-ascii (Word w) = refl
  event-ascii (Token k) = refl
  event-ascii (Comment k) = ap length (trimmed-ascii k)
  event-ascii (Formed depth) = refl
  event-ascii (Indent depth) = refl

  letters-ascii : (es : List Event) → letters p es ≡ letters_ascii p es
  unfolding letters letters_ascii sum_of
  letters-ascii [] = refl
  letters-ascii (e ∷ es) = ap₂ (λ (a b : ℕ). a + b) (event-ascii e) (letters-ascii es)

  spelt-ascii : (tab : ℕ) (e : Event) → spelt p tab e ≡ spelt_ascii p tab e
  unfolding spelt spelt_ascii
  spelt-ascii tab (Word w) = refl
  spelt-ascii tab (Token k) = refl
  spelt-ascii tab (Comment k) = trimmed-ascii k
  spelt-ascii tab (Formed depth) = refl
  spelt-ascii tab (Indent depth) = refl

  pub formatted-ascii : (tab : ℕ) (es : List Event) → formatted p tab es ≡ formatted_ascii p tab es
  unfolding formatted formatted_ascii
  formatted-ascii tab [] = refl
  formatted-ascii tab (e ∷ es) = ap₂ (λ (a b : List ℕ). a ++ b) (spelt-ascii tab e) (formatted-ascii tab es)

  measures-ascii : (es : List Event) → measures_of p es ≡ measures_ascii p es
  unfolding measures_of measures_ascii
  measures-ascii es = ap (λ (n : ℕ). record { deepest = deepest es; letters = n; units = units es }) (letters-ascii es)

  format-ascii : (tab : ℕ) (es : List Event) (out : List ℕ) → format tab p es out ≡ format_ascii tab p es out
  unfolding format format_ascii
  format-ascii tab es out =
      ap₂ (λ (m : Measures) (t : List ℕ). elim (leb (deepest es * tab) max_width) as (λ z. Result) [
        | true ↦ put m t out
        | false ↦ record { verdict = verdict 7 0 m; out = out }
      ])
      (measures-ascii es)
      (formatted-ascii tab es)

module _ (text rec : List ℕ) (h : Ascii text) where
  -- ---- 1 to 6
  pub judge-ascii : judge text rec ≡ judge_ascii text rec
  unfolding judge judge_ascii
  judge-ascii =
      ap (λ (r : Read). elim r as (λ z. Judged) [
        | refused number place ↦ declined (verdict number place no_measures)
        | sheet tokens tree ↦ walked (record { text = text; rec = rec; tokens = tokens }) tree
      ])
      (read-ascii text rec h)

  -- The page of a sheet that is accepted has its text.
  pub page-ascii : {p : Page} {es : List Event} → judge text rec ≡ accepted p es → Ascii p.text
  page-ascii {p} {es} e = rw (ap (λ (q : Page). q.text) ((accepted-is text rec p es).0 e).page) h

  -- Number, place, measures and the comments left.
  pub check-ascii : check text rec ≡ check_ascii text rec
  unfolding check_ascii
  check-ascii = go (judge text rec) refl
    where
      go : (j : Judged) → judge text rec ≡ j → check text rec ≡ check_ascii text rec
      go (declined v) e = check-declined text rec e ∙ sym (rw (check_ascii, ← judge-ascii, e))
      go (accepted p es) e =
          check-accepted text rec e
          ∙ ap (λ (m : Measures). verdict 0 0 m) (measures-ascii p (page-ascii e) es)
          ∙ sym (rw (check_ascii, ← judge-ascii, e))

  -- The same and the final output.
  pub get-ascii : (tab : ℕ) (out : List ℕ) → get text rec tab out ≡ get_ascii text rec tab out
  unfolding get_ascii
  get-ascii tab out = go (judge text rec) refl
    where
      go : (j : Judged) → judge text rec ≡ j → get text rec tab out ≡ get_ascii text rec tab out
      go (declined v) e = get-declined text rec e tab out ∙ sym (rw (get_ascii, ← judge-ascii, e))
      go (accepted p es) e =
          get-accepted text rec e tab out ∙ format-ascii p (page-ascii e) tab es out ∙ sym (rw (get_ascii, ← judge-ascii, e))

  -- ---- the lookups
  module _ (token : ℕ) where
    -- 1 to 4, then 9; or the tokens.
    pub ask-ascii : ask text rec token ≡ ask_ascii text rec token
    unfolding ask ask_ascii
    ask-ascii =
        ap (λ (r : Read). elim r as (λ z. Asked) [
          | refused number place ↦ Lookup.declined (looked number place None)
          | sheet tokens tree ↦ elim (ltb token (length tokens.kinds)) as (λ z. Asked)
              [ true ↦ asked tokens | false ↦ Lookup.declined (looked 9 0 None) ]
        ])
        (read-ascii text rec h)

    -- Number, place, comment and keyword.
    pub lookup-ascii : lookup text rec token ≡ lookup_ascii text rec token
    unfolding lookup lookup_ascii
    lookup-ascii =
        ap (λ (a : Asked). elim a as (λ z. Looked) [ Lookup.declined l ↦ l | asked tokens ↦ told (found_above tokens.kinds token) ]) ask-ascii
