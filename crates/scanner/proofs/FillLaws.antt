-- Laws of the list of tokens: filled from the front, it holds what scanning the text gives. Assumes nothing.
use Prim.Native.Nat.{ℕ, ◌+◌, ◌≤◌, ◌<◌}
use native.Mathlib.Omega.{arith}
use native.Mathlib.Nat.{add-zero}
use mathlib.Core.Path.{◌≡◌, refl, sym, ap, ap₂, ◌∙◌}
use mathlib.Core.Bool.{Bool, true, false}
use mathlib.Core.List.{List, [], ◌∷◌, append_assoc}
use lib.ListN.{length, get_or, take, drop, length-append, length-drop, drop_of_length-le}
use lib.Seq.{drop-drop, get_or-drop}
use borrow.Author.Tests.{le-leb, lt-leb}
use Rattle.reader.specs.Tokens.{Tokens, count_of, no_tokens}
use Rattle.reader.proofs.TokenLaws.{joined, one, joined-none}
use Rattle.text.proofs.Laws.{never}
use Rattle.scanner.specs.Lexical.{longest, kind_of}
use Rattle.scanner.specs.Scan.{Scanned, refused, tokens, number_at, before, scan_from, scan_text, limited}
use Rattle.scanner.specs.Answers.{number_of, place_of}
use Rattle.scanner.specs.Promises.Answers.{scanned_in}
use Rattle.scanner.specs.declared.Refusal.{Refusal}
use Rattle.scanner.specs.declared.Refusal.TheVariants.{TooLong}
use Rattle.std.specs.Prelude.{Ok, Err}
use Rattle.scanner.proofs.ScanLaws.{scan-over, scan-none, scan-more}

-- Tokens in front of those that are still to come.
abbrev in_front : Tokens → Scanned → Scanned
in_front ts (refused number place) = refused number place
in_front ts (tokens us) = tokens (joined ts us)

front_none : (s : Scanned) → in_front no_tokens s ≡ s
front_none (refused number place) = refl
front_none (tokens us) = refl

front_one : (ts : Tokens) (kind start len : ℕ) (s : Scanned) → in_front ts (before kind start len s) ≡ in_front (joined ts (one kind start len)) s
unfolding before
front_one ts kind start len (refused number place) = refl
front_one ts kind start len (tokens us) = simp append_assoc

-- The list after some tokens, which reach up to the offset `at`, and whether it has them all.
pub record Filled (text : List ℕ) (ts : Tokens) (fit : Bool) (at : ℕ) : Type 0 where
  pub done : Tokens
  pub same : scan_text text ≡ in_front done (scan_from 0 at (drop at text))
  pub even : length done.kinds ≡ count_of done
  pub within : at ≤ length text
  pub few : count_of ts ≤ 4096
  pub held : fit ≡ true → ts ≡ done
  pub past : fit ≡ false → 4096 < count_of done

pub filled_none : (text : List ℕ) → Filled text no_tokens true 0
unfolding scan_text
filled_none text =
    record {
      done = no_tokens;
      same = sym (front_none (scan_from 0 0 text));
      even = refl;
      within = omega arith;
      few = omega arith;
      held = λ h. refl;
      past = λ h. never (cc);
    }

module _ {text : List ℕ} {ts : Tokens} {fit : Bool} {at : ℕ} (p : Filled text ts fit at) where
  -- A token of len bytes.
  module _ {kind len : ℕ} (h : 1 ≤ len) (e : longest (drop at text) ≡ len) (w : len ≤ length (drop at text)) (k : kind ≡ kind_of (take len (drop at text))) where
    abbrev more : Tokens
    more = joined p.done (one kind at len)

    more-same : scan_text text ≡ in_front more (scan_from 0 (at + len) (drop (at + len) text))
    more-same =
        p.same
        ∙ ap (in_front p.done)
        (scan-more at (drop at text) len h e
        ∙ ap₂ (λ (x : ℕ) (r : List ℕ). before x at len (scan_from 0 (at + len) r)) (sym k) (drop-drop len at text))
        ∙ front_one p.done kind at len (scan_from 0 (at + len) (drop (at + len) text))

    more-even : length more.kinds ≡ count_of more
    more-even = omega (arith, length-append p.done.kinds (kind ∷ []), length-append p.done.starts (at ∷ []), p.even)

    more-count : count_of more ≡ count_of p.done + 1
    more-count = length-append p.done.starts (at ∷ [])

    -- It is pushed.
    pub filled_more : count_of ts < 4096 → Filled text (joined ts (one kind at len)) fit (at + len)
    filled_more l =
        record {
          done = more;
          same = more-same;
          even = more-even;
          within = omega (arith, length-drop at text);
          few = omega (arith, length-append ts.starts (at ∷ []));
          held = λ f. ap (λ (us : Tokens). joined us (one kind at len)) (p.held f);
          past = λ f. omega (arith, more-count, p.past f);
        }

    -- There is no room for it.
    pub filled_past : 4096 ≤ count_of ts → Filled text ts false (at + len)
    filled_past l =
        record {
          done = more;
          same = more-same;
          even = more-even;
          within = omega (arith, length-drop at text);
          few = p.few;
          held = λ f. never (cc);
          past = λ f. full fit refl;
        }
      where
        full : (b : Bool) → fit ≡ b → 4096 < count_of more
        full true f = omega (arith, more-count, ap count_of (p.held f))
        full false f = omega (arith, more-count, p.past f)

  -- No token begins at the offset.
  pub filled_refused : (why : Refusal) → at < length text → longest (drop at text) ≡ 0 → (number_of why ≡ number_at (get_or text at 0)) × (place_of why ≡ at)
      → scanned_in (Err why) ts ≡ limited (scan_text text)
  unfolding limited
  filled_refused why h e w =
      let first : get_or (drop at text) 0 0 ≡ get_or text at 0 = get_or-drop at text 0 0 ∙ ap (λ (i : ℕ). get_or text i 0) (add-zero at) in
      let stop : scan_text text ≡ refused (number_at (get_or text at 0)) at =
      p.same
      ∙ ap (in_front p.done) (scan-none at (drop at text) (omega (arith, length-drop at text)) e ∙ ap (λ (b : ℕ). refused (number_at b) at) first) in
      ap₂ refused w.0 w.1 ∙ ap limited (sym stop)

  -- The text is at its end.
  module _ (h : length text ≤ at) where
    all : scan_text text ≡ tokens p.done
    all =
        p.same
        ∙ ap (λ (r : List ℕ). in_front p.done (scan_from 0 at r)) (drop_of_length-le text h)
        ∙ ap (in_front p.done) (scan-over at)
        ∙ ap tokens (joined-none p.done)

    pub filled_all : fit ≡ true → scanned_in (Ok tt) ts ≡ limited (scan_text text)
    unfolding limited
    filled_all f =
        let l : length p.done.kinds ≤ 4096 = omega (arith, p.even, p.few, ap count_of (p.held f)) in
        ap tokens (p.held f) ∙ sym (ap limited all ∙ rw (le-leb (length p.done.kinds) 4096 l, limited))

    pub filled_long : fit ≡ false → scanned_in (Err TooLong) ts ≡ limited (scan_text text)
    unfolding limited number_of place_of
    filled_long f =
        let l : 4096 < length p.done.kinds = omega (arith, p.even, p.past f) in
        sym (ap limited all ∙ rw (lt-leb (length p.done.kinds) 4096 l, limited))
