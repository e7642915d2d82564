-- Laws of the program's input: its head, its answer, a length that suffices. Assumes nothing.
use Prim.Native.Nat.{ℕ, ◌+◌, ◌*◌, ◌-◌, ◌≤◌, ◌<◌}
use native.Mathlib.Omega.{arith}
use mathlib.Core.Path.{◌≡◌, refl, sym, ap, ◌∙◌, subst}
use mathlib.Core.Bool.{Bool, true, false, ◌&&◌}
use mathlib.Core.List.{List, [], ◌++◌, append-nil}
use lib.ListN.{length, take, drop, replicate, length-drop, length-replicate}
use lib.Seq.{take_all, take_at, length-take-le}
use lib.Dec.{leb, eqb}
use borrow.Author.Tests.{le-leb, lt-leb, leb-true, leb-false, eqb-true, ne_eqb}
use Rattle.reader.specs.Reading.{read, refused, max_text, max_record}
use Rattle.layout.specs.Events.{letters, units, formatted}
use Rattle.std.specs.Prelude.{Ok, Err}
use Rattle.formatter.specs.declared.Measures.{Measures}
use Rattle.formatter.specs.Verdict.{Result, verdict, no_measures, measures_of, declined, judge, get, verdict_of}
use Rattle.layout.proofs.Exact.{length_formatted}
use Rattle.formatter.proofs.VerdictLaws.{get-declined, get-accepted, format-fits, get-accepts}
use Rattle.program.specs.Program.{line, text_of, line_of, printed, room, head_length, tab_size, text_length, format_input, program}
use Rattle.program.specs.Promises.Printing.{Answer, said_with, shown, TextWithin}

-- ---- the head
-- A part that ends where the whole does.
pub to_the_end : (head : ℕ) (s : List ℕ) → take (length s - head) (drop head s) ≡ drop head s
to_the_end head s = take_all (length s - head) (drop head s) (omega (arith, length-drop head s))

-- ---- what is printed

-- The line of input that is shorter than it says, or past the limits.
abbrev refusal : List ℕ
refusal = line (verdict 1 0 no_measures)

abbrev text_in : List ℕ → List ℕ
text_in input = take (text_length input) (drop head_length input)

abbrev record_in : List ℕ → List ℕ
record_in input = drop (text_length input) (drop head_length input)

module _ (input : List ℕ) where
  pub short-prints : length input < head_length + text_length input → program input ≡ refusal
  unfolding program
  short-prints h = rw (program, lt-leb _ _ h)

  module _ (whole : head_length + text_length input ≤ length input) where
    whole-prints : program input ≡ printed (tab_size input) (text_in input) (record_in input)
    unfolding program format_input
    whole-prints = rw (program, le-leb _ _ whole)

-- An input that is as long as it says: tab size, text length, text, record.
pub record Split (input : List ℕ) (tab n : ℕ) (text rec : List ℕ) : Type 0 where
  pub tabs : tab ≡ tab_size input
  pub size : n ≡ text_length input
  pub front : text ≡ take n (drop head_length input)
  pub back : rec ≡ drop n (drop head_length input)
  pub whole : head_length + n ≤ length input

split_prints : {input text rec : List ℕ} {tab n : ℕ} → Split input tab n text rec → printed tab text rec ≡ printed (tab_size input) (text_in input) (record_in input)
split_prints s = cc

-- The text that formatting leaves in the output's first bytes is the formatted text.
module _ (text rec : List ℕ) (tab : ℕ) where
  abbrev given : Result
  given = get text rec tab (replicate room 0)

  text-is : given.verdict.number ≡ 0 → take (given.verdict.measures.letters + tab * given.verdict.measures.units) given.out ≡ text_of tab (judge text rec)
  unfolding text_of measures_of
  text-is z =
      let f = (get-accepts text rec tab (replicate room 0)).0 z in
      let g = get-accepted text rec f.accepts tab (replicate room 0) ∙ format-fits tab f.page f.events (replicate room 0) f.width f.room in
      ap (λ (r : Result). take (r.verdict.measures.letters + tab * r.verdict.measures.units) r.out) g
      ∙ take_at (formatted f.page tab f.events) _ (letters f.page f.events + tab * units f.events) (length_formatted f.page tab f.events)
      ∙ sym (ap (text_of tab) f.accepts)

  shown-is : shown tab given ≡ printed tab text rec
  unfolding shown printed line_of
  shown-is = go (eqb given.verdict.number 0) refl
    where
      go : (b : Bool) → eqb given.verdict.number 0 ≡ b
          → ◌≡◌ {A = List ℕ}
          (line given.verdict ++ elim b [ true ↦ take (given.verdict.measures.letters + tab * given.verdict.measures.units) given.out | false ↦ [] ])
          (line given.verdict ++ elim b [ true ↦ text_of tab (judge text rec) | false ↦ [] ])
      go true e = ap (λ (l : List ℕ). line given.verdict ++ l) (text-is (eqb-true _ _ e))
      go false e = refl

  -- "touches the output only when it accepts" (demand 1): of a refusal the line alone is printed.
  pub refusal-prints : (given.verdict.number ≡ 0 → ⊥) → printed tab text rec ≡ line_of tab text rec
  unfolding printed
  refusal-prints ne = rw (printed, ne_eqb given.verdict.number 0 ne) (append-nil (line_of tab text rec))

-- The set is not printed.
shown_without : (tab : ℕ) (a : Answer) (words page : List ℕ) → shown tab (said_with a page) ≡ shown tab (record { verdict = verdict_of a words; out = page })
unfolding shown line
shown_without tab (Ok m) words page = refl
shown_without tab (Err why) words page = refl

-- An answer and an output that say what `get` says of the text and the record.
module _ (text rec : List ℕ) (tab : ℕ) where
  abbrev Says : Answer → List ℕ → List ℕ → Type 0
  Says a words page = ◌≡◌ {A = Result} (record { verdict = verdict_of a words; out = page }) (get text rec tab (replicate room 0))

  within : (m : Measures) (words page : List ℕ) → Says (Ok m) words page → length page ≡ room → m.letters + tab * m.units ≤ length page
  unfolding measures_of
  within m words page is l =
      let f = (get-accepts text rec tab (replicate room 0)).0 (ap (λ r. r.verdict.number) (sym is)) in
      let e = is ∙ get-accepted text rec f.accepts tab (replicate room 0) ∙ format-fits tab f.page f.events (replicate room 0) f.width f.room in
      omega (
        arith,
        f.room,
        ap (λ r. r.verdict.measures.letters) e,
        ap (λ r. tab * r.verdict.measures.units) e,
        length-replicate {A = ℕ} room 0,
      )

  module _ (a : Answer) (words page : List ℕ) (is : Says a words page) where
    pub answer-prints : {input : List ℕ} {n : ℕ} → Split input tab n text rec → shown tab (said_with a page) ≡ program input
    answer-prints {input} s =
        shown_without tab a words page
        ∙ ap (shown tab) is
        ∙ shown-is text rec tab
        ∙ split_prints s
        ∙ sym (whole-prints input (omega (arith, s.size, s.whole)))

    pub answer-within : length page ≡ room → TextWithin tab a page
    answer-within l m h = within m words page (subst (λ x. Says x words page) h is) l

-- ---- a length that suffices

-- A text or a record past the limits: number 1, and the output as it was.
module _ (text rec : List ℕ) where
  too_long : leb (length text) max_text && leb (length rec) max_record ≡ false → judge text rec ≡ declined (verdict 1 0 no_measures)
  unfolding judge read
  too_long e = let r : read text rec ≡ refused 1 0 = rw (read, e) in rw (judge, r)

  long-prints : (tab : ℕ) → leb (length text) max_text && leb (length rec) max_record ≡ false → printed tab text rec ≡ refusal
  unfolding printed line_of
  long-prints tab e = rw (get-declined text rec (too_long e) tab (replicate room 0)) (append-nil refusal)

-- The longest input within the limits, and a byte more.
abbrev pub input_room : ℕ
input_room = head_length + max_text + max_record + 1

past_limits : (input : List ℕ) → input_room ≤ length input → program input ≡ refusal
past_limits input h = go (leb (head_length + text_length input) (length input)) refl
  where
    over : head_length + text_length input ≤ length input → (t : Bool) → leb (length (text_in input)) max_text ≡ t → leb (length (text_in input)) max_text && leb (length (record_in input)) max_record ≡ false
    over w true e =
        let r : length (drop head_length input) ≡ length input - head_length = length-drop head_length input in
        let t : length (text_in input) ≡ text_length input = length-take-le (text_length input) (drop head_length input) (omega arith) in
        let l : length (record_in input) ≡ length (drop head_length input) - text_length input = length-drop (text_length input) (drop head_length input) in
        rw e (lt-leb (length (record_in input)) max_record (omega (arith, leb-true (length (text_in input)) max_text e)))
    over w false e = rw e

    go : (t : Bool) → leb (head_length + text_length input) (length input) ≡ t → program input ≡ refusal
    go true e = let w = leb-true _ _ e in whole-prints input w ∙ long-prints (text_in input) (record_in input) (tab_size input) (over w _ refl)
    go false e = short-prints input (leb-false _ _ e)

-- Input past `input_room` bytes need not be read.
pub first_bytes_suffice : (input : List ℕ) → program (take input_room input) ≡ program input
first_bytes_suffice input = go (leb input_room (length input)) refl
  where
    go : (t : Bool) → leb input_room (length input) ≡ t → program (take input_room input) ≡ program input
    go true e =
        let h = leb-true _ _ e in
        past_limits (take input_room input) (omega (arith, length-take-le input_room input h)) ∙ sym (past_limits input h)
    go false e = ap program (take_all input_room input (omega (arith, leb-false input_room (length input) e)))
