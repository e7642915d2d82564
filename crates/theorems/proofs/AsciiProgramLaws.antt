-- Document 02, Ticket 5: on input whose text is ASCII the program prints what it did. Assumes nothing.
use Prim.Native.Nat.{ℕ, ◌+◌}
use mathlib.Core.Path.{◌≡◌, refl, ap, ap₂, ◌∙◌}
use mathlib.Core.Bool.{true, false}
use mathlib.Core.List.{List, [], ◌++◌}
use lib.Dec.{leb, eqb}
use lib.ListN.{length, take, drop, replicate}
use Rattle.text.specs.WellFormed.{Ascii}
use Rattle.formatter.specs.Verdict.{Verdict, verdict, no_measures, Judged, declined, accepted, judge, Result}
use Rattle.theorems.specs.Ascii.{judge_ascii}
use Rattle.theorems.proofs.AsciiLaws.{formatted-ascii, judge-ascii, page-ascii, get-ascii}
use Rattle.program.specs.Program.{line, room, text_of, line_of, printed, head_length, tab_size, text_length, format_input, program}
use Rattle.theorems.specs.AsciiProgram.{text_ascii, printed_ascii, format_ascii, program_ascii}

module _ (tab : ℕ) (text rec : List ℕ) (h : Ascii text) where
  text-ascii : text_of tab (judge text rec) ≡ text_ascii tab (judge_ascii text rec)
  unfolding text_of text_ascii
  text-ascii = go (judge text rec) refl ∙ ap (text_ascii tab) (judge-ascii text rec h)
    where
      go : (j : Judged) → judge text rec ≡ j → text_of tab (judge text rec) ≡ text_ascii tab (judge text rec)
      go (declined v) e = rw e refl
      go (accepted p es) e = rw e (formatted-ascii p (page-ascii text rec h e) tab es)

  printed-ascii : printed tab text rec ≡ printed_ascii tab text rec
  unfolding printed line_of printed_ascii
  printed-ascii =
      ap₂ (λ (v : Verdict) (t : List ℕ). line v ++ elim (eqb v.number 0) as (λ z. List ℕ) [ true ↦ t | false ↦ [] ])
      (ap (λ (r : Result). r.verdict) (get-ascii text rec h tab (replicate room 0)))
      text-ascii

pub program-ascii : (input : List ℕ) → Ascii (take (text_length input) (drop head_length input)) → program input ≡ program_ascii input
unfolding program format_input format_ascii program_ascii
program-ascii input h =
    ap (λ (t : List ℕ). elim (leb (head_length + text_length input) (length input)) as (λ z. List ℕ) [ true ↦ t | false ↦ line (verdict 1 0 no_measures) ])
    (printed-ascii (tab_size input) (take (text_length input) (drop head_length input)) (drop (text_length input) (drop head_length input)) h)
