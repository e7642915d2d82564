-- The program before document 02's Ticket 5, when a text was ASCII: by `get_ascii` and `formatted_ascii`. All else is as in Program.
use Rattle.std.specs.Prelude.{ℕ, ◌+◌, List, [], ◌++◌, true, false, length, take, drop, replicate, leb, eqb}
use Rattle.formatter.specs.Verdict.{Judged, declined, accepted, no_measures, verdict}
use Rattle.theorems.specs.Ascii.{formatted_ascii, judge_ascii, get_ascii}
use Rattle.program.specs.Program.{line, room, head_length, tab_size, text_length}

unfoldable pub text_ascii : ℕ → Judged → List ℕ
text_ascii tab (declined v) = []
text_ascii tab (accepted p es) = formatted_ascii p tab es

unfoldable pub printed_ascii : ℕ → List ℕ → List ℕ → List ℕ
printed_ascii tab text rec =
    line (get_ascii text rec tab (replicate room 0)).verdict
    ++ elim (eqb (get_ascii text rec tab (replicate room 0)).verdict.number 0) [ true ↦ text_ascii tab (judge_ascii text rec) | false ↦ [] ]

unfoldable pub format_ascii : ℕ → ℕ → List ℕ → List ℕ
format_ascii tab n rest = printed_ascii tab (take n rest) (drop n rest)

unfoldable pub program_ascii : List ℕ → List ℕ
program_ascii input =
    elim (leb (head_length + text_length input) (length input))
    [ true ↦ format_ascii (tab_size input) (text_length input) (drop head_length input) | false ↦ line (verdict 1 0 no_measures) ]
