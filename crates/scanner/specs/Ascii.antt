-- `scan` before document 02's Ticket 5: a byte of 128 or more is 2 wherever it stands. All else is as in Scan.
use Rattle.std.specs.Prelude.{ℕ, List, true, false, length, leb, None, Some}
use Rattle.text.specs.WellFormed.{first_not_ascii}
use Rattle.text.specs.Output.{Plain, plain, Reply, declined, fitted_plain}
use Rattle.reader.specs.Reading.{max_text}
use Rattle.scanner.specs.Scan.{Scanned, refused, tokens, scan_text, limited, commands}

unfoldable pub read_ascii : List ℕ → Scanned
read_ascii text =
    elim (leb (length text) max_text) [
      | true ↦ elim (first_not_ascii 0 text) [ None ↦ limited (scan_text text) | Some place ↦ refused 2 place ]
      | false ↦ refused 1 0
    ]

unfoldable pub scan_ascii : List ℕ → List ℕ → Reply Plain
scan_ascii text out =
    elim (read_ascii text) [
      | refused number place ↦ declined (plain number place) out
      | tokens ts ↦ fitted_plain (commands ts.kinds ts.lengths) out
    ]
