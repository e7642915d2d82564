-- Document 02, Ticket 5: on ASCII texts `scan` answers what it did. Assumes nothing.
use Prim.Native.Nat.{ℕ}
use mathlib.Core.Path.{◌≡◌, sym, ap, ◌∙◌}
use mathlib.Core.Bool.{true, false}
use mathlib.Core.List.{List}
use Rattle.std.specs.Prelude.{Option, None, Some}
use lib.Dec.{leb}
use lib.ListN.{length}
use Rattle.text.specs.WellFormed.{Ascii}
use Rattle.text.specs.Output.{Plain, plain, Reply, declined, fitted_plain}
use Rattle.text.proofs.Utf8Laws.{ascii_whole}
use Rattle.text.proofs.WellFormedLaws.{none_wide}
use Rattle.reader.specs.Reading.{max_text}
use Rattle.scanner.specs.Scan.{Scanned, refused, tokens, scan_text, limited, read, commands, scan}
use Rattle.scanner.specs.Ascii.{read_ascii, scan_ascii}

-- The refusal, or the tokens.
pub read-ascii : (text : List ℕ) → Ascii text → read text ≡ read_ascii text
unfolding read read_ascii
read-ascii text h =
    ap (λ (o : Option ℕ). elim (leb (length text) max_text) as (λ z. Scanned) [
      | true ↦ elim o as (λ z. Scanned) [ None ↦ limited (scan_text text) | Some place ↦ refused 2 place ]
      | false ↦ refused 1 0
    ])
    (ascii_whole text h ∙ sym (none_wide 0 text h))

-- Number, place, bytes written and final output.
pub scan-ascii : (text out : List ℕ) → Ascii text → scan text out ≡ scan_ascii text out
unfolding scan scan_ascii
scan-ascii text out h =
    ap (λ (r : Scanned). elim r as (λ z. Reply Plain) [
      | refused number place ↦ declined (plain number place) out
      | tokens ts ↦ fitted_plain (commands ts.kinds ts.lengths) out
    ])
    (read-ascii text h)
