-- Refusals 1 to 4 before document 02's Ticket 5: a byte of 128 or more is 2, and a token may end at every offset. All else is as in Reading.
use Rattle.std.specs.Prelude.{ℕ, List, true, false, ◌&&◌, length, leb, None, Some}
use Rattle.text.specs.WellFormed.{first_not_ascii}
use Rattle.reader.specs.Reading.{Read, refused, read_record, max_text, max_record}

unfoldable pub read_ascii : List ℕ → List ℕ → Read
read_ascii text rec =
    elim (leb (length text) max_text && leb (length rec) max_record) [
      | true ↦ elim (first_not_ascii 0 text) [ None ↦ read_record rec (λ i. true) (length text) | Some place ↦ refused 2 place ]
      | false ↦ refused 1 0
    ]
