-- Laws of refusals 1 to 4.
use Prim.Native.Nat.{ℕ}
use mathlib.Core.Path.{◌≡◌, refl, sym, ◌∙◌, ap}
use mathlib.Core.List.{List}
use mathlib.Core.Bool.{Bool, true, false, ◌&&◌}
use Rattle.std.specs.Prelude.{Option, None, Some, Result, Ok, Err}
use native.Mathlib.Omega.{arith}
use lib.ListN.{length}
use lib.Dec.{leb}
use Rattle.text.specs.Utf8.{first_broken, boundary}
use Rattle.text.proofs.Laws.{never}
use Rattle.reader.specs.declared.Refusal.{Refusal}
use Rattle.reader.specs.declared.Refusal.TheVariants.{Malformed, TooDeep}
use Rattle.reader.specs.Tokens.{Tokens, count_of, Tiling, tiled, untiled, tokens}
use Rattle.reader.specs.Promises.Tokens.{Tiles}
use Rattle.reader.specs.Check as Check
use Rattle.reader.specs.Check.{tree_check}
use Rattle.reader.specs.Promises.Tree.{told}
use Rattle.reader.specs.Reading.{Read, refused, sheet, max_text, max_record, read_tree, read_record, read_text, read, number_of, place_of}
use Rattle.reader.specs.Promises.Reading.{read_in, RecordReads, Reads}

-- ---- 3 and 4
module _ {boundary : ℕ → Bool} {size : ℕ} {rec : List ℕ} {ts : Tokens} where
  pub record_untiled : {why : Refusal} → Tiles boundary size rec ts (Err why) → RecordReads boundary size rec ts (Err why)
  unfolding read_record
  record_untiled s = record { is = rw (s.is.1, s.is.2, read_record) }

  module _ {tree : ℕ} (s : Tiles boundary size rec ts (Ok tree)) where
    record_is : {t : Read} → t ≡ read_tree rec ts tree → t ≡ read_record rec boundary size
    unfolding read_record
    record_is e = rw (s.is, read_record) e

    tree_ok : {end : ℕ} (c : Check.Checked) → tree_check rec (count_of ts) tree ≡ c → Ok end ≡ told c → sheet ts tree ≡ read_tree rec ts tree
    unfolding read_tree told
    tree_ok (Check.ok at) e f = rw (e, read_tree)
    tree_ok (Check.malformed place) e f = never (cc)
    tree_ok (Check.too_deep place) e f = never (cc)

    tree_err : {why : Refusal} (c : Check.Checked) → tree_check rec (count_of ts) tree ≡ c → Err why ≡ told c
        → refused (number_of why) (place_of why) ≡ read_tree rec ts tree
    unfolding read_tree told
    tree_err (Check.ok at) e f = never (cc)
    tree_err {why} (Check.malformed place) e f = let w : why ≡ Malformed place = cc in rw (e, read_tree, w)
    tree_err {why} (Check.too_deep place) e f = let w : why ≡ TooDeep place = cc in rw (e, read_tree, w)

    pub record_ok : {end : ℕ} → Ok end ≡ told (tree_check rec (count_of ts) tree) → RecordReads boundary size rec ts (Ok tree)
    record_ok f = record { is = record_is (tree_ok (tree_check rec (count_of ts) tree) refl f) }

    pub record_err : {why : Refusal} → Err why ≡ told (tree_check rec (count_of ts) tree) → RecordReads boundary size rec ts (Err why)
    record_err f = record { is = record_is (tree_err (tree_check rec (count_of ts) tree) refl f) }

-- ---- 1 to 4
-- What an answer says of the sheet.
pub reading-says : {text rec : List ℕ} {ts : Tokens} {r x : Result ℕ Refusal} → Reads text rec ts r → r ≡ x → read text rec ≡ read_in x ts
reading-says {ts = ts} s e = sym s.is ∙ ap (λ (y : Result ℕ Refusal). read_in y ts) e

-- By cases: a refusal's number is not 0; a sheet's tokens are those of its record, and its tree passes the check.
module _ (P : Read → Type 0) (text rec : List ℕ) (refuses : (number place : ℕ) → (number ≡ 0 → ⊥) → P (refused number place))
    (reads : (ts : Tokens) (tree end : ℕ) → tokens (boundary text) (length text) rec ≡ tiled ts tree → tree_check rec (count_of ts) tree ≡ Check.ok end → P (sheet ts tree)) where
  tree-cases : (ts : Tokens) (tree : ℕ) → tokens (boundary text) (length text) rec ≡ tiled ts tree → (c : Check.Checked) → tree_check rec (count_of ts) tree ≡ c → P (read_tree rec ts tree)
  unfolding read_tree
  tree-cases ts tree t (Check.ok end) e = rw (e, read_tree) (reads ts tree end t e)
  tree-cases ts tree t (Check.malformed place) e = rw (e, read_tree) (refuses 3 place (λ z. omega (arith, z)))
  tree-cases ts tree t (Check.too_deep place) e = rw (e, read_tree) (refuses 4 place (λ z. omega (arith, z)))

  record-cases : (t : Tiling) → tokens (boundary text) (length text) rec ≡ t → P (read_record rec (boundary text) (length text))
  unfolding read_record
  record-cases (tiled ts tree) e = rw (e, read_record) (tree-cases ts tree e (tree_check rec (count_of ts) tree) refl)
  record-cases (untiled place) e = rw (e, read_record) (refuses 3 place (λ z. omega (arith, z)))

  text-cases : (o : Option ℕ) → first_broken text ≡ o → P (read_text text rec)
  unfolding read_text
  text-cases None e = rw (e, read_text) (record-cases (tokens (boundary text) (length text) rec) refl)
  text-cases (Some place) e = rw (e, read_text) (refuses 2 place (λ z. omega (arith, z)))

  length-cases : (b : Bool) → (leb (length text) max_text && leb (length rec) max_record) ≡ b → P (read text rec)
  unfolding read
  length-cases true e = rw (e, read) (text-cases (first_broken text) refl)
  length-cases false e = rw (e, read) (refuses 1 0 (λ z. omega (arith, z)))

  pub read-cases : P (read text rec)
  read-cases = length-cases (leb (length text) max_text && leb (length rec) max_record) refl
