-- What an accepted call says: the text has this list of tokens, and what was written reads back as it. Assumes nothing.
use Prim.Native.Nat.{ℕ, ◌≤◌, ◌<◌}
use native.Mathlib.Omega.{arith}
use mathlib.Core.Path.{◌≡◌, refl, sym, ap, subst, ◌∙◌}
use mathlib.Core.List.{List, ◌++◌}
use mathlib.Core.Bool.{Bool, true, false}
use Rattle.std.specs.Prelude.{Option, None, Some}
use lib.ListN.{length, get_or, take, drop}
use lib.Seq.{take_at}
use lib.Dec.{leb, eqb}
use borrow.Author.Tests.{leb-true}
use Rattle.text.specs.Utf8.{first_broken, boundary}
use Rattle.text.specs.Output.{Plain, plain, Reply, accepted}
use Rattle.text.proofs.OutputLaws.{fitted-cases}
use Rattle.reader.specs.Tokens.{Tokens, tiled}
use Rattle.reader.specs.Tokens as Reading
use Rattle.scanner.specs.Scan.{Scanned, refused, tokens, number_at, scan_text, limited, read, commands, scan}
use Rattle.scanner.specs.ListOf.{ListOf}
use Rattle.scanner.proofs.Lists.{list_of-scan, stops}
use Rattle.scanner.proofs.CallLaws.{scan-tokens, scan-declined}
use Rattle.scanner.proofs.ReadBack.{length_list, tokens-read}

-- ---- no refusal has number 0
number_positive : (b : ℕ) → 0 < number_at b
unfolding number_at
number_positive b = go (eqb b 40) (eqb b 34)
  where
    go : (s t : Bool) → 0 < elim s as (λ x. ℕ) [ true ↦ 10 | false ↦ elim t as (λ x. ℕ) [ true ↦ 11 | false ↦ 12 ] ]
    go true t = omega arith
    go false true = omega arith
    go false false = omega arith

-- Tokens within the limit, or a refusal.
module _ (text : List ℕ) where
  abbrev Known : Scanned → Type 0
  Known (refused number place) = 0 < number
  Known (tokens ts) = ListOf text ts × (length ts.kinds ≤ 4096)

  limited-known : (s : Scanned) → scan_text text ≡ s → Known (limited s)
  unfolding limited
  limited-known (refused number place) e = rw (stops e).byte (number_positive (get_or text place 0))
  limited-known (tokens ts) e = go (leb (length ts.kinds) 4096) refl
    where
      go : (t : Bool) → leb (length ts.kinds) 4096 ≡ t → Known (elim t as (λ x. Scanned) [ true ↦ tokens ts | false ↦ refused 1 0 ])
      go true l = (list_of-scan e, leb-true (length ts.kinds) 4096 l)
      go false l = omega arith

  read_known : Known (read text)
  unfolding read
  read_known = go (leb (length text) 32768) (first_broken text)
    where
      go : (t : Bool) (w : Option ℕ) → Known (elim t as (λ x. Scanned) [
        | true ↦ elim w as (λ x. Scanned) [ None ↦ limited (scan_text text) | Some place ↦ refused 2 place ]
        | false ↦ refused 1 0
      ])
      go true None = limited-known (scan_text text) refl
      go true (Some place) = omega arith
      go false w = omega arith

-- ---- the call
abbrev number_of : Reply Plain → ℕ
number_of r = r.verdict.number

-- What an accepted call says of a text and an output.
pub record Accepts (text out : List ℕ) : Type 0 where
  pub ts : Tokens
  pub list : ListOf text ts
  pub few : length ts.kinds ≤ 4096
  pub is : scan text out ≡ accepted (plain 0 0) (commands ts.kinds ts.lengths) out

pub accepts : (text out : List ℕ) → (scan text out).verdict.number ≡ 0 → Accepts text out
accepts text out e = go (read text) refl (read_known text)
  where
    go : (s : Scanned) → read text ≡ s → Known text s → Accepts text out
    go (refused number place) q k = absurd (omega (arith, k, ap number_of (scan-declined text out (sym q)) ∙ e))
    go (tokens ts) q k =
        let s = scan-tokens text out (sym q) in
        let bytes = commands ts.kinds ts.lengths in
        record {
          ts = ts;
          list = k.0;
          few = k.1;
          is = sym s
              ∙ fitted-cases (plain 0 0) (plain 8 0) bytes out (λ r. number_of r ≡ 0 → r ≡ accepted (plain 0 0) bytes out) (λ z. refl) (λ z. absurd (omega (arith, z))) (ap number_of s ∙ e);
        }

-- What was written, in front of a part of a record that does not start with a token, is read as the text's list of tokens.
pub reads_back : (text out : List ℕ) → (scan text out).verdict.number ≡ 0 → (tree : List ℕ) → (get_or tree 0 0 ≡ 5 → ⊥)
    → (ts : Tokens) × ListOf text ts × (Reading.tokens (boundary text) (length text) (take (scan text out).written (scan text out).out ++ tree) ≡ tiled ts (scan text out).written)
reads_back text out e tree other =
    let a = accepts text out e in
    let bytes = commands a.ts.kinds a.ts.lengths in (
      a.ts,
      a.list,
      rw a.is
          (ap (λ (b : List ℕ). Reading.tokens (boundary text) (length text) (b ++ tree)) (take_at bytes (drop (length bytes) out) (length bytes) refl)
          ∙ tokens-read a.list a.few tree other
          ∙ ap (tiled a.ts) (sym (length_list a.list))),
    )

-- A declined call writes nothing.
pub untouched : (text out : List ℕ) → ((scan text out).verdict.number ≡ 0 → ⊥) → ((scan text out).written ≡ 0) × ((scan text out).out ≡ out)
untouched text out e = go (read text) refl
  where
    Untouched : Reply Plain → Type 0
    Untouched r = (number_of r ≡ 0 → ⊥) → (r.written ≡ 0) × (r.out ≡ out)

    go : (s : Scanned) → read text ≡ s → ((scan text out).written ≡ 0) × ((scan text out).out ≡ out)
    go (refused number place) q = subst Untouched (scan-declined text out (sym q)) (λ z. (refl, refl)) e
    go (tokens ts) q =
        subst Untouched (scan-tokens text out (sym q))
        (fitted-cases (plain 0 0) (plain 8 0) (commands ts.kinds ts.lengths) out Untouched (λ z. absurd (z refl)) (λ z. (refl, refl))) e
