-- Laws of the answers as numbers: tokens in tables, the end of a field. Assumes nothing.
use Prim.Native.Nat.{ℕ, ◌+◌, ◌≤◌, ◌<◌}
use native.Mathlib.Omega.{arith}
use mathlib.Core.Path.{◌≡◌, refl, sym, ap, ap₂, ◌∙◌}
use mathlib.Core.List.{List, [], ◌∷◌, ◌++◌, map}
use lib.ListN.{length, get_or, set, take, drop, length-set}
use lib.Seq.{take_at, take_all}
use Rattle.std.specs.Prelude.{Result}
use Rattle.std.proofs.lemmas.List.{take_more, take_more_set, map_push}
use Rattle.reader.specs.declared.Refusal.{Refusal}
use Rattle.reader.specs.declared.tokens.Span.{Span}
use Rattle.reader.specs.Tokens.{Tokens, count_of, max_tokens}
use Rattle.reader.specs.Promises.Tokens.{starts_of, lengths_of}
use Rattle.reader.specs.Check.{Checked, ok, malformed, too_deep}
use Rattle.reader.specs.Promises.Tree.{told}
use Rattle.testing.specs.Numbers.{end_numbers, ended, start_of, length_of, Packs, table_in}

-- ---- the end of a field
pub ended-is : (x : Checked) {r : Result ℕ Refusal} → r ≡ told x → ended r ≡ end_numbers x
unfolding told
ended-is (ok at) e = ap ended e
ended-is (malformed place) e = ap ended e
ended-is (too_deep place) e = ap ended e

-- ---- tokens in tables
-- One more of what two tables hold.
module _ (f : ℕ → ℕ) (g : Span → ℕ) (spans : List Span) (table : List ℕ) (k n : ℕ) (d : Span) where
  one_more : k < length table → k < length spans → map f (take k table) ≡ map g (take k spans) → f n ≡ g (get_or spans k d)
      → map f (take (k + 1) (set table k n)) ≡ map g (take (k + 1) spans)
  one_more h l all e = rw (take_more_set table k n h, take_more spans k d l, map_push, map_push, all, e) refl

pub packs_none : {spans : List Span} {table : List ℕ} → length table ≡ 4096 → Packs spans 0 table
packs_none e = record { long = e; starts = refl; lengths = refl }

pub packs_more : {spans : List Span} {table : List ℕ} {k : ℕ} (n : ℕ) (d : Span) → Packs spans k table → length spans ≤ 4096 → k < length spans
    → (start_of n ≡ (get_or spans k d).start) × (length_of n ≡ (get_or spans k d).len) → Packs spans (k + 1) (set table k n)
packs_more {spans} {table} {k} n d p few h e =
    let l : k < length table = omega (arith, p.long) in
    record {
      long = length-set table k n ∙ p.long;
      starts = one_more start_of (λ s. s.start) spans table k n d l h p.starts e.0;
      lengths = one_more length_of (λ s. s.len) spans table k n d l h p.lengths e.1;
    }

pub tabled : {ts : Tokens} {spans : List Span} {kinds table : List ℕ} (rest : List ℕ) → length ts.kinds ≡ count_of ts → length spans ≡ count_of ts → starts_of spans ≡ ts.starts → lengths_of spans ≡ ts.lengths
    → kinds ≡ ts.kinds → Packs spans (length spans) table → table_in ts (kinds ++ rest) table ≡ ts
tabled {ts} {spans} {kinds} {table} rest k n s l e p =
    let whole : take (length spans) spans ≡ spans = take_all (length spans) spans (omega arith) in
    let a : take (count_of ts) (kinds ++ rest) ≡ ts.kinds = take_at kinds rest (count_of ts) (ap length e ∙ k) ∙ e in
    let b : map start_of (take (count_of ts) table) ≡ ts.starts = ap (λ i. map start_of (take i table)) (sym n) ∙ p.starts ∙ ap starts_of whole ∙ s in
    let d : map length_of (take (count_of ts) table) ≡ ts.lengths = ap (λ i. map length_of (take i table)) (sym n) ∙ p.lengths ∙ ap lengths_of whole ∙ l in
    tokens_same a b d
  where
    tokens_same : {x x' y y' z z' : List ℕ} → x ≡ x' → y ≡ y' → z ≡ z'
        → ◌≡◌ {A = Tokens} (record { kinds = x; starts = y; lengths = z }) (record { kinds = x'; starts = y'; lengths = z' })
    tokens_same u v w = rw (u, v, w) refl
