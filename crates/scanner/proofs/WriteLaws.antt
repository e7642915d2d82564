-- Laws of the commands: written one by one, they stand in front of the rest of the output. Assumes nothing.
use Prim.Native.Nat.{ℕ, zero, suc, ◌+◌, ◌*◌, ◌/◌, ◌%◌, ◌≤◌, ◌<◌}
use native.Mathlib.Omega.{arith}
use native.Mathlib.Nat.{zero-add}
use native.Mathlib.Numerals.{add-one, add-two, add-three}
use mathlib.Core.Path.{◌≡◌, refl, sym, ap, ap₂, ◌∙◌}
use mathlib.Core.List.{List, [], ◌∷◌, ◌++◌}
use lib.ListN.{length, get_or, take, drop, set, length-append, length-drop, length-set}
use lib.Seq.{sets-eq, length-take-le, take_at, drop-append-add, drop-drop}
use Rattle.std.specs.List.{zip, enumerate_from}
use Rattle.std.proofs.lemmas.Grind.{get_or_default_zero}
use Rattle.std.proofs.lemmas.List.{get_or-map, length-map}
use Rattle.std.proofs.lemmas.List.FromFn.{length-enumerate_from, get_or-enumerate_from}
use Rattle.std.proofs.lemmas.Slice.Zip.{length-zip, get_or-zip}
use Rattle.reader.specs.declared.tokens.Span.{Span}
use Rattle.reader.specs.Promises.Tokens.{lengths_of}
use Rattle.scanner.specs.Scan.{command, commands}

-- As many commands as tokens, each of four bytes.
pub length-commands : (kinds lens : List ℕ) → length lens ≡ length kinds → length (commands kinds lens) ≡ 4 * length kinds
unfolding commands command
length-commands [] lens e = refl
length-commands (k ∷ kinds) [] e = absurd (omega arith)
length-commands (k ∷ kinds) (l ∷ lens) e = omega (arith, length-commands kinds lens (omega arith))

-- The commands of one more token.
commands-more : (kinds lens : List ℕ) (k : ℕ) → k < length kinds → k < length lens
    → commands (take (suc k) kinds) (take (suc k) lens) ≡ commands (take k kinds) (take k lens) ++ command (get_or kinds k 0) (get_or lens k 0)
unfolding commands command
commands-more [] lens k h l = absurd (omega arith)
commands-more (x ∷ kinds) [] k h l = absurd (omega arith)
commands-more (x ∷ kinds) (y ∷ lens) zero h l = refl
commands-more (x ∷ kinds) (y ∷ lens) (suc k) h l = ap (λ (r : List ℕ). command x y ++ r) (commands-more kinds lens k (omega arith) (omega arith))

-- Four bytes stored behind those that stand in front.
stored : (a o : List ℕ) (n w x y z : ℕ) → length a ≡ n → n + 4 ≤ length o
    → set (set (set (set (a ++ drop n o) n w) (n + 1) x) (n + 2) y) (n + 3) z ≡ (a ++ (w ∷ x ∷ y ∷ z ∷ [])) ++ drop (n + 4) o
stored a o n w x y z e h =
    rw (add-one, add-two, add-three)
    (sets-eq (w ∷ x ∷ y ∷ z ∷ []) (a ++ drop n o) n (omega (arith, length-append a (drop n o), length-drop n o))
    ∙ ap₂ (λ (f r : List ℕ). (f ++ (w ∷ x ∷ y ∷ z ∷ [])) ++ r) (take_at a (drop n o) n e)
    (ap (λ (m : ℕ). drop (m + 4) (a ++ drop n o)) (sym e) ∙ drop-append-add a (drop n o) 4 ∙ drop-drop 4 n o))

-- The output after k tokens.
pub record Wrote (kinds lens out : List ℕ) (k : ℕ) (out' : List ℕ) : Type 0 where
  pub within : k ≤ length kinds
  pub is : out' ≡ commands (take k kinds) (take k lens) ++ drop (4 * k) out
  pub same : length out' ≡ length out

pub wrote_none : (kinds lens out : List ℕ) → Wrote kinds lens out 0 out
unfolding commands
wrote_none kinds lens out = record { within = omega arith; is = refl; same = refl }

-- The lists are as long as each other.
module _ {kinds lens out out' : List ℕ} {k : ℕ} (p : Wrote kinds lens out k out') (e : length lens ≡ length kinds) where
  -- One more token.
  module _ (h : 4 * length kinds ≤ length out) (l : k < length kinds) where
    front : length (commands (take k kinds) (take k lens)) ≡ 4 * k
    front =
        let ks : length (take k kinds) ≡ k = length-take-le k kinds (omega arith) in
        let ls : length (take k lens) ≡ k = length-take-le k lens (omega arith) in
        length-commands (take k kinds) (take k lens) (ls ∙ sym ks) ∙ ap (λ (n : ℕ). 4 * n) ks

    pub wrote-more : Wrote kinds lens out (k + 1) (set (set (set (set out' (4 * k) 5) (4 * k + 1) (get_or kinds k 0)) (4 * k + 2) (get_or lens k 0 % 256)) (4 * k + 3) (get_or lens k 0 / 256))
    unfolding command
    wrote-more =
        let at = 4 * k in
        let kind = get_or kinds k 0 in
        let len = get_or lens k 0 in
        let end : at + 4 ≡ 4 * (k + 1) = omega arith in
        let more : commands (take (k + 1) kinds) (take (k + 1) lens) ≡ commands (take k kinds) (take k lens) ++ command kind len =
        rw add-one (commands-more kinds lens k l (omega arith)) in
        record {
          within = omega arith;
          is = ap (λ (o : List ℕ). set (set (set (set o at 5) (at + 1) kind) (at + 2) (len % 256)) (at + 3) (len / 256)) p.is
              ∙ stored (commands (take k kinds) (take k lens)) out at 5 kind (len % 256) (len / 256) front (omega arith)
              ∙ ap₂ (λ (f : List ℕ) (n : ℕ). f ++ drop n out) (sym more) end;
          same = simp length-set p.same;
        }

-- A turn of the loop over kinds and spans, each with its number: the commands of one more token.
module _ {kinds lens out out' : List ℕ} (spans : List Span) {n : ℕ} (p : Wrote kinds lens out n out') (s : lengths_of spans ≡ lens) (e : length spans ≡ length kinds) where
  abbrev numbered : List (ℕ × (ℕ × Span))
  numbered = enumerate_from 0 (zip kinds spans)

  module _ (h : 4 * length kinds ≤ length out) {k kind : ℕ} {span : Span} (t : (n < length numbered) × ((k, (kind, span)) ≡ get_or numbered n (k, (kind, span)))) where
    below : n < length kinds
    below = omega (arith, t.0, length-enumerate_from 0 (zip kinds spans), length-zip kinds spans, e)

    item : ◌≡◌ {A = ℕ × (ℕ × Span)} (k, (kind, span)) (n, (get_or kinds n kind, get_or spans n span))
    item =
        t.1
        ∙ get_or-enumerate_from 0 (zip kinds spans) n (k, (kind, span)) (omega (arith, length-zip kinds spans, e, below))
        ∙ ap (λ (m : ℕ). (m, get_or (zip kinds spans) n (kind, span))) (zero-add n)
        ∙ ap (λ (x : ℕ × Span). (n, x)) (get_or-zip kinds spans n (kind, span) below (omega (arith, e, below)))

    lens-long : length lens ≡ length kinds
    lens-long = ap length (sym s) ∙ length-map spans (λ (x : Span). x.len) ∙ e

    place : k ≡ n
    place = ap (λ (x : ℕ × (ℕ × Span)). x.0) item

    kind-is : kind ≡ get_or kinds n 0
    kind-is = ap (λ (x : ℕ × (ℕ × Span)). x.1.0) item ∙ get_or_default_zero kinds n kind below

    len-is : span.len ≡ get_or lens n 0
    len-is =
        ap (λ (x : ℕ × (ℕ × Span)). x.1.1.len) item
        ∙ sym (get_or-map (λ (x : Span). x.len) spans n span 0 (omega (arith, e, below)))
        ∙ ap (λ (l : List ℕ). get_or l n 0) s

    pub wrote-turn : {low high : ℕ} → low ≡ span.len % 256 → high ≡ span.len / 256
        → Wrote kinds lens out (n + 1) (set (set (set (set out' (4 * k) 5) (4 * k + 1) kind) (4 * k + 2) low) (4 * k + 3) high)
    wrote-turn f g = rw (f, g, place, kind-is, len-is) (wrote-more p lens-long h below)
