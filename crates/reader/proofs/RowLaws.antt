-- Laws of the commands that a record starts with: laid out at once, they are the definition's tokens where they fit.
use Prim.Native.Nat.{ℕ, zero, suc, ◌+◌, ◌*◌, ◌%◌, ◌≤◌, ◌<◌}
use mathlib.Core.Path.{◌≡◌, refl, sym, ◌∙◌, ap}
use mathlib.Core.List.{List, [], ◌∷◌, ◌++◌, map}
use mathlib.Core.Bool.{Bool, true, false}
use native.Mathlib.Omega.{arith}
use native.Mathlib.Numerals.{add-one}
use lib.ListN.{length, get_or, take, drop, length-map, length-append, length-drop, get_or-map}
use lib.Seq.{length-take-le}
use lib.Dec.{leb, ltb}
use borrow.Author.Count.{below_more}
use borrow.Author.Tests.{le-leb, leb-true, leb-false, ltb-true, ltb-false, eq-eqb}
use Rattle.std.specs.Prelude.{Some, Ok, All}
use Rattle.std.proofs.lemmas.List.Elements.{All-from_get_or}
use Rattle.std.proofs.lemmas.List.{get_or_append_left, get_or_push, get_or-drop, length_push, take_more, take_all, drop_at, drop-drop}
use Rattle.reader.specs.Commands.{u16, command}
use Rattle.reader.specs.declared.tokens.Span.{Span}
use Rattle.reader.specs.Tokens.{Tokens, count_of, no_tokens}
use Rattle.reader.specs.Promises.Tokens.{starts_of, lengths_of, next_at, Tiles, lengths_to, Laid, Fits}
use Rattle.reader.proofs.TokenLaws.{joined, one, next-end, next-token, Filled, filled_none, filled_more, filled_end}

-- ---- the sum of the lengths
lengths_more : (rec : List ℕ) (n : ℕ) → lengths_to rec (n + 1) ≡ lengths_to rec n + u16 rec (4 * n + 2)
unfolding lengths_to
lengths_more rec n = rw add-one

lengths_le : (rec : List ℕ) (i n : ℕ) → i ≤ n → lengths_to rec i ≤ lengths_to rec n
unfolding lengths_to
lengths_le rec i zero h = let e : i ≡ 0 = omega arith in rw e (omega arith)
lengths_le rec i (suc n) h = go (leb i n) refl (λ l. lengths_le rec i n l)
  where
    go : (b : Bool) → leb i n ≡ b → (i ≤ n → lengths_to rec i ≤ lengths_to rec n) → lengths_to rec i ≤ lengths_to rec n + u16 rec (4 * n + 2)
    go true e f = omega (arith, f (leb-true i n e))
    go false e f = let l : n < i = leb-false i n e in let s : i ≡ suc n = omega arith in rw s (omega arith)

-- ---- one more command
pub laid_none : (rec : List ℕ) → Laid rec no_tokens 0
unfolding lengths_to
laid_none rec =
    record {
      as_many = (refl, refl);
      few = omega arith;
      whole = omega arith;
      commands = λ i h. absurd (omega (arith, h));
      kinds_are = λ i h. absurd (omega (arith, h));
      starts_are = λ i h. absurd (omega (arith, h));
      lengths_are = λ i h. absurd (omega (arith, h));
      sums = refl;
    }

module _ (l : List ℕ) (n a : ℕ) (f : ℕ → ℕ) (e : length l ≡ n) where
  -- What the entries below n are, and the new one, the entries below n + 1 are.
  push_more : ((i : ℕ) → i < n → get_or l i 0 ≡ f i) → a ≡ f n → (i : ℕ) → i < n + 1 → get_or (l ++ a ∷ []) i 0 ≡ f i
  push_more all here =
      below_more (λ (i : ℕ). get_or (l ++ a ∷ []) i 0 ≡ f i) n
      (λ i k. get_or_append_left l (a ∷ []) 0 i (rw e k) ∙ all i k)
      (get_or_push l a 0 n e ∙ here)

laid_more : {rec : List ℕ} {ts : Tokens} {sum kind len : ℕ} → Laid rec ts sum → count_of ts < 4096 → 4 * count_of ts + 4 ≤ length rec → get_or rec (4 * count_of ts) 0 ≡ 5
    → kind ≡ get_or rec (4 * count_of ts + 1) 0 → len ≡ u16 rec (4 * count_of ts + 2)
    → Laid rec (joined ts (one kind (sum % 65536) len)) (sum + len)
laid_more {rec} {ts} {sum} {kind} {len} p h w c k n =
    let more : length (ts.starts ++ sum % 65536 ∷ []) ≡ count_of ts + 1 = length_push ts.starts (sum % 65536) in
    record {
      as_many = (rw (length_push ts.kinds kind, p.as_many.0, more), rw (length_push ts.lengths len, p.as_many.1, more));
      few = omega arith;
      whole = omega arith;
      commands = rw more (below_more (λ (i : ℕ). get_or rec (4 * i) 0 ≡ 5) (count_of ts) p.commands c);
      kinds_are = rw more (push_more ts.kinds (count_of ts) kind (λ i. get_or rec (4 * i + 1) 0) p.as_many.0 p.kinds_are k);
      starts_are = rw more (push_more ts.starts (count_of ts) (sum % 65536) (λ i. lengths_to rec i % 65536) refl p.starts_are (ap (λ (x : ℕ). x % 65536) p.sums));
      lengths_are = rw more (push_more ts.lengths (count_of ts) len (λ i. u16 rec (4 * i + 2)) p.as_many.1 p.lengths_are n);
      sums = rw (more, lengths_more rec (count_of ts), p.sums, n);
    }

-- The next four bytes of what is left of the record.
module _ (rec : List ℕ) (n : ℕ) (bytes rest : List ℕ) (e : drop (4 * n) rec ≡ bytes ++ rest) (four : length bytes ≡ 4) where
  chunk_whole : 4 * n + 4 ≤ length rec
  chunk_whole = omega (arith, ap length e, length-append bytes rest, length-drop (4 * n) rec)

  pub chunk_rest : rest ≡ drop (4 * (n + 1)) rec
  chunk_rest =
      let at : 4 * (n + 1) ≡ 4 * n + 4 = omega arith in
      sym (drop_at bytes rest 4 four) ∙ ap (drop 4) (sym e) ∙ drop-drop 4 (4 * n) rec ∙ ap (λ (k : ℕ). drop k rec) (sym at)

  chunk_byte : (i : ℕ) → i < 4 → get_or bytes i 0 ≡ get_or rec (4 * n + i) 0
  chunk_byte i h = sym (get_or_append_left bytes rest 0 i (rw four h)) ∙ ap (λ (l : List ℕ). get_or l i 0) (sym e) ∙ get_or-drop (4 * n) rec i 0

  chunk_length : {len : ℕ} → len ≡ get_or bytes 2 0 + 256 * get_or bytes 3 0 → len ≡ u16 rec (4 * n + 2)
  unfolding u16
  chunk_length f =
      let at : 4 * n + 3 ≡ 4 * n + 2 + 1 = omega arith in
      f ∙ rw (chunk_byte 2 (omega arith), chunk_byte 3 (omega arith), at)

  -- One more command.
  pub laid_chunk : {ts : Tokens} {sum len : ℕ} → Laid rec ts sum → count_of ts ≡ n → n < 4096 → get_or bytes 0 0 ≡ 5 → len ≡ get_or bytes 2 0 + 256 * get_or bytes 3 0
      → Laid rec (joined ts (one (get_or bytes 1 0) (sum % 65536) len)) (sum + len)
  laid_chunk p c h tag f =
      let first : 4 * n + 0 ≡ 4 * n = omega arith in
      laid_more p (rw c h) (rw c chunk_whole) (rw (c, ← first) (sym (chunk_byte 0 (omega arith)) ∙ tag)) (rw c (chunk_byte 1 (omega arith))) (rw c (chunk_length f))

-- ---- commands that fit
-- What holds of each entry holds of each entry's image.
each : (P : ℕ → Type 0) (f : Span → ℕ) (spans : List Span) → All (λ s. P (f s)) spans → All P (map f spans)
each P f spans all =
    let none : Span = record { start = 0; len = 0 } in
    All-from_get_or P (map f spans) (f none)
    (λ i h. rw (get_or-map f spans i none) (all i none (rw (length-map spans f) at h)))

module _ {boundary : ℕ → Bool} {size : ℕ} {ts : Tokens} {most few : ℕ} where
  -- A kind that no other exceeds, a length that none falls below, and starts between characters.
  pub fits_are : {kinds : List ℕ} → kinds ≡ ts.kinds → ((i : ℕ) → i < length kinds → get_or kinds i 0 ≤ most) → most ≤ 20
      → (spans : List Span) → lengths_of spans ≡ ts.lengths → All (λ s. few ≤ s.len) spans → 1 ≤ few → boundary size ≡ true
      → (others : List Span) → starts_of others ≡ ts.starts → All (λ s. boundary s.start ≡ true) others → Fits boundary size ts
  fits_are {kinds} k all m spans l none f c others s apart =
      record {
        known = rw (← k) (All-from_get_or (λ k. k ≤ 20) kinds 0 (λ i h. omega (arith, all i h)));
        filled = rw (← l) (each (λ n. 1 ≤ n) (λ s. s.len) spans (λ i d h. omega (arith, none i d h)));
        apart = rw (← s) (each (λ start. boundary start ≡ true) (λ s. s.start) others apart);
        closed = c;
      }

-- The first tokens.
abbrev first : ℕ → Tokens → Tokens
first n ts = record { kinds = take n ts.kinds; starts = take n ts.starts; lengths = take n ts.lengths }

module _ {boundary : ℕ → Bool} {size : ℕ} {rec : List ℕ} {ts : Tokens} {sum : ℕ} (p : Laid rec ts sum)
    (f : Fits boundary size ts) (e : sum ≡ size) (small : size < 65536) where
  at_most : (i : ℕ) → i ≤ count_of ts → lengths_to rec i ≤ size
  at_most i h = omega (arith, lengths_le rec i (count_of ts) h, p.sums)

  start_is : (i : ℕ) → i < count_of ts → lengths_to rec i ≡ get_or ts.starts i 0
  start_is i h = let k : lengths_to rec i ≤ size = at_most i (omega arith) in omega (arith, p.starts_are i h)

  more : (i : ℕ) → i < count_of ts → lengths_to rec (i + 1) ≡ lengths_to rec i + get_or ts.lengths i 0
  more i h = lengths_more rec i ∙ ap (λ (n : ℕ). lengths_to rec i + n) (sym (p.lengths_are i h))

  -- A token ends where the next one starts, or at the text's end.
  ends-apart : (i : ℕ) → i < count_of ts → boundary (lengths_to rec (i + 1)) ≡ true
  ends-apart i h = go (ltb (i + 1) (count_of ts)) refl
    where
      go : (b : Bool) → ltb (i + 1) (count_of ts) ≡ b → boundary (lengths_to rec (i + 1)) ≡ true
      go true t = let k : i + 1 < count_of ts = ltb-true (i + 1) (count_of ts) t in rw (start_is (i + 1) k) (f.apart (i + 1) 0 k)
      go false t =
          let k : count_of ts ≤ i + 1 = ltb-false (i + 1) (count_of ts) t in
          let s : i + 1 ≡ count_of ts = omega arith in
          rw (s, ← p.sums, e) f.closed

  stands : (i : ℕ) → i < count_of ts → command rec 5 4 (4 * i) ≡ true
  unfolding command
  stands i h =
      let k : 4 * i + 4 ≤ length rec = omega (arith, p.whole) in
      rw (le-leb (4 * i + 4) (length rec) k, eq-eqb (get_or rec (4 * i) 0) 5 (p.commands i h))

  next : (i : ℕ) → i < count_of ts → Ok (Some (record { kind = get_or ts.kinds i 0; len = get_or ts.lengths i 0 })) ≡ next_at boundary size rec (lengths_to rec i) (4 * i)
  next i h =
      next-token boundary size rec (lengths_to rec i) (4 * i) (p.commands i h) (stands i h)
      (p.kinds_are i h)
      (f.known i 0 (rw p.as_many.0 h))
      (p.lengths_are i h)
      (f.filled i 0 (rw p.as_many.1 h))
      (rw (more i h) at (at_most (i + 1) (omega arith)))
      (rw (more i h) at (ends-apart i h))

  upto : (i : ℕ) → i ≤ count_of ts → Filled boundary size rec (first i ts) (lengths_to rec i) (4 * i)
  unfolding lengths_to
  upto zero h = filled_none boundary size rec
  upto (suc i) h =
      let k : i < count_of ts = omega arith in
      let counts : length (take i ts.starts) ≡ i = length-take-le i ts.starts (omega arith) in
      let one = filled_more (upto i (omega arith)) (next i k) (omega (arith, p.few)) in
      let at : 4 * i + 4 ≡ 4 * suc i = omega arith in
      let kinds = take_more ts.kinds i 0 (omega (arith, p.as_many.0)) in
      let starts = take_more ts.starts i 0 k ∙ ap (λ (n : ℕ). take i ts.starts ++ n ∷ []) (sym (start_is i k)) in
      let lens = take_more ts.lengths i 0 (omega (arith, p.as_many.1)) in
      rw (← kinds, ← starts, ← lens, add-one, p.lengths_are i k, at) at one

  all : first (count_of ts) ts ≡ ts
  all = rw (take_all (count_of ts) ts.kinds (omega (arith, p.as_many.0)), take_all (count_of ts) ts.starts (omega arith), take_all (count_of ts) ts.lengths (omega (arith, p.as_many.1)))

  pub laid_tiles : (get_or rec (4 * count_of ts) 0 ≡ 5 → ⊥) → Tiles boundary size rec ts (Ok (4 * count_of ts))
  laid_tiles n =
      filled_end (rw all at (upto (count_of ts) (omega arith))) (next-end boundary size rec (lengths_to rec (count_of ts)) (4 * count_of ts) n) (sym p.sums ∙ e)
