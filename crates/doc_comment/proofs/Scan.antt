-- Laws of the lines of a comment: how a scan over its bytes finds them. Assumes nothing.
use Prim.Native.Nat.{ℕ, zero, suc, ◌+◌, ◌-◌, ◌≤◌, ◌<◌, zero-le}
use native.Mathlib.Numerals.{add-one}
use native.Mathlib.Omega.{arith}
use mathlib.Core.Path.{◌≡◌, refl, sym, ap, ◌∙◌}
use mathlib.Core.List.{List, [], ◌∷◌, reverse, reverse_aux, reverse-append, reverse-reverse}
use Rattle.std.specs.List.{AllWithin, HoldsAt}
use Rattle.std.specs.Prelude.{Option, None, Some, MatchOption}
use lib.ListN.{length, get_or, take, drop, length-take, length-drop, length-reverse}
use lib.Seq.{take-suc}
use borrow.Author.Tests.{eq-eqb, ne_eqb}
use Rattle.doc_comment.specs.Doc.{without_return, lines_from, after_asterisk, without_space, starred}
use Rattle.doc_comment.specs.Promises.Lines.{Lacks, IsFirst, Cuts, Drops, Stands, kept, FirstKept}

-- The text up to a byte, read backwards.
reverse_take : (s : List ℕ) (k : ℕ) → k < length s → reverse (take (suc k) s) ≡ get_or s k 0 ∷ reverse (take k s)
reverse_take s k h = rw (take-suc s k 0, reverse-append)

-- What `position` gives of the bytes that are b.
pub first-is : (b : ℕ) (s : List ℕ) (r : Option ℕ) → MatchOption r (AllWithin (λ x. x ≡ b → ⊥) s 0 (length s)) (λ i. (i < length s) × HoldsAt (λ x. x ≡ b) s i × AllWithin (λ x. x ≡ b → ⊥) s 0 i)
    → MatchOption r (Lacks b s) (λ n. IsFirst b s n)
first-is b s None h = λ k l. h k 0 zero-le l
first-is b s (Some n) h = record { within = h.0; here = h.1 0; before = λ k l. h.2 k 0 zero-le l }

-- ---- the first line

lines_other : (line bs : List ℕ) (b : ℕ) → (b ≡ 10 → ⊥) → lines_from line (b ∷ bs) ≡ lines_from (b ∷ line) bs
unfolding lines_from
lines_other line bs b h = rw (lines_from, ne_eqb b 10 h)

line-last : (u : List ℕ) → 0 < length u → lines_from (reverse u) [] ≡ u ∷ []
unfolding lines_from
line-last u h = go (reverse u) refl
  where
    go : (l : List ℕ) → reverse u ≡ l → lines_from l [] ≡ u ∷ []
    go [] e = absurd (omega (arith, length-reverse u, ap length e))
    go (x ∷ xs) e = ap (λ (l : List ℕ). l ∷ []) (ap reverse (sym e) ∙ reverse-reverse u)

lines_nil : lines_from [] [] ≡ []
unfolding lines_from
lines_nil = refl

fed-line : (line rest : List ℕ) → lines_from line (10 ∷ rest) ≡ reverse (without_return line) ∷ lines_from [] rest
unfolding lines_from
fed-line line rest = refl

-- No line feed is among the bytes.
lines-rest : (s line : List ℕ) → ((k : ℕ) → k < length s → get_or s k 0 ≡ 10 → ⊥) → lines_from line s ≡ lines_from (reverse_aux s line) []
lines-rest [] line h = refl
lines-rest (b ∷ bs) line h = lines_other line bs b (h 0 (omega arith)) ∙ lines-rest bs (b ∷ line) (λ k l. h (suc k) (omega arith))

-- The first line feed stands behind n bytes.
lines-fed : (s line : List ℕ) (n : ℕ) → n < length s → get_or s n 0 ≡ 10 → ((k : ℕ) → k < n → get_or s k 0 ≡ 10 → ⊥)
    → lines_from line s ≡ reverse (without_return (reverse_aux (take n s) line)) ∷ lines_from [] (drop (suc n) s)
lines-fed [] line n h e z = absurd (omega arith)
lines-fed (b ∷ bs) line zero h e z = rw e (fed-line line bs)
lines-fed (b ∷ bs) line (suc n) h e z =
    lines_other line bs b (z 0 (omega arith)) ∙ lines-fed bs (b ∷ line) n (omega arith) e (λ k l. z (suc k) (omega arith))

-- The text has no line feed.
pub cut-last : (s : List ℕ) → (length s ≡ 0 → ⊥) → Lacks 10 s → Cuts s s []
cut-last s h z =
    record {
      line = lines-rest s [] z ∙ line-last s (omega arith) ∙ ap (λ (v : List (List ℕ)). s ∷ v) (sym lines_nil);
      room = omega arith;
      less = omega arith;
    }

module _ (s : List ℕ) (n : ℕ) (f : IsFirst 10 s n) where
  h : n < length s
  h = f.within

  -- The line is what stands before the line feed, less a carriage return.
  cut_at : (line : List ℕ) → reverse (without_return (reverse (take n s))) ≡ line → length line ≤ n → Cuts s line (drop (n + 1) s)
  cut_at line r l =
      record {
        line = rw add-one (lines-fed s [] n f.within f.here f.before ∙ ap (λ (u : List ℕ). u ∷ lines_from [] (drop (suc n) s)) r);
        room = omega (arith, length-drop (n + 1) s);
        less = omega (arith, length-drop (n + 1) s);
      }

  pub cut-return : 0 < n → get_or s (n - 1) 0 ≡ 13 → Cuts s (take (n - 1) s) (drop (n + 1) s)
  unfolding without_return
  cut-return l r =
      let k : n ≡ suc (n - 1) = omega arith in
      cut_at (take (n - 1) s)
      (ap (λ (i : ℕ). reverse (without_return (reverse (take i s)))) k
      ∙ ap (λ (u : List ℕ). reverse (without_return u)) (reverse_take s (n - 1) (omega arith))
      ∙ rw (r, without_return) (reverse-reverse (take (n - 1) s)))
      (omega (arith, length-take (n - 1) s))

  pub cut-plain : (0 < n → get_or s (n - 1) 0 ≡ 13 → ⊥) → Cuts s (take n s) (drop (n + 1) s)
  unfolding without_return
  cut-plain r = cut_at (take n s) (go n refl) (omega (arith, length-take n s))
    where
      go : (i : ℕ) → n ≡ i → reverse (without_return (reverse (take i s))) ≡ take i s
      go zero k = refl
      go (suc m) k =
          let f = reverse_take s m (omega arith) in
          let q : n - 1 ≡ m = omega arith in
          ap (λ (u : List ℕ). reverse (without_return u)) f
          ∙ rw (without_return, ne_eqb (get_or s m 0) 13 (rw q at (r (omega arith)))) (ap reverse (sym f) ∙ reverse-reverse (take (suc m) s))

-- ---- what stands of a line

after-yes : (b : ℕ) (bs : List ℕ) → b ≡ 42 → after_asterisk (b ∷ bs) ≡ Some bs
unfolding after_asterisk
after-yes b bs h = rw (after_asterisk, eq-eqb b 42 h)

after-no : (b : ℕ) (bs : List ℕ) → (b ≡ 42 → ⊥) → after_asterisk (b ∷ bs) ≡ after_asterisk bs
unfolding after_asterisk
after-no b bs h = rw (after_asterisk, ne_eqb b 42 h)

after-nil : after_asterisk [] ≡ None
unfolding after_asterisk
after-nil = refl

after_none : (line : List ℕ) → ((k : ℕ) → k < length line → get_or line k 0 ≡ 42 → ⊥) → after_asterisk line ≡ None
after_none [] h = after-nil
after_none (b ∷ bs) h = after-no b bs (h 0 (omega arith)) ∙ after_none bs (λ k l. h (suc k) (omega arith))

after-some : (line : List ℕ) (n : ℕ) → n < length line → get_or line n 0 ≡ 42 → ((k : ℕ) → k < n → get_or line k 0 ≡ 42 → ⊥) → after_asterisk line ≡ Some (drop (suc n) line)
after-some [] n h e z = absurd (omega arith)
after-some (b ∷ bs) zero h e z = after-yes b bs e
after-some (b ∷ bs) (suc n) h e z = after-no b bs (z 0 (omega arith)) ∙ after-some bs n (omega arith) e (λ k l. z (suc k) (omega arith))

starred-none : (line : List ℕ) (more : List (List ℕ)) → after_asterisk line ≡ None → starred (line ∷ more) ≡ starred more
unfolding starred
starred-none line more e = rw (starred, e)

starred-some : (line rest : List ℕ) (more : List (List ℕ)) → after_asterisk line ≡ Some rest → starred (line ∷ more) ≡ without_space rest ∷ starred more
unfolding starred
starred-some line rest more e = rw (starred, e)

pub dropped : (line : List ℕ) → Lacks 42 line → Drops line
dropped line h more = starred-none line more (after_none line h)

-- What follows the asterisk, with a space or without.
space-off : (l : List ℕ) → 0 < length l → get_or l 0 0 ≡ 32 → without_space l ≡ drop 1 l
unfolding without_space
space-off [] h e = absurd (omega arith)
space-off (b ∷ bs) h e = rw (e, without_space)

space-none : (l : List ℕ) → (0 < length l → get_or l 0 0 ≡ 32 → ⊥) → without_space l ≡ l
unfolding without_space
space-none [] h = refl
space-none (b ∷ bs) h = rw (without_space, ne_eqb b 32 (h (omega arith)))

module _ (line : List ℕ) (n : ℕ) (f : IsFirst 42 line n) where
  stands : (rest text : List ℕ) → rest ≡ drop (n + 1) line → without_space rest ≡ text → length text ≤ length rest → Stands line text
  stands rest text d e l =
      record {
        row = λ more. starred-some line rest more (rw d (rw add-one (after-some line n f.within f.here f.before))) ∙ ap (λ (u : List ℕ). u ∷ starred more) e;
        less = omega (arith, l, f.within, ap length d, length-drop (n + 1) line);
      }

  pub stands-space : (rest : List ℕ) → rest ≡ drop (n + 1) line → 0 < length rest → get_or rest 0 0 ≡ 32 → Stands line (drop 1 rest)
  stands-space rest d h e = stands rest (drop 1 rest) d (space-off rest h e) (omega (arith, length-drop 1 rest))

  pub stands-plain : (rest : List ℕ) → rest ≡ drop (n + 1) line → (0 < length rest → get_or rest 0 0 ≡ 32 → ⊥) → Stands line rest
  stands-plain rest d h = stands rest rest d (space-none rest h) (omega arith)

-- ---- the next line that stands

kept_line : {s line rest : List ℕ} → Cuts s line rest → kept s ≡ starred (line ∷ lines_from [] rest)
unfolding kept
kept_line c = ap starred c.line

pub line-dropped : {s line rest : List ℕ} → Cuts s line rest → Drops line → kept s ≡ kept rest
unfolding kept
line-dropped {s} {line} {rest} c d = kept_line c ∙ d (lines_from [] rest)

pub line_kept : {s line rest text : List ℕ} → Cuts s line rest → Stands line text → FirstKept s text rest
unfolding kept
line_kept {s} {line} {rest} c t = record { line = kept_line c ∙ t.row (lines_from [] rest); room = omega (arith, c.room, t.less) }

-- Lines that were dropped stand before the one that is kept.
pub first-from : {comment at line rest : List ℕ} → kept comment ≡ kept at → length at ≤ length comment → FirstKept at line rest → FirstKept comment line rest
first-from e h f = record { line = e ∙ f.line; room = omega (arith, f.room) }

pub kept-nil : kept [] ≡ []
unfolding kept starred
kept-nil = rw lines_nil
