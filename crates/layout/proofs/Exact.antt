-- Sums that do not wrap are those that specs/Events reads off a run's events; where none is large, a run leaves just these.
use Rattle.std.proofs.Common.{◌≡◌, ℕ, ◌+◌, ◌-◌, ◌*◌, ◌/◌, ◌%◌, ◌<◌, ◌≤◌, max, Bool, true, false, not, ◌&&◌, ◌||◌, List, [], ◌∷◌, ◌++◌, length, take, drop, replicate, refl, sym, ap, ap₂, ◌∙◌, subst, append_assoc, mul-le-mul, mul-add, mul_comm, mul-zero, zero-add, arith, le-leb, length-append}
use lib.ListN.{length-replicate}
use lib.Dec.{eqb, ltb}
use lib.Seq.{paste, paste-zero, length-paste, take-paste, drop-paste, take-length, drop-drop}
use mathlib.Core.Bool.{and-true}
use borrow.Author.Tests.{eqb-true, eqb-false, eq-eqb, ne_eqb, ltb-true, ltb-false}
use Rattle.text.specs.Bytes.{bytes}
use Rattle.comments.specs.Set.{is_comment, words_of, without}
use Rattle.comments.proofs.Words.{words-clear, words-past}
use Rattle.comments.specs.declared.Set.{Set}
use Rattle.layout.specs.declared.Ink.{Ink}
use Rattle.layout.specs.Meaning.{Page, Event, Word, Token, Comment, Formed, Indent, token_text}
use Rattle.layout.specs.Events.{formed_depth, indent_depth, letters_of, trimmed, spelt, formatted, writes_comment, written, is_left, units, letters, deepest}
use Rattle.layout.specs.Events as Events
use Rattle.layout.specs.Promises.State.{Run, run_of, sum_of, width_of, struck_words, placed, spaced, effect, effects}

-- No sum is over this.
abbrev pub cap : ℕ
cap = 0x8000_0000

-- ---- the length of what events write
-- The letters of one event.
abbrev pub letters_in : Page → Event → ℕ
letters_in p e = letters_of (λ k. length (token_text p k)) (λ k. length (trimmed p k)) e

module _ (p : Page) (tab : ℕ) where
  pub length_spelt : (e : Event) → length (spelt p tab e) ≡ letters_in p e + tab * indent_depth e
  unfolding spelt letters_of indent_depth
  length_spelt (Word w) = omega (arith, mul-zero tab)
  length_spelt (Token k) = omega (arith, mul-zero tab)
  length_spelt (Comment k) = omega (arith, mul-zero tab)
  length_spelt (Formed d) = omega (arith, mul-zero tab)
  length_spelt (Indent d) = omega (arith, length-replicate {A = ℕ} (d * tab) 32, mul_comm d tab)

  pub length_formatted : (es : List Event) → length (formatted p tab es) ≡ letters p es + tab * units es
  unfolding formatted letters units Events.sum_of
  length_formatted [] = omega (arith, mul-zero tab)
  length_formatted (e ∷ es) =
      omega (arith, length-append (spelt p tab e) (formatted p tab es), length_spelt e, length_formatted es, mul-add tab (indent_depth e) (units es))

-- ---- sums that do not wrap
-- What is counted, the words of the comments left, the output.
pub record Sums : Type 0 where
  pub letters : ℕ
  pub units : ℕ
  pub deepest : ℕ
  pub left : List ℕ
  pub out : List ℕ

-- The offset in the output where the next byte goes.
abbrev pub position : ℕ → Sums → ℕ
position tab s = s.letters + tab * s.units

-- The ink that stands for these sums.
abbrev pub ink_of : ℕ → Sums → Ink
ink_of tab s = record { position = position tab s; units = s.units; deepest = s.deepest; tab = tab; left = record { words = s.left } }

-- The state of a run that stands for these sums, with the cursor at an offset.
abbrev pub stands : ℕ → ℕ → Sums → Run
stands tab at s = run_of at (ink_of tab s) s.out

abbrev pub wrote : ℕ → List ℕ → Sums → Sums
wrote tab w s = record s { letters = s.letters + length w; out = placed s.out (position tab s) w }

module _ (p : Page) (tab : ℕ) where
  unfoldable pub step : Event → Sums → Sums
  step (Word w) s = wrote tab (bytes w) s
  step (Token k) s = wrote tab (token_text p k) s
  step (Comment k) s = wrote tab (trimmed p k) (record s { left = struck_words k s.left })
  step (Formed d) s = record s { deepest = max s.deepest d }
  step (Indent d) s = record s { units = s.units + d; out = spaced s.out (position tab s) (s.letters + tab * (s.units + d)) }

  unfoldable pub steps : List Event → Sums → Sums
  steps [] s = s
  steps (e ∷ es) s = steps es (step e s)

  -- ---- the sums are those of the events
  one_letters : (e : Event) (s : Sums) → (step e s).letters ≡ s.letters + letters_in p e
  unfolding step letters_of
  one_letters (Word w) s = refl
  one_letters (Token k) s = refl
  one_letters (Comment k) s = refl
  one_letters (Formed d) s = omega arith
  one_letters (Indent d) s = omega arith

  one_units : (e : Event) (s : Sums) → (step e s).units ≡ s.units + indent_depth e
  unfolding step indent_depth
  one_units (Word w) s = omega arith
  one_units (Token k) s = omega arith
  one_units (Comment k) s = omega arith
  one_units (Formed d) s = omega arith
  one_units (Indent d) s = refl

  one_deepest : (e : Event) (s : Sums) → (step e s).deepest ≡ max s.deepest (formed_depth e)
  unfolding step formed_depth
  one_deepest (Word w) s = omega arith
  one_deepest (Token k) s = omega arith
  one_deepest (Comment k) s = omega arith
  one_deepest (Formed d) s = refl
  one_deepest (Indent d) s = omega arith

  pub exact_letters : (es : List Event) (s : Sums) → (steps es s).letters ≡ s.letters + letters p es
  unfolding steps letters Events.sum_of
  exact_letters [] s = omega arith
  exact_letters (e ∷ es) s = exact_letters es (step e s) ∙ omega (arith, one_letters e s)

  pub exact_units : (es : List Event) (s : Sums) → (steps es s).units ≡ s.units + units es
  unfolding steps units Events.sum_of
  exact_units [] s = omega arith
  exact_units (e ∷ es) s = exact_units es (step e s) ∙ omega (arith, one_units e s)

  pub exact_deepest : (es : List Event) (s : Sums) → (steps es s).deepest ≡ max s.deepest (deepest es)
  unfolding steps deepest
  exact_deepest [] s = omega arith
  exact_deepest (e ∷ es) s = exact_deepest es (step e s) ∙ omega (arith, one_deepest e s)

-- ---- the output
pub placed_yes : (o : List ℕ) (at : ℕ) (w : List ℕ) → at + length w ≤ length o → placed o at w ≡ paste o at w (length w)
placed_yes o at w h = simp (le-leb _ _ h)

pub spaced_yes : (o : List ℕ) (at end : ℕ) → end ≤ length o → spaced o at end ≡ paste o at (replicate (end - at) 32) (end - at)
spaced_yes o at end h = simp (le-leb _ _ h)

-- One piece, and one more behind it.
paste_paste : (o x y : List ℕ) (a : ℕ) → a ≤ length o
    → paste (paste o a x (length x)) (a + length x) y (length y) ≡ paste o a (x ++ y) (length (x ++ y))
paste_paste o x y a h =
    let n = length x in
    let m = length y in
    let o' : List ℕ = paste o a x n in
    let front : take (a + n) o' ≡ take a o ++ x = take-paste o a x n h (omega arith) ∙ ap (λ l. take a o ++ l) (take-length x) in
    let back : drop (a + n + m) o' ≡ drop (a + n + m) o =
    sym (drop-drop m (a + n) o') ∙ ap (drop m) (drop-paste o a x n h (omega arith)) ∙ drop-drop m (a + n) o in
    let size : a + n + m ≡ a + length (x ++ y) = omega (arith, length-append x y) in
    ap₂ (λ l r. l ++ take m y ++ r) front back
    ∙ ap₂ (λ l k. take a o ++ x ++ l ++ drop k o) (take-length y) size
    ∙ ap (λ l. l ++ drop (a + length (x ++ y)) o) (append_assoc (take a o) x y ∙ ap (λ l. take a o ++ l) (sym (take-length (x ++ y))))

module _ (p : Page) (tab : ℕ) where
  one_out : (e : Event) (s : Sums) → position tab s + length (spelt p tab e) ≤ length s.out
      → (step p tab e s).out ≡ paste s.out (position tab s) (spelt p tab e) (length (spelt p tab e))
  unfolding step spelt
  one_out (Word w) s room = placed_yes s.out (position tab s) (bytes w) room
  one_out (Token j) s room = placed_yes s.out (position tab s) (token_text p j) room
  one_out (Comment j) s room = placed_yes s.out (position tab s) (trimmed p j) room
  one_out (Formed d) s room = paste-zero s.out (position tab s) []
  one_out (Indent d) s room =
      let a = position tab s in
      let end : s.letters + tab * (s.units + d) ≡ a + d * tab = omega (arith, mul-add tab s.units d, mul_comm d tab) in
      let width : a + d * tab - a ≡ d * tab = omega arith in
      let size = length-replicate {A = ℕ} (d * tab) 32 in
      ap (λ y. spaced s.out a y) end
      ∙ spaced_yes s.out a (a + d * tab) (omega (arith, size))
      ∙ ap (λ n. paste s.out a (replicate n 32) n) width
      ∙ ap (λ n. paste s.out a (replicate (d * tab) 32) n) (sym size)

  -- What is written stands behind what is written already.
  pub later_out : (es : List Event) (s : Sums) → position tab s + length (formatted p tab es) ≤ length s.out
      → (steps p tab es s).out ≡ paste s.out (position tab s) (formatted p tab es) (length (formatted p tab es))
  unfolding steps formatted
  later_out [] s room = paste-zero s.out (position tab s) []
  later_out (e ∷ es) s room =
      let a = position tab s in
      let x : List ℕ = spelt p tab e in
      let y : List ℕ = formatted p tab es in
      let s' : Sums = step p tab e s in
      let size : length (x ++ y) ≡ length x + length y = length-append x y in
      let first : s'.out ≡ paste s.out a x (length x) = one_out e s (omega arith) in
      let next : position tab s' ≡ a + length x =
      ap₂ (λ i j. i + tab * j) (one_letters p tab e s) (one_units p tab e s) ∙ omega (arith, length_spelt p tab e, mul-add tab s.units (indent_depth e)) in
      let long : length s'.out ≡ length s.out = ap length first ∙ length-paste s.out a x (length x) (omega arith) (omega arith) in
      later_out es s' (omega (arith, next, long))
      ∙ ap₂ (λ o i. paste o i y (length y)) first next
      ∙ paste_paste s.out x y a (omega arith)

  -- From no letters and no units: the formatted text stands in the output's first bytes, the rest unchanged.
  pub exact_out : (es : List Event) (s : Sums) → s.letters ≡ 0 → s.units ≡ 0 → letters p es + tab * units es ≤ length s.out
      → (steps p tab es s).out ≡ formatted p tab es ++ drop (length (formatted p tab es)) s.out
  exact_out es s l u room =
      let w : List ℕ = formatted p tab es in
      let start : position tab s ≡ 0 = ap₂ (λ i j. i + tab * j) l u ∙ omega (arith, mul-zero tab) in
      later_out es s (omega (arith, start, length_formatted p tab es))
      ∙ ap (λ a. paste s.out a w (length w)) start
      ∙ ap₂ (λ x n. x ++ drop n s.out) (take-length w) (zero-add (length w))

-- ---- the set
and_not : (a b c : Bool) → ((a && not b) && not c) ≡ (a && not (b || c))
and_not true true c = refl
and_not true false c = refl
and_not false b c = refl

eqb_sym : (a b : ℕ) → eqb a b ≡ eqb b a
eqb_sym a b = go (eqb b a) refl
  where
    go : (t : Bool) → eqb b a ≡ t → eqb a b ≡ t
    go true e = eq-eqb a b (sym (eqb-true b a e))
    go false e = ne_eqb a b (λ f. eqb-false b a e (sym f))

struck_is : (f : ℕ → Bool) (words : List ℕ) (j : ℕ) → words ≡ words_of f → struck_words j words ≡ words_of (without f j)
struck_is f words j h = rw h (go (ltb (j / 64) 64) refl)
  where
    go : (t : Bool) → ltb (j / 64) 64 ≡ t → struck_words j (words_of f) ≡ words_of (without f j)
    go true e = rw e (words-clear f j (ltb-true (j / 64) 64 e))
    go false e = rw e (words-past f j (ltb-false (j / 64) 64 e))

without_is : (f : ℕ → Bool) (j k : ℕ) → without f j k ≡ (f k && not (eqb j k))
unfolding without
without_is f j k = ap (λ t. f k && not t) (eqb_sym k j)

module _ (p : Page) (tab : ℕ) where
  one_left : (e : Event) (f : ℕ → Bool) (s : Sums) → s.left ≡ words_of f → (step p tab e s).left ≡ words_of (λ k. f k && not (writes_comment k e))
  unfolding step writes_comment
  one_left (Word w) f s h = h ∙ ap words_of (λ i k. sym (and-true (f k)) i)
  one_left (Token j) f s h = h ∙ ap words_of (λ i k. sym (and-true (f k)) i)
  one_left (Comment j) f s h = struck_is f s.left j h ∙ ap words_of (λ i k. without_is f j k i)
  one_left (Formed d) f s h = h ∙ ap words_of (λ i k. sym (and-true (f k)) i)
  one_left (Indent d) f s h = h ∙ ap words_of (λ i k. sym (and-true (f k)) i)

  -- The words of a set, less the comments written.
  pub less_written : (es : List Event) (f : ℕ → Bool) (s : Sums) → s.left ≡ words_of f → (steps p tab es s).left ≡ words_of (λ k. f k && not (written es k))
  unfolding steps written
  less_written [] f s h = h ∙ ap words_of (λ i k. sym (and-true (f k)) i)
  less_written (e ∷ es) f s h =
      less_written es (λ k. f k && not (writes_comment k e)) (step p tab e s) (one_left e f s h)
      ∙ ap words_of (λ i k. and_not (f k) (writes_comment k e) (written es k) i)

  -- From all block comments, the comments left.
  pub exact_left : (kinds : List ℕ) (es : List Event) (s : Sums) → s.left ≡ words_of (is_comment kinds) → (steps p tab es s).left ≡ words_of (is_left kinds es)
  unfolding is_left
  exact_left kinds es s h = less_written es (is_comment kinds) s h

-- ---- no sum wraps
add_is : (a b : ℕ) → a + b ≤ cap → sum_of a b ≡ a + b
add_is a b h = omega arith

-- The width of indents, and that it is not large.
width_is : (tab u : ℕ) → tab < 0x1_0000_0000 → u ≤ cap → (width_of tab u ≡ tab * u) × (tab * u ≤ 0x7FFF_FFFF_8000_0000)
width_is tab u t k =
    let x : tab % 0x1_0000_0000 ≡ tab = omega arith in
    let y : u % 0x1_0000_0000 ≡ u = omega arith in
    let z : tab ≤ 0xFFFF_FFFF = omega arith in
    (rw (x, y) refl, omega (arith, mul-le-mul z k))

-- The position behind n bytes more.
later_is : (tab l u n : ℕ) → tab < 0x1_0000_0000 → l + n ≤ cap → u ≤ cap → sum_of (l + tab * u) n ≡ l + n + tab * u
later_is tab l u n t h k = omega (arith, (width_is tab u t k).1)

-- The position behind an indent.
behind_is : (tab l u d : ℕ) → tab < 0x1_0000_0000 → l ≤ cap → u + d ≤ cap → sum_of (l + tab * u) (width_of tab d) ≡ l + tab * (u + d)
behind_is tab l u d t h k =
    let w : width_of tab d ≡ tab * d = (width_is tab d t (omega arith)).0 in
    let b : tab * (u + d) ≤ 0x7FFF_FFFF_8000_0000 = (width_is tab (u + d) t k).1 in
    let m : tab * (u + d) ≡ tab * u + tab * d = mul-add tab u d in
    rw w (omega (arith, b, m))

-- The letters before a position.
pub letters_before : (tab l u r : ℕ) → tab < 0x1_0000_0000 → l ≤ cap → u ≤ cap → r < 0x1_0000_0000_0000_0000 → sum_of r (width_of tab u) ≡ l + tab * u → r ≡ l
letters_before tab l u r t h k n e =
    let w = width_is tab u t k in
    let f : sum_of r (tab * u) ≡ l + tab * u = rw w.0 at e in
    omega (arith, w.1, f)

-- ---- what a run leaves
module _ (p : Page) (tab at : ℕ) (t : tab < 0x1_0000_0000) where
  one_exact : (e : Event) (s : Sums) → s.letters + letters_in p e ≤ cap → s.units + indent_depth e ≤ cap → effect p e (stands tab at s) ≡ stands tab at (step p tab e s)
  unfolding effect step letters_of indent_depth
  one_exact (Word w) s h k = rw (later_is tab s.letters s.units (length (bytes w)) t h (omega arith)) refl
  one_exact (Token j) s h k = rw (later_is tab s.letters s.units (length (token_text p j)) t h (omega arith)) refl
  one_exact (Comment j) s h k = rw (later_is tab s.letters s.units (length (trimmed p j)) t h (omega arith)) refl
  one_exact (Formed d) s h k = refl
  one_exact (Indent d) s h k = rw (behind_is tab s.letters s.units d t (omega arith) k, add_is s.units d k) refl

  -- From any sums, into any output.
  pub exact : (es : List Event) (s : Sums) → s.letters + letters p es ≤ cap → s.units + units es ≤ cap → effects p es (stands tab at s) ≡ stands tab at (steps p tab es s)
  unfolding effects steps letters units Events.sum_of
  exact [] s h k = refl
  exact (e ∷ es) s h k =
      ap (effects p es) (one_exact e s (omega arith) (omega arith))
      ∙ exact es (step p tab e s) (omega (arith, one_letters p tab e s)) (omega (arith, one_units p tab e s))

-- ---- from the start
-- What is lent to a walk: nothing is written yet.
abbrev pub begin : ℕ → Set → Ink
begin tab left = record { position = 0; units = 0; deepest = 0; tab = tab; left = left }

-- What a run left that began so.
module _ (p : Page) (tab tree : ℕ) (left : Set) (o : List ℕ) (tab_fits : tab < 0x1_0000_0000) (es : List Event) (few : letters p es ≤ cap) (low : units es ≤ cap) where
  abbrev start : Run
  start = run_of tree (begin tab left) o

  abbrev end : Run
  end = effects p es start

  abbrev none : Sums
  none = record { letters = 0; units = 0; deepest = 0; left = left.words; out = o }

  abbrev all : Sums
  all = steps p tab es none

  end_is : end ≡ stands tab tree all
  end_is =
      let z : 0 ≡ 0 + tab * 0 = omega (arith, mul-zero tab) in
      ap (λ n. effects p es (run_of tree (record { position = n; units = 0; deepest = 0; tab = tab; left = left }) o)) z
      ∙ exact p tab tree tab_fits es none (omega arith) (omega arith)

  pub deepest_is : end.ink.deepest ≡ deepest es
  deepest_is = ap (λ g. g.ink.deepest) end_is ∙ exact_deepest p tab es none ∙ omega arith

  pub units_is : end.ink.units ≡ units es
  units_is = ap (λ g. g.ink.units) end_is ∙ exact_units p tab es none ∙ omega arith

  -- The letters are what the position leaves without the indents.
  pub letters_is : {n : ℕ} → n < 0x1_0000_0000_0000_0000 → sum_of n (width_of end.ink.tab end.ink.units) ≡ end.ink.position → n ≡ letters p es
  letters_is {n} h e =
      let l = exact_letters p tab es none in
      let u = exact_units p tab es none in
      let f : sum_of n (width_of tab all.units) ≡ all.letters + tab * all.units = subst (λ g. sum_of n (width_of g.ink.tab g.ink.units) ≡ g.ink.position) end_is e in
      letters_before tab all.letters all.units n tab_fits (omega (arith, l)) (omega (arith, u)) h f ∙ omega (arith, l)

  -- The comments left, where all block comments were.
  pub left_is : left.words ≡ words_of (is_comment p.tokens.kinds) → end.ink.left.words ≡ words_of (is_left p.tokens.kinds es)
  left_is h = ap (λ g. g.ink.left.words) end_is ∙ exact_left p tab p.tokens.kinds es none h

  -- The formatted text stands in the output's first bytes, the rest unchanged.
  pub out_is : length (formatted p tab es) ≤ length o → end.out ≡ formatted p tab es ++ drop (length (formatted p tab es)) o
  out_is room = ap (λ g. g.out) end_is ∙ exact_out p tab es none refl refl (omega (arith, length_formatted p tab es))
