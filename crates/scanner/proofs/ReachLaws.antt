-- Laws of the longest part that a recognizer takes: its first byte, runs, words in front, two recognizers, plain search. Assumes nothing.
use Prim.Native.Nat.{ℕ, zero, suc, ◌+◌, ◌-◌, ◌≤◌, ◌<◌, max}
use native.Mathlib.Omega.{arith}
use mathlib.Core.Path.{◌≡◌, refl, sym, ap, ap₂, ◌∙◌, fun_ext}
use mathlib.Core.Bool.{Bool, true, false, ◌&&◌, ◌||◌, false≢true}
use mathlib.Core.List.{List, [], ◌∷◌}
use Rattle.std.specs.Prelude.{Option, None, Some}
use Rattle.std.specs.Option.{unwrap_or}
use lib.Dec.{eqb}
use lib.Pointwise.{pointwise}
use lib.ListN.{length, get_or, take, drop, length-drop, drop_of_length-le}
use lib.Seq.{drop-cons, drop-drop}
use native.Mathlib.Numerals.{add-one}
use borrow.Author.Tests.{eqb-true}
use Rattle.text.proofs.Laws.{take_rest, never}
use Rattle.text.specs.Bytes.{first_is}
use Rattle.scanner.specs.Parts.{every, one_or_more, behind}
use Rattle.scanner.specs.Promises.Reach.{longer, reach, taken, positive, run}

-- ---- lengths

pub longer-zero : (x : Option ℕ) → longer 0 x ≡ x
unfolding longer
longer-zero None = refl
longer-zero (Some n) = ap Some (omega arith)

pub longer-longer : (j k : ℕ) (x : Option ℕ) → longer j (longer k x) ≡ longer (j + k) x
unfolding longer
longer-longer j k None = refl
longer-longer j k (Some n) = ap Some (omega arith)

-- The greater of two lengths.
unfoldable pub best : Option ℕ → Option ℕ → Option ℕ
best None y = y
best (Some a) None = Some a
best (Some a) (Some b) = Some (max a b)

pub best_none : (x : Option ℕ) → best x None ≡ x
unfolding best
best_none None = refl
best_none (Some a) = refl

-- ---- the first byte

-- A text without bytes.
unfoldable pub empty : Bool → Option ℕ
empty true = Some 0
empty false = None

empty_true : empty true ≡ Some 0
unfolding empty
empty_true = refl

-- A byte, and what the rest reaches; or nothing, where that passes.
unfoldable pub onward : Option ℕ → Bool → Option ℕ
onward None t = empty t
onward (Some n) t = Some (suc n)

pub reach-nil : (passes : List ℕ → Bool) → reach passes [] ≡ empty (passes [])
unfolding reach empty
reach-nil passes = go (passes [])
  where
    go : (t : Bool) → ◌≡◌ {A = Option ℕ} (elim t as (λ x. Option ℕ) [ true ↦ Some 0 | false ↦ None ]) (empty t)
    go true = refl
    go false = refl

pub reach-cons : (passes : List ℕ → Bool) (b : ℕ) (s : List ℕ) → reach passes (b ∷ s) ≡ onward (reach (λ u. passes (b ∷ u)) s) (passes [])
unfolding reach empty onward
reach-cons passes b s = go (reach (λ u. passes (b ∷ u)) s) (passes [])
  where
    go : (x : Option ℕ) (t : Bool) → ◌≡◌ {A = Option ℕ} (elim x as (λ y. Option ℕ) [ Some n ↦ Some (suc n) | None ↦ elim t as (λ y. Option ℕ) [ true ↦ Some 0 | false ↦ None ] ]) (onward x t)
    go None true = refl
    go None false = refl
    go (Some n) t = refl

-- A length is within the text.
pub reach_length : (passes : List ℕ → Bool) (s : List ℕ) → taken (reach passes s) ≤ length s
unfolding empty onward taken
reach_length passes [] = rw (reach-nil passes) (go (passes []))
  where
    go : (t : Bool) → taken (empty t) ≤ 0
    go true = omega arith
    go false = omega arith
reach_length passes (b ∷ s) = rw (reach-cons passes b s) (go (reach (λ u. passes (b ∷ u)) s) (passes []) (reach_length (λ u. passes (b ∷ u)) s))
  where
    go : (x : Option ℕ) (t : Bool) → taken x ≤ length s → taken (onward x t) ≤ suc (length s)
    go None true h = omega arith
    go None false h = omega arith
    go (Some n) t h = omega (arith, h)

value_or : (x : Option ℕ) {n : ℕ} → n ≡ unwrap_or x 0 → n ≡ taken x
unfolding taken
value_or None e = e
value_or (Some n) e = e

-- What is found in the text behind n bytes.
module _ (passes : List ℕ → Bool) (s : List ℕ) (n : ℕ) {x : Option ℕ} (is : x ≡ reach passes (take (length s - n) (drop n s))) where
  pub found-behind : {y : Option ℕ} → x ≡ y → reach passes (drop n s) ≡ y
  found-behind e = rw (take_rest s n) at (sym is ∙ e)

  pub taken-behind : {k : ℕ} → k ≡ unwrap_or x 0 → k ≡ taken (reach passes (drop n s))
  taken-behind e = value_or x e ∙ ap taken (is ∙ ap (reach passes) (take_rest s n))

  pub behind-within : {k : ℕ} → k ≡ unwrap_or x 0 → n ≤ length s → n + k ≤ length s
  behind-within e h = omega (arith, taken-behind e, reach_length passes (drop n s), length-drop n s)

pub reach-within : (passes : List ℕ → Bool) (s : List ℕ) {x : Option ℕ} {n : ℕ} → x ≡ reach passes s → x ≡ Some n → n ≤ length s
unfolding taken
reach-within passes s e f = rw (sym e ∙ f) at (reach_length passes s)

pub reach-same : {passes other : List ℕ → Bool} (s : List ℕ) → ((t : List ℕ) → passes t ≡ other t) → reach passes s ≡ reach other s
reach-same s e = ap (λ (p : List ℕ → Bool). reach p s) (fun_ext e)

onward-longer : (x : Option ℕ) → onward x false ≡ longer 1 x
unfolding onward empty longer
onward-longer None = refl
onward-longer (Some n) = ap Some (omega arith)

is_some : {n : ℕ} (x : Option ℕ) → x ≡ Some n → x ≡ Some (taken x)
unfolding taken
is_some x e = rw e

some_onward : (x y : Option ℕ) → x ≡ onward y true → x ≡ Some (taken x)
unfolding onward empty
some_onward x None e = is_some x e
some_onward x (Some n) e = is_some x e

-- A recognizer that takes no text without bytes, by what it takes behind the first.
pub reach_step : (passes : List ℕ → Bool) {after : List ℕ → Bool} (b : ℕ) (s : List ℕ) → passes [] ≡ false → ((t : List ℕ) → passes (b ∷ t) ≡ after t) → reach passes (b ∷ s) ≡ longer 1 (reach after s)
reach_step passes {after} b s n e = reach-cons passes b s ∙ ap₂ onward (reach-same s e) n ∙ onward-longer (reach after s)

-- What takes a text without bytes takes some text.
pub reach-some : (passes : List ℕ → Bool) (s : List ℕ) → passes [] ≡ true → reach passes s ≡ Some (taken (reach passes s))
reach-some passes [] h = is_some (reach passes []) (reach-nil passes ∙ ap empty h ∙ empty_true)
reach-some passes (b ∷ s) h = some_onward (reach passes (b ∷ s)) (reach (λ u. passes (b ∷ u)) s) (reach-cons passes b s ∙ ap (onward (reach (λ u. passes (b ∷ u)) s)) h)

-- What passes nothing.
pub reach-never : {passes : List ℕ → Bool} (s : List ℕ) → ((t : List ℕ) → passes t ≡ false) → reach passes s ≡ None
unfolding empty onward
reach-never {passes} [] e = reach-nil passes ∙ ap empty (e [])
reach-never {passes} (b ∷ s) e = reach-cons passes b s ∙ ap₂ onward (reach-never s (λ t. e (b ∷ t))) (e [])

-- What passes nothing that starts with the first byte.
pub reach-none : (passes : List ℕ → Bool) (b : ℕ) (s : List ℕ) → passes [] ≡ false → ((t : List ℕ) → passes (b ∷ t) ≡ false) → reach passes (b ∷ s) ≡ None
unfolding empty onward
reach-none passes b s n e = reach-cons passes b s ∙ ap₂ onward (reach-never s e) n

-- The same, where it takes a text without bytes.
pub reach_here : (passes : List ℕ → Bool) (b : ℕ) (s : List ℕ) → passes [] ≡ true → ((t : List ℕ) → passes (b ∷ t) ≡ false) → reach passes (b ∷ s) ≡ Some 0
unfolding empty onward
reach_here passes b s n e = reach-cons passes b s ∙ ap₂ onward (reach-never s e) n

-- ---- two recognizers

or_empty : (s t : Bool) → empty (s || t) ≡ best (empty s) (empty t)
unfolding empty best
or_empty true true = refl
or_empty true false = refl
or_empty false t = refl

or_onward : (x y : Option ℕ) (s t : Bool) → onward (best x y) (s || t) ≡ best (onward x s) (onward y t)
unfolding onward best empty
or_onward None None s t = or_empty s t
or_onward None (Some n) true t = ap Some (omega arith)
or_onward None (Some n) false t = refl
or_onward (Some m) None s true = ap Some (omega arith)
or_onward (Some m) None s false = refl
or_onward (Some m) (Some n) s t = ap Some (omega arith)

pub reach-or : (passes other : List ℕ → Bool) (s : List ℕ) → reach (λ t. passes t || other t) s ≡ best (reach passes s) (reach other s)
reach-or passes other [] =
    reach-nil (λ t. passes t || other t) ∙ or_empty (passes []) (other []) ∙ sym (ap₂ best (reach-nil passes) (reach-nil other))
reach-or passes other (b ∷ s) =
    reach-cons (λ t. passes t || other t) b s
    ∙ ap (λ (x : Option ℕ). onward x (passes [] || other [])) (reach-or (λ t. passes (b ∷ t)) (λ t. other (b ∷ t)) s)
    ∙ or_onward (reach (λ t. passes (b ∷ t)) s) (reach (λ t. other (b ∷ t)) s) (passes []) (other [])
    ∙ sym (ap₂ best (reach-cons passes b s) (reach-cons other b s))

one_add : (n : ℕ) → 1 + n ≡ suc n
one_add n = omega arith

-- ---- runs

pub run-yes : (test : ℕ → Bool) (b : ℕ) (s : List ℕ) → test b ≡ true → run test (b ∷ s) ≡ suc (run test s)
unfolding run
run-yes test b s e = rw (run, e)

pub run-no : (test : ℕ → Bool) (b : ℕ) (s : List ℕ) → test b ≡ false → run test (b ∷ s) ≡ 0
unfolding run
run-no test b s e = rw (run, e)

module _ (test : ℕ → Bool) (s : List ℕ) (i : ℕ) where
  pub run_end : length s ≤ i → run test (drop i s) ≡ 0
  unfolding run
  run_end h = rw (drop_of_length-le s h)

  pub run_more : i < length s → test (get_or s i 0) ≡ true → run test (drop i s) ≡ suc (run test (drop (i + 1) s))
  run_more h e = rw (add-one, drop-cons s i 0) (run-yes test (get_or s i 0) (drop (suc i) s) e)

  pub run-stop : i < length s → test (get_or s i 0) ≡ false → run test (drop i s) ≡ 0
  run-stop h e = rw (drop-cons s i 0) (run-no test (get_or s i 0) (drop (suc i) s) e)

  -- The first byte of what stands from an offset on.
  pub first-end : length s ≤ i → first_is test (drop i s) ≡ false
  unfolding first_is
  first-end h = rw (drop_of_length-le s h)

  pub first-here : i < length s → first_is test (drop i s) ≡ test (get_or s i 0)
  unfolding first_is
  first-here h = rw (drop-cons s i 0)

-- A run ends with the text at the latest.
run_length : (test : ℕ → Bool) (u : List ℕ) → run test u ≤ length u
unfolding run
run_length test [] = omega arith
run_length test (b ∷ u) = go (test b) refl (run_length test u)
  where
    go : (x : Bool) → test b ≡ x → run test u ≤ length u → run test (b ∷ u) ≤ length (b ∷ u)
    go true e ih = omega (arith, ih, run-yes test b u e)
    go false e ih = omega (arith, run-no test b u e)

pub run_inside : (test : ℕ → Bool) (s : List ℕ) (at : ℕ) → at ≤ length s → at + run test (drop at s) ≤ length s
run_inside test s at h = omega (arith, run_length test (drop at s), length-drop at s)

-- A run goes on behind a run of bytes that pass as well.
run-within : (part whole : ℕ → Bool) → ((b : ℕ) → part b ≡ true → whole b ≡ true) → (u : List ℕ) → run whole u ≡ run part u + run whole (drop (run part u) u)
unfolding run
run-within part whole h [] = refl
run-within part whole h (b ∷ u) = go (part b) refl (run-within part whole h u)
  where
    go : (x : Bool) → part b ≡ x → run whole u ≡ run part u + run whole (drop (run part u) u) → run whole (b ∷ u) ≡ run part (b ∷ u) + run whole (drop (run part (b ∷ u)) (b ∷ u))
    go true e ih = run-yes whole b u (h b e) ∙ ap suc ih ∙ suc-add (run part u) _ ∙ ap (λ (n : ℕ). n + run whole (drop n (b ∷ u))) (sym (run-yes part b u e))
      where
        suc-add : (m n : ℕ) → suc (m + n) ≡ suc m + n
        suc-add m n = omega arith
    go false e ih = zero_left (run whole (b ∷ u)) ∙ ap (λ (n : ℕ). n + run whole (drop n (b ∷ u))) (sym (run-no part b u e))
      where
        zero_left : (n : ℕ) → n ≡ 0 + n
        zero_left n = omega arith

pub run_on : (part whole : ℕ → Bool) → ((b : ℕ) → part b ≡ true → whole b ≡ true) → (s : List ℕ) (from at : ℕ) → at ≡ from + run part (drop from s) → from + run whole (drop from s) ≡ at + run whole (drop at s)
run_on part whole h s from at e =
    let u = drop from s in
    let same : drop (run part u) u ≡ drop at s = drop-drop (run part u) from s ∙ ap (λ (n : ℕ). drop n s) (sym e) in
    omega (arith, run-within part whole h u ∙ ap (λ (v : List ℕ). run part u + run whole v) same, e)

every-yes : (test : ℕ → Bool) (b : ℕ) → test b ≡ true → (t : List ℕ) → every test (b ∷ t) ≡ every test t
unfolding every
every-yes test b e t = rw (every, e)

every-no : (test : ℕ → Bool) (b : ℕ) → test b ≡ false → (t : List ℕ) → every test (b ∷ t) ≡ false
unfolding every
every-no test b e t = rw (every, e)

pub reach-every : (test : ℕ → Bool) (s : List ℕ) → reach (every test) s ≡ Some (run test s)
unfolding reach every run onward empty
reach-every test [] = refl
reach-every test (b ∷ s) = go (test b) refl (reach-every test s)
  where
    go : (t : Bool) → test b ≡ t → reach (every test) s ≡ Some (run test s) → reach (every test) (b ∷ s) ≡ Some (run test (b ∷ s))
    go true e ih = reach-cons (every test) b s ∙ ap (λ (x : Option ℕ). onward x true) (reach-same s (every-yes test b e) ∙ ih) ∙ ap Some (sym (run-yes test b s e))
    go false e ih = reach_here (every test) b s refl (every-no test b e) ∙ ap Some (sym (run-no test b s e))

-- ---- one byte or more

pub positive-some : (n : ℕ) → (n ≡ 0 → ⊥) → positive n ≡ Some n
unfolding positive
positive-some zero h = absurd (h refl)
positive-some (suc n) h = refl

-- A length of a byte or more.
pub some_of : {n m : ℕ} → n ≡ m → 1 ≤ n → Some n ≡ positive m
some_of {n} e h = sym (ap positive (sym e) ∙ positive-some n (λ z. omega arith))

pub none_of : (n : ℕ) → None ≡ positive n → n ≡ 0
unfolding positive
none_of zero e = refl
none_of (suc n) e = never (cc)

pub number_of_some : (n : ℕ) {m : ℕ} → Some m ≡ positive n → (n ≡ m) × (1 ≤ m)
unfolding positive
number_of_some zero e = never (cc)
number_of_some (suc n) e = let f : suc n ≡ _ = cc in (f, omega arith)

pub longer-positive : (k : ℕ) (x : Option ℕ) → longer (suc k) x ≡ positive (taken (longer (suc k) x))
unfolding positive taken longer
longer-positive k None = refl
longer-positive k (Some n) = sym (positive-some (suc k + n) (λ z. omega arith))

pub taken-positive : (n : ℕ) → taken (positive n) ≡ n
unfolding positive taken
taken-positive zero = refl
taken-positive (suc n) = refl

positive_none : (x : Option ℕ) → x ≡ empty false → x ≡ positive (taken x)
unfolding empty taken positive
positive_none x e = rw e

positive_onward : (x y : Option ℕ) → x ≡ onward y false → x ≡ positive (taken x)
unfolding onward empty taken positive
positive_onward x None e = rw e
positive_onward x (Some n) e = rw e

pub more_yes : (test : ℕ → Bool) (b : ℕ) → test b ≡ true → (t : List ℕ) → one_or_more test (b ∷ t) ≡ every test t
unfolding one_or_more
more_yes test b e t = rw (one_or_more, e)

pub more_no : (test : ℕ → Bool) (b : ℕ) → test b ≡ false → (t : List ℕ) → one_or_more test (b ∷ t) ≡ false
unfolding one_or_more
more_no test b e t = rw (one_or_more, e)

pub reach-more : (test : ℕ → Bool) (s : List ℕ) → reach (one_or_more test) s ≡ positive (run test s)
unfolding reach one_or_more run positive longer
reach-more test [] = refl
reach-more test (b ∷ s) = go (test b) refl
  where
    go : (t : Bool) → test b ≡ t → reach (one_or_more test) (b ∷ s) ≡ positive (run test (b ∷ s))
    go true e = reach_step (one_or_more test) b s refl (more_yes test b e) ∙ ap (longer 1) (reach-every test s) ∙ ap Some (omega arith) ∙ ap positive (sym (run-yes test b s e))
    go false e = reach-none (one_or_more test) b s refl (more_no test b e) ∙ ap positive (sym (run-no test b s e))

-- ---- a word in front

module _ (word : List ℕ) (passes : List ℕ → Bool) (c : ℕ) where
  pub behind-yes : (b : ℕ) → eqb b c ≡ true → (t : List ℕ) → behind (c ∷ word) passes (b ∷ t) ≡ behind word passes t
  unfolding behind
  behind-yes b e t = rw (behind, e)

  pub behind-no : (b : ℕ) → eqb b c ≡ false → (t : List ℕ) → behind (c ∷ word) passes (b ∷ t) ≡ false
  unfolding behind
  behind-no b e t = rw (behind, e)

-- ---- plain search

-- The greatest of n to 0 that passes.
unfoldable pub down : (ℕ → Bool) → ℕ → Option ℕ
down test zero = empty (test 0)
down test (suc n) = elim (test (suc n)) [ true ↦ Some (suc n) | false ↦ down test n ]

down_shift : (test : ℕ → Bool) (n : ℕ) → down test (suc n) ≡ onward (down (λ m. test (suc m)) n) (test 0)
unfolding down onward empty
down_shift test zero = go (test 1)
  where
    go : (t : Bool) → ◌≡◌ {A = Option ℕ} (elim t as (λ x. Option ℕ) [ true ↦ Some 1 | false ↦ empty (test 0) ]) (onward (empty t) (test 0))
    go true = refl
    go false = refl
down_shift test (suc n) = go (test (suc (suc n))) (down_shift test n)
  where
    go : (t : Bool) → down test (suc n) ≡ onward (down (λ m. test (suc m)) n) (test 0) → ◌≡◌ {A = Option ℕ} (elim t as (λ x. Option ℕ) [ true ↦ Some (suc (suc n)) | false ↦ down test (suc n) ]) (onward (elim t as (λ x. Option ℕ) [ true ↦ Some (suc n) | false ↦ down (λ m. test (suc m)) n ]) (test 0))
    go true ih = refl
    go false ih = ih

pub down-reach : (passes : List ℕ → Bool) (s : List ℕ) → down (λ n. passes (take n s)) (length s) ≡ reach passes s
unfolding down
down-reach passes [] = sym (reach-nil passes)
down-reach passes (b ∷ s) =
    down_shift (λ n. passes (take n (b ∷ s))) (length s)
    ∙ ap (λ (x : Option ℕ). onward x (passes [])) (down-reach (λ t. passes (b ∷ t)) s)
    ∙ sym (reach-cons passes b s)

-- ---- what a text starts with

pub first-inside : (test : ℕ → Bool) (s : List ℕ) (i : ℕ) → first_is test (drop i s) ≡ true → i < length s
unfolding first_is
first-inside test s i h = go (drop i s) h (length-drop i s)
  where
    go : (u : List ℕ) → first_is test u ≡ true → length u ≡ length s - i → i < length s
    go [] h e = absurd (false≢true h)
    go (b ∷ u) h e = omega arith

pub starts : (c : ℕ) (s : List ℕ) → first_is (λ b. eqb b c) s ≡ true → s ≡ c ∷ drop 1 s
unfolding first_is
starts c [] h = absurd (false≢true h)
starts c (b ∷ s) h = ap (λ (x : ℕ). x ∷ s) (eqb-true b c h)

module _ (word : List ℕ) (passes : List ℕ → Bool) (c : ℕ) where
  pub behind-nil : behind (c ∷ word) passes [] ≡ false
  unfolding behind
  behind-nil = refl

  pub reach-behind-yes : (s : List ℕ) → first_is (λ b. eqb b c) s ≡ true → reach (behind (c ∷ word) passes) s ≡ longer 1 (reach (behind word passes) (drop 1 s))
  unfolding first_is
  reach-behind-yes [] h = absurd (false≢true h)
  reach-behind-yes (b ∷ s) h = reach_step (behind (c ∷ word) passes) b s behind-nil (behind-yes word passes c b h)

  pub reach-behind-no : (s : List ℕ) → first_is (λ b. eqb b c) s ≡ false → reach (behind (c ∷ word) passes) s ≡ None
  unfolding first_is empty
  reach-behind-no [] h = reach-nil (behind (c ∷ word) passes) ∙ ap empty behind-nil
  reach-behind-no (b ∷ s) h = reach-none (behind (c ∷ word) passes) b s behind-nil (behind-no word passes c b h)

pub reach-behind_all : (passes : List ℕ → Bool) (s : List ℕ) → reach (behind [] passes) s ≡ reach passes s
unfolding behind
reach-behind_all passes s = refl

-- A word that is stripped off, or isn't there.
module _ (passes : List ℕ → Bool) where
  pub strip_no : (word s : List ℕ) → pointwise eqb (take (length word) s) word ≡ false → reach (behind word passes) s ≡ None
  unfolding empty longer
  strip_no [] s h = absurd (false≢true (sym h))
  strip_no (c ∷ word) [] h = reach-nil (behind (c ∷ word) passes) ∙ ap empty (behind-nil word passes c)
  strip_no (c ∷ word) (b ∷ s) h = go (eqb b c) refl h (λ k. strip_no word s k)
    where
      go : (t : Bool) → eqb b c ≡ t → (t && pointwise eqb (take (length word) s) word) ≡ false → (pointwise eqb (take (length word) s) word ≡ false → reach (behind word passes) s ≡ None) → reach (behind (c ∷ word) passes) (b ∷ s) ≡ None
      go true e k ih = reach_step (behind (c ∷ word) passes) b s (behind-nil word passes c) (behind-yes word passes c b e) ∙ ap (longer 1) (ih k)
      go false e k ih = reach-none (behind (c ∷ word) passes) b s (behind-nil word passes c) (behind-no word passes c b e)

  pub strip_yes : (word s : List ℕ) → pointwise eqb (take (length word) s) word ≡ true → reach (behind word passes) s ≡ longer (length word) (reach passes (drop (length word) s))
  unfolding behind
  strip_yes [] s h = sym (longer-zero (reach passes s))
  strip_yes (c ∷ word) [] h = absurd (false≢true h)
  strip_yes (c ∷ word) (b ∷ s) h = go (eqb b c) refl h (λ k. strip_yes word s k)
    where
      go : (t : Bool) → eqb b c ≡ t → (t && pointwise eqb (take (length word) s) word) ≡ true → (pointwise eqb (take (length word) s) word ≡ true → reach (behind word passes) s ≡ longer (length word) (reach passes (drop (length word) s)))
          → reach (behind (c ∷ word) passes) (b ∷ s) ≡ longer (suc (length word)) (reach passes (drop (length word) s))
      go true e k ih =
          reach_step (behind (c ∷ word) passes) b s (behind-nil word passes c) (behind-yes word passes c b e)
          ∙ ap (longer 1) (ih k)
          ∙ longer-longer 1 (length word) (reach passes (drop (length word) s))
          ∙ ap (λ (n : ℕ). longer n (reach passes (drop (length word) s))) (one_add (length word))
      go false e k ih = absurd (false≢true k)

-- Two recognizers that agree on what starts with the first byte.
pub reach-first : (passes other : List ℕ → Bool) (b : ℕ) (s : List ℕ) → passes [] ≡ other [] → ((t : List ℕ) → passes (b ∷ t) ≡ other (b ∷ t)) → reach passes (b ∷ s) ≡ reach other (b ∷ s)
reach-first passes other b s n e = reach-cons passes b s ∙ ap₂ onward (reach-same s e) n ∙ sym (reach-cons other b s)

-- What takes no text without bytes takes one byte or more.
pub reach-positive : (passes : List ℕ → Bool) (s : List ℕ) → passes [] ≡ false → reach passes s ≡ positive (taken (reach passes s))
reach-positive passes [] h = positive_none (reach passes []) (reach-nil passes ∙ ap empty h)
reach-positive passes (b ∷ s) h =
    positive_onward (reach passes (b ∷ s)) (reach (λ u. passes (b ∷ u)) s) (reach-cons passes b s ∙ ap (onward (reach (λ u. passes (b ∷ u)) s)) h)

-- Of two lengths the second is 1.
pub wins : (x : Option ℕ) → 0 < taken x → best x (Some 1) ≡ x
unfolding best taken
wins None h = absurd (omega arith)
wins (Some n) h = ap Some (omega arith)

-- A text of which a recognizer behind two bytes takes some starts with these.
pub behind-two : (c d : ℕ) (word : List ℕ) (passes : List ℕ → Bool) (s : List ℕ) → 0 < taken (reach (behind (c ∷ d ∷ word) passes) s) → s ≡ c ∷ d ∷ drop 2 s
unfolding longer taken
behind-two c d word passes s h = go (first_is (λ b. eqb b c) s) refl
  where
    none-taken : (x : Option ℕ) → 0 < taken x → x ≡ None → ⊥
    none-taken x h e = omega (arith, rw e at h)

    second : (u : Bool) → first_is (λ b. eqb b d) (drop 1 s) ≡ u → first_is (λ b. eqb b c) s ≡ true → s ≡ c ∷ d ∷ drop 2 s
    second true f e = starts c s e ∙ ap (λ (t : List ℕ). c ∷ t) (starts d (drop 1 s) f ∙ ap (λ (t : List ℕ). d ∷ t) (drop-drop 1 1 s))
    second false f e = absurd (none-taken _ h (reach-behind-yes (d ∷ word) passes c s e ∙ ap (longer 1) (reach-behind-no word passes d (drop 1 s) f)))

    go : (u : Bool) → first_is (λ b. eqb b c) s ≡ u → s ≡ c ∷ d ∷ drop 2 s
    go true e = second (first_is (λ b. eqb b d) (drop 1 s)) refl e
    go false e = absurd (none-taken _ h (reach-behind-no (d ∷ word) passes c s e))

two_more : (n : ℕ) → n + 1 + 1 ≡ n + 2
two_more n = omega arith

-- Two bytes in front, at an offset.
module _ (word : List ℕ) (passes : List ℕ → Bool) (c d : ℕ) (s : List ℕ) (at : ℕ) where
  pub reach-two-no : first_is (λ b. eqb b c) (drop at s) ≡ true → first_is (λ b. eqb b d) (drop (at + 1) s) ≡ false → reach (behind (c ∷ d ∷ word) passes) (drop at s) ≡ None
  unfolding longer
  reach-two-no g h =
      reach-behind-yes (d ∷ word) passes c (drop at s) g
      ∙ ap (λ (u : List ℕ). longer 1 (reach (behind (d ∷ word) passes) u)) (drop-drop 1 at s)
      ∙ ap (longer 1) (reach-behind-no word passes d (drop (at + 1) s) h)

  pub reach-two : first_is (λ b. eqb b c) (drop at s) ≡ true → first_is (λ b. eqb b d) (drop (at + 1) s) ≡ true → reach (behind (c ∷ d ∷ word) passes) (drop at s) ≡ longer 2 (reach (behind word passes) (drop (at + 2) s))
  reach-two g h =
      reach-behind-yes (d ∷ word) passes c (drop at s) g
      ∙ ap (λ (u : List ℕ). longer 1 (reach (behind (d ∷ word) passes) u)) (drop-drop 1 at s)
      ∙ ap (longer 1) (reach-behind-yes word passes d (drop (at + 1) s) h)
      ∙ longer-longer 1 1 (reach (behind word passes) (drop 1 (drop (at + 1) s)))
      ∙ ap (λ (u : List ℕ). longer 2 (reach (behind word passes) u)) (drop-drop 1 (at + 1) s ∙ ap (λ (n : ℕ). drop n s) (two_more at))

pub ruleset first_laws = (first-end, first-here)
