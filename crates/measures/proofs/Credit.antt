-- A walk's credit: each byte of the record that it passes pays 32 credits, of 512 bytes each, for what it writes.
use native.Mathlib.Omega.{arith}
use mathlib.Core.Path.{◌≡◌}
use mathlib.Core.List.{List, [], ◌∷◌, ◌++◌}
use Prim.Native.Nat.{ℕ, ◌+◌, ◌-◌, ◌*◌, ◌≤◌}
use lib.ListN.{length}
use Rattle.layout.specs.Meaning.{Page, Event, Outcome, done, stopped, bind, after, token_text}
use Rattle.layout.specs.Events.{sum_of, deepest, indent_depth, letters_of, trimmed}

module _ (p : Page) where
  -- What an event writes: its letters and the depth of its indent.
  abbrev pub weight : Event → ℕ
  weight e = letters_of (λ k. length (token_text p k)) (λ k. length (trimmed p k)) e + indent_depth e

  abbrev pub size : List Event → ℕ
  size es = sum_of weight es

  size-join : (es fs : List Event) → size (es ++ fs) ≡ size es + size fs
  unfolding sum_of
  size-join [] fs = omega arith
  size-join (e ∷ es) fs = let h = size-join es fs in omega (arith, h)

  deepest-join : (es fs : List Event) → deepest es ≤ 400 → deepest fs ≤ 400 → deepest (es ++ fs) ≤ 400
  unfolding deepest
  deepest-join [] fs g h = h
  deepest-join (e ∷ es) fs g h = let k = deepest-join es fs (omega arith) h in omega (arith, k)

  -- From `at`, with `a` credits in hand: a walk that ends stands between `lo` and `lim`, with `r` left; one that stops has paid within `lim`.
  abbrev pub Within : (lo lim at a r : ℕ) → Outcome → Type 0
  Within lo lim at a r (done e es) =
      (lo ≤ e) × (e ≤ lim) × (size es + 512 * r + 16384 * at ≤ 512 * a + 16384 * e) × (deepest es ≤ 400)
  Within lo lim at a r (stopped why es) = (size es + 16384 * at ≤ 512 * a + 16384 * lim) × (deepest es ≤ 400)

  module _ (lim at e a r b s : ℕ) (es : List Event) (x : size es + 512 * r + 16384 * at ≤ 512 * a + 16384 * e) (y : deepest es ≤ 400) where
    after-within : (lo : ℕ) (o : Outcome) → e ≤ lim → Within lo lim e b s o → Within lo lim at (a + (b - r)) (s + (r - b)) (after es o)
    unfolding after
    after-within lo (done f fs) u w =
        let j = size-join es fs in
        (w.0, w.1, omega (arith, j, x, w.2), deepest-join es fs y w.3)
    after-within lo (stopped why fs) u w =
        let j = size-join es fs in
        (omega (arith, j, x, w.0), deepest-join es fs y w.1)

  -- One walk after another.
  pub then-within : (lo mid lo' lim at a r b s : ℕ) (o : Outcome) (k : ℕ → Outcome) → mid ≤ lim → Within lo mid at a r o
      → ((e : ℕ) → lo ≤ e → e ≤ mid → Within lo' lim e b s (k e)) → Within lo' lim at (a + (b - r)) (s + (r - b)) (bind o k)
  unfolding bind
  then-within lo mid lo' lim at a r b s (done e es) k h w f =
      let i : e ≤ mid = w.1 in
      after-within lim at e a r b s es w.2 w.3 lo' (k e) (omega arith) (f e w.0 i)
  then-within lo mid lo' lim at a r b s (stopped why es) k h w f = (omega (arith, w.0), w.1)

  -- A command of `width` bytes is read before the walk.
  pub earned : (lo lo' lim at width a r : ℕ) (o : Outcome) → lo' ≤ lo → Within lo lim (at + width) a r o
      → Within lo' lim at (a - 32 * width) (r + (32 * width - a)) o
  earned lo lo' lim at width a r (done e es) h w = (omega (arith, w.0), w.1, omega (arith, w.2), w.3)
  earned lo lo' lim at width a r (stopped why es) h w = (omega (arith, w.0), w.1)

  -- More in hand, less left, a lower end.
  pub weaker : (lo lo' lim at a r a' r' : ℕ) (o : Outcome) → lo' ≤ lo → a ≤ a' → a + r' ≤ a' + r → Within lo lim at a r o → Within lo' lim at a' r' o
  weaker lo lo' lim at a r a' r' (done e es) h i j w = (omega (arith, w.0), w.1, omega (arith, w.2), w.3)
  weaker lo lo' lim at a r a' r' (stopped why es) h i j w = (omega (arith, w.0), w.1)
