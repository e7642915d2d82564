-- Laws of the tokens: read from the front, they are what the definition puts together from the back.
use Prim.Native.Nat.{ℕ, zero, suc, ◌+◌, ◌-◌, ◌≤◌, ◌<◌}
use mathlib.Core.Path.{◌≡◌, refl, sym, ◌∙◌, ap}
use mathlib.Core.List.{List, [], ◌∷◌, ◌++◌, append_assoc, append-nil}
use mathlib.Core.Bool.{Bool, true, false, ◌&&◌}
use native.Mathlib.Omega.{arith}
use lib.ListN.{length, get_or, length-append}
use lib.Dec.{leb, eqb}
use borrow.Author.Tests.{le-leb, leb-true, eq-eqb, ne_eqb}
use Rattle.std.specs.Prelude.{Option, None, Some, Result, Ok, Err}
use Rattle.text.proofs.Laws.{never}
use Rattle.reader.specs.Commands.{u16, command}
use Rattle.reader.specs.declared.Refusal.{Refusal}
use Rattle.reader.specs.declared.Refusal.TheVariants.{Malformed}
use Rattle.reader.specs.declared.tokens.Next.{Next}
use Rattle.reader.specs.Tokens.{Tokens, count_of, no_tokens, Tiling, tiled, untiled, is_token, end_tokens, with_token, tokens_from, tokens}
use Rattle.reader.specs.Promises.Tokens.{next_at, Tiles}
use Rattle.reader.proofs.CommandLaws.{and_left, and_right, command-fits}

-- ---- the next token
module _ (boundary : ℕ → Bool) (size : ℕ) (rec : List ℕ) (start at : ℕ) where
  pub next-end : (get_or rec at 0 ≡ 5 → ⊥) → Ok None ≡ next_at boundary size rec start at
  unfolding next_at
  next-end h = rw (ne_eqb (get_or rec at 0) 5 h, next_at)

  pub next-token : get_or rec at 0 ≡ 5 → command rec 5 4 at ≡ true → {kind : ℕ} → kind ≡ get_or rec (at + 1) 0 → kind ≤ 20 → {len : ℕ} → len ≡ u16 rec (at + 2) → 1 ≤ len
      → start + len ≤ size → boundary (start + len) ≡ true → Ok (Some (record { kind = kind; len = len })) ≡ next_at boundary size rec start at
  unfolding next_at is_token
  next-token h t {kind} k l {len} n m o i =
      let is : is_token boundary size rec start at ≡ true = rw (t, ← k, le-leb kind 20 l, ← n, le-leb 1 len m, le-leb (start + len) size o, i) in
      rw (k, n, eq-eqb (get_or rec at 0) 5 h, next_at, is)

-- What an answer says of the command.
module _ (word : Next) (at : ℕ) where
  abbrev answer : Bool → Bool → Result (Option Next) Refusal
  answer b c = elim b [ true ↦ elim c [ true ↦ Ok (Some word) | false ↦ Err (Malformed at) ] | false ↦ Ok None ]

  some-parts : {next : Next} (b c : Bool) → Ok (Some next) ≡ answer b c → (b ≡ true) × (c ≡ true) × (next ≡ word)
  some-parts true true e = (refl, refl, cc)
  some-parts true false e = never (cc)
  some-parts false c e = never (cc)

  err-parts : {why : Refusal} (b c : Bool) → Err why ≡ answer b c → (b ≡ true) × (c ≡ false) × (why ≡ Malformed at)
  err-parts true true e = never (cc)
  err-parts true false e = (refl, refl, cc)
  err-parts false c e = never (cc)

  none-parts : (b c : Bool) → Ok None ≡ answer b c → b ≡ false
  none-parts true true e = never (cc)
  none-parts true false e = never (cc)
  none-parts false c e = refl

-- ---- the tokens, from what the next command says
module _ (boundary : ℕ → Bool) (size : ℕ) (rec : List ℕ) (start at : ℕ) where
  abbrev word : Next
  word = record { kind = get_or rec (at + 1) 0; len = u16 rec (at + 2) }

  module _ {next : Next} (e : Ok (Some next) ≡ next_at boundary size rec start at) where
    parts : (eqb (get_or rec at 0) 5 ≡ true) × (is_token boundary size rec start at ≡ true) × (next.kind ≡ get_or rec (at + 1) 0) × (next.len ≡ u16 rec (at + 2))
    unfolding next_at
    parts =
        let p = some-parts word at (eqb (get_or rec at 0) 5) (is_token boundary size rec start at) e in
        (p.0, p.1, ap (λ (n : Next). n.kind) p.2, ap (λ (n : Next). n.len) p.2)

    in-text : (command rec 5 4 at && leb (get_or rec (at + 1) 0) 20 && leb 1 (u16 rec (at + 2)) && leb (start + u16 rec (at + 2)) size) ≡ true
    unfolding is_token
    in-text = and_left _ (boundary (start + u16 rec (at + 2))) parts.1

    pub is_within : start + next.len ≤ size
    is_within =
        rw parts.3
        (leb-true (start + u16 rec (at + 2)) size
        (and_right (command rec 5 4 at && leb (get_or rec (at + 1) 0) 20 && leb 1 (u16 rec (at + 2))) _ in-text))

    pub is_whole : at + 4 ≤ length rec
    is_whole =
        command-fits rec at 5 4
        (and_left (command rec 5 4 at) (leb (get_or rec (at + 1) 0) 20)
        (and_left _ (leb 1 (u16 rec (at + 2))) (and_left _ (leb (start + u16 rec (at + 2)) size) in-text)))

    pub from_is : (n : ℕ) → tokens_from boundary size rec (suc n) start at ≡ with_token size rec start at (tokens_from boundary size rec n (start + next.len) (at + 4))
    unfolding tokens_from
    from_is n =
        rw (parts.0, tokens_from, parts.1)
        (ap (λ (l : ℕ). with_token size rec start at (tokens_from boundary size rec n (start + l) (at + 4))) (sym parts.3))

    -- One more than there can be.
    from-full : tokens_from boundary size rec 0 start at ≡ untiled at
    unfolding tokens_from
    from-full = rw (parts.0, tokens_from)

  from-err : (n : ℕ) {why : Refusal} → Err why ≡ next_at boundary size rec start at → (why ≡ Malformed at) × (tokens_from boundary size rec n start at ≡ untiled at)
  unfolding tokens_from next_at
  from-err zero e =
      let p = err-parts word at (eqb (get_or rec at 0) 5) (is_token boundary size rec start at) e in
      (p.2, rw (p.0, tokens_from))
  from-err (suc n) e =
      let p = err-parts word at (eqb (get_or rec at 0) 5) (is_token boundary size rec start at) e in
      (p.2, rw (p.0, tokens_from, p.1))

  pub from_end : (n : ℕ) → Ok None ≡ next_at boundary size rec start at → tokens_from boundary size rec n start at ≡ end_tokens size rec start at
  unfolding tokens_from next_at
  from_end zero e = rw (none-parts word at (eqb (get_or rec at 0) 5) (is_token boundary size rec start at) e, tokens_from)
  from_end (suc n) e = rw (none-parts word at (eqb (get_or rec at 0) 5) (is_token boundary size rec start at) e, tokens_from)

-- ---- tokens in front of others
abbrev pub joined : Tokens → Tokens → Tokens
joined ts us = record { kinds = ts.kinds ++ us.kinds; starts = ts.starts ++ us.starts; lengths = ts.lengths ++ us.lengths }

abbrev prefix : Tokens → Tiling → Tiling
prefix ts (tiled us end) = tiled (joined ts us) end
prefix ts (untiled place) = untiled place

abbrev pub one : ℕ → ℕ → ℕ → Tokens
one kind start len = record { kinds = kind ∷ []; starts = start ∷ []; lengths = len ∷ [] }

prefix_one : (ts : Tokens) (size : ℕ) (rec : List ℕ) (start at : ℕ) (u : Tiling)
    → prefix ts (with_token size rec start at u) ≡ prefix (joined ts (one (get_or rec (at + 1) 0) start (u16 rec (at + 2)))) u
unfolding with_token
prefix_one ts size rec start at (tiled us end) = simp append_assoc
prefix_one ts size rec start at (untiled place) = refl

pub joined-none : (ts : Tokens) → joined ts no_tokens ≡ ts
joined-none ts = simp append-nil

prefix_nothing : (u : Tiling) → prefix no_tokens u ≡ u
prefix_nothing (tiled us end) = refl
prefix_nothing (untiled place) = refl

-- ---- some tokens: with what is still to come they are the definition's
pub record Filled (boundary : ℕ → Bool) (size : ℕ) (rec : List ℕ) (ts : Tokens) (start at : ℕ) : Type 0 where
  pub below : count_of ts ≤ 4096
  pub within : start ≤ size
  pub same : prefix ts (tokens_from boundary size rec (4096 - count_of ts) start at) ≡ tokens boundary size rec

pub filled_none : (boundary : ℕ → Bool) (size : ℕ) (rec : List ℕ) → Filled boundary size rec no_tokens 0 0
unfolding tokens
filled_none boundary size rec =
    record { below = omega arith; within = omega arith; same = prefix_nothing (tokens_from boundary size rec 4096 0 0) }

module _ {boundary : ℕ → Bool} {size : ℕ} {rec : List ℕ} {ts : Tokens} {start at : ℕ} (p : Filled boundary size rec ts start at) where
  module _ {next : Next} (e : Ok (Some next) ≡ next_at boundary size rec start at) where
    pub filled_more : count_of ts < 4096 → Filled boundary size rec (joined ts (one next.kind start next.len)) (start + next.len) (at + 4)
    filled_more h =
        let left : ℕ = 4096 - length (ts.starts ++ start ∷ []) in
        let counts : length (ts.starts ++ start ∷ []) ≡ count_of ts + 1 = length-append ts.starts (start ∷ []) in
        let still : 4096 - count_of ts ≡ suc left = omega arith in
        let rest : Tiling = tokens_from boundary size rec left (start + next.len) (at + 4) in
        let is = parts boundary size rec start at e in
        record {
          below = omega arith;
          within = is_within boundary size rec start at e;
          same = ap (λ (k : ℕ). prefix (joined ts (one k start next.len)) rest) is.2
              ∙ ap (λ (l : ℕ). prefix (joined ts (one (get_or rec (at + 1) 0) start l)) rest) is.3
              ∙ sym (prefix_one ts size rec start at rest)
              ∙ ap (prefix ts) (sym (from_is boundary size rec start at e left))
              ∙ ap (λ (n : ℕ). prefix ts (tokens_from boundary size rec n start at)) (sym still)
              ∙ p.same;
        }

    -- One more than there can be.
    pub filled_full : count_of ts ≡ 4096 → Tiles boundary size rec ts (Err (Malformed at))
    filled_full h =
        let none : 0 ≡ 4096 - count_of ts = omega arith in
        record {
          is = (
            at,
            refl,
            sym p.same ∙ ap (λ (n : ℕ). prefix ts (tokens_from boundary size rec n start at)) (sym none) ∙ ap (prefix ts) (from-full boundary size rec start at e),
          );
        }

  pub filled_err : {why : Refusal} → Err why ≡ next_at boundary size rec start at → Tiles boundary size rec ts (Err why)
  filled_err e =
      let q = from-err boundary size rec start at (4096 - count_of ts) e in
      record { is = (at, q.0, sym p.same ∙ ap (prefix ts) q.1) }

  module _ (e : Ok None ≡ next_at boundary size rec start at) where
    ends : tokens boundary size rec ≡ prefix ts (end_tokens size rec start at)
    ends = sym p.same ∙ ap (prefix ts) (from_end boundary size rec start at (4096 - count_of ts) e)

    pub filled_end : start ≡ size → Tiles boundary size rec ts (Ok at)
    unfolding end_tokens
    filled_end s = record { is = ends ∙ rw (eq-eqb start size s, end_tokens) (ap (λ (us : Tokens). tiled us at) (joined-none ts)) }

    pub filled_short : (start ≡ size → ⊥) → Tiles boundary size rec ts (Err (Malformed at))
    unfolding end_tokens
    filled_short s = record { is = (at, refl, ends ∙ rw (ne_eqb start size s, end_tokens)) }
