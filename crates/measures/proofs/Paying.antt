-- What each layout pays, on any bytes: from its parts.
use native.Mathlib.Omega.{arith}
use mathlib.Core.Path.{◌≡◌, refl}
use mathlib.Core.List.{List, [], ◌∷◌}
use mathlib.Core.Bool.{Bool, true, false}
use Rattle.std.specs.Prelude.{Option, None, Some}
use Prim.Native.Nat.{ℕ, zero, suc, ◌+◌, ◌-◌, ◌*◌, ◌≤◌, max, min}
use Prim.Native.String.{String}
use lib.ListN.{length, get_or, drop, length-take, length-drop}
use lib.Dec.{leb}
use borrow.Author.Tests.{leb-true}
use Rattle.text.specs.Bytes.{bytes}
use Rattle.text.proofs.Laws.{length-trim}
use Rattle.reader.specs.Fields.{Family, DecOne, Exp}
use Rattle.reader.specs.Tokens.{text_of}
use Rattle.reader.specs.Commands.{absent_at, list_at, group_at, choice_at, form_at, form_width, first_token}
use Rattle.reader.proofs.CommandLaws.{token-fits, list-fits, choice-fits, absent-fits, group-fits, form-fits}
use Rattle.reader.proofs.FieldLaws.{token-parts, fits-parts}
use Rattle.reader.specs.Check.{token_fits, form_fits}
use Rattle.layout.specs.Layout.{Layout, Look, Test, is_pipe, skip, ◌⨾◌, word, output_indent, formed, text, group, choice, form, list, maybe, present, look, first_name, application, operator, declaration, halt, import}
use Rattle.layout.specs.Meaning.{Page, Token, Comment, Outcome, done, stopped, absent, bind, commented, outcome, or_stop, operated, above_first, token_text, passes, name_passes, sees, Heads, both, missing, heads_at, func_is_bang, arg_is_symbolic}
use Rattle.layout.specs.Events.{sum_of, deepest, formed_depth, indent_depth, letters_of, trimmed}
use Rattle.layout.specs.Helpers.{when, times, items}
use Rattle.measures.proofs.Credit.{Within, then-within, earned, weaker}

-- With `a` credits in hand a walk pays for all it does, from every offset, and where it ends, `r` are left.
record Pays (p : Page) (a r : ℕ) (f : ℕ → Outcome) : Type 0 where
  from : (at : ℕ) → at ≤ length p.rec → Within p at (length p.rec) at a r (f at)

-- The walk of a layout.
pub record Paid (p : Page) (a r : ℕ) (w : Layout) : Type 0 where
  pub is : (at : ℕ) → at ≤ length p.rec → Within p at (length p.rec) at a r (outcome p w at)

-- As a walk.
walk : {p : Page} {a r : ℕ} {w : Layout} → Paid p a r w → Pays p a r (λ at. outcome p w at)
walk x = record { from = x.is }

-- Each layout of a row, by number.
pub record Rows (p : Page) (a r : ℕ) (ws : List Layout) : Type 0 where
  pub at : (k : ℕ) → Paid p a r (get_or ws k halt)

-- A sheet's text is short.
pub record Short (p : Page) : Type 0 where
  pub text : length p.text ≤ 32768

-- A token whose number is below the count stands whole.
token_whole : (rec : List ℕ) (count at k : ℕ) → token_fits rec count at ≡ Some k → at + 3 ≤ length rec
token_whole rec count at k e = token-fits rec at k (token-parts rec count at k e).0

abbrev end : Page → ℕ
end p = length p.rec

-- A fixed word and a token's text, whatever the limits.
module _ (p : Page) where
  pub word-within : (s : String) → leb (length (bytes s)) 512 ≡ true → (lo lim at : ℕ) → lo ≤ at → at ≤ lim → Within p lo lim at 1 0 (outcome p (word s) at)
  unfolding outcome sum_of deepest letters_of indent_depth formed_depth
  word-within s e lo lim at h i =
      let l = leb-true (length (bytes s)) 512 e in
      (h, i, omega (arith, l), omega arith)

  token-short : Short p → (k : ℕ) → length (token_text p k) ≤ 32768
  unfolding token_text text_of
  token-short short k =
      let s = get_or p.tokens.starts k 0 in
      let n = get_or p.tokens.lengths k 0 in
      let l = short.text in
      omega (arith, length-take n (drop s p.text), length-drop s p.text, l)

  pub token-within : Short p → (k lo lim at : ℕ) → lo ≤ at → at ≤ lim → Within p lo lim at 64 0 (done at (Token k ∷ []))
  unfolding sum_of deepest letters_of indent_depth formed_depth
  token-within short k lo lim at h i =
      let l = token-short short k in
      (h, i, omega (arith, l), omega arith)

  comment-pays : Short p → (k : ℕ) → Pays p 64 0 (λ at. done at (Comment k ∷ []))
  unfolding sum_of deepest letters_of indent_depth formed_depth trimmed
  comment-pays short k =
      let l = token-short short k in
      let t = length-trim (token_text p k) in
      record { from = λ at h. (omega arith, h, omega (arith, l, t), omega arith) }

  token-pays : Short p → (k : ℕ) → Pays p 64 0 (λ at. done at (Token k ∷ []))
  token-pays short k = record { from = λ at h. token-within short k at (end p) at (omega arith) h }

module _ {p : Page} where
  -- One walk after another; more in hand, less left.
  then-pays : {a r b s : ℕ} {f k : ℕ → Outcome} → Pays p a r f → Pays p b s k → Pays p (a + (b - r)) (s + (r - b)) (λ at. bind (f at) k)
  then-pays {a} {r} {b} {s} {f} {k} x y =
      record {
        from =
            λ at h. then-within p at (end p) at (end p) at a r b s (f at) k (omega arith) (x.from at h)
            (λ e i j. weaker p e at (end p) e b s b s (k e) i (omega arith) (omega arith) (y.from e j));
      }

  eased-pays : {a r a' r' : ℕ} {f : ℕ → Outcome} → a ≤ a' → a + r' ≤ a' + r → Pays p a r f → Pays p a' r' f
  eased-pays {a} {r} {a'} {r'} {f} i j x = record { from = λ at h. weaker p at at (end p) at a r a' r' (f at) (omega arith) i j (x.from at h) }

module _ {p : Page} where
  -- ---- more in hand, less left
  pub eased : {a r a' r' : ℕ} {w : Layout} → a ≤ a' → a + r' ≤ a' + r → Paid p a r w → Paid p a' r' w
  eased i j x = record { is = (eased-pays i j (walk x)).from }

  -- An arm has 16 credits.
  pub arm : {a r : ℕ} {w : Layout} → leb a 16 ≡ true → Paid p a r w → Paid p 16 0 w
  arm {a} {r} e x = let h = leb-true a 16 e in eased h (omega (arith, h)) x

  -- ---- what reads nothing
  pub skips : Paid p 0 0 skip
  unfolding outcome sum_of deepest
  skips = record { is = λ at h. (omega arith, h, omega arith, omega arith) }

  pub halts : {a r : ℕ} → Paid p a r halt
  unfolding outcome sum_of deepest
  halts = record { is = λ at h. (omega arith, omega arith) }

  pub imports : Paid p 0 0 import
  unfolding outcome sum_of deepest
  imports = record { is = λ at h. (omega arith, omega arith) }

  pub fixed : {s : String} → leb (length (bytes s)) 512 ≡ true → Paid p 1 0 (word s)
  fixed {s} e = record { is = λ at h. word-within p s e at (end p) at (omega arith) h }

  pub indents : {depth : ℕ} → depth ≤ 400 → Paid p 1 0 (output_indent depth)
  unfolding outcome sum_of deepest letters_of indent_depth formed_depth
  indents l = record { is = λ at h. (omega arith, h, omega arith, omega arith) }

  pub forms : {depth : ℕ} → depth ≤ 400 → Paid p 0 0 (formed depth)
  unfolding outcome sum_of deepest letters_of indent_depth formed_depth
  forms l = record { is = λ at h. (omega arith, h, omega arith, omega arith) }

  -- ---- one after another
  infixr 30 ◌then◌
  pub ◌then◌ : {a r b s : ℕ} {v w : Layout} → Paid p a r v → Paid p b s w → Paid p (a + (b - r)) (s + (r - b)) (v ⨾ w)
  unfolding outcome
  ◌then◌ x y = record { is = (then-pays (walk x) (walk y)).from }

  -- ---- commands
  -- What is read at the cursor, then the walk for it.
  module _ (width : ℕ) {a r : ℕ} (k : ℕ → ℕ → Outcome) (x : (n : ℕ) → Pays p a r (k n)) (at : ℕ) (h : at ≤ end p) where
    read-within : (o : Option ℕ) → ((n : ℕ) → o ≡ Some n → at + width ≤ end p)
        → Within p at (end p) at (a - 32 * width) (r + (32 * width - a)) (or_stop o at (λ n. k n (at + width)))
    unfolding or_stop sum_of deepest
    read-within (Some n) f = earned p (at + width) at (end p) at width a r (k n (at + width)) (omega arith) ((x n).from (at + width) (f n refl))
    read-within None f = (omega arith, omega arith)

  -- A token, then the walk for it.
  token-read : {a r : ℕ} (k : ℕ → ℕ → Outcome) → ((n : ℕ) → Pays p a r (k n)) → Pays p (a - 96) (r + (96 - a)) (λ at. or_stop (token_fits p.rec (length p.tokens.starts) at) at (λ n. k n (at + 3)))
  token-read k x = record { from = λ at h. read-within 3 k x at h (token_fits p.rec (length p.tokens.starts) at) (token_whole p.rec _ at) }

  pub texts : Short p → Paid p 0 32 text
  unfolding outcome
  texts short = record { is = (token-read (λ k at. done at (Token k ∷ [])) (token-pays p short)).from }

  module _ {a r : ℕ} {k : ℕ → Layout} (x : (n : ℕ) → Paid p a r (k n)) where
    pub choices : Paid p (a - 64) (r + (64 - a)) (choice k)
    unfolding outcome
    choices = record { is = λ at h. read-within 2 (λ n next. outcome p (k n) next) (λ n. walk (x n)) at h (choice_at p.rec at) (choice-fits p.rec at) }

    pub lists : Paid p (a - 96) (r + (96 - a)) (list k)
    unfolding outcome
    lists = record { is = λ at h. read-within 3 (λ n next. outcome p (k n) next) (λ n. walk (x n)) at h (list_at p.rec at) (list-fits p.rec at) }

    pub families : (family : Family) → Paid p (a - 32 * form_width family) (r + (32 * form_width family - a)) (form family k)
    unfolding outcome
    families family = record { is = λ at h. read-within (form_width family) (λ n next. outcome p (k n) next) (λ n. walk (x n)) at h (form_at p.rec family at) (form-fits p.rec at family) }

  -- The comment above a declaration and the line behind it.
  module _ (short : Short p) {c : ℕ} {line : Layout} (x : Paid p c 0 line) where
    commented-pays : (o : Option ℕ) → Pays p (64 + c) 0 (commented o (λ next. outcome p line next))
    unfolding commented sum_of deepest bind
    commented-pays (Some k) = eased-pays (omega arith) (omega arith) (then-pays (comment-pays p short k) (walk x))
    commented-pays None = record { from = λ at h. (omega arith, h, omega arith, omega arith) }

    pub declarations : {b s : ℕ} {arm : ℕ → Layout} → ((n : ℕ) → Paid p b s (arm n)) → Paid p (64 + c + b - 96) (s + (96 - (64 + c + b))) (declaration line arm)
    unfolding outcome form_width
    declarations {b} {s} {arm} y =
        record {
          is =
              λ at h. read-within 3 (λ n next. bind (commented (above_first p (first_token p.rec at)) (λ next. outcome p line next) next) (λ next. outcome p (arm n) next))
              (λ n. eased-pays (omega arith) (omega arith) (then-pays (commented-pays (above_first p (first_token p.rec at))) (walk (y n)))) at h
              (form_fits p.rec (length p.tokens.starts) DecOne at)
              (λ n e. form-fits p.rec at DecOne n (fits-parts p.rec (length p.tokens.starts) DecOne at n e).0);
        }

  module _ {a r : ℕ} {w : Layout} (x : Paid p a r w) where
    group-within : (at : ℕ) → at ≤ end p → (b : Bool) → group_at p.rec at ≡ b
        → Within p at (end p) at (a - 32) (r + (32 - a)) (elim b as (λ b. Outcome) [ true ↦ outcome p w (at + 1) | false ↦ stopped (absent at) [] ])
    unfolding sum_of deepest
    group-within at h true e = earned p (at + 1) at (end p) at 1 a r (outcome p w (at + 1)) (omega arith) (x.is (at + 1) (group-fits p.rec at e))
    group-within at h false e = (omega arith, omega arith)

    pub groups : Paid p (a - 32) (r + (32 - a)) (group w)
    unfolding outcome
    groups = record { is = λ at h. group-within at h (group_at p.rec at) refl }

    maybe-within : (at : ℕ) → at ≤ end p → (b : Bool) → absent_at p.rec at ≡ b
        → Within p at (end p) at a (min r (32 + a)) (elim b as (λ b. Outcome) [ true ↦ done (at + 1) [] | false ↦ outcome p w at ])
    unfolding sum_of deepest
    maybe-within at h true e = (omega arith, absent-fits p.rec at e, omega arith, omega arith)
    maybe-within at h false e = weaker p at at (end p) at a r a (min r (32 + a)) (outcome p w at) (omega arith) (omega arith) (omega arith) (x.is at h)

    pub maybes : Paid p a (min r (32 + a)) (maybe w)
    unfolding outcome
    maybes = record { is = λ at h. maybe-within at h (absent_at p.rec at) refl }

    pub whens : (b : Bool) → Paid p a 0 (when b w)
    unfolding when
    whens true = eased (omega arith) (omega arith) x
    whens false = eased (omega arith) (omega arith) skips

  module _ {a r b s : ℕ} {v w : Layout} (x : Paid p a r v) (y : Paid p b s w) where
    -- ---- a token's presence
    present-within : (at : ℕ) → at ≤ end p → (o : Option ℕ) → token_fits p.rec (length p.tokens.starts) at ≡ o → (c : Bool) → absent_at p.rec at ≡ c
        → Within p at (end p) at (max (a - 96) (b - 32)) (min (r + (96 - a)) (s + (32 - b)))
        (elim o as (λ o. Outcome) [
          | Some n ↦ outcome p v (at + 3)
          | None ↦ elim c as (λ c. Outcome) [ true ↦ outcome p w (at + 1) | false ↦ stopped (absent at) [] ]
        ])
    unfolding sum_of deepest
    present-within at h (Some n) e c f =
        weaker p at at (end p) at (a - 96) (r + (96 - a)) (max (a - 96) (b - 32)) (min (r + (96 - a)) (s + (32 - b))) (outcome p v (at + 3))
        (omega arith) (omega arith) (omega arith)
        (earned p (at + 3) at (end p) at 3 a r (outcome p v (at + 3)) (omega arith) (x.is (at + 3) (token_whole p.rec _ at n e)))
    present-within at h None e true f =
        weaker p at at (end p) at (b - 32) (s + (32 - b)) (max (a - 96) (b - 32)) (min (r + (96 - a)) (s + (32 - b))) (outcome p w (at + 1))
        (omega arith) (omega arith) (omega arith)
        (earned p (at + 1) at (end p) at 1 b s (outcome p w (at + 1)) (omega arith) (y.is (at + 1) (absent-fits p.rec at f)))
    present-within at h None e false f = (omega arith, omega arith)

    pub presents : Paid p (max (a - 96) (b - 32)) (min (r + (96 - a)) (s + (32 - b))) (present v w)
    unfolding outcome
    presents = record { is = λ at h. present-within at h (token_fits p.rec (length p.tokens.starts) at) refl (absent_at p.rec at) refl }

    -- ---- questions
    either : (at : ℕ) → at ≤ end p → (c : Bool) → Within p at (end p) at (max a b) (min r s) (elim c as (λ c. Outcome) [ true ↦ outcome p v at | false ↦ outcome p w at ])
    either at h true = weaker p at at (end p) at a r (max a b) (min r s) (outcome p v at) (omega arith) (omega arith) (omega arith) (x.is at h)
    either at h false = weaker p at at (end p) at b s (max a b) (min r s) (outcome p w at) (omega arith) (omega arith) (omega arith) (y.is at h)

    look-within : (at : ℕ) → at ≤ end p → (c : Bool) (o : Option ℕ)
        → Within p at (end p) at (max a b) (min r s) (or_stop o at (λ n. elim c as (λ c. Outcome) [ true ↦ outcome p v at | false ↦ outcome p w at ]))
    unfolding or_stop sum_of deepest
    look-within at h c (Some n) = either at h c
    look-within at h c None = (omega arith, omega arith)

    pub looks : {l : Look} → Paid p (max a b) (min r s) (look l v w)
    unfolding outcome
    looks {l} = record { is = λ at h. look-within at h (sees p l at) (form_at p.rec Exp at) }

    name-within : (at : ℕ) → at ≤ end p → (c d : Bool)
        → Within p at (end p) at (max a b) (min r s)
        (elim d as (λ d. Outcome) [ true ↦ elim c as (λ c. Outcome) [ true ↦ outcome p v at | false ↦ outcome p w at ] | false ↦ stopped (absent at) [] ])
    unfolding sum_of deepest
    name-within at h c true = either at h c
    name-within at h c false = (omega arith, omega arith)

    pub first_names : {t : Test} → Paid p (max a b) (min r s) (first_name t v w)
    unfolding outcome
    first_names {t} = record { is = λ at h. name-within at h (name_passes p t at) (group_at p.rec at) }

  module _ {a r : ℕ} {k : Bool → Bool → Layout} (x : (b c : Bool) → Paid p a r (k b c)) where
    heads-within : (at : ℕ) → at ≤ end p → (n : Heads)
        → Within p at (end p) at a r (elim n as (λ n. Outcome) [ both f g ↦ outcome p (k (func_is_bang p f) (arg_is_symbolic p g)) at | missing place ↦ stopped (absent place) [] ])
    unfolding sum_of deepest
    heads-within at h (both f g) = (x (func_is_bang p f) (arg_is_symbolic p g)).is at h
    heads-within at h (missing place) = (omega arith, omega arith)

    pub applications : Paid p a r (application k)
    unfolding outcome
    applications = record { is = λ at h. heads-within at h (heads_at p.rec (length p.tokens.starts) at) }

  -- ---- an operator, with gaps of a word
  module _ (short : Short p) {a r b : ℕ} {lhs pipe gap : Layout} (x : Paid p a r lhs) (y : Paid p b 0 pipe) (z : Paid p 1 0 gap) where
    operated-pays : (k : ℕ) → Pays p (max b 66) 0 (operated p k (λ next. outcome p pipe next) (λ next. outcome p gap next))
    unfolding operated bind
    operated-pays k = record { from = λ at h. go at h (passes p is_pipe k) }
      where
        spelt : Pays p 66 0 (λ at. bind (outcome p gap at) (λ next. bind (done next (Token k ∷ [])) (λ next. outcome p gap next)))
        spelt = then-pays (walk z) (then-pays (token-pays p short k) (walk z))

        go : (at : ℕ) → at ≤ end p → (c : Bool)
            → Within p at (end p) at (max b 66) 0
            (elim c as (λ c. Outcome) [ true ↦ outcome p pipe at | false ↦ bind (outcome p gap at) (λ next. bind (done next (Token k ∷ [])) (λ next. outcome p gap next)) ])
        go at h true = (eased-pays {a' = max b 66} {r' = 0} (omega arith) (omega arith) (walk y)).from at h
        go at h false = (eased-pays {a' = max b 66} {r' = 0} (omega arith) (omega arith) spelt).from at h

    pub operators : Paid p (a + (max b 66 - r) - 96) (0 + (r - max b 66) + (96 - (a + (max b 66 - r)))) (operator lhs pipe gap)
    unfolding outcome
    operators =
        record {
          is =
              (token-read (λ k at. bind (outcome p lhs at) (operated p k (λ next. outcome p pipe next) (λ next. outcome p gap next)))
              (λ k. then-pays (walk x) (operated-pays k))).from;
        }

  -- ---- items
  module _ {b s : ℕ} {more : Layout} (l : b ≤ s) (y : Paid p b s more) where
    pub repeats : (n : ℕ) → Paid p b b (times n more)
    unfolding times
    repeats zero = eased (omega arith) (omega arith) skips
    repeats (suc n) = eased (omega arith) (omega arith) (y then repeats n)

    pub itemed : {a r : ℕ} {first : Layout} → Paid p a r first → (n : ℕ) → Paid p (a + (b - r)) 0 (items n first more)
    unfolding items
    itemed x zero = eased (omega arith) (omega arith) skips
    itemed x (suc n) = eased (omega arith) (omega arith) (x then repeats n)

  -- ---- a row of arms, by number
  row_at : {a r : ℕ} {w : Layout} {ws : List Layout} → Paid p a r w → Rows p a r ws → (k : ℕ) → Paid p a r (get_or (w ∷ ws) k halt)
  row_at x y zero = x
  row_at x y (suc k) = y.at k

  infixr 5 ◌▹◌
  pub ◌▹◌ : {a r : ℕ} {w : Layout} {ws : List Layout} → Paid p a r w → Rows p a r ws → Rows p a r (w ∷ ws)
  x ▹ y = record { at = row_at x y }

  pub no_more : {a r : ℕ} → Rows p a r []
  no_more = record { at = λ k. halts }
