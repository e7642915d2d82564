-- The walk's measures are small, on any bytes of a text and a record that are not too long.
use native.Mathlib.Omega.{arith}
use mathlib.Core.Path.{◌≡◌, refl, sym, subst}
use mathlib.Core.List.{List, [], ◌∷◌}
use mathlib.Core.Bool.{Bool, true, false, ◌&&◌}
use Rattle.std.specs.Prelude.{Option, None, Some}
use Prim.Native.Nat.{ℕ, zero, suc, ◌+◌, ◌-◌, ◌*◌, ◌≤◌, ◌<◌}
use lib.ListN.{length}
use lib.Dec.{leb}
use borrow.Author.Tests.{leb-true, leb-false}
use Rattle.text.specs.Bytes.{bytes}
use Rattle.text.proofs.Laws.{never}
use Rattle.reader.specs.Fields as Fields
use Rattle.reader.specs.Fields.{Ty, Pat, Exp, StrExp, SigExp}
use Rattle.reader.specs.Commands.{list_at, form_width}
use Rattle.reader.specs.Tokens.{Tokens}
use Rattle.reader.specs.Reading.{refused, sheet, read}
use Rattle.reader.proofs.CommandLaws.{and_left, and_right, list-fits}
use Rattle.layout.specs.Layout.{Layout, list}
use Rattle.layout.specs.Meaning.{Page, Event, Outcome, done, stopped, outcome, or_stop}
use Rattle.layout.specs.Events.{sum_of, deepest, units, letters}
use Rattle.layout.specs.Helpers.{Cfg, sep_with_lines}
use Rattle.layout.specs.GetDec.{get_dec}
use Rattle.layout.specs.DecOne.{comment_line}
use Rattle.layout.specs.Walk.{walks, top, walk}
use Rattle.layout.proofs.Exact.{cap}
use Rattle.measures.specs.Small.{events_of, Small}
use Rattle.measures.proofs.Credit.{size, Within}
use Rattle.measures.proofs.Paying.{Paid, Short, eased, halts, fixed, ◌then◌, families, declarations}
use Rattle.measures.proofs.Following as Following
use Rattle.measures.proofs.Following.{Follows, drops-paid}
use Rattle.measures.proofs.Arms.{Walks}
use Rattle.measures.proofs.Sequences.{get-decs}
use Rattle.measures.proofs.Helpers.{at-depth}
use Rattle.measures.proofs.Rows.{ty-arms, pat-arms, exp-arms, sig-arms, str-arms, dec-arms}
use Rattle.measures.proofs.TypesFollow.{ty-pairs}

-- Behind the comment above a declaration.
comment_lines : {p : Page} (c : Cfg) → c.depth ≤ 400 → Paid p 2 0 (comment_line c)
unfolding comment_line bytes
comment_lines c h = fixed refl then at-depth c h

-- ---- the knot: a form adds at most 2 to the depth
module _ {p : Page} (short : Short p) where
  ty-follows : (n : ℕ) (may : Bool) (d : ℕ) → Follows p d may (Fields.form Ty) 0 12 (walks n).get_ty
  unfolding walks
  ty-follows zero may d = Following.halts
  ty-follows (suc n) may d =
      Following.eased (omega arith) (omega arith) (Following.families (λ d k. (ty-pairs short (walks n) (ty-follows n) d).at k) d)

  walks-paid : (n : ℕ) → n ≤ 200 → Walks p (400 - 2 * n) (walks n)
  unfolding walks form_width
  walks-paid zero h =
      record {
        ty = halts;
        dropped-ty = drops-paid (ty-follows zero true) halts;
        pat = halts;
        exp = λ c l. halts;
        str_exp = λ c l. halts;
        sig_exp = λ c l. halts;
        dec_one = λ c l. halts;
      }
  walks-paid (suc n) h =
      let go = walks-paid n (omega arith) in
      let low : 400 - 2 * n ≤ 400 = omega arith in
      let ty : Paid p 0 12 (walks (suc n)).get_ty = eased (omega arith) (omega arith) (families (λ k. (ty-arms short go low).at k) Ty) in
      record {
        ty = ty;
        dropped-ty = drops-paid (ty-follows (suc n) true) ty;
        pat = eased (omega arith) (omega arith) (families (λ k. (pat-arms short go low).at k) Pat);
        exp = λ c l. eased (omega arith) (omega arith) (families (λ k. (exp-arms short go low c (omega arith)).at k) Exp);
        str_exp = λ c l. eased (omega arith) (omega arith) (families (λ k. (str-arms short go low c (omega arith)).at k) StrExp);
        sig_exp = λ c l. eased (omega arith) (omega arith) (families (λ k. (sig-arms short go low c (omega arith)).at k) SigExp);
        dec_one = λ c l. eased (omega arith) (omega arith) (declarations short (comment_lines c (omega arith)) (λ k. (dec-arms short go low c (omega arith)).at k));
      }

  top-paid : Paid p 0 32 (get_dec (walks 200) top)
  unfolding top
  top-paid = get-decs short (walks-paid 200 (omega arith)) (omega arith) top (omega arith)

-- ---- the measures
size_is : (p : Page) (es : List Event) → size p es ≡ letters p es + units es
unfolding sum_of letters units
size_is p [] = omega arith
size_is p (e ∷ es) = let h = size_is p es in omega (arith, h)

within_small : (p : Page) (at r : ℕ) (o : Outcome) → length p.rec ≤ 65536 → Within p at (length p.rec) at 0 r o → Small p (events_of o)
within_small p at r (done end es) l w = let j = size_is p es in record { both = omega (arith, j, w.1, w.2); deep = w.3 }
within_small p at r (stopped why es) l w = let j = size_is p es in record { both = omega (arith, j, w.0); deep = w.1 }

-- Behind the record there is no list.
module _ (p : Page) (tree : ℕ) (h : length p.rec < tree) where
  no_list : (k : ℕ → Outcome) (o : Option ℕ) → list_at p.rec tree ≡ o → Small p (events_of (or_stop o tree k))
  unfolding or_stop letters units sum_of deepest
  no_list k (Some n) e = let l = list-fits p.rec tree n e in absurd (omega (arith, l))
  no_list k None e = record { both = omega arith; deep = omega arith }

  past-small : (w : Layout) (k : ℕ → Layout) → w ≡ list k → Small p (events_of (outcome p w tree))
  unfolding outcome
  past-small w k e =
      subst (λ (w : Layout). Small p (events_of (outcome p w tree))) (sym e) (no_list (λ n. outcome p (k n) (tree + 3)) (list_at p.rec tree) refl)

-- The walk from any offset of a record.
pub small : (p : Page) (tree : ℕ) → length p.text ≤ 32768 → length p.rec ≤ 65536 → Small p (events_of (walk p tree))
unfolding walk get_dec sep_with_lines
small p tree t l = go (leb tree (length p.rec)) refl
  where
    go : (b : Bool) → leb tree (length p.rec) ≡ b → Small p (events_of (outcome p (get_dec (walks 200) top) tree))
    go true e =
        within_small p tree 32 (outcome p (get_dec (walks 200) top) tree) l
        ((top-paid {p = p} (record { text = t })).is tree (leb-true tree (length p.rec) e))
    go false e = past-small p tree (leb-false tree (length p.rec) e) (get_dec (walks 200) top) _ refl

-- The walk that ends.
pub small-done : (p : Page) (tree : ℕ) → length p.text ≤ 32768 → length p.rec ≤ 65536 → {es : List Event} {end : ℕ} → walk p tree ≡ done end es → Small p es
small-done p tree t l e = subst (λ (o : Outcome). Small p (events_of o)) e (small p tree t l)

-- No measure meets the cap.
pub below_cap : {p : Page} {es : List Event} → Small p es → (letters p es < cap) × (units es < cap)
below_cap s = (omega (arith, s.both), omega (arith, s.both))

-- ---- a sheet that passes 1 to 4
pub sheet_lengths : (text rec : List ℕ) (tokens : Tokens) (tree : ℕ) → read text rec ≡ sheet tokens tree → (length text ≤ 32768) × (length rec ≤ 65536)
unfolding read
sheet_lengths text rec tokens tree e = go (leb (length text) 32768 && leb (length rec) 65536) refl
  where
    go : (b : Bool) → (leb (length text) 32768 && leb (length rec) 65536) ≡ b → (length text ≤ 32768) × (length rec ≤ 65536)
    go true t = (leb-true _ _ (and_left _ (leb (length rec) 65536) t), leb-true _ _ (and_right (leb (length text) 32768) _ t))
    go false t = let d : refused 1 0 ≡ sheet tokens tree = rw (t, read) at e in never (cc)

pub sheet_small : (text rec : List ℕ) (tokens : Tokens) (tree : ℕ) → read text rec ≡ sheet tokens tree
    → Small (record { text = text; rec = rec; tokens = tokens }) (events_of (walk (record { text = text; rec = rec; tokens = tokens }) tree))
sheet_small text rec tokens tree e =
    let h = sheet_lengths text rec tokens tree e in
    small (record { text = text; rec = rec; tokens = tokens }) tree h.0 h.1
