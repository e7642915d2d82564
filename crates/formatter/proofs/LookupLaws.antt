-- Laws of the lookups: from what the record check says to what a lookup gives. Assumes nothing.
use Prim.Native.Nat.{ℕ, ◌≤◌, ◌<◌}
use mathlib.Core.Path.{◌≡◌, refl, ◌∙◌, ap, ap₂}
use mathlib.Core.Bool.{Bool, true, false}
use mathlib.Core.List.{List}
use Rattle.std.proofs.lemmas.Option.{none-some, same_Some}
use Rattle.std.specs.Prelude.{Option, None, Some, Ok, Err}
use lib.Dec.{ltb}
use lib.ListN.{length, get_or}
use borrow.Author.Tests.{lt-ltb, le-ltb}
use Rattle.reader.specs.declared.Refusal.{Refusal}
use Rattle.reader.specs.Tokens.{Tokens}
use Rattle.reader.specs.Reading.{Read, refused, sheet, read}
use Rattle.reader.specs.Promises.Reading.{Reads}
use Rattle.reader.proofs.KindLaws.{kinds_known}
use Rattle.text.proofs.Laws.{never}
use Rattle.comments.specs.Above.{Found, found_above, Reaches}
use Rattle.comments.proofs.Search.{found-reaches}
use Rattle.formatter.specs.declared.LookupError.{LookupError}
use Rattle.formatter.specs.declared.LookupError.TheVariants.{Refused, NoToken}
use Rattle.formatter.specs.Lookup.{Looked, Asked, looked, declined, asked, ask, lookup, told, looked_of}
use Rattle.formatter.specs.Promises.Lookup.{Asks}

module _ {text rec : List ℕ} {token : ℕ} {ts : Tokens} where
  -- ---- 1 to 4, then 9
  pub ask-tokens : {tree : ℕ} → Reads text rec ts (Ok tree) → token < length ts.kinds → Asks text rec token ts (Ok tt)
  unfolding ask
  ask-tokens s h = record { is = rw (ask, ← s.is, lt-ltb token (length ts.kinds) h) refl }

  pub ask-past : {tree : ℕ} → Reads text rec ts (Ok tree) → length ts.kinds ≤ token → Asks text rec token ts (Err NoToken)
  unfolding ask
  ask-past s h = record { is = rw (ask, ← s.is, le-ltb token (length ts.kinds) h) refl }

  pub ask-refused : {why : Refusal} → Reads text rec ts (Err why) → Asks text rec token ts (Err (Refused why))
  unfolding ask
  ask-refused s = record { is = rw (ask, ← s.is) refl }

  -- ---- the comment above a token
  pub lookup-declined : {why : LookupError} → Asks text rec token ts (Err why) → looked_of (Err why) ≡ lookup text rec token
  unfolding lookup
  lookup-declined s = rw (lookup, ← s.is) refl

  pub lookup-told : {found : Option Found} → Asks text rec token ts (Ok tt) → found ≡ found_above ts.kinds token → looked_of (Ok found) ≡ lookup text rec token
  unfolding lookup
  lookup-told s e = rw (lookup, ← s.is, e) refl

-- ---- the keyword that is told
-- The kinds of the tokens over which a lookup goes.
asked_kinds : (text rec : List ℕ) (token : ℕ) (ts : Tokens) → ask text rec token ≡ asked ts → (k : ℕ) → get_or ts.kinds k 0 ≤ 20
unfolding ask
asked_kinds text rec token ts e = go (read text rec) refl e
  where
    within : (us : Tokens) (tree : ℕ) (b : Bool) → read text rec ≡ sheet us tree → elim b as (λ z. Asked) [ true ↦ asked us | false ↦ declined (looked 9 0 None) ] ≡ asked ts → (k : ℕ) → get_or ts.kinds k 0 ≤ 20
    within us tree true f g = let h : us ≡ ts = cc in kinds_known text rec ts tree (f ∙ ap (λ (x : Tokens). sheet x tree) h)
    within us tree false f g = never (cc)

    go : (r : Read) → read text rec ≡ r
        → elim r as (λ z. Asked) [ refused number place ↦ declined (looked number place None) | sheet us tree ↦ elim (ltb token (length us.kinds)) as (λ z. Asked) [ true ↦ asked us | false ↦ declined (looked 9 0 None) ] ] ≡ asked ts
        → (k : ℕ) → get_or ts.kinds k 0 ≤ 20
    go (refused number place) f g = never (cc)
    go (sheet us tree) f g = within us tree (ltb token (length us.kinds)) f g

told-found : (o : Option Found) (f : Found) → told o ≡ told (Some f) → o ≡ Some f
unfolding told
told-found None f e = absurd (none-some f.comment (ap (λ (l : Looked). l.answer) e))
told-found (Some g) f e =
    ap₂ (λ (c : ℕ) (k : Option ℕ). Some (record { comment = c; keyword = k }))
    (same_Some g.comment f.comment (ap (λ (l : Looked). l.answer) e)) (ap (λ (l : Looked). l.keyword) e)

-- A keyword that is told is of kinds 2 to 20, behind the comment and not behind the token that is looked up; every other token between these two
-- is of kind 0.
pub lookup-reaches : (text rec : List ℕ) (token : ℕ) (ts : Tokens) → ask text rec token ≡ asked ts → (f : Found) → lookup text rec token ≡ told (Some f) → Reaches ts.kinds token f
unfolding lookup
lookup-reaches text rec token ts e f g =
    let h : told (found_above ts.kinds token) ≡ told (Some f) = rw (e, lookup) at g in
    found-reaches ts.kinds token f (asked_kinds text rec token ts e) (told-found (found_above ts.kinds token) f h)
