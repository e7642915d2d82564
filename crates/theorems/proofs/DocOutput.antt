-- What demand 1 says of the output of a doc lookup, for every text, record, token number and output.
use Prim.Native.Nat.{ℕ}
use mathlib.Core.Path.{◌≡◌, refl}
use mathlib.Core.Bool.{Bool, true, false}
use Rattle.std.specs.Prelude.{Option, None, Some}
use mathlib.Core.List.{List, ◌++◌}
use lib.ListN.{length, drop}
use lib.Dec.{leb}
use Rattle.text.proofs.Laws.{never}
use Rattle.reader.specs.Tokens.{text_of}
use Rattle.comments.specs.Above.{comment_above}
use Rattle.formatter.specs.Lookup.{looked, Asked, declined, asked, ask}
use Rattle.doc_comment.specs.Doc.{Doc, doc_text, put, doc_of, doc_lookup}

-- A lookup that gives no length leaves the output as it was, and so does one that is declined.
abbrev Leaves : List ℕ → Doc → Type 0
Leaves out d = (d.answer.answer ≡ None → d.out ≡ out) × ((d.answer.number ≡ 0 → ⊥) → d.out ≡ out)

put-leaves : (text out : List ℕ) → Leaves out (put text out)
unfolding put
put-leaves text out = go (leb (length text) (length out))
  where
    go : (b : Bool)
        → Leaves out (elim b as (λ b. Doc) [
          | true ↦ record { answer = looked 0 0 (Some (length text)); out = text ++ drop (length text) out }
          | false ↦ record { answer = looked 8 0 None; out = out }
        ])
    go true = (λ e. never (cc), λ ne. absurd (ne refl))
    go false = (λ e. refl, λ ne. refl)

doc-leaves : (comment out : List ℕ) → Leaves out (doc_of comment out)
unfolding doc_of
doc-leaves comment out = go (doc_text comment)
  where
    go : (o : Option (List ℕ)) → Leaves out (elim o as (λ o. Doc) [ None ↦ record { answer = looked 0 0 None; out = out } | Some found ↦ put found out ])
    go None = (λ e. refl, λ ne. refl)
    go (Some found) = put-leaves found out

module _ (text rec : List ℕ) (token : ℕ) (out : List ℕ) where
  lookup-leaves : Leaves out (doc_lookup text rec token out)
  unfolding doc_lookup
  lookup-leaves = go (ask text rec token) refl
    where
      go : (a : Asked) → ask text rec token ≡ a → Leaves out (doc_lookup text rec token out)
      go (declined l) e = rw (e, doc_lookup) (λ h. refl, λ ne. refl)
      go (asked tokens) e = rw (e, doc_lookup) (above (comment_above tokens.kinds token))
        where
          above : (o : Option ℕ) → Leaves out (elim o as (λ o. Doc) [ None ↦ record { answer = looked 0 0 None; out = out } | Some k ↦ doc_of (text_of text tokens k) out ])
          above None = (λ e. refl, λ ne. refl)
          above (Some k) = doc-leaves (text_of text tokens k) out

  -- "touches the output only when it accepts" (demand 1)
  pub output-untouched : ((doc_lookup text rec token out).answer.number ≡ 0 → ⊥) → (doc_lookup text rec token out).out ≡ out
  output-untouched ne = lookup-leaves.1 ne

  -- Finding none, too.
  pub none-untouched : (doc_lookup text rec token out).answer.answer ≡ None → (doc_lookup text rec token out).out ≡ out
  none-untouched e = lookup-leaves.0 e
